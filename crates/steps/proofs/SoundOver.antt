-- Every candidate that is not blocked is a step, if that is so of the calls: over any relation that has the rules of Table 4.1 but [Con], in the
-- working presentation, and any candidates of the calls. Assumes nothing.
use mathlib.Core.Bool.{Bool, true, false, cond}
use mathlib.Core.List.{List, [], ◌∷◌, ◌++◌, map}
use mathlib.Core.Path.{◌≡◌, refl}
use Prim.Native.Nat.{ℕ, zero, suc}
use Rattle.calculus.specs.Abstraction.{Act, tau_a, inp_a, out_a, bout_a, weak}
use Rattle.calculus.specs.Term.{Term, nil, tau, inp, out, bout, mat, sum, par, res, call, ren, inst}
use Rattle.calculus.specs.Cond.{Cond, map_p}
use Rattle.calculus.proofs.Conditions.{◌~◌}
use Rattle.calculus.proofs.Working.{ren_a, cross}
use Rattle.steps.specs.Raw.{Candidate, step, blocked, matching, left_steps, right_steps, meet, communication, communications, restricted_alone, outside, restricted_action, restricted, visible_of, silent_of}
use Rattle.calculus.specs.Lists.{All}
use Rattle.calculus.proofs.Membership.{all-++, all_imp, all_map}
use Rattle.steps.proofs.Restriction.{spared_alone, outside-~}
use Rattle.steps.proofs.Calls.{EachCall}

pub record Rules (D : Term → Cond → Act → Term → Type 0) : Type 0 where
  pub pre_tau : {P : Term} → D (tau P) [] tau_a P
  pub pre_inp : {a : ℕ} {P : Term} → D (inp a P) [] (inp_a a) P
  pub pre_out : {a b : ℕ} {P : Term} → D (out a b P) [] (out_a a b) P
  pub pre_bout : {a : ℕ} {P : Term} → D (bout a P) [] (bout_a a) P
  pub match : {a b : ℕ} {P : Term} {M : Cond} {α : Act} {P' : Term} → D P M α P' → D (mat a b P) ((a, b) ∷ M) α P'
  pub sum_l : {P Q : Term} {M : Cond} {α : Act} {P' : Term} → D P M α P' → D (sum P Q) M α P'
  pub sum_r : {P Q : Term} {M : Cond} {α : Act} {Q' : Term} → D Q M α Q' → D (sum P Q) M α Q'
  pub par_l : {P Q : Term} {M : Cond} {α : Act} {P' : Term} → D P M α P' → D (par P Q) M α (par P' (weak α Q))
  pub par_r : {P Q : Term} {M : Cond} {α : Act} {Q' : Term} → D Q M α Q' → D (par P Q) M α (par (weak α P) Q')
  pub com_l : {P Q : Term} {M N : Cond} {a b y : ℕ} {P' Q' : Term} → D P M (out_a a y) P' → D Q N (inp_a b) Q'
      → D (par P Q) ((a, b) ∷ (M ++ N)) tau_a (par P' (ren (inst y) Q'))
  pub com_r : {P Q : Term} {M N : Cond} {a b y : ℕ} {P' Q' : Term} → D P M (inp_a a) P' → D Q N (out_a b y) Q'
      → D (par P Q) ((a, b) ∷ (M ++ N)) tau_a (par (ren (inst y) P') Q')
  pub close_l : {P Q : Term} {M N : Cond} {a b : ℕ} {P' Q' : Term} → D P M (bout_a a) P' → D Q N (inp_a b) Q'
      → D (par P Q) ((a, b) ∷ (M ++ N)) tau_a (res (par P' Q'))
  pub close_r : {P Q : Term} {M N : Cond} {a b : ℕ} {P' Q' : Term} → D P M (inp_a a) P' → D Q N (bout_a b) Q'
      → D (par P Q) ((a, b) ∷ (M ++ N)) tau_a (res (par P' Q'))
  pub restrict : {P : Term} {M M₀ : Cond} (α : Act) {P' : Term} → D P M (ren_a suc α) P' → M ~ map_p suc M₀ → D (res P) M₀ α (res (cross α P'))
  pub extrude : {P : Term} {M M₀ : Cond} {a : ℕ} {P' : Term} → D P M (out_a (suc a) 0) P' → M ~ map_p suc M₀ → D (res P) M₀ (bout_a a) P'

-- a candidate that is blocked, or a step
abbrev pub SoundBy : (Term → Cond → Act → Term → Type 0) → Term → Candidate → Type 0
SoundBy D P (step M α P') = D P M α P'
SoundBy D P blocked = Unit

module _ (D : Term → Cond → Act → Term → Type 0) (rules : Rules D) where
  abbrev Sound : Term → Candidate → Type 0
  Sound = SoundBy D

  sound_match : (a b : ℕ) (P : Term) (c : Candidate) → Sound P c → Sound (mat a b P) (matching a b c)
  unfolding matching
  sound_match a b P (step M α P') t = rules.match t
  sound_match a b P blocked t = tt

  sound_sum_l : (P Q : Term) (c : Candidate) → Sound P c → Sound (sum P Q) c
  sound_sum_l P Q (step M α P') t = rules.sum_l t
  sound_sum_l P Q blocked t = tt

  sound_sum_r : (P Q : Term) (c : Candidate) → Sound Q c → Sound (sum P Q) c
  sound_sum_r P Q (step M α P') t = rules.sum_r t
  sound_sum_r P Q blocked t = tt

  sound_par_l : (P Q : Term) (c : Candidate) → Sound P c → Sound (par P Q) (left_steps Q c)
  unfolding left_steps
  sound_par_l P Q (step M α P') t = rules.par_l t
  sound_par_l P Q blocked t = tt

  sound_par_r : (P Q : Term) (c : Candidate) → Sound Q c → Sound (par P Q) (right_steps P c)
  unfolding right_steps
  sound_par_r P Q (step M α P') t = rules.par_r t
  sound_par_r P Q blocked t = tt

  sound_meet : (P Q : Term) (M : Cond) (α : Act) (P' : Term) (N : Cond) (β : Act) (Q' : Term) → D P M α P' → D Q N β Q'
      → Sound (par P Q) (meet M α P' N β Q')
  unfolding meet
  sound_meet P Q M (out_a a y) P' N (inp_a b) Q' t u = rules.com_l t u
  sound_meet P Q M (inp_a a) P' N (out_a b y) Q' t u = rules.com_r t u
  sound_meet P Q M (bout_a a) P' N (inp_a b) Q' t u = rules.close_l t u
  sound_meet P Q M (inp_a a) P' N (bout_a b) Q' t u = rules.close_r t u
  sound_meet P Q M (inp_a a) P' N tau_a Q' t u = tt
  sound_meet P Q M (inp_a a) P' N (inp_a b) Q' t u = tt
  sound_meet P Q M (out_a a y) P' N tau_a Q' t u = tt
  sound_meet P Q M (out_a a y) P' N (out_a b z) Q' t u = tt
  sound_meet P Q M (out_a a y) P' N (bout_a b) Q' t u = tt
  sound_meet P Q M (bout_a a) P' N tau_a Q' t u = tt
  sound_meet P Q M (bout_a a) P' N (out_a b z) Q' t u = tt
  sound_meet P Q M (bout_a a) P' N (bout_a b) Q' t u = tt
  sound_meet P Q M tau_a P' N β Q' t u = tt

  sound_communication : (P Q : Term) (s : Candidate) → Sound P s → (t : Candidate) → Sound Q t → Sound (par P Q) (communication s t)
  unfolding communication
  sound_communication P Q (step M α P') t (step N β Q') u = sound_meet P Q M α P' N β Q' t u
  sound_communication P Q (step M α P') t blocked u = tt
  sound_communication P Q blocked t c u = tt

  sound_communications : (P Q : Term) (ss ts : List Candidate) → All (Sound P) ss → All (Sound Q) ts
      → All (Sound (par P Q)) (communications ss ts)
  unfolding communications
  sound_communications P Q [] ts a b = tt
  sound_communications P Q (s ∷ ss) ts a b =
      all-++ (Sound (par P Q)) (map (communication s) ts) (communications ss ts)
      (all_map (communication s) (Sound Q) (Sound (par P Q)) ts (sound_communication P Q s a.0) b)
      (sound_communications P Q ss ts a.1 b)

  sound_restricted_action : (P : Term) (M M₀ : Cond) (α : Act) (P' : Term) → D P M α P' → M ~ map_p suc M₀
      → Sound (res P) (restricted_action M₀ α P')
  unfolding restricted_action
  sound_restricted_action P M M₀ tau_a P' t s = rules.restrict tau_a t s
  sound_restricted_action P M M₀ (inp_a zero) P' t s = tt
  sound_restricted_action P M M₀ (inp_a (suc a)) P' t s = rules.restrict (inp_a a) t s
  sound_restricted_action P M M₀ (out_a zero b) P' t s = tt
  sound_restricted_action P M M₀ (out_a (suc a) zero) P' t s = rules.extrude t s
  sound_restricted_action P M M₀ (out_a (suc a) (suc b)) P' t s = rules.restrict (out_a a b) t s
  sound_restricted_action P M M₀ (bout_a zero) P' t s = tt
  sound_restricted_action P M M₀ (bout_a (suc a)) P' t s = rules.restrict (bout_a a) t s

  sound_restricted : (P : Term) (c : Candidate) → Sound P c → Sound (res P) (restricted c)
  unfolding restricted
  sound_restricted P (step M α P') t = go (restricted_alone M) refl
    where
      go : (b : Bool) → restricted_alone M ≡ b → Sound (res P) (cond b (restricted_action (map_p outside M) α P') blocked)
      go true e = sound_restricted_action P M (map_p outside M) α P' t (outside-~ M (spared_alone M e))
      go false e = tt
  sound_restricted P blocked t = tt

  -- the two sides of a choice or a parallel: rules for each and the candidates of both
  either : (R : Candidate → Type 0) (P Q : Term) (f g : Candidate → Candidate) (ss ts : List Candidate)
      → ((c : Candidate) → Sound P c → R (f c)) → ((c : Candidate) → Sound Q c → R (g c)) → All (Sound P) ss → All (Sound Q) ts
      → All R (map f ss ++ map g ts)
  either R P Q f g ss ts h k a b =
      all-++ R (map f ss) (map g ts) (all_map f (Sound P) R ss h a) (all_map g (Sound Q) R ts k b)

  module _ (C : ℕ → List ℕ → Type 0) (vs : ℕ → List ℕ → List Candidate) (v : (k : ℕ) (xs : List ℕ) → C k xs → All (Sound (call k xs)) (vs k xs)) where
    pub visible_of_sound : (P : Term) → EachCall C P → All (Sound P) (visible_of vs P)
    unfolding visible_of
    visible_of_sound nil c = tt
    visible_of_sound (tau P) c = tt
    visible_of_sound (inp a P) c = (rules.pre_inp, tt)
    visible_of_sound (out a b P) c = (rules.pre_out, tt)
    visible_of_sound (bout a P) c = (rules.pre_bout, tt)
    visible_of_sound (mat a b P) c =
        all_map (matching a b) (Sound P) (Sound (mat a b P)) (visible_of vs P) (sound_match a b P) (visible_of_sound P c)
    visible_of_sound (sum P Q) c =
        all-++ (Sound (sum P Q)) (visible_of vs P) (visible_of vs Q)
        (all_imp (Sound P) (Sound (sum P Q)) (visible_of vs P) (sound_sum_l P Q) (visible_of_sound P c.0))
        (all_imp (Sound Q) (Sound (sum P Q)) (visible_of vs Q) (sound_sum_r P Q) (visible_of_sound Q c.1))
    visible_of_sound (par P Q) c =
        either (Sound (par P Q)) P Q (left_steps Q) (right_steps P) (visible_of vs P) (visible_of vs Q)
        (sound_par_l P Q) (sound_par_r P Q) (visible_of_sound P c.0) (visible_of_sound Q c.1)
    visible_of_sound (res P) c =
        all_map restricted (Sound P) (Sound (res P)) (visible_of vs P) (sound_restricted P) (visible_of_sound P c)
    visible_of_sound (call k xs) c = v k xs c

    module _ (ss : ℕ → List ℕ → List Candidate) (s : (k : ℕ) (xs : List ℕ) → C k xs → All (Sound (call k xs)) (ss k xs)) where
      pub silent_of_sound : (P : Term) → EachCall C P → All (Sound P) (silent_of vs ss P)
      unfolding silent_of
      silent_of_sound nil c = tt
      silent_of_sound (tau P) c = (rules.pre_tau, tt)
      silent_of_sound (inp a P) c = tt
      silent_of_sound (out a b P) c = tt
      silent_of_sound (bout a P) c = tt
      silent_of_sound (mat a b P) c =
          all_map (matching a b) (Sound P) (Sound (mat a b P)) (silent_of vs ss P) (sound_match a b P) (silent_of_sound P c)
      silent_of_sound (sum P Q) c =
          all-++ (Sound (sum P Q)) (silent_of vs ss P) (silent_of vs ss Q)
          (all_imp (Sound P) (Sound (sum P Q)) (silent_of vs ss P) (sound_sum_l P Q) (silent_of_sound P c.0))
          (all_imp (Sound Q) (Sound (sum P Q)) (silent_of vs ss Q) (sound_sum_r P Q) (silent_of_sound Q c.1))
      silent_of_sound (par P Q) c =
          all-++ (Sound (par P Q)) (map (left_steps Q) (silent_of vs ss P))
          (map (right_steps P) (silent_of vs ss Q) ++ communications (visible_of vs P) (visible_of vs Q))
          (all_map (left_steps Q) (Sound P) (Sound (par P Q)) (silent_of vs ss P) (sound_par_l P Q) (silent_of_sound P c.0))
          (all-++ (Sound (par P Q)) (map (right_steps P) (silent_of vs ss Q)) (communications (visible_of vs P) (visible_of vs Q))
          (all_map (right_steps P) (Sound Q) (Sound (par P Q)) (silent_of vs ss Q) (sound_par_r P Q) (silent_of_sound Q c.1))
          (sound_communications P Q (visible_of vs P) (visible_of vs Q) (visible_of_sound P c.0) (visible_of_sound Q c.1)))
      silent_of_sound (res P) c =
          all_map restricted (Sound P) (Sound (res P)) (silent_of vs ss P) (sound_restricted P) (silent_of_sound P c)
      silent_of_sound (call k xs) c = s k xs c
