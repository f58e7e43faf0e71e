-- The candidates of a term whose calls have their places are its transitions, up to an equivalent condition. Assumes nothing.
use mathlib.Core.List.{List, [], ◌∷◌, ◌++◌, map}
use mathlib.Core.Logic.{inl, inr}
use mathlib.Core.Path.{◌≡◌, refl, sym, ap, subst}
use Prim.Native.Nat.{ℕ, suc}
use lib.ListN.{length}
use Rattle.calculus.specs.Abstraction.{Act, tau_a, out_a, bout_a}
use Rattle.calculus.specs.Cond.{Cond, map_p}
use Rattle.calculus.specs.Definitions.{Defs, opened}
use Rattle.calculus.specs.Term.{Term, mat, par, res, call}
use Rattle.calculus.proofs.Conditions.{◌~◌, ~_refl, ~_trans}
use Rattle.calculus.proofs.PublishedSteps.{cons-~, ++-~}
use Rattle.calculus.proofs.Working.{ren_a, cross, Trans, t_tau, t_inp, t_out, t_bout, t_mat, t_sum_l, t_sum_r, t_par_l, t_par_r, t_com_l, t_com_r, t_close_l, t_close_r, t_res, t_open}
use Rattle.calculus.specs.Lists.{All}
use Rattle.steps.specs.Raw.{Candidate, step, blocked, matching, visible, silent, beneath, of_places, places_in}
use Rattle.steps.proofs.Calls.{EachCall}
use Rattle.calculus.proofs.Membership.{all-++, all_map}
use Rattle.steps.proofs.RawSound.{Sound, visible_sound, silent_sound}
use Rattle.calls_steps.specs.Expanding.{visible_reached, silent_reached, visible_full, silent_full}
use Rattle.calls.specs.Reach.{GuardedBelow, stripped}
use Rattle.calls.specs.ReachSearch.{Place, found, places_of}
use Rattle.calls_steps.proofs.ExpandedComplete.{below-ren, beneath-step, stripped_opens, visible-stripped, silent-stripped}
use Rattle.calls.proofs.ReachSearching.{Member, given-call}
use Rattle.steps.proofs.SoundOver.{Rules, SoundBy, visible_of_sound, silent_of_sound}

module _ (Δ : Defs) where
  -- a transition with an equivalent condition
  pub record Does (P : Term) (M : Cond) (α : Act) (R : Term) : Type 0 where
    pub condition : Cond
    pub step : Trans Δ P condition α R
    pub same : condition ~ M

  abbrev pub SoundUp : Term → Candidate → Type 0
  SoundUp = SoundBy Does

  exactly : {P : Term} {M : Cond} {α : Act} {R : Term} → Trans Δ P M α R → Does P M α R
  exactly {M = M} t = record { condition = M; step = t; same = ~_refl M }

  -- under the same condition
  alike : {P Q : Term} {M : Cond} {α : Act} {R S : Term} (d : Does P M α R) → Trans Δ Q d.condition α S → Does Q M α S
  alike d t = record { condition = d.condition; step = t; same = d.same }

  does_match : {a b : ℕ} {P : Term} {M : Cond} {α : Act} {R : Term} → Does P M α R → Does (mat a b P) ((a, b) ∷ M) α R
  does_match {a} {b} {M = M} d =
      record { condition = (a, b) ∷ d.condition; step = t_mat d.step; same = cons-~ (a, b) d.condition M d.same }

  -- [Com] and [Close]
  met : {P Q S : Term} {M N : Cond} {α β : Act} {a b : ℕ} {R T : Term} (d : Does P M α R) (e : Does Q N β T)
      → Trans Δ (par P Q) ((a, b) ∷ (d.condition ++ e.condition)) tau_a S → Does (par P Q) ((a, b) ∷ (M ++ N)) tau_a S
  met {M = M} {N = N} {a = a} {b = b} d e t = record {
    condition = (a, b) ∷ (d.condition ++ e.condition);
    step = t;
    same = cons-~ (a, b) (d.condition ++ e.condition) (M ++ N) (++-~ d.condition M e.condition N d.same e.same);
  }

  does_restrict : {P : Term} {M M₀ : Cond} (α : Act) {R : Term} → Does P M (ren_a suc α) R → M ~ map_p suc M₀ → Does (res P) M₀ α (res (cross α R))
  does_restrict {M = M} {M₀ = M₀} α d s = exactly (t_res {α = α} d.step (~_trans d.condition M (map_p suc M₀) d.same s))

  does_extrude : {P : Term} {M M₀ : Cond} {a : ℕ} {R : Term} → Does P M (out_a (suc a) 0) R → M ~ map_p suc M₀ → Does (res P) M₀ (bout_a a) R
  does_extrude {M = M} {M₀ = M₀} d s = exactly (t_open d.step (~_trans d.condition M (map_p suc M₀) d.same s))

  does_rules : Rules Does
  does_rules = record {
    pre_tau = exactly t_tau;
    pre_inp = exactly t_inp;
    pre_out = exactly t_out;
    pre_bout = exactly t_bout;
    match = does_match;
    sum_l = λ d. alike d (t_sum_l d.step);
    sum_r = λ d. alike d (t_sum_r d.step);
    par_l = λ d. alike d (t_par_l d.step);
    par_r = λ d. alike d (t_par_r d.step);
    com_l = λ d e. met d e (t_com_l d.step e.step);
    com_r = λ d e. met d e (t_com_r d.step e.step);
    close_l = λ d e. met d e (t_close_l d.step e.step);
    close_r = λ d e. met d e (t_close_r d.step e.step);
    restrict = does_restrict;
    extrude = does_extrude;
  }

module _ (Δ : Defs) (limit depth : ℕ) (bodies : (k : ℕ) → GuardedBelow (Δ.body k)) where
  abbrev body_of : Place → Term
  body_of p = opened p.names (Δ.body p.definition)

  beneath-blocked : (C : Cond) → beneath C blocked ≡ blocked
  unfolding beneath matching
  beneath-blocked [] = refl
  beneath-blocked (p ∷ C) = ap (matching p.0 p.1) (beneath-blocked C)

  -- the search found K for k⟨xs⟩, each place with as many names as its definition has
  module _ (k : ℕ) (xs : List ℕ) (K : List Place) (e : places_of Δ limit depth k xs ≡ found K)
      (right : (p : Place) → Member p K → length p.names ≡ Δ.arity p.definition) where
    place_up : (p : Place) → Member p K → (c : Candidate) → Sound Δ (stripped (body_of p)) c → SoundUp Δ (call k xs) (beneath p.condition c)
    place_up p m (step N α R) t =
        subst (SoundUp Δ (call k xs)) (sym (beneath-step p.condition N α R))
        (let (M, s, h) = given-call Δ limit depth k xs K e (record { place = p; member = m; condition = N; own = record { names = right p m; step = t }; same = same }) in
        record { condition = M; step = s; same = h })
      where
        same : (p.condition ++ N) ~ (p.condition ++ N)
        same = ~_refl (p.condition ++ N)
    place_up p m blocked t = subst (SoundUp Δ (call k xs)) (sym (beneath-blocked p.condition)) tt

    places_up : (own : Term → List Candidate) → ((p : Place) → Member p K → All (Sound Δ (stripped (body_of p))) (own (body_of p)))
        → (L : List Place) → ((p : Place) → Member p L → Member p K) → All (SoundUp Δ (call k xs)) (of_places own Δ.body L)
    unfolding of_places
    places_up own h [] sub = tt
    places_up own h (p ∷ L) sub =
        all-++ (SoundUp Δ (call k xs)) (map (beneath p.condition) (own (body_of p))) (of_places own Δ.body L)
        (all_map (beneath p.condition) (Sound Δ (stripped (body_of p))) (SoundUp Δ (call k xs)) (own (body_of p)) (place_up p (sub p (inl refl))) (h p (sub p (inl refl))))
        (places_up own h L (λ q m. sub q (inr m)))

    visible-own : (p : Place) → Member p K → All (Sound Δ (stripped (body_of p))) (visible Δ.body 0 (body_of p))
    visible-own p m =
        subst (All (Sound Δ (stripped (body_of p)))) (visible-stripped Δ (body_of p))
        (visible_sound Δ 0 (stripped (body_of p)) (stripped_opens Δ (body_of p) (below-ren (Δ.body p.definition) _ (bodies p.definition))))

    silent-own : (p : Place) → Member p K → All (Sound Δ (stripped (body_of p))) (silent Δ.body 0 (body_of p))
    silent-own p m =
        subst (All (Sound Δ (stripped (body_of p)))) (silent-stripped Δ (body_of p))
        (silent_sound Δ 0 (stripped (body_of p)) (stripped_opens Δ (body_of p) (below-ren (Δ.body p.definition) _ (bodies p.definition))))

  -- a call whose places are found, each with the right number of names (checks 7 to 9)
  abbrev pub Placed : ℕ → List ℕ → Type 0
  Placed k xs = (K : List Place) × (places_of Δ limit depth k xs ≡ found K) × ((p : Place) → Member p K → length p.names ≡ Δ.arity p.definition)

  visible-call : (k : ℕ) (xs : List ℕ) → Placed k xs → All (SoundUp Δ (call k xs)) (visible_reached Δ limit depth k xs)
  unfolding visible_reached places_in
  visible-call k xs (K, e, r) =
      subst (λ s. All (SoundUp Δ (call k xs)) (of_places (visible Δ.body 0) Δ.body (places_in s))) (sym e)
      (places_up k xs K e r (visible Δ.body 0) (visible-own k xs K e r) K (λ p m. m))

  silent-call : (k : ℕ) (xs : List ℕ) → Placed k xs → All (SoundUp Δ (call k xs)) (silent_reached Δ limit depth k xs)
  unfolding silent_reached places_in
  silent-call k xs (K, e, r) =
      subst (λ s. All (SoundUp Δ (call k xs)) (of_places (silent Δ.body 0) Δ.body (places_in s))) (sym e)
      (places_up k xs K e r (silent Δ.body 0) (silent-own k xs K e r) K (λ p m. m))

  pub visible_full_sound : (P : Term) → EachCall Placed P → All (SoundUp Δ P) (visible_full Δ limit depth P)
  unfolding visible_full
  visible_full_sound P c = visible_of_sound (Does Δ) (does_rules Δ) Placed (visible_reached Δ limit depth) visible-call P c

  pub silent_full_sound : (P : Term) → EachCall Placed P → All (SoundUp Δ P) (silent_full Δ limit depth P)
  unfolding silent_full
  silent_full_sound P c = silent_of_sound (Does Δ) (does_rules Δ) Placed (visible_reached Δ limit depth) visible-call (silent_reached Δ limit depth) silent-call P c
