-- Every transition of the working presentation is among the candidates, up to an equivalent condition, if that is so of the calls: over any
-- candidates of the calls. Assumes nothing.
use mathlib.Core.Bool.{Bool, true, false}
use mathlib.Core.List.{List, [], ◌∷◌, ◌++◌, map}
use mathlib.Core.Logic.{inl, inr}
use mathlib.Core.Path.{◌≡◌, refl, subst}
use Prim.Native.Nat.{ℕ, suc}
use Rattle.calculus.specs.Abstraction.{Act, tau_a, inp_a, out_a, bout_a, weak}
use Rattle.calculus.specs.Term.{Term, mat, sum, par, res, call, ren, inst}
use Rattle.calculus.specs.Cond.{Cond, map_p}
use Rattle.calculus.proofs.Conditions.{◌~◌}
use Rattle.calculus.specs.Definitions.{Defs}
use Rattle.calculus.proofs.PublishedSteps.{cons-~, ++-~}
use Rattle.calculus.proofs.Working.{ren_a, cross, Trans, t_tau, t_inp, t_out, t_bout, t_mat, t_sum_l, t_sum_r, t_par_l, t_par_r, t_com_l, t_com_r, t_close_l, t_close_r, t_res, t_open, t_call}
use Rattle.steps.specs.Raw.{Candidate, step, matching, left_steps, right_steps, meet, communication, communications, restricted_alone, outside, restricted_action, restricted, visible_of, silent_of}
use Rattle.calculus.specs.Lists.{◌∈◌}
use Rattle.calculus.proofs.Membership.{∈-left, ∈_right, ∈-map}
use Rattle.steps.proofs.Restriction.{outside_alone, outside-same}
use Rattle.steps.proofs.Calls.{EachCall}

-- a step with this action and result, and a condition equivalent to this one
pub record Yielded (cs : List Candidate) (M : Cond) (α : Act) (P' : Term) : Type 0 where
  pub condition : Cond
  pub same : M ~ condition
  pub there : step condition α P' ∈ cs

abbrev pub is_silent : Act → Bool
is_silent tau_a = true
is_silent (inp_a a) = false
is_silent (out_a a b) = false
is_silent (bout_a a) = false

is_silent_ren : (σ : ℕ → ℕ) (α : Act) → is_silent (ren_a σ α) ≡ is_silent α
is_silent_ren σ tau_a = refl
is_silent_ren σ (inp_a a) = refl
is_silent_ren σ (out_a a b) = refl
is_silent_ren σ (bout_a a) = refl

-- The condition of a communication, up to equivalence.
joined-~ : (a b : ℕ) (M N M₁ N₁ : Cond) → M ~ M₁ → N ~ N₁ → ((a, b) ∷ (M ++ N)) ~ ((a, b) ∷ (M₁ ++ N₁))
joined-~ a b M N M₁ N₁ s r =
    cons-~ (a, b) (M ++ N) (M₁ ++ N₁) (++-~ M M₁ N N₁ s r)

∈-communications : (s t : Candidate) (ss ts : List Candidate) → s ∈ ss → t ∈ ts → communication s t ∈ communications ss ts
unfolding communications
∈-communications s t [] ts x'' m = elim x'' [ ]
∈-communications s t (s₁ ∷ ss) ts (inl e) m =
    ∈-left (communication s t) (map (communication s₁) ts) (communications ss ts)
    (subst (λ c. communication s t ∈ map (communication c) ts) e (∈-map (communication s) t ts m))
∈-communications s t (s₁ ∷ ss) ts (inr l) m =
    ∈_right (communication s t) (map (communication s₁) ts) (communications ss ts) (∈-communications s t ss ts l m)

restricted-step : (N : Cond) (α : Act) (P' : Term) → restricted_alone N ≡ true
    → restricted (step N (ren_a suc α) P') ≡ step (map_p outside N) α (res (cross α P'))
unfolding restricted restricted_action
restricted-step N tau_a P' e = rw e refl
restricted-step N (inp_a a) P' e = rw e refl
restricted-step N (out_a a b) P' e = rw e refl
restricted-step N (bout_a a) P' e = rw e refl

opened-step : (N : Cond) (a : ℕ) (P' : Term) → restricted_alone N ≡ true
    → restricted (step N (out_a (suc a) 0) P') ≡ step (map_p outside N) (bout_a a) P'
unfolding restricted restricted_action
opened-step N a P' e = rw e refl

module _ (visible_call silent_call : ℕ → List ℕ → List Candidate) where
  -- the silent candidates, or the visible ones
  abbrev pub candidates_of : Bool → Term → List Candidate
  candidates_of true = silent_of visible_call silent_call
  candidates_of false = visible_of visible_call

  -- those of a call
  abbrev pub called_of : Bool → ℕ → List ℕ → List Candidate
  called_of true = silent_call
  called_of false = visible_call

  in_mat : (s : Bool) (a b : ℕ) (P : Term) (c : Candidate) → c ∈ candidates_of s P → matching a b c ∈ candidates_of s (mat a b P)
  unfolding silent_of visible_of
  in_mat true a b P c m = ∈-map (matching a b) c (candidates_of true P) m
  in_mat false a b P c m = ∈-map (matching a b) c (candidates_of false P) m

  in_sum_l : (s : Bool) (P Q : Term) (c : Candidate) → c ∈ candidates_of s P → c ∈ candidates_of s (sum P Q)
  unfolding silent_of visible_of
  in_sum_l true P Q c m = ∈-left c (candidates_of true P) (candidates_of true Q) m
  in_sum_l false P Q c m = ∈-left c (candidates_of false P) (candidates_of false Q) m

  in_sum_r : (s : Bool) (P Q : Term) (c : Candidate) → c ∈ candidates_of s Q → c ∈ candidates_of s (sum P Q)
  unfolding silent_of visible_of
  in_sum_r true P Q c m = ∈_right c (candidates_of true P) (candidates_of true Q) m
  in_sum_r false P Q c m = ∈_right c (candidates_of false P) (candidates_of false Q) m

  in_par_l : (s : Bool) (P Q : Term) (c : Candidate) → c ∈ candidates_of s P → left_steps Q c ∈ candidates_of s (par P Q)
  unfolding silent_of visible_of
  in_par_l true P Q c m =
      ∈-left (left_steps Q c) (map (left_steps Q) (candidates_of true P)) _ (∈-map (left_steps Q) c (candidates_of true P) m)
  in_par_l false P Q c m =
      ∈-left (left_steps Q c) (map (left_steps Q) (candidates_of false P)) _ (∈-map (left_steps Q) c (candidates_of false P) m)

  in_par_r : (s : Bool) (P Q : Term) (c : Candidate) → c ∈ candidates_of s Q → right_steps P c ∈ candidates_of s (par P Q)
  unfolding silent_of visible_of
  in_par_r true P Q c m =
      ∈_right (right_steps P c) (map (left_steps Q) (candidates_of true P)) _
      (∈-left (right_steps P c) (map (right_steps P) (candidates_of true Q)) _ (∈-map (right_steps P) c (candidates_of true Q) m))
  in_par_r false P Q c m =
      ∈_right (right_steps P c) (map (left_steps Q) (candidates_of false P)) _ (∈-map (right_steps P) c (candidates_of false Q) m)

  in_communications : (P Q : Term) (s t : Candidate) → s ∈ candidates_of false P → t ∈ candidates_of false Q
      → communication s t ∈ candidates_of true (par P Q)
  unfolding silent_of visible_of
  in_communications P Q s t l m =
      ∈_right (communication s t) (map (left_steps Q) (candidates_of true P)) _
      (∈_right (communication s t) (map (right_steps P) (candidates_of true Q)) _
      (∈-communications s t (candidates_of false P) (candidates_of false Q) l m))

  in_res : (s : Bool) (P : Term) (c : Candidate) → c ∈ candidates_of s P → restricted c ∈ candidates_of s (res P)
  unfolding silent_of visible_of
  in_res true P c m = ∈-map restricted c (candidates_of true P) m
  in_res false P c m = ∈-map restricted c (candidates_of false P) m

  in_call : (s : Bool) (k : ℕ) (xs : List ℕ) (c : Candidate) → c ∈ called_of s k xs → c ∈ candidates_of s (call k xs)
  unfolding silent_of visible_of
  in_call true k xs c m = m
  in_call false k xs c m = m

  yield_res : (P : Term) (M M₀ : Cond) (α : Act) (P' : Term) → M ~ map_p suc M₀
      → Yielded (candidates_of (is_silent (ren_a suc α)) P) M (ren_a suc α) P' → Yielded (candidates_of (is_silent α) (res P)) M₀ α (res (cross α P'))
  yield_res P M M₀ α P' s y =
      let N : Cond = y.condition in
      let spared = outside_alone N M M₀ y.same s in
      record {
        condition = map_p outside N;
        same = outside-same N M M₀ y.same s;
        there =
            subst (λ c. c ∈ candidates_of (is_silent α) (res P)) (restricted-step N α P' spared)
            (in_res (is_silent α) P (step N (ren_a suc α) P')
            (subst (λ b. step N (ren_a suc α) P' ∈ candidates_of b P) (is_silent_ren suc α) y.there));
      }

  yield_open : (P : Term) (M M₀ : Cond) (a : ℕ) (P' : Term) → M ~ map_p suc M₀
      → Yielded (candidates_of false P) M (out_a (suc a) 0) P' → Yielded (candidates_of false (res P)) M₀ (bout_a a) P'
  yield_open P M M₀ a P' s y =
      let N : Cond = y.condition in
      let spared = outside_alone N M M₀ y.same s in
      record {
        condition = map_p outside N;
        same = outside-same N M M₀ y.same s;
        there =
            subst (λ c. c ∈ candidates_of false (res P)) (opened-step N a P' spared) (in_res false P (step N (out_a (suc a) 0) P') y.there);
      }

  yield_mat : (a b : ℕ) (P : Term) (M : Cond) (α : Act) (P' : Term) → Yielded (candidates_of (is_silent α) P) M α P'
      → Yielded (candidates_of (is_silent α) (mat a b P)) ((a, b) ∷ M) α P'
  unfolding matching
  yield_mat a b P M α P' y = record {
    condition = (a, b) ∷ y.condition;
    same = cons-~ (a, b) M y.condition y.same;
    there = in_mat (is_silent α) a b P (step y.condition α P') y.there;
  }

  yield_par_l : (P Q : Term) (M : Cond) (α : Act) (P' : Term) → Yielded (candidates_of (is_silent α) P) M α P'
      → Yielded (candidates_of (is_silent α) (par P Q)) M α (par P' (weak α Q))
  unfolding left_steps
  yield_par_l P Q M α P' y = record {
    condition = y.condition;
    same = y.same;
    there = in_par_l (is_silent α) P Q (step y.condition α P') y.there;
  }

  yield_par_r : (P Q : Term) (M : Cond) (α : Act) (Q' : Term) → Yielded (candidates_of (is_silent α) Q) M α Q'
      → Yielded (candidates_of (is_silent α) (par P Q)) M α (par (weak α P) Q')
  unfolding right_steps
  yield_par_r P Q M α Q' y = record {
    condition = y.condition;
    same = y.same;
    there = in_par_r (is_silent α) P Q (step y.condition α Q') y.there;
  }

  -- [Com] and [Close]: R is the result that `meet` makes of the two
  yield_meet : (P Q : Term) (M N : Cond) (α β : Act) (a b : ℕ) (P' Q' R : Term)
      → ((M₁ N₁ : Cond) → meet M₁ α P' N₁ β Q' ≡ step ((a, b) ∷ (M₁ ++ N₁)) tau_a R)
      → Yielded (candidates_of false P) M α P' → Yielded (candidates_of false Q) N β Q'
      → Yielded (candidates_of true (par P Q)) ((a, b) ∷ (M ++ N)) tau_a R
  unfolding communication
  yield_meet P Q M N α β a b P' Q' R e y z = record {
    condition = (a, b) ∷ (y.condition ++ z.condition);
    same = joined-~ a b M N y.condition z.condition y.same z.same;
    there =
        subst (λ c. c ∈ candidates_of true (par P Q)) (e y.condition z.condition)
        (in_communications P Q (step y.condition α P') (step z.condition β Q') y.there z.there);
  }

  pub elsewhere : (P Q : List Candidate) (M : Cond) (α : Act) (P' : Term) → ((c : Candidate) → c ∈ P → c ∈ Q) → Yielded P M α P' → Yielded Q M α P'
  elsewhere P Q M α P' h y = record { condition = y.condition; same = y.same; there = h (step y.condition α P') y.there }

  module _ (Δ : Defs) (C : ℕ → List ℕ → Type 0)
      (calls : (k : ℕ) (xs : List ℕ) → C k xs → (M : Cond) (α : Act) (P' : Term) → Trans Δ (call k xs) M α P' → Yielded (called_of (is_silent α) k xs) M α P') where
    pub complete_over : {P : Term} {M : Cond} {α : Act} {P' : Term} → EachCall C P → Trans Δ P M α P'
        → Yielded (candidates_of (is_silent α) P) M α P'
    unfolding silent_of visible_of meet
    complete_over o t_tau = record { condition = []; same = (tt, tt); there = inl refl }
    complete_over o t_inp = record { condition = []; same = (tt, tt); there = inl refl }
    complete_over o t_out = record { condition = []; same = (tt, tt); there = inl refl }
    complete_over o t_bout = record { condition = []; same = (tt, tt); there = inl refl }
    complete_over o (t_mat {a = a} {b = b} {P = P} {M = M} {α = α} {P' = P'} t) = yield_mat a b P M α P' (complete_over o t)
    complete_over o (t_sum_l {P = P} {Q = Q} {M = M} {α = α} {P' = P'} t) =
        elsewhere (candidates_of (is_silent α) P) (candidates_of (is_silent α) (sum P Q)) M α P' (in_sum_l (is_silent α) P Q) (complete_over o.0 t)
    complete_over o (t_sum_r {P = P} {Q = Q} {M = M} {α = α} {Q' = Q'} t) =
        elsewhere (candidates_of (is_silent α) Q) (candidates_of (is_silent α) (sum P Q)) M α Q' (in_sum_r (is_silent α) P Q) (complete_over o.1 t)
    complete_over o (t_par_l {P = P} {Q = Q} {M = M} {α = α} {P' = P'} t) = yield_par_l P Q M α P' (complete_over o.0 t)
    complete_over o (t_par_r {P = P} {Q = Q} {M = M} {α = α} {Q' = Q'} t) = yield_par_r P Q M α Q' (complete_over o.1 t)
    complete_over o (t_com_l {P = P} {Q = Q} {M = M} {N = N} {a = a} {b = b} {y = y} {P' = P'} {Q' = Q'} t u) =
        yield_meet P Q M N (out_a a y) (inp_a b) a b P' Q' (par P' (ren (inst y) Q')) (λ M₁ N₁. refl) (complete_over o.0 t) (complete_over o.1 u)
    complete_over o (t_com_r {P = P} {Q = Q} {M = M} {N = N} {a = a} {b = b} {y = y} {P' = P'} {Q' = Q'} t u) =
        yield_meet P Q M N (inp_a a) (out_a b y) a b P' Q' (par (ren (inst y) P') Q') (λ M₁ N₁. refl) (complete_over o.0 t) (complete_over o.1 u)
    complete_over o (t_close_l {P = P} {Q = Q} {M = M} {N = N} {a = a} {b = b} {P' = P'} {Q' = Q'} t u) =
        yield_meet P Q M N (bout_a a) (inp_a b) a b P' Q' (res (par P' Q')) (λ M₁ N₁. refl) (complete_over o.0 t) (complete_over o.1 u)
    complete_over o (t_close_r {P = P} {Q = Q} {M = M} {N = N} {a = a} {b = b} {P' = P'} {Q' = Q'} t u) =
        yield_meet P Q M N (inp_a a) (bout_a b) a b P' Q' (res (par P' Q')) (λ M₁ N₁. refl) (complete_over o.0 t) (complete_over o.1 u)
    complete_over o (t_res {P = P} {M = M} {M₀ = M₀} {α = α} {P' = P'} t s) = yield_res P M M₀ α P' s (complete_over o t)
    complete_over o (t_open {P = P} {M = M} {M₀ = M₀} {a = a} {P' = P'} t s) = yield_open P M M₀ a P' s (complete_over o t)
    complete_over o (t_call {k = k} {xs = xs} {M = M} {α = α} {P' = P'} e t) =
        elsewhere (called_of (is_silent α) k xs) (candidates_of (is_silent α) (call k xs)) M α P' (in_call (is_silent α) k xs) (calls k xs o M α P' (t_call e t))
