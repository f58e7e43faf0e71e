-- Parts whose pieces stand in another order (request 2026-07) have the same transitions, conditions up to equivalence, to parts whose pieces stand in
-- another order; so they are related under every distinction. An extrusion bracketed anew leaves (νx)(P|Q)|R against (νx)(P|(Q|R)): here restrictions
-- move as well, past what does not have their name and past each other. Assumes nothing.
use Prim.Native.Nat.{ℕ, zero, suc}
use mathlib.Core.List.{◌∷◌, ◌++◌}
use mathlib.Core.Path.{◌≡◌, refl, sym, ◌∙◌, ap, ap₂, subst, subst₂}
use native.Mathlib.Nat.{suc-ne-zero}
use native.Mathlib.Omega.{arith}
use Rattle.calculus.specs.Abstraction.{Act, tau_a, inp_a, out_a, bout_a, weak, swap}
use Rattle.calculus.specs.Term.{Term, nil, tau, inp, out, bout, mat, sum, par, res, lift, ren, inst}
use Rattle.calculus.specs.Cond.{Cond, Pairs, map_p, cls, ◌▷◌}
use Rattle.calculus.specs.Distinction.{Irr}
use Rattle.calculus.specs.Definitions.{Defs}
use Rattle.calculus.specs.Rearranged.{Rearranged, choice_exchanged, choice_regrouped, choice_with_inaction, choice_doubled, parallel_exchanged}
use Rattle.calculus.specs.Rearranged.{parallel_regrouped, parallel_with_inaction, unchanged, undone, again, in_silent, in_input, in_output}
use Rattle.calculus.specs.Rearranged.{in_new_output, in_match, in_choice, in_parallel, in_restriction}
use Rattle.calculus.specs.OpenBisimulation.{Rel, flip, Related}
use Rattle.calculus.proofs.Renaming.{◌∘◌, ren_id, ren-∘, ren_square, ren_triangle}
use Rattle.calculus.proofs.Binding.{inst_suc}
use Rattle.calculus.proofs.Conditions.{◌~◌, E2, ~_refl, ~_sym, ~_trans, map_p-~, map_p-∘, Unif-++, Unif-left, Unif_right, unsuc_~, δ, lower, lowered_alone, com_~}
use Rattle.calculus.proofs.Working.{ren_a, under, cross, crossing, cross-ren, Trans, t_tau, t_inp, t_out, t_bout, t_mat, t_sum_l, t_sum_r, t_par_l, t_par_r, t_com_l, t_com_r, t_close_l, t_close_r, t_res, t_open, under-ren_a, ren-weak, ren-cross, ren-inst, inv_out, inv_inp, inv_bout}
use Rattle.calculus.proofs.WorkingRenaming.{cast, of, push, pull, Pulled}
use Rattle.calculus.proofs.WorkingBisimulation.{Answer, Bisimilar}
use Rattle.calculus.proofs.PublishedSteps.{cons-~, ++-~}
use Rattle.calculus.proofs.PublishedBisimulation.{to_published}

-- Q is P with pieces moved
pub data Like : Term → Term → Type 0 where
  l_same : {P : Term} → Like P P
  l_then : {P Q R : Term} → Like P Q → Like Q R → Like P R
  l_sum_comm : (P Q : Term) → Like (sum P Q) (sum Q P)
  l_sum_assoc : (P Q R : Term) → Like (sum (sum P Q) R) (sum P (sum Q R))
  l_sum_assoc' : (P Q R : Term) → Like (sum P (sum Q R)) (sum (sum P Q) R)
  l_sum_copy : (P : Term) → Like (sum P P) P
  l_sum_copy' : (P : Term) → Like P (sum P P)
  l_sum_nil : (P : Term) → Like (sum P nil) P
  l_sum_nil' : (P : Term) → Like P (sum P nil)
  l_par_comm : (P Q : Term) → Like (par P Q) (par Q P)
  l_par_assoc : (P Q R : Term) → Like (par (par P Q) R) (par P (par Q R))
  l_par_nil : (P : Term) → Like (par P nil) P
  l_par_nil' : (P : Term) → Like P (par P nil)
  -- a restriction moves past what does not have its name
  l_out_of : (P Q : Term) → Like (par (res P) Q) (res (par P (ren suc Q)))
  l_into : (P Q : Term) → Like (res (par P (ren suc Q))) (par (res P) Q)
  l_swap : (P : Term) → Like (res (res P)) (res (res (ren swap P)))
  l_par : {P Q : Term} → Like P Q → (T : Term) → Like (par P T) (par Q T)
  l_res : {P Q : Term} → Like P Q → Like (res P) (res Q)
  l_tau : {P Q : Term} → Like P Q → Like (tau P) (tau Q)
  l_inp : (a : ℕ) {P Q : Term} → Like P Q → Like (inp a P) (inp a Q)
  l_out : (a b : ℕ) {P Q : Term} → Like P Q → Like (out a b P) (out a b Q)
  l_bout : (a : ℕ) {P Q : Term} → Like P Q → Like (bout a P) (bout a Q)
  l_mat : (a b : ℕ) {P Q : Term} → Like P Q → Like (mat a b P) (mat a b Q)
  l_sum : {P Q : Term} → Like P Q → (T : Term) → Like (sum P T) (sum Q T)

l_to : {P Q R : Term} → Q ≡ R → Like P Q → Like P R
l_to {P} e l = subst (Like P) e l

l_from : {P Q R : Term} → P ≡ Q → Like Q R → Like P R
l_from {R = R} e l = subst (λ X. Like X R) (sym e) l

swap-swap : (n : ℕ) → swap (swap n) ≡ n
swap-swap zero = refl
swap-swap (suc zero) = refl
swap-swap (suc (suc n)) = refl

ren-swap-swap : (P : Term) → ren swap (ren swap P) ≡ P
ren-swap-swap P = ren_triangle swap swap (λ n. n) P swap-swap ∙ ren_id P

l_par_left : (T : Term) {P Q : Term} → Like P Q → Like (par T P) (par T Q)
l_par_left T {P} {Q} l = l_then (l_par_comm T P) (l_then (l_par l T) (l_par_comm Q T))

-- every move can be taken back
pub like_sym : {P Q : Term} → Like P Q → Like Q P
like_sym l_same = l_same
like_sym (l_then l m) = l_then (like_sym m) (like_sym l)
like_sym (l_sum_comm P Q) = l_sum_comm Q P
like_sym (l_sum_assoc P Q R) = l_sum_assoc' P Q R
like_sym (l_sum_assoc' P Q R) = l_sum_assoc P Q R
like_sym (l_sum_copy P) = l_sum_copy' P
like_sym (l_sum_copy' P) = l_sum_copy P
like_sym (l_sum_nil P) = l_sum_nil' P
like_sym (l_sum_nil' P) = l_sum_nil P
like_sym (l_par_comm P Q) = l_par_comm Q P
like_sym (l_par_assoc P Q R) =
    l_then (l_par_comm P (par Q R)) (l_then (l_par (l_par_comm Q R) P) (l_then (l_par_assoc R Q P) (l_then (l_par_left R (l_par_comm Q P)) (l_par_comm R (par P Q)))))
like_sym (l_par_nil P) = l_par_nil' P
like_sym (l_par_nil' P) = l_par_nil P
like_sym (l_out_of P Q) = l_into P Q
like_sym (l_into P Q) = l_out_of P Q
like_sym (l_swap P) = l_to (ap (λ X. res (res X)) (ren-swap-swap P)) (l_swap (ren swap P))
like_sym (l_par l T) = l_par (like_sym l) T
like_sym (l_res l) = l_res (like_sym l)
like_sym (l_tau l) = l_tau (like_sym l)
like_sym (l_inp a l) = l_inp a (like_sym l)
like_sym (l_out a b l) = l_out a b (like_sym l)
like_sym (l_bout a l) = l_bout a (like_sym l)
like_sym (l_mat a b l) = l_mat a b (like_sym l)
like_sym (l_sum l T) = l_sum (like_sym l) T

pub rearranged_like : {P Q : Term} → Rearranged P Q → Like P Q
rearranged_like (choice_exchanged P Q) = l_sum_comm P Q
rearranged_like (choice_regrouped P Q R) = l_sum_assoc P Q R
rearranged_like (choice_with_inaction P) = l_sum_nil P
rearranged_like (choice_doubled P) = l_sum_copy P
rearranged_like (parallel_exchanged P Q) = l_par_comm P Q
rearranged_like (parallel_regrouped P Q R) = l_par_assoc P Q R
rearranged_like (parallel_with_inaction P) = l_par_nil P
rearranged_like (unchanged P) = l_same
rearranged_like (undone r) = like_sym (rearranged_like r)
rearranged_like (again r s) = l_then (rearranged_like r) (rearranged_like s)
rearranged_like (in_silent r) = l_tau (rearranged_like r)
rearranged_like (in_input a r) = l_inp a (rearranged_like r)
rearranged_like (in_output a b r) = l_out a b (rearranged_like r)
rearranged_like (in_new_output a r) = l_bout a (rearranged_like r)
rearranged_like (in_match a b r) = l_mat a b (rearranged_like r)
rearranged_like (in_choice r T) = l_sum (rearranged_like r) T
rearranged_like (in_parallel r T) = l_par (rearranged_like r) T
rearranged_like (in_restriction r) = l_res (rearranged_like r)

-- the same moves after a renaming
pub like_ren : (σ : ℕ → ℕ) {P Q : Term} → Like P Q → Like (ren σ P) (ren σ Q)
like_ren σ l_same = l_same
like_ren σ (l_then l m) = l_then (like_ren σ l) (like_ren σ m)
like_ren σ (l_sum_comm P Q) = l_sum_comm (ren σ P) (ren σ Q)
like_ren σ (l_sum_assoc P Q R) = l_sum_assoc (ren σ P) (ren σ Q) (ren σ R)
like_ren σ (l_sum_assoc' P Q R) = l_sum_assoc' (ren σ P) (ren σ Q) (ren σ R)
like_ren σ (l_sum_copy P) = l_sum_copy (ren σ P)
like_ren σ (l_sum_copy' P) = l_sum_copy' (ren σ P)
like_ren σ (l_sum_nil P) = l_sum_nil (ren σ P)
like_ren σ (l_sum_nil' P) = l_sum_nil' (ren σ P)
like_ren σ (l_par_comm P Q) = l_par_comm (ren σ P) (ren σ Q)
like_ren σ (l_par_assoc P Q R) = l_par_assoc (ren σ P) (ren σ Q) (ren σ R)
like_ren σ (l_par_nil P) = l_par_nil (ren σ P)
like_ren σ (l_par_nil' P) = l_par_nil' (ren σ P)
like_ren σ (l_out_of P Q) = l_to (ap (λ X. res (par (ren (lift σ) P) X)) (sym (ren-weak σ σ (inp_a 0) Q))) (l_out_of (ren (lift σ) P) (ren σ Q))
like_ren σ (l_into P Q) = l_from (ap (λ X. res (par (ren (lift σ) P) X)) (ren-weak σ σ (inp_a 0) Q)) (l_into (ren (lift σ) P) (ren σ Q))
like_ren σ (l_swap P) = l_to (ap (λ X. res (res X)) (sym (ren-cross σ σ (inp_a 0) P))) (l_swap (ren (lift (lift σ)) P))
like_ren σ (l_par l T) = l_par (like_ren σ l) (ren σ T)
like_ren σ (l_res l) = l_res (like_ren (lift σ) l)
like_ren σ (l_tau l) = l_tau (like_ren σ l)
like_ren σ (l_inp a l) = l_inp (σ a) (like_ren (lift σ) l)
like_ren σ (l_out a b l) = l_out (σ a) (σ b) (like_ren σ l)
like_ren σ (l_bout a l) = l_bout (σ a) (like_ren (lift σ) l)
like_ren σ (l_mat a b l) = l_mat (σ a) (σ b) (like_ren σ l)
like_ren σ (l_sum l T) = l_sum (like_ren σ l) (ren σ T)

like_weak : (α : Act) {P Q : Term} → Like P Q → Like (weak α P) (weak α Q)
like_weak tau_a l = l
like_weak (inp_a a) l = like_ren suc l
like_weak (out_a a b) l = l
like_weak (bout_a a) l = like_ren suc l

like_cross : (α : Act) {P Q : Term} → Like P Q → Like (cross α P) (cross α Q)
like_cross α {P} {Q} l = subst₂ Like (sym (cross-ren α P)) (sym (cross-ren α Q)) (like_ren (crossing α) l)

weak-par : (α : Act) (P Q : Term) → weak α (par P Q) ≡ par (weak α P) (weak α Q)
weak-par tau_a P Q = refl
weak-par (inp_a a) P Q = refl
weak-par (out_a a b) P Q = refl
weak-par (bout_a a) P Q = refl

weak-nil : (α : Act) → weak α nil ≡ nil
weak-nil tau_a = refl
weak-nil (inp_a a) = refl
weak-nil (out_a a b) = refl
weak-nil (bout_a a) = refl

-- conditions of communications
com_flip : (a b : ℕ) (M N : Cond) → ((b, a) ∷ (N ++ M)) ~ ((a, b) ∷ (M ++ N))
com_flip a b M N = (one b a N M, one a b M N)
  where
    one : (a b : ℕ) (M N : Cond) → ((a, b) ∷ (M ++ N)) ▷ ((b, a) ∷ (N ++ M))
    one a b M N =
        let K : Cond = (a, b) ∷ (M ++ N) in
        (sym (E2 K).0, Unif-++ (cls K) N M (Unif_right (cls K) M N (E2 K).1) (Unif-left (cls K) M N (E2 K).1))

module _ (Δ : Defs) where
  -- the same action, under an equivalent condition
  pub record LikeAnswer (M : Cond) (α : Act) (P' Q : Term) : Type 0 where
    pub cond : Cond
    pub resid : Term
    pub step : Trans Δ Q cond α resid
    pub same : cond ~ M
    pub alike : Like P' resid

  by : {M : Cond} {α : Act} {P' Q Q' : Term} → Trans Δ Q M α Q' → Like P' Q' → LikeAnswer M α P' Q
  by {M} {Q' = Q'} t l = record { cond = M; resid = Q'; step = t; same = ~_refl M; alike = l }

  par_comm : {P Q : Term} {M : Cond} {α : Act} {X : Term} → Trans Δ (par P Q) M α X → LikeAnswer M α X (par Q P)
  par_comm (t_par_l t) = by (t_par_r t) (l_par_comm _ _)
  par_comm (t_par_r t) = by (t_par_l t) (l_par_comm _ _)
  par_comm (t_com_l {M = M} {N = N} {a = a} {b = b} t u) =
      record { cond = (b, a) ∷ (N ++ M); resid = _; step = t_com_r u t; same = com_flip a b M N; alike = l_par_comm _ _ }
  par_comm (t_com_r {M = M} {N = N} {a = a} {b = b} t u) =
      record { cond = (b, a) ∷ (N ++ M); resid = _; step = t_com_l u t; same = com_flip a b M N; alike = l_par_comm _ _ }
  par_comm (t_close_l {M = M} {N = N} {a = a} {b = b} t u) =
      record { cond = (b, a) ∷ (N ++ M); resid = _; step = t_close_r u t; same = com_flip a b M N; alike = l_res (l_par_comm _ _) }
  par_comm (t_close_r {M = M} {N = N} {a = a} {b = b} t u) =
      record { cond = (b, a) ∷ (N ++ M); resid = _; step = t_close_l u t; same = com_flip a b M N; alike = l_res (l_par_comm _ _) }

  -- R beside an extrusion between P and Q; P beside one between Q and R
  out_assoc : (P Q R : Term) → Like (par (res (par P Q)) R) (res (par P (par Q (ren suc R))))
  out_assoc P Q R = l_then (l_out_of (par P Q) R) (l_res (l_par_assoc P Q (ren suc R)))

  into_assoc : (P Q R : Term) → Like (res (par (par (ren suc P) Q) R)) (par P (res (par Q R)))
  into_assoc P Q R =
      l_then (l_res (l_then (l_par_assoc (ren suc P) Q R) (l_par_comm (ren suc P) (par Q R))))
      (l_then (l_into (par Q R) P) (l_par_comm (res (par Q R)) P))

  par_assoc : {P Q R : Term} {M : Cond} {α : Act} {X : Term} → Trans Δ (par (par P Q) R) M α X → LikeAnswer M α X (par P (par Q R))
  par_assoc {P} {Q} {R} (t_par_l (t_par_l {α = α} {P' = P'} t)) =
      by (t_par_l t) (l_to (ap (par P') (sym (weak-par α Q R))) (l_par_assoc P' (weak α Q) (weak α R)))
  par_assoc (t_par_l (t_par_r t)) = by (t_par_r (t_par_l t)) (l_par_assoc _ _ _)
  par_assoc {P} {Q} {R} (t_par_r {α = α} {Q' = R'} t) =
      by (t_par_r (t_par_r t)) (l_from (ap (λ X. par X R') (weak-par α P Q)) (l_par_assoc (weak α P) (weak α Q) R'))
  par_assoc {R = R} (t_par_l (t_com_l {y = y} {P' = P'} {Q' = Q'} t u)) =
      by (t_com_l t (t_par_l u)) (l_to (ap (λ X. par P' (par (ren (inst y) Q') X)) (sym (inst_suc y R))) (l_par_assoc P' (ren (inst y) Q') R))
  par_assoc (t_par_l (t_com_r t u)) = by (t_com_r t (t_par_l u)) (l_par_assoc _ _ _)
  par_assoc (t_par_l (t_close_l t u)) = by (t_close_l t (t_par_l u)) (out_assoc _ _ _)
  par_assoc (t_par_l (t_close_r t u)) = by (t_close_r t (t_par_l u)) (out_assoc _ _ _)
  par_assoc {Q = Q} (t_com_l {y = y} (t_par_l {P' = P'} t) u) =
      by (t_com_l t (t_par_r u)) (l_to (ap (λ X. par P' (par X _)) (sym (inst_suc y Q))) (l_par_assoc _ _ _))
  par_assoc (t_com_l (t_par_r t) u) = by (t_par_r (t_com_l t u)) (l_par_assoc _ _ _)
  par_assoc {Q = Q} (t_com_r {y = y} (t_par_l t) u) =
      by (t_com_r t (t_par_r u)) (l_from (ap (λ X. par (par _ X) _) (inst_suc y Q)) (l_par_assoc _ _ _))
  par_assoc {P = P} (t_com_r {y = y} (t_par_r t) u) =
      by (t_par_r (t_com_r t u)) (l_from (ap (λ X. par (par X _) _) (inst_suc y P)) (l_par_assoc _ _ _))
  par_assoc (t_close_l (t_par_l t) u) = by (t_close_l t (t_par_r u)) (l_res (l_par_assoc _ _ _))
  par_assoc (t_close_l (t_par_r t) u) = by (t_par_r (t_close_l t u)) (into_assoc _ _ _)
  par_assoc (t_close_r (t_par_l t) u) = by (t_close_r t (t_par_r u)) (l_res (l_par_assoc _ _ _))
  par_assoc (t_close_r (t_par_r t) u) = by (t_par_r (t_close_r t u)) (into_assoc _ _ _)

  par-nil : {P : Term} {M : Cond} {α : Act} {X : Term} → Trans Δ (par P nil) M α X → LikeAnswer M α X P
  par-nil {P = P} {M = M} {α = α} (t_par_r x6) = elim x6 [ ]
  par-nil {P = P} (t_com_l {M = M} {N = N} {a = a} {b = b} {y = y} _ x13) = elim x13 [ ]
  par-nil {P = P} (t_com_r {M = M} {N = N} {a = a} {b = b} {y = y} _ x14) = elim x14 [ ]
  par-nil {P = P} (t_close_l {M = M} {N = N} {a = a} {b = b} _ x15) = elim x15 [ ]
  par-nil {P = P} (t_close_r {M = M} {N = N} {a = a} {b = b} _ x16) = elim x16 [ ]
  par-nil (t_par_l {α = α} {P' = P'} t) = by t (l_from (ap (par P') (weak-nil α)) (l_par_nil P'))

  nil-par : {P : Term} {M : Cond} {α : Act} {X : Term} → Trans Δ P M α X → LikeAnswer M α X (par P nil)
  nil-par {α = α} {X} t = by (t_par_l t) (l_to (ap (par X) (sym (weak-nil α))) (l_par_nil' X))

  sum_comm : {P Q : Term} {M : Cond} {α : Act} {X : Term} → Trans Δ (sum P Q) M α X → LikeAnswer M α X (sum Q P)
  sum_comm (t_sum_l t) = by (t_sum_r t) l_same
  sum_comm (t_sum_r t) = by (t_sum_l t) l_same

  sum_assoc : {P Q R : Term} {M : Cond} {α : Act} {X : Term} → Trans Δ (sum (sum P Q) R) M α X → LikeAnswer M α X (sum P (sum Q R))
  sum_assoc (t_sum_l (t_sum_l t)) = by (t_sum_l t) l_same
  sum_assoc (t_sum_l (t_sum_r t)) = by (t_sum_r (t_sum_l t)) l_same
  sum_assoc (t_sum_r t) = by (t_sum_r (t_sum_r t)) l_same

  sum_assoc' : {P Q R : Term} {M : Cond} {α : Act} {X : Term} → Trans Δ (sum P (sum Q R)) M α X → LikeAnswer M α X (sum (sum P Q) R)
  sum_assoc' (t_sum_l t) = by (t_sum_l (t_sum_l t)) l_same
  sum_assoc' (t_sum_r (t_sum_l t)) = by (t_sum_l (t_sum_r t)) l_same
  sum_assoc' (t_sum_r (t_sum_r t)) = by (t_sum_r t) l_same

  sum_copy : {P : Term} {M : Cond} {α : Act} {X : Term} → Trans Δ (sum P P) M α X → LikeAnswer M α X P
  sum_copy (t_sum_l t) = by t l_same
  sum_copy (t_sum_r t) = by t l_same

  sum-nil : {P : Term} {M : Cond} {α : Act} {X : Term} → Trans Δ (sum P nil) M α X → LikeAnswer M α X P
  sum-nil {P = P} {M = M} {α = α} {X = X} (t_sum_r x6) = elim x6 [ ]
  sum-nil (t_sum_l t) = by t l_same

  -- beside a third part, and beneath a restriction
  module _ {P Q : Term} (ih : (M : Cond) (α : Act) (X : Term) → Trans Δ P M α X → LikeAnswer M α X Q) where
    beside_like : Like P Q → (T : Term) {M : Cond} {α : Act} {X : Term} → Trans Δ (par P T) M α X → LikeAnswer M α X (par Q T)
    beside_like l T (t_par_l {α = α} t) =
        let r = ih _ _ _ t in record { cond = r.cond; resid = _; step = t_par_l r.step; same = r.same; alike = l_par r.alike (weak α T) }
    beside_like l T (t_par_r {α = α} {Q' = T'} t) = by (t_par_r t) (l_par (like_weak α l) T')
    beside_like l T (t_com_l {M = M} {N = N} {a = a} {b = b} t u) =
        let r = ih _ _ _ t in record { cond = _; resid = _; step = t_com_l r.step u; same = cons-~ (a, b) (r.cond ++ N) (M ++ N) (++-~ r.cond M N N r.same (~_refl N)); alike = l_par r.alike _ }
    beside_like l T (t_com_r {M = M} {N = N} {a = a} {b = b} {y = y} t u) =
        let r = ih _ _ _ t in record { cond = _; resid = _; step = t_com_r r.step u; same = cons-~ (a, b) (r.cond ++ N) (M ++ N) (++-~ r.cond M N N r.same (~_refl N)); alike = l_par (like_ren (inst y) r.alike) _ }
    beside_like l T (t_close_l {M = M} {N = N} {a = a} {b = b} t u) =
        let r = ih _ _ _ t in record { cond = _; resid = _; step = t_close_l r.step u; same = cons-~ (a, b) (r.cond ++ N) (M ++ N) (++-~ r.cond M N N r.same (~_refl N)); alike = l_res (l_par r.alike _) }
    beside_like l T (t_close_r {M = M} {N = N} {a = a} {b = b} t u) =
        let r = ih _ _ _ t in record { cond = _; resid = _; step = t_close_r r.step u; same = cons-~ (a, b) (r.cond ++ N) (M ++ N) (++-~ r.cond M N N r.same (~_refl N)); alike = l_res (l_par r.alike _) }

    beneath_like : {M : Cond} {α : Act} {X : Term} → Trans Δ (res P) M α X → LikeAnswer M α X (res Q)
    beneath_like (t_res {M = M} {M₀ = M₀} {α = α} t s) =
        let r = ih _ _ _ t in by (t_res {α = α} r.step (~_trans r.cond M (map_p suc M₀) r.same s)) (l_res (like_cross α r.alike))
    beneath_like (t_open {M = M} {M₀ = M₀} t s) =
        let r = ih _ _ _ t in by (t_open r.step (~_trans r.cond M (map_p suc M₀) r.same s)) r.alike

  -- a restriction that moves
  cross-par : (α : Act) (A B : Term) → cross α (par A B) ≡ par (cross α A) (cross α B)
  cross-par tau_a A B = refl
  cross-par (inp_a a) A B = refl
  cross-par (out_a a b) A B = refl
  cross-par (bout_a a) A B = refl

  swap_two : (Q : Term) → ren swap (ren suc (ren suc Q)) ≡ ren suc (ren suc Q)
  swap_two Q = ap (ren swap) (ren-∘ suc suc Q) ∙ ren_triangle swap (suc ∘ suc) (suc ∘ suc) Q (λ n. refl) ∙ sym (ren-∘ suc suc Q)

  cross-weak : (α : Act) (Q : Term) → cross α (weak (ren_a suc α) (ren suc Q)) ≡ ren suc (weak α Q)
  cross-weak tau_a Q = refl
  cross-weak (inp_a a) Q = swap_two Q
  cross-weak (out_a a b) Q = refl
  cross-weak (bout_a a) Q = swap_two Q

  swap_one : (P : Term) → ren (lift suc) P ≡ ren swap (ren suc P)
  swap_one P = sym (ren_triangle swap suc (lift suc) P go)
    where
      go : (n : ℕ) → swap (suc n) ≡ lift suc n
      go zero = refl
      go (suc n) = refl

  weak-res : (α : Act) (P : Term) → weak α (res P) ≡ res (cross α (weak (ren_a suc α) P))
  weak-res tau_a P = refl
  weak-res (inp_a a) P = ap res (swap_one P)
  weak-res (out_a a b) P = refl
  weak-res (bout_a a) P = ap res (swap_one P)

  swap-lift : (Q : Term) → ren swap (ren (lift suc) Q) ≡ ren suc Q
  swap-lift Q = ren_triangle swap (lift suc) suc Q go
    where
      go : (n : ℕ) → swap (lift suc n) ≡ suc n
      go zero = refl
      go (suc n) = refl

  cross-under : (α : Act) (Q : Term) → cross α (ren (under α suc) Q) ≡ ren suc Q
  cross-under tau_a Q = refl
  cross-under (inp_a a) Q = swap-lift Q
  cross-under (out_a a b) Q = refl
  cross-under (bout_a a) Q = swap-lift Q

  inst-cross : (y : ℕ) (P : Term) → ren (lift (inst y)) (ren swap P) ≡ ren (inst (suc y)) P
  inst-cross y P = ren_triangle (lift (inst y)) swap (inst (suc y)) P go
    where
      go : (n : ℕ) → lift (inst y) (swap n) ≡ inst (suc y) n
      go zero = refl
      go (suc zero) = refl
      go (suc (suc n)) = refl

  inst-lift_suc : (Q : Term) → ren (inst 0) (ren (lift suc) Q) ≡ Q
  inst-lift_suc Q = ren_triangle (inst 0) (lift suc) (λ n. n) Q go ∙ ren_id Q
    where
      go : (n : ℕ) → inst 0 (lift suc n) ≡ n
      go zero = refl
      go (suc n) = refl

  -- two restrictions, one of them moved
  close_out : (P Q : Term) → Like (res (par (res (ren swap P)) Q)) (res (res (par P (ren (lift suc) Q))))
  close_out P Q =
      l_then (l_res (l_out_of (ren swap P) Q))
      (l_to (ap₂ (λ X Y. res (res (par X Y))) (ren-swap-swap P) (sym (swap_one Q))) (l_swap (par (ren swap P) (ren suc Q))))

  moved_par_l : (α : Act) (A Q : Term) → cross α (par A (weak (ren_a suc α) (ren suc Q))) ≡ par (cross α A) (ren suc (weak α Q))
  moved_par_l α A Q = cross-par α A (weak (ren_a suc α) (ren suc Q)) ∙ ap (par (cross α A)) (cross-weak α Q)

  moved_par_r : (α : Act) (P B : Term) → cross α (par (weak (ren_a suc α) P) (ren (under α suc) B)) ≡ par (cross α (weak (ren_a suc α) P)) (ren suc B)
  moved_par_r α P B = cross-par α (weak (ren_a suc α) P) (ren (under α suc) B) ∙ ap (par (cross α (weak (ren_a suc α) P))) (cross-under α B)

  out_of : {P Q : Term} {M : Cond} {α : Act} {X : Term} → Trans Δ (par (res P) Q) M α X → LikeAnswer M α X (res (par P (ren suc Q)))
  out_of {P} {Q} (t_par_l (t_res {α = α} {P' = P'} t s)) =
      by (t_res {α = α} (t_par_l t) s) (l_to (ap res (sym (moved_par_l α P' Q))) (l_out_of (cross α P') (weak α Q)))
  out_of (t_par_l (t_open t s)) = by (t_open (t_par_l t) s) l_same
  out_of {P} {Q} (t_par_r {M = M} {α = α} {Q' = Q'} t) =
      by (t_res {α = α} (t_par_r (push Δ suc t)) (~_refl (map_p suc M)))
      (l_from (ap (λ X. par X Q') (weak-res α P)) (l_to (ap res (sym (moved_par_r α P Q'))) (l_out_of (cross α (weak (ren_a suc α) P)) Q')))
  out_of (t_com_l {N = N} {a = a} {b = b} {y = y} {Q' = Q'} (t_res {M = M} {M₀ = M₀} {P' = P'} t s) u) =
      by (t_res {α = tau_a} (t_com_l t (push Δ suc u)) (com_~ suc (suc a) (suc b) a b M (map_p suc N) M₀ N refl refl s (~_refl (map_p suc N))))
      (l_to (ap (λ X. res (par P' X)) (ren-inst suc y Q')) (l_out_of P' (ren (inst y) Q')))
  out_of (t_com_r {N = N} {a = a} {b = b} {y = y} {Q' = Q'} (t_res {M = M} {M₀ = M₀} {P' = P'} t s) u) =
      by (t_res {α = tau_a} (t_com_r t (push Δ suc u)) (com_~ suc (suc a) (suc b) a b M (map_p suc N) M₀ N refl refl s (~_refl (map_p suc N))))
      (l_from (ap (λ X. par (res X) Q') (inst-cross y P')) (l_out_of (ren (inst (suc y)) P') Q'))
  out_of (t_close_l {N = N} {a = a} {b = b} {Q' = Q'} (t_res {M = M} {M₀ = M₀} {P' = P'} t s) u) =
      by (t_res {α = tau_a} (t_close_l t (push Δ suc u)) (com_~ suc (suc a) (suc b) a b M (map_p suc N) M₀ N refl refl s (~_refl (map_p suc N))))
      (close_out P' Q')
  out_of (t_close_l {N = N} {a = a} {b = b} {Q' = Q'} (t_open {M = M} {M₀ = M₀} {P' = P'} t s) u) =
      by (t_res {α = tau_a} (t_com_l t (push Δ suc u)) (com_~ suc (suc a) (suc b) a b M (map_p suc N) M₀ N refl refl s (~_refl (map_p suc N))))
      (l_to (ap (λ X. res (par P' X)) (sym (inst-lift_suc Q'))) l_same)
  out_of (t_close_r {N = N} {a = a} {b = b} {Q' = Q'} (t_res {M = M} {M₀ = M₀} {P' = P'} t s) u) =
      by (t_res {α = tau_a} (t_close_r t (push Δ suc u)) (com_~ suc (suc a) (suc b) a b M (map_p suc N) M₀ N refl refl s (~_refl (map_p suc N))))
      (close_out P' Q')

  suc_act : (α β : Act) → ren_a suc α ≡ ren_a suc β → α ≡ β
  suc_act tau_a tau_a e = refl
  suc_act tau_a (inp_a b) e = cc
  suc_act tau_a (out_a b d) e = cc
  suc_act tau_a (bout_a b) e = cc
  suc_act (inp_a a) tau_a e = cc
  suc_act (inp_a a) (inp_a b) e = cc
  suc_act (inp_a a) (out_a b d) e = cc
  suc_act (inp_a a) (bout_a b) e = cc
  suc_act (out_a a c) tau_a e = cc
  suc_act (out_a a c) (inp_a b) e = cc
  suc_act (out_a a c) (out_a b d) e = cc
  suc_act (out_a a c) (bout_a b) e = cc
  suc_act (bout_a a) tau_a e = cc
  suc_act (bout_a a) (inp_a b) e = cc
  suc_act (bout_a a) (out_a b d) e = cc
  suc_act (bout_a a) (bout_a b) e = cc

  suc_tau : (α : Act) → tau_a ≡ ren_a suc α → α ≡ tau_a
  suc_tau tau_a e = refl
  suc_tau (inp_a a) e = cc
  suc_tau (out_a a b) e = cc
  suc_tau (bout_a a) e = cc

  -- the condition of a communication beneath a restriction, and the channel of the side that may have the restricted name
  record Beneath (a b₀ : ℕ) (M N₀ M₀ : Cond) : Type 0 where
    channel : ℕ
    above : a ≡ suc channel
    cond : Cond
    lowered : M ~ map_p suc cond
    same : ((channel, b₀) ∷ (cond ++ N₀)) ~ M₀

  beneath : (a b b₀ : ℕ) (M N N₀ M₀ : Cond) → b ≡ suc b₀ → N ~ map_p suc N₀ → ((a, b) ∷ (M ++ N)) ~ map_p suc M₀ → Beneath a b₀ M N₀ M₀
  beneath zero b b₀ M N N₀ M₀ eb n s =
      let u = (lowered_alone ((0, b) ∷ (M ++ N)) M₀ s).0 in
      let v : δ 0 b ≡ 0 = ap (δ 0) eb in
      absurd (omega (arith, u, v))
  beneath (suc a) b b₀ M N N₀ M₀ eb n s =
      let (K, k) = lower M (Unif-left (δ 0) M N (lowered_alone ((suc a, b) ∷ (M ++ N)) M₀ s).1) in
      record {
        channel = a;
        above = refl;
        cond = K;
        lowered = k;
        same = unsuc_~ ((a, b₀) ∷ (K ++ N₀)) M₀
            (~_trans (map_p suc ((a, b₀) ∷ (K ++ N₀))) ((suc a, b) ∷ (M ++ N)) (map_p suc M₀)
            (~_sym ((suc a, b) ∷ (M ++ N)) (map_p suc ((a, b₀) ∷ (K ++ N₀))) (com_~ suc (suc a) b a b₀ M N K N₀ refl eb k n)) s);
      }

  into_com_l : (P Q : Term) (M N M₀ : Cond) (a b y : ℕ) (P' Z' : Term) → Trans Δ P M (out_a a y) P' → Pulled Δ suc Q N (inp_a b) Z'
      → ((a, b) ∷ (M ++ N)) ~ map_p suc M₀ → LikeAnswer M₀ tau_a (res (par P' (ren (inst y) Z'))) (par (res P) Q)
  into_com_l P Q M N M₀ a b zero P' Z' t p s =
      let (b₀, e, eb) = inv_inp suc b p.act p.acts in
      let w = beneath a b b₀ M N p.cond M₀ eb p.conds s in
      let q : Z' ≡ ren (lift suc) p.resid = p.resids ∙ ap (λ β. ren (under β suc) p.resid) e in
      record {
        cond = (w.channel, b₀) ∷ (w.cond ++ p.cond);
        resid = res (par P' p.resid);
        step = t_close_l {M = w.cond} (t_open {M₀ = w.cond} (cast Δ refl (ap (λ c. out_a c 0) w.above) refl t) w.lowered) (cast Δ refl e refl p.step);
        same = w.same;
        alike = l_from (ap (λ X. res (par P' X)) (ap (ren (inst 0)) q ∙ inst-lift_suc p.resid)) l_same;
      }
  into_com_l P Q M N M₀ a b (suc y) P' Z' t p s =
      let (b₀, e, eb) = inv_inp suc b p.act p.acts in
      let w = beneath a b b₀ M N p.cond M₀ eb p.conds s in
      let q : Z' ≡ ren (lift suc) p.resid = p.resids ∙ ap (λ β. ren (under β suc) p.resid) e in
      record {
        cond = (w.channel, b₀) ∷ (w.cond ++ p.cond);
        resid = par (res P') (ren (inst y) p.resid);
        step = t_com_l {M = w.cond} (t_res {M₀ = w.cond} {α = out_a w.channel y} (cast Δ refl (ap (λ c. out_a c (suc y)) w.above) refl t) w.lowered) (cast Δ refl e refl p.step);
        same = w.same;
        alike = l_from (ap (λ X. res (par P' X)) (ap (ren (inst (suc y))) q ∙ sym (ren-inst suc y p.resid))) (l_into P' (ren (inst y) p.resid));
      }

  into_com_r : (P Q : Term) (M N M₀ : Cond) (a b y : ℕ) (P' Z' : Term) → Trans Δ P M (inp_a a) P' → Pulled Δ suc Q N (out_a b y) Z'
      → ((a, b) ∷ (M ++ N)) ~ map_p suc M₀ → LikeAnswer M₀ tau_a (res (par (ren (inst y) P') Z')) (par (res P) Q)
  into_com_r P Q M N M₀ a b y P' Z' t p s =
      let (b₀, y₀, e, eb, ey) = inv_out suc b y p.act p.acts in
      let w = beneath a b b₀ M N p.cond M₀ eb p.conds s in
      let q : Z' ≡ ren suc p.resid = p.resids ∙ ap (λ β. ren (under β suc) p.resid) e in
      record {
        cond = (w.channel, b₀) ∷ (w.cond ++ p.cond);
        resid = par (ren (inst y₀) (res (ren swap P'))) p.resid;
        step = t_com_r {M = w.cond} (t_res {M₀ = w.cond} {α = inp_a w.channel} (cast Δ refl (ap inp_a w.above) refl t) w.lowered) (cast Δ refl e refl p.step);
        same = w.same;
        alike = l_from (ap₂ (λ X Y. res (par X Y)) (ap (λ z. ren (inst z) P') ey) q)
            (l_to (ap (λ X. par (res X) p.resid) (sym (inst-cross y₀ P'))) (l_into (ren (inst (suc y₀)) P') p.resid));
      }

  into_close_l : (P Q : Term) (M N M₀ : Cond) (a b : ℕ) (P' Z' : Term) → Trans Δ P M (bout_a a) P' → Pulled Δ suc Q N (inp_a b) Z'
      → ((a, b) ∷ (M ++ N)) ~ map_p suc M₀ → LikeAnswer M₀ tau_a (res (res (par P' Z'))) (par (res P) Q)
  into_close_l P Q M N M₀ a b P' Z' t p s =
      let (b₀, e, eb) = inv_inp suc b p.act p.acts in
      let w = beneath a b b₀ M N p.cond M₀ eb p.conds s in
      let q : Z' ≡ ren (lift suc) p.resid = p.resids ∙ ap (λ β. ren (under β suc) p.resid) e in
      record {
        cond = (w.channel, b₀) ∷ (w.cond ++ p.cond);
        resid = res (par (res (ren swap P')) p.resid);
        step = t_close_l {M = w.cond} (t_res {M₀ = w.cond} {α = bout_a w.channel} (cast Δ refl (ap bout_a w.above) refl t) w.lowered) (cast Δ refl e refl p.step);
        same = w.same;
        alike = l_from (ap (λ X. res (res (par P' X))) q) (like_sym (close_out P' p.resid));
      }

  into_close_r : (P Q : Term) (M N M₀ : Cond) (a b : ℕ) (P' Z' : Term) → Trans Δ P M (inp_a a) P' → Pulled Δ suc Q N (bout_a b) Z'
      → ((a, b) ∷ (M ++ N)) ~ map_p suc M₀ → LikeAnswer M₀ tau_a (res (res (par P' Z'))) (par (res P) Q)
  into_close_r P Q M N M₀ a b P' Z' t p s =
      let (b₀, e, eb) = inv_bout suc b p.act p.acts in
      let w = beneath a b b₀ M N p.cond M₀ eb p.conds s in
      let q : Z' ≡ ren (lift suc) p.resid = p.resids ∙ ap (λ β. ren (under β suc) p.resid) e in
      record {
        cond = (w.channel, b₀) ∷ (w.cond ++ p.cond);
        resid = res (par (res (ren swap P')) p.resid);
        step = t_close_r {M = w.cond} (t_res {M₀ = w.cond} {α = inp_a w.channel} (cast Δ refl (ap inp_a w.above) refl t) w.lowered) (cast Δ refl e refl p.step);
        same = w.same;
        alike = l_from (ap (λ X. res (res (par P' X))) q) (like_sym (close_out P' p.resid));
      }

  silently : {M₀ : Cond} {Y : Term} {Q : Term} (α : Act) → tau_a ≡ ren_a suc α → LikeAnswer M₀ tau_a (res Y) Q → LikeAnswer M₀ α (res (cross α Y)) Q
  silently {M₀} {Y} {Q} α e r = subst (λ β. LikeAnswer M₀ β (res (cross β Y)) Q) (sym (suc_tau α e)) r

  into_res : (P Q : Term) {Z : Term} {M : Cond} {β : Act} {Y : Term} → Trans Δ (par P Z) M β Y → Z ≡ ren suc Q → (α : Act) (M₀ : Cond)
      → β ≡ ren_a suc α → M ~ map_p suc M₀ → LikeAnswer M₀ α (res (cross α Y)) (par (res P) Q)
  into_res P Q (t_par_l {α = β} {P' = P'} t) z α M₀ e s =
      by (t_par_l (t_res {α = α} (cast Δ refl e refl t) s))
      (l_from (ap res (ap₂ (λ β Z. cross α (par P' (weak β Z))) e z ∙ moved_par_l α P' Q)) (l_into (cross α P') (weak α Q)))
  into_res P Q (t_par_r {M = M} {α = β} {Q' = Z'} t) z α M₀ e s =
      let p = pull Δ suc Q (of Δ z t) in
      let f : p.act ≡ α = suc_act p.act α (sym p.acts ∙ e) in
      let q : Z' ≡ ren (under α suc) p.resid = p.resids ∙ ap (λ γ. ren (under γ suc) p.resid) f in
      record {
        cond = p.cond;
        resid = par (weak α (res P)) p.resid;
        step = t_par_r (cast Δ refl f refl p.step);
        same = unsuc_~ p.cond M₀ (~_trans (map_p suc p.cond) M (map_p suc M₀) (~_sym M (map_p suc p.cond) p.conds) s);
        alike = l_from (ap res (ap₂ (λ β X. cross α (par (weak β P) X)) e q ∙ moved_par_r α P p.resid))
            (l_to (ap (λ X. par X p.resid) (sym (weak-res α P))) (l_into (cross α (weak (ren_a suc α) P)) p.resid));
      }
  into_res P Q (t_com_l {M = M} {N = N} {a = a} {b = b} {y = y} {P' = P'} {Q' = Z'} t u) z α M₀ e s =
      silently α e (into_com_l P Q M N M₀ a b y P' Z' t (pull Δ suc Q (of Δ z u)) s)
  into_res P Q (t_com_r {M = M} {N = N} {a = a} {b = b} {y = y} {P' = P'} {Q' = Z'} t u) z α M₀ e s =
      silently α e (into_com_r P Q M N M₀ a b y P' Z' t (pull Δ suc Q (of Δ z u)) s)
  into_res P Q (t_close_l {M = M} {N = N} {a = a} {b = b} {P' = P'} {Q' = Z'} t u) z α M₀ e s =
      silently α e (into_close_l P Q M N M₀ a b P' Z' t (pull Δ suc Q (of Δ z u)) s)
  into_res P Q (t_close_r {M = M} {N = N} {a = a} {b = b} {P' = P'} {Q' = Z'} t u) z α M₀ e s =
      silently α e (into_close_r P Q M N M₀ a b P' Z' t (pull Δ suc Q (of Δ z u)) s)

  not_out : {A : Type 0} (a b : ℕ) → tau_a ≡ out_a a b → A
  not_out a b e = let z : ◌≡◌ {A = ℕ} 0 1 = cc in absurd (omega arith)

  into_open : (P Q : Term) {Z : Term} {M : Cond} {β : Act} {Y : Term} → Trans Δ (par P Z) M β Y → Z ≡ ren suc Q → (a : ℕ) (M₀ : Cond)
      → β ≡ out_a (suc a) 0 → M ~ map_p suc M₀ → LikeAnswer M₀ (bout_a a) Y (par (res P) Q)
  into_open P Q (t_par_l {α = β} {P' = P'} t) z a M₀ e s =
      by (t_par_l (t_open (cast Δ refl e refl t) s)) (l_from (ap₂ (λ β Z. par P' (weak β Z)) e z) l_same)
  into_open P Q (t_par_r t) z a M₀ e s =
      let p = pull Δ suc Q (of Δ z t) in
      let (_, y, _, _, k) = inv_out suc (suc a) 0 p.act (sym e ∙ p.acts) in
      absurd (suc-ne-zero y (sym k))
  into_open P Q (t_com_l t u) z a M₀ e s = not_out (suc a) 0 e
  into_open P Q (t_com_r t u) z a M₀ e s = not_out (suc a) 0 e
  into_open P Q (t_close_l t u) z a M₀ e s = not_out (suc a) 0 e
  into_open P Q (t_close_r t u) z a M₀ e s = not_out (suc a) 0 e

  into : {P Q : Term} {M : Cond} {α : Act} {X : Term} → Trans Δ (res (par P (ren suc Q))) M α X → LikeAnswer M α X (par (res P) Q)
  into {P} {Q} (t_res {M₀ = M₀} {α = α} t s) = into_res P Q t refl α M₀ refl s
  into {P} {Q} (t_open {M₀ = M₀} {a = a} t s) = into_open P Q t refl a M₀ refl s

  -- two restrictions change places
  swap-act : (α : Act) → ren_a swap (ren_a suc (ren_a suc α)) ≡ ren_a suc (ren_a suc α)
  swap-act tau_a = refl
  swap-act (inp_a a) = refl
  swap-act (out_a a b) = refl
  swap-act (bout_a a) = refl

  swap_cond : (M M₁ M₀ : Cond) → M ~ map_p suc M₁ → M₁ ~ map_p suc M₀ → map_p swap M ~ map_p suc (map_p suc M₀)
  swap_cond M M₁ M₀ s r =
      subst (λ K. map_p swap M ~ K) (ap (map_p swap) (map_p-∘ suc suc M₀) ∙ map_p-∘ swap (suc ∘ suc) M₀ ∙ sym (map_p-∘ suc suc M₀))
      (map_p-~ swap M (map_p suc (map_p suc M₀)) (~_trans M (map_p suc M₁) (map_p suc (map_p suc M₀)) s (map_p-~ suc M₁ (map_p suc M₀) r)))

  braid : (P : Term) → ren swap (ren (lift swap) (ren swap P)) ≡ ren (lift swap) (ren swap (ren (lift swap) P))
  braid P =
      ap (ren swap) (ren-∘ (lift swap) swap P)
      ∙ ren_square swap (lift swap ∘ swap) (lift swap) (swap ∘ lift swap) P go
      ∙ ap (ren (lift swap)) (sym (ren-∘ swap (lift swap) P))
    where
      go : (n : ℕ) → swap (lift swap (swap n)) ≡ lift swap (swap (lift swap n))
      go zero = refl
      go (suc zero) = refl
      go (suc (suc zero)) = refl
      go (suc (suc (suc n))) = refl

  swapped : (α : Act) (P : Term)
      → Like (res (cross α (res (cross (ren_a suc α) P)))) (res (cross α (res (cross (ren_a suc α) (ren (under α swap) P)))))
  swapped tau_a P = l_swap P
  swapped (inp_a a) P = l_to (ap (λ X. res (res X)) (braid P)) (l_swap (ren (lift swap) (ren swap P)))
  swapped (out_a a b) P = l_swap P
  swapped (bout_a a) P = l_to (ap (λ X. res (res X)) (braid P)) (l_swap (ren (lift swap) (ren swap P)))

  swap-res : (P : Term) {M₁ : Cond} {β : Act} {Y : Term} → Trans Δ (res P) M₁ β Y → (α : Act) (M₀ : Cond) → β ≡ ren_a suc α → M₁ ~ map_p suc M₀
      → LikeAnswer M₀ α (res (cross α Y)) (res (res (ren swap P)))
  swap-res P (t_res {M = M} {M₀ = M₁} {α = β} {P' = P'} t s) α M₀ e r =
      let t₂ : Trans Δ (ren swap P) (map_p swap M) (ren_a suc (ren_a suc α)) (ren (under α swap) P') = cast Δ refl (swap-act α) (ap (λ f. ren f P') (under-ren_a suc swap (ren_a suc α) ∙ under-ren_a suc swap α)) (push Δ swap (cast Δ refl (ap (ren_a suc) e) refl t)) in
      by (t_res {α = α} (t_res {α = ren_a suc α} t₂ (swap_cond M M₁ M₀ s r)) (~_refl (map_p suc M₀)))
      (l_from (ap (λ γ. res (cross α (res (cross γ P')))) e) (swapped α P'))
  swap-res P (t_open {M = M} {M₀ = M₁} {a = a₁} {P' = P'} t s) α M₀ e r =
      let (a, f, ea) = inv_bout suc a₁ α e in
      let t₂ : Trans Δ (ren swap P) (map_p swap M) (out_a (suc (suc a)) 1) (ren swap P') = cast Δ refl (ap (λ c. out_a (swap (suc c)) 1) ea) refl (push Δ swap t) in
      subst (λ γ. LikeAnswer M₀ γ (res (cross γ P')) (res (res (ren swap P)))) (sym f)
      (by (t_open {a = a} (t_res {α = out_a (suc a) 0} t₂ (swap_cond M M₁ M₀ s r)) (~_refl (map_p suc M₀))) l_same)

  swap-res-res : {P : Term} {M : Cond} {α : Act} {X : Term} → Trans Δ (res (res P)) M α X → LikeAnswer M α X (res (res (ren swap P)))
  swap-res-res {P} (t_res {M₀ = M₀} {α = α} t s) = swap-res P t α M₀ refl s
  swap-res-res {P} (t_open {M₀ = M₀} {a = a} (t_res {M = M} {M₀ = M₁} {P' = P'} t s) r) =
      by (t_res {α = bout_a a} (t_open {a = suc a} (push Δ swap t) (swap_cond M M₁ M₀ s r)) (~_refl (map_p suc M₀)))
      (l_to (ap res (sym (ren-swap-swap P'))) l_same)

  -- parts that are alike have the same transitions, to parts that are alike
  like_answer : {P Q : Term} → Like P Q → {M : Cond} {α : Act} {X : Term} → Trans Δ P M α X → LikeAnswer M α X Q
  like_answer l_same t = by t l_same
  like_answer (l_then l m) {M} t =
      let r = like_answer l t in
      let q = like_answer m r.step in
      record { cond = q.cond; resid = q.resid; step = q.step; same = ~_trans q.cond r.cond M q.same r.same; alike = l_then r.alike q.alike }
  like_answer (l_sum_comm P Q) t = sum_comm t
  like_answer (l_sum_assoc P Q R) t = sum_assoc t
  like_answer (l_sum_assoc' P Q R) t = sum_assoc' t
  like_answer (l_sum_copy P) t = sum_copy t
  like_answer (l_sum_copy' P) t = by (t_sum_l t) l_same
  like_answer (l_sum_nil P) t = sum-nil t
  like_answer (l_sum_nil' P) t = by (t_sum_l t) l_same
  like_answer (l_par_comm P Q) t = par_comm t
  like_answer (l_par_assoc P Q R) t = par_assoc t
  like_answer (l_par_nil P) t = par-nil t
  like_answer (l_par_nil' P) t = nil-par t
  like_answer (l_out_of P Q) t = out_of t
  like_answer (l_into P Q) t = into t
  like_answer (l_swap P) t = swap-res-res t
  like_answer (l_par l T) t = beside_like (λ M α X u. like_answer l u) l T t
  like_answer (l_res l) t = beneath_like (λ M α X u. like_answer l u) t
  like_answer (l_tau l) t_tau = by t_tau l
  like_answer (l_inp a l) t_inp = by t_inp l
  like_answer (l_out a b l) t_out = by t_out l
  like_answer (l_bout a l) t_bout = by t_bout l
  like_answer (l_mat a b l) (t_mat {M = M} t) =
      let r = like_answer l t in record { cond = (a, b) ∷ r.cond; resid = r.resid; step = t_mat r.step; same = cons-~ (a, b) r.cond M r.same; alike = r.alike }
  like_answer (l_sum l T) (t_sum_l t) =
      let r = like_answer l t in record { cond = r.cond; resid = r.resid; step = t_sum_l r.step; same = r.same; alike = r.alike }
  like_answer (l_sum l T) (t_sum_r t) = by (t_sum_r t) l_same

  -- one relation, an open bisimulation under every distinction
  abbrev pub Alike : Rel
  Alike D P Q = Like P Q

  pub like_sim : {D : Pairs} {P Q : Term} → Like P Q → {M : Cond} {α : Act} {P' : Term} → Trans Δ P M α P' → Answer Δ Alike D P M α P' Q
  like_sim l {M} {α} t =
      let r = like_answer l t in
      record { cond = r.cond; act = α; resid = r.resid; step = r.step; implied = r.same.1; acts = refl; rel = like_ren (under α (cls M)) r.alike }

  pub like_back : {D : Pairs} {P Q : Term} → Like Q P → {M : Cond} {α : Act} {P' : Term} → Trans Δ P M α P' → Answer Δ (flip Alike) D P M α P' Q
  like_back l {M} {α} t =
      let r = like_answer (like_sym l) t in
      record { cond = r.cond; act = α; resid = r.resid; step = r.step; implied = r.same.1; acts = refl; rel = like_sym (like_ren (under α (cls M)) r.alike) }

  pub like_bisimilar : (D : Pairs) {P Q : Term} → Like P Q → Bisimilar Δ D P Q
  like_bisimilar D l = record {
    by = Alike;
    bisim = record { forth = record { answer = λ l t h. like_sim l t }; back = record { answer = λ l t h. like_back l t } };
    related = l;
  }

  pub like_related : (D : Pairs) → Irr D → {P Q : Term} → Like P Q → Related Δ D P Q
  like_related D irr l = to_published Δ irr (like_bisimilar D l)
