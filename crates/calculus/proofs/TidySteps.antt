-- A term and its tidied form have the same transitions, up to tidying what they lead to; so they are related under every distinction.
-- Assumes nothing.
use Prim.Native.Nat.{ℕ, zero, suc}
use mathlib.Core.List.{List, [], ◌∷◌, ◌++◌, reverse}
use mathlib.Core.Logic.{inr}
use mathlib.Core.Path.{◌≡◌, refl, sym, ◌∙◌, ap, ap₂, subst}
use native.Mathlib.Nat.{suc_inj}
use native.Mathlib.Omega.{arith}
use Rattle.calculus.specs.Abstraction.{swap, Act, tau_a, inp_a, out_a, bout_a, weak}
use Rattle.calculus.specs.Cond.{Cond, Pairs, map_p, cls}
use Rattle.calculus.specs.Definitions.{Defs, at, opened}
use Rattle.calculus.specs.Distinction.{Irr}
use Rattle.calculus.specs.OpenBisimulation.{Rel, flip, Related}
use Rattle.calculus.specs.Term.{Term, nil, tau, inp, out, bout, mat, sum, par, res, call, lift, ren, inst}
use Rattle.calculus.specs.Tidy.{restrict_used, tidy}
use Rattle.calculus.proofs.Conditions.{◌~◌, ~_refl, ~_sym, ~_trans, unsuc_~}
use Rattle.calculus.proofs.PublishedSteps.{cons-~, ++-~}
use Rattle.calculus.proofs.Renaming.{ren_triangle}
use Rattle.calculus.proofs.Tidying.{Used, used, unused, used?, restrict-used, restrict_lifted, free_tidy, tidy-ren, tidy-tidy}
use Rattle.calculus.proofs.Working.{ren_a, under, cross, Trans, t_tau, t_inp, t_out, t_bout, t_mat, t_sum_l, t_sum_r, t_par_l, t_par_r, t_com_l, t_com_r, t_close_l, t_close_r, t_res, t_open, t_call}
use Rattle.calculus.proofs.WorkingBisimulation.{Sim}
use Rattle.calculus.proofs.WorkingNames.{act_free}
use Rattle.calculus.proofs.WorkingRenaming.{cast, of, push, pull}
use Rattle.calculus.proofs.PublishedBisimulation.{to_published}

-- What stands around a step.
tidy-weak : (α : Act) (P : Term) → tidy (weak α P) ≡ weak α (tidy P)
tidy-weak tau_a P = refl
tidy-weak (inp_a a) P = tidy-ren suc P
tidy-weak (out_a a b) P = refl
tidy-weak (bout_a a) P = tidy-ren suc P

tidy-cross : (α : Act) (P : Term) → tidy (cross α P) ≡ cross α (tidy P)
tidy-cross tau_a P = refl
tidy-cross (inp_a a) P = tidy-ren swap P
tidy-cross (out_a a b) P = refl
tidy-cross (bout_a a) P = tidy-ren swap P

swap-lift_suc : (n : ℕ) → swap (lift suc n) ≡ suc n
swap-lift_suc zero = refl
swap-lift_suc (suc n) = refl

-- a result lifted over the restriction, when the binder of the action has crossed it
cross_lifted : (α : Act) (P : Term) → cross α (ren (under α suc) P) ≡ ren suc P
cross_lifted tau_a P = refl
cross_lifted (inp_a a) P = ren_triangle swap (lift suc) suc P swap-lift_suc
cross_lifted (out_a a b) P = refl
cross_lifted (bout_a a) P = ren_triangle swap (lift suc) suc P swap-lift_suc

ren_a_suc_inj : (α β : Act) → ren_a suc α ≡ ren_a suc β → α ≡ β
ren_a_suc_inj tau_a tau_a e = refl
ren_a_suc_inj tau_a (inp_a b) e = let z : ◌≡◌ {A = ℕ} 0 1 = cc in absurd (omega arith)
ren_a_suc_inj tau_a (out_a b y) e = let z : ◌≡◌ {A = ℕ} 0 1 = cc in absurd (omega arith)
ren_a_suc_inj tau_a (bout_a b) e = let z : ◌≡◌ {A = ℕ} 0 1 = cc in absurd (omega arith)
ren_a_suc_inj (inp_a a) tau_a e = let z : ◌≡◌ {A = ℕ} 0 1 = cc in absurd (omega arith)
ren_a_suc_inj (inp_a a) (inp_a b) e = ap inp_a (suc_inj (cc))
ren_a_suc_inj (inp_a a) (out_a b y) e = let z : ◌≡◌ {A = ℕ} 0 1 = cc in absurd (omega arith)
ren_a_suc_inj (inp_a a) (bout_a b) e = let z : ◌≡◌ {A = ℕ} 0 1 = cc in absurd (omega arith)
ren_a_suc_inj (out_a a x) tau_a e = let z : ◌≡◌ {A = ℕ} 0 1 = cc in absurd (omega arith)
ren_a_suc_inj (out_a a x) (inp_a b) e = let z : ◌≡◌ {A = ℕ} 0 1 = cc in absurd (omega arith)
ren_a_suc_inj (out_a a x) (out_a b y) e = ap₂ out_a (suc_inj (cc)) (suc_inj (cc))
ren_a_suc_inj (out_a a x) (bout_a b) e = let z : ◌≡◌ {A = ℕ} 0 1 = cc in absurd (omega arith)
ren_a_suc_inj (bout_a a) tau_a e = let z : ◌≡◌ {A = ℕ} 0 1 = cc in absurd (omega arith)
ren_a_suc_inj (bout_a a) (inp_a b) e = let z : ◌≡◌ {A = ℕ} 0 1 = cc in absurd (omega arith)
ren_a_suc_inj (bout_a a) (out_a b y) e = let z : ◌≡◌ {A = ℕ} 0 1 = cc in absurd (omega arith)
ren_a_suc_inj (bout_a a) (bout_a b) e = ap bout_a (suc_inj (cc))

-- equal when tidied, and so within a restriction
same-restricted : (α : Act) (X Y : Term) → tidy X ≡ tidy Y → tidy (res (cross α X)) ≡ tidy (res (cross α Y))
unfolding tidy
same-restricted α X Y e = ap restrict_used (tidy-cross α X ∙ ap (cross α) e ∙ sym (tidy-cross α Y))

same_inst : (y : ℕ) (X Y : Term) → tidy X ≡ tidy Y → tidy (ren (inst y) X) ≡ tidy (ren (inst y) Y)
same_inst y X Y e = tidy-ren (inst y) X ∙ ap (ren (inst y)) e ∙ sym (tidy-ren (inst y) Y)

-- a restriction that binds nothing goes from the result too
dropped : (α : Act) (X R : Term) → tidy X ≡ tidy (ren (under α suc) R) → tidy (res (cross α X)) ≡ tidy R
unfolding tidy
dropped α X R e =
    ap restrict_used
    (tidy-cross α X ∙ ap (cross α) (e ∙ tidy-ren (under α suc) R) ∙ cross_lifted α (tidy R))
    ∙ restrict_lifted (tidy R)

module _ (Δ : Defs) where
  -- Q makes the transition (M, α) to P' up to the form of the condition and to tidying
  pub record Likewise (Q : Term) (M : Cond) (α : Act) (P' : Term) : Type 0 where
    pub cond : Cond
    pub resid : Term
    pub step : Trans Δ Q cond α resid
    pub conds : cond ~ M
    pub resids : tidy resid ≡ tidy P'

  at_source : {Q R : Term} {M : Cond} {α : Act} {X : Term} → Q ≡ R → Likewise Q M α X → Likewise R M α X
  at_source {M = M} {α} {X} e l = subst (λ Q. Likewise Q M α X) e l

  likewise_res : {Q : Term} {M M₀ : Cond} {α : Act} {X : Term} → M ~ map_p suc M₀ → Likewise Q M (ren_a suc α) X → Likewise (res Q) M₀ α (res (cross α X))
  likewise_res {M = M} {M₀} {α} {X} s l = record {
    cond = M₀;
    resid = res (cross α l.resid);
    step = t_res l.step (~_trans l.cond M (map_p suc M₀) l.conds s);
    conds = ~_refl M₀;
    resids = same-restricted α l.resid X l.resids;
  }

  likewise_open : {Q : Term} {M M₀ : Cond} {a : ℕ} {X : Term} → M ~ map_p suc M₀ → Likewise Q M (out_a (suc a) 0) X → Likewise (res Q) M₀ (bout_a a) X
  likewise_open {M = M} {M₀} s l = record {
    cond = M₀;
    resid = l.resid;
    step = t_open l.step (~_trans l.cond M (map_p suc M₀) l.conds s);
    conds = ~_refl M₀;
    resids = l.resids;
  }

  -- beneath a restriction that binds nothing
  unrestricted : (Q : Term) {M M₀ : Cond} {α : Act} {X : Term} → M ~ map_p suc M₀ → Likewise (ren suc Q) M (ren_a suc α) X
      → Likewise Q M₀ α (res (cross α X))
  unrestricted Q {M} {M₀} {α} {X} s l =
      let p = pull Δ suc Q l.step in
      let e : α ≡ p.act = ren_a_suc_inj α p.act p.acts in
      record {
        cond = p.cond;
        resid = p.resid;
        step = cast Δ refl (sym e) refl p.step;
        conds = unsuc_~ p.cond M₀
            (~_trans (map_p suc p.cond) l.cond (map_p suc M₀) (~_sym l.cond (map_p suc p.cond) p.conds)
            (~_trans l.cond M (map_p suc M₀) l.conds s));
        resids = sym (dropped α X p.resid (sym l.resids ∙ ap tidy (p.resids ∙ ap (λ β. ren (under β suc) p.resid) (sym e))));
      }

  -- one rule at a time, from the parts of a tidied term to the term
  from_par : {P Q : Term} {α : Act} {M : Cond} {X : Term} → Likewise P M α X → Likewise (par P Q) M α (par X (weak α (tidy Q)))
  unfolding tidy
  from_par {Q = Q} {α} l = record {
    cond = l.cond;
    resid = par l.resid (weak α Q);
    step = t_par_l l.step;
    conds = l.conds;
    resids = ap₂ par l.resids (sym (ap tidy (sym (tidy-weak α Q)) ∙ tidy-tidy (weak α Q)));
  }

  from_par_r : {P Q : Term} {α : Act} {M : Cond} {X : Term} → Likewise Q M α X → Likewise (par P Q) M α (par (weak α (tidy P)) X)
  unfolding tidy
  from_par_r {P} {α = α} l = record {
    cond = l.cond;
    resid = par (weak α P) l.resid;
    step = t_par_r l.step;
    conds = l.conds;
    resids = ap₂ par (sym (ap tidy (sym (tidy-weak α P)) ∙ tidy-tidy (weak α P))) l.resids;
  }

  -- a restriction, given what stands beneath it
  from_res : (P : Term) → ((M : Cond) (α : Act) (X : Term) → Trans Δ (tidy P) M α X → Likewise P M α X)
      → {M : Cond} {α : Act} {X : Term} → Trans Δ (restrict_used (tidy P)) M α X → Likewise (res P) M α X
  from_res P rec {M} {α} {X} t = go (used? (tidy P))
    where
      within : {M : Cond} {α : Act} {X : Term} → Trans Δ (res (tidy P)) M α X → Likewise (res P) M α X
      within (t_res {M = M} {α = α} {P' = X} s e) = likewise_res e (rec M (ren_a suc α) X s)
      within (t_open {M = M} {a = a} {P' = X} s e) = likewise_open e (rec M (out_a (suc a) 0) X s)

      go : Used (tidy P) → Likewise (res P) M α X
      go (used u) = within (of Δ (restrict-used (tidy P) u) t)
      go (unused Q e) =
          let s : Trans Δ (tidy P) (map_p suc M) (ren_a suc α) (ren (under α suc) X) =
          of Δ (sym e) (push Δ suc (of Δ (ap restrict_used e ∙ restrict_lifted Q) t)) in
          let l = rec (map_p suc M) (ren_a suc α) (ren (under α suc) X) s in
          record {
            cond = M;
            resid = res (cross α l.resid);
            step = t_res l.step l.conds;
            conds = ~_refl M;
            resids = dropped α l.resid X l.resids;
          }

  -- the term does what the tidied term does
  pub untidied_steps : (P : Term) {M : Cond} {α : Act} {X : Term} → Trans Δ (tidy P) M α X → Likewise P M α X
  unfolding tidy
  untidied_steps nil {M = M} {α = α} {X = X} t = elim t [ ]
  untidied_steps (tau P) t_tau = record { cond = []; resid = P; step = t_tau; conds = (tt, tt); resids = sym (tidy-tidy P) }
  untidied_steps (inp a P) t_inp = record { cond = []; resid = P; step = t_inp; conds = (tt, tt); resids = sym (tidy-tidy P) }
  untidied_steps (out a b P) t_out = record { cond = []; resid = P; step = t_out; conds = (tt, tt); resids = sym (tidy-tidy P) }
  untidied_steps (bout a P) t_bout = record { cond = []; resid = P; step = t_bout; conds = (tt, tt); resids = sym (tidy-tidy P) }
  untidied_steps (mat a b P) (t_mat {M = M} t) =
      let l = untidied_steps P t in
      record { cond = (a, b) ∷ l.cond; resid = l.resid; step = t_mat l.step; conds = cons-~ (a, b) l.cond M l.conds; resids = l.resids }
  untidied_steps (sum P Q) (t_sum_l t) =
      let l = untidied_steps P t in record { cond = l.cond; resid = l.resid; step = t_sum_l l.step; conds = l.conds; resids = l.resids }
  untidied_steps (sum P Q) (t_sum_r t) =
      let l = untidied_steps Q t in record { cond = l.cond; resid = l.resid; step = t_sum_r l.step; conds = l.conds; resids = l.resids }
  untidied_steps (par P Q) (t_par_l t) = from_par (untidied_steps P t)
  untidied_steps (par P Q) (t_par_r t) = from_par_r (untidied_steps Q t)
  untidied_steps (par P Q) (t_com_l {M = M} {N = N} {a = a} {b = b} {y = y} {Q' = Q'} t u) =
      let l = untidied_steps P t in
      let r = untidied_steps Q u in
      record {
        cond = (a, b) ∷ (l.cond ++ r.cond);
        resid = par l.resid (ren (inst y) r.resid);
        step = t_com_l l.step r.step;
        conds = cons-~ (a, b) (l.cond ++ r.cond) (M ++ N) (++-~ l.cond M r.cond N l.conds r.conds);
        resids = ap₂ par l.resids (same_inst y r.resid Q' r.resids);
      }
  untidied_steps (par P Q) (t_com_r {M = M} {N = N} {a = a} {b = b} {y = y} {P' = P'} t u) =
      let l = untidied_steps P t in
      let r = untidied_steps Q u in
      record {
        cond = (a, b) ∷ (l.cond ++ r.cond);
        resid = par (ren (inst y) l.resid) r.resid;
        step = t_com_r l.step r.step;
        conds = cons-~ (a, b) (l.cond ++ r.cond) (M ++ N) (++-~ l.cond M r.cond N l.conds r.conds);
        resids = ap₂ par (same_inst y l.resid P' l.resids) r.resids;
      }
  untidied_steps (par P Q) (t_close_l {M = M} {N = N} {a = a} {b = b} t u) =
      let l = untidied_steps P t in
      let r = untidied_steps Q u in
      record {
        cond = (a, b) ∷ (l.cond ++ r.cond);
        resid = res (par l.resid r.resid);
        step = t_close_l l.step r.step;
        conds = cons-~ (a, b) (l.cond ++ r.cond) (M ++ N) (++-~ l.cond M r.cond N l.conds r.conds);
        resids = ap restrict_used (ap₂ par l.resids r.resids);
      }
  untidied_steps (par P Q) (t_close_r {M = M} {N = N} {a = a} {b = b} t u) =
      let l = untidied_steps P t in
      let r = untidied_steps Q u in
      record {
        cond = (a, b) ∷ (l.cond ++ r.cond);
        resid = res (par l.resid r.resid);
        step = t_close_r l.step r.step;
        conds = cons-~ (a, b) (l.cond ++ r.cond) (M ++ N) (++-~ l.cond M r.cond N l.conds r.conds);
        resids = ap restrict_used (ap₂ par l.resids r.resids);
      }
  untidied_steps (res P) t = from_res P (λ M α X s. untidied_steps P s) t
  untidied_steps (call k xs) {M} {α} {X} t = record { cond = M; resid = X; step = t; conds = ~_refl M; resids = refl }

-- Two sets of definitions whose bodies have one tidied form.
module _ (Δ Δ₁ : Defs) (arities : (k : ℕ) → Δ.arity k ≡ Δ₁.arity k) (bodies : (k : ℕ) → tidy (Δ.body k) ≡ tidy (Δ₁.body k)) where
  same-opened : (k : ℕ) (xs : List ℕ) → tidy (opened xs (Δ.body k)) ≡ tidy (opened xs (Δ₁.body k))
  same-opened k xs = tidy-ren (at (reverse xs)) (Δ.body k) ∙ ap (ren (at (reverse xs))) (bodies k) ∙ sym (tidy-ren (at (reverse xs)) (Δ₁.body k))

  -- the tidied term does what the term does
  pub tidied-steps : {P : Term} {M : Cond} {α : Act} {P' : Term} → Trans Δ P M α P' → Likewise Δ₁ (tidy P) M α P'
  unfolding tidy
  tidied-steps (t_tau {P = P}) = record { cond = []; resid = tidy P; step = t_tau; conds = (tt, tt); resids = tidy-tidy P }
  tidied-steps (t_inp {P = P}) = record { cond = []; resid = tidy P; step = t_inp; conds = (tt, tt); resids = tidy-tidy P }
  tidied-steps (t_out {P = P}) = record { cond = []; resid = tidy P; step = t_out; conds = (tt, tt); resids = tidy-tidy P }
  tidied-steps (t_bout {P = P}) = record { cond = []; resid = tidy P; step = t_bout; conds = (tt, tt); resids = tidy-tidy P }
  tidied-steps (t_mat {a = a} {b = b} {M = M} t) =
      let l = tidied-steps t in
      record { cond = (a, b) ∷ l.cond; resid = l.resid; step = t_mat l.step; conds = cons-~ (a, b) l.cond M l.conds; resids = l.resids }
  tidied-steps (t_sum_l t) =
      let l = tidied-steps t in record { cond = l.cond; resid = l.resid; step = t_sum_l l.step; conds = l.conds; resids = l.resids }
  tidied-steps (t_sum_r t) =
      let l = tidied-steps t in record { cond = l.cond; resid = l.resid; step = t_sum_r l.step; conds = l.conds; resids = l.resids }
  tidied-steps (t_par_l {Q = Q} {α = α} t) =
      let l = tidied-steps t in
      record {
        cond = l.cond;
        resid = par l.resid (weak α (tidy Q));
        step = t_par_l l.step;
        conds = l.conds;
        resids = ap₂ par l.resids (ap tidy (sym (tidy-weak α Q)) ∙ tidy-tidy (weak α Q));
      }
  tidied-steps (t_par_r {P = P} {α = α} t) =
      let l = tidied-steps t in
      record {
        cond = l.cond;
        resid = par (weak α (tidy P)) l.resid;
        step = t_par_r l.step;
        conds = l.conds;
        resids = ap₂ par (ap tidy (sym (tidy-weak α P)) ∙ tidy-tidy (weak α P)) l.resids;
      }
  tidied-steps (t_com_l {M = M} {N = N} {a = a} {b = b} {y = y} {Q' = Q'} t u) =
      let l = tidied-steps t in
      let r = tidied-steps u in
      record {
        cond = (a, b) ∷ (l.cond ++ r.cond);
        resid = par l.resid (ren (inst y) r.resid);
        step = t_com_l l.step r.step;
        conds = cons-~ (a, b) (l.cond ++ r.cond) (M ++ N) (++-~ l.cond M r.cond N l.conds r.conds);
        resids = ap₂ par l.resids (same_inst y r.resid Q' r.resids);
      }
  tidied-steps (t_com_r {M = M} {N = N} {a = a} {b = b} {y = y} {P' = P'} t u) =
      let l = tidied-steps t in
      let r = tidied-steps u in
      record {
        cond = (a, b) ∷ (l.cond ++ r.cond);
        resid = par (ren (inst y) l.resid) r.resid;
        step = t_com_r l.step r.step;
        conds = cons-~ (a, b) (l.cond ++ r.cond) (M ++ N) (++-~ l.cond M r.cond N l.conds r.conds);
        resids = ap₂ par (same_inst y l.resid P' l.resids) r.resids;
      }
  tidied-steps (t_close_l {M = M} {N = N} {a = a} {b = b} t u) =
      let l = tidied-steps t in
      let r = tidied-steps u in
      record {
        cond = (a, b) ∷ (l.cond ++ r.cond);
        resid = res (par l.resid r.resid);
        step = t_close_l l.step r.step;
        conds = cons-~ (a, b) (l.cond ++ r.cond) (M ++ N) (++-~ l.cond M r.cond N l.conds r.conds);
        resids = ap restrict_used (ap₂ par l.resids r.resids);
      }
  tidied-steps (t_close_r {M = M} {N = N} {a = a} {b = b} t u) =
      let l = tidied-steps t in
      let r = tidied-steps u in
      record {
        cond = (a, b) ∷ (l.cond ++ r.cond);
        resid = res (par l.resid r.resid);
        step = t_close_r l.step r.step;
        conds = cons-~ (a, b) (l.cond ++ r.cond) (M ++ N) (++-~ l.cond M r.cond N l.conds r.conds);
        resids = ap restrict_used (ap₂ par l.resids r.resids);
      }
  tidied-steps (t_res {P = P} {M = M} {M₀ = M₀} {α = α} {P' = P'} t s) = go (used? (tidy P)) (tidied-steps t)
    where
      go : Used (tidy P) → Likewise Δ₁ (tidy P) M (ren_a suc α) P' → Likewise Δ₁ (restrict_used (tidy P)) M₀ α (res (cross α P'))
      go (used u) l = at_source Δ₁ (sym (restrict-used (tidy P) u)) (likewise_res Δ₁ s l)
      go (unused Q e) l = at_source Δ₁ (sym (ap restrict_used e ∙ restrict_lifted Q)) (unrestricted Δ₁ Q s (at_source Δ₁ e l))
  tidied-steps (t_open {P = P} t s) =
      at_source Δ₁ (sym (restrict-used (tidy P) (free_tidy 0 P (act_free Δ t 0 (inr refl))))) (likewise_open Δ₁ s (tidied-steps t))
  tidied-steps (t_call {k = k} {xs = xs} e t) =
      let l = untidied_steps Δ₁ (opened xs (Δ₁.body k)) (of Δ₁ (same-opened k xs) (tidied-steps t).step) in
      record {
        cond = l.cond;
        resid = l.resid;
        step = t_call (e ∙ arities k) l.step;
        conds = ~_trans l.cond (tidied-steps t).cond _ l.conds (tidied-steps t).conds;
        resids = l.resids ∙ (tidied-steps t).resids;
      }

  -- Terms with one tidied form do the same, under either.
  pub alike-under : (P Q : Term) → tidy P ≡ tidy Q → {M : Cond} {α : Act} {P' : Term} → Trans Δ P M α P' → Likewise Δ₁ Q M α P'
  alike-under P Q e {M} t =
      let l = tidied-steps t in
      let k = untidied_steps Δ₁ Q (of Δ₁ e l.step) in
      record {
        cond = k.cond;
        resid = k.resid;
        step = k.step;
        conds = ~_trans k.cond l.cond M k.conds l.conds;
        resids = k.resids ∙ l.resids;
      }

module _ (Δ : Defs) where
  pub alike-steps : (P Q : Term) → tidy P ≡ tidy Q → {M : Cond} {α : Act} {P' : Term} → Trans Δ P M α P' → Likewise Δ Q M α P'
  alike-steps P Q e t = alike-under Δ Δ (λ k. refl) (λ k. refl) P Q e t

  -- So they are related (`related_tidied` of Theorems).
  SameTidied : Rel
  SameTidied D P Q = tidy P ≡ tidy Q

  alike_sim : Sim Δ SameTidied SameTidied
  unfolding SameTidied
  alike_sim = record {
    answer = λ {D} {P} {Q} r {M} {α} {P'} t resp.
        let k = alike-steps P Q r t in
        record {
          cond = k.cond;
          act = α;
          resid = k.resid;
          step = k.step;
          implied = k.conds.1;
          acts = refl;
          rel = tidy-ren (under α (cls M)) P' ∙ ap (ren (under α (cls M))) (sym k.resids) ∙ sym (tidy-ren (under α (cls M)) k.resid);
        };
  }

  alike_back : Sim Δ (flip SameTidied) (flip SameTidied)
  unfolding SameTidied
  alike_back = record {
    answer = λ {D} {P} {Q} r {M} {α} {P'} t resp.
        let k = alike-steps P Q (sym r) t in
        record {
          cond = k.cond;
          act = α;
          resid = k.resid;
          step = k.step;
          implied = k.conds.1;
          acts = refl;
          rel = tidy-ren (under α (cls M)) k.resid ∙ ap (ren (under α (cls M))) k.resids ∙ sym (tidy-ren (under α (cls M)) P');
        };
  }

  pub related_same_tidied : (D : Pairs) → Irr D → (P Q : Term) → tidy P ≡ tidy Q → Related Δ D P Q
  unfolding SameTidied
  related_same_tidied D irr P Q e =
      to_published Δ irr (record { by = SameTidied; bisim = record { forth = alike_sim; back = alike_back }; related = e })
