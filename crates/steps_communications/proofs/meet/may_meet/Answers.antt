use mathlib.Core.Bool.{Bool, true, false, cond}
use mathlib.Core.Path.{◌≡◌, refl, sym, subst, ◌∙◌}
use Prim.Native.Nat.{ℕ}
use lib.Dec.{eqb}
use borrow.Author.Tests.{eq-eqb, ne_eqb, eqb-true}
use Rattle.steps_rows.specs.Rows.{action_kind}
use Rattle.steps_communications.specs.Meeting.{meets_between}
use Rattle.steps_communications.proofs.meet.may_meet.Goals as goal

no-input : (k : ℕ) → eqb (action_kind k) 1 ≡ true → eqb k 4 ≡ false
unfolding action_kind
no-input k e = go (eqb k 4) refl
  where
    go : (b : Bool) → eqb k 4 ≡ b → b ≡ false
    go true f = let z : false ≡ true = subst (λ (n : ℕ). eqb (action_kind n) 1 ≡ true) (eqb-true k 4 f) e in sym z
    go false f = refl

never : (b : Bool) → false ≡ cond b false false
never true = refl
never false = refl

pub returns-then-k2-eq-REPEATED : goal.returns-then-k2-eq-REPEATED
unfolding meets_between
returns-then-k2-eq-REPEATED c = simp (eq-eqb _ _ c.if-k2-eq-REPEATED.true)

pub returns-then-receives-2 : goal.returns-then-receives-2
unfolding meets_between
returns-then-receives-2 c =
    simp (
      ne_eqb _ _ c.if-k2-eq-REPEATED.false,
      sym c.receives.ensures ∙ c.if-receives.true,
      sym c.receives-then-receives.ensures ∙ c.if-receives-2.true,
    )

pub returns-then-receives : goal.returns-then-receives
unfolding meets_between
returns-then-receives c =
    simp (
      ne_eqb _ _ c.if-k2-eq-REPEATED.false,
      sym c.receives.ensures ∙ c.if-receives.true,
      sym c.receives-then-receives.ensures ∙ c.if-receives-2.false,
    ) c.is_between.ensures

pub returns-then-receives-3 : goal.returns-then-receives-3
unfolding meets_between
returns-then-receives-3 c =
    let e = sym c.receives-2.ensures ∙ c.if-receives-3.true in
    simp (no-input _ e, sym c.receives.ensures ∙ c.if-receives.false, e) c.is_between-then-receives-3.ensures

pub returns : goal.returns
unfolding meets_between
returns c =
    simp (sym c.receives.ensures ∙ c.if-receives.false, sym c.receives-2.ensures ∙ c.if-receives-3.false) (never (eqb c.args.k2 4))
