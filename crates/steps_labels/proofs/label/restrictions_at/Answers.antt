use mathlib.Core.Path.{◌≡◌, subst}
use Prim.Native.Nat.{◌-◌}
use Rattle.steps_labels.specs.LabelWalk.{RestrictionsIs}
use native.Mathlib.Omega.{arith}
use borrow.Author.Rules.{rules}
use Rattle.steps_labels.proofs.RestrictionRuns.{eights_none, eights_more, run_ended, run_whole}
use Rattle.steps_labels.proofs.label.restrictions_at.Goals as goal

pub loop-k-init : goal.loop-k-init
loop-k-init c = (omega arith, omega arith, eights_none _ _ _ (omega arith))

pub returns-then-src-k-ne-RESTRICTION : goal.returns-then-src-k-ne-RESTRICTION
returns-then-src-k-ne-RESTRICTION c = let I = c.loop-k.invariant in run_ended _ _ _ I.0 I.1 I.2 c.if-src-k-ne-RESTRICTION.true

pub loop-k-preserved : goal.loop-k-preserved
loop-k-preserved c =
    let I = c.loop-k.invariant in (
      search rules,
      omega (arith, c.loop-k-test.true),
      eights_more _ _ _ I.0
          c.if-src-k-ne-RESTRICTION.false I.2,
    )

pub returns : goal.returns
returns c =
    let I = c.loop-k.invariant in
    let e : c.loop-k.k - c.args.at ≡ c.saturating_sub.result = omega (arith, I.0, I.1, c.loop-k-test.false, c.saturating_sub.ensures) in
    subst (RestrictionsIs c.args.src.now c.args.at) e (run_whole _ _ _ I.0 I.1 I.2 c.loop-k-test.false)
