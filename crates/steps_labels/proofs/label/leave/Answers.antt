use native.Mathlib.Omega.{arith}
use borrow.Author.Rules.{rules}
use Rattle.steps_labels.proofs.RestrictionRuns.{leaving_none, leaving_one, leaving_all}
use Rattle.steps_labels.proofs.label.leave.Goals as goal

pub loop-left-init : goal.loop-left-init
loop-left-init c = (search rules, leaving_none _ _ _)

pub overflow_add-depth : goal.overflow_add-depth
overflow_add-depth c = let I = c.loop-left.invariant.0 in let h = c.requires in omega (arith, c.loop-left-test.true)

pub restricted-out-requires : goal.restricted-out-requires
restricted-out-requires c = let I = c.loop-left.invariant.0 in let h = c.requires in omega (arith, c.loop-left-test.true)

pub loop-left-preserved : goal.loop-left-preserved
loop-left-preserved c =
    let I = c.loop-left.invariant in (
      omega (arith, I.0),
      leaving_one _ _ _ c.loop-left.left _ c.loop-left.out _ (omega (arith, c.loop-left-test.true)) I.0 I.1
          c.restricted-out.ensures,
    )

pub returns : goal.returns
returns c = let I = c.loop-left.invariant in leaving_all _ _ _ _ _ (omega (arith, c.loop-left-test.false)) I.1
