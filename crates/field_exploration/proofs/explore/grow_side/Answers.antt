use native.Mathlib.Omega.{arith}
use mathlib.Core.Path.{refl}
use Rattle.field_growth.proofs.GrowingLaws.{steps-start, steps_next, steps_full, steps_end}
use borrow.Author.Rules.{rules}
use Rattle.field_exploration.proofs.explore.grow_side.Goals as goal

pub loop-i-init : goal.loop-i-init
loop-i-init c = (search rules, search rules, search rules, search rules, steps-start _ _ _ _ _ _ _ _ _ _ _ _ _ (omega arith))

pub returns-in_err-so_far : goal.returns-in_err-so_far
returns-in_err-so_far c =
    rw c.from_residual.ensures (steps_full _ _ _ _ _ _ _ _ _ _ _ _ _ (omega arith) _ _ _ _ c.loop-i.invariant.4 c.loop-i-test.true (rw c.in_err-so_far.was at
    c.grow_step.ensures))

pub loop-i-preserved : goal.loop-i-preserved
loop-i-preserved c =
    let g = rw c.in_ok-so_far.was at c.grow_step.ensures in let b = g.grows.within _ refl in (
      search rules,
      search rules,
      omega arith,
      b.1,
      steps_next _ _ _ _ _ _ _ _ _ _ _ _ _ (omega arith) _ _ _ _ _
          c.loop-i.invariant.4
          c.loop-i-test.true g,
    )

pub returns : goal.returns
returns c = steps_end _ _ _ _ _ _ _ _ _ _ _ _ _ _ _ _ c.loop-i.invariant.4 (omega arith)
