use native.Mathlib.Omega.{arith}
use mathlib.Core.Path.{refl}
use Rattle.field_growth.proofs.GrowingLaws.{answers-start, answers_next, answers_full, looked_start, looked_next, looked_full, looked_end}
use borrow.Author.Rules.{rules}
use Rattle.field_growth.proofs.growth.grow_answers.Goals as goal

pub loop-j-init : goal.loop-j-init
loop-j-init c = (
  search rules,
  search rules,
  search rules,
  search rules,
  answers-start _ _ _ _ _ _ _ _ _ _ _ _ _ (omega arith),
  looked_start _ _ _ _ _ _ _ _ _ _
      _ _ _,
)

pub returns-in_err-added : goal.returns-in_err-added
returns-in_err-added c =
    rw c.from_residual.ensures (looked_full _ _ _ _ _ _ _ _ _ _ _ _ _ _ (answers_full _ _ _ _ _ _ _ _ _ _ _ _ _ _ _ _ _ c.loop-j.invariant.4 c.loop-j-test.true (rw
    c.in_err-added.was at c.grow_answer.ensures).grown))

pub loop-j-preserved : goal.loop-j-preserved
loop-j-preserved c =
    let a = rw c.in_ok-added.was at c.grow_answer.ensures in
    let g = a.grown in (
      search rules,
      search rules,
      omega (arith, (g.grows.within _ refl).0, c.loop-j.invariant.2),
      (g.grows.within _ refl).1,
      answers_next _ _ _ _ _ _ _ _ _ _ _ _ _ _ _ _ _ _
          c.loop-j.invariant.4
          c.loop-j-test.true g,
      looked_next _ _ _ _ _ _ _ _ _ _ _ _ _ _ _ _
          c.loop-j.left _ _ _ _
          c.loop-j.invariant.4
          c.loop-j.invariant.5
          c.loop-j-test.true
          c.join-led.ensures a,
    )

pub returns : goal.returns
returns c = looked_end _ _ _ _ _ _ _ _ _ _ _ _ _ _ _ _ _ _ c.loop-j.invariant.4 c.loop-j.invariant.5 (omega arith)
