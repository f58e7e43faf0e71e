use native.Mathlib.Omega.{arith}
use borrow.Author.Count.{below_more}
use borrow.Author.Rules.{rules}
use Rattle.verdict_notes.proofs.NoteLaws.{left_zero}
use Rattle.verdict_strikeout.proofs.StrikeLaws.{first_gone, none_gone}
use Rattle.verdict_start.proofs.passes.first_struck.Goals as goal

pub loop-i-init : goal.loop-i-init
loop-i-init c = (search rules, λ k h. absurd (omega arith))

pub returns-then-not-left_at : goal.returns-then-not-left_at
returns-then-not-left_at c =
    first_gone _ _ _ _ c.loop-i-test.true c.left_at.ensures (c.if-not-left_at.true) c.loop-i.invariant.1

pub loop-i-preserved : goal.loop-i-preserved
loop-i-preserved c = (
  search rules,
  below_more _ _ c.loop-i.invariant.1 (left_zero _ _ _ c.left_at.ensures (c.if-not-left_at.false)),
)

pub returns : goal.returns
returns c = none_gone _ _ (λ k h. c.loop-i.invariant.1 k (omega arith))
