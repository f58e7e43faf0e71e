use native.Mathlib.Omega.{arith}
use Rattle.verdict_answers.proofs.LeftLaws.{nothing_left, found_left, found_struck}
use Rattle.verdict_answers.proofs.answered.find_left.Goals as goal

pub returns-in_err-i : goal.returns-in_err-i
returns-in_err-i c = rw c.from_residual.ensures (nothing_left _ _ _ _ (rw c.in_err-i.was at c.find_chained.ensures))

pub left_at-requires : goal.left_at-requires
left_at-requires c = omega (arith, c.find_chained.ensures.within _ c.in_ok-i.was)

pub returns-then-not-left_at : goal.returns-then-not-left_at
returns-then-not-left_at c =
    found_struck _ _ _ _ _ _ (rw c.in_ok-i.was at c.find_chained.ensures) c.left_at.ensures c.if-not-left_at.true

pub returns : goal.returns
returns c =
    found_left _ _ _ _ _ _ (rw c.in_ok-i.was at c.find_chained.ensures) c.left_at.ensures c.if-not-left_at.false
