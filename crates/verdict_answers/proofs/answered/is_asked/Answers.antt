use borrow.Author.Count.{below_more}
use mathlib.Core.Path.{subst}
use Rattle.verdict_answers.specs.Striking.{CountsIs}
use Rattle.verdict_answers.proofs.LotLaws.{asked_not, asked_for, asked_for_none}
use native.Mathlib.Omega.{arith}
use Rattle.verdict_answers.proofs.answered.is_asked.Goals as goal

pub returns-then-not-allowed : goal.returns-then-not-allowed
returns-then-not-allowed c = asked_not _ _ _ _ _ _ _ c.allowed.ensures (c.if-not-allowed.true)

pub loop-name-init : goal.loop-name-init
loop-name-init c = (omega arith, λ y h k. absurd (omega arith))

pub returns-then-counts : goal.returns-then-counts
returns-then-counts c =
    asked_for _ _ _ _ _ _ _ c.allowed.ensures (c.if-not-allowed.false) _ _ c.loop-name.invariant.0 (omega arith) c.counts.ensures
    c.if-counts.true

pub loop-name-preserved : goal.loop-name-preserved
loop-name-preserved c =
    (omega arith, below_more _ _ c.loop-name.invariant.1 (λ h. subst (CountsIs _ _ _ _) c.if-counts.false c.counts.ensures))

pub returns : goal.returns
returns c =
    asked_for_none _ _ _ _ _ _ _ c.allowed.ensures (c.if-not-allowed.false) _ (omega arith) c.loop-name.invariant.1
