use native.Mathlib.Omega.{arith}
use borrow.Author.Rules.{rules}
use Rattle.field_growth.proofs.GrowingLaws.{no_answer_yet, no_answer_next, answer-first, answer_nowhere}
use Rattle.field_growth.proofs.growth.first_answer.Goals as goal

pub loop-j-init : goal.loop-j-init
loop-j-init c = (search rules, no_answer_yet _ _ _ _)

pub returns-then-answers : goal.returns-then-answers
returns-then-answers c = answer-first _ _ _ _ _ (omega arith) c.loop-j.invariant.1 _ c.answers.ensures c.if-answers.true

pub loop-j-preserved : goal.loop-j-preserved
loop-j-preserved c =
    (search rules, no_answer_next _ _ _ _ _ (omega arith) c.loop-j.invariant.1 _ c.answers.ensures c.if-answers.false)

pub returns : goal.returns
returns c = answer_nowhere _ _ _ _ c.loop-j.j (omega arith) c.loop-j.invariant.1
