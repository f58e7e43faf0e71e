use native.Mathlib.Omega.{arith}
use Rattle.field_growth.proofs.GrowingLaws.{no_answer_left, answer-left, answer_mirrored, answer_looked}
use Rattle.field_growth.proofs.growth.grow_answer.Goals as goal

pub returns-then-not-answers : goal.returns-then-not-answers
returns-then-not-answers c =
    no_answer_left _ _ _ _ _ _ _ _ _ _ _ _ (omega arith) (rw (c.if-not-answers.true) at c.answers.ensures)

pub returns-then-same_header : goal.returns-then-same_header
returns-then-same_header c =
    answer-left _ _ _ _ _ _ _ _ _ _ _ _ _ _ (answer_mirrored _ _ _ _ _ _ _ _ _ _ _ _ (omega arith) (rw (c.if-not-answers.false) at c.answers.ensures) c.if-asked.true _ c.same_header.ensures c.if-same_header.true)

pub returns : goal.returns
returns c =
    answer_looked _ _ _ _ _ _ _ _ _ _ _ _ (rw (c.if-not-answers.false) at c.answers.ensures) _ c.successor-key.ensures
    _ _ c.add.ensures
