use Rattle.questions.proofs.Walk.{none_left, one_more}
use Rattle.questions.proofs.QuestionsIterator.next.Goals as goal

pub returns-then-self-eq0-clause-steps : goal.returns-then-self-eq0-clause-steps
returns-then-self-eq0-clause-steps c =
    let e = none_left c.args.self.now.input.now c.args.self.now.at c.args.self.now.count c.if-self-eq0.true in
    (e, e)

pub returns-clause-steps : goal.returns-clause-steps
returns-clause-steps c =
    rw c.field_at-question.ensures
    (rw c.after_field-self.ensures
    (one_more c.args.self.now.input.now c.args.self.now.at c.args.self.now.count c.if-self-eq0.false))
