use Rattle.terms_bytes.specs.Counted.{edition_from}
use Rattle.terms_bytes.specs.Writing.{IsAccepted, Plain}
use Rattle.terms_converting.specs.Questions.{AcceptedFrom}
use Rattle.terms_converting.proofs.PlainForm.{own-counted, own_plain}
use Rattle.steps_lister.proofs.operation.steps_either.Goals as goal

pub steps_counted-requires : goal.steps_counted-requires
unfolding IsAccepted AcceptedFrom edition_from
steps_counted-requires c =
    let a = c.args in
    (c.requires.0, own-counted a.question.now c.requires.0 c.is_counted.result c.is_counted.ensures c.if-is_counted.true c.requires.1)

pub returns-then-is_counted : goal.returns-then-is_counted
returns-then-is_counted c = c.steps_counted.ensures

pub steps_accepted-requires : goal.steps_accepted-requires
unfolding IsAccepted Plain
steps_accepted-requires c =
    let a = c.args in
    (c.requires.0, own_plain a.question.now c.requires.0 c.is_counted.result c.is_counted.ensures c.if-is_counted.false c.requires.1)

pub returns : goal.returns
returns c = c.steps_accepted.ensures
