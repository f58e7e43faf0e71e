use Rattle.terms_bytes.specs.Counted.{edition_from}
use Rattle.terms_bytes.specs.Writing.{IsAccepted, Plain}
use Rattle.terms_converting.specs.Questions.{AcceptedFrom}
use Rattle.terms_converting.proofs.PlainForm.{own-counted, own_plain}
use Rattle.verdict_judge.proofs.JudgeLaws.{own_of_plain}
use Rattle.verdict_judge.proofs.judge.judge_either.Goals as goal

pub judge_counted-requires : goal.judge_counted-requires
unfolding IsAccepted AcceptedFrom edition_from
judge_counted-requires c =
    let a = c.args in (
      c.requires.0,
      c.requires.1,
      c.requires.2,
      (
        c.requires.3.0,
        own-counted a.question.now c.requires.3.0 c.is_counted.result
            c.is_counted.ensures c.if-is_counted.true c.requires.3.1,
      ),
    )

pub returns-then-is_counted : goal.returns-then-is_counted
returns-then-is_counted c = c.judge_counted.ensures

pub judge_accepted-requires : goal.judge_accepted-requires
unfolding IsAccepted Plain
judge_accepted-requires c =
    let a = c.args in (
      c.requires.0,
      c.requires.1,
      c.requires.2,
      (
        c.requires.3.0,
        own_plain a.question.now c.requires.3.0 c.is_counted.result c.is_counted.ensures c.if-is_counted.false c.requires.3.1,
      ),
    )

pub returns : goal.returns
unfolding IsAccepted
returns c =
    let a = c.args in
    own_of_plain _ a.question.now a.question.now a.capacity a.work.now _ _ c.requires.3.0 c.requires.3.1 (own_plain a.question.now
    c.requires.3.0 c.is_counted.result c.is_counted.ensures c.if-is_counted.false c.requires.3.1) c.judge_accepted.ensures
