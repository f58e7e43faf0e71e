use native.Mathlib.Omega.{arith}
use borrow.Author.Rules.{rules}
use Rattle.terms.specs.Edition.{two}
use Rattle.terms.proofs.OwnEdition.{in_own}
use Rattle.terms_bytes.specs.Counted.{edition_from}
use Rattle.terms_bytes.specs.Writing.{Plain}
use Rattle.terms_converting.specs.Questions.{AcceptedFrom}
use Rattle.terms_converting.proofs.PlainForm.{plain_may, plain_room, plain_size, plain_checked, plain_taken}
use Rattle.verdict_judge.proofs.JudgeLaws.{own_of_plain}
use Rattle.verdict_judge.proofs.judge.judge_counted.Goals as goal

pub convert_question-n-requires : goal.convert_question-n-requires
unfolding AcceptedFrom edition_from
convert_question-n-requires c =
    let a = c.args in plain_may a.question.now c.requires.3.0
    c.requires.3.1 _ (search rules)

pub slice_bounds-plain-end : goal.slice_bounds-plain-end
unfolding AcceptedFrom edition_from
slice_bounds-plain-end c =
    let a = c.args in
    omega (arith, plain_room a.question.now c.requires.3.0 c.requires.3.1 _ _ _ c.convert_question-n.ensures)

pub slice_bounds-judge_accepted-end : goal.slice_bounds-judge_accepted-end
unfolding AcceptedFrom edition_from
slice_bounds-judge_accepted-end c =
    let a = c.args in
    plain_size a.question.now c.requires.3.0 c.requires.3.1 _ _ _ c.convert_question-n.ensures

pub judge_accepted-requires : goal.judge_accepted-requires
unfolding AcceptedFrom edition_from Plain
judge_accepted-requires c =
    let a = c.args in (
      c.requires.0,
      c.requires.1,
      c.requires.2,
      (
        c.requires.3.0,
        plain_checked a.question.now c.requires.3.0 c.requires.3.1 _
            (plain_taken a.question.now c.requires.3.0 c.requires.3.1 _ _ _ c.convert_question-n.ensures),
      ),
    )

pub returns : goal.returns
unfolding AcceptedFrom edition_from
returns c =
    let a = c.args in
    own_of_plain _ a.question.now _ a.capacity a.work.now _ _ c.requires.3.0 (in_own two a.question.now c.requires.3.0
    c.requires.3.1) (plain_checked a.question.now c.requires.3.0 c.requires.3.1 _ (plain_taken a.question.now c.requires.3.0
    c.requires.3.1 _ _ _ c.convert_question-n.ensures)) c.judge_accepted.ensures
