use native.Mathlib.Omega.{arith}
use borrow.Author.Rules.{rules}
use Rattle.terms.specs.Edition.{two}
use Rattle.terms.proofs.OwnEdition.{in_own}
use Rattle.terms_bytes.specs.Counted.{edition_from}
use Rattle.terms_bytes.specs.Writing.{Plain}
use Rattle.terms_converting.specs.Questions.{AcceptedFrom}
use Rattle.terms_converting.proofs.PlainForm.{plain_may, plain_room, plain_size, plain_checked, plain_taken}
use Rattle.steps_lister.proofs.OperationLaws.{does_alike}
use Rattle.steps_lister.proofs.operation.steps_counted.Goals as goal

pub convert_question-n-requires : goal.convert_question-n-requires
unfolding AcceptedFrom edition_from
convert_question-n-requires c =
    let a = c.args in plain_may a.question.now c.requires.0 c.requires.1 _
    (search rules)

pub slice_bounds-plain-end : goal.slice_bounds-plain-end
unfolding AcceptedFrom edition_from
slice_bounds-plain-end c =
    let a = c.args in
    omega (arith, plain_room a.question.now c.requires.0 c.requires.1 _ _ _ c.convert_question-n.ensures)

pub slice_bounds-steps_accepted-end : goal.slice_bounds-steps_accepted-end
unfolding AcceptedFrom edition_from
slice_bounds-steps_accepted-end c =
    let a = c.args in
    plain_size a.question.now c.requires.0 c.requires.1 _ _ _ c.convert_question-n.ensures

pub steps_accepted-requires : goal.steps_accepted-requires
unfolding AcceptedFrom Plain edition_from
steps_accepted-requires c =
    let a = c.args in (
      c.requires.0,
      plain_checked a.question.now c.requires.0 c.requires.1 _ (plain_taken a.question.now c.requires.0 c.requires.1 _ _ _
          c.convert_question-n.ensures),
    )

pub returns : goal.returns
unfolding AcceptedFrom edition_from
returns c =
    let a = c.args in
    does_alike a.question.now _ c.requires.0 (in_own two a.question.now c.requires.0 c.requires.1) (plain_checked a.question.now
    c.requires.0 c.requires.1 _ (plain_taken a.question.now c.requires.0 c.requires.1 _ _ _ c.convert_question-n.ensures)) _ _ _ _ _
    c.steps_accepted.ensures
