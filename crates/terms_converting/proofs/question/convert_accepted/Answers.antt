use lib.ListN.{length}
use mathlib.Core.Path.{sym, ap, ◌∙◌}
use native.Mathlib.Omega.{arith}
use Rattle.terms.specs.Edition.{other}
use Rattle.terms_bytes.specs.Counted.{edition_from}
use Rattle.terms_bytes.specs.Writing.{Writes}
use Rattle.terms_converting.specs.Questions.{AcceptedFrom, ConvertsQuestion, WritesFitting}
use Rattle.terms_converting.proofs.FittingLaws.{may_convert, aside_room, aside_bytes, accepted_other, converted_does}
use borrow.Author.Rules.{rules}
use Rattle.terms_converting.proofs.question.convert_accepted.Goals as goal

-- src/question.rt:103:9
pub convert_question-n-requires : goal.convert_question-n-requires
unfolding AcceptedFrom
convert_question-n-requires c =
    let a = c.args in may_convert a.question.now a.counted c.requires.0
    c.requires.1 _ (search rules)

-- src/question.rt:104:19
pub slice_bounds-converted-end : goal.slice_bounds-converted-end
unfolding AcceptedFrom ConvertsQuestion Writes
slice_bounds-converted-end c =
    let a = c.args in
    omega (
      arith,
      (c.convert_question-n.ensures c.requires.0 c.requires.1).0,
      aside_room a.question.now a.counted c.requires.0
          c.requires.1,
    )

-- src/question.rt:104:19
pub slice_bounds-write_fitting-end : goal.slice_bounds-write_fitting-end
unfolding AcceptedFrom ConvertsQuestion Writes
slice_bounds-write_fitting-end c =
    let a = c.args in
    let w = c.convert_question-n.ensures c.requires.0 c.requires.1 in
    let l = ap length (aside_bytes a.question.now a.counted c.requires.0 c.requires.1 _ _ _ w) ∙ sym w.0 in
    sym l

-- src/question.rt:98:1
pub returns : goal.returns
unfolding AcceptedFrom ConvertsQuestion WritesFitting
returns c =
    let a = c.args in
    converted_does a.question.now a.counted c.requires.0 c.requires.1 a.area.now _ _ (c.write_fitting.ensures (other
    (edition_from a.counted)) a.question.now c.requires.0 (accepted_other a.question.now a.counted c.requires.0 c.requires.1)
    (aside_bytes a.question.now a.counted c.requires.0 c.requires.1 _ _ _ (c.convert_question-n.ensures c.requires.0 c.requires.1)))
