use native.Mathlib.Omega.{arith}
use Rattle.std.proofs.lemmas.Result.{err_from_is_err_and}
use Rattle.verdict_notes.specs.Notes.{Numbers}
use Rattle.verdict_answers.proofs.Sweeping.{in_ok}
use Rattle.verdict_survival.proofs.SurviveLaws.{past_limit_lem, first-fails, second_decides}
use borrow.Author.Rules.{rules}
use Rattle.verdict_survival.proofs.survive.survives.Goals as goal

pub take_up-taken-requires : goal.take_up-taken-requires
take_up-taken-requires c =
    (omega (arith, c.requires.0, c.requires.1.1, c.requires.1.3), c.requires.2.0, c.requires.2.1, c.requires.2.2, c.requires.2.3, c.requires.2.4)

pub relied_none-none-requires : goal.relied_none-none-requires
relied_none-none-requires c =
    omega (arith, c.requires.0, c.requires.1.1, c.requires.1.2)

pub side_answered-requires : goal.side_answered-requires
side_answered-requires c =
    let few = c.take_up-taken.ensures.0.few _ _ c.in-Some.is in (
      (c.requires.1, omega (arith, few.0, c.take_up-taken.ensures.1.room), omega (arith, few.1, c.take_up-taken.ensures.2.room)),
      c.relied_none-none.ensures,
    )

pub returns-in_err-relied : goal.returns-in_err-relied
returns-in_err-relied c =
    let e = err_from_is_err_and c.from_residual.result c.from_residual.ensures.1 in (
      rw (e.1, e.2) (first-fails _ _ _ _ _ _ c.requires.0 _ _ _ c.take_up-taken.ensures.0 _ _ c.in-Some.is _ c.arities_of-arities.ensures _ _
          c.side_answered.ensures _ c.in_err-relied.was),
      c.take_up-taken.ensures.1,
      c.take_up-taken.ensures.2,
    )

pub slice_bounds-side_answered-end : goal.slice_bounds-side_answered-end
slice_bounds-side_answered-end c =
    let o = c.take_up-taken.type_inv in
    search (rules, o)

pub side_answered-requires-2 : goal.side_answered-requires-2
side_answered-requires-2 c =
    let few = c.take_up-taken.ensures.0.few _ _ c.in-Some.is in (
      (c.requires.1, omega (arith, few.1, c.take_up-taken.ensures.2.room), omega (arith, few.0, c.take_up-taken.ensures.1.room)),
      in_ok Numbers c.in_ok-relied.was c.side_answered.ensures.numbers,
    )

pub returns-in_default : goal.returns-in_default
returns-in_default c = (
  past_limit_lem _ _ _ _ _ _ c.requires.0 _ _ _ c.take_up-taken.ensures.0 c.in_default.is _ c.relied_none-none.ensures,
  c.take_up-taken.ensures.1,
  c.take_up-taken.ensures.2,
)

pub returns : goal.returns
returns c = (
  second_decides _ _ _ _ _ _ c.requires.0 _ _ _ c.take_up-taken.ensures.0 _ _ c.in-Some.is _ c.arities_of-arities.ensures _ _
      c.side_answered.ensures _ _ c.in_ok-relied.was c.side_answered-2.ensures,
  c.take_up-taken.ensures.1,
  c.take_up-taken.ensures.2,
)
