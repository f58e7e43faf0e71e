use native.Mathlib.Omega.{arith}
use Rattle.verdict_notes.specs.Notes.{Numbers}
use Rattle.verdict_notes.proofs.NoteLaws.{left_zero}
use Rattle.verdict_answers.proofs.Sweeping.{in_ok}
use Rattle.verdict_strikeout.proofs.StrikeLaws.{gone_kept, sole_strikes, relying_kept, equal_stays, survivor_noted, one_strikes}
use Rattle.verdict_strikeout.proofs.strike.strike_one.Goals as goal

pub returns-then-not-left_at : goal.returns-then-not-left_at
returns-then-not-left_at c =
    (gone_kept _ _ _ _ _ _ c.requires.3 _ c.left_at.ensures (c.if-not-left_at.true), c.requires.2.3, c.requires.2.4)

pub strike_sole-requires : goal.strike_sole-requires
strike_sole-requires c =
    (c.requires.0, omega (arith, c.requires.1.1, c.requires.1.3), omega (arith, c.requires.1.1, c.requires.1.2))

pub returns-then-not-examine : goal.returns-then-not-examine
returns-then-not-examine c = (
  sole_strikes _ _ _ _ _ _ c.requires.3 _ _ c.requires.0 (c.if-not-examine.true) (left_zero _ _ _ c.left_at.ensures (c.if-not-left_at.false)) c.strike_sole.ensures,
  c.requires.2.3,
  c.requires.2.4,
)

pub returns-then-relies_on_left : goal.returns-then-relies_on_left
returns-then-relies_on_left c = (
  relying_kept _ _ _ _ _ _ c.requires.3 (c.if-not-examine.false) _ c.requires.0 c.relies_on_left.ensures c.if-relies_on_left.true,
  c.requires.2.3,
  c.requires.2.4,
)

pub equal_parts-requires : goal.equal_parts-requires
equal_parts-requires c =
    omega (arith, c.requires.0, c.requires.1.1, c.requires.1.3)

pub returns-then-equal_parts : goal.returns-then-equal_parts
returns-then-equal_parts c = (
  equal_stays _ _ _ _ _ _ c.requires.3 (c.if-not-examine.false) _ c.requires.0 c.equal_parts.ensures c.if-equal_parts.true,
  c.requires.2.3,
  c.requires.2.4,
)

pub survives-answered-requires : goal.survives-answered-requires
survives-answered-requires c =
    (c.requires.0, c.requires.1, c.requires.2)

pub note-requires : goal.note-requires
note-requires c =
    (omega (arith, c.requires.0, c.requires.1.1, c.requires.1.3), in_ok Numbers c.in-Ok.is c.survives-answered.ensures.0.numbers)

pub returns-in-Ok : goal.returns-in-Ok
returns-in-Ok c = (
  survivor_noted _ _ _ _ _ _ c.requires.3 (c.if-not-examine.false) _ _ _ c.requires.0 c.survives-answered.ensures.0 c.in-Ok.is
      c.note.ensures,
  c.survives-answered.ensures.1,
  c.survives-answered.ensures.2,
)

pub strike-requires : goal.strike-requires
strike-requires c =
    omega (arith, c.requires.0, c.requires.1.1, c.requires.1.3)

pub returns : goal.returns
returns c = (
  rw c.strike.ensures (one_strikes _ _ _ _ _ _ c.requires.3 _ _ (left_zero _ _ _ c.left_at.ensures (c.if-not-left_at.false)) c.survives-answered.ensures.0 c.in_default.is),
  c.survives-answered.ensures.1,
  c.survives-answered.ensures.2,
)
