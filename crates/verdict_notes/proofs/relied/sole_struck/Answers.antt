use native.Mathlib.Omega.{arith}
use Rattle.verdict_notes.proofs.NoteLaws.{none_sole, sole_is_struck}
use Rattle.verdict_notes.proofs.relied.sole_struck.Goals as goal

pub returns-then-number-eq0 : goal.returns-then-number-eq0
returns-then-number-eq0 c = none_sole _ _ _

pub returns-then-count-number : goal.returns-then-count-number
returns-then-count-number c = none_sole _ _ _

pub returns-then-not-left_at : goal.returns-then-not-left_at
returns-then-not-left_at c =
    sole_is_struck _ _ _ _ _ _ (omega (arith, c.loop-k-test.true)) c.note_at-number.ensures c.if-number-eq0.false (omega (
      arith,
      c.if-count-number.false,
    )) c.left_at.ensures (c.if-not-left_at.true)

pub returns : goal.returns
returns c = none_sole _ _ _
