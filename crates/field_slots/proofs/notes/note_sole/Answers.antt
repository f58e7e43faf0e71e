use native.Mathlib.Omega.{arith}
use mathlib.Core.Path.{refl, ap}
use lib.ListN.{length}
use Rattle.field_slots.proofs.NotedLaws.{notes_none, notes_put}
use borrow.Author.Rules.{rules}
use Rattle.field_slots.proofs.notes.note_sole.Goals as goal

pub loop-k-init : goal.loop-k-init
loop-k-init c = (omega arith, refl)

pub note_at-m-requires : goal.note_at-m-requires
note_at-m-requires c =
    (omega (arith, ap length c.loop-k.invariant.1, c.requires.0), c.loop-k-test.true)

pub returns-then-m-n : goal.returns-then-m-n
returns-then-m-n c = rw c.loop-k.invariant.1 (notes_none _ _ _)

pub put_note-requires : goal.put_note-requires
put_note-requires c =
    (omega (arith, ap length c.loop-k.invariant.1, c.requires.0), c.loop-k-test.true, c.requires.1)

pub returns-then-m-eq0 : goal.returns-then-m-eq0
returns-then-m-eq0 c =
    notes_put _ _ _ _ _ _ c.loop-k.invariant.1 c.loop-k-test.true (omega (arith, c.requires.0)) c.put_note.ensures

pub loop-k-preserved : goal.loop-k-preserved
loop-k-preserved c = (search rules, c.loop-k.invariant.1)

pub returns : goal.returns
returns c = rw c.loop-k.invariant.1 (notes_none _ _ _)
