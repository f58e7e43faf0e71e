use mathlib.Core.Path.{◌≡◌}
use Prim.Native.Nat.{◌≤◌}
use lib.ListN.{length}
use Rattle.field_slots.specs.Noted.{noted_count}
use Rattle.verdict_notes.proofs.NoteLaws.{Noting}
use Rattle.verdict_notes.proofs.relied.note.Given as goal

abbrev pub invariant-loop-k : goal.invariant-loop-k
invariant-loop-k l = (l.k ≤ noted_count) × (length l.work ≡ length l.initial.work) × Noting l.initial.work l.i l.slots l.work l.k
