use mathlib.Core.Path.{◌≡◌}
use Prim.Native.Nat.{◌≤◌}
use lib.ListN.{length}
use Rattle.field_slots.specs.Noted.{noted_count}
use Rattle.field_slots.proofs.NotedLaws.{Clearing}
use Rattle.field_slots.proofs.notes.clear_slot.Given as goal

abbrev pub invariant-loop-k : goal.invariant-loop-k
invariant-loop-k l = (l.k ≤ noted_count) × (length l.work ≡ length l.initial.work) × Clearing l.initial.work l.i l.work l.k
