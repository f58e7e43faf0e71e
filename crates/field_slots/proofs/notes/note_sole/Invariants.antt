use mathlib.Core.Path.{◌≡◌}
use Prim.Native.Nat.{◌≤◌}
use Rattle.field_slots.specs.Noted.{noted_count}
use Rattle.field_slots.proofs.notes.note_sole.Given as goal

abbrev pub invariant-loop-k : goal.invariant-loop-k
invariant-loop-k l = (l.k ≤ noted_count) × (l.work ≡ l.initial.work)
