use Prim.Native.Nat.{ℕ, ◌<◌, ◌≤◌}
use Rattle.field_slots.specs.Noted.{noted_count}
use Rattle.verdict_notes.proofs.NoteLaws.{NoteLeft}
use Rattle.verdict_notes.proofs.relied.relies_on_left.Given as goal

abbrev pub invariant-loop-k : goal.invariant-loop-k
invariant-loop-k l = (l.k ≤ noted_count) × ((j : ℕ) → j < l.k → NoteLeft l.work l.count l.i j)
