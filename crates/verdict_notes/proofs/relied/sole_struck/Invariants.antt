use Prim.Native.Nat.{◌≤◌}
use Rattle.field_slots.specs.Noted.{noted_count}
use Rattle.verdict_notes.proofs.relied.sole_struck.Given as goal

abbrev pub invariant-loop-k : goal.invariant-loop-k
invariant-loop-k l = l.k ≤ noted_count
