use Rattle.steps_places.proofs.SlotLaws.{NotYet}
use Prim.Native.Nat.{◌≤◌}
use Rattle.steps_places.proofs.walk.slot_of.Given as goal

abbrev pub invariant-loop-j : goal.invariant-loop-j
invariant-loop-j l = (l.j ≤ l.count) × NotYet l.table l.count l.name l.j
