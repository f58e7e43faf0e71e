use Rattle.steps_places.proofs.BitLaws.{DoneBelow}
use Rattle.steps_reach.specs.CallTable.{most_calls}
use Prim.Native.Nat.{◌≤◌}
use Rattle.steps_places.proofs.bits.next_pending.Given as goal

abbrev pub invariant-loop-j : goal.invariant-loop-j
invariant-loop-j l = (l.j ≤ most_calls) × DoneBelow l.set l.done l.j
