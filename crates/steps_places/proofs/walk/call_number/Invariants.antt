use Rattle.steps_reach.proofs.TableLaws.{NotBelow}
use Rattle.steps_reach.specs.CallTable.{most_calls}
use Prim.Native.Nat.{◌≤◌}
use Rattle.steps_places.proofs.walk.call_number.Given as goal

abbrev pub invariant-loop-i : goal.invariant-loop-i
invariant-loop-i l = (l.i ≤ most_calls) × NotBelow l.table l.definition l.names l.count l.i
