use Prim.Native.Nat.{◌≤◌}
use Rattle.steps_reach.proofs.TableLaws.{NotBelow}
use Rattle.steps_reach.proofs.table.is_listed.Given as goal

abbrev pub invariant-loop-i : goal.invariant-loop-i
invariant-loop-i l = (l.i ≤ l.size) × NotBelow l.table l.definition l.names l.count l.i
