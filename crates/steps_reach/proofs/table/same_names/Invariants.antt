use Prim.Native.Nat.{◌≤◌}
use Rattle.steps_reach.specs.CallTable.{Named}
use Rattle.steps_reach.proofs.table.same_names.Given as goal

abbrev pub invariant-loop-j : goal.invariant-loop-j
invariant-loop-j l = (l.j ≤ l.count) × Named l.table l.row l.names l.j
