use Rattle.steps_places.specs.PlaceNumbers.{RowWeightIs}
use Rattle.steps_reach.specs.CallTable.{most_calls}
use Prim.Native.Nat.{◌≤◌}
use Rattle.steps_places.proofs.numbers.row_weight.Given as goal

abbrev pub invariant-loop-j : goal.invariant-loop-j
invariant-loop-j l = (l.j ≤ most_calls) × RowWeightIs l.set l.weights l.j l.sum
