use Rattle.steps_places.specs.PlaceNumbers.{TableWeightIs}
use Prim.Native.Nat.{◌≤◌}
use Rattle.steps_places.proofs.numbers.table_weight.Given as goal

abbrev pub invariant-loop-r : goal.invariant-loop-r
invariant-loop-r l = (l.r ≤ l.rows) × TableWeightIs l.found l.weights l.r l.sum
