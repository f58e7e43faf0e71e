use Rattle.steps_places.proofs.NumberLaws.{RowsLeft}
use Prim.Native.Nat.{◌≤◌}
use Rattle.steps_places.proofs.numbers.row_at.Given as goal

abbrev pub invariant-loop-r : goal.invariant-loop-r
invariant-loop-r l = (l.r ≤ l.rows) × RowsLeft l.found l.weights l.number l.r l.left
