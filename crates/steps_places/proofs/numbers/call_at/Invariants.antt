use Rattle.steps_places.proofs.NumberLaws.{Left}
use Rattle.steps_reach.specs.CallTable.{most_calls}
use Prim.Native.Nat.{◌≤◌}
use Rattle.steps_places.proofs.numbers.call_at.Given as goal

abbrev pub invariant-loop-j : goal.invariant-loop-j
invariant-loop-j l = (l.j ≤ most_calls) × Left l.set l.weights l.number l.j l.left
