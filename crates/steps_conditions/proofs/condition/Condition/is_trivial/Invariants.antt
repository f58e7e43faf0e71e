use Prim.Native.Nat.{◌≤◌}
use Rattle.terms.specs.Limits.{name_count}
use Rattle.steps_conditions.proofs.ClassBytes.{OwnBelow}
use Rattle.steps_conditions.proofs.condition.Condition.is_trivial.Given as goal

abbrev pub invariant-loop-n : goal.invariant-loop-n
invariant-loop-n l = (l.n ≤ name_count) × OwnBelow l.classes l.at l.n l.own
