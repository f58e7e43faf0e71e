use Prim.Native.Nat.{◌≤◌}
use Rattle.terms.specs.Limits.{name_count}
use Rattle.steps_conditions.proofs.ClassBytes.{Implied}
use Rattle.steps_conditions.proofs.condition.Condition.implies.Given as goal

abbrev pub invariant-loop-n : goal.invariant-loop-n
invariant-loop-n l = (l.n ≤ name_count) × Implied l.classes l.at l.others l.place l.n
