use Prim.Native.Nat.{◌≤◌}
use Rattle.terms.specs.Limits.{name_count}
use Rattle.field_pairs.proofs.NameFlagLaws.{Sought}
use Rattle.field_pairs.proofs.names.new_name.Given as goal

abbrev pub invariant-loop-n : goal.invariant-loop-n
invariant-loop-n l = (l.n ≤ name_count) × Sought l.free l.n
