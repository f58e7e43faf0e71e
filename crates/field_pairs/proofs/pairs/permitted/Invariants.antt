use Prim.Native.Nat.{◌≤◌}
use Rattle.terms.specs.Limits.{name_count}
use Rattle.field_pairs.proofs.PairLaws.{Respected}
use Rattle.field_pairs.proofs.pairs.permitted.Given as goal

abbrev pub invariant-loop-n : goal.invariant-loop-n
invariant-loop-n l = (l.n ≤ name_count) × Respected l.apart l.area l.at l.n
