use Prim.Native.Nat.{◌≤◌}
use Rattle.field_pairs.specs.PairFlags.{pair_count}
use Rattle.field_pairs.proofs.Counting.{Passing}
use Rattle.field_pairs.proofs.PairLaws.{Unset}
use Rattle.field_pairs.proofs.pairs.none_apart.Given as goal

abbrev pub invariant-loop-k : goal.invariant-loop-k
invariant-loop-k l = (l.k ≤ pair_count) × Passing (Unset l.flags) l.k l.none
