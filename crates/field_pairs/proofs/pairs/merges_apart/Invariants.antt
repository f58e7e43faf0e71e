use Prim.Native.Nat.{◌≤◌}
use Rattle.terms.specs.Limits.{name_count}
use Rattle.field_pairs.proofs.PairLaws.{Spared}
use Rattle.field_pairs.proofs.pairs.merges_apart.Given as goal

abbrev pub invariant-loop-m : goal.invariant-loop-m
invariant-loop-m l = (l.m ≤ name_count) × Spared l.apart l.area l.at l.n l.m
