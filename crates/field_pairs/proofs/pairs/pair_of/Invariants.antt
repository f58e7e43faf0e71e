use Rattle.terms.specs.Limits.{name_count}
use Rattle.field_pairs.proofs.PairNumbering.{InRow}
use Rattle.field_pairs.proofs.pairs.pair_of.Given as goal

abbrev pub invariant-loop-a : goal.invariant-loop-a
invariant-loop-a l = InRow name_count l.k l.a l.left

abbrev pub decreases-loop-a : goal.decreases-loop-a
decreases-loop-a l = l.left
