use mathlib.Core.Path.{◌≡◌}
use Prim.Native.Nat.{◌+◌, ◌*◌, ◌≤◌}
use lib.ListN.{length}
use Rattle.field_pairs.specs.PairFlags.{pair_count}
use Rattle.fewest_lists.specs.Lists.{PairsPut}
use Rattle.fewest_lists.proofs.PairWriting.{below}
use Rattle.fewest_lists.proofs.lists.write_pairs.Given as goal

abbrev pub invariant-loop-k : goal.invariant-loop-k
invariant-loop-k l = (l.k ≤ pair_count) × (l.end ≤ l.put + 2 * l.k) × (length l.out ≡ length l.initial.out) × PairsPut (below l.flags l.k) l.initial.out l.put l.end l.out
