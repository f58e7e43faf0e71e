use Prim.Native.Nat.{◌-◌}
use lib.ListN.{length}
use Rattle.fewest_search.proofs.search.+search.Given as goal

abbrev pub decreases-search : goal.decreases-search
decreases-search l = length l.pairs.now - l.at
