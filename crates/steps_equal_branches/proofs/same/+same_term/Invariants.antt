use Prim.Native.Nat.{◌-◌}
use lib.ListN.{length}
use Rattle.steps_equal_branches.proofs.same.+same_term.Given as goal

abbrev pub decreases-same_term : goal.decreases-same_term
decreases-same_term l = length l.src.now - l.at
