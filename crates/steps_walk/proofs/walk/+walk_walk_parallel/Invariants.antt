use lib.ListN.{length}
use Prim.Native.Nat.{◌+◌, ◌-◌, ◌*◌}
use Rattle.steps_walk.proofs.walk.+walk_walk_parallel.Given as goal

abbrev pub decreases-walk : goal.decreases-walk
decreases-walk l = 2 * (length l.part.now - l.node.at) + 1

abbrev pub decreases-walk_parallel : goal.decreases-walk_parallel
decreases-walk_parallel l = 2 * (length l.part.now - l.node.at)
