use Prim.Native.Nat.{◌+◌, ◌-◌, ◌*◌}
use lib.ListN.{length}
use Rattle.steps_reach.proofs.reach.+open_call_reach_term.Given as goal

abbrev pub decreases-open_call : goal.decreases-open_call
decreases-open_call l = 2 * ((64 - l.size) * 113 + (length l.src.now - l.at))

abbrev pub decreases-reach_term : goal.decreases-reach_term
decreases-reach_term l = 2 * ((64 - l.size) * 113 + (length l.src.now - l.at)) + 1
