use lib.ListN.{length}
use Prim.Native.Nat.{◌+◌, ◌-◌, ◌*◌}
use Rattle.steps_rows.proofs.rows.+unconditional_unconditional_call.Given as goal

abbrev pub decreases-unconditional : goal.decreases-unconditional
decreases-unconditional l = 4 * (l.calls * 113 + (length l.src.now - l.at)) + 3

abbrev pub decreases-unconditional_call : goal.decreases-unconditional_call
decreases-unconditional_call l = 4 * (l.calls * 113 + (length l.src.now - l.at)) + 2
