use Prim.Native.Nat.{◌+◌, ◌-◌, ◌*◌}
use lib.ListN.{length}
use Rattle.steps_passing.proofs.pass.+pass_pass_call.Given as goal

abbrev pub decreases-pass : goal.decreases-pass
decreases-pass l = 2 * (l.calls * 113 + (length l.src.now - l.at)) + 1

abbrev pub decreases-pass_call : goal.decreases-pass_call
decreases-pass_call l = 2 * (l.calls * 113 + (length l.src.now - l.at))
