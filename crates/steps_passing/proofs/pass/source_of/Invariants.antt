use Prim.Native.Nat.{◌-◌, ◌≤◌}
use lib.ListN.{length}
use Rattle.steps_passing.specs.Branching.{Acts}
use Rattle.steps_passing.proofs.pass.source_of.Given as goal

abbrev pub invariant-loop-b : goal.invariant-loop-b
invariant-loop-b l = (l.at ≤ l.b) × Acts l.src l.tally l.at l.number l.b l.n

abbrev pub decreases-loop-b : goal.decreases-loop-b
decreases-loop-b l = length l.src - l.b
