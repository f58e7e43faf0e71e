use Prim.Native.Nat.{◌-◌, ◌≤◌}
use lib.ListN.{length}
use Rattle.steps_plans.specs.Beside.{FoundBeside}
use Rattle.steps_plans.proofs.beside.component_of.Given as goal

abbrev pub invariant-loop-b : goal.invariant-loop-b
invariant-loop-b l = (l.b ≤ length l.src) × FoundBeside l.src l.tally l.at l.silently l.number l.b l.n

abbrev pub decreases-loop-b : goal.decreases-loop-b
decreases-loop-b l = length l.src - l.b
