use Prim.Native.Nat.{◌-◌, ◌≤◌}
use lib.ListN.{length}
use Rattle.steps_labels.specs.LabelWalk.{Leads}
use Rattle.steps_labels.proofs.label.origin_of.Given as goal

abbrev pub invariant-loop-b : goal.invariant-loop-b
invariant-loop-b l = (l.at ≤ l.b) × Leads l.src l.tally l.at l.i l.silent l.b l.n

abbrev pub decreases-loop-b : goal.decreases-loop-b
decreases-loop-b l = length l.src - l.b
