use Prim.Native.Nat.{◌-◌, ◌≤◌}
use lib.ListN.{length}
use Rattle.steps_splicing.specs.Locating.{Leads}
use Rattle.steps_splicing.proofs.locate.locate.Given as goal

abbrev pub invariant-loop-a : goal.invariant-loop-a
invariant-loop-a l = (l.d ≤ l.a) × (l.a ≤ length l.src) × Leads l.src l.tally l.at l.depth l.i l.a l.d l.n

abbrev pub decreases-loop-a : goal.decreases-loop-a
decreases-loop-a l = length l.src - l.a
