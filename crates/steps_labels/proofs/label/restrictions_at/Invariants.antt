use Prim.Native.Nat.{◌-◌, ◌≤◌, max}
use lib.ListN.{length}
use Rattle.steps_labels.proofs.RestrictionRuns.{Eights}
use Rattle.steps_labels.proofs.label.restrictions_at.Given as goal

abbrev pub invariant-loop-k : goal.invariant-loop-k
invariant-loop-k l = (l.at ≤ l.k) × (l.k ≤ max l.at (length l.src)) × Eights l.src l.at (l.k - l.at)
