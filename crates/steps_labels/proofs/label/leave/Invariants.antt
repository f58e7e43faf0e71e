use Prim.Native.Nat.{◌≤◌}
use Rattle.steps_labels.proofs.RestrictionRuns.{Leaving}
use Rattle.steps_labels.proofs.label.leave.Given as goal

abbrev pub invariant-loop-left : goal.invariant-loop-left
invariant-loop-left l = (l.left ≤ l.count) × Leaving l.initial.out l.depth l.count l.left l.out
