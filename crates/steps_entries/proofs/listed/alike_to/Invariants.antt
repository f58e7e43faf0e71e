use Prim.Native.Nat.{◌-◌, ◌≤◌}
use Rattle.steps_entries.specs.Entries.{Alike}
use Rattle.steps.specs.Limits.{step_bytes}
use Rattle.steps_entries.proofs.listed.alike_to.Given as goal

abbrev pub invariant-loop-k : goal.invariant-loop-k
invariant-loop-k l = (l.k ≤ step_bytes) × Alike l.a l.i l.b l.j l.k

abbrev pub decreases-loop-k : goal.decreases-loop-k
decreases-loop-k l = step_bytes - l.k
