use Prim.Native.Nat.{◌≤◌}
use Rattle.steps_entries.proofs.EntryOrder.{Passed}
use Rattle.steps_entries.specs.Entries.{entry_from}
use Rattle.steps.specs.Limits.{step_bytes}
use Rattle.steps_entries.proofs.listed.precedes.Given as goal

abbrev pub invariant-loop-k : goal.invariant-loop-k
invariant-loop-k l = (l.k ≤ step_bytes) × Passed (entry_from l.a l.i) (entry_from l.b l.j) l.k
