use Prim.Native.Nat.{◌+◌, ◌≤◌}
use Rattle.terms_bytes.specs.NameTable.{table_names}
use Rattle.steps_conditions.proofs.NameSlots.{Selves}
use Rattle.steps_passing.proofs.names.unchanged.Given as goal

abbrev pub invariant-loop-i : goal.invariant-loop-i
invariant-loop-i l = (l.i ≤ table_names + l.binders) × Selves l.names l.i l.same
