use Prim.Native.Nat.{◌+◌, ◌≤◌}
use Rattle.terms_bytes.specs.NameTable.{table_names}
use Rattle.terms_renaming.proofs.Filling.{Filling}
use Rattle.steps_conditions.proofs.NameSlots.{bound_byte}
use Rattle.steps_passing.proofs.names.bound_bytes.Given as goal

abbrev pub invariant-loop-j : goal.invariant-loop-j
invariant-loop-j l = Filling (bound_byte l.names l.binders l.levels l.initial.table) l.initial.table l.table (table_names + l.j) × (l.j ≤ l.binders)
