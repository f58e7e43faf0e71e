use Prim.Native.Nat.{◌≤◌}
use lib.ListN.{get_or}
use Rattle.terms_bytes.specs.NameTable.{table_names}
use Rattle.terms_renaming.proofs.Filling.{Filling}
use Rattle.steps_conditions.specs.Names.{turn}
use Rattle.steps_passing.proofs.names.free_bytes.Given as goal

abbrev pub invariant-loop-i : goal.invariant-loop-i
invariant-loop-i l = Filling (λ n. turn table_names 128 l.levels (get_or l.names n 0)) l.initial.table l.table l.i × (l.i ≤ table_names)
