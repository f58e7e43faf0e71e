use mathlib.Core.Path.{◌≡◌}
use Prim.Native.Nat.{◌≤◌}
use lib.ListN.{length}
use Rattle.calculus.specs.Cond.{join}
use Rattle.terms.specs.Limits.{name_count}
use Rattle.terms_renaming.proofs.Filling.{Filling}
use Rattle.terms_renaming.proofs.tables.merging.Given as goal

abbrev pub invariant-loop-i : goal.invariant-loop-i
invariant-loop-i l = Filling (join l.a l.b) l.initial.table l.table l.i × (l.i ≤ name_count) × (length l.initial.table ≡ name_count)
