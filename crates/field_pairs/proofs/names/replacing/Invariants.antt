use mathlib.Core.Path.{◌≡◌}
use Prim.Native.Nat.{◌≤◌}
use lib.ListN.{length}
use Rattle.calculus.specs.Term.{put}
use Rattle.terms.specs.Limits.{name_count}
use Rattle.terms_renaming.proofs.Filling.{Filling}
use Rattle.field_pairs.proofs.names.replacing.Given as goal

abbrev pub invariant-loop-i : goal.invariant-loop-i
invariant-loop-i l = Filling (put l.y l.x) l.initial.table l.table l.i × (l.i ≤ name_count) × (length l.initial.table ≡ name_count)
