use mathlib.Core.Path.{◌≡◌}
use Prim.Native.Nat.{◌≤◌}
use lib.ListN.{length}
use Rattle.terms_renaming.proofs.Filling.{Filling}
use Rattle.steps_conditions.specs.Names.{name_slots}
use Rattle.steps_splicing.proofs.splice.own_names.Given as goal

abbrev pub invariant-loop-i : goal.invariant-loop-i
invariant-loop-i l = Filling (λ k. k) l.initial.names l.names l.i × (l.i ≤ name_slots) × (length l.initial.names ≡ name_slots)
