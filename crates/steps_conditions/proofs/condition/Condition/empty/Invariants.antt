use mathlib.Core.Path.{◌≡◌}
use Prim.Native.Nat.{◌≤◌}
use lib.ListN.{length}
use Rattle.terms_renaming.proofs.Filling.{Filling}
use Rattle.steps_conditions.specs.Slots.{slot_count}
use Rattle.steps_conditions.proofs.condition.Condition.empty.Given as goal

abbrev pub invariant-loop-i : goal.invariant-loop-i
invariant-loop-i l = Filling (λ n. n) l.initial.class l.class l.i × (l.i ≤ slot_count) × (length l.initial.class ≡ slot_count)
