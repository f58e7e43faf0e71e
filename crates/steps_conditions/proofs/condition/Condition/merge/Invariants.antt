use mathlib.Core.Path.{◌≡◌}
use Prim.Native.Nat.{◌≤◌}
use lib.ListN.{length, get_or}
use Rattle.terms_renaming.proofs.Filling.{Filling}
use Rattle.calculus.specs.Cond.{join}
use Rattle.steps_conditions.specs.Slots.{slot_count}
use Rattle.steps_conditions.proofs.condition.Condition.merge.Given as goal

abbrev pub invariant-loop-i : goal.invariant-loop-i
invariant-loop-i l = Filling (λ n. join l.x l.y (get_or l.initial.class n 0)) l.initial.class l.class l.i × (l.i ≤ slot_count) × (length l.initial.class ≡ slot_count)
