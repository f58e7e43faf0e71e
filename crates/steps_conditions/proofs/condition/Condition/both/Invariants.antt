use Prim.Native.Nat.{◌≤◌}
use Rattle.steps_conditions.specs.Slots.{slot_count}
use Rattle.steps_conditions.proofs.ConditionArrays.{Joined}
use Rattle.steps_conditions.proofs.condition.Condition.both.Given as goal

abbrev pub invariant-loop-i : goal.invariant-loop-i
invariant-loop-i l = Joined l.initial.c.class l.o l.c.class l.i × (l.i ≤ slot_count)
