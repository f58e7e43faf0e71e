use Prim.Native.Nat.{◌≤◌}
use Rattle.steps_conditions.specs.Slots.{HasSlotClasses}
use Rattle.steps_equal_branches.specs.Same.{chain}
use Rattle.steps_equal_branches.proofs.same.chain_condition.Given as goal

abbrev pub invariant-loop-j : goal.invariant-loop-j
invariant-loop-j l = (l.j ≤ l.n) × HasSlotClasses l.c.class (chain l.src l.args l.inner l.depth l.p l.j)
