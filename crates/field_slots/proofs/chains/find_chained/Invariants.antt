use Prim.Native.Nat.{◌≤◌}
use Rattle.field_slots.proofs.ChainLaws.{Searching}
use Rattle.field_slots.proofs.chains.find_chained.Given as goal

abbrev pub invariant-loop-link : goal.invariant-loop-link
invariant-loop-link l = (l.left ≤ l.count) × Searching l.capacity l.work l.count l.key l.link l.left

abbrev pub decreases-loop-link : goal.decreases-loop-link
decreases-loop-link l = l.left
