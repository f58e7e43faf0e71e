use mathlib.Core.Path.{◌≡◌}
use Prim.Native.Nat.{◌≤◌}
use lib.ListN.{length}
use Rattle.field_growth.proofs.GrowingLaws.{Steps}
use Rattle.field_exploration.proofs.explore.grow_side.Given as goal

abbrev pub invariant-loop-i : goal.invariant-loop-i
invariant-loop-i l =
    (l.i ≤ l.side.steps) × (length l.work ≡ length l.initial.work) × (l.known ≤ l.so_far) × (l.so_far ≤ l.side.capacity)
    × Steps l.arities l.free l.apart l.side.differ l.side.second l.side.taken l.area l.side.steps l.others l.side.count l.side.capacity l.initial.work l.known l.work l.so_far l.i
