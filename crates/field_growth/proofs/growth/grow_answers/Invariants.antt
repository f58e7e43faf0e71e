use mathlib.Core.Path.{◌≡◌}
use Prim.Native.Nat.{◌≤◌}
use lib.ListN.{length}
use Rattle.field_growth.proofs.GrowingLaws.{Answers, Looked}
use Rattle.field_growth.proofs.growth.grow_answers.Given as goal

abbrev pub invariant-loop-j : goal.invariant-loop-j
invariant-loop-j l =
    (l.j ≤ l.asked.count) × (length l.work ≡ length l.initial.work) × (l.known ≤ l.so_far) × (l.so_far ≤ l.asked.capacity)
    × Answers l.arities l.free l.apart l.asked.second l.area l.asked.at l.others l.asked.first l.asked.count l.asked.name l.asked.capacity l.initial.work l.known l.work l.so_far l.j
    × Looked l.arities l.free l.apart l.asked.second l.area l.asked.at l.others l.asked.first l.asked.count l.asked.name l.asked.capacity l.initial.work l.known l.work l.so_far l.j l.left l.led
