use mathlib.Core.Path.{◌≡◌}
use Prim.Native.Nat.{◌≤◌}
use lib.ListN.{length}
use Rattle.terms.specs.Limits.{name_count}
use Rattle.field_growth.proofs.GrowingLaws.{Names}
use Rattle.field_growth.proofs.growth.grow_names.Given as goal

abbrev pub invariant-loop-name : goal.invariant-loop-name
invariant-loop-name l =
    (l.name ≤ name_count) × (length l.work ≡ length l.initial.work) × (l.known ≤ l.so_far) × (l.so_far ≤ l.asked.capacity)
    × Names l.arities l.free l.apart l.asked.second l.asked.taken l.area l.asked.at l.others l.asked.first l.asked.count l.asked.capacity l.initial.work l.known l.work l.so_far l.name
