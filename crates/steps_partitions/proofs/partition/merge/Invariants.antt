use Rattle.steps_partitions.specs.Partition.{MergeIs}
use Prim.Native.Nat.{◌≤◌}
use mathlib.Core.Path.{◌≡◌}
use lib.ListN.{length}
use Rattle.steps_partitions.proofs.partition.merge.Given as goal

abbrev pub invariant-loop-i : goal.invariant-loop-i
invariant-loop-i l = (l.i ≤ l.count) × (length l.merged ≡ 8) × MergeIs l.classes l.i l.a l.b l.merged
