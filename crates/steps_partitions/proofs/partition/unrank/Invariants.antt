use Rattle.steps_partitions.proofs.RankLaws.{Unranked}
use Prim.Native.Nat.{◌≤◌}
use mathlib.Core.Path.{◌≡◌}
use lib.ListN.{length}
use Rattle.steps_partitions.proofs.partition.unrank.Given as goal

abbrev pub invariant-loop-i : goal.invariant-loop-i
invariant-loop-i l = (l.i ≤ l.count) × (l.m ≤ l.i) × (l.left ≤ l.row) × (length l.classes ≡ 8) × Unranked l.row l.count l.i l.m l.left l.classes
