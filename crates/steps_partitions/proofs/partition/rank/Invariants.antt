use Rattle.steps_partitions.proofs.RankLaws.{Ranked}
use Prim.Native.Nat.{◌≤◌, ◌*◌}
use Rattle.steps_partitions.proofs.partition.rank.Given as goal

abbrev pub invariant-loop-i : goal.invariant-loop-i
invariant-loop-i l = (l.i ≤ l.count) × (l.number ≤ l.i * 1055700) × Ranked l.classes l.count l.i l.m l.number
