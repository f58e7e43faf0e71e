use Rattle.steps_partitions.proofs.RankLaws.{merged_is, swapped}
use Rattle.steps_partitions.proofs.PartitionLaws.{merged-none}
use mathlib.Core.Path.{sym}
use native.Mathlib.Omega.{arith}
use Rattle.steps_partitions.proofs.partition.merged_class.Goals as goal

pub returns-then-a-b : goal.returns-then-a-b
returns-then-a-b c = sym (merged-none c.args.a c.args.b c.if-a-b.true c.args.c)

pub returns-then-b-a : goal.returns-then-b-a
returns-then-b-a c =
    let v = c.args in
    merged_is v.a v.b c.if-a-b.false v.c _ (swapped v.a v.b v.c _ c.merged_into.ensures)

pub merged_into-requires-2 : goal.merged_into-requires-2
merged_into-requires-2 c = omega (arith, c.if-a-b.false)

pub returns : goal.returns
returns c =
    let v = c.args in
    merged_is v.a v.b c.if-a-b.false v.c _ c.merged_into-2.ensures
