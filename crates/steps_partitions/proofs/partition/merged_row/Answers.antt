use Rattle.steps_partitions.proofs.RankLaws.{row_kept, row-merged}
use Rattle.steps_partitions.proofs.partition.merged_row.Goals as goal

pub returns-then-a-b : goal.returns-then-a-b
returns-then-a-b c =
    let v = c.args in
    row_kept v.row v.count v.i v.j c.unrank-classes.result c.unrank-classes.ensures c.requires.1 c.requires.2 c.get-a.result
    c.get-b.result c.get-a.ensures c.get-b.ensures c.if-a-b.true

pub returns : goal.returns
returns c =
    let v = c.args in
    row-merged v.row v.count v.i v.j c.unrank-classes.result c.unrank-classes.ensures c.requires.1 c.requires.2 c.get-a.result
    c.get-b.result c.get-a.ensures c.get-b.ensures c.merge-merged.result c.merge-merged.ensures c.rank.result c.rank.ensures
