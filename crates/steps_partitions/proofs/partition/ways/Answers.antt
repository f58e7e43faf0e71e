use Rattle.steps_partitions.proofs.PartitionLaws.{way_at}
use borrow.Author.Rules.{rules}
use Rattle.steps_partitions.proofs.partition.ways.Goals as goal

pub returns : goal.returns
returns c = (way_at c.args.rest c.args.classes (search rules)).0
