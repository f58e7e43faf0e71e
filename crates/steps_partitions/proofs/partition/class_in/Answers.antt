use Rattle.steps_partitions.proofs.RankLaws.{class_is}
use Rattle.steps_partitions.proofs.partition.class_in.Goals as goal

pub returns : goal.returns
returns c = class_is c.args.left c.args.size c.args.classes _ c.requires c.min.ensures
