use Rattle.fewest_lists.proofs.BestLaws.{pair_added}
use Rattle.fewest_lists.proofs.best.with_pair.Goals as goal

pub returns : goal.returns
returns c = pair_added _ _ _ _ _ _ c.get.ensures c.get-2.ensures c.mark_pair.ensures
