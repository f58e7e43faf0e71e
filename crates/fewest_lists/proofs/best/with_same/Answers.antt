use Rattle.fewest_lists.proofs.BestLaws.{same_or}
use Rattle.fewest_lists.proofs.best.with_same.Goals as goal

pub returns : goal.returns
returns c = rw c.or.ensures (same_or _ _)
