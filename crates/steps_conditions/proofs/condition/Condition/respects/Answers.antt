use Rattle.steps_conditions.proofs.ClassBytes.{respects_is}
use Rattle.steps_conditions.proofs.condition.Condition.respects.Goals as goal

pub returns : goal.returns
returns c = respects_is _ _ _ _ _ _ c.get.ensures c.get-2.ensures
