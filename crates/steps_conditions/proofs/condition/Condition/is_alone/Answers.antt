use Rattle.steps_conditions.proofs.ConditionArrays.{level_alone}
use Rattle.steps_conditions.proofs.condition.Condition.is_alone.Goals as goal

pub returns : goal.returns
returns c = let a = c.args in level_alone a.self.class a.level c.requires
