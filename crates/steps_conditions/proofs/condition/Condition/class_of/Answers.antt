use mathlib.Core.Path.{◌∙◌}
use Rattle.steps_conditions.specs.Conditions.{ClassOfIs}
use Rattle.steps_conditions.proofs.ClassBytes.{class_byte, class_alone}
use Rattle.steps_conditions.proofs.condition.Condition.class_of.Goals as goal

pub returns-then-n-lt-NAMES : goal.returns-then-n-lt-NAMES
unfolding ClassOfIs
returns-then-n-lt-NAMES c = λ d e. c.get.ensures ∙ class_byte _ _ d e _ c.if-n-lt-NAMES.true

pub returns : goal.returns
unfolding ClassOfIs
returns c = λ d e. class_alone _ _ d e _ c.if-n-lt-NAMES.false
