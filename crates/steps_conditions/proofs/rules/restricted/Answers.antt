use Rattle.steps_conditions.proofs.LabelRules.{restricted-blocked, restricted-found}
use Rattle.steps_conditions.proofs.rules.restricted.Goals as goal

pub returns-in_err-label : goal.returns-in_err-label
returns-in_err-label c =
    rw c.from_residual.ensures (restricted-blocked c.args.label c.args.level c.in_err-label.was)

pub returns : goal.returns
returns c =
    restricted-found c.args.label c.args.level _ _ c.in_ok-label.was c.outside.ensures
