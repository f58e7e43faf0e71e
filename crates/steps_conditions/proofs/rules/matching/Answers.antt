use mathlib.Core.Path.{refl}
use Rattle.steps_conditions.proofs.LabelRules.{matching-blocked, matching-found}
use Rattle.steps_conditions.proofs.rules.matching.Goals as goal

pub returns-in_err-label : goal.returns-in_err-label
returns-in_err-label c =
    rw c.from_residual.ensures (matching-blocked c.args.label c.args.a c.args.b c.in_err-label.was)

pub returns : goal.returns
returns c =
    let v = c.args in
    matching-found v.label v.a v.b _ _ c.in_ok-label.was refl c.merge.ensures
