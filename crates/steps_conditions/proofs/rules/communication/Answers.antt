use Rattle.steps_conditions.proofs.LabelRules.{communication-left, communication_right, communication-found}
use Rattle.steps_conditions.proofs.rules.communication.Goals as goal

pub returns-in_err-p : goal.returns-in_err-p
returns-in_err-p c =
    rw c.from_residual.ensures (communication-left c.args.p c.args.q c.in_err-p.was)

pub returns-in_err-q : goal.returns-in_err-q
returns-in_err-q c =
    rw c.from_residual-in_err-q.ensures (communication_right c.args.p c.args.q c.in_err-q.was)

pub returns : goal.returns
returns c =
    communication-found c.args.p c.args.q _ _ _ c.in_ok-p.was c.in_ok-q.was c.met.ensures
