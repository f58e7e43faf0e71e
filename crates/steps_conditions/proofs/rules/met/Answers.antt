use mathlib.Core.Path.{refl, sym, ◌∙◌}
use Rattle.steps_conditions.proofs.LabelRules.{met_apart, met_together}
use Rattle.steps_conditions.proofs.rules.met.Goals as goal

pub returns-in_err-a : goal.returns-in_err-a
returns-in_err-a c =
    rw c.from_residual.ensures (met_apart c.args.p c.args.q (sym c.meeting_of.ensures ∙ c.in_err-a.was))

pub returns : goal.returns
returns c =
    met_together c.args.p c.args.q _ c.both-joined.result.class c.in_ok-a.a c.in_ok-a.b refl c.both-joined.ensures
    c.merge.ensures (sym c.meeting_of.ensures ∙ c.in_ok-a.was)
