use mathlib.Core.Path.{ap, ◌∙◌}
use Rattle.steps_labels.specs.LabelWalk.{slot_at}
use Rattle.steps_labels.proofs.RestrictionRuns.{outside-match, outside_run}
use Rattle.steps_labels.proofs.label.outside_of.Goals as goal

pub returns-then-count-eq0 : goal.returns-then-count-eq0
returns-then-count-eq0 c =
    let a = c.args in
    outside-match a.src.now a.at a.count a.args.now a.inner a.depth a.label _ c.if-count-eq0.true c.slot-a.result
    c.slot-b.result (c.slot-a.ensures ∙ ap (slot_at a.args.now a.inner a.depth) c.get.ensures) (c.slot-b.ensures ∙ ap (slot_at
    a.args.now a.inner a.depth) c.get-then-count-eq0.ensures) c.matching.ensures

pub returns : goal.returns
returns c =
    let a = c.args in
    outside_run a.src.now a.at a.count a.args.now a.inner a.depth a.label _ c.if-count-eq0.false c.leave.ensures
