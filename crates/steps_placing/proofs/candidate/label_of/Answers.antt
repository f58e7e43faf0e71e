use Rattle.steps_placing.proofs.TakeLaws.{label_is}
use Rattle.steps_placing.proofs.candidate.label_of.Goals as goal

pub returns : goal.returns
returns c =
    let v = c.args in
    label_is v.question.now v.part.now v.candidate.silently v.candidate.number _ c.nth.result c.nth.ensures
