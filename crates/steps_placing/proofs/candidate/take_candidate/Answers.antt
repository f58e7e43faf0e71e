use Rattle.steps_splicing.specs.Collecting.{counted}
use Rattle.steps_placing.proofs.TakeLaws.{takes_blocked, takes_found}
use Rattle.steps_placing.proofs.candidate.take_candidate.Goals as goal

pub returns-in-None-clause-is : goal.returns-in-None-clause-is
returns-in-None-clause-is c =
    let v = c.args in
    takes_blocked v.question.now v.part.now v.candidate.silently v.candidate.number c.label_of-label.result c.label_of-label.ensures
    v.candidate.x v.area.now v.count c.requires.0.0 c.in-None.is

pub returns-in-Some-clause-is : goal.returns-in-Some-clause-is
returns-in-Some-clause-is c =
    let v = c.args in
    takes_found v.question.now v.part.now v.candidate.silently v.candidate.number c.label_of-label.result c.label_of-label.ensures
    v.candidate.x v.area.now v.count c.in-Some.header c.in-Some.is (counted c.put_step.result) _ c.put_step.ensures.is
