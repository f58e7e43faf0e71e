use Rattle.steps_splicing.specs.Collecting.{counted}
use Rattle.steps_placing.proofs.PutLaws.{met-numbered}
use Rattle.steps_placing.proofs.put.put_numbered.Goals as goal

pub returns-clause-is : goal.returns-clause-is
returns-clause-is c =
    let a = c.args in
    met-numbered a.question.now a.part.now a.met a.class.now a.area.now a.count (counted c.put_classed.result) _ c.put_classed.ensures.is
