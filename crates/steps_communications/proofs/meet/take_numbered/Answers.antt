use Rattle.steps_splicing.specs.Collecting.{counted}
use Rattle.steps_communications.proofs.ComLaws.{numbered-taken}
use Rattle.steps_communications.proofs.meet.take_numbered.Goals as goal

pub returns-clause-is : goal.returns-clause-is
returns-clause-is c =
    let v = c.args in
    numbered-taken v.question.now v.part.now v.met.node v.met.pair v.met.merges v.class.now v.area.now v.count
    (counted c.put_classed.result) _ c.put_classed.ensures.is
