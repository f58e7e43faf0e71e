use Rattle.steps_splicing.specs.Collecting.{counted}
use Rattle.steps_communications.proofs.MeetPairs.{pair_merging}
use Rattle.steps_communications.proofs.meet.take_merging.Goals as goal

pub returns-clause-is : goal.returns-clause-is
returns-clause-is c =
    let v = c.args in
    pair_merging v.question.now v.part.now v.node.at v.node.depth v.node.number v.pair.left v.pair.right v.pair.number
    v.node.x v.area.now v.count (counted c.take_met.result) _ c.requires.3 c.requires.4 c.requires.5 c.merging-class.result
    c.merging-class.ensures c.take_met.ensures.is
