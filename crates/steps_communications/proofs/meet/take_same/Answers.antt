use Rattle.steps_splicing.specs.Collecting.{counted}
use native.Mathlib.Omega.{arith}
use Rattle.steps_communications.proofs.MeetPairs.{pair_met}
use Rattle.steps_communications.proofs.meet.take_same.Goals as goal

pub returns-clause-is : goal.returns-clause-is
returns-clause-is c =
    let v = c.args in
    pair_met v.question.now v.part.now v.node.at v.node.depth v.node.number v.pair.left v.pair.right v.pair.number
    v.node.x v.area.now v.count (counted c.take_met.result) _ c.requires.2 c.requires.3 c.requires.4 c.own_names-class.result
    (c.own_names-class.ensures 0 (omega arith)) c.take_met.ensures.is
