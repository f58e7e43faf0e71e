use Rattle.steps_splicing.specs.Collecting.{counted}
use Rattle.steps_communications.proofs.MeetPairs.{pair_blocked, pair_matched}
use Rattle.steps_communications.proofs.meet.take_matched.Goals as goal

pub returns-in-None-clause-is : goal.returns-in-None-clause-is
returns-in-None-clause-is c =
    let v = c.args in
    pair_blocked v.question.now v.part.now v.node.at v.node.depth v.node.number v.pair.left v.pair.right v.pair.number
    v.node.x v.area.now v.count v.count v.area.now c.label_of-label.result c.label_of-label.ensures c.in-None.is
    c.requires.0.0.0

pub returns-in-Some-clause-is : goal.returns-in-Some-clause-is
returns-in-Some-clause-is c =
    let v = c.args in
    pair_matched v.question.now v.part.now v.node.at v.node.depth v.node.number v.pair.left v.pair.right v.pair.number
    v.node.x v.area.now v.count (counted c.take_labelled.result) _ c.label_of-label.result c.label_of-label.ensures c.in-Some.header c.in-Some.is
    c.unmatched.result c.unmatched-in-Some.result c.unmatched.ensures c.unmatched-in-Some.ensures c.take_labelled.ensures.is
