use Rattle.steps_splicing.specs.Collecting.{counted}
use Rattle.steps_communications.proofs.ComLaws.{free_slot, com_taken}
use native.Mathlib.Omega.{arith}
use Rattle.steps_communications.specs.Meeting.{sender_of}
use Rattle.steps_communications.proofs.meet.take_com.Goals as goal

pub table_slot-new-requires : goal.table_slot-new-requires
table_slot-new-requires c =
    let v = c.args in
    let g = c.requires in
    let o = free_slot v.met.node.depth c.sender-from.result (sender_of v.met.pair.left v.met.pair.right) c.sender-from.ensures g.1 in
    omega (arith, o, g.0.0.1.0, g.0.1)

pub overflow_add-number : goal.overflow_add-number
overflow_add-number c =
    omega (arith, c.requires.0.3)

pub put_met-requires : goal.put_met-requires
put_met-requires c =
    let g = c.requires in
    let e = c.components_of-both.ensures in
    (g.0.0, (e.left.deep, e.left.inside), (e.right.deep, e.right.inside), g.0.2)

pub returns-clause-is : goal.returns-clause-is
returns-clause-is c =
    let v = c.args in
    let g = c.requires in
    com_taken v.question.now v.part.now v.met.node v.met.pair v.met.merges v.class.now v.area.now v.count
    (counted c.put_met.result) _ v.tally.now g.0.0.1.1 c.components_of-both.result c.components_of-both.ensures c.sender-from.result
    c.sender-from.ensures g.1 c.table_slot-new.result c.table_slot-new.ensures c.put_met.ensures.is
