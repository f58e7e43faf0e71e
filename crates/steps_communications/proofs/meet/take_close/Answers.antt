use Rattle.steps_splicing.specs.Collecting.{counted}
use mathlib.Core.Path.{ap}
use mathlib.Core.Bool.{not}
use native.Mathlib.Omega.{arith}
use Rattle.steps_communications.proofs.CloseLaws.{sending-found, close_taken}
use Rattle.steps_communications.proofs.meet.take_close.Goals as goal

pub sends_new-requires : goal.sends_new-requires
sends_new-requires c =
    let v = c.args in (
      c.requires.0.0.1,
      sending-found v.part.now v.tally.now v.met.node v.met.pair c.components_of-both.result
          c.components_of-both.ensures c.sending-from.result c.sending-from.ensures,
    )

pub overflow_add-number : goal.overflow_add-number
overflow_add-number c =
    omega (arith, c.requires.0.3)

pub put_met-requires : goal.put_met-requires
put_met-requires c =
    let g = c.requires in
    let e = c.components_of-both.ensures in
    (g.0.0, (e.left.deep, e.left.inside), (e.right.deep, e.right.inside), g.0.2)

pub returns-clause-is : goal.returns-clause-is
returns-clause-is c =
    let v = c.args in
    let g = c.requires in
    close_taken v.question.now v.part.now v.tally.now g.0.0.1.1 v.met.node v.met.pair c.components_of-both.result
    c.components_of-both.ensures c.sending-from.result c.sending-from.ensures c.sends_new.result (ap not c.if-not-sends_new.false) c.sends_new.ensures
    g.1 v.met.merges v.class.now v.area.now v.count (counted c.put_met.result) _ c.put_met.ensures.is
