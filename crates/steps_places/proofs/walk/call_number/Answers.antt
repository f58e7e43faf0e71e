use Rattle.steps_places.proofs.SlotLaws.{number_there, number-none}
use Rattle.steps_reach.proofs.TableLaws.{held_none, held_not}
use borrow.Author.Rules.{rules}
use Rattle.steps_places.proofs.walk.call_number.Goals as goal

pub loop-i-init : goal.loop-i-init
loop-i-init c = (search rules, held_none _ _ _ _)

pub returns-then-is_call : goal.returns-then-is_call
returns-then-is_call c =
    let v = c.args in
    number_there v.table.now v.definition v.names.now v.count c.loop-i.i c.loop-i-test.true
    (c.is_call.ensures.held c.if-is_call.true)

pub loop-i-preserved : goal.loop-i-preserved
loop-i-preserved c =
    let v = c.args in (
      search rules,
      held_not v.table.now v.definition v.names.now v.count c.loop-i.i
          c.loop-i.invariant.1 (c.is_call.ensures.other c.if-is_call.false),
    )

pub returns : goal.returns
returns c =
    let v = c.args in
    number-none v.table.now v.definition v.names.now v.count c.loop-i.i c.loop-i-test.false c.loop-i.invariant.1
