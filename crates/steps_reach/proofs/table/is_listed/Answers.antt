use borrow.Author.Rules.{rules}
use Rattle.steps_reach.proofs.TableLaws.{held_none, held_not, listed_there, listed_nowhere}
use Rattle.steps_reach.proofs.table.is_listed.Goals as goal

pub loop-i-init : goal.loop-i-init
loop-i-init c = (search rules, held_none _ _ _ _)

pub returns-then-is_call : goal.returns-then-is_call
returns-then-is_call c =
    let a = c.args in
    let l = c.loop-i in
    listed_there a.table.now a.definition a.names.now a.count a.size l.i c.loop-i-test.true
    (c.is_call.ensures.held c.if-is_call.true)

pub loop-i-preserved : goal.loop-i-preserved
loop-i-preserved c =
    let a = c.args in let l = c.loop-i in (
      search rules,
      held_not
          a.table.now a.definition a.names.now a.count l.i l.invariant.1 (c.is_call.ensures.other c.if-is_call.false),
    )

pub returns : goal.returns
returns c = let a = c.args in let l = c.loop-i in listed_nowhere a.table.now a.definition a.names.now a.count a.size l.i c.loop-i-test.false l.invariant.1
