use borrow.Author.Rules.{rules}
use Rattle.steps_plans.proofs.ResultLaws.{store_full, store_done}
use Rattle.steps_plans.proofs.pieces.store.Goals as goal

pub returns-then-out-put : goal.returns-then-out-put
returns-then-out-put c = store_full c.args.out.now c.args.put c.args.b c.if-out-put.true (search rules)

pub returns : goal.returns
returns c = store_done c.args.out.now c.args.put c.args.b (search rules)
