use borrow.Author.Rules.{rules}
use Rattle.steps_entries.proofs.ArrangeLaws.{arrange_start, arrange_step, arrange_done}
use Rattle.steps_entries.proofs.arrange.arrange.Goals as goal

pub loop-i-init : goal.loop-i-init
loop-i-init c = (search rules, search rules, arrange_start c.args.list.now c.args.count)

pub loop-i-preserved : goal.loop-i-preserved
loop-i-preserved c = (
  search rules,
  search rules,
  arrange_step c.args.list.now
      c.args.count c.loop-i.i
      c.loop-i.list _ c.loop-i.invariant.2
      c.put_in_place.ensures,
)

pub returns : goal.returns
returns c =
    arrange_done c.args.list.now c.args.count c.loop-i.i c.loop-i.list
    (search rules) c.loop-i.invariant.2
