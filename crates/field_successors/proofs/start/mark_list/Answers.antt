use mathlib.Core.Path.{refl}
use Rattle.field_successors.proofs.StartLaws.{marking_start, marking_next, marking_whole}
use borrow.Author.Rules.{rules}
use Rattle.field_successors.proofs.start.mark_list.Goals as goal

pub loop-i-init : goal.loop-i-init
loop-i-init c = (search rules, search rules, search rules, marking_start _ _ _ refl)

pub loop-i-preserved : goal.loop-i-preserved
loop-i-preserved c = (
  search rules,
  search rules,
  search rules,
  marking_next _ _ _ _ _ _ _ _ (search rules) (search rules)
      c.get-a.ensures c.get-b.ensures
      c.loop-i.invariant.3 c.mark_pair.ensures,
)

pub returns : goal.returns
returns c = marking_whole _ _ _ _ (search rules) c.loop-i.invariant.1 c.loop-i.invariant.3
