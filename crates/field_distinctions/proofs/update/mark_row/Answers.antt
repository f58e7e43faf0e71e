use native.Mathlib.Omega.{arith}
use borrow.Author.Rules.{rules}
use Rattle.field_slots.proofs.UpdateLaws.{row-start, row_next, row-whole}
use Rattle.field_distinctions.proofs.update.mark_row.Goals as goal

pub loop-n-init : goal.loop-n-init
loop-n-init c = (search rules, search rules, row-start _ _ _)

pub loop-n-preserved : goal.loop-n-preserved
loop-n-preserved c = (
  search rules,
  search rules,
  row_next _ _ _ _ _ _ (omega arith) (omega arith) c.loop-n.invariant.2
      c.mark_if_free.ensures,
)

pub returns : goal.returns
returns c = row-whole _ _ _ _ _ (omega arith) c.loop-n.invariant.2
