use native.Mathlib.Omega.{arith}
use borrow.Author.Rules.{rules}
use Rattle.field_slots.proofs.UpdateLaws.{rewritten-start, rewritten_next, rewritten-whole}
use Rattle.field_distinctions.proofs.update.rewrite.Goals as goal

pub loop-k-init : goal.loop-k-init
loop-k-init c = (search rules, search rules, rewritten-start _ _ _ _)

pub loop-k-preserved : goal.loop-k-preserved
loop-k-preserved c = (
  search rules,
  search rules,
  rewritten_next _ _ _ _ _ _ _ (omega arith) (omega arith) c.loop-k.invariant.2
      c.mark_rewritten.ensures,
)

pub returns : goal.returns
returns c = rewritten-whole _ _ _ _ _ c.loop-k.k (omega arith) c.loop-k.invariant.2
