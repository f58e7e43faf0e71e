use native.Mathlib.Omega.{arith}
use borrow.Author.Count.{below_more}
use Rattle.verdict_notes.proofs.NoteLaws.{not_relying, note_left, notes_left}
use borrow.Author.Rules.{rules}
use Rattle.verdict_notes.proofs.relied.relies_on_left.Goals as goal

pub loop-k-init : goal.loop-k-init
loop-k-init c = (search rules, λ l h. absurd (omega arith))

pub returns-then-n-eq0 : goal.returns-then-n-eq0
returns-then-n-eq0 c = not_relying _ _ _

pub returns-then-count-n : goal.returns-then-count-n
returns-then-count-n c = not_relying _ _ _

pub returns-then-not-left_at : goal.returns-then-not-left_at
returns-then-not-left_at c = not_relying _ _ _

pub loop-k-preserved : goal.loop-k-preserved
loop-k-preserved c = (
  search rules,
  below_more _ _ c.loop-k.invariant.1 (note_left _ _ _ _ _ _
      c.note_at-n.ensures c.if-n-eq0.false (omega arith) c.left_at.ensures
      (c.if-not-left_at.false)),
)

pub returns : goal.returns
returns c = notes_left _ _ _ _ (omega arith) c.loop-k.invariant.1
