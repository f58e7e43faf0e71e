use borrow.Author.Tests.{eq-eqb, ne_eqb}
use Rattle.steps_rows.specs.Rows.{behind_root}
use Rattle.steps_rows.proofs.rows.behind_root.Goals as goal

pub returns-then-root-at : goal.returns-then-root-at
unfolding behind_root
returns-then-root-at c = simp (eq-eqb _ _ c.if-root-at.true)

pub returns-else-root-at : goal.returns-else-root-at
unfolding behind_root
returns-else-root-at c = simp (ne_eqb _ _ c.if-root-at.false)
