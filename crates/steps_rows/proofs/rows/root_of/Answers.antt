use borrow.Author.Tests.{eq-eqb, ne_eqb}
use Rattle.steps_rows.specs.Rows.{root_of}
use Rattle.steps_rows.proofs.rows.root_of.Goals as goal

pub returns-then-t-eq-CHOICE : goal.returns-then-t-eq-CHOICE
unfolding root_of
returns-then-t-eq-CHOICE c = simp (eq-eqb _ _ c.if-t-eq-CHOICE.true)

pub returns-else-t-eq-CHOICE : goal.returns-else-t-eq-CHOICE
unfolding root_of
returns-else-t-eq-CHOICE c = simp (ne_eqb _ _ c.if-t-eq-CHOICE.false)
