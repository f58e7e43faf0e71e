use borrow.Author.Tests.{eq-eqb, ne_eqb}
use Rattle.steps_labels.specs.LabelWalk.{prefix_action}
use Rattle.steps_labels.proofs.label.prefix_action.Goals as goal

pub returns-then-t-eq-SILENT : goal.returns-then-t-eq-SILENT
unfolding prefix_action
returns-then-t-eq-SILENT c = simp (eq-eqb _ _ c.if-t-eq-SILENT.true)

pub returns-then-t-eq-INPUT : goal.returns-then-t-eq-INPUT
unfolding prefix_action
returns-then-t-eq-INPUT c = simp (ne_eqb _ _ c.if-t-eq-SILENT.false, eq-eqb _ _ c.if-t-eq-INPUT.true)

pub returns-then-t-eq-OUTPUT : goal.returns-then-t-eq-OUTPUT
unfolding prefix_action
returns-then-t-eq-OUTPUT c = simp (ne_eqb _ _ c.if-t-eq-SILENT.false, ne_eqb _ _ c.if-t-eq-INPUT.false, eq-eqb _ _ c.if-t-eq-OUTPUT.true)

pub returns : goal.returns
unfolding prefix_action
returns c = simp (ne_eqb _ _ c.if-t-eq-SILENT.false, ne_eqb _ _ c.if-t-eq-INPUT.false, ne_eqb _ _ c.if-t-eq-OUTPUT.false)
