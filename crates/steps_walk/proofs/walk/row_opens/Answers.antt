use borrow.Author.Tests.{eq-eqb, ne_eqb}
use Rattle.steps_walk.specs.Walking.{row_opens}
use Rattle.steps_walk.proofs.walk.row_opens.Goals as goal

pub returns-then-kind-eq2 : goal.returns-then-kind-eq2
unfolding row_opens
returns-then-kind-eq2 c = simp (eq-eqb c.args.kind 2 c.if-kind-eq2.true)

pub returns-else-kind-eq2 : goal.returns-else-kind-eq2
unfolding row_opens
returns-else-kind-eq2 c = simp (ne_eqb c.args.kind 2 c.if-kind-eq2.false)
