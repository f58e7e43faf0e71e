use borrow.Author.Tests.{eq-eqb, ne_eqb}
use Rattle.steps_communications.specs.Met.{sending_of}
use Rattle.steps_communications.proofs.meet.sending.Goals as goal

pub returns-then-pair-eq-INPUT : goal.returns-then-pair-eq-INPUT
unfolding sending_of
returns-then-pair-eq-INPUT c = simp (eq-eqb c.args.pair.left.kind 1 c.if-pair-eq-INPUT.true)

pub returns-else-pair-eq-INPUT : goal.returns-else-pair-eq-INPUT
unfolding sending_of
returns-else-pair-eq-INPUT c = simp (ne_eqb c.args.pair.left.kind 1 c.if-pair-eq-INPUT.false)
