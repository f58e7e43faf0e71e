use Rattle.steps_communications.specs.Meeting.{sender_of}
use borrow.Author.Tests.{eq-eqb, ne_eqb}
use Rattle.steps_communications.proofs.meet.Pair.sender.Goals as goal

pub returns-then-self-eq-INPUT : goal.returns-then-self-eq-INPUT
unfolding sender_of
returns-then-self-eq-INPUT c = simp (eq-eqb c.args.self.left.kind 1 c.if-self-eq-INPUT.true)

pub returns-else-self-eq-INPUT : goal.returns-else-self-eq-INPUT
unfolding sender_of
returns-else-self-eq-INPUT c = simp (ne_eqb c.args.self.left.kind 1 c.if-self-eq-INPUT.false)
