use Rattle.steps_communications.specs.Meeting.{sends_free}
use borrow.Author.Tests.{eq-eqb, ne_eqb}
use Rattle.steps_communications.proofs.meet.Partner.sends_free.Goals as goal

pub returns-then-self-eq-FREE_OUTPUT : goal.returns-then-self-eq-FREE_OUTPUT
unfolding sends_free
returns-then-self-eq-FREE_OUTPUT c = simp (eq-eqb c.args.self.kind 2 c.if-self-eq-FREE_OUTPUT.true)

pub returns-else-self-eq-FREE_OUTPUT : goal.returns-else-self-eq-FREE_OUTPUT
unfolding sends_free
returns-else-self-eq-FREE_OUTPUT c = simp (ne_eqb c.args.self.kind 2 c.if-self-eq-FREE_OUTPUT.false)
