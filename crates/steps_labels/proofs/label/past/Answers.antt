use mathlib.Core.Path.{ap, sym}
use mathlib.Core.Bool.{Bool, cond}
use borrow.Author.Tests.{eq-eqb, ne_eqb}
use Rattle.steps_labels.specs.LabelWalk.{past_of}
use Rattle.steps_labels.proofs.label.past.Goals as goal

pub returns-then-t-eq-MATCH : goal.returns-then-t-eq-MATCH
unfolding past_of
returns-then-t-eq-MATCH c = ap (λ (b : Bool). cond b 3 c.args.count) (sym (eq-eqb c.args.t 5 c.if-t-eq-MATCH.true))

pub returns : goal.returns
unfolding past_of
returns c = ap (λ (b : Bool). cond b 3 c.args.count) (sym (ne_eqb c.args.t 5 c.if-t-eq-MATCH.false))
