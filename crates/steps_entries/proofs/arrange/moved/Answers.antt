use borrow.Author.Tests.{eq-eqb, ne_eqb}
use mathlib.Core.Path.{refl}
use Rattle.steps_entries.specs.Arranging.{relabelled}
use Rattle.steps_entries.proofs.arrange.moved.Goals as goal

pub returns-then-place-old : goal.returns-then-place-old
unfolding relabelled
returns-then-place-old c = rw (eq-eqb c.args.place c.args.old c.if-place-old.true) refl

pub returns-else-place-old : goal.returns-else-place-old
unfolding relabelled
returns-else-place-old c = rw (ne_eqb c.args.place c.args.old c.if-place-old.false) refl
