use mathlib.Core.Path.{refl}
use borrow.Author.Tests.{ne_eqb}
use Rattle.steps_tallies.specs.Tallying.{prefix_entry}
use Rattle.steps_tallies.proofs.tally.prefix_entry.Goals as goal

pub returns-then-t-eq-SILENT : goal.returns-then-t-eq-SILENT
unfolding prefix_entry
returns-then-t-eq-SILENT c = rw c.if-t-eq-SILENT.true refl

pub returns : goal.returns
unfolding prefix_entry
returns c = rw (ne_eqb _ _ c.if-t-eq-SILENT.false) refl
