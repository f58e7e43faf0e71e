use mathlib.Core.Path.{refl}
use borrow.Author.Tests.{eq-eqb, ne_eqb}
use Rattle.steps_entries.specs.EntryBytes.{object_byte}
use Rattle.steps_entries.proofs.listed.object_byte.Goals as goal

pub returns-then-object-eq-NEW_NAME : goal.returns-then-object-eq-NEW_NAME
unfolding object_byte
returns-then-object-eq-NEW_NAME c = rw (eq-eqb _ _ c.if-object-eq-NEW_NAME.true) refl

pub returns-else-object-eq-NEW_NAME : goal.returns-else-object-eq-NEW_NAME
unfolding object_byte
returns-else-object-eq-NEW_NAME c = rw (ne_eqb _ _ c.if-object-eq-NEW_NAME.false) c.get.ensures
