use Rattle.field_slots.proofs.KeyLaws.{key_held}
use borrow.Author.Rules.{rules}
use Rattle.field_slots.proofs.slot.hold.Goals as goal

pub returns : goal.returns
returns c = key_held _ _ _ (search rules) _ c.copy.ensures
