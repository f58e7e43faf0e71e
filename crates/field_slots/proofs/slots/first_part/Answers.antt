use Rattle.field_slots.proofs.KeyLaws.{first_is}
use Rattle.field_slots.proofs.slots.first_part.Goals as goal

pub returns : goal.returns
returns c = first_is _ _ _ c.part_at.ensures
