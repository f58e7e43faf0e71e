use Rattle.field_slots.proofs.KeyLaws.{second_is}
use Rattle.field_slots.proofs.slots.second_part.Goals as goal

pub returns : goal.returns
returns c = second_is _ _ _ c.part_at.ensures
