use Rattle.field_slots.proofs.KeyLaws.{part_none, part_piece}
use Rattle.field_slots.proofs.slots.part_at.Goals as goal

pub returns-then-area-end : goal.returns-then-area-end
returns-then-area-end c = part_none _ _ _ c.get-n.ensures c.if-area-end.true

pub returns : goal.returns
returns c = part_piece _ _ _ c.get-n.ensures
