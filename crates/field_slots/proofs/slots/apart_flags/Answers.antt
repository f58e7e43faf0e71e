use Rattle.field_slots.proofs.KeyLaws.{apart_is}
use Rattle.field_slots.proofs.slots.apart_flags.Goals as goal

pub returns : goal.returns
returns c = apart_is _ _ _ c.unpack.ensures
