use Rattle.field_slots.proofs.chains.put.Goals as goal

pub returns : goal.returns
returns c = rw c.hold.ensures at c.link.ensures
