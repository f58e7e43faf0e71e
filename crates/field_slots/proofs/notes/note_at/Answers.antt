use Rattle.field_slots.proofs.notes.note_at.Goals as goal

pub returns : goal.returns
returns c = c.size_at.ensures.0
