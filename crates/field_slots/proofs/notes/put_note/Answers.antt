use Rattle.field_slots.proofs.notes.put_note.Goals as goal

pub returns : goal.returns
returns c = c.put_number.ensures
