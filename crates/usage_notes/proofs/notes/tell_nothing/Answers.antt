use Rattle.usage_notes.proofs.notes.tell_nothing.Goals as goal

pub returns : goal.returns
returns g c = rw (← c.as_bytes.ensures.value) c.tell_note.ensures
