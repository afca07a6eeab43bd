use Rattle.usage_notes.proofs.places.tell_no_stays.Goals as goal

pub returns : goal.returns
returns g c = rw (← c.as_bytes.ensures.value) c.tell_note.ensures
