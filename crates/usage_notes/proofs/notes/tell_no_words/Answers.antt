use Rattle.usage_notes.proofs.notes.tell_no_words.Goals as goal

pub returns : goal.returns
returns g c = c.tell_note.ensures
