use Rattle.command_words.proofs.messages.tell_batch.Goals as goal

pub returns : goal.returns
returns g c = rw (← c.format.ensures.text, ← c.as_bytes.ensures.value) c.tell.ensures
