use Rattle.cscout_run.proofs.telling.tell_stop.Goals as goal

pub returns-in-Unread-clause-told : goal.returns-in-Unread-clause-told
returns-in-Unread-clause-told g c = rw (c.in-Unread.is, ← c.bytes.ensures) c.tell.ensures
