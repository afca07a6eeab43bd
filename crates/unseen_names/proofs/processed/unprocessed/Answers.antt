use Rattle.unseen_names.proofs.processed.unprocessed.Goals as goal

pub unprocessed_by-left-requires : goal.unprocessed_by-left-requires
unprocessed_by-left-requires c = rw c.deref.ensures.value c.in_ok-marks.ensures
