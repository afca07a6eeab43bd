use Rattle.edited_unit_laws.proofs.FileTextLemmas.{texts_stand}
use Rattle.edited_unit_laws.proofs.ListRunLemmas.{lists_stand_in_runs}
use Rattle.edited_unit_laws.proofs.reordered.texts_stand.Goals as goal

pub returns : goal.returns
returns c = record { texts = texts_stand c.items_stay.ensures.file; lists = lists_stand_in_runs }
