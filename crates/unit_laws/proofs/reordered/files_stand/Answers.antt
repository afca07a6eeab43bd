use Rattle.unit_laws.proofs.ReorderedFileLemmas.{items_are_alike, texts_stay, runs_stand_in_files}
use Rattle.unit_laws.proofs.reordered.files_stand.Goals as goal

pub returns : goal.returns
returns c = record { items = items_are_alike; stay = texts_stay; runs = runs_stand_in_files c.runs_have_cuts.ensures.one }
