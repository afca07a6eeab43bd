use Rattle.arranged_text_laws.proofs.FileItemLemmas.{file_items_stay}
use Rattle.arranged_text_laws.proofs.RunLemmas.{items_stay, runs_move}
use Rattle.arranged_text_laws.proofs.texts.items_stay.Goals as goal

pub returns : goal.returns
returns c = record { items = items_stay; runs = runs_move; file = file_items_stay }
