use Rattle.reordered_text_laws.proofs.Arguments.{parts_anywhere, items_anywhere}
use Rattle.reordered_text_laws.proofs.texts.items_are_read_anywhere.Goals as goal

pub returns : goal.returns
returns c = record { parts = parts_anywhere; items = items_anywhere }
