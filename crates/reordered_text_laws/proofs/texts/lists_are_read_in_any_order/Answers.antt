use Rattle.reordered_text_laws.proofs.Units.{lists_in_any_order}
use Rattle.reordered_text_laws.proofs.texts.lists_are_read_in_any_order.Goals as goal

pub returns : goal.returns
returns c = record { lists = lists_in_any_order }
