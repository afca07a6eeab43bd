use Rattle.reordered_text_laws.proofs.Arguments.{arguments_in_any_order}
use Rattle.reordered_text_laws.proofs.texts.arguments_are_read_in_any_order.Goals as goal

pub returns : goal.returns
returns c = record { arguments = arguments_in_any_order }
