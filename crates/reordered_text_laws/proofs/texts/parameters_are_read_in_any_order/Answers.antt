use Rattle.reordered_text_laws.proofs.Parameters.{parameters_in_any_order}
use Rattle.reordered_text_laws.proofs.texts.parameters_are_read_in_any_order.Goals as goal

pub returns : goal.returns
returns c = record { parameters = parameters_in_any_order }
