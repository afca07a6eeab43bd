use Rattle.reordered_text_laws.proofs.Numbered.{arranged_in_order}
use Rattle.reordered_text_laws.proofs.texts.arranged_tokens_are_read_in_order.Goals as goal

pub returns : goal.returns
returns c = record { units = arranged_in_order }
