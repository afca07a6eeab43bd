use Rattle.reordered_text_laws.proofs.PlainOrder.{plain_tokens}
use Rattle.reordered_text_laws.proofs.reading.plain_tokens_stand_in_order.Goals as goal

pub returns : goal.returns
returns c = record { tokens = plain_tokens }
