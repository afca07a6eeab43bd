use Rattle.reordered_text_laws.proofs.TextsInOrder.{texts_in_order}
use Rattle.reordered_text_laws.proofs.texts.texts_alone_are_read_in_order.Goals as goal

pub returns : goal.returns
returns c = record { texts = texts_in_order c.tokens_stand_in_order.ensures.order }
