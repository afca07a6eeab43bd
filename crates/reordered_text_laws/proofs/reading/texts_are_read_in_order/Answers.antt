use Rattle.reordered_text_laws.proofs.Joined.{texts_are_read_in_order}
use Rattle.reordered_text_laws.proofs.PlainOrder.{arranged_texts}
use Rattle.reordered_text_laws.proofs.reading.texts_are_read_in_order.Goals as goal

pub returns : goal.returns
returns c =
    let reads = texts_are_read_in_order c.agreeing_texts_read_alike.ensures c.texts_alone_are_read_in_order.ensures.texts in
    record { texts = reads; arranged = arranged_texts reads }
