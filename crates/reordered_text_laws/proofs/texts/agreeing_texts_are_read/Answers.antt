use Rattle.reordered_text_laws.proofs.Bridge.{agreeing_read}
use Rattle.reordered_text_laws.proofs.texts.agreeing_texts_are_read.Goals as goal

pub returns : goal.returns
returns c = record { texts = agreeing_read c.agreeing_texts_read_alike.ensures }
