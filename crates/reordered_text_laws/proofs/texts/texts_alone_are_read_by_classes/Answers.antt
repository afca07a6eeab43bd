use Rattle.reordered_text_laws.proofs.Alone.{texts_alone}
use Rattle.reordered_text_laws.proofs.texts.texts_alone_are_read_by_classes.Goals as goal

pub returns : goal.returns
returns c = record { texts = texts_alone }
