use Rattle.reordered_text_laws.proofs.FrontTop.{behind_a_typedef}
use Rattle.reordered_text_laws.proofs.texts.texts_are_read_behind_a_typedef.Goals as goal

pub returns : goal.returns
returns c = record { texts = behind_a_typedef }
