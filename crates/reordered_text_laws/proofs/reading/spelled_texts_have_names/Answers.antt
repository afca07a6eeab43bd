use Rattle.reordered_text_laws.proofs.PlainOrder.{spelled_texts}
use Rattle.reordered_text_laws.proofs.reading.spelled_texts_have_names.Goals as goal

pub returns : goal.returns
returns c = record { names = spelled_texts }
