use Rattle.reordered_text_laws.proofs.Numbers.{numbers_do_not_matter}
use Rattle.reordered_text_laws.proofs.texts.numbers_do_not_matter.Goals as goal

pub returns : goal.returns
returns c = record { numbers = numbers_do_not_matter }
