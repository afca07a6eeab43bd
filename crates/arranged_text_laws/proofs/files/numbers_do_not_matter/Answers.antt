use Rattle.arranged_text_laws.proofs.Numbers.{numbers_do_not_matter}
use Rattle.arranged_text_laws.proofs.files.numbers_do_not_matter.Goals as goal

pub returns : goal.returns
returns c = numbers_do_not_matter
