use Rattle.same_readings.proofs.WholeTexts.{whole_texts_are_read_so as law}
use Rattle.same_readings.proofs.laws.whole_texts_are_read_so.Goals as goal

pub returns : goal.returns
returns c = law
