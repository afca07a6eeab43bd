use Rattle.same_readings.proofs.ReadAlike.{alike_texts_read_alike as law}
use Rattle.same_readings.proofs.laws.alike_texts_read_alike.Goals as goal

pub returns : goal.returns
returns c = law
