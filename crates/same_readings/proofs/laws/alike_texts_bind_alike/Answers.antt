use Rattle.same_readings.proofs.BoundAlike.{alike_texts_bind_alike as law}
use Rattle.same_readings.proofs.laws.alike_texts_bind_alike.Goals as goal

pub returns : goal.returns
returns c = law
