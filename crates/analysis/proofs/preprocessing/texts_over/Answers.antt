use Rattle.std.proofs.Common.{ap}
use Rattle.analysis.specs.Texts.{TextsValue}
use Rattle.analysis.proofs.preprocessing.texts_over.Goals as goal

pub returns-in-Err-clause-over : goal.returns-in-Err-clause-over
returns-in-Err-clause-over g c = (c.unit_texts.new.cache.table, tt, c.in-Err.ensures.over)

pub returns-in-Ok-clause-over : goal.returns-in-Ok-clause-over
returns-in-Ok-clause-over g c =
    (c.unit_texts.new.cache.table, ap (λ (t : TextsValue). t.table) c.new.ensures.answer, rw c.new.ensures.answer c.in-Ok.ensures.over)
