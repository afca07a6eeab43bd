use Rattle.include_tree.specs.Below.source_files.Files.{nothing_carried}
use Rattle.analysis.proofs.CarryLemmas.{over_held, over_nothing}
use Rattle.analysis.proofs.preprocessing.texts.Goals as goal

pub returns-in-Err-clause-over : goal.returns-in-Err-clause-over
returns-in-Err-clause-over g c = (nothing_carried.table, tt, over_nothing (g.F.Files.told c.args.files.now).held (λ source. Unit {0}) (λ source. tt))

pub returns-in-Err-clause-answer : goal.returns-in-Err-clause-answer
returns-in-Err-clause-answer g c =
    let over = over_nothing (g.F.Files.told c.args.files.now).held (λ source. Unit {0}) (λ source. tt) in
    over_held (g.F.Files.told c.args.files.now).held nothing_carried.table (λ source. Unit {0}) over

pub returns-in-Ok-clause-over : goal.returns-in-Ok-clause-over
returns-in-Ok-clause-over g c = rw c.units.ensures.answer at c.texts_over.ensures.over

pub returns-in-Ok-clause-answer : goal.returns-in-Ok-clause-answer
returns-in-Ok-clause-answer g c =
    let over = rw c.units.ensures.answer at c.texts_over.ensures.over in
    over_held (g.F.Files.told c.args.files.now).held over.0 _ over.2
