use Rattle.std.proofs.Common.{refl}
use Rattle.include_tree.specs.Below.source_files.Files.{nothing_carried}
use Rattle.analysis.specs.Analysis.{units_and}
use Rattle.analysis.specs.Answers.{fault_of}
use Rattle.analysis.specs.MadeAgain.{all_units}
use Rattle.analysis.proofs.CarryLemmas.{over_nothing, over_map}
use Rattle.analysis.proofs.UnitsLemmas.{analysed-done, analysed-fault}
use Rattle.analysis.proofs.accepting.accept.Goals as goal

pub returns-in-Err-clause-over : goal.returns-in-Err-clause-over
returns-in-Err-clause-over g c = (nothing_carried.table, tt, over_nothing (g.F.Files.told c.args.files.now).held (λ source. Unit {0}) (λ source. tt))

pub returns-in-Err-new-clause-over : goal.returns-in-Err-new-clause-over
returns-in-Err-new-clause-over g c = (nothing_carried.table, tt, over_nothing (g.F.Files.told c.args.files.now).held (λ source. Unit {0}) (λ source. tt))

pub returns-in-Err-accepted_units-clause-over : goal.returns-in-Err-accepted_units-clause-over
returns-in-Err-accepted_units-clause-over g c =
    let over = rw c.units.ensures.answer at c.in-Err-accepted_units.ensures.over in
    (c.accepted_units.new.cache.table, tt, over_map _ _ _ _ over (λ source h. analysed-fault source c.args.ws.now (fault_of c.in-Err-accepted_units.fault) h))

pub returns-in-Ok-accepted_units-clause-over : goal.returns-in-Ok-accepted_units-clause-over
returns-in-Ok-accepted_units-clause-over g c =
    let over = rw c.units.ensures.answer at c.in-Ok-accepted_units.ensures.over in
    let taken = c.in-Ok-accepted_units.taken in
    let table = c.accepted_units.new.cache.table in
    rw (c.new-in-Ok-accepted_units.ensures, c.in-Ok.ensures)
    (table, refl, over_map _ _ _ _ over (λ source h. analysed-done source c.args.ws.now (units_and (all_units table c.args.ws.now.units taken.kept.items taken.others) table) h))
