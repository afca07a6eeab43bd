use Rattle.analysis.proofs.CarryLemmas.{over_held}
use Rattle.analysis.proofs.UnitsLemmas.{analysed-over}
use Rattle.analysis.proofs.analysing.analyse_within.Goals as goal

pub returns-in-Ok-clause-over : goal.returns-in-Ok-clause-over
returns-in-Ok-clause-over g c =
    let over = c.in-Ok.ensures.over in
    analysed-over c.in-Ok.accepted c.analysed.result (g.F.Files.told c.args.files.now).held over.0 c.args.ws.now c.analysed.ensures over.1 over.2

pub returns-in-Ok-clause-answer : goal.returns-in-Ok-clause-answer
returns-in-Ok-clause-answer g c =
    let over = c.in-Ok.ensures.over in
    let mine = analysed-over c.in-Ok.accepted c.analysed.result (g.F.Files.told c.args.files.now).held over.0 c.args.ws.now c.analysed.ensures over.1 over.2 in
    let held = over_held (g.F.Files.told c.args.files.now).held mine.0 _ mine.2 in held

pub returns-in-Err-clause-over : goal.returns-in-Err-clause-over
returns-in-Err-clause-over g c = c.in-Err.ensures.over

pub returns-in-Err-clause-answer : goal.returns-in-Err-clause-answer
returns-in-Err-clause-answer g c =
    let over = c.in-Err.ensures.over in
    let held = over_held (g.F.Files.told c.args.files.now).held over.0 _ over.2 in held
