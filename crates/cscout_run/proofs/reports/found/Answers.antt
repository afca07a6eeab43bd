use Rattle.query_words.specs.Reading.{parsed}
use Rattle.cscout_run.specs.Shapes.{Answer}
use Rattle.cscout_run.proofs.FindLemmas.{find_tells, found_text}
use Rattle.cscout_run.proofs.reports.found.Goals as goal

pub returns-in-Ok : goal.returns-in-Ok
returns-in-Ok c =
    let found = rw c.as_bytes.ensures.value at c.in-Ok.ensures.answer in
    found_text c.args.a.now.value (parsed c.args.query.now) found.0 c.in-Ok.text.items found.1 found.2

pub returns-in-Err : goal.returns-in-Err
returns-in-Err c =
    let refuses = rw c.as_bytes.ensures.value at c.in-Err.ensures.refused in
    rw c.find_stop.ensures (find_tells (λ (a : Answer). a) c.args.a.now.value c.args.query.now c.in-Err.refusal refuses)
