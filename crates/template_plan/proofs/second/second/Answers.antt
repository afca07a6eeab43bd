use Rattle.template_meaning.proofs.KeptTables.{second_is}
use Rattle.template_plan.proofs.second.second.Goals as goal

pub returns-in-Ok : goal.returns-in-Ok
returns-in-Ok c =
    let over = c.in-Ok.ensures.over in
    second_is c.args.edits.now c.args.a.now.value c.in-Ok.b.value c.workspace-ws.result.now c.in_ok-files.files.files over.0 c.workspace-ws.ensures c.in-Ok.ensures.whole.0
    c.in_ok-files.ensures over.1 over.2.found over.2.each
