use Rattle.std.proofs.Common.{subst}
use Rattle.analysis.specs.Below.source_files.Files.{Table}
use Rattle.analysis.specs.Below.source_files.Tables.{AreFound}
use Rattle.batch_run.proofs.EndLemmas.{told_runs, read_over, end_reads}
use Rattle.batch_run.proofs.running.run_batch.Goals as goal

pub all_lines-requires : goal.all_lines-requires
all_lines-requires g c =
    let over = c.in-Ok.ensures.over in
    λ source found. over.2.each source (subst (λ (t : Table). AreFound source t) over.1 found)

pub returns-in-Ok-clause-answer : goal.returns-in-Ok-clause-answer
returns-in-Ok-clause-answer g c =
    told_runs (g.F.Files.told c.args.files.now).held c.args.ws.now c.args.lines.now c.in-Ok.analysis.value c.all_lines.result c.all_lines.ensures.answer c.in-Ok.ensures.answer

pub returns-in-Ok-clause-faults : goal.returns-in-Ok-clause-faults
returns-in-Ok-clause-faults g c =
    end_reads (g.F.Files.told c.args.files.now) (g.F.Files.told c.analyse.new.files) c.all_lines.result c.all_lines.ensures.memory c.in-Ok.ensures.faults

pub returns-in-Ok-clause-meaning : goal.returns-in-Ok-clause-meaning
returns-in-Ok-clause-meaning g c =
    let over = c.in-Ok.ensures.over in
    read_over (g.F.Files.told c.args.files.now).held over.0 c.args.ws.now c.args.lines.now c.in-Ok.analysis.value c.all_lines.result over.2.once over.2.found over.2.each c.all_lines.ensures.over
