use Rattle.analysis.specs.Analysis.{AnalysisValue, analysis_of}
use Rattle.analysis.specs.Below.source_files.Files.{source_of}
use Rattle.cscout_run.proofs.OverLemmas.{fault-stops, stop_told}
use Rattle.cscout_run.proofs.RunLemmas.{if_told-map}
use Rattle.cscout_run.proofs.analysing.analysis_over.Goals as goal

pub returns-in-Ok-clause-answer : goal.returns-in-Ok-clause-answer
returns-in-Ok-clause-answer g c = c.in-Ok.ensures.answer

pub returns-in-Ok-clause-faults : goal.returns-in-Ok-clause-faults
returns-in-Ok-clause-faults g c = c.in-Ok.ensures.faults

pub returns-in-Err-clause-answer : goal.returns-in-Err-clause-answer
returns-in-Err-clause-answer g c =
    if_told-map (g.F.Files.told c.args.files.now).held _ _ c.in-Err.ensures.answer
    (λ fs h ws. fault-stops ws c.in-Err.fault c.stop_of.result (analysis_of (source_of fs) c.args.ws.now) c.stop_of.ensures h)

pub returns-in-Err-clause-faults : goal.returns-in-Err-clause-faults
returns-in-Err-clause-faults g c =
    stop_told AnalysisValue (g.F.Files.told c.args.files.now) (g.F.Files.told c.analyse.new.files) c.in-Err.fault c.stop_of.result c.stop_of.ensures
    c.in-Err.ensures.faults
