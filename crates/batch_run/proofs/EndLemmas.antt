-- The end of a batch: what it answers where the files held are told, and what it says of reads.
use Rattle.std.proofs.Common.{◌≡◌, List, Option, None, Some, Result, Ok, Err, subst, sym}
use Rattle.std.specs.Prelude.{IfSome, IfErr, IfOk}
use Rattle.cs_base.specs.Outside.{FileMap, FilesTold, ReadsOnly, NoneFailed}
use Rattle.batch_run.specs.Line.{LineValue}
use Rattle.ws_file.specs.Workspace.{WorkspaceValue}
use Rattle.analysis.specs.Below.source_files.Files.{Source, Table, source_of}
use Rattle.analysis.specs.Below.source_files.Tables.{AreFound, HasEachOnce}
use Rattle.analysis.specs.Analysis.{AnalysisValue, analysis_of}
use Rattle.analysis.specs.Answers.{reads_of}
use Rattle.analysis.specs.declared.analyse_fault.AnalyseFault.{AnalyseFault}
use Rattle.analysis.specs.declared.analyse_fault.AnalyseFault.TheVariants.{Memory}
use Rattle.batch_run.specs.declared.running.Batched.{Batched}
use Rattle.batch_run.specs.Running.{Runs, RunsAsRead, RunsOver}

pub told_runs : (o : Option FileMap) (ws : WorkspaceValue) (lines : List LineValue) (a : AnalysisValue) (result : Result Batched AnalyseFault)
    → ((files : FileMap) → analysis_of (source_of files) ws ≡ Ok a → Runs ws files lines result) → IfSome o (λ held. analysis_of (source_of held) ws ≡ Ok a)
    → IfSome o (λ held. Runs ws held lines result)
told_runs None ws lines a result runs told = tt
told_runs (Some held) ws lines a result runs told = runs held told

memory_reads : (old new : FilesTold) (e : AnalyseFault) → e ≡ Memory → ReadsOnly old new NoneFailed → ReadsOnly old new (reads_of {X = Batched} (Err e))
memory_reads old new e is h =
    subst (λ (f : AnalyseFault). ReadsOnly old new (reads_of {X = Batched} (Err f))) (sym is)
    (record { held = h.held; grows = h.grows; apart = h.apart; told = h.grows })

pub end_reads : (old new : FilesTold) (result : Result Batched AnalyseFault) → IfErr result (λ e. e ≡ Memory) → ReadsOnly old new NoneFailed → ReadsOnly old new (reads_of result)
end_reads old new (Ok b) memory h = h
end_reads old new (Err e) memory h = memory_reads old new e memory h

-- over each source that agrees with what was read
pub read_over : (told : Option FileMap) (table : Table) (ws : WorkspaceValue) (lines : List LineValue) (a : AnalysisValue) (result : Result Batched AnalyseFault)
    → HasEachOnce table → IfSome told (λ held. AreFound (source_of held) table) → ((source : Source) → AreFound source table → analysis_of source ws ≡ Ok a)
    → IfOk result (RunsOver ws lines a) → IfOk result (RunsAsRead told ws lines)
read_over told table ws lines a (Ok b) once found over runs = (
  runs.0,
  table,
  record { once = once; found = found; each = λ source agrees. runs.1 source (over source agrees) },
)
read_over told table ws lines a (Err e) once found over runs = tt
