-- The promise of an edit and of a trim that is done, and of each accepted line of a batch.
use Rattle.std.specs.Prelude.{ℕ, ◌≡◌, List, [], Option, Some, Ok}
use Rattle.cs_base.specs.Edit.{with_edits}
use Rattle.cs_base.specs.Outside.{FileMap}
use Rattle.ws_file.specs.Workspace.{WorkspaceValue}
use Rattle.analysis.specs.Below.source_files.Files.{source_of}
use Rattle.batch_run.specs.Line.{LineValue}
use Rattle.batch_run.specs.Batch.{Plan, IsBatch, after_each}
use Rattle.batch_run.specs.Keeping.{KeepsLines}
use Rattle.trim_plan.specs.Kept.{IsTrimmed}
use Rattle.command_words.specs.Request.{AskValue, edit_asked, trim_asked, batch_asked, RequestValue, asked_over}
use Rattle.cscout_run.specs.Answer.{batch_at, workspace_at}
use Rattle.cscout_run.specs.Asks.{Keeps}

-- The files before and after a batch whose lines were run, over this workspace.
pub record HasRun (file : List ℕ) (ws : WorkspaceValue) (before now : FileMap) : Type 0 where
  -- the batch file is there and has these lines
  pub lines : List LineValue
  pub batch : batch_at file before ≡ Some (Ok lines)
  -- each line has an answer, over the files as the lines before left them
  pub plans : List Plan
  pub answers : IsBatch ws before [] lines plans
  -- each accepted line is a rename between the files as the lines before left them and as it leaves them
  pub keeps : KeepsLines ws before [] lines plans
  -- the files are as the last line leaves them
  pub left : now ≡ with_edits (after_each plans []) before

-- what is kept over a workspace: an edit keeps what it promises, a trim all but what the lines brought that it takes away, and the
-- lines of a batch were run
abbrev pub KeepsAsk : AskValue → WorkspaceValue → FileMap → FileMap → Type 0
KeepsAsk (edit_asked edit) ws before now = Keeps edit ws (source_of before) (source_of now)
KeepsAsk (trim_asked stays) ws before now = IsTrimmed ws (source_of before) (source_of now)
KeepsAsk (batch_asked file) ws before now = HasRun file ws before now
KeepsAsk _ ws before now = Unit {0}

-- the same over a workspace file, which is there and accepted
pub record KeepsOverFile (file : List ℕ) (ask : AskValue) (before now : FileMap) : Type 0 where
  pub ws : WorkspaceValue
  pub workspace : workspace_at file before ≡ Some (Ok ws)
  pub keeps : KeepsAsk ask ws before now

-- the promise to these words where the run is done
abbrev pub KeepsPromise : Option RequestValue → FileMap → FileMap → Type 0
KeepsPromise (Some (asked_over file ask)) before now = KeepsOverFile file ask before now
KeepsPromise _ before now = Unit {0}

-- What is asked is a batch whose file has no bad line.
abbrev pub HasLines : AskValue → FileMap → Type 0
HasLines (batch_asked file) before = (lines : List LineValue) × (batch_at file before ≡ Some (Ok lines))
HasLines _ before = ⊥

-- the promise to these words where the run is refused: the lines of a batch were run too, if none of them is bad
abbrev pub KeepsRefused : Option RequestValue → FileMap → FileMap → Type 0
KeepsRefused (Some (asked_over file ask)) before now = HasLines ask before → KeepsOverFile file ask before now
KeepsRefused _ before now = Unit {0}
