-- What the lines of a batch keep: each accepted one is a rename (this project's own).
use Rattle.std.specs.Prelude.{◌≡◌, List, [], ◌∷◌, Ok, Err}
use Rattle.cs_base.specs.Edit.{Edit, with_edits}
use Rattle.cs_base.specs.Outside.{FileMap}
use Rattle.batch_run.specs.Line.{LineValue}
use Rattle.ws_file.specs.Workspace.{WorkspaceValue}
use Rattle.analysis.specs.Below.source_files.Files.{Source, source_of}
use Rattle.edited_files.specs.Edited.{AreMade}
use Rattle.offences.specs.Class.{NamedClass}
use Rattle.renamed.specs.Rename.{IsRename}
use Rattle.batch_run.specs.Batch.{Plan, IsAnswer, after}

-- what a line keeps between two sources: an accepted one renames
abbrev pub KeepsSource : WorkspaceValue → LineValue → Source → Source → Plan → Type 0
KeepsSource ws q before now (Ok new) = (r : NamedClass) × IsRename ws q.path q.line q.column q.name q.strings before now r
KeepsSource ws q before now (Err refusal) = Unit {0}

-- the same between the files as it finds them and as it leaves them
abbrev pub KeepsLine : WorkspaceValue → LineValue → FileMap → FileMap → Plan → Type 0
KeepsLine ws q before now plan = KeepsSource ws q (source_of before) (source_of now) plan

-- what all lines keep, in order
abbrev pub KeepsLines : WorkspaceValue → FileMap → List Edit → List LineValue → List Plan → Type 0
KeepsLines ws files edits [] plans = Unit {0}
KeepsLines ws files edits (q ∷ lines) [] = Unit {0}
KeepsLines ws files edits (q ∷ lines) (plan ∷ plans) =
    KeepsLine ws q (with_edits edits files) (with_edits (after plan edits) files) plan × KeepsLines ws files (after plan edits) lines plans

-- ---- Over whatever source

-- what a line leaves: its edits are made, and nothing is where it is refused
abbrev pub Leaves : Plan → Source → Source → Type 0
Leaves (Ok new) before now = AreMade new before now
Leaves (Err refusal) before now = now ≡ before

-- A line over a source, and what follows over the source that it leaves.
pub record GoesOn (ws : WorkspaceValue) (q : LineValue) (plan : Plan) (before : Source) (Then : Source → Type 0) : Type 0 where
  pub answered : IsAnswer ws before q plan
  pub now : Source
  pub leaves : Leaves plan before now
  pub keeps : KeepsSource ws q before now plan
  pub then_ : Then now

-- What all lines keep, in order, between a source and the one that they leave.
abbrev pub KeepBetween : WorkspaceValue → List LineValue → List Plan → Source → Source → Type 0
KeepBetween ws [] [] before now = now ≡ before
KeepBetween ws (q ∷ lines) (plan ∷ plans) before now = GoesOn ws q plan before (λ between. KeepBetween ws lines plans between now)
KeepBetween ws [] (plan ∷ plans) before now = ⊥
KeepBetween ws (q ∷ lines) [] before now = ⊥
