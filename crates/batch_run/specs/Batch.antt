-- A batch: renames in order, each on the files as those before left them (this project's own).
use Rattle.std.specs.Prelude.{ℕ, ◌≡◌, Bool, true, false, List, [], ◌∷◌, Result, Ok, Err, codes}
use Rattle.cs_base.specs.Edit.{Edit, with_edits}
use Rattle.cs_base.specs.Outside.{FileMap}
use Rattle.command_words.specs.Message.{refused_line, offence_line, edited_lines}
use Rattle.batch_run.specs.Line.{LineValue}
use Rattle.edited_files.specs.Edited.{with_each}
use Rattle.ws_file.specs.Workspace.{WorkspaceValue}
use Rattle.analysis.specs.Below.source_files.Files.{Source, source_of}
use Rattle.analysis.specs.Analysis.{AnalysisValue, analysis_of}
use Rattle.offences.specs.declared.refusals.Refusal.{Refusal}
use Rattle.offences.specs.declared.refusals.Refusal.TheVariants.{BadName, NoName, NotAFunction, NotAMacro, BadOrder, Offence}
use Rattle.rename_rules.specs.Renaming.{IsRenaming}

-- the answer to a line: the edits of its renaming, or why it is refused
abbrev pub Plan : Type 0
Plan = Result (List Edit) Refusal

-- the edits of a batch, once a line is answered: a refused line changes nothing
abbrev pub after : Plan → List Edit → List Edit
after (Ok new) edits = with_each new edits
after (Err refusal) edits = edits

-- the same for lines in order
abbrev pub after_each : List Plan → List Edit → List Edit
after_each [] edits = edits
after_each (plan ∷ plans) edits = after_each plans (after plan edits)

-- A line over a source: its workspace is accepted, and the line is answered as the renaming that it asks for.
abbrev pub IsAnswer : WorkspaceValue → Source → LineValue → Plan → Type 0
IsAnswer ws source q plan = (a : AnalysisValue) × (analysis_of source ws ≡ Ok a) × IsRenaming a q.path q.line q.column q.name q.strings plan

-- the same over these files
abbrev pub IsLine : WorkspaceValue → FileMap → LineValue → Plan → Type 0
IsLine ws files q plan = IsAnswer ws (source_of files) q plan

-- The lines of a batch in order, and the answer to each, where files have the edits of the lines before. The workspace
-- stays that of the beginning.
abbrev pub IsBatch : WorkspaceValue → FileMap → List Edit → List LineValue → List Plan → Type 0
IsBatch ws files edits [] [] = Unit {0}
IsBatch ws files edits (q ∷ lines) (plan ∷ plans) =
    IsLine ws (with_edits edits files) q plan × IsBatch ws files (after plan edits) lines plans
IsBatch ws files edits [] (plan ∷ plans) = ⊥
IsBatch ws files edits (q ∷ lines) [] = ⊥

-- the message of a refusal
abbrev pub refusal_line : Refusal → List ℕ
refusal_line BadName = refused_line (codes "bad name")
refusal_line NoName = refused_line (codes "no name")
refusal_line NotAFunction = refused_line (codes "not a function")
refusal_line NotAMacro = refused_line (codes "not a macro")
refusal_line BadOrder = refused_line (codes "bad order")
refusal_line (Offence place cause) = offence_line place cause

-- what is written of a line: a line for each file that it edits, or the message of its refusal
abbrev pub plan_text : Plan → List ℕ
plan_text (Ok new) = edited_lines new
plan_text (Err refusal) = refusal_line refusal

-- a line that is refused
abbrev pub is_refused : Plan → Bool
is_refused (Ok new) = false
is_refused (Err refusal) = true
