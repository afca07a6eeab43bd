-- What `--why` adds to a run: a note behind its message (this project's).
use Rattle.std.specs.Prelude.{ℕ, ◌≡◌, if◌then◌else◌, List, Option, None, Some, Result, Ok, Err}
use Rattle.std.specs.Option.{option_map}
use Rattle.cs_base.specs.Outside.{FileMap}
use Rattle.analysis.specs.Below.lexer.Spelling.{is_identifier_text}
use Rattle.analysis.specs.Below.source_files.Files.{source_of}
use Rattle.analysis.specs.Analysis.{AnalysisValue, analysis_of}
use Rattle.analysis.specs.Texts.{UnitFault}
use Rattle.ws_file.specs.Workspace.{WorkspaceValue}
use Rattle.ws_file.specs.Reading.{WsFault}
use Rattle.command_words.specs.Request.{AskValue, report_asked, edit_asked, ClassValue, class_at, EditValue, rename_asked, template_asked, macro_asked, ReportValue, class_asked, RequestValue, asked_over, asked}
use Rattle.command_words.specs.Telling.{Told}
use Rattle.unnamed_places.specs.declared.steps.FailedStep.{FailedStep}
use Rattle.unnamed_places.specs.Unnamed.{IsUnnamed}
use Rattle.unnamed_places.specs.Lines.{why_line}
use Rattle.usage_notes.specs.Notes.{usage_note}
use Rattle.cscout_run.specs.declared.noting.Note.{Note}
use Rattle.cscout_run.specs.declared.noting.Note.TheVariants.{Nothing, Words, Place}
use Rattle.cscout_run.specs.declared.status.Status.{Status}
use Rattle.cscout_run.specs.declared.status.Status.TheVariants.{Refused, Usage}
use Rattle.cscout_run.specs.declared.stops.Stop.{Stop}
use Rattle.cscout_run.specs.declared.stops.Stop.TheVariants as stop
use Rattle.cscout_run.specs.Answer.{workspace_at}
use Rattle.cscout_run.specs.Steps.{IsLateStop}

-- ---- places

-- the place of an edit; a rename to what is no identifier is refused before its place is looked at
abbrev pub edit_place : EditValue → Option ClassValue
edit_place (rename_asked q) = if is_identifier_text q.name then Some (class_at q.path q.line q.column) else None
edit_place (template_asked q) = Some (class_at q.path q.line q.column)
edit_place (macro_asked q) = Some (class_at q.path q.line q.column)

abbrev pub report_place : ReportValue → Option ClassValue
report_place (class_asked q) = Some q
report_place _ = None

-- the place that is asked about, if there is one
abbrev pub place_asked : AskValue → Option ClassValue
place_asked (report_asked report) = report_place report
place_asked (edit_asked edit) = edit_place edit
place_asked _ = None

-- ---- why it names nothing

-- over an analysis, if there is one
abbrev pub IsWhyOver : ClassValue → Result AnalysisValue UnitFault → Option FailedStep → Type 0
IsWhyOver q (Ok value) why = IsUnnamed value q.path q.line q.column why
IsWhyOver q (Err fault) why = why ≡ None

-- over a workspace, if there is one
abbrev pub IsWhyIn : ClassValue → FileMap → Option (Result WorkspaceValue WsFault) → Option FailedStep → Type 0
IsWhyIn q files (Some (Ok w)) why = IsWhyOver q (analysis_of (source_of files) w) why
IsWhyIn q files (Some (Err fault)) why = why ≡ None
IsWhyIn q files None why = why ≡ None

-- the line that says so
abbrev pub place_line : ClassValue → Option FailedStep → Option (List ℕ)
place_line q why = option_map (why_line q.path q.line q.column) why

-- the same of a place that may be asked about
abbrev pub IsPlaceNote : List ℕ → FileMap → Option ClassValue → Option (List ℕ) → Type 0
IsPlaceNote ws files None line = line ≡ None
IsPlaceNote ws files (Some q) line = (why : Option FailedStep) × IsWhyIn q files (workspace_at ws files) why × (line ≡ place_line q why)

-- ---- notes

-- the note on a request that is refused: why its place names nothing, if it does
abbrev pub IsRefusedNote : Option RequestValue → FileMap → Option (List ℕ) → Type 0
IsRefusedNote (Some (asked_over ws ask)) files line = IsPlaceNote ws files (place_asked ask) line
IsRefusedNote _ files line = line ≡ None

-- The note behind a run on these words that ended so: on words of no form, and on a place that names nothing.
abbrev pub IsNote : List (List ℕ) → FileMap → Status → Option (List ℕ) → Type 0
IsNote words files Usage line = line ≡ Some (usage_note words)
IsNote words files Refused line = IsRefusedNote (asked words) files line
IsNote words files _ line = line ≡ None

-- the messages grew by this line, or by a front of it where a write failed; without a line they stay
abbrev pub TellsNote : Option (List ℕ) → Option (List ℕ) → Option (List ℕ) → ℕ → ℕ → Type 0
TellsNote None before now faults faults' = (now ≡ before) × (faults' ≡ faults)
TellsNote (Some line) before now faults faults' = Told line before now faults faults'

-- The note is found and told, or a read failed or memory ran out: then nothing is told.
abbrev pub IsNoted : (Option (List ℕ) → Type 0) → Result Unit Stop → Option (List ℕ) → Type 0
IsNoted IsOne (Ok done) line = IsOne line
IsNoted IsOne (Err stop) line = IsLateStop stop × (line ≡ None)

-- ---- what inner functions promise each other

-- the line of a note that was found
abbrev pub note_text : List (List ℕ) → Note → Option (List ℕ)
note_text words Nothing = None
note_text words Words = Some (usage_note words)
note_text words (Place path line column why) = Some (why_line path line column why)

-- an early end for want of a workspace or an analysis says nothing of a place
abbrev pub late : Stop → Result (Option FailedStep) Stop
late (stop.Workspace fault) = Ok None
late (stop.Refused why) = Ok None
late (stop.Unread path) = Err (stop.Unread path)
late stop.Memory = Err stop.Memory
