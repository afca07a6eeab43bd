-- A renaming against which nothing stands keeps each unit (ISO/IEC 9899:1999, 5.1.1.2 phases 1 to 4).
use Rattle.std.specs.Prelude.{ℕ, ◌-◌, ◌≡◌, Option, Some, None, List, Ok, slice_get}
use Rattle.cs_base.specs.declared.positions.Part.{Part}
use Rattle.part_respell.specs.Respelled.{respelled}
use Rattle.ws_file.specs.Workspace.{IsWorkspace}
use Rattle.source_files.specs.Files.{Source, nothing_carried}
use Rattle.source_files.specs.Tables.{HasEachOnce}
use Rattle.edited_unit_laws.specs.Lines.{Each}
use Rattle.edited_unit_laws.specs.EditedFiles.{HoldsEdited}
use Rattle.edited_unit_laws.specs.Keeping.{Change}
use Rattle.edited_unit_laws.specs.WorkspaceTexts.{MacroNames, KeepsUnits, renamed_texts}
use Rattle.edited_unit_laws.specs.Analyses.{ReadsAlike, renamed_analysis}
use Rattle.analysis.specs.Analysed.{Analysed}
use Rattle.analysis.specs.Analysis.{UnitAnalysis, AnalysisValue, analysis_of}
use Rattle.analysis.specs.Naming.{Names}
use Rattle.analysis.specs.Texts.{texts_and, texts_of}
use Rattle.rename_meaning.specs.Allowed.{IsAllowed}
use Rattle.rename_meaning.specs.KeptFiles.{WordsAreFree}
use Rattle.rename_meaning.specs.KeptLines.{LinesStayAlike}
use Rattle.rename_meaning.specs.Occurring.{occurring_in}
use Rattle.rename_meaning.specs.Renamings.{name_for}
use Rattle.rename_meaning.specs.Limits.{AreWithinLimits}
use Rattle.renamed.specs.Renamed.{move_to, spell_from, trace_from}
use Rattle.analysis.specs.Changed.{texts_in}

-- ---- the change that spelling the members of a class otherwise makes

-- with these new spellings of the names of macros
abbrev pub change_by : AnalysisValue → List Part → List ℕ → (List ℕ → List ℕ) → Change
change_by a members name macro_name = record {
  occurring = occurring_in a;
  renaming = record {
    spell = spell_from members name;
    trace = trace_from a members name;
    move = move_to a members name;
    macro_name = macro_name;
  };
  editing = respelled members name;
  files = a.table;
}

-- the same of files, where no name of a macro is asked for
abbrev pub change : AnalysisValue → List Part → List ℕ → Change
change a members name = change_by a members name (λ word. word)

-- the new spellings of the names of macros in each unit, by its number from 1
abbrev pub names_in : List Part → List ℕ → Option UnitAnalysis → List ℕ → List ℕ
names_in members name None word = word
names_in members name (Some u) word = name_for members name u.text word

abbrev pub macro_names : AnalysisValue → List Part → List ℕ → MacroNames
macro_names a members name number = names_in members name (slice_get a.units (number - 1))

-- ---- laws

-- The law: where nothing stands against the renaming, and the edited files are within the limits, it keeps each unit.
abbrev pub UnitsAreKept : Type 0
UnitsAreKept = (a : Analysed) (members : List Part) (name : List ℕ) → (h : IsAllowed a members name) → WordsAreFree a.value members → LinesStayAlike a.value members name
    → AreWithinLimits a.value members name → (new : Source) → HoldsEdited (change a.value members name) h.source new
    → KeepsUnits (change a.value members name) (macro_names a.value members name) h.source new 1 h.workspace.units nothing_carried

-- The law: so for a class that a place names, in a workspace whose table has each path once, the units over the edited files
-- have the renamed texts, and leave the edited table.
abbrev pub TextsAreRenamedWhereNamed : Type 0
TextsAreRenamedWhereNamed = (a : Analysed) (members : List Part) (name path : List ℕ) (line column : ℕ) → (h : IsAllowed a members name) → IsWorkspace h.workspace → HasEachOnce a.value.table
    → Names a.value path line column (Some h.class.part) → (new : Source) → HoldsEdited (change a.value members name) h.source new
    → texts_of new h.workspace.units ≡ Ok (renamed_texts (change a.value members name) (texts_and (texts_in a.value.units) a.value.table))

-- The law: and their analysis is the renamed one, where the renamed texts are read and bound as before.
abbrev pub AnalysisIsRenamedWhereNamed : Type 0
AnalysisIsRenamedWhereNamed = (a : Analysed) (members : List Part) (name path : List ℕ) (line column : ℕ) → (h : IsAllowed a members name) → IsWorkspace h.workspace → HasEachOnce a.value.table
    → Names a.value path line column (Some h.class.part) → (new : Source) → HoldsEdited (change a.value members name) h.source new
    → Each (ReadsAlike (change a.value members name).renaming) a.value.units
    → analysis_of new h.workspace ≡ Ok (renamed_analysis (change a.value members name) a.value)
