-- The units of a workspace over edited files (ISO/IEC 9899:1999, 5.1.1.2 phase 4).
use Rattle.std.specs.Prelude.{◌≡◌, ℕ, ◌+◌, List, [], ◌∷◌, length, Ok}
use Rattle.cs_base.specs.Token.{Token}
use Rattle.cs_base.specs.Units.{UnitValue}
use Rattle.lexer.specs.FileText.{file_text}
use Rattle.source_files.specs.Files.{Source, Carried, carried, nothing_carried}
use Rattle.source_files.specs.Tables.{IsGrown}
use Rattle.source_files.specs.Limits.{the_limits}
use Rattle.unit_steps.specs.State.{Did}
use Rattle.include_tree.specs.Unit.{unit_outcome}
use Rattle.analysis.specs.Texts.{TextsValue, texts_from, texts_of}
use Rattle.edited_unit_laws.specs.Lines.{Each}
use Rattle.edited_unit_laws.specs.Edited.{edited_carried}
use Rattle.edited_unit_laws.specs.Keeping.{Change, KeepsUnit}
use Rattle.edited_unit_laws.specs.UnitTexts.{promised, MovesMacro}
use Rattle.analysis.specs.Changed as page

-- The new spellings of macros' names, by the number of a unit and the old spelling: each unit has its own.
abbrev pub MacroNames : Type 0
MacroNames = ℕ → List ℕ → List ℕ

-- the change, with the names of the macros of a unit
abbrev pub change_in : Change → MacroNames → ℕ → Change
change_in c names number = record c { renaming = record c.renaming { macro_name = names number } }

-- What is kept of each unit from this number on, with what is carried from the units before.
abbrev pub KeepsUnits : Change → MacroNames → Source → Source → ℕ → List UnitValue → Carried → Type 0
KeepsUnits c names old new number [] before = Unit {0}
KeepsUnits c names old new number (unit ∷ units) before =
    (d : Did (List Token)) → unit_outcome the_limits file_text old number unit before ≡ Ok d
    → KeepsUnit (change_in c names number) new d.notes × Each (MovesMacro (change_in c names number)) d.notes
    × KeepsUnits c names old new (number + 1) units (carried d.state.table (before.toks + length d.value))

-- texts over the edited files: each is renamed, and the table has the edited bytes
abbrev pub renamed_texts : Change → TextsValue → TextsValue
renamed_texts c t = page.renamed_texts (promised c.renaming) c.editing t

-- The law: the units over the edited files have the renamed texts, and the table the same paths and the edited bytes.
abbrev pub WorkspacesAreRenamed : Type 0
WorkspacesAreRenamed = (c : Change) (names : MacroNames) (old new : Source) (number : ℕ) (units : List UnitValue) (before : Carried) (t : TextsValue)
    → texts_from old number units before ≡ Ok t → IsGrown t.table c.files → KeepsUnits c names old new number units before
    → texts_from new number units (edited_carried c.editing before) ≡ Ok (renamed_texts c t)

-- The same of all units of a workspace, where the files of the change are those that they have in the end.
abbrev pub WorkspaceIsRenamed : Type 0
WorkspaceIsRenamed = (c : Change) (names : MacroNames) (old new : Source) (units : List UnitValue) (t : TextsValue)
    → texts_of old units ≡ Ok t → t.table ≡ c.files → KeepsUnits c names old new 1 units nothing_carried
    → texts_of new units ≡ Ok (renamed_texts c t)
