-- A unit by itself over edited files (ISO/IEC 9899:1999, 5.1.1.2 phase 4): it begins with nothing carried, so files have
-- other numbers than in the analysis of all units, and the change is one over these.
use Rattle.std.specs.Prelude.{◌≡◌, ℕ, List, Some, Ok}
use Rattle.cs_base.specs.Token.{Token}
use Rattle.cs_base.specs.Units.{UnitValue}
use Rattle.lexer.specs.FileText.{file_text}
use Rattle.source_files.specs.Files.{Source, nothing_carried}
use Rattle.source_files.specs.Limits.{the_limits}
use Rattle.unit_steps.specs.State.{Did}
use Rattle.include_tree.specs.Preprocessed.{Preprocessed, one_unit}
use Rattle.include_tree.specs.Unit.{unit_outcome}
use Rattle.analysis.specs.Texts.{unit_at, one_text_of}
use Rattle.edited_unit_laws.specs.Lines.{Each}
use Rattle.edited_unit_laws.specs.Keeping.{Change, KeepsUnit}
use Rattle.edited_unit_laws.specs.UnitTexts.{renamed_text, renamed_unit, MovesMacro}

-- What is kept of a unit by itself.
abbrev pub KeepsAlone : Change → Source → Source → ℕ → UnitValue → Type 0
KeepsAlone c old new number unit =
    (d : Did (List Token)) → unit_outcome the_limits file_text old number unit nothing_carried ≡ Ok d → KeepsUnit c new d.notes × Each (MovesMacro c) d.notes

-- The law: where the files of the change are those that the unit has in the end, it is renamed over the edited files.
abbrev pub UnitAloneIsRenamed : Type 0
UnitAloneIsRenamed = (c : Change) (old new : Source) (number : ℕ) (unit : UnitValue) (p : Preprocessed)
    → one_unit old number unit ≡ Ok p → p.after.table ≡ c.files → KeepsAlone c old new number unit
    → one_unit new number unit ≡ Ok (renamed_unit c.editing c.renaming p)

-- The same of the text of a unit of this number, from 1.
abbrev pub OneTextIsRenamed : Type 0
OneTextIsRenamed = (c : Change) (old new : Source) (units : List UnitValue) (number : ℕ) (unit : UnitValue) (p : Preprocessed)
    → unit_at units number ≡ Some unit → one_unit old number unit ≡ Ok p → p.after.table ≡ c.files → KeepsAlone c old new number unit
    → one_text_of new units number ≡ Some (Ok (renamed_text c.renaming p.text))
