-- Units over the edited files (ISO/IEC 9899:1999, 5.1.1.2 phase 4).
use Rattle.std.specs.Prelude.{◌≡◌, ℕ, List, map, Ok}
use Rattle.cs_base.specs.Token.{Token}
use Rattle.cs_base.specs.Units.{UnitValue}
use Rattle.lexer.specs.FileText.{file_text}
use Rattle.macro_body.specs.Macro.{Table as Macros}
use Rattle.macro_expand.specs.Renaming.{renamed}
use Rattle.source_files.specs.Files.{Source, Carried}
use Rattle.source_files.specs.Tables.{IsGrown}
use Rattle.source_files.specs.Limits.{the_limits}
use Rattle.unit_steps.specs.State.{Did, did}
use Rattle.include_tree.specs.Unit.{unit_outcome}
use Rattle.edited_unit_laws.specs.Edited.{edited_carried}
use Rattle.edited_unit_laws.specs.Keeping.{Change, KeepsUnit}
use Rattle.edited_unit_laws.specs.Renamed.{renamed_happening}
use Rattle.edited_unit_laws.specs.Steps.{moved}

-- The law: where a unit has no fault, what it is made of grows into the files of the end, and the renaming keeps what it
-- must, the unit over the edited files has the renamed tokens and notes, the same work left and as many tokens, and a
-- table with the same paths and the edited bytes.
abbrev pub UnitsAreRenamed : Type 0
UnitsAreRenamed = (c : Change) (old new : Source) (number : ℕ) (unit : UnitValue) (before : Carried) (d : Did (List Token))
    → unit_outcome the_limits file_text old number unit before ≡ Ok d → IsGrown d.state.table c.files → KeepsUnit c new d.notes
    → (macros : Macros) × (unit_outcome the_limits file_text new number unit (edited_carried c.editing before)
    ≡ Ok (did (map (renamed c.renaming) d.value) (map (renamed_happening c.renaming) d.notes) (moved c macros d.state)))
