-- What callers see of a unit over the edited files (ISO/IEC 9899:1999, 5.1.1.2 phase 4).
use Rattle.std.specs.Prelude.{◌≡◌, ℕ, List, Ok}
use Rattle.std.specs.Option.{option_map}
use Rattle.cs_base.specs.declared.tokens.Link.{Link}
use Rattle.cs_base.specs.Token.{Token, origin_at}
use Rattle.cs_base.specs.Units.{UnitValue}
use Rattle.lexer.specs.FileText.{file_text}
use Rattle.macro_body.specs.Notes as expansion
use Rattle.macro_expand.specs.Renaming.{Renaming, renamed}
use Rattle.unit_steps.specs.declared.events.Event.{Event}
use Rattle.source_files.specs.Files.{Source, Carried}
use Rattle.source_files.specs.Tables.{IsGrown}
use Rattle.source_files.specs.Limits.{the_limits}
use Rattle.unit_steps.specs.Notes.{Note, Happened}
use Rattle.unit_steps.specs.State.{Did}
use Rattle.unit_steps.specs.Texts.{UnitTextValue}
use Rattle.include_tree.specs.Preprocessed.{Preprocessed, preprocessed}
use Rattle.include_tree.specs.Unit.{unit_outcome}
use Rattle.edited_unit_laws.specs.Lines.{Each}
use Rattle.edited_unit_laws.specs.Edited.{edited_carried}
use Rattle.edited_unit_laws.specs.Keeping.{Change, KeepsUnit}
use Rattle.analysis.specs.Changed.{Editing}
use Rattle.analysis.specs.Changed as page

-- a renaming without the spellings of macros' names: what is promised of a rename knows no macro
abbrev pub promised : Renaming → page.Renaming
promised r = record { spell = r.spell; trace = r.trace; move = r.move }

-- a link, an event and the text of a unit, renamed
abbrev pub renamed_link : Renaming → Link → Link
renamed_link r l = page.renamed_link (promised r) l

abbrev pub renamed_event : Renaming → Event → Event
renamed_event r e = page.renamed_event (promised r) e

abbrev pub renamed_text : Renaming → UnitTextValue → UnitTextValue
renamed_text r k = page.renamed_text (promised r) k

-- the same with what is carried to the next unit
abbrev pub renamed_unit : Editing → Renaming → Preprocessed → Preprocessed
renamed_unit edit r p = record { text = renamed_text r p.text; after = edited_carried edit p.after }

-- the name of a macro that replaces a name stands first where the position moved
abbrev pub MovesMacro : Change → Note → Type 0
MovesMacro c (Happened run before (expansion.Replaced name m more)) = origin_at (renamed c.renaming m) 0 ≡ option_map c.renaming.move (origin_at m 0)
MovesMacro c _ = Unit {0}

-- The law: what is seen of a unit over the edited files is what was seen of it, renamed, and the next unit gets the
-- same counts and the edited table.
abbrev pub UnitTextsAreRenamed : Type 0
UnitTextsAreRenamed = (c : Change) (old new : Source) (number : ℕ) (unit : UnitValue) (before : Carried) (d : Did (List Token)) (p : Preprocessed)
    → unit_outcome the_limits file_text old number unit before ≡ Ok d → preprocessed old number unit before ≡ Ok p
    → IsGrown d.state.table c.files → KeepsUnit c new d.notes → Each (MovesMacro c) d.notes
    → preprocessed new number unit (edited_carried c.editing before) ≡ Ok (renamed_unit c.editing c.renaming p)
