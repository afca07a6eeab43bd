-- The names of which a unit tells (this project's, over ISO/IEC 9899:1999, 6.10.1, 6.10.3 and 6.10.3.5): those that are
-- replaced, and those that directives and conditions take.
use Rattle.std.specs.Prelude.{◌≡◌, ℕ, ◌||◌, ◌⊎◌, Bool, true, false, List, Some, Ok, codes}
use Rattle.std.specs.List.{list_all}
use Rattle.std.specs.Option.{is_none}
use Rattle.std.specs.Str.{bytes_eq}
use Rattle.cs_base.specs.declared.tokens.Link.{Link}
use Rattle.cs_base.specs.Token.{Token}
use Rattle.cs_base.specs.Units.{UnitValue}
use Rattle.lexer.specs.FileText.{file_text}
use Rattle.line_shape.specs.Signs.{is_name}
use Rattle.macro_body.specs.Notes as expansion
use Rattle.unit_steps.specs.declared.events.Event.{Event}
use Rattle.source_files.specs.Files.{Source, Carried}
use Rattle.source_files.specs.Limits.{the_limits}
use Rattle.unit_steps.specs.Notes.{Happened}
use Rattle.unit_steps.specs.State.{Did}
use Rattle.unit_steps.specs.Texts.{UnitTextValue, unit_text}
use Rattle.include_tree.specs.Preprocessed.{Preprocessed, preprocessed}
use Rattle.include_tree.specs.Unit.{unit_outcome}
use Rattle.unit_laws.specs.UnitLinks.{IsIn}

-- the name of a macro with which each unit begins (6.10.8), or each of GNU C: where it is replaced, it is linked with nothing
abbrev pub is_first_name : List ℕ → Bool
is_first_name text = bytes_eq text (codes "__LINE__") || (bytes_eq text (codes "__FILE__") || bytes_eq text (codes "__COUNTER__"))

-- an event of the unit tells of the name
pub record IsTold (text : UnitTextValue) (name : Token) : Type 0 where
  pub event : Event
  pub among : IsIn text.events event
  pub named : event.name ≡ Some name

-- both tokens of each link of the unit are mapped to the same
abbrev pub LinksAgree : (Token → List ℕ) → UnitTextValue → Type 0
LinksAgree map text = (l : Link) → IsIn text.links l → map l.x ≡ map l.y

-- The law: then names of one spelling of which the unit tells are mapped to the same.
abbrev pub ToldNamesAreLinked : Type 0
ToldNamesAreLinked = (map : Token → List ℕ) (source : Source) (number : ℕ) (unit : UnitValue) (before : Carried) (p : Preprocessed)
    → preprocessed source number unit before ≡ Ok p → LinksAgree map p.text
    → (t u : Token) → IsTold p.text t → IsTold p.text u → t.text ≡ u.text → is_first_name t.text ≡ false → map t ≡ map u

-- The law: then a name that is replaced is an identifier, and is mapped as the name of its macro, unless that stands in no
-- file.
abbrev pub ReplacingMacrosAreLinked : Type 0
ReplacingMacrosAreLinked = (map : Token → List ℕ) (source : Source) (number : ℕ) (unit : UnitValue) (before : Carried) (d : Did (List Token))
    → unit_outcome the_limits file_text source number unit before ≡ Ok d → LinksAgree map (unit_text d.value d.notes)
    → (run : Bool) (count : ℕ) (name m : Token) (more : ℕ) → IsIn d.notes (Happened run count (expansion.Replaced name m more))
    → (is_name name ≡ true) × ((map name ≡ map m) ⊎ (list_all is_none m.origins ≡ true))
