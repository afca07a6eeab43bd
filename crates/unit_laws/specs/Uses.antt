-- Items that a unit reached, and uses of parameters in their definitions (ISO/IEC 9899:1999, 6.10.3).
use Rattle.std.specs.Prelude.{◌≡◌, ℕ, Some, Ok, slice_get}
use Rattle.std.specs.List.{flat_map}
use Rattle.cs_base.specs.declared.tokens.Link.{Link}
use Rattle.cs_base.specs.Units.{UnitValue}
use Rattle.line_shape.specs.declared.items.ItemKind.TheVariants.{Define}
use Rattle.macro_body.specs.declared.definitions.Definition.{Definition}
use Rattle.macro_body.specs.Defining.{defined_by}
use Rattle.unit_steps.specs.declared.events.Reached.{Reached}
use Rattle.source_files.specs.Files.{Source, SourceFile, Table, Carried}
use Rattle.source_files.specs.Tables.{IsGrown}
use Rattle.unit_steps.specs.Names.{definition_links}
use Rattle.unit_steps.specs.Notes.{links_of}
use Rattle.source_files.specs.Sources.{source_at}
use Rattle.unit_steps.specs.Texts.{UnitTextValue}
use Rattle.include_tree.specs.Preprocessed.{Preprocessed, preprocessed}
use Rattle.include_tree.specs.Walk.{ItemText, items_in}
use Rattle.unit_laws.specs.UnitLinks.{IsIn}

-- the tokens of an item give a definition, and the unit has the links of its uses of parameters
pub record UsesHaveLinks (text : UnitTextValue) (i : ItemText) : Type 0 where
  pub definition : Definition
  pub defined : defined_by i.toks ≡ Some definition
  pub links : (l : Link) → IsIn (flat_map links_of (definition_links definition)) l → IsIn text.links l

-- What a unit reached is an item of a kept file; if it is a `define` line, its uses have links.
pub record IsReachedItem (table : Table) (text : UnitTextValue) (r : Reached) : Type 0 where
  pub file : SourceFile
  pub is_kept : source_at table r.file ≡ Some file
  pub item : ItemText
  pub at : slice_get (items_in file) r.item ≡ Some item
  pub uses : item.kind ≡ Define → UsesHaveLinks text item

-- The law: so it is with each item that a unit reached. The table is one into which that behind the unit grows.
abbrev pub UsesAreLinked : Type 0
UsesAreLinked = (source : Source) (number : ℕ) (unit : UnitValue) (before : Carried) (p : Preprocessed) (table : Table)
    → preprocessed source number unit before ≡ Ok p → IsGrown p.after.table table → (r : Reached) → IsIn p.text.reached r → IsReachedItem table p.text r
