-- The links of a unit (this project's, over ISO/IEC 9899:1999, 6.10.1, 6.10.3 and 6.10.3.5).
use Rattle.std.specs.Prelude.{◌≡◌, ℕ, List, Ok, Some, slice_get}
use Rattle.cs_base.specs.declared.tokens.Link.{Link}
use Rattle.cs_base.specs.Units.{UnitValue}
use Rattle.source_files.specs.Files.{Source, Carried}
use Rattle.include_tree.specs.Preprocessed.{Preprocessed, preprocessed}
use Rattle.expansion_laws.specs.Telling.{AreAlike}

-- the value is one of these
abbrev pub IsIn : {X : Type 0} → List X → X → Type 0
IsIn xs x = (k : ℕ) × (slice_get xs k ≡ Some x)

-- The law: each link of a unit joins two identifiers of equal spelling.
abbrev pub UnitLinksAreAlike : Type 0
UnitLinksAreAlike = (source : Source) (number : ℕ) (unit : UnitValue) (before : Carried) (p : Preprocessed)
    → preprocessed source number unit before ≡ Ok p → (l : Link) → IsIn p.text.links l → AreAlike l.x l.y
