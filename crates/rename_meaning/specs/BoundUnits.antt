-- The binding of units under a renaming against which nothing stands (ISO/IEC 9899:1999, 6.2.1).
use Rattle.std.specs.Prelude.{◌≡◌, ℕ, false, List, map, Ok}
use Rattle.cs_base.specs.declared.positions.Part.{Part}
use Rattle.cs_base.specs.Units.{is_gnu}
use Rattle.unit_steps.specs.Below.macro_expand.Renaming.{Renaming, renamed}
use Rattle.analysis.specs.Below.scope_bind.Bound.{binding_of}
use Rattle.tree_laws.specs.RenamedNames.{NamesAreRenamed}
use Rattle.analysis.specs.Analysed.{Analysed}
use Rattle.analysis.specs.Analysis.{UnitAnalysis}
use Rattle.rename_meaning.specs.Allowed.{IsAllowed}
use Rattle.rename_meaning.specs.KeptTokens.{Spells}
use Rattle.rename_meaning.specs.Renamings.{KeepsUnedited, renaming}
use Rattle.unit_laws.specs.UnitLinks.{IsIn}

-- The law: where nothing stands against spelling the members of a class otherwise, and a renaming spells tokens so, the
-- renamed tokens of each unit of the analysis that is not of GNU C, with the tree that the unit has, are bound name for name as before.
abbrev pub NamesBindAsBefore : Type 0
NamesBindAsBefore = (a : Analysed) (members : List Part) (name : List ℕ) (r : Renaming) → IsAllowed a members name → Spells members name r → KeepsUnedited r
    → (u : UnitAnalysis) → IsIn a.value.units u → is_gnu u.standard ≡ false → binding_of (map (renamed r) u.text.toks) u.tree ≡ Ok u.bound

-- So it is with the renaming that this makes in the unit.
abbrev pub UnitsBindAsBefore : Type 0
UnitsBindAsBefore = (a : Analysed) (members : List Part) (name : List ℕ) → IsAllowed a members name → (u : UnitAnalysis) → IsIn a.value.units u
    → is_gnu u.standard ≡ false → binding_of (map (renamed (renaming a.value members name u.text)) u.text.toks) u.tree ≡ Ok u.bound

-- The law: and they are a renaming of the text of the unit: the words that binding asks for stay, no token gets the spelling
-- of a name that it had not, and all names of an entity go together.
abbrev pub UnitsAreRenamedWhole : Type 0
UnitsAreRenamedWhole = (a : Analysed) (members : List Part) (name : List ℕ) (r : Renaming) → IsAllowed a members name → Spells members name r → KeepsUnedited r
    → (u : UnitAnalysis) → IsIn a.value.units u → NamesAreRenamed u.text.toks (map (renamed r) u.text.toks) u.bound.names
