-- Declarations with linkage (6.2.2), found by their linkage and the spelling of their name.
use Rattle.std.specs.Prelude.{ℕ, ◌+◌, ◌*◌, ◌-◌, ◌==◌, Bool, not, max, List, get_or, Option, None, slice_get, if◌then◌else◌}
use Rattle.c_types.specs.declared.entity.Linkage.{Linkage}
use Rattle.c_types.specs.declared.entity.Linkage.TheVariants.{External, Internal, Absent}
use Rattle.c_types.specs.declared.declarations.Space.{Space}
use Rattle.c_types.specs.declared.declarations.Space.TheVariants.{Ordinary as ordinary}
use Rattle.c_types.specs.declared.declarations.Declaration.{Declaration}
use Rattle.name_chains.specs.Spellings.{number_at}

-- what the ordinary identifiers with this linkage that are spelled as token k have in common, and 0 for all others
abbrev pub linkage_key : List ℕ → Space → Linkage → ℕ → ℕ
linkage_key numbers ordinary External k = number_at numbers k * 2 + 1
linkage_key numbers ordinary Internal k = number_at numbers k * 2 + 2
linkage_key numbers _ _ k = 0

abbrev pub linkage_key_of : List ℕ → Declaration → ℕ
linkage_key_of numbers d = linkage_key numbers d.space d.linkage d.name_at

-- the place of the latest one with this linkage, by the places of the latest ones
abbrev pub newest_linked : List ℕ → List ℕ → Linkage → ℕ → ℕ
newest_linked newest numbers linkage i = get_or newest (linkage_key numbers ordinary linkage i) 0

-- there is one with linkage, and another one
abbrev pub has_other : List ℕ → List ℕ → Linkage → ℕ → Bool
has_other newest numbers External i = not (newest_linked newest numbers Internal i == 0)
has_other newest numbers Internal i = not (newest_linked newest numbers External i == 0)
has_other newest numbers Absent i = not (max (newest_linked newest numbers External i) (newest_linked newest numbers Internal i) == 0)

-- the declaration at a place, if there is one
abbrev pub at_place : List Declaration → ℕ → Option Declaration
at_place declared place = if place == 0 then None else slice_get declared (place - 1)
