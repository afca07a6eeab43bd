-- Members by their number in a structure or union, as the code counts them.
use Rattle.std.specs.Prelude.{ℕ, ◌+◌, Bool, false, List, [], ◌∷◌, Option, None, Some, if◌then◌else◌, ◌==◌}
use Rattle.c_types.specs.declared.declarations.Space.{Space}
use Rattle.c_types.specs.declared.declarations.Space.TheVariants.{Members as members, Unnamed as unnamed}
use Rattle.c_types.specs.declared.declarations.Declaration.{Declaration}
use Rattle.c_types.specs.declared.frames.Position.{Position}
use Rattle.c_types.specs.declared.frames.Position.TheVariants.{Numbered as numbered, Lost as lost}

-- the places of a structure or union, with those of its anonymous members
abbrev pub is_place_in : ℕ → Space → Bool
is_place_in number (members n) = n == number
is_place_in number (unnamed n) = n == number
is_place_in number _ = false

abbrev pub is_member_of : ℕ → Declaration → Bool
is_member_of number d = is_place_in number d.space

-- how many stand before the one with the name
abbrev pub place_of : List Declaration → ℕ → ℕ
place_of [] name_at = 0
place_of (d ∷ later) name_at = if d.name_at == name_at then 0 else place_of later name_at + 1

-- the place of the member with the name; one inside an anonymous member has none
abbrev pub place_found : List Declaration → Bool → ℕ → Position
place_found ds is_inner name_at = if is_inner then lost else numbered (place_of ds name_at)
