-- What inner functions promise each other of places by which lists and tokens are looked for.
use Rattle.std.specs.Borrow.{Bor}
use Rattle.std.specs.Prelude.{ℕ, ◌+◌, ◌*◌, ◌^◌, ◌≡◌, ◌<◌, nat_le, Bool, true, List, length, slice_index_or}
use Rattle.std.specs.List.{list_any}
use Rattle.std.specs.Option.{option_map_or}
use Rattle.cs_base.specs.declared.positions.Pos.{Pos}
use Rattle.cs_base.specs.Token.{Token}
use Rattle.c_types.specs.declared.lists.List.{List as NameList}
use Rattle.template_rules.specs.Functions.{origin_of}

-- the number of a place, and of the place where the name of a list stands
abbrev pub place_number : Pos → ℕ
place_number p = p.file * 2 ^ 32 + p.at

abbrev pub name_number : List Token → NameList → ℕ
name_number toks l = option_map_or place_number (origin_of toks l.name) 0

-- none of these tokens begins before the one in front of it
abbrev pub AreInOrder : List Token → Type 0
AreInOrder toks =
    (k : ℕ) (d : Token) → k + 1 < length toks → nat_le (slice_index_or toks k d).at.at (slice_index_or toks (k + 1) d).at.at ≡ true

-- lists of which the same tests hold: the one are the others in some order
abbrev pub HaveSame : List (Bor NameList) → List (Bor NameList) → Type 0
HaveSame ls others = (p : Bor NameList → Bool) → list_any p ls ≡ list_any p others
