-- Marks on classes: what the functions that set and read them promise.
use Rattle.std.specs.Prelude.{ℕ, ◌≡◌, ◌<◌, ◌==◌, Bool, true, false, Option, Some, List, [], ◌∷◌, length, slice_set, slice_index_or}
use Rattle.std.specs.List.{fold, list_any}
use Rattle.std.specs.Option.{option_map_or, option_and_then}
use Rattle.cs_base.specs.declared.positions.Part.{Part}
use Rattle.cs_base.specs.declared.positions.Pos.{Pos}
use Rattle.cs_base.specs.Token.{Token}
use Rattle.eclass_map.specs.ClassTable.{Table, HasParts, class_in, part_of}
use Rattle.eclass_map.specs.Positions.{holds}

-- the class of the part that a character comes from
abbrev pub class_at : Table → Option Pos → Option ℕ
class_at classes origin = option_and_then (class_in classes) (option_and_then (part_of classes) origin)

-- the marks with that of the class of a character
abbrev pub mark_class : List Bool → ℕ → List Bool
mark_class marks c = slice_set marks c true

abbrev pub with_character : Table → List Bool → Option Pos → List Bool
with_character classes marks origin = option_map_or (mark_class marks) (class_at classes origin) marks

-- the character comes from the part
abbrev pub is_within : Option Part → Option Pos → Bool
is_within (Some part) (Some p) = holds part p
is_within _ _ = false

-- a part whose class is marked, of a table that tells the parts
abbrev pub IsMarkedPart : Table → List Bool → Part → Type 0
IsMarkedPart classes marks part =
    HasParts classes × (c : ℕ) × (class_in classes part ≡ Some c) × (mark_class marks c ≡ marks)

-- the marks with those of the classes of a token
abbrev pub with_token : Table → List Bool → Token → List Bool
with_token classes marks t = fold (with_character classes) marks t.origins

-- the marks with those of the classes of tokens
abbrev pub with_tokens : Table → List Bool → List Token → List Bool
with_tokens classes marks toks = fold (with_token classes) marks toks

-- ---- what they say

abbrev pub is_class : ℕ → Option ℕ → Bool
is_class c found = option_map_or (λ d. d == c) found false

-- some character of the token comes from a part of the class
abbrev pub touches : Table → ℕ → Token → Bool
touches classes c t = list_any (λ origin. is_class c (class_at classes origin)) t.origins

-- The classes of these tokens are marked, and no others.
pub record AreMarked (classes : Table) (toks : List Token) (marks : List Bool) : Type 0 where
  pub enough : (part : Part) (c : ℕ) → class_in classes part ≡ Some c → c < length marks
  pub each : (c : ℕ) → c < length marks → slice_index_or marks c false ≡ list_any (touches classes c) toks
