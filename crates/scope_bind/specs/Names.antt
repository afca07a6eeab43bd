-- What is asked of the names that are bound.
use Rattle.std.specs.Prelude.{ℕ, zero, suc, ◌≤◌, ◌≡◌, Bool, false, List, length, find, reverse, get_or, slice_get, Option, None, Some, ◌==◌, if◌then◌else◌}
use Rattle.std.specs.Option.{option_map, option_map_or, option_and_then}
use Rattle.scope_bind.specs.declared.bound.Name.{Name}
use Rattle.c_types.specs.declared.entity.EntityKind.{EntityKind}
use Rattle.c_types.specs.declared.entity.Linkage.{Linkage}
use Rattle.c_types.specs.declared.entity.Linkage.TheVariants.{Absent}

-- the name that token k is
abbrev pub name_at : List Name → ℕ → Option Name
name_at names k = find (λ n. n.index == k) (reverse names)

abbrev pub entity_at : List Name → ℕ → Option ℕ
entity_at names k = option_map (λ n. n.entity) (name_at names k)

abbrev pub declares_at : List Name → ℕ → Bool
declares_at names k = option_map_or (λ n. n.declares) (name_at names k) false

-- the first name of an entity, by which it is called
abbrev pub first_name : List Name → ℕ → Option Name
first_name names e = option_and_then (λ n. if n.entity == e then Some n else None) (name_at names e)

abbrev pub kind_at : List Name → ℕ → Option EntityKind
kind_at names e = option_map (λ n. n.kind) (first_name names e)

abbrev pub linkage_at : List Name → ℕ → Linkage
linkage_at names e = option_map_or (λ n. n.linkage) (first_name names e) Absent

-- ---- How names are found

-- what a place says: none, or one more than where the name stands
abbrev pub slot : List Name → ℕ → Option Name
slot names zero = None
slot names (suc p) = slice_get names p

-- the places tell the names
pub record ArePlaces (names : List Name) (places : List ℕ) : Type 0 where
  pub told : (k : ℕ) → name_at names k ≡ slot names (get_or places k 0)
  pub within : (k : ℕ) → get_or places k 0 ≤ length names
