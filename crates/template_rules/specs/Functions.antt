-- The functions that a class names (this project's, over ISO/IEC 9899:1999, 6.2.1 and 6.9.1): each function of some unit
-- one of whose names holds a member of the class.
use Rattle.std.specs.Prelude.{ℕ, ◌≡◌, ◌==◌, ◌&&◌, Bool, false, Option, List, [], ◌∷◌, slice_get}
use Rattle.std.specs.List.{list_any}
use Rattle.std.specs.Option.{option_map_or, option_and_then}
use Rattle.cs_base.specs.declared.positions.Part.{Part}
use Rattle.cs_base.specs.declared.positions.Pos.{Pos}
use Rattle.cs_base.specs.Token.{Token, origin_at}
use Rattle.c_types.specs.declared.lists.List.{List as NameList}
use Rattle.analysis.specs.Below.scope_bind.declared.bound.Name.{Name}
use Rattle.analysis.specs.Below.scope_bind.Bound.{is_function_name}
use Rattle.analysis.specs.Below.scope_bind.Names.{entity_at}
use Rattle.analysis.specs.Analysis.{UnitAnalysis, AnalysisValue}
use Rattle.offences.specs.Tokens.{holds_member}

-- ---- tokens

-- token k holds a member
abbrev pub holds_at : List Part → List Token → ℕ → Bool
holds_at members toks k = option_map_or (holds_member members) (slice_get toks k) false

-- where the first character of token k comes from
abbrev pub origin_of : List Token → ℕ → Option Pos
origin_of toks k = option_and_then (λ (t : Token). origin_at t 0) (slice_get toks k)

-- the same as a list, where that is a file
abbrev pub place_of : List Token → ℕ → List Pos
place_of toks k = option_map_or (λ p. p ∷ []) (origin_of toks k) []

-- ---- functions, by the tokens and the names of a unit

-- the name is one of a function, and its token holds a member
abbrev pub is_named : List Part → List Token → Name → Bool
is_named members toks n = is_function_name n.kind && holds_at members toks n.index

-- an entity is one of these functions
abbrev pub is_function : List Part → List Token → List Name → ℕ → Bool
is_function members toks names e = list_any (λ (n : Name). (n.entity == e) && is_named members toks n) names

-- token k is a name of one of them
abbrev pub names_function : List Part → List Token → List Name → ℕ → Bool
names_function members toks names k = option_map_or (is_function members toks names) (entity_at names k) false

-- it is the name of a declarator of one of them
abbrev pub declares_function : List Part → List Token → List Name → Name → Bool
declares_function members toks names n = n.declares && is_function members toks names n.entity

-- the class names a function
abbrev pub has_function : List Part → AnalysisValue → Bool
has_function members a = list_any (λ (u : UnitAnalysis). list_any (is_named members u.text.toks) u.bound.names) a.units

-- ---- what inner functions promise each other

-- these are the functions of a unit with these tokens and names
abbrev pub AreFunctionsOf : List Part → List Token → List Name → List ℕ → Type 0
AreFunctionsOf members toks names entities = (e : ℕ) → list_any (λ f. f == e) entities ≡ is_function members toks names e

-- the list belongs to a name of one of these entities
abbrev pub is_list_of : List Name → List ℕ → NameList → Bool
is_list_of names entities l = option_map_or (λ e. list_any (λ f. f == e) entities) (entity_at names l.name) false
