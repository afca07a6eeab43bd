-- Links: which tokens of a workspace are spelled alike because one stands for the other (this project's, over
-- ISO/IEC 9899:1999, 6.2.1, 6.2.2, 6.10.1 and 6.10.3).
use Rattle.std.specs.Prelude.{ℕ, ◌+◌, ◌==◌, ◌&&◌, if◌then◌else◌, Bool, false, Option, Some, None, List, [], ◌∷◌, ◌++◌, map, filter, slice_get}
use Rattle.std.specs.List.{flat_map}
use Rattle.std.specs.Option.{option_map_or}
use Rattle.std.specs.Str.{bytes_eq}
use Rattle.cs_base.specs.declared.tokens.Link.{Link}
use Rattle.cs_base.specs.Token.{Token}
use Rattle.cs_base.specs.Units.{UnitValue}
use Rattle.include_tree.specs.Below.line_shape.Signs.{is_name}
use Rattle.linkage_join.specs.Linkage.{UnitValue as ExternalNames, unit as external_names, link_to, links_of as external_links}
use Rattle.gnu_bind.specs.Below.scope_bind.declared.bound.Name.{Name}
use Rattle.gnu_bind.specs.Below.c_types.declared.entity.Linkage.TheVariants.{External}
use Rattle.gnu_bind.specs.Below.c_types.Declarations.{is_linkage}
use Rattle.gnu_bind.specs.Below.scope_bind.Names.{entity_at, linkage_at}
use Rattle.analysis.specs.Analysis.{UnitAnalysis, AnalysisValue}

-- ---- identifiers and their entities

-- token k is bound to the entity
abbrev pub is_bound_to : List Name → ℕ → ℕ → Bool
is_bound_to names entity k = option_map_or (λ e. e == entity) (entity_at names k) false

-- the first occurrence of an entity among tokens, the first of which has number k
unfoldable pub first_occurrence : List Name → ℕ → ℕ → List Token → Option Token
first_occurrence names entity k [] = None
first_occurrence names entity k (t ∷ toks) =
    if is_bound_to names entity k then Some t else first_occurrence names entity (k + 1) toks

-- the link of a token of the unit with the first occurrence of its entity, if it is bound to one (6.2.1)
abbrev pub occurrence_link : List Name → List Token → Token → Option ℕ → List Link
occurrence_link names toks t None = []
occurrence_link names toks t (Some entity) = link_to (first_occurrence names entity 0 toks) t

-- the links of the tokens from number k on
unfoldable pub occurrence_links : List Name → List Token → ℕ → List Token → List Link
occurrence_links names toks k [] = []
occurrence_links names toks k (t ∷ rest) =
    occurrence_link names toks t (entity_at names k) ++ occurrence_links names toks (k + 1) rest

-- ---- names of external linkage (6.2.2)

-- token k is the first that declares an entity of external linkage
abbrev pub is_external_name : List Name → ℕ → Bool
is_external_name names k = is_bound_to names k k && is_linkage (linkage_at names k) External

-- those of the tokens from number k on
unfoldable pub external_names_from : List Name → ℕ → List Token → List Token
external_names_from names k [] = []
external_names_from names k (t ∷ toks) =
    if is_external_name names k then t ∷ external_names_from names (k + 1) toks else external_names_from names (k + 1) toks

-- the external names of a unit of a project
abbrev pub names_of_unit : UnitValue → UnitAnalysis → ExternalNames
names_of_unit unit u = external_names unit.project (external_names_from u.bound.names 0 u.text.toks)

-- those of each unit
abbrev pub names_of_units : List UnitValue → List UnitAnalysis → List ExternalNames
names_of_units (unit ∷ units) (u ∷ us) = names_of_unit unit u ∷ names_of_units units us
names_of_units _ _ = []

-- those of the unit at a place, if there is one
abbrev pub names_at : List UnitValue → ℕ → UnitAnalysis → List ExternalNames
names_at units k u = option_map_or (λ unit. names_of_unit unit u ∷ []) (slice_get units k) []

-- ---- all links

-- Two identifiers of equal spelling: no others are linked.
abbrev pub are_alike : Link → Bool
are_alike l = is_name l.x && is_name l.y && bytes_eq l.x.text l.y.text

-- The links in a unit: replaced names with the names of their macros, names of directives and conditions with the
-- first one spelled so, uses of parameters with the parameters; and identifiers with the first occurrences of
-- their entities.
abbrev pub unit_links : UnitAnalysis → List Link
unit_links u = u.text.links ++ occurrence_links u.bound.names u.text.toks 0 u.text.toks

-- The links of a workspace: those in its units, in order, and those of external names in each project.
unfoldable pub links_of : AnalysisValue → List Link
links_of a =
    filter are_alike (flat_map unit_links a.units ++ external_links (names_of_units a.workspace.units a.units))

-- a link as the two tokens
abbrev pub pair_of : Link → Token × Token
pair_of l = (l.x, l.y)

abbrev pub linked_pairs : AnalysisValue → List (Token × Token)
linked_pairs a = map pair_of (links_of a)
