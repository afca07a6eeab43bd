-- What scopes say against a new order of items (this project's, over ISO/IEC 9899:1999, 6.2.1, 6.7.5.3 and 6.9.1): names
-- that an item declares for what stands behind it, and uses of one parameter's name in another parameter.
use Rattle.std.specs.Prelude.{ℕ, ◌+◌, ◌-◌, ◌==◌, ◌&&◌, ◌||◌, not, nat_lt, if◌then◌else◌, Bool, true, false, Option, List, [], ◌∷◌, ◌++◌, codes, length, slice_index_or}
use Rattle.std.specs.List.{flat_map, list_any, remove}
use Rattle.std.specs.Option.{option_map_or}
use Rattle.std.specs.Str.{bytes_eq}
use Rattle.cs_base.specs.declared.positions.Pos.{Pos}
use Rattle.cs_base.specs.Token.{Token}
use Rattle.c99_tree.specs.Tree.{Forest, none, token, node}
use Rattle.c99_tree.specs.declared.production.Production.TheVariants.{ExtRest, FunBody}
use Rattle.c_types.specs.declared.entity.EntityKind.{EntityKind}
use Rattle.c_types.specs.declared.entity.EntityKind.TheVariants as entity
use Rattle.c_types.specs.declared.lists.List.{List as NameList}
use Rattle.c_types.specs.declared.parameters.ParameterList.{ParameterList}
use Rattle.c_types.specs.Declarations.{spelling_at, is_in}
use Rattle.c_types.specs.Trees.{is_node, first_list}
use Rattle.analysis.specs.Below.scope_bind.declared.bound.Name.{Name}
use Rattle.list_cuts.specs.Cuts.{numbers}
use Rattle.template_rules.specs.Functions.{place_of}
use Rattle.template_rules.specs.Lists.{parameters_at, separators}

-- token k stands inside a list
abbrev pub is_inside : NameList → ℕ → Bool
is_inside l k = nat_lt l.begin k && nat_lt k l.close

-- ---- DeclarationInArgument

-- what is declared for later tokens: a tag or a typedef name, by which a type is named, or an enumerator
abbrev pub is_type_or_constant : EntityKind → Bool
is_type_or_constant entity.Tag = true
is_type_or_constant entity.Typedef = true
is_type_or_constant entity.Enumerator = true
is_type_or_constant _ = false

-- token k is spelled as the name of the function in which it stands (6.4.2.2)
abbrev pub is_function_word : List Token → ℕ → Bool
is_function_word toks k = bytes_eq (spelling_at toks k) (codes "__func__")

-- A name that declares more than a parameter or a member of its own: such a one, one that is spelled so, or one that declares
-- anew what another name declares.
abbrev pub declares_more : List Token → Name → Bool
declares_more toks n = n.declares && (is_type_or_constant n.kind || (is_function_word toks n.index || not (n.entity == n.index)))

-- it does so inside a list
abbrev pub declaration_place : List Token → NameList → Name → List Pos
declaration_place toks l n = if declares_more toks n && is_inside l n.index then place_of toks n.index else []

abbrev pub declaration_places : List Token → List Name → NameList → List Pos
declaration_places toks names l = flat_map (declaration_place toks l) names

-- what follows a declarator begins with a body
abbrev pub begins_body : Forest → Bool
begins_body (node l first under rest) = is_node l FunBody
begins_body _ = false

-- where the list ends whose names a body begins with, given a declarator and what follows it: the first list of the
-- declarator that stands in no other one
abbrev pub body_list : Forest → List ℕ
body_list (node l first declarator (node m second tail rest)) =
    if begins_body tail then option_map_or (λ k. k ∷ []) (first_list declarator) [] else []
body_list _ = []

-- the same for each definition of a unit
abbrev pub body_lists_in : Forest → List ℕ
body_lists_in none = []
body_lists_in (token i rest) = body_lists_in rest
body_lists_in (node l first under rest) = (if is_node l ExtRest then body_list under else body_lists_in under) ++ body_lists_in rest

-- the name of an argument list inside which such a list ends: a body may follow any declarator, and in another order
-- another list would be the first
abbrev pub body_place : List Token → List ℕ → NameList → List Pos
body_place toks ends l = if list_any (is_inside l) ends then place_of toks l.name else []

-- ---- ParameterDependence

abbrev pub is_ordinary : EntityKind → Bool
is_ordinary entity.Tag = false
is_ordinary entity.Member = false
is_ordinary entity.Label = false
is_ordinary _ = true

-- the name uses an ordinary identifier
abbrev pub uses_ordinary : Name → Bool
uses_ordinary n = not n.declares && is_ordinary n.kind

-- it is token k
abbrev pub is_used_at : ℕ → Name → Bool
is_used_at k n = n.index == k && uses_ordinary n

-- token k is such a name, or a bare one (6.7.5.3 paragraph 11)
abbrev pub is_use : List Name → List ℕ → ℕ → Bool
is_use names bare k = list_any (is_used_at k) names || is_in bare k

-- the token is spelled as the name of a parameter
abbrev pub is_spelled_as : List Token → ℕ → Option ℕ → Bool
is_spelled_as toks k name = option_map_or (λ j. bytes_eq (spelling_at toks j) (spelling_at toks k)) name false

-- token k, where it uses the name of one of these parameters
abbrev pub dependence_place : List Token → List Name → List ℕ → List (Option ℕ) → ℕ → List Pos
dependence_place toks names bare others k =
    if list_any (is_spelled_as toks k) others && is_use names bare k then place_of toks k else []

-- in the tokens of an item, behind a separator and before the next, where these are the names of the other parameters
abbrev pub dependence_between : List Token → List Name → List ℕ → List (Option ℕ) → ℕ → ℕ → List Pos
dependence_between toks names bare others begin close =
    flat_map (dependence_place toks names bare others) (numbers (begin + 1) (close - (begin + 1)))

-- in item number k of a list, given the names of all its parameters and its separators
abbrev pub dependence_in : List Token → List Name → List ℕ → List (Option ℕ) → List ℕ → ℕ → List Pos
dependence_in toks names bare all marks k =
    dependence_between toks names bare (remove all k) (slice_index_or marks k 0) (slice_index_or marks (k + 1) 0)

-- in all its items
abbrev pub dependence_places : List Token → List Name → List ℕ → List ParameterList → NameList → List Pos
dependence_places toks names bare lists l =
    option_map_or (λ (p : ParameterList). flat_map (dependence_in toks names bare p.names (separators l)) (numbers 0 (length l.commas + 1)))
    (parameters_at lists l.name) []
