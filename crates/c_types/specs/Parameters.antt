-- The parameters of the names of declarators, as the tree shows them (ISO/IEC 9899:1999, 6.7.5.3).
use Rattle.std.specs.Prelude.{ℕ, Bool, true, false, List, [], ◌∷◌, ◌++◌, map, Option, Some, if◌then◌else◌}
use Rattle.c99_tree.specs.Tree.{Forest, none, token, node}
use Rattle.c99_tree.specs.declared.production.Label.{Label}
use Rattle.c99_tree.specs.declared.production.Production.TheVariants.{Declarator, Params, Param}
use Rattle.c_types.specs.declared.parameters.ParameterForm.TheVariants.{Empty as empty, Identifiers as identifiers, Types as types, Ellipsis as ellipsis}
use Rattle.c_types.specs.declared.parameters.ParameterList.{ParameterList}
use Rattle.c_types.specs.Trees.{name_below, is_node, is_at}
use Rattle.c_types.specs.Lists.{even_tokens, nearest_of, is_declaring}

-- The parameter declarations of a list, each by the token that its declarator names: none where it has no declarator
-- or an abstract one (6.7.6). `void` alone is such a declaration (paragraph 10).
abbrev pub declared_names : Forest → List (Option ℕ)
declared_names none = []
declared_names (token i rest) = declared_names rest
declared_names (node l first under rest) = if is_node l Param then name_below l under ∷ declared_names rest else declared_names rest

-- the last child is a token, or, of no children, what is said; in a parameter type list that token is `...` (paragraph 9)
abbrev pub ends_in_token : Bool → Forest → Bool
ends_in_token ends none = ends
ends_in_token ends (token i rest) = ends_in_token true rest
ends_in_token ends (node l first under rest) = ends_in_token false rest

-- a parameter type list
abbrev pub typed : ℕ → Forest → ParameterList
typed name under = record { name = name; form = if ends_in_token false under then ellipsis else types; names = declared_names under }

-- the identifiers of a list of these alone (paragraph 14)
abbrev pub untyped : ℕ → Forest → ParameterList
untyped name under = record { name = name; form = identifiers; names = map Some (even_tokens under) }

abbrev pub listed : ℕ → Label → Forest → ParameterList
listed name l under = if is_at l Params 1 then untyped name under else typed name under

-- the parameters that stand in parentheses
abbrev pub parameters_of : ℕ → Forest → ParameterList
parameters_of name none = record { name = name; form = empty; names = [] }
parameters_of name (token i rest) = parameters_of name rest
parameters_of name (node l first under rest) = listed name l under

-- those of the list that stands nearest to the name, where that is nearer than all else
abbrev pub own_parameters : Option ℕ → Option (Option Forest) → List ParameterList
own_parameters (Some name) (Some (Some list)) = parameters_of name list ∷ []
own_parameters _ _ = []

-- the declarator that stands first in a declaration
abbrev pub declarator_parameters : Forest → List ParameterList
declarator_parameters (node l first under rest) =
    if is_node l Declarator then own_parameters (name_below l under) (nearest_of under) else []
declarator_parameters _ = []

-- the parameters of the names of declarators, in order of the names
abbrev pub parameters_in : Forest → List ParameterList
parameters_in none = []
parameters_in (token i rest) = parameters_in rest
parameters_in (node l first under rest) =
    ((if is_declaring l then declarator_parameters under else []) ++ parameters_in under) ++ parameters_in rest
