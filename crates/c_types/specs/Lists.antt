-- Calls, function definitions, parameter lists and names in parentheses, as the tree shows them.
use Rattle.std.specs.Prelude.{ℕ, ◌+◌, Bool, ◌&&◌, ◌||◌, List, [], ◌∷◌, ◌++◌, Option, None, Some, if◌then◌else◌, ◌==◌, ◌%◌}
use Rattle.std.specs.Option.{option_or}
use Rattle.c99_tree.specs.Tree.{Forest, none, token, node}
use Rattle.c99_tree.specs.declared.production.Label.{Label}
use Rattle.c99_tree.specs.declared.production.Production.TheVariants.{ExtRest, InitDecl, Declarator, FunBody, Unary, Primary, Post, Params, Suffix, Pointer, Pdirect}
use Rattle.c_types.specs.declared.lists.List.{List as NameList}
use Rattle.c_types.specs.declared.lists.Range.{Range}
use Rattle.c_types.specs.Trees.{name_below, is_node, is_at, is_list, is_aside, first_token, last_token}

-- the tokens among some children with an odd number of children before them
abbrev pub odd_tokens : ℕ → Forest → List ℕ
odd_tokens k none = []
odd_tokens k (token i rest) = if k % 2 == 1 then i ∷ odd_tokens (k + 1) rest else odd_tokens (k + 1) rest
odd_tokens k (node l first under rest) = odd_tokens (k + 1) rest

-- the tokens between the items of the list that stands in parentheses
abbrev pub commas_in : Forest → List ℕ
commas_in none = []
commas_in (token i rest) = commas_in rest
commas_in (node l first under rest) = odd_tokens 0 under

abbrev pub list_of : ℕ → Forest → NameList
list_of name list = record { name = name; begin = first_token list 0; close = last_token list 0; commas = commas_in list }

-- ---- Calls (6.5.2.2)

-- a postfix expression that is a name and a list of arguments, with what follows it
abbrev pub call_in : Forest → List NameList
call_in (node l first (token i none) (node m begin list rest)) = if is_at l Primary 1 && is_at m Post 2 then list_of i list ∷ [] else []
call_in _ = []

-- the calls whose callee is a name, in order
abbrev pub calls_in : Forest → List NameList
calls_in none = []
calls_in (token i rest) = calls_in rest
calls_in (node l first under rest) = ((if is_node l Unary then call_in under else []) ++ calls_in under) ++ calls_in rest

-- ---- Function definitions (6.9.1)

abbrev pub body_of : ℕ → Forest → List Range
body_of name (node l first under rest) =
    if is_node l FunBody then record { name = name; from = first_token under 0; to = last_token under 0 } ∷ [] else []
body_of name _ = []

abbrev pub tail_of : Option ℕ → Forest → List Range
tail_of (Some name) (node l first under rest) = body_of name under
tail_of _ _ = []

abbrev pub definition_in : Forest → List Range
definition_in (node l first under rest) = tail_of (name_below l under) rest
definition_in _ = []

-- the bodies of functions, in order of their names
abbrev pub bodies_in : Forest → List Range
bodies_in none = []
bodies_in (token i rest) = bodies_in rest
bodies_in (node l first under rest) = (if is_node l ExtRest then definition_in under else bodies_in under) ++ bodies_in rest

-- ---- Parameter lists (6.7.5.3)

-- Which part of a declarator stands nearest to its name: a parameter list, by its children, or another one, by
-- none. What is in parentheses is nearer than what is outside, and a suffix than a pointer.
abbrev pub nearest_of : Forest → Option (Option Forest)
nearest_of none = None
nearest_of (token i rest) = nearest_of rest
nearest_of (node l first under rest) =
    if is_node l Suffix then Some (if is_list l then Some under else None)
    else (if is_node l Pointer then option_or (nearest_of rest) (Some None)
    else option_or (if is_aside l then None else nearest_of under) (nearest_of rest))

abbrev pub own_list : Option ℕ → Option (Option Forest) → List NameList
own_list (Some name) (Some (Some list)) = list_of name list ∷ []
own_list _ _ = []

-- the declarator that stands first in a declaration
abbrev pub declarator_in : Forest → List NameList
declarator_in (node l first under rest) =
    if is_node l Declarator then own_list (name_below l under) (nearest_of under) else []
declarator_in _ = []

abbrev pub is_declaring : Label → Bool
is_declaring l = is_node l ExtRest || is_node l InitDecl

-- the parameter lists of the names of declarators, in order of the names
abbrev pub lists_in : Forest → List NameList
lists_in none = []
lists_in (token i rest) = lists_in rest
lists_in (node l first under rest) = ((if is_declaring l then declarator_in under else []) ++ lists_in under) ++ lists_in rest

-- ---- Bare names (6.7.5.3 paragraph 11)

-- the tokens with an even number of children before them
abbrev pub even_tokens : Forest → List ℕ
even_tokens f = odd_tokens 1 f

-- the name directly behind the parenthesis that begins a declarator in parentheses
abbrev pub name_in : Forest → List ℕ
name_in (token p (node l first (node m begin (token i list) rest) more)) = if is_at m Pdirect 1 then i ∷ [] else []
name_in _ = []

abbrev pub bare_at : Label → Forest → List ℕ
bare_at l under = if is_at l Params 1 then even_tokens under else (if is_at l Pdirect 2 then name_in under else [])

-- the names that are parameters only since they are no typedef names where they stand
abbrev pub bare_in : Forest → List ℕ
bare_in none = []
bare_in (token i rest) = bare_in rest
bare_in (node l first under rest) = (bare_at l under ++ bare_in under) ++ bare_in rest
