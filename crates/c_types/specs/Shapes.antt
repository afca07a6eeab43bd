-- Shapes that a forest may have, as one child after another shows them.
use Rattle.std.specs.Prelude.{ℕ, Bool, true, false, ◌&&◌, List, [], ◌∷◌, Option, None, Some, if◌then◌else◌, ◌==◌}
use Rattle.c99_tree.specs.Tree.{Forest, none, token, node, Node, node_of}
use Rattle.c99_tree.specs.declared.production.Label.{Label}
use Rattle.c99_tree.specs.declared.production.Production.TheVariants.{Declarator, FunBody, Primary, Post, Pdirect}
use Rattle.c_types.specs.declared.lists.List.{List as NameList}
use Rattle.c_types.specs.declared.lists.Range.{Range}
use Rattle.c_types.specs.declared.trees.Part.{Part}
use Rattle.c_types.specs.declared.trees.Part.TheVariants.{End, Node as Inner}
use Rattle.c_types.specs.Trees.{name_below, is_node, is_at, is_lone_main, first_token, last_token}
use Rattle.c_types.specs.Lists.{odd_tokens, list_of, own_list, nearest_of}

-- the first child, where it is a node
abbrev pub first_node : Forest → Option Node
first_node (node l first under rest) = Some (node_of l first under)
first_node _ = None

-- the first of the children that are nodes
abbrev pub inner_in : Forest → Option Node
inner_in none = None
inner_in (token i rest) = inner_in rest
inner_in (node l first under rest) = Some (node_of l first under)

-- the second child, where the first one and it are nodes
abbrev pub second_node : Forest → Option Node
second_node (node l first under rest) = first_node rest
second_node _ = None

-- the second child, where it is a node and the first one a token
abbrev pub behind_token : Forest → Option Node
behind_token (token i rest) = first_node rest
behind_token _ = None

-- the only child, where it is a token
abbrev pub lone_token : Forest → Option ℕ
lone_token (token i none) = Some i
lone_token _ = None

-- the first child, where it is a token
abbrev pub leading_token : Forest → Option ℕ
leading_token (token i rest) = Some i
leading_token _ = None

abbrev pub is_end : Forest → Bool
is_end none = true
is_end _ = false

-- nothing stands behind two nodes
abbrev pub are_two : Forest → Bool
are_two (node l first under (node m second below rest)) = is_end rest
are_two _ = false

-- a token that is the only child, where nothing stands behind it
abbrev pub token_if : ℕ → Part → Option ℕ
token_if i End = Some i
token_if i _ = None

-- a node, with nothing behind it
abbrev pub is_last_node : Part → Bool → Bool
is_last_node (Inner t) ends = ends
is_last_node _ ends = false

-- ---- What is asked of them

abbrev pub commas_of : Option Node → List ℕ
commas_of (Some n) = odd_tokens 0 n.under
commas_of None = []

abbrev pub is_bare_of : Option Node → Option Node → Bool
is_bare_of (Some specs) (Some rest) = (rest.label.alternative == 1) && is_lone_main specs.under
is_bare_of _ _ = false

abbrev pub call_by : Label → Option ℕ → Node → List NameList
call_by l (Some i) m = if is_at l Primary 1 && is_at m.label Post 2 then list_of i m.under ∷ [] else []
call_by l None m = []

abbrev pub call_of : Option Node → Option Node → List NameList
call_of (Some n) (Some m) = call_by n.label (lone_token n.under) m
call_of _ _ = []

abbrev pub definition_by : Option ℕ → Option Node → List Range
definition_by (Some name) (Some b) =
    if is_node b.label FunBody then record { name = name; from = first_token b.under 0; to = last_token b.under 0 } ∷ [] else []
definition_by _ _ = []

abbrev pub definition_of : Option Node → Option Node → List Range
definition_of (Some d) (Some t) = definition_by (name_below d.label d.under) (first_node t.under)
definition_of _ _ = []

abbrev pub declarator_of : Option Node → List NameList
declarator_of (Some n) = if is_node n.label Declarator then own_list (name_below n.label n.under) (nearest_of n.under) else []
declarator_of None = []

abbrev pub name_by : Label → Option ℕ → List ℕ
name_by l (Some i) = if is_at l Pdirect 1 then i ∷ [] else []
name_by l None = []

abbrev pub name_in_direct : Option Node → List ℕ
name_in_direct (Some m) = name_by m.label (leading_token m.under)
name_in_direct None = []

abbrev pub name_of_inner : Option Node → List ℕ
name_of_inner (Some n) = name_in_direct (first_node n.under)
name_of_inner None = []
