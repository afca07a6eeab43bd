-- What must be true of a unit whose lists get a new order of their items, so that names bind as before (this project's, over
-- ISO/IEC 9899:1999, 6.2.1, 6.5.2.2, 6.7.5.3 and 6.9.1): no item says anything to the items beside it or to what follows.
use Rattle.std.specs.Prelude.{ℕ, ◌+◌, ◌<◌, ◌≡◌, ◌==◌, Bool, true, false, ◌&&◌, ◌||◌, not, nat_lt, if◌then◌else◌, List, [], ◌∷◌, ◌++◌, length, map, Option, None, Ok}
use Rattle.std.specs.List.{All, list_all, list_any}
use Rattle.std.specs.Option.{option_map, option_map_or}
use Rattle.cs_base.specs.Token.{Token}
use Rattle.c99_tree.specs.Tree.{Forest, none, token, node, Node}
use Rattle.c99_tree.specs.declared.production.Label.{Label}
use Rattle.c99_tree.specs.declared.production.Production.{Production}
use Rattle.c99_tree.specs.declared.production.Production.TheVariants.{FunBody, Specs, Main, SuRest, EnRest, MemRest, Enumerator, Declarator, Params, Param, Pdecl, TypeName, Add, Unary, Primary, Args, Statement, Sub, Assign, Cond, Lor, Land, Bor, Bxor, Band, Equal, Relate, Shift, Mul, Cast, Block}
use Rattle.c_types.specs.Trees.{is_node, is_at, is_list, has_mod, name_below, first_list}
use Rattle.c_types.specs.Lists.{bare_at, bare_in}
use Rattle.c_types.specs.Declarations.{alike, is_in}
use Rattle.name_chains.specs.Entering.{scope_in}
use Rattle.name_chains.specs.Frames.{outermost}
use Rattle.scope_bind.specs.Named.{Scope}
use Rattle.scope_bind.specs.declared.bound.Name.{Name}
use Rattle.scope_bind.specs.Bound.{Bound, binding_of}
use Rattle.scope_bind.specs.Names.{entity_at, declares_at, kind_at, linkage_at}
use Rattle.tree_laws.specs.TreesOfTexts.{IsTreeOf, begins_with_token}
use Rattle.list_cuts.specs.Cuts.{IsOrder, AreOf, arranged, moved}
use Rattle.reordered_tree_laws.specs.Reordered.{nodes_in, is_among, reordered}
use Rattle.reordered_tree_laws.specs.Cuts.{cut_in}
use Rattle.reordered_tree_laws.specs.Seen.{are_parts}
use Rattle.reordered_tree_laws.specs.Adding.{is_adding}

-- ---- Forms of nodes

-- arguments, or parameter declarations
abbrev pub is_items : Label → Bool
is_items l = is_node l Args || (is_node l Params && not (l.alternative == 1))

-- a token stands between two nodes; perhaps one has just passed
abbrev pub is_spaced : Bool → Forest → Bool
is_spaced passed none = true
is_spaced passed (token i rest) = is_spaced false rest
is_spaced passed (node l first under rest) = not passed && is_spaced true rest

-- a token, perhaps a node with the items, and a token
abbrev pub is_bracketed : Forest → Bool
is_bracketed (token i (token j none)) = true
is_bracketed (token i (node l first under (token j none))) = is_items l && is_spaced false under
is_bracketed _ = false

-- A child that asks for the token in front of it: the operand behind a sign (6.5.3.3, 6.5.6), and what follows the word of
-- a structure, union or enumeration (6.7.2.1, 6.7.2.2). So many children stand before it.
abbrev pub asks_sign : Label → ℕ → Label → Bool
asks_sign l k m = (is_at l Unary 1 || (is_node l Add && not (k == 0))) || (is_node m SuRest || is_node m EnRest)

-- statements stand in scopes, and bodies of functions in none (6.8, 6.9.1)
abbrev pub stands_in : Production → ℕ → Bool
stands_in Statement depth = nat_lt 0 depth
stands_in Sub depth = nat_lt 0 depth
stands_in FunBody depth = depth == 0
stands_in _ depth = true

-- a declarator, or the abstract one of a type name (6.7.5, 6.7.6)
abbrev pub declares_type : Label → Label → Bool
declares_type l m = (is_node m Declarator || is_node m Pdecl) || (is_node l TypeName && not (is_node m Specs))

module _ (lists : ℕ → Bool) where
  -- The first list of a declarator that stands in no other one is no part of an item, if there is such a list: it is the one
  -- whose names the body of a function begins with.
  abbrev pub has_outer_list : Bool → Forest → Bool
  has_outer_list listed none = true
  has_outer_list listed (token i rest) = has_outer_list listed rest
  has_outer_list listed (node l first under rest) =
      if is_list l then true
      else option_map_or (λ k. not listed && has_outer_list (is_among lists l under) under) (first_list under) (has_outer_list listed rest)

  -- a child of a node has its form; perhaps a token of the node stands in front, and the list for a body is known
  abbrev pub is_fit_child : Label → Bool → ℕ → Scope → Bool → Label → Forest → Bool
  is_fit_child l own k scope keeps m under =
      (own || not (asks_sign l k m)) && (stands_in m.production scope.depth && ((not (is_node m FunBody) || keeps)
      && ((not (declares_type l m) || are_parts under) && ((not (is_at m MemRest 1) || begins_with_token under)
      && (not (is_among lists m under) || is_bracketed under)))))

  -- the children of a node have their forms, in a scope
  abbrev pub is_fit : Label → Bool → ℕ → Scope → Bool → Forest → Bool
  is_fit l own k scope keeps none = true
  is_fit l own k scope keeps (token i rest) = is_fit l (not (is_items l)) (k + 1) scope keeps rest
  is_fit l own k scope keeps (node m first under rest) =
      is_fit_child l own k scope keeps m under && (is_fit m false 0 (scope_in m.production m under scope) keeps under
      && is_fit l own (k + 1) scope (if is_node m Declarator then has_outer_list false under else keeps) rest)

  -- ---- Items

  -- the items of each list pass a test; the children may themselves be in the parentheses of a list
  abbrev pub lists_pass : (List Node → Bool) → Bool → Forest → Bool
  lists_pass test listed none = true
  lists_pass test listed (token i rest) = lists_pass test listed rest
  lists_pass test listed (node l first under rest) =
      (if listed then test (nodes_in under) else true) && (lists_pass test (not listed && is_among lists l under) under && lists_pass test listed rest)

  -- the tags and enumerators that stand in items; so many children stand before these
  abbrev pub tags_in : Bool → Bool → Label → ℕ → Forest → List ℕ
  tags_in listed inside l k none = []
  tags_in listed inside l k (token i rest) =
      if inside && ((is_at l SuRest 1 || is_at l EnRest 1) && (k == 0)) then i ∷ tags_in listed inside l (k + 1) rest
      else tags_in listed inside l (k + 1) rest
  tags_in listed inside l k (node m first under rest) =
      (if inside && is_node m Enumerator then first ∷ [] else [])
      ++ (tags_in (not listed && is_among lists m under) (inside || listed) m 0 under ++ tags_in listed inside l (k + 1) rest)

-- the name that a parameter declares
abbrev pub parameter_name : Forest → Option ℕ
parameter_name none = None
parameter_name (token i rest) = parameter_name rest
parameter_name (node l first under rest) = if is_node l Pdecl then name_below l under else parameter_name rest

abbrev pub declared_name : Node → Option ℕ
declared_name n = if is_node n.label Param then parameter_name n.under else None

-- an expression that is an argument (6.5.2, 6.5.16), or a parameter declaration (6.7.5)
abbrev pub is_item_production : Production → Bool
is_item_production Assign = true
is_item_production Cond = true
is_item_production Lor = true
is_item_production Land = true
is_item_production Bor = true
is_item_production Bxor = true
is_item_production Band = true
is_item_production Equal = true
is_item_production Relate = true
is_item_production Shift = true
is_item_production Add = true
is_item_production Mul = true
is_item_production Cast = true
is_item_production Unary = true
is_item_production Primary = true
is_item_production Param = true
is_item_production _ = false

-- blocks, bodies and statements, which are no part of an item
abbrev pub is_scope : Production → Bool
is_scope Block = true
is_scope FunBody = true
is_scope Statement = true
is_scope Sub = true
is_scope _ = false

-- Of the ordinary identifiers that some children declare, only these last behind them: the names of parameters stand in
-- parameter lists, with whose parentheses they end, or are these, and no enumerator is declared (6.2.1 paragraph 4).
module _ (lasting : ℕ → Bool) where
  abbrev pub is_quiet_child : Label → Label → Forest → Bool
  is_quiet_child l m under =
      not (is_node m Enumerator)
      && (not (is_scope m.production) && (not (is_node l Param && is_node m Pdecl) || option_map_or lasting (name_below m under) true))

  abbrev pub is_quiet : Label → Forest → Bool
  is_quiet l none = true
  is_quiet l (token i rest) = not (is_node l Params) && is_quiet l rest
  is_quiet l (node m first under rest) = is_quiet_child l m under && ((is_list m || is_quiet m under) && is_quiet l rest)

-- `typedef` stands among the specifiers in front of a declarator (6.7.1)
abbrev pub has_typedef_word : Forest → Bool
has_typedef_word none = false
has_typedef_word (token i rest) = has_typedef_word rest
has_typedef_word (node l first under rest) = (is_node l Specs && has_mod 1 under) || has_typedef_word rest

-- An item declares nothing but parameters of lists in it and members of structures without a tag, and perhaps one name,
-- which is no typedef name.
abbrev pub is_item : Node → Bool
is_item n =
    (is_item_production n.label.production && option_map_or (λ i. not (has_typedef_word n.under)) (declared_name n) true)
    && (is_adding (λ i. true) false n.label n.under && is_quiet (λ i. option_map_or (λ j. j == i) (declared_name n) false) n.label n.under)

-- the ordinary identifiers below some children that are used: in expressions and as type names (6.5.1, 6.7.2)
abbrev pub used_in : Label → ℕ → Forest → List ℕ
used_in l k none = []
used_in l k (token i rest) =
    if is_at l Primary 1 || (is_at l Main 4 && (k == 0)) then i ∷ used_in l (k + 1) rest else used_in l (k + 1) rest
used_in l k (node m first under rest) = used_in m 0 under ++ used_in l (k + 1) rest

-- these of an item, and the names that are parameters only since they are no typedef names where they stand (6.7.5.3
-- paragraph 11)
abbrev pub asked_in : Node → List ℕ
asked_in n = used_in n.label 0 n.under ++ (bare_at n.label n.under ++ bare_in n.under)

module _ (toks : List Token) where
  -- an item asks for no identifier that is spelled so, and declares no other one
  abbrev pub is_unasked_in : Node → ℕ → Bool
  is_unasked_in n j = not (list_any (alike toks j) (asked_in n)) && not (option_map_or (alike toks j) (declared_name n) false)

  abbrev pub are_two_apart : Node → Node → Bool
  are_two_apart n m =
      option_map_or (is_unasked_in m) (declared_name n) true && option_map_or (is_unasked_in n) (declared_name m) true

  -- no item asks for the name of another one, and their names differ
  abbrev pub are_apart : List Node → Bool
  are_apart [] = true
  are_apart (n ∷ ns) = list_all (are_two_apart n) ns && are_apart ns

-- The lists that begin with these tokens, none of them the first one, can get the new order: each has so many items, all
-- nodes have their forms, no item holds the list that a body begins with, none declares a tag, an enumerator or what has
-- linkage, and none asks for the name of another one.
pub record CanReorder (order : List ℕ) (lists : ℕ → Bool) (toks : List Token) (tree : Node) (b : Bound) : Type 0 where
  pub first : lists 0 ≡ false
  pub many : IsOrder (length order) order
  pub each : AreOf (length order) (cut_in lists tree)
  pub formed : is_fit lists (outermost (length toks)).label true 0 (outermost (length toks)).scope true tree.under ≡ true
  pub items : lists_pass lists (list_all is_item) false tree.under ≡ true
  pub apart : lists_pass lists (are_apart toks) false tree.under ≡ true
  pub fresh : All (λ (n : Name). (n.declares && is_in (tags_in lists false false (outermost 0).label 0 tree.under) n.index) ≡ false) b.names

-- A text with this tree binds name for name as so many tokens were bound: token i is at its place anew a name of the entity
-- whose name it was, at the place where that is now, and of the same kind and linkage; it declares it where it did; and
-- nothing is at fault.
pub record BindsAlike (m : ℕ → ℕ) (count : ℕ) (b : Bound) (toks : List Token) (tree : Node) : Type 0 where
  pub bound : Bound
  pub told : binding_of toks tree ≡ Ok bound
  pub named : (i : ℕ) → i < count → entity_at bound.names (m i) ≡ option_map m (entity_at b.names i)
  pub declared : (i : ℕ) → i < count → declares_at bound.names (m i) ≡ declares_at b.names i
  pub kinds : (i : ℕ) → i < count → kind_at bound.names (m i) ≡ kind_at b.names i
  pub linked : (i : ℕ) → i < count → linkage_at bound.names (m i) ≡ linkage_at b.names i

-- A text whose lists are in the new order binds name for name as before.
abbrev pub ReorderedBindAlike : Type 0
ReorderedBindAlike =
    (old new : List Token) (order : List ℕ) (lists : ℕ → Bool) (tree : Node) (b : Bound) → IsTreeOf (length old) tree → binding_of old tree ≡ Ok b
    → CanReorder order lists old tree b → map (λ (t : Token). t.text) new ≡ arranged order (cut_in lists tree) (map (λ (t : Token). t.text) old)
    → BindsAlike (moved order (cut_in lists tree) (length old)) (length old) b new (reordered order lists tree)
