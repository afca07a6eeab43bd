-- How far a text has been read: the next token, the names that are visible, and the node that is open.
use Rattle.std.specs.Prelude.{ℕ, ◌-◌, Bool, true, false, List, [], ◌∷◌, ◌++◌, length, take, slice_get, Option, None, Some, if◌then◌else◌, ◌==◌, ◌&&◌, ◌||◌, unwrap_or}
use Rattle.std.specs.Option.{option_map_or}
use Rattle.cs_base.specs.Token.{Token}
use Rattle.cs_base.specs.declared.tokens.Kind.{Kind}
use Rattle.cs_base.specs.declared.tokens.Kind.TheVariants as kind
use Rattle.c99_tree.specs.Names.{is_typedef, Declared}
use Rattle.c99_tree.specs.Tree.{Forest, none, token, node, Node, node_of, inner, put, collapsed}
use Rattle.c99_tree.specs.declared.production.Label.{Label}
use Rattle.c99_tree.specs.declared.production.Production.{Production}
use Rattle.c99_tree.specs.declared.production.Production.TheVariants.{Specs, Main, Mod, Declarator, Direct, Pdecl, Pdirect, Expr, Assign, Cond, Lor, Land, Bor, Bxor, Band, Equal, Relate, Shift, Add, Mul, Cast, Unary}
use Rattle.c99_grammar.specs.declared.classes.Class.{Class}
use Rattle.c99_read.specs.declared.names.Declaration.{Declaration}
use Rattle.c99_grammar.specs.declared.classes.Class.TheVariants.{Identifier, TypedefName, End, NoClass}
use Rattle.c99_grammar.specs.Classes.{is_same}
use Rattle.c99_grammar.specs.Items.{Action, scope, end, declare, name, keep, again}
use Rattle.c99_grammar.specs.Standard.{Grammar}
use Rattle.c99_grammar.specs.TokenClasses.{base_class}

-- an open declarator: how many scopes were open when it began, and the names that were given to it
pub record Head : Type 0 where
  pub scopes_open : ℕ
  pub given : Option (List Declaration)

-- The names: the open scopes, the innermost first, each with its declarations, the latest first; the
-- names of the scope that ended last; the open declarators, the outermost first; and the names that were
-- given to the declarator read last.
pub record Names : Type 0 where
  pub scopes : List (List Declaration)
  pub ended : List Declaration
  pub heads : List Head
  pub kept : List Declaration

-- before any declaration
abbrev pub no_names : Names
no_names = record { scopes = [] ∷ []; ended = []; heads = []; kept = [] }

-- The state: the tokens and the index of the next one, the names, whether the nearest specifiers have
-- the word `typedef`, and the open node as far as it is built.
pub record State : Type 0 where
  pub toks : List Token
  pub at : ℕ
  pub names : Names
  pub near : Bool
  pub built : Node

-- ---- Classes

abbrev pub is_identifier : Class → Bool
is_identifier c = is_same c Identifier

-- the class of token k, where no name counts as a typedef name; the end follows the last token
abbrev pub base_at : Grammar → List Token → ℕ → Class
base_at g toks k = option_map_or (base_class g) (slice_get toks k) (if k == length toks then End else NoClass)

-- the spelling of token k
abbrev pub spelling_at : List Token → ℕ → List ℕ
spelling_at toks k = option_map_or (λ t. t.text) (slice_get toks k) []

-- the scopes with spellings
abbrev pub spelled_scope : List Token → List Declaration → List Declared
spelled_scope toks [] = []
spelled_scope toks (d ∷ older) = record { name = spelling_at toks d.name_at; typedef = d.typedef } ∷ spelled_scope toks older

abbrev pub spelled_scopes : List Token → List (List Declaration) → List (List Declared)
spelled_scopes toks [] = []
spelled_scopes toks (s ∷ outer) = spelled_scope toks s ∷ spelled_scopes toks outer

-- the innermost visible declaration of token k's spelling is one of a typedef name (6.7.7)
abbrev pub is_typedef_at : List Token → List (List Declaration) → ℕ → Bool
is_typedef_at toks scopes k = is_typedef (spelled_scopes toks scopes) (spelling_at toks k)

-- the class of token k, with the names that are visible in the state
unfoldable pub class_at : Grammar → State → ℕ → Class
class_at g s k =
    if is_identifier (base_at g s.toks k) && is_typedef_at s.toks s.names.scopes k then TypedefName else base_at g s.toks k

-- ---- What stands in trees

-- the name of a declarator stands below these
abbrev pub is_declaring : Production → Bool
is_declaring Declarator = true
is_declaring Direct = true
is_declaring Pdecl = true
is_declaring Pdirect = true
is_declaring _ = false

abbrev pub is_direct : Production → Bool
is_direct Direct = true
is_direct Pdirect = true
is_direct _ = false

-- in the first alternative of these the only token is the name
abbrev pub has_name : Label → Bool
has_name l = is_direct l.production && (l.alternative == 1)

-- the index of the name of a declarator, given the children of a part of it
abbrev pub name_below : Label → Forest → Option ℕ
name_below l none = None
name_below l (token i rest) = if has_name l then Some i else name_below l rest
name_below l (node m first under rest) = if is_declaring m.production then name_below m under else name_below l rest

-- the index of the name of the declarator that stands last
abbrev pub last_declared : Forest → Option ℕ
last_declared none = None
last_declared (token i rest) = last_declared rest
last_declared (node l first under none) = name_below l under
last_declared (node l first under rest) = last_declared rest

-- the index of the last identifier among the tokens of a node, or the one given
abbrev pub last_identifier : Grammar → List Token → Forest → Option ℕ → Option ℕ
last_identifier g toks none found = found
last_identifier g toks (token i rest) found =
    last_identifier g toks rest (if is_identifier (base_at g toks i) then Some i else found)
last_identifier g toks (node l first under rest) found = last_identifier g toks rest found

abbrev pub is_mod : Production → Bool
is_mod Mod = true
is_mod _ = false

-- a `mod` is the word `typedef` in its first alternative
abbrev pub is_typedef_word : Label → Bool
is_typedef_word l = is_mod l.production && (l.alternative == 1)

abbrev pub is_main : Production → Bool
is_main Main = true
is_main _ = false

abbrev pub typedef_word_in : Forest → Bool
typedef_word_in none = false
typedef_word_in (token i rest) = typedef_word_in rest
typedef_word_in (node l first under rest) = is_typedef_word l || typedef_word_in rest

-- the part of some specifiers is the word `typedef`, or has it among its own words
abbrev pub is_typedef_part : Label → Forest → Bool
is_typedef_part l under = is_typedef_word l || (is_main l.production && typedef_word_in under)

-- specifiers have the word `typedef` among their own words (6.7.1), not inside a structure's
abbrev pub has_typedef : Forest → Bool
has_typedef none = false
has_typedef (token i rest) = has_typedef rest
has_typedef (node l first under rest) = is_typedef_part l under || has_typedef rest

-- ---- Actions

abbrev pub declaration : ℕ → Bool → Declaration
declaration name_at typedef = record { name_at = name_at; typedef = typedef }

abbrev pub in_innermost : List (List Declaration) → Declaration → List (List Declaration)
in_innermost [] d = []
in_innermost (s ∷ outer) d = (d ∷ s) ∷ outer

abbrev pub with_declared : Names → Option ℕ → Bool → Names
with_declared n None typedef = n
with_declared n (Some i) typedef = record n { scopes = in_innermost n.scopes (declaration i typedef) }

-- the innermost scope ends; the outermost one stays
abbrev pub with_scope_ended : Names → List (List Declaration) → Names
with_scope_ended n (s ∷ (next_scope ∷ outer)) = record n { scopes = next_scope ∷ outer; ended = s }
with_scope_ended n _ = n

-- the outermost open declarator that began in the present scope gets the names, if none were given to it
abbrev pub given_names : ℕ → List Declaration → List Head → List Head
given_names count names [] = []
given_names count names (h ∷ inner_heads) =
    if h.scopes_open == count then (record h { given = Some (unwrap_or h.given names) } ∷ inner_heads) else (h ∷ given_names count names inner_heads)

abbrev pub names_after : Grammar → Action → State → Names
names_after g scope s = record s.names { scopes = [] ∷ s.names.scopes }
names_after g end s = with_scope_ended s.names s.names.scopes
names_after g declare s = with_declared s.names (last_declared s.built.under) s.near
names_after g name s = with_declared s.names (last_identifier g s.toks s.built.under None) false
names_after g keep s = record s.names { heads = given_names (length s.names.scopes) s.names.ended s.names.heads }
names_after g again s = record s.names { scopes = s.names.kept ∷ s.names.scopes }

unfoldable pub acted : Grammar → Action → State → State
acted g a s = record s { names = names_after g a s }

-- ---- Nodes

abbrev pub is_declarator : Production → Bool
is_declarator Declarator = true
is_declarator _ = false

abbrev pub is_specs : Production → Bool
is_specs Specs = true
is_specs _ = false

-- a node of these is replaced by its only child, where that is a node
abbrev pub collapses : Production → Bool
collapses Expr = true
collapses Assign = true
collapses Cond = true
collapses Lor = true
collapses Land = true
collapses Bor = true
collapses Bxor = true
collapses Band = true
collapses Equal = true
collapses Relate = true
collapses Shift = true
collapses Add = true
collapses Mul = true
collapses Cast = true
collapses Unary = true
collapses _ = false

abbrev pub with_head : Names → Names
with_head n = record n { heads = n.heads ++ record { scopes_open = length n.scopes; given = None } ∷ [] }

-- the last open declarator is closed, and its names are at hand
abbrev pub head_closed : Names → Names
head_closed n = record n {
  heads = take (length n.heads - 1) n.heads;
  kept = option_map_or (λ h. unwrap_or h.given []) (slice_get n.heads (length n.heads - 1)) [];
}

-- the names once a node of the production is opened, and once it is closed
abbrev pub names_opened : Production → Names → Names
names_opened p n = if is_declarator p then with_head n else n

abbrev pub names_closed : Production → Names → Names
names_closed p n = if is_declarator p then head_closed n else n

-- whether the nearest specifiers have the word `typedef`, once a node is closed
abbrev pub nearest : Production → Node → Bool → Bool
nearest p n near = if is_specs p then has_typedef n.under else near

-- a node as a child of what stands around it
abbrev pub finished : Production → Node → Node
finished p n = if collapses p then collapsed n else n

-- a node of the production and the alternative is opened
unfoldable pub opened : Production → ℕ → State → State
opened p n s = record s {
  names = names_opened p s.names;
  built = node_of (record { production = p; alternative = n }) s.at none;
}

-- the open node is closed, and stands behind what the node around it had
unfoldable pub closed : Production → State → State → State
closed p outer s = record s {
  names = names_closed p s.names;
  near = nearest p s.built outer.near;
  built = record outer.built { under = put outer.built.under (inner (finished p s.built)) };
}
