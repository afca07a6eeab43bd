-- The tree of a translation unit over its tokens, as far as the laws of binding rest on it (ISO/IEC 9899:1999, Annex A.2).
use Rattle.std.specs.Prelude.{ℕ, ◌+◌, ◌≡◌, Bool, true, false, ◌&&◌, ◌||◌, not, ◌==◌}
use Rattle.c99_tree.specs.Tree.{Forest, none, token, node, Node}
use Rattle.c99_tree.specs.declared.production.Label.{Label}
use Rattle.c99_tree.specs.declared.production.Production.{Production}
use Rattle.c99_tree.specs.declared.production.Production.TheVariants.{FunBody, Enumerator, Declarator, Block, AutoDecl}
use Rattle.scope_bind.specs.Named.{is_plain_role}
use Rattle.scope_bind.specs.Roles.{role_of}
use Rattle.c_types.specs.Trees.{is_node, has_name}
use Rattle.c_types.specs.Lists.{is_declaring}

-- how many tokens stand below some children
abbrev pub token_count : Forest → ℕ
token_count none = 0
token_count (token i rest) = token_count rest + 1
token_count (node l first under rest) = token_count under + token_count rest

-- The tokens below some children are those from number k on, one after another; a node begins at the first of its
-- tokens, or at the next one where it has none.
abbrev pub AreFrom : ℕ → Forest → Type 0
AreFrom k none = Unit {0}
AreFrom k (token i rest) = (i ≡ k) × AreFrom (k + 1) rest
AreFrom k (node l first under rest) = (first ≡ k) × AreFrom k under × AreFrom (k + token_count under) rest

-- ---- Forms of nodes

abbrev pub begins_with_token : Forest → Bool
begins_with_token (token i rest) = true
begins_with_token _ = false

-- a token is among the children
abbrev pub has_token : Forest → Bool
has_token none = false
has_token (token i rest) = true
has_token (node l first under rest) = has_token rest

-- the first child is a token, and another token is among those behind it
abbrev pub has_two_tokens : Forest → Bool
has_two_tokens (token i rest) = has_token rest
has_two_tokens _ = false

-- the body of a function stands below some children
abbrev pub has_body : Forest → Bool
has_body none = false
has_body (token i rest) = has_body rest
has_body (node l first under rest) = is_node l FunBody || (has_body under || has_body rest)

-- the rest of a declaration at file level, or one declarator with its initializer, stands below some children
abbrev pub has_declaring : Forest → Bool
has_declaring none = false
has_declaring (token i rest) = has_declaring rest
has_declaring (node l first under rest) = is_declaring l || (has_declaring under || has_declaring rest)

-- .. and in no block there
abbrev pub has_open_declaring : Forest → Bool
has_open_declaring none = false
has_open_declaring (token i rest) = has_open_declaring rest
has_open_declaring (node l first under rest) =
    is_declaring l || ((not (is_node l Block) && has_open_declaring under) || has_open_declaring rest)

-- An enumerator begins with its name (6.7.2.2); the body of a function has braces of its own and no such body in
-- it (6.9.1); no declaration but that of parameters and members stands in a declarator (6.7.5), unless in a block, as GNU
-- C has them in expressions; `__auto_type` has a name behind it there.
abbrev pub has_form : Production → Forest → Bool
has_form Enumerator under = begins_with_token under
has_form FunBody under = has_token under && not (has_body under)
has_form Declarator under = not (has_open_declaring under)
has_form AutoDecl under = has_two_tokens under
has_form _ under = true

-- each node below has its form
abbrev pub have_forms : Forest → Bool
have_forms none = true
have_forms (token i rest) = have_forms rest
have_forms (node l first under rest) = has_form l.production under && (have_forms under && have_forms rest)

-- ---- Names

-- A token that stands so among the children of a node is a name: one that is bound by itself, the name of a declarator
-- or that of an enumerator (6.2.1, 6.7.5, 6.7.2.2). `k` children stand before it.
abbrev pub is_name_place : Label → ℕ → Bool
is_name_place l k = not (is_plain_role (role_of l.production l.alternative k)) || (has_name l || is_node l Enumerator && (k == 0))

-- the test holds of each token that stands so among some children and below; so many children stand before them
module _ (stands : Label → ℕ → Bool) where
  abbrev pub pass_at : (ℕ → Bool) → Label → ℕ → Forest → Bool
  pass_at test l k none = true
  pass_at test l k (token i rest) = (not (stands l k) || test i) && pass_at test l (k + 1) rest
  pass_at test l k (node m first under rest) = pass_at test m 0 under && pass_at test l (k + 1) rest

-- .. of each name
abbrev pub names_pass : (ℕ → Bool) → Label → ℕ → Forest → Bool
names_pass test l k f = pass_at is_name_place test l k f

-- The tree has so many tokens, in order, and its nodes have their forms. Which trees a reader makes is not said here.
pub record IsTreeOf (count : ℕ) (tree : Node) : Type 0 where
  pub tokens : AreFrom 0 tree.under
  pub all : token_count tree.under ≡ count
  pub forms : have_forms tree.under ≡ true

-- no declaration but that of parameters and members stands in any declarator below
abbrev pub have_plain_declarators : Forest → Bool
have_plain_declarators none = true
have_plain_declarators (token i rest) = have_plain_declarators rest
have_plain_declarators (node l first under rest) =
    (not (is_node l Declarator) || not (has_declaring under)) && (have_plain_declarators under && have_plain_declarators rest)

-- .. and so it is with the declarators of such a tree, as it is in C99 and C11
pub record IsPlainTree (count : ℕ) (tree : Node) : Type 0 where
  pub is_tree : IsTreeOf count tree
  pub plain : have_plain_declarators tree.under ≡ true
