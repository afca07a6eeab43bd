-- Where names of GNU C stand in a tree.
use Rattle.std.specs.Prelude.{ℕ, ◌+◌, ◌≡◌, Bool, true, false, ◌&&◌, ◌||◌, not, ◌==◌, List}
use Rattle.cs_base.specs.Token.{Token}
use Rattle.c99_tree.specs.Tree.{Forest, none, token, node}
use Rattle.c99_tree.specs.declared.production.Label.{Label}
use Rattle.c99_tree.specs.declared.production.Production.TheVariants.{Enumerator, AutoDecl}
use Rattle.gnu_bind.specs.Below.scope_bind.Named.{is_plain_role}
use Rattle.gnu_bind.specs.Below.c_types.Trees.{is_node, has_name}
use Rattle.gnu_bind.specs.Below.c_types.Declarations.{spelling_at}
use Rattle.gnu_bind.specs.declared.roles.GnuRole.{GnuRole}
use Rattle.gnu_bind.specs.declared.roles.GnuRole.TheVariants.{Standard, Path, Brace}
use Rattle.gnu_bind.specs.Words.{is_path_sign}
use Rattle.gnu_bind.specs.Roles.{role_in}
use Rattle.gnu_bind.specs.Walk.{auto_name}

-- ---- Names

-- a token of the role is no name
abbrev pub is_plain_gnu : GnuRole → Bool
is_plain_gnu (Standard r) = is_plain_role r
is_plain_gnu Brace = true
is_plain_gnu _ = false

module _ (toks : List Token) where
  -- .. but in a path to a member a sign is none
  abbrev pub is_noted : GnuRole → ℕ → Bool
  is_noted Path i = not (is_path_sign (spelling_at toks i))
  is_noted r i = not (is_plain_gnu r)

  -- A token that stands so among the children of a node is a name: one that is bound by itself, the name of a declarator
  -- or that of an enumerator (ISO/IEC 9899:1999, 6.2.1, 6.7.5, 6.7.2.2). `k` children stand before it.
  abbrev pub is_gnu_place : Label → ℕ → ℕ → Bool
  is_gnu_place l k i = is_noted (role_in l.production l.alternative k) i || (has_name l || is_node l Enumerator && (k == 0))

  -- the test holds of each name among some children and below, and of that of `__auto_type`; so many children stand
  -- before them
  abbrev pub gnu_names_pass : (ℕ → Bool) → Label → ℕ → Forest → Bool
  gnu_names_pass test l k none = true
  gnu_names_pass test l k (token i rest) = (not (is_gnu_place l k i) || test i) && gnu_names_pass test l (k + 1) rest
  gnu_names_pass test l k (node m first under rest) =
      (not (is_node m AutoDecl) || test (auto_name under)) && (gnu_names_pass test m 0 under && gnu_names_pass test l (k + 1) rest)
