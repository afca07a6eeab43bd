-- What a tree says by itself, without the spelling of a token.
use Rattle.std.specs.Prelude.{ℕ, Bool, true, false, ◌&&◌, ◌||◌, Option, None, Some, if◌then◌else◌, ◌==◌}
use Rattle.std.specs.Option.{option_or}
use Rattle.c99_tree.specs.Tree.{Forest, none, token, node}
use Rattle.c99_tree.specs.declared.production.Label.{Label}
use Rattle.c99_tree.specs.declared.production.Production.{Production}
use Rattle.c99_tree.specs.declared.production.Production.TheVariants.{Main, StructSpec, SuRest, Mod, Suffix, Direct, Declarator, Pdecl, Pdirect, Pointer, Primary, Attr, AsmName}
use Rattle.c99_tree.specs.contracts.production.ProductionPartialEq.TheImpl.{ghosts}
use Rattle.c_types.specs.declared.frames.Words.{Words}
use Rattle.c_types.specs.Types.{CType, pointer, array, function}

-- the node is one of the production
abbrev pub is_node : Label → Production → Bool
is_node l p = ghosts.eq l.production p

-- .. and of the alternative
abbrev pub is_at : Label → Production → ℕ → Bool
is_at l p n = is_node l p && (l.alternative == n)

-- the last token below some children, or the index given where there is none
abbrev pub last_token : Forest → ℕ → ℕ
last_token none k = k
last_token (token i rest) k = last_token rest i
last_token (node l first under rest) k = last_token rest (last_token under k)

-- the first token among some children
abbrev pub first_token : Forest → ℕ → ℕ
first_token none k = k
first_token (token i rest) k = i
first_token (node l first under rest) k = first_token rest k

-- there is a node of the production among some children
abbrev pub has_node : Production → Forest → Bool
has_node p none = false
has_node p (token i rest) = has_node p rest
has_node p (node l first under rest) = is_node l p || has_node p rest

-- a `mod` of the alternative stands among some specifiers, not inside a structure's
abbrev pub has_mod : ℕ → Forest → Bool
has_mod n none = false
has_mod n (token i rest) = has_mod n rest
has_mod n (node l first under rest) = is_at l Mod n || ((is_node l Main && has_mod n under) || has_mod n rest)

-- a node of the production and the alternative stands among some children
abbrev pub has_at : Production → ℕ → Forest → Bool
has_at p n none = false
has_at p n (token i rest) = has_at p n rest
has_at p n (node l first under rest) = is_at l p n || has_at p n rest

-- a structure or union specifier with a list and without a tag stands among some children
abbrev pub has_untagged : Forest → Bool
has_untagged none = false
has_untagged (token i rest) = has_untagged rest
has_untagged (node l first under rest) = (is_node l StructSpec && has_at SuRest 2 under) || has_untagged rest

-- .. among some specifiers
abbrev pub is_anonymous : Forest → Bool
is_anonymous none = false
is_anonymous (token i rest) = is_anonymous rest
is_anonymous (node l first under rest) = (is_node l Main && has_untagged under) || is_anonymous rest

-- storage-class specifiers (6.7.1)
abbrev pub words_of : Forest → Words
words_of specs = record {
  has_typedef = has_mod 1 specs;
  has_extern = has_mod 2 specs;
  has_static = has_mod 3 specs;
  has_any = has_mod 1 specs || (has_mod 2 specs || (has_mod 3 specs || (has_mod 4 specs || has_mod 5 specs)));
  anonymous = is_anonymous specs;
}

-- The specifiers and the rest of a declaration are a structure or union specifier and a semicolon, and no
-- other word (6.7.2.3 paragraph 7).
abbrev pub is_one : Forest → Bool
is_one (node l first under none) = true
is_one _ = false

abbrev pub is_lone_main : Forest → Bool
is_lone_main (node l first under none) = is_one under
is_lone_main _ = false

abbrev pub is_bare : Forest → Bool
is_bare (node l first specs (node m second rest none)) = (m.alternative == 1) && is_lone_main specs
is_bare _ = false

-- ---- Declarators (6.7.5)

-- the name of a declarator stands below these
abbrev pub holds_name : Production → Bool
holds_name Declarator = true
holds_name Direct = true
holds_name Pdecl = true
holds_name Pdirect = true
holds_name _ = false

-- in the first alternative of these the only token is the name
abbrev pub has_name : Label → Bool
has_name l = is_at l Direct 1 || is_at l Pdirect 1

-- the name of a declarator, given the children of a part of it
abbrev pub name_below : Label → Forest → Option ℕ
name_below l none = None
name_below l (token i rest) = if has_name l then Some i else name_below l rest
name_below l (node m first under rest) = if holds_name m.production then name_below m under else name_below l rest

-- the type in front of some suffixes becomes an array of it, or a function that returns it; the first suffix is
-- the outermost
abbrev pub suffixed : CType → Forest → CType
suffixed t none = t
suffixed t (token i rest) = suffixed t rest
suffixed t (node l first under rest) =
    if is_node l Suffix then (if l.alternative == 1 then array (suffixed t rest) else function (suffixed t rest)) else suffixed t rest

-- attributes, and the name for the assembler (GNU C): they say nothing of the declared name
abbrev pub is_aside : Label → Bool
is_aside l = is_node l Attr || is_node l AsmName

-- The type that a declarator, or a part of one, gives to its name, where t stands in front: pointers come first,
-- then the suffixes behind what is in parentheses, then that.
abbrev pub declarator_type : CType → Forest → CType
declarator_type t none = t
declarator_type t (token i rest) = declarator_type t rest
declarator_type t (node l first under rest) =
    if is_node l Pointer then declarator_type (pointer t) rest
    else (if is_node l Suffix then suffixed t (node l first under rest)
    else (if is_aside l then declarator_type t rest else declarator_type (suffixed t rest) under))

abbrev pub is_list : Label → Bool
is_list l = is_at l Suffix 2

-- Where the first parameter list of a declarator ends that stands in no other list: a body that follows begins
-- with its names (6.2.1 paragraph 4).
abbrev pub first_list : Forest → Option ℕ
first_list none = None
first_list (token i rest) = first_list rest
first_list (node l first under rest) =
    if is_list l then Some (last_token under 0) else option_or (first_list under) (first_list rest)

-- an expression is string literals alone
abbrev pub is_text : Forest → Bool
is_text (node l first under none) = is_at l Primary 4
is_text _ = false
