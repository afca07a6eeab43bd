-- What declarations see of some children: not the order of the items of lists in them (ISO/IEC 9899:1999, 6.7, 6.7.5).
use Rattle.std.specs.Prelude.{ℕ, ◌≡◌, Bool, true, false, ◌&&◌, ◌||◌, List}
use Rattle.c99_tree.specs.Tree.{Forest, none, token, node}
use Rattle.c99_tree.specs.declared.production.Label.{Label}
use Rattle.c99_tree.specs.declared.production.Production.{Production}
use Rattle.c99_tree.specs.declared.production.Production.TheVariants.{Declarator, Direct, Pdecl, Pdirect, Adecl, Adirect, Pointer, Suffix}
use Rattle.c_types.specs.Types.{CType}
use Rattle.c_types.specs.Trees.{is_node, last_token, first_token, has_node, words_of, is_bare, name_below, declarator_type, is_text}
use Rattle.reordered_tree_laws.specs.Reordered.{permuted}

-- a declarator, or a part of one in which its name may stand
abbrev pub is_part : Production → Bool
is_part Declarator = true
is_part Direct = true
is_part Pdecl = true
is_part Pdirect = true
is_part Adecl = true
is_part Adirect = true
is_part _ = false

-- some children are those of a declarator: pointers, suffixes, and such parts
abbrev pub are_parts : Forest → Bool
are_parts none = true
are_parts (token i rest) = are_parts rest
are_parts (node l first under rest) =
    (is_node l Pointer || (is_node l Suffix || (is_part l.production && are_parts under))) && are_parts rest

-- Of two lists of children the same is seen: their first and their last token, the name of a declarator, specifiers,
-- whether a specifier stands alone, which nodes there are, and the type that a declarator gives.
pub record AreSeenAlike (f g : Forest) : Type 0 where
  pub last : (k : ℕ) → last_token f k ≡ last_token g k
  pub first : (k : ℕ) → first_token f k ≡ first_token g k
  pub named : (l : Label) → name_below l f ≡ name_below l g
  pub words : words_of f ≡ words_of g
  pub bare : is_bare f ≡ is_bare g
  pub nodes : (p : Production) → has_node p f ≡ has_node p g
  pub text : is_text f ≡ is_text g
  pub typed : (t : CType) → are_parts g ≡ true → declarator_type t f ≡ declarator_type t g

-- A new order of the items of lists is not seen.
abbrev pub NewOrdersAreNotSeen : Type 0
NewOrdersAreNotSeen = (order : List ℕ) (lists : ℕ → Bool) (f : Forest) → AreSeenAlike (permuted order lists false f) f
