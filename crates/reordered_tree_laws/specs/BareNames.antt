-- The form of a parameter's declarator in parentheses (ISO/IEC 9899:1999, 6.7.5 and 6.7.5.3 paragraph 11).
use Rattle.std.specs.Prelude.{ℕ, ◌+◌, ◌≡◌, Bool, true, false, nat_lt, List, [], ◌∷◌}
use Rattle.c99_grammar.specs.declared.dialects.Edition.{Edition}
use Rattle.cs_base.specs.Token.{Token}
use Rattle.c99_tree.specs.Tree.{Forest, none, token, node}
use Rattle.c99_tree.specs.declared.production.Production.TheVariants.{Pdirect}
use Rattle.c99_grammar.specs.Standard.{iso}
use Rattle.c99_read.specs.State.{base_at, is_identifier}
use Rattle.c_types.specs.Trees.{is_at}
use Rattle.c_types.specs.Lists.{name_in}
use Rattle.tree_laws.specs.TreesOfTexts.{token_count}

-- a token, and more tokens behind it
abbrev pub is_opened : Forest → Bool
is_opened (token i rest) = nat_lt 0 (token_count rest)
is_opened _ = false

module _ (s : Edition) (toks : List Token) where
  -- the parenthesis is the first token, and an identifier directly behind it is the name of the declarator
  pub record HasBareName (first : ℕ) (under : Forest) : Type 0 where
    pub opened : is_opened under ≡ true
    pub named : is_identifier (base_at (iso s) toks (first + 1)) ≡ true → name_in under ≡ (first + 1) ∷ []

  -- so it is with each such declarator below some children
  abbrev pub HaveBareNames : Forest → Type 0
  HaveBareNames none = Unit {0}
  HaveBareNames (token i rest) = HaveBareNames rest
  HaveBareNames (node l first under rest) = (is_at l Pdirect 2 ≡ true → HasBareName first under) × HaveBareNames under × HaveBareNames rest
