-- Names that are read as no typedef names, though they are uses of nothing (ISO/IEC 9899:1999, 6.7.5.3).
use Rattle.std.specs.Prelude.{ℕ, ◌+◌, ◌≡◌, Bool, true, ◌&&◌, not, List, ◌==◌, ◌%◌, nat_lt}
use Rattle.std.specs.List.{list_any}
use Rattle.c99_grammar.specs.declared.dialects.Edition.{Edition}
use Rattle.cs_base.specs.Token.{Token}
use Rattle.c99_tree.specs.Tree.{Forest, none, token, node}
use Rattle.c99_tree.specs.declared.production.Label.{Label}
use Rattle.c99_tree.specs.declared.production.Production.TheVariants.{Params, Pdirect}
use Rattle.c99_grammar.specs.Standard.{iso}
use Rattle.c99_read.specs.State.{base_at, is_identifier}
use Rattle.c_types.specs.declared.lists.Range.{Range}
use Rattle.c_types.specs.Trees.{is_at}
use Rattle.c_types.specs.Declarations.{alike}

-- a name in an identifier list (paragraph 3)
abbrev pub is_listed : Label → ℕ → Bool
is_listed l k = is_at l Params 1 && (k % 2 == 0)

-- token k stands in the range of a typedef name of its spelling
abbrev pub is_hidden : List Token → ℕ → Range → Bool
is_hidden toks k r = alike toks k r.name && (not (nat_lt k r.from) && nat_lt k r.to)

-- where it does, it is spelled anew with all tokens of its spelling
abbrev pub StaysWhole : List Token → List Token → List Range → ℕ → Type 0
StaysWhole old new typedefs k = list_any (is_hidden old k) typedefs ≡ true → (j : ℕ) → alike old k j ≡ true → alike new k j ≡ true

module _ (std : Edition) where
  -- a name directly behind the parenthesis that begins a parameter's declarator (paragraph 11)
  abbrev pub is_enclosed : List Token → Label → ℕ → Bool
  is_enclosed toks m first = is_at m Pdirect 2 && is_identifier (base_at (iso std) toks (first + 1))

  -- It is so of each of these names among some children of a node and below; so many children stand before them.
  abbrev pub AllLoose : List Token → (ℕ → Type 0) → Label → ℕ → Forest → Type 0
  AllLoose toks P l k none = Unit {0}
  AllLoose toks P l k (token i rest) = (is_listed l k ≡ true → P i) × AllLoose toks P l (k + 1) rest
  AllLoose toks P l k (node m first under rest) =
      (is_enclosed toks m first ≡ true → P (first + 1)) × (AllLoose toks P m 0 under × AllLoose toks P l (k + 1) rest)
