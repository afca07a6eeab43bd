-- Where a tree is read as its names are bound (ISO/IEC 9899:1999, 6.2.1, 6.7.7 and 6.7.5.3 paragraph 11).
use Rattle.std.specs.Prelude.{ℕ, Bool, true, false, ◌&&◌, ◌||◌, ◌+◌, not, List, if◌then◌else◌, ◌==◌, ◌%◌}
use Rattle.std.specs.Option.{option_map_or}
use Rattle.c99_grammar.specs.declared.dialects.Edition.{Edition}
use Rattle.cs_base.specs.Token.{Token}
use Rattle.c99_tree.specs.Tree.{Forest, none, token, node}
use Rattle.c99_tree.specs.declared.production.Label.{Label}
use Rattle.c99_tree.specs.declared.production.Production.{Production}
use Rattle.c99_tree.specs.declared.production.Production.TheVariants.{Main, Params, Primary, Pdirect}
use Rattle.c99_grammar.specs.Standard.{iso}
use Rattle.c99_read.specs.State.{base_at, is_identifier}
use Rattle.scope_bind.specs.Named.{ordinary}
use Rattle.c_types.specs.Trees.{is_at}
use Rattle.c_types.specs.Declarations.{Facts, is_typedef_name, visible}
use Rattle.name_chains.specs.Frames.{State}
use Rattle.name_chains.specs.Entering.{entered}
use Rattle.scope_bind.specs.Walk.{passed, left, walked}

module _ (toks : List Token) where
  -- the ordinary declaration that token i denotes, or would denote if it were a use, is one of a typedef name
  abbrev pub denotes_typedef : ℕ → Facts → Bool
  denotes_typedef i facts = option_map_or (λ d. is_typedef_name d.kind) (visible toks ordinary i i facts) false

  -- A type name is a typedef name (6.7.2 paragraph 2); a primary expression is none (6.5.1 paragraph 2), and a
  -- name in an identifier list is none before it is declared there (6.7.5.3 paragraph 3). `k` children stand before it.
  abbrev pub is_read_so : Production → ℕ → ℕ → ℕ → Facts → Bool
  is_read_so Main alternative k i facts = if (alternative == 4) && (k == 0) then denotes_typedef i facts else true
  is_read_so Primary alternative k i facts = if alternative == 1 then not (denotes_typedef i facts) else true
  is_read_so Params alternative k i facts = if (alternative == 1) && (k % 2 == 0) then not (denotes_typedef i facts) else true
  is_read_so _ alternative k i facts = true

module _ (std : Edition) where
  module _ (toks : List Token) where
    -- An identifier directly behind the parenthesis that begins a parameter's declarator is the declared name: it is none
    -- before it is declared (6.7.5.3 paragraph 11).
    abbrev pub is_named_so : Label → ℕ → Facts → Bool
    is_named_so l first facts =
        if is_at l Pdirect 2 then not (is_identifier (base_at (iso std) toks (first + 1))) || not (denotes_typedef toks (first + 1) facts) else true

    -- each name below is read as it is bound, at its moment of the walk
    abbrev pub agrees : Forest → State → Bool
    agrees none s = true
    agrees (token i rest) s =
        is_read_so toks s.frame.label.production s.frame.label.alternative s.frame.nth i s.facts && agrees rest (passed toks i s)
    agrees (node l first under rest) s =
        is_named_so l first s.facts &&
        (agrees under (entered toks l first under s) &&
        agrees rest (left toks l first under s (walked toks under (entered toks l first under s))))
