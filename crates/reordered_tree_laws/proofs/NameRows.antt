-- Worked rows: names agree with a tree in the new order where its lists can get it, and do not where a parameter hides a typedef
-- name that another one asks for.
use Rattle.std.specs.Prelude.{ℕ, ◌≡◌, Bool, true, false, ◌||◌, ◌==◌, List, [], ◌∷◌, length, refl}
use Rattle.c99_grammar.specs.declared.dialects.Edition.TheVariants.{C99}
use Rattle.cs_base.specs.Token.{Token}
use Rattle.c99_tree.specs.Tree.{Node}
use Rattle.name_chains.specs.Frames.{at_first as before}
use Rattle.scope_bind.specs.Walk.{walked}
use Rattle.list_cuts.specs.Cuts.{numbers, arranged, items_of, woven, gaps_of, span_of}
use Rattle.tree_laws.specs.Agreeing.{agrees}
use Rattle.reordered_tree_laws.specs.Reordered.{reordered}
use Rattle.reordered_tree_laws.specs.Cuts.{cut_in}
use Rattle.reordered_tree_laws.proofs.Rows.{nested-text, nested-tree, typedefs-text, typedefs-tree}

abbrev before_order : List Token → Node → Bool
before_order toks tree = agrees C99 toks tree.under (before (length toks))

abbrev in_order : List ℕ → (ℕ → Bool) → List Token → Node → Bool
in_order order lists toks tree =
    agrees C99 (arranged order (cut_in lists tree) toks) (reordered order lists tree).under (before (length toks))

-- calls inside each other, of a function with two parameters
nested : before_order nested-text nested-tree ≡ true
unfolding walked
nested = refl

nested-moved : in_order (2 ∷ 1 ∷ []) (λ k. (k == 2) || ((k == 19) || (k == 26))) nested-text nested-tree ≡ true
unfolding walked arranged items_of woven gaps_of span_of numbers
nested-moved = refl

-- typedef int T; int f(int g(int (T)), int T);
typedefs : before_order typedefs-text typedefs-tree ≡ true
unfolding walked
typedefs = refl

typedefs-moved : in_order (2 ∷ 1 ∷ []) (λ k. k == 6) typedefs-text typedefs-tree ≡ false
unfolding walked arranged items_of woven gaps_of span_of numbers
typedefs-moved = refl
