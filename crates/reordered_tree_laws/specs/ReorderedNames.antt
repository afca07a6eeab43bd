-- That the names of a text agree with its tree is kept in a new order of lists (ISO/IEC 9899:1999, 6.2.1, 6.7.7 and 6.7.5.3
-- paragraph 11).
use Rattle.std.specs.Prelude.{ℕ, ◌≡◌, Bool, true, List, length, map}
use Rattle.c99_grammar.specs.declared.dialects.Edition.{Edition}
use Rattle.cs_base.specs.Token.{Token}
use Rattle.c99_tree.specs.Tree.{Node}
use Rattle.c99_grammar.specs.Standard.{iso}
use Rattle.c99_read.specs.State.{base_at}
use Rattle.name_chains.specs.Frames.{at_first as before}
use Rattle.scope_bind.specs.Bound.{Bound}
use Rattle.tree_laws.specs.TreesOfTexts.{IsTreeOf}
use Rattle.tree_laws.specs.Agreeing.{agrees}
use Rattle.list_cuts.specs.Cuts.{arranged, moved}
use Rattle.reordered_tree_laws.specs.Reordered.{reordered}
use Rattle.reordered_tree_laws.specs.Cuts.{cut_in}
use Rattle.reordered_tree_laws.specs.Premises.{CanReorder}
use Rattle.reordered_tree_laws.specs.BareNames.{HaveBareNames}

-- the second text is the first one in the new order, and each token has its class at its new place
pub record IsReorderedText (s : Edition) (order : List ℕ) (lists : ℕ → Bool) (tree : Node) (old new : List Token) : Type 0 where
  pub texts : map (λ (t : Token). t.text) new ≡ arranged order (cut_in lists tree) (map (λ (t : Token). t.text) old)
  pub classes : (k : ℕ) → base_at (iso s) new (moved order (cut_in lists tree) (length old) k) ≡ base_at (iso s) old k

-- Where the lists can get the new order, names that agree with the tree agree with the one in the new order: what is a type
-- name denotes a typedef name there too, and a primary expression and the bare name of a parameter denote none.
abbrev pub ReorderedNamesAgree : Type 0
ReorderedNamesAgree =
    (s : Edition) (old new : List Token) (order : List ℕ) (lists : ℕ → Bool) (tree : Node) (b : Bound) → IsTreeOf (length old) tree → HaveBareNames s old tree.under
    → CanReorder order lists old tree b → IsReorderedText s order lists tree old new → agrees s old tree.under (before (length old)) ≡ true
    → agrees s new (reordered order lists tree).under (before (length new)) ≡ true
