-- What is read is read with all its lists in a new order (ISO/IEC 9899:1999, 6.5.2.2 and 6.7.5.3).
use Rattle.std.specs.Prelude.{ℕ, ◌≡◌, Bool, false, List, [], ◌++◌, length, get_or, Some, Ok}
use Rattle.c99_grammar.specs.declared.dialects.Edition.{Edition}
use Rattle.cs_base.specs.Token.{Token}
use Rattle.c99_tree.specs.Tree.{none, node, Node}
use Rattle.c99_tree.specs.declared.production.Production.{Production}
use Rattle.c99_tree.specs.declared.production.Production.TheVariants.{TranslationUnit}
use Rattle.c99_grammar.specs.declared.classes.Class.{Class}
use Rattle.c99_grammar.specs.Spellings.{Spelled}
use Rattle.c99_grammar.specs.Standard.{Grammar, iso}
use Rattle.c99_read.specs.State.{base_at}
use Rattle.c99_read.specs.Reading.{produce, read_of}
use Rattle.list_cuts.specs.Cuts.{done, IsOrder, arranged, AreOf}
use Rattle.reordered_tree_laws.specs.Reordered.{permuted, reordered}
use Rattle.reordered_tree_laws.specs.Cuts.{cut_then, cut_in}
use Rattle.reordered_text_laws.specs.Alone.{AreAlone}
use Rattle.reordered_text_laws.specs.ByClasses.{tokens_of, numbers_from, untold, Taken, taken, read_by_classes}

-- What is read for a production by the classes of tokens is read with all lists of it that begin with these tokens in the
-- new order, the arguments of calls and the parameters of lists, each of which has as many items as the order has numbers:
-- the children in the new order are read of their tokens, and the same tokens are left.
abbrev pub ListsAreReadInAnyOrder : Type 0
ListsAreReadInAnyOrder =
    (s : Edition) (class_of : ℕ → Class) (n : ℕ) (order : List ℕ) (lists : ℕ → Bool) (fuel depth : ℕ) (p : Production) (xs : List ℕ) (t : Taken)
    → read_by_classes (iso s) class_of fuel depth (produce p) xs ≡ Some t → IsOrder n order → AreOf n (cut_then lists false t.read done)
    → (steps : ℕ) × (read_by_classes (iso s) class_of steps depth (produce p) (tokens_of (permuted order lists false t.read) ++ t.left)
    ≡ Some (taken (permuted order lists false t.read) t.left))

-- ---- Units

-- the grammar with other keywords
abbrev pub with_words : List Spelled → Grammar → Grammar
with_words words g = record g { keywords = words }

-- So many tokens are read, by their classes, to the tree of a unit.
abbrev pub IsReadAs : Edition → (ℕ → Class) → ℕ → Node → Type 0
IsReadAs s class_of count tree =
    (steps : ℕ) × (read_by_classes (iso s) class_of steps 0 (produce TranslationUnit) (numbers_from 0 count)
    ≡ Some (taken (untold (node tree.label tree.first tree.under none)) []))

-- Then the same tokens in the new order of the tree's lists, each with the class that it had, are read to the tree in the
-- new order.
abbrev pub ArrangedTokensAreReadInOrder : Type 0
ArrangedTokensAreReadInOrder =
    (s : Edition) (class_of : ℕ → Class) (n count : ℕ) (order : List ℕ) (lists : ℕ → Bool) (tree : Node)
    → IsReadAs s class_of count tree → IsOrder n order → AreOf n (cut_in lists tree)
    → IsReadAs s (λ k. class_of (get_or (arranged order (cut_in lists tree) (numbers_from 0 count)) k k)) count (reordered order lists tree)

-- A text in which each identifier is spelled as no other token, by an edition's grammar or the same with other keywords: if
-- it is read to a tree, then another one whose tokens have the classes of the arranged ones is read to the tree in the new
-- order.
abbrev pub TextsAloneAreReadInOrder : Type 0
TextsAloneAreReadInOrder =
    (s : Edition) (words : List Spelled) (n : ℕ) (order : List ℕ) (lists : ℕ → Bool) (old new : List Token) (tree : Node)
    → AreAlone (with_words words (iso s)) old → AreAlone (with_words words (iso s)) new → length new ≡ length old
    → ((k : ℕ) → base_at (with_words words (iso s)) new k
    ≡ base_at (with_words words (iso s)) old (get_or (arranged order (cut_in lists tree) (numbers_from 0 (length old))) k k))
    → read_of (with_words words (iso s)) old ≡ Ok tree → IsOrder n order → AreOf n (cut_in lists tree)
    → read_of (with_words words (iso s)) new ≡ Ok (reordered order lists tree)
