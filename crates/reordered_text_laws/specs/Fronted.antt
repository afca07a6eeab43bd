-- A text behind a typedef of its own, `typedef int`, the empty word and `;`, by which its typedef names are read as if they
-- were keywords (ISO/IEC 9899:1999, 6.7.7).
use Rattle.std.specs.Prelude.{ℕ, suc, ◌≡◌, ◌⊎◌, Bool, true, false, ◌&&◌, ◌||◌, not, List, [], ◌∷◌, length, Ok, codes}
use Rattle.std.specs.Str.{bytes_eq}
use Rattle.c99_grammar.specs.declared.dialects.Edition.{Edition}
use Rattle.c99_grammar.specs.declared.dialects.Edition.TheVariants.{C99, C11}
use Rattle.cs_base.specs.Token.{Token}
use Rattle.cs_base.specs.declared.tokens.Kind.{Kind}
use Rattle.cs_base.specs.declared.tokens.Kind.TheVariants.{Ident, Punct}
use Rattle.c99_tree.specs.Tree.{Forest, none, token, node, Node, node_of}
use Rattle.c99_tree.specs.declared.production.Label.{Label}
use Rattle.c99_tree.specs.declared.production.Production.{Production}
use Rattle.c99_tree.specs.declared.production.Production.TheVariants.{TranslationUnit, External, ExtRest, ExtTail, Specs, Main, Mod, Word, Declarator, Direct}
use Rattle.c99_grammar.specs.declared.classes.Class.TheVariants.{Identifier, TypedefName}
use Rattle.c99_grammar.specs.Spellings.{Spelled}
use Rattle.c99_grammar.specs.Standard.{Grammar, iso}
use Rattle.c99_read.specs.State.{base_at, spelling_at, is_identifier}
use Rattle.c99_read.specs.Reading.{read_of}
use Rattle.c_types.specs.Trees.{is_at}
use Rattle.name_chains.specs.Frames.{at_first as before}
use Rattle.tree_laws.specs.Agreeing.{agrees}
use Rattle.reordered_text_laws.specs.ByClasses.{joined}
use Rattle.reordered_text_laws.specs.InOrder.{with_words}

-- ---- Texts

abbrev a_token : Kind → List ℕ → Token
a_token k t = record { kind = k; text = t; origins = []; gap = false; at = record { file = 0; at = 0 }; line = 0; direct = true }

abbrev pub fronted : List Token → List Token
fronted toks = a_token Ident (codes "typedef") ∷ a_token Ident (codes "int") ∷ a_token Ident [] ∷ a_token Punct (codes ";") ∷ toks

-- the token is spelled by the empty word
abbrev pub used : List Token → ℕ → Bool
used toks k = bytes_eq [] (spelling_at toks k)

-- A token has its class by both grammars, and is not spelled so where it is an identifier; or it is spelled so, and a
-- keyword of the second one that counts as a typedef name.
abbrev pub Fits : List Token → Grammar → Grammar → ℕ → Type 0
Fits toks g h k =
    ((base_at h toks k ≡ base_at g toks k) × (is_identifier (base_at g toks k) ≡ true → used toks k ≡ false))
    ⊎ ((used toks k ≡ true) × ((base_at h toks k ≡ TypedefName) × (base_at g toks k ≡ Identifier)))

-- ---- Trees

-- four tokens further
abbrev pub up : ℕ → ℕ
up k = suc (suc (suc (suc k)))

abbrev pub raised : Forest → Forest
raised none = none
raised (token i rest) = token (up i) (raised rest)
raised (node l first under rest) = node l (up first) (raised under) (raised rest)

-- some tokens stand elsewhere than as type names (6.7.2 paragraph 2)
module _ (some : ℕ → Bool) where
  abbrev pub strays : Label → ℕ → Bool
  strays l i = not (is_at l Main 4) && some i

  abbrev pub dirty : Label → Forest → Bool
  dirty l none = false
  dirty l (token i rest) = strays l i || dirty l rest
  dirty l (node m first under rest) = dirty m under || dirty l rest

abbrev pub labelled_as : Production → ℕ → Label
labelled_as p n = record { production = p; alternative = n }

-- the alternative of a declaration at file level
abbrev which : Edition → ℕ
which C99 = 2
which C11 = 3

-- the tree of the typedef
abbrev pub front_forest : Edition → Forest
front_forest s =
    node (labelled_as External (which s)) 0
    (node (labelled_as Specs 1) 0 (node (labelled_as Mod 1) 0 (token 0 none) (node (labelled_as Main 1) 1 (node (labelled_as Word 4) 1 (token 1 none) none) none))
    (node (labelled_as ExtRest 2) 2 (node (labelled_as Declarator 1) 2 (node (labelled_as Direct 1) 2 (token 2 none) none) (node (labelled_as ExtTail 2) 3 (token 3 none) none)) none)) none

-- the tree of a text behind it
abbrev pub with_front : Edition → Node → Node
with_front s t = node_of t.label 0 (joined (front_forest s) (raised t.under))

-- A text is read to a tree by the grammar of an edition in which the empty word is such a keyword, exactly if behind the
-- typedef it is read so by the grammar of the edition; where in the tree the word stands for type names alone.
abbrev pub TextsAreReadBehindATypedef : Type 0
TextsAreReadBehindATypedef =
    (s : Edition) (words : List Spelled) (toks : List Token) (tree : Node) → ((k : ℕ) → Fits toks (iso s) (with_words words (iso s)) k)
    → dirty (used toks) (labelled_as TranslationUnit 1) tree.under ≡ false → tree.first ≡ 0
    → (read_of (with_words words (iso s)) toks ≡ Ok tree → read_of (iso s) (fronted toks) ≡ Ok (with_front s tree))
    × (read_of (iso s) (fronted toks) ≡ Ok (with_front s tree) → read_of (with_words words (iso s)) toks ≡ Ok tree)

-- ---- Names

-- a token stands below
abbrev pub has_leaf : Forest → Bool
has_leaf none = false
has_leaf (token i rest) = true
has_leaf (node l first under rest) = has_leaf under || has_leaf rest

-- .. below each node
abbrev pub is_filled : Forest → Bool
is_filled none = true
is_filled (token i rest) = is_filled rest
is_filled (node l first under rest) = has_leaf under && (is_filled under && is_filled rest)

-- one of some tokens stands below
abbrev pub has_some : (ℕ → Bool) → Forest → Bool
has_some some none = false
has_some some (token i rest) = some i || has_some some rest
has_some some (node l first under rest) = has_some some under || has_some some rest

-- Where the names of a text agree with a tree, in which each node has a token, and no name nor token of the tree is spelled
-- by the empty word, they agree with it behind the typedef.
abbrev pub AgreesBehindATypedef : Type 0
AgreesBehindATypedef =
    (s : Edition) (toks : List Token) (tree : Node) → ((k : ℕ) → is_identifier (base_at (iso s) toks k) ≡ true → used toks k ≡ false)
    → is_filled tree.under ≡ true → has_some (used toks) tree.under ≡ false → agrees s toks tree.under (before (length toks)) ≡ true
    → agrees s (fronted toks) (with_front s tree).under (before (length (fronted toks))) ≡ true

-- A text is read to a tree by the grammar of an edition if its names agree with the tree, and a text of the same classes is
-- read to it by the grammar with the keyword, where the empty word stands for type names alone: what declares them need
-- not be in that text.
abbrev pub AgreeingTextsAreRead : Type 0
AgreeingTextsAreRead =
    (s : Edition) (words : List Spelled) (keyed new : List Token) (tree : Node) → ((k : ℕ) → Fits keyed (iso s) (with_words words (iso s)) k)
    → dirty (used keyed) (labelled_as TranslationUnit 1) tree.under ≡ false → tree.first ≡ 0 → read_of (with_words words (iso s)) keyed ≡ Ok tree
    → length keyed ≡ length new → ((k : ℕ) → base_at (iso s) keyed k ≡ base_at (iso s) new k)
    → ((k : ℕ) → is_identifier (base_at (iso s) new k) ≡ true → used new k ≡ false) → is_filled tree.under ≡ true → has_some (used new) tree.under ≡ false
    → agrees s new tree.under (before (length new)) ≡ true → read_of (iso s) new ≡ Ok tree
