-- A text whose tokens stand in a new order of the lists of another one is read to the tree of that one in the new order
-- (ISO/IEC 9899:1999, 6.5.2.2, 6.7.5.3 and 6.7.7).
use Rattle.std.specs.Prelude.{ℕ, ◌≡◌, Bool, true, false, List, length, get_or, map, Ok}
use Rattle.std.specs.List.{list_all}
use Rattle.expansion_laws.specs.Spelled.{is_spelled}
use Rattle.c99_grammar.specs.declared.dialects.Edition.{Edition}
use Rattle.cs_base.specs.Token.{Token}
use Rattle.cs_base.specs.declared.tokens.Kind.{Kind}
use Rattle.c99_tree.specs.Tree.{Node}
use Rattle.c99_grammar.specs.Standard.{iso}
use Rattle.c99_read.specs.State.{base_at, is_identifier}
use Rattle.c99_read.specs.Reading.{read_of}
use Rattle.name_chains.specs.Frames.{at_first as before}
use Rattle.list_cuts.specs.Cuts.{IsOrder, arranged, AreOf}
use Rattle.reordered_tree_laws.specs.Reordered.{reordered}
use Rattle.reordered_tree_laws.specs.Cuts.{cut_in}
use Rattle.tree_laws.specs.Agreeing.{agrees}
use Rattle.reordered_text_laws.specs.ByClasses.{numbers_from}
use Rattle.reordered_text_laws.specs.Fronted.{used}

-- no identifier is spelled by the empty word
abbrev pub NamesAreSpelled : Edition → List Token → Type 0
NamesAreSpelled s toks = (k : ℕ) → is_identifier (base_at (iso s) toks k) ≡ true → used toks k ≡ false

-- As many tokens as the first text has; and where the lists of the tree that begin with these tokens stand in the new
-- order, each has the class, but for typedef names, of the one that stands there.
abbrev pub AreTokensInOrder : Edition → List ℕ → (ℕ → Bool) → Node → List Token → List Token → Type 0
AreTokensInOrder s order lists tree old new =
    (length new ≡ length old)
    × ((k : ℕ) → base_at (iso s) new k ≡ base_at (iso s) old (get_or (arranged order (cut_in lists tree) (numbers_from 0 (length old))) k k))

-- The second text is read to the tree in the new order if its names are read there as they are bound; each list has as
-- many items as the order has numbers.
abbrev pub TextsAreReadInOrder : Type 0
TextsAreReadInOrder =
    (s : Edition) (n : ℕ) (order : List ℕ) (lists : ℕ → Bool) (old new : List Token) (tree : Node) → NamesAreSpelled s old → NamesAreSpelled s new
    → AreTokensInOrder s order lists tree old new → read_of (iso s) old ≡ Ok tree → IsOrder n order → AreOf n (cut_in lists tree)
    → agrees s new (reordered order lists tree).under (before (length new)) ≡ true → read_of (iso s) new ≡ Ok (reordered order lists tree)

-- ---- Kinds and spellings

-- what tokens are but for their labels
abbrev pub plains : List Token → List (Kind × List ℕ)
plains toks = map (λ (t : Token). (t.kind, t.text)) toks

-- Tokens with the kinds and spellings of others in the new order stand so; and no identifier of them is spelled by the empty
-- word if none of the others is.
abbrev pub PlainTokensStandInOrder : Type 0
PlainTokensStandInOrder =
    (s : Edition) (n : ℕ) (order : List ℕ) (lists : ℕ → Bool) (old new : List Token) (tree : Node) → IsOrder n order → AreOf n (cut_in lists tree)
    → plains new ≡ arranged order (cut_in lists tree) (plains old) → AreTokensInOrder s order lists tree old new × (NamesAreSpelled s old → NamesAreSpelled s new)

-- So a text with the kinds and spellings of another one in the new order of its lists is read to the tree in that order.
abbrev pub ArrangedTextsAreRead : Type 0
ArrangedTextsAreRead =
    (s : Edition) (n : ℕ) (order : List ℕ) (lists : ℕ → Bool) (old new : List Token) (tree : Node) → NamesAreSpelled s old
    → plains new ≡ arranged order (cut_in lists tree) (plains old) → read_of (iso s) old ≡ Ok tree → IsOrder n order → AreOf n (cut_in lists tree)
    → agrees s new (reordered order lists tree).under (before (length new)) ≡ true → read_of (iso s) new ≡ Ok (reordered order lists tree)

-- Tokens that are spelled as their kinds say (6.4), as those of each unit are, have no identifier that is spelled by the empty
-- word.
abbrev pub SpelledTextsHaveNames : Type 0
SpelledTextsHaveNames = (s : Edition) (toks : List Token) → list_all is_spelled toks ≡ true → NamesAreSpelled s toks
