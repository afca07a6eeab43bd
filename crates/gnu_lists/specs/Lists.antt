-- What the tree of a unit of GNU C tells by itself of names that have another use than the standards' (ISO/IEC 9899).
use Rattle.std.specs.Prelude.{ℕ, ◌+◌, ◌-◌, Bool, true, false, ◌&&◌, ◌||◌, List, [], ◌∷◌, ◌++◌, length, slice_get, unwrap_or, if◌then◌else◌, ◌==◌}
use Rattle.cs_base.specs.Token.{Token}
use Rattle.c99_tree.specs.Tree.{Forest, none, token, node}
use Rattle.c99_tree.specs.declared.production.Label.{Label}
use Rattle.c99_tree.specs.declared.production.Production.TheVariants.{External, Primary, Block, Statement, AttrItem, AttrWord, AsmName, AsmOperand}
use Rattle.c_types.specs.Trees.{is_node, is_at, first_token}
use Rattle.gnu_lists.specs.declared.lists.Adjacent.{Adjacent}
use Rattle.gnu_lists.specs.declared.counted.Counted.{Counted}
use Rattle.gnu_lists.specs.declared.tokens.Mark.{Mark}
use Rattle.gnu_lists.specs.declared.tokens.Mark.TheVariants.{Name as a_name, Text as a_text, Count as a_count}
use Rattle.gnu_lists.specs.Tokens.{marks_among}
use Rattle.gnu_lists.specs.Counted.{is_symbol, told_at}

-- ---- Identifiers that may denote nothing

-- expressions (6.5.1), names of attributes, and names of operands of `asm`
abbrev pub is_worded : Label → Bool
is_worded l = is_at l Primary 1 || (is_node l AttrWord || (is_node l AttrItem || is_node l AsmOperand))

-- ---- Texts for the assembler

-- an `asm` declaration or statement, and the name of a declaration
abbrev pub is_assembling : Label → Bool
is_assembling l = is_at l External 4 || (is_at l Statement 17 || is_node l AsmName)

-- strings that stand side by side are one text (6.4.5, 5.1.1.2 paragraph 1)
abbrev pub last_of : ℕ → List ℕ → ℕ
last_of k ks = unwrap_or (slice_get ks (length ks - 1)) k

abbrev pub text_of : List ℕ → List Adjacent
text_of [] = []
text_of (k ∷ ks) = record { from = k; to = last_of k ks + 1 } ∷ []

-- ---- Blocks in expressions

abbrev pub begun_at : Label → Forest → List ℕ
begun_at l under = if is_node l Block then first_token under 0 ∷ [] else []

abbrev pub begins_in : Forest → List ℕ
begins_in none = []
begins_in (token i rest) = begins_in rest
begins_in (node l first under rest) = begun_at l under ++ begins_in rest

-- the `{` of blocks that are operands
abbrev pub blocks_at : Label → Forest → List ℕ
blocks_at l under = if is_node l Primary then begins_in under else []

abbrev pub blocks_in : Forest → List ℕ
blocks_in none = []
blocks_in (token i rest) = blocks_in rest
blocks_in (node l first under rest) = (blocks_at l under ++ blocks_in under) ++ blocks_in rest

-- Identifiers that may denote nothing; texts for the assembler, each by its first token and the one behind its last;
-- what may count parameters of a name, and its names for the assembler; and where blocks in expressions begin.
pub record Listed : Type 0 where
  pub places : List ℕ
  pub texts : List Adjacent
  pub counts : List Counted
  pub symbols : List Counted
  pub begins : List ℕ

module _ (toks : List Token) where
  abbrev pub places_at : Label → Forest → List ℕ
  places_at l under = if is_worded l then marks_among toks a_name under else []

  abbrev pub places_in : Forest → List ℕ
  places_in none = []
  places_in (token i rest) = places_in rest
  places_in (node l first under rest) = (places_at l under ++ places_in under) ++ places_in rest

  -- the texts, where it is said whether all this stands in an attribute that names a symbol
  abbrev pub text_at : Bool → Label → Forest → List Adjacent
  text_at inside l under =
      if is_assembling l || (inside && is_at l Primary 4) then text_of (marks_among toks a_text under) else []

  abbrev pub texts_in : Bool → Forest → List Adjacent
  texts_in inside none = []
  texts_in inside (token i rest) = texts_in inside rest
  texts_in inside (node l first under rest) =
      (text_at inside l under ++ texts_in (inside || is_symbol toks l under) under) ++ texts_in inside rest

  -- what may count parameters, or the names for the assembler, by the names of which it is said
  abbrev pub told_below : Mark → Forest → List Counted
  told_below m none = []
  told_below m (token i rest) = told_below m rest
  told_below m (node l first under rest) = (told_at toks m l under ++ told_below m under) ++ told_below m rest

  -- all of them, of the tree of a unit
  abbrev pub listed_in : Forest → Listed
  listed_in tree = record {
    places = places_in tree;
    texts = texts_in false tree;
    counts = told_below a_count tree;
    symbols = told_below a_text tree;
    begins = blocks_in tree;
  }
