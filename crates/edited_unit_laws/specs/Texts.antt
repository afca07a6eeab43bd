-- The texts of files in which the items of lists change places, by their tokens (ISO/IEC 9899:1999, 5.1.1.2 phase 3, 6.10).
use Rattle.std.specs.Prelude.{◌≡◌, ◌≤◌, ◌<◌, ◌-◌, ℕ, true, false, List, [], ◌∷◌, length, take, drop, Some, Ok, slice_get}
use Rattle.std.specs.List.{list_any}
use Rattle.line_shape.specs.Signs.{is_hash}
use Rattle.lexer.specs.FileText.{TextValue, file_text}
use Rattle.lexer.specs.Tokens.{tokens_of, firsts_of}
use Rattle.arranged_text_laws.specs.FileItems.{placed, FileRuns}
use Rattle.arranged_text_laws.specs.Runs.{Placed, begins_directive, goes_on, text_behind}
use Rattle.arranged_text_laws.specs.Tokens.{cut_in, TokensAreArranged}
use Rattle.list_cuts.specs.Cuts.{Cut, extent_of, IsOrder, arranged, AreOf}
use Rattle.list_cuts.specs.CutOf.{cut_of, are_nested}
use Rattle.list_cuts.specs.Spans.{end_of}
use Rattle.list_cuts.specs.declared.spans.Span.{Span}
use Rattle.unit_laws.specs.Files.{TextStands}

-- The law: where the tokens of a file whose bytes are in the new order are the old ones so, and its lists stand in runs, the text of
-- the edited file is the old one in the new order, with the items that it had.
abbrev pub TextsStand : Type 0
TextsStand = (n : ℕ) (order : List ℕ) (c : Cut) (file : ℕ) (bytes : List ℕ) (text text2 : TextValue) → IsOrder n order → AreOf n (cut_in file c bytes)
    → extent_of (cut_in file c bytes) ≤ length (tokens_of file bytes) → (new : TokensAreArranged order c file bytes)
    → FileRuns (cut_in file c bytes) (placed (tokens_of file bytes) (firsts_of bytes)) (placed new.toks new.firsts)
    → file_text file bytes ≡ Ok text → file_text file (arranged order c bytes) ≡ Ok text2 → TextStands order (cut_in file c bytes) text text2

-- ---- lists in runs

-- where the first item begins, and where the last one ends
abbrev pub begin_of : List Span → ℕ
begin_of [] = 0
begin_of (s ∷ more) = s.begin

abbrev pub close_of : List Span → ℕ
close_of [] = 0
close_of (s ∷ more) = end_of s more

-- items one behind the other
abbrev pub AreSpans : List Span → Type 0
AreSpans [] = ⊥
AreSpans (s ∷ []) = s.begin ≤ s.end
AreSpans (s ∷ t ∷ more) = (s.begin ≤ s.end) × (s.end ≤ t.begin) × AreSpans (t ∷ more)

-- none begins with `#`
abbrev pub AreHeads : List Placed → List Span → Type 0
AreHeads ps [] = Unit {0}
AreHeads ps (s ∷ more) = ((p : Placed) → slice_get ps s.begin ≡ Some p → is_hash p.tok ≡ false) × AreHeads ps more

-- A list, given by the tokens of its items, stands in a run of text lines: a token of one stands before it, and no directive line begins
-- in it or with the token behind it.
pub record StandsInRun (ps : List Placed) (l : List Span) : Type 0 where
  pub behind : 0 < begin_of l
  pub spans : AreSpans l
  pub heads : AreHeads ps l
  pub text : text_behind true (take (begin_of l) ps) ≡ true
  pub plain : list_any begins_directive (take (close_of l - begin_of l) (drop (begin_of l) ps)) ≡ false
  pub on : goes_on (drop (close_of l) ps) ≡ true

abbrev pub EachInRun : List Placed → List (List Span) → Type 0
EachInRun ps [] = Unit {0}
EachInRun ps (l ∷ lists) = StandsInRun ps l × EachInRun ps lists

-- The law: then the cut of the tokens has its lists in runs, and the tokens that come to stand there do.
abbrev pub ListsStandInRuns : Type 0
ListsStandInRuns = (order : List ℕ) (c : Cut) (file : ℕ) (bytes : List ℕ) (lists : List (List Span)) → (new : TokensAreArranged order c file bytes) → cut_in file c bytes ≡ cut_of lists
    → 0 < length lists → EachInRun (placed (tokens_of file bytes) (firsts_of bytes)) lists → are_nested lists ≡ true
    → (extent_of (cut_in file c bytes) ≤ length (tokens_of file bytes)) × FileRuns (cut_in file c bytes) (placed (tokens_of file bytes) (firsts_of bytes)) (placed new.toks new.firsts)
