-- The items of a file in which the items of lists change places (this project's, over ISO/IEC 9899:1999, 6.10).
use Rattle.std.specs.Prelude.{◌≡◌, ◌≤◌, ℕ, suc, not, Bool, List, [], ◌∷◌, length}
use Rattle.cs_base.specs.Token.{Token}
use Rattle.lexer.specs.Tokens.{tokens_of, firsts_of}
use Rattle.line_shape.specs.Signs.{is_hash}
use Rattle.line_shape.specs.Items.{items_of}
use Rattle.list_cuts.specs.Cuts.{Cut, keep, extent_of, IsOrder, arranged, AreOf}
use Rattle.arranged_text_laws.specs.Runs.{Placed, ListsInRuns}
use Rattle.arranged_text_laws.specs.Tokens.{cut_in, TokensAreArranged}

-- tokens, and whether each is the first of its line
abbrev pub placed : List Token → List Bool → List Placed
placed [] firsts = []
placed (t ∷ toks) [] = []
placed (t ∷ toks) (first ∷ firsts) = record { tok = t; first = first } ∷ placed toks firsts

-- each list of a file stands inside a run, behind the first token of the file
abbrev pub FileRuns : Cut → List Placed → List Placed → Type 0
FileRuns (keep (suc n) c) (p ∷ ps) (v ∷ vs) = ListsInRuns (not (is_hash p.tok)) (keep n c) ps vs
FileRuns _ _ _ = ⊥

-- The law: then the items of the file are those that it had.
abbrev pub FileItemsStay : Type 0
FileItemsStay = (n : ℕ) (order : List ℕ) (c : Cut) (file : ℕ) (bytes : List ℕ) → IsOrder n order → AreOf n (cut_in file c bytes)
    → extent_of (cut_in file c bytes) ≤ length (tokens_of file bytes) → (new : TokensAreArranged order c file bytes)
    → FileRuns (cut_in file c bytes) (placed (tokens_of file bytes) (firsts_of bytes)) (placed new.toks new.firsts)
    → items_of (tokens_of file (arranged order c bytes)) (firsts_of (arranged order c bytes)) ≡ items_of (tokens_of file bytes) (firsts_of bytes)
