-- Lines whose tokens change inside runs of text lines (ISO/IEC 9899:1999, 6.10): the items of the file stay.
use Rattle.std.specs.Prelude.{◌≡◌, ◌≤◌, ◌⊎◌, ◌&&◌, ℕ, not, if◌then◌else◌, Bool, true, false, List, [], ◌∷◌, length, take, drop, map}
use Rattle.std.specs.List.{list_any}
use Rattle.cs_base.specs.Token.{Token}
use Rattle.line_shape.specs.Signs.{is_hash}
use Rattle.line_shape.specs.Items.{items_of}
use Rattle.list_cuts.specs.Cuts.{Cut, done, keep, list, span_of, extent_of, IsOrder, arranged, AreOf}
use Rattle.arranged_text_laws.specs.Outside.{SameOutside}

-- a token, and whether it is the first of its line
pub record Placed : Type 0 where
  pub tok : Token
  pub first : Bool

-- it begins a directive line
abbrev pub begins_directive : Placed → Bool
begins_directive p = p.first && is_hash p.tok

-- whether a token stands in a text line, where the one before it does or does not
abbrev pub in_text : Bool → Placed → Bool
in_text text p = if p.first then not (is_hash p.tok) else text

-- a token of the same line, or of a text line, stands first
abbrev pub goes_on : List Placed → Bool
goes_on [] = false
goes_on (p ∷ ps) = not (begins_directive p)

-- The tokens are the same one by one, or both stand inside a run of text lines, behind its first token and before its last;
-- `text` says whether the token before them stands in a text line.
abbrev pub SameButInRuns : Bool → List Placed → List Placed → Type 0
SameButInRuns text [] [] = Unit {0}
SameButInRuns text (p ∷ ps) (q ∷ qs) =
    ((q ≡ p) × SameButInRuns (in_text text p) ps qs)
    ⊎ ((text ≡ true) × (begins_directive p ≡ false) × (begins_directive q ≡ false) × (goes_on ps ≡ true) × (goes_on qs ≡ true)
    × SameButInRuns true ps qs)
SameButInRuns text _ _ = ⊥

-- So it is with all tokens of a file, the first of which begins a line.
abbrev pub SameFile : List Placed → List Placed → Type 0
SameFile [] [] = Unit {0}
SameFile (p ∷ ps) (q ∷ qs) = (q ≡ p) × SameButInRuns (not (is_hash p.tok)) ps qs
SameFile _ _ = ⊥

abbrev pub toks_of : List Placed → List Token
toks_of ps = map (λ p. p.tok) ps

abbrev pub firsts_of : List Placed → List Bool
firsts_of ps = map (λ p. p.first) ps

-- The law: then the items of the file are the same.
abbrev pub ItemsStay : Type 0
ItemsStay = (ps qs : List Placed) → SameFile ps qs → items_of (toks_of qs) (firsts_of qs) ≡ items_of (toks_of ps) (firsts_of ps)

-- ---- lists in runs

-- whether the last of these tokens stands in a text line
abbrev pub text_behind : Bool → List Placed → Bool
text_behind text [] = text
text_behind text (p ∷ ps) = text_behind (in_text text p) ps

-- Each list of a cut stands inside a run of text lines, and no token in it begins a directive line, nor does one of those
-- that are to stand there.
abbrev pub ListsInRuns : Bool → Cut → List Placed → List Placed → Type 0
ListsInRuns text done ps vs = Unit {0}
ListsInRuns text (keep n c) ps vs = ListsInRuns (text_behind text (take n ps)) c (drop n ps) (drop n vs)
ListsInRuns text (list is c) ps vs =
    (text ≡ true) × (list_any begins_directive (take (span_of is) ps) ≡ false) × (list_any begins_directive (take (span_of is) vs) ≡ false)
    × (goes_on (drop (span_of is) ps) ≡ true) × ListsInRuns true c (drop (span_of is) ps) (drop (span_of is) vs)

-- The law: then lists in a new order change tokens in runs alone, where all else stays.
abbrev pub RunsMove : Type 0
RunsMove = (n : ℕ) (order : List ℕ) (text : Bool) (c : Cut) (ps vs : List Placed) → IsOrder n order → AreOf n c → extent_of c ≤ length ps
    → length vs ≡ length ps → SameOutside c vs ps → ListsInRuns text c ps vs → SameButInRuns text ps (arranged order c vs)
