-- The marks of lists in runs and in what these are expanded to (ISO/IEC 9899:1999, 6.10.3).
use Rattle.std.specs.Prelude.{ℕ, ◌≡◌, List, [], ◌∷◌, length, map, slice_get}
use Rattle.cs_base.specs.Token.{Token}
use Rattle.line_shape.specs.Signs.{is_open, is_close, is_comma}
use Rattle.list_cuts.specs.Cuts.{Cut}
use Rattle.expansion_laws.specs.Arranging.{MarksStand, IsSign, SignsStand}
use Rattle.reordered_text_laws.specs.Marks.{marks_of, IsMarked, Each}

-- ---- signs

-- the marks behind the items are commas, and the last one is `)`
abbrev pub Closes : List Token → List ℕ → Type 0
Closes toks [] = ⊥
Closes toks (m ∷ []) = IsSign is_close toks m
Closes toks (m ∷ k ∷ ms) = IsSign is_comma toks m × Closes toks (k ∷ ms)

-- that in front is `(`, and no macro put any of them in
abbrev pub AreSigned : List Token → List ℕ → Type 0
AreSigned toks [] = ⊥
AreSigned toks (m ∷ ms) = IsSign is_open toks m × Closes toks ms

-- The law: a cut with such marks has its signs.
abbrev pub SignedMarksStand : Type 0
SignedMarksStand = (limit : ℕ) (c : Cut) (toks : List Token) → IsMarked 0 0 limit c → Each (AreSigned toks) (marks_of 0 c) → SignsStand c toks

-- ---- runs

-- A run and what it is expanded to have the same marks: token for token, in two cuts that have marks.
pub record HaveMarks (c d : Cut) (run out : List Token) : Type 0 where
  pub run_marked : IsMarked 0 0 (length run) c
  pub out_marked : IsMarked 0 0 (length out) d
  pub same : map (map (slice_get run)) (marks_of 0 c) ≡ map (map (slice_get out)) (marks_of 0 d)

-- The law.
abbrev pub RunsHaveMarks : Type 0
RunsHaveMarks = (c d : Cut) (run out : List Token) → MarksStand c d run out → HaveMarks c d run out
