-- The lines of a text make the text.
use Rattle.std.proofs.Common.{◌≡◌, ◌∙◌, ℕ, suc, ◌+◌, ◌-◌, ◌<◌, ◌≤◌, true, false, ◌==◌, List, [], ◌∷◌, ◌++◌, length, take, drop, inl, inr, refl, ap, sym, arith}
use Rattle.std.specs.List.{onto_first, prefix_len}
use Rattle.std.proofs.lemmas.Bool.{cases_Bool, cases_lt}
use Rattle.std.specs.Borrow.{Bor}
use Rattle.std.proofs.lemmas.List.{append-nil, append_assoc, map-append, nil_from_length}
use Rattle.cs_base.specs.Units.{line_feed}
use Rattle.line_diff.specs.Pairs.{texts_of}
use Rattle.line_diff.specs.Lines.{is_no_feed, lines_of, text_of}

-- a byte in front of lines, in front of their text
text_of-onto_first : (b : ℕ) (lines : List (List ℕ)) → text_of (onto_first b lines) ≡ b ∷ text_of lines
text_of-onto_first b [] = refl
text_of-onto_first b (line ∷ lines) = refl

lines_of-feed : (b : ℕ) (text : List ℕ) → (b == line_feed) ≡ true → lines_of (b ∷ text) ≡ (b ∷ []) ∷ lines_of text
unfolding lines_of
lines_of-feed b text feed = rw feed refl

lines_of-other : (b : ℕ) (text : List ℕ) → (b == line_feed) ≡ false → lines_of (b ∷ text) ≡ onto_first b (lines_of text)
unfolding lines_of
lines_of-other b text other = rw other refl

lines_of-nil : lines_of [] ≡ []
unfolding lines_of
lines_of-nil = refl

-- the text of the lines of a text
pub text_of-lines : (text : List ℕ) → text_of (lines_of text) ≡ text
text_of-lines [] = ap text_of lines_of-nil
text_of-lines (b ∷ text) =
    let rest : b ∷ text_of (lines_of text) ≡ b ∷ text = ap (λ (t : List ℕ). b ∷ t) (text_of-lines text) in
    elim (cases_Bool (b == line_feed)) [
      | inl feed ↦ ap text_of (lines_of-feed b text feed) ∙ rest
      | inr other ↦ ap text_of (lines_of-other b text other) ∙ text_of-onto_first b (lines_of text) ∙ rest
    ]

-- ---- the first line

-- The first line of a text that has a byte: n bytes, p of which stand before the first line feed.
pub lines_of-first : (text : List ℕ) (p n : ℕ) → p ≡ prefix_len is_no_feed text → (p < length text → n ≡ p + 1) → (length text ≤ p → n ≡ p)
    → 0 < length text → lines_of text ≡ take n text ∷ lines_of (drop n text)
lines_of-first [] p n before within past some = absurd (omega arith)
lines_of-first (b ∷ []) p n before within past some =
    elim (cases_Bool (b == line_feed)) [
      | inl feed ↦
          let none : p ≡ 0 = before ∙ rw feed refl in
          let one : n ≡ suc 0 = within (omega arith) ∙ omega arith in
          rw one (lines_of-feed b [] feed)
      | inr other ↦
          let all : p ≡ suc 0 = before ∙ rw other (omega arith) in
          let one : n ≡ suc 0 = past (omega arith) ∙ all in
          rw one (lines_of-other b [] other ∙ rw lines_of-nil refl)
    ]
lines_of-first (b ∷ c ∷ text) p n before within past some =
    elim (cases_Bool (b == line_feed)) [
      | inl feed ↦
          let none : p ≡ 0 = before ∙ rw feed refl in
          let one : n ≡ suc 0 = within (omega arith) ∙ omega arith in
          rw one (lines_of-feed b (c ∷ text) feed)
      | inr other ↦
          let q = prefix_len is_no_feed (c ∷ text) in
          let more : p ≡ suc q = before ∙ rw other (omega arith) in
          let above : 0 < n = elim (cases_lt p (length (b ∷ c ∷ text))) [ inl less ↦ omega (arith, within less) | inr rest ↦ omega (arith, past rest) ] in
          let next : n ≡ suc (n - 1) = omega arith in
          let rest =
          lines_of-first (c ∷ text) q (n - 1) refl (λ less. omega (arith, within (omega arith))) (λ all. omega (arith, past (omega arith)))
          (omega arith) in
          rw next (lines_of-other b (c ∷ text) other ∙ ap (λ (lines : List (List ℕ)). onto_first b lines) rest)
    ]

-- ---- lines taken one by one

pub lines-step : (kept now : List (Bor (List ℕ))) (line more : Bor (List ℕ)) (rest text : List ℕ) (n : ℕ) → now ≡ kept ++ line ∷ []
    → line.now ≡ take n rest → more.now ≡ drop n rest → lines_of rest ≡ take n rest ∷ lines_of (drop n rest)
    → texts_of kept ++ lines_of rest ≡ lines_of text → texts_of now ++ lines_of more.now ≡ lines_of text
lines-step kept now line more rest text n now_is front back first all =
    let these : texts_of now ≡ texts_of kept ++ line.now ∷ [] =
    ap (λ (slices : List (Bor (List ℕ))). texts_of slices) now_is ∙ map-append (λ (slice : Bor (List ℕ)). slice.now) kept (line ∷ []) in
    ap (λ (lines : List (List ℕ)). lines ++ lines_of more.now) these
    ∙ append_assoc (texts_of kept) (line.now ∷ []) (lines_of more.now)
    ∙ ap (λ (b : List ℕ). texts_of kept ++ b ∷ lines_of more.now) front
    ∙ ap (λ (b : List ℕ). texts_of kept ++ take n rest ∷ lines_of b) back
    ∙ ap (λ (lines : List (List ℕ)). texts_of kept ++ lines) (sym first)
    ∙ all

pub lines-end : (kept : List (Bor (List ℕ))) (rest text : List ℕ) → length rest ≡ 0 → texts_of kept ++ lines_of rest ≡ lines_of text
    → texts_of kept ≡ lines_of text
lines-end kept rest text none all =
    sym (append-nil (texts_of kept))
    ∙ ap (λ (lines : List (List ℕ)). texts_of kept ++ lines) (sym (ap lines_of (nil_from_length rest none) ∙ lines_of-nil))
    ∙ all
