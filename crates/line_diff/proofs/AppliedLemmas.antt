-- The hunks of stretches, applied to the lines of the old text, give those of the new one.
use Rattle.std.proofs.Common.{◌≡◌, ◌∙◌, ℕ, ◌+◌, ◌-◌, ◌==◌, nat_le, true, false, List, [], ◌∷◌, ◌++◌, length, take, drop, inl, inr, refl, ap, sym, arith}
use Rattle.std.specs.Prelude.{Some}
use Rattle.std.proofs.lemmas.Bool.{cases_Bool, le-leb, eq-eqb}
use Rattle.std.proofs.lemmas.List.{append_assoc, drop_at, take_at, drop-drop, length-append}
use Rattle.cs_base.proofs.FileMapLemmas.{bytes_eq-same}
use Rattle.line_diff.specs.Lines.{lines_of}
use Rattle.line_diff.specs.Rows.{olds, news, rows_of, is_near}
use Rattle.line_diff.specs.Hunks.{Hunk, hunk, Stretch, entries_of, old_lines, new_lines, stretches_of, hunks_in, hunks_of}
use Rattle.line_diff.specs.Applied.{begin_with, fits, lines_applied, applied}
use Rattle.line_diff.proofs.LineLemmas.{text_of-lines}
use Rattle.line_diff.proofs.RowLemmas.{olds-rows, news-rows, are_far}
use Rattle.line_diff.proofs.EntryLemmas.{old_lines-entries, new_lines-entries}
use Rattle.line_diff.proofs.StretchLemmas.{olds_in, news_in, AreFaithful, olds-stretches, news-stretches, faithful-stretches}

-- lines begin with their front
begin_with-append : (front rest : List (List ℕ)) → begin_with front (front ++ rest) ≡ true
unfolding begin_with
begin_with-append [] rest = refl
begin_with-append (line ∷ front) rest = rw (bytes_eq-same line) (begin_with-append front rest)

-- ---- one hunk

-- a hunk fits that stands behind a gap, at the lines that it keeps or loses
hunk-fits : (old_at new_at : ℕ) (h : Hunk) (gap rest : List (List ℕ)) → h.old_before ≡ old_at + length gap → h.new_before ≡ new_at + length gap
    → fits old_at new_at h (gap ++ (old_lines h.entries ++ rest)) ≡ true
hunk-fits old_at new_at h gap rest old_is new_is =
    let lines = gap ++ (old_lines h.entries ++ rest) in
    let far : h.old_before - old_at ≡ length gap = omega arith in
    let at : nat_le old_at h.old_before ≡ true = le-leb old_at h.old_before (omega arith) in
    let within : nat_le (length gap) (length lines) ≡ true =
    le-leb (length gap) (length lines) (omega (arith, length-append gap (old_lines h.entries ++ rest))) in
    let there : ((new_at + length gap) == h.new_before) ≡ true = eq-eqb (new_at + length gap) h.new_before (sym new_is) in
    let cut : drop (length gap) lines ≡ old_lines h.entries ++ rest = drop_at gap (old_lines h.entries ++ rest) (length gap) refl in
    rw (at, far, within, there, cut) (begin_with-append (old_lines h.entries) rest)

-- what it makes, once those behind it are made
hunk-applied : (old_at new_at : ℕ) (h : Hunk) (hunks : List Hunk) (gap rest made : List (List ℕ)) → h.old_before ≡ old_at + length gap
    → h.new_before ≡ new_at + length gap
    → lines_applied (h.old_before + length (old_lines h.entries)) (h.new_before + length (new_lines h.entries)) hunks rest ≡ Some made
    → lines_applied old_at new_at (h ∷ hunks) (gap ++ (old_lines h.entries ++ rest)) ≡ Some (gap ++ (new_lines h.entries ++ made))
unfolding lines_applied
hunk-applied old_at new_at h hunks gap rest made old_is new_is behind =
    let there = old_lines h.entries in
    let lines = gap ++ (there ++ rest) in
    let far : h.old_before - old_at ≡ length gap = omega arith in
    let front : take (length gap) lines ≡ gap = take_at gap (there ++ rest) (length gap) refl in
    let back : drop (length gap + length there) lines ≡ rest =
    sym (drop-drop (length there) (length gap) lines)
    ∙ ap (λ (left : List (List ℕ)). drop (length there) left) (drop_at gap (there ++ rest) (length gap) refl) ∙ drop_at there rest (length there) refl in
    rw (hunk-fits old_at new_at h gap rest old_is new_is, far, front, back, behind) refl

-- ---- all hunks

hunks_in-near : (old_before new_before : ℕ) (s : Stretch) (more : List Stretch) → s.near ≡ true
    → hunks_in old_before new_before (s ∷ more)
    ≡ hunk old_before new_before (entries_of [] s.rows) ∷ hunks_in (old_before + length (olds s.rows)) (new_before + length (news s.rows)) more
unfolding hunks_in
hunks_in-near old_before new_before s more near = rw near refl

hunks_in-far : (old_before new_before : ℕ) (s : Stretch) (more : List Stretch) → s.near ≡ false
    → hunks_in old_before new_before (s ∷ more) ≡ hunks_in (old_before + length (olds s.rows)) (new_before + length (news s.rows)) more
unfolding hunks_in
hunks_in-far old_before new_before s more far = rw far refl

pub hunks_in-end : (old_before new_before : ℕ) → hunks_in old_before new_before [] ≡ []
unfolding hunks_in
hunks_in-end old_before new_before = refl

applied-end : (old_at new_at : ℕ) (lines : List (List ℕ)) → lines_applied old_at new_at [] lines ≡ Some lines
unfolding lines_applied
applied-end old_at new_at lines = refl

-- stretches behind a gap, of which no line was taken yet
stretches-applied : (stretches : List Stretch) (old_at new_at old_before new_before : ℕ) (gap : List (List ℕ)) → AreFaithful stretches
    → old_before ≡ old_at + length gap → new_before ≡ new_at + length gap
    → lines_applied old_at new_at (hunks_in old_before new_before stretches) (gap ++ olds_in stretches) ≡ Some (gap ++ news_in stretches)
stretches-applied [] old_at new_at old_before new_before gap faithful old_is new_is =
    rw (hunks_in-end old_before new_before) (applied-end old_at new_at (gap ++ []))
stretches-applied (s ∷ more) old_at new_at old_before new_before gap faithful old_is new_is =
    elim (cases_Bool s.near) [
      | inl near ↦
          let h : Hunk = hunk old_before new_before (entries_of [] s.rows) in
          let there : old_lines h.entries ≡ olds s.rows = old_lines-entries [] s.rows in
          let come : new_lines h.entries ≡ news s.rows = new_lines-entries [] s.rows in
          let behind =
          stretches-applied more (old_before + length (olds s.rows)) (new_before + length (news s.rows))
          (old_before + length (olds s.rows)) (new_before + length (news s.rows)) [] faithful.1 (omega arith) (omega arith) in
          let whole =
          hunk-applied old_at new_at h (hunks_in (old_before + length (olds s.rows)) (new_before + length (news s.rows)) more) gap (olds_in more)
          (news_in more) old_is new_is (rw (there, come) behind) in
          rw (hunks_in-near old_before new_before s more near) (rw (there, come) at whole)
      | inr far ↦
          let same = faithful.0 far in
          let behind =
          stretches-applied more old_at new_at (old_before + length (olds s.rows)) (new_before + length (news s.rows)) (gap ++ olds s.rows)
          faithful.1 (omega (arith, length-append gap (olds s.rows))) (omega (arith, length-append gap (olds s.rows), ap length same)) in
          rw (hunks_in-far old_before new_before s more far)
          (rw (append_assoc gap (olds s.rows) (olds_in more)) at behind
          ∙ ap (λ (lines : List (List ℕ)). Some lines) (append_assoc gap (olds s.rows) (news_in more))
          ∙ ap (λ (lines : List (List ℕ)). Some (gap ++ (lines ++ news_in more))) same)
    ]

-- ---- two texts

pub hunks-applied : (old new : List ℕ) → applied (hunks_of old new) old ≡ Some new
hunks-applied old new =
    let a = lines_of old in
    let b = lines_of new in
    let rows = rows_of a b in
    let stretches = stretches_of (is_near rows) 0 rows in
    let faithful : AreFaithful stretches = faithful-stretches (is_near rows) 0 rows (are_far [] rows) in
    let made : lines_applied 0 0 (hunks_in 0 0 stretches) (olds_in stretches) ≡ Some (news_in stretches) =
    stretches-applied stretches 0 0 0 0 [] faithful refl refl in
    let old_is : olds_in stretches ≡ a = olds-stretches (is_near rows) 0 rows ∙ olds-rows a b in
    let new_is : news_in stretches ≡ b = news-stretches (is_near rows) 0 rows ∙ news-rows a b in
    rw (rw (old_is, new_is) at made) (ap Some (text_of-lines new))
