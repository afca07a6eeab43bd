-- The hunks of rows, stretch by stretch, as text.
use Rattle.std.proofs.Common.{◌≡◌, ◌∙◌, ℕ, ◌+◌, ◌-◌, ◌≤◌, min, Bool, true, false, List, [], ◌∷◌, ◌++◌, length, drop, refl, ap, sym, arith}
use Rattle.std.specs.Prelude.{codes, if◌then◌else◌, slice_range}
use Rattle.std.specs.Borrow.{Bor}
use Rattle.std.specs.List.{flat_map}
use Rattle.std.specs.Str.{bytes_eq}
use Rattle.std.proofs.lemmas.List.{append-nil, append_assoc, drop_all}
use Rattle.line_diff.specs.FileText.{entry_text, hunk_text, range_text, names_text, file_text}
use Rattle.line_diff.specs.Lines.{lines_of}
use Rattle.line_diff.specs.Rows.{is_near, olds, news, rows_of}
use Rattle.line_diff.specs.Hunks.{Hunk, hunk, hunks_of, Stretch, stretch, entries_of, old_lines, new_lines, stretches_of, hunks_in, hunks_of_rows}
use Rattle.line_diff.specs.Pairs.{hunk_at, rows_in, texts_of}
use Rattle.line_diff.proofs.EntryLemmas.{old_lines-entries, new_lines-entries}
use Rattle.line_diff.proofs.PairLemmas.{length-range, length-texts, rows-range}
use Rattle.line_diff.proofs.RowLemmas.{olds-rows, news-rows}
use Rattle.line_diff.proofs.AppliedLemmas.{hunks_in-end as hunks-none}

-- ---- the lines of a range of rows

olds-range : (a b : List (List ℕ)) (k end : ℕ) → olds (slice_range (rows_of a b) k end) ≡ slice_range a k end
olds-range a b k end = ap olds (rows-range a b k end) ∙ olds-rows (slice_range a k end) (slice_range b k end)

news-range : (a b : List (List ℕ)) (k end : ℕ) → news (slice_range (rows_of a b) k end) ≡ slice_range b k end
news-range a b k end = ap news (rows-range a b k end) ∙ news-rows (slice_range a k end) (slice_range b k end)

-- how many lines of each text they have
pub count-olds : (olds_there news_there : List (Bor (List ℕ))) (k end : ℕ) → k ≤ end
    → length (olds (slice_range (rows_in olds_there news_there) k end)) ≡ min end (length olds_there) - min k (length olds_there)
count-olds olds_there news_there k end le =
    let a = texts_of olds_there in
    ap length (olds-range a (texts_of news_there) k end) ∙ length-range a k end le ∙ rw (length-texts olds_there) refl

pub count-news : (olds_there news_there : List (Bor (List ℕ))) (k end : ℕ) → k ≤ end
    → length (news (slice_range (rows_in olds_there news_there) k end)) ≡ min end (length news_there) - min k (length news_there)
count-news olds_there news_there k end le =
    let b = texts_of news_there in
    ap length (news-range (texts_of olds_there) b k end) ∙ length-range b k end le ∙ rw (length-texts news_there) refl

-- ---- one hunk

-- its text: its ranges, and its entries
pub hunk-text : (olds_there news_there : List (Bor (List ℕ))) (k end : ℕ) → k ≤ end
    → hunk_text (hunk_at olds_there news_there k end)
    ≡ (codes "@@ -" ++ range_text (min k (length olds_there)) (min end (length olds_there) - min k (length olds_there))
    ++ codes " +" ++ range_text (min k (length news_there)) (min end (length news_there) - min k (length news_there)) ++ codes " @@\n")
    ++ flat_map entry_text (entries_of [] (slice_range (rows_in olds_there news_there) k end))
hunk-text olds_there news_there k end le =
    let rows = slice_range (rows_in olds_there news_there) k end in
    let old_count : length (old_lines (entries_of [] rows)) ≡ min end (length olds_there) - min k (length olds_there) =
    ap length (old_lines-entries [] rows) ∙ count-olds olds_there news_there k end le in
    let new_count : length (new_lines (entries_of [] rows)) ≡ min end (length news_there) - min k (length news_there) =
    ap length (new_lines-entries [] rows) ∙ count-news olds_there news_there k end le in
    rw (old_count, new_count) refl

-- ---- all hunks

-- the text of the hunks from row k on
abbrev pub text_from : List (Bor (List ℕ)) → List (Bor (List ℕ)) → ℕ → List ℕ
text_from olds_there news_there k =
    flat_map hunk_text
    (hunks_in (min k (length olds_there)) (min k (length news_there))
    (stretches_of (is_near (rows_in olds_there news_there)) k (drop k (rows_in olds_there news_there))))

pub text_from-start : (olds_there news_there : List (Bor (List ℕ)))
    → text_from olds_there news_there 0 ≡ flat_map hunk_text (hunks_of_rows (rows_in olds_there news_there))
text_from-start olds_there news_there =
    let none : (n : ℕ) → min 0 n ≡ 0 = λ n. omega arith in
    rw (none (length olds_there), none (length news_there)) refl

hunks_in-cons : (old_before new_before : ℕ) (s : Stretch) (more : List Stretch)
    → hunks_in old_before new_before (s ∷ more)
    ≡ (if s.near then hunk old_before new_before (entries_of [] s.rows) ∷ [] else [])
    ++ hunks_in (old_before + length (olds s.rows)) (new_before + length (news s.rows)) more
unfolding hunks_in
hunks_in-cons old_before new_before s more = refl

one_text : (near : Bool) (h : Hunk) (rest : List Hunk)
    → flat_map hunk_text ((if near then h ∷ [] else []) ++ rest) ≡ (if near then hunk_text h else []) ++ flat_map hunk_text rest
one_text true h rest = refl
one_text false h rest = refl

-- a stretch, and what follows it
pub text_from-step : (olds_there news_there : List (Bor (List ℕ))) (k end : ℕ) (near : Bool) → k ≤ end
    → (let rows = rows_in olds_there news_there in
    stretches_of (is_near rows) k (drop k rows) ≡ stretch near (slice_range rows k end) ∷ stretches_of (is_near rows) end (drop end rows))
    → text_from olds_there news_there k ≡ (if near then hunk_text (hunk_at olds_there news_there k end) else []) ++ text_from olds_there news_there end
text_from-step olds_there news_there k end near le cut =
    let rows = rows_in olds_there news_there in
    let m = min k (length olds_there) in
    let n = min k (length news_there) in
    let s : Stretch = stretch near (slice_range rows k end) in
    let more = stretches_of (is_near rows) end (drop end rows) in
    let old_next : m + length (olds s.rows) ≡ min end (length olds_there) = omega (arith, count-olds olds_there news_there k end le) in
    let new_next : n + length (news s.rows) ≡ min end (length news_there) = omega (arith, count-news olds_there news_there k end le) in
    ap (λ (stretches : List Stretch). flat_map hunk_text (hunks_in m n stretches)) cut
    ∙ ap (λ (hunks : List Hunk). flat_map hunk_text hunks) (hunks_in-cons m n s more)
    ∙ rw (old_next, new_next) (one_text near (hunk_at olds_there news_there k end) (hunks_in (min end (length olds_there)) (min end (length news_there)) more))

stretches-none : (near : ℕ → Bool) (k : ℕ) → stretches_of near k [] ≡ []
unfolding stretches_of
stretches-none near k = refl

-- behind the last row nothing is left
pub text_from-end : (olds_there news_there : List (Bor (List ℕ))) (k : ℕ) → length (rows_in olds_there news_there) ≤ k → text_from olds_there news_there k ≡ []
text_from-end olds_there news_there k past =
    rw (
      drop_all k (rows_in olds_there news_there) past,
      stretches-none (is_near (rows_in olds_there news_there)) k,
      hunks-none (min k (length olds_there)) (min k (length news_there)),
    ) refl

-- ---- a file

-- its names and its hunks
pub file-text : (path old new before named now : List ℕ) (olds_there news_there : List (Bor (List ℕ))) → bytes_eq old new ≡ false
    → texts_of olds_there ≡ lines_of old → texts_of news_there ≡ lines_of new → named ≡ before ++ names_text path
    → now ≡ named ++ flat_map hunk_text (hunks_of_rows (rows_in olds_there news_there)) → now ≡ before ++ file_text path old new
unfolding file_text
file-text path old new before named now olds_there news_there apart old_lines_are new_lines_are named_is now_is =
    let hunks = flat_map hunk_text (hunks_of old new) in
    let same : flat_map hunk_text (hunks_of_rows (rows_in olds_there news_there)) ≡ hunks =
    ap (λ (lines : List (List ℕ)). flat_map hunk_text (hunks_of_rows (rows_of lines (texts_of news_there)))) old_lines_are
    ∙ ap (λ (lines : List (List ℕ)). flat_map hunk_text (hunks_of_rows (rows_of (lines_of old) lines))) new_lines_are in
    rw apart
    (now_is ∙ ap (λ (text : List ℕ). named ++ text) same ∙ ap (λ (text : List ℕ). text ++ hunks) named_is ∙ append_assoc before (names_text path) hunks)

pub file-same : (path old new before : List ℕ) → bytes_eq old new ≡ true → before ≡ before ++ file_text path old new
unfolding file_text
file-same path old new before same = rw same (sym (append-nil before))
