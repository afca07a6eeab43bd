-- The entries of rows, row by row.
use Rattle.std.proofs.Common.{◌⊎◌, ◌≡◌, ◌∙◌, ℕ, ◌+◌, ◌<◌, ◌≤◌, true, false, List, [], ◌∷◌, ◌++◌, length, map, inl, inr, refl, ap, sym, subst, arith}
use Rattle.std.specs.Prelude.{codes, Option, None, Some, slice_get, slice_range}
use Rattle.std.specs.Borrow.{Bor}
use Rattle.std.specs.List.{flat_map}
use Rattle.std.specs.Option.{option_map, option_map_or}
use Rattle.std.specs.Str.{bytes_eq}
use Rattle.std.proofs.lemmas.Bool.{cases_Bool}
use Rattle.std.proofs.lemmas.List.{append-nil, append_assoc, map-append}
use Rattle.line_diff.specs.Rows.{Row, stays, changes, goes, comes, row_of, rows_of, is_changed}
use Rattle.line_diff.specs.Hunks.{Entry, keeps, loses, gets, entries_of}
use Rattle.line_diff.specs.Pairs.{texts_of, rows_in, is_changed_at, kept_at, loss_at, gain_at, entries_text, IsRowTold}
use Rattle.line_diff.specs.FileText.{entry_text, signed}
use Rattle.line_diff.proofs.EntryLemmas.{flat_map-append}
use Rattle.line_diff.proofs.PairLemmas.{get-map, get-there, range-cons, range-more, range-past, range-none, get-rows, row_with}

-- ---- one row, by what stands in it

abbrev lost : Option (List ℕ) → List Entry
lost o = option_map_or (λ (line : List ℕ). loses line ∷ []) o []

abbrev come : Option (List ℕ) → List (List ℕ)
come o = option_map_or (λ (line : List ℕ). line ∷ []) o []

-- a line beside a line is one row of two
row_is : (old new : List ℕ) → ((bytes_eq old new ≡ true) × (row_of old new ≡ stays old)) ⊎ ((bytes_eq old new ≡ false) × (row_of old new ≡ changes old new))
row_is old new = elim (cases_Bool (bytes_eq old new)) [ inl same ↦ inl (same, rw same refl) | inr apart ↦ inr (apart, rw apart refl) ]

-- the entries from a row on in which the texts differ
entries-changed : (o n : Option (List ℕ)) (got : List (List ℕ)) (row : Row) (rows : List Row) → row_with o n ≡ Some row → is_changed row ≡ true
    → entries_of got (row ∷ rows) ≡ lost o ++ entries_of (got ++ come n) rows
unfolding entries_of
entries-changed (Some old) (Some new) got row rows is differs =
    let P : Row → Type 0 = λ r. entries_of got (r ∷ rows) ≡ lost (Some old) ++ entries_of (got ++ come (Some new)) rows in
    elim (row_is old new) [
      | inl same ↦ let alike : stays old ≡ row = cc in absurd (let no_change : false ≡ true = ap is_changed alike ∙ differs in cc)
      | inr apart ↦ subst P (let this : changes old new ≡ row = cc in this) refl
    ]
entries-changed (Some old) None got row rows is differs =
    let P : Row → Type 0 = λ r. entries_of got (r ∷ rows) ≡ lost (Some old) ++ entries_of (got ++ come None) rows in
    subst P (let this : goes old ≡ row = cc in this) (ap (λ (more : List (List ℕ)). loses old ∷ entries_of more rows) (sym (append-nil got)))
entries-changed None (Some new) got row rows is differs =
    let P : Row → Type 0 = λ r. entries_of got (r ∷ rows) ≡ lost None ++ entries_of (got ++ come (Some new)) rows in
    subst P (let this : comes new ≡ row = cc in this) refl
entries-changed None None got row rows is differs = absurd cc

-- a row in which the texts are alike has one line
stays_there : (o n : Option (List ℕ)) (row : Row) → row_with o n ≡ Some row → is_changed row ≡ false → (line : List ℕ) × ((o ≡ Some line) × (row ≡ stays line))
stays_there (Some old) (Some new) row is alike =
    elim (row_is old new) [
      | inl same ↦ (old, (refl, let this : row ≡ stays old = cc in this))
      | inr apart ↦ let other : changes old new ≡ row = cc in absurd (let change : true ≡ false = ap is_changed other ∙ alike in cc)
    ]
stays_there (Some old) None row is alike = let other : goes old ≡ row = cc in absurd (let change : true ≡ false = ap is_changed other ∙ alike in cc)
stays_there None (Some new) row is alike = let other : comes new ≡ row = cc in absurd (let change : true ≡ false = ap is_changed other ∙ alike in cc)
stays_there None None row is alike = absurd cc

entries-alike : (got : List (List ℕ)) (line : List ℕ) (rows : List Row)
    → entries_of got (stays line ∷ rows) ≡ map gets got ++ keeps line ∷ entries_of [] rows
unfolding entries_of
entries-alike got line rows = refl

-- ---- rows as they are told

-- the lines of the new text that are told with one row more
come-range : (b : List (List ℕ)) (told j : ℕ) (n : Option (List ℕ)) → told ≤ j → slice_get b j ≡ n
    → slice_range b told (j + 1) ≡ slice_range b told j ++ come n
come-range b told j None le here = range-past b told j le here ∙ sym (append-nil (slice_range b told j))
come-range b told j (Some line) le here = range-more b told j line le here

lost-map : (o : Option (Bor (List ℕ))) → lost (option_map (λ (line : Bor (List ℕ)). line.now) o) ≡ option_map_or (λ (line : Bor (List ℕ)). loses line.now ∷ []) o []
lost-map None = refl
lost-map (Some line) = refl

-- the same line is lost
loss-same : (olds : List (Bor (List ℕ))) (j : ℕ) → lost (slice_get (texts_of olds) j) ≡ loss_at olds j
loss-same olds j = rw (get-map (λ (line : Bor (List ℕ)). line.now) olds j) (lost-map (slice_get olds j))

-- a row in which the texts differ, told
pub tell-changed : (olds news : List (Bor (List ℕ))) (told j end : ℕ) → told ≤ j → j < end → j < length (rows_in olds news)
    → is_changed_at (rows_in olds news) j ≡ true
    → entries_of (slice_range (texts_of news) told j) (slice_range (rows_in olds news) j end)
    ≡ loss_at olds j ++ entries_of (slice_range (texts_of news) told (j + 1)) (slice_range (rows_in olds news) (j + 1) end)
tell-changed olds news told j end le less within differs =
    let a = texts_of olds in
    let b = texts_of news in
    let rows = rows_of a b in
    let there = get-there rows j within in
    let row = there.0 in
    let with : row_with (slice_get a j) (slice_get b j) ≡ Some row = sym (get-rows a b j) ∙ there.1 in
    let changed : is_changed row ≡ true = rw there.1 at differs in
    let step = entries-changed (slice_get a j) (slice_get b j) (slice_range b told j) row (slice_range rows (j + 1) end) with changed in
    let same : lost (slice_get a j) ≡ loss_at olds j = loss-same olds j in
    rw (range-cons rows j end row there.1 less, come-range b told j (slice_get b j) le refl, ← same) step

-- the slice of a line
some-map : (o : Option (Bor (List ℕ))) (line : List ℕ) → option_map (λ (l : Bor (List ℕ)). l.now) o ≡ Some line
    → (slice : Bor (List ℕ)) × ((o ≡ Some slice) × (line ≡ slice.now))
some-map None line is = absurd cc
some-map (Some slice) line is = (slice, (refl, cc))

slice-of : (olds : List (Bor (List ℕ))) (j : ℕ) (line : List ℕ) → slice_get (texts_of olds) j ≡ Some line
    → (slice : Bor (List ℕ)) × ((slice_get olds j ≡ Some slice) × (line ≡ slice.now))
slice-of olds j line here = some-map (slice_get olds j) line (sym (get-map (λ (l : Bor (List ℕ)). l.now) olds j) ∙ here)

-- a row in which they are alike has a line
pub alike-line : (olds news : List (Bor (List ℕ))) (j : ℕ) → j < length (rows_in olds news) → is_changed_at (rows_in olds news) j ≡ false
    → (line : Bor (List ℕ)) × ((slice_get olds j ≡ Some line) × (slice_get (rows_in olds news) j ≡ Some (stays line.now)))
alike-line olds news j within alike =
    let a = texts_of olds in
    let b = texts_of news in
    let rows = rows_of a b in
    let there = get-there rows j within in
    let row = there.0 in
    let with : row_with (slice_get a j) (slice_get b j) ≡ Some row = sym (get-rows a b j) ∙ there.1 in
    let same : is_changed row ≡ false = rw there.1 at alike in
    let stays_so = stays_there (slice_get a j) (slice_get b j) row with same in
    let old = slice-of olds j stays_so.0 stays_so.1.0 in
    let here : slice_get rows j ≡ Some (stays old.0.now) =
    there.1 ∙ ap (λ (r : Row). Some r) stays_so.1.1 ∙ ap (λ (line : List ℕ). Some (stays line)) old.1.1 in
    (old.0, (old.1.0, here))

-- and is told so
tell-alike : (olds news : List (Bor (List ℕ))) (told j end : ℕ) (line : List ℕ) → j < end → slice_get (rows_in olds news) j ≡ Some (stays line)
    → entries_of (slice_range (texts_of news) told j) (slice_range (rows_in olds news) j end)
    ≡ map gets (slice_range (texts_of news) told j)
    ++ keeps line ∷ entries_of (slice_range (texts_of news) (j + 1) (j + 1)) (slice_range (rows_in olds news) (j + 1) end)
tell-alike olds news told j end line less here =
    let rows = rows_in olds news in
    let b = texts_of news in
    rw (range-cons rows j end (stays line) here less, range-none b (j + 1))
    (entries-alike (slice_range b told j) line (slice_range rows (j + 1) end))

-- ---- rows as text

-- a row in which the texts differ, once the old line is told
pub row-changed : (olds news : List (Bor (List ℕ))) (told j : ℕ) (before now : List ℕ) → told ≤ j → j < length (rows_in olds news)
    → is_changed_at (rows_in olds news) j ≡ true → now ≡ before ++ flat_map entry_text (loss_at olds j) → IsRowTold olds news told j told before now
row-changed olds news told j before now le within differs is = record {
  within = omega arith;
  left = λ end less.
      let told_now = ap (λ (entries : List Entry). flat_map entry_text entries) (tell-changed olds news told j end le less within differs)
      ∙ flat_map-append entry_text (loss_at olds j) (entries_of (slice_range (texts_of news) told (j + 1)) (slice_range (rows_in olds news) (j + 1) end)) in
      ap (λ (text : List ℕ). text ++ entries_text olds news told (j + 1) end) is
      ∙ append_assoc before (flat_map entry_text (loss_at olds j)) (entries_text olds news told (j + 1) end)
      ∙ ap (λ (text : List ℕ). before ++ text) (sym told_now);
}

-- the kept line of a row
kept-text : (olds : List (Bor (List ℕ))) (j : ℕ) (line : Bor (List ℕ)) → slice_get olds j ≡ Some line
    → flat_map entry_text (kept_at olds j) ≡ signed (codes " ") line.now
kept-text olds j line here =
    ap (λ (o : Option (Bor (List ℕ))). flat_map entry_text (option_map_or (λ (l : Bor (List ℕ)). keeps l.now ∷ []) o [])) here
    ∙ append-nil (signed (codes " ") line.now)

-- a row in which they are alike, once the lines before it and its own are told
pub row-alike : (olds news : List (Bor (List ℕ))) (told j : ℕ) (line : Bor (List ℕ)) (before mid now : List ℕ) → slice_get olds j ≡ Some line
    → slice_get (rows_in olds news) j ≡ Some (stays line.now)
    → mid ≡ before ++ flat_map entry_text (map gets (slice_range (texts_of news) told j)) → now ≡ mid ++ flat_map entry_text (kept_at olds j)
    → IsRowTold olds news told j (j + 1) before now
row-alike olds news told j line before mid now there here mid_is now_is = record {
  within = omega arith;
  left = λ end less.
      let got = map gets (slice_range (texts_of news) told j) in
      let kept = signed (codes " ") line.now in
      let rest = entries_of (slice_range (texts_of news) (j + 1) (j + 1)) (slice_range (rows_in olds news) (j + 1) end) in
      let told_now = ap (λ (entries : List Entry). flat_map entry_text entries) (tell-alike olds news told j end line.now less here)
      ∙ flat_map-append entry_text got (keeps line.now ∷ rest) in
      let all : now ≡ (before ++ flat_map entry_text got) ++ kept =
      now_is ∙ ap (λ (text : List ℕ). mid ++ text) (kept-text olds j line there) ∙ ap (λ (text : List ℕ). text ++ kept) mid_is in
      ap (λ (text : List ℕ). text ++ flat_map entry_text rest) all
      ∙ append_assoc (before ++ flat_map entry_text got) kept (flat_map entry_text rest)
      ∙ append_assoc before (flat_map entry_text got) (kept ++ flat_map entry_text rest)
      ∙ ap (λ (text : List ℕ). before ++ text) (sym told_now);
}

entries-none : (got : List (List ℕ)) → entries_of got [] ≡ map gets got
unfolding entries_of
entries-none got = refl

-- before the first row, and behind the last one
pub entries-start : (olds news : List (Bor (List ℕ))) (k end : ℕ)
    → entries_text olds news k k end ≡ flat_map entry_text (entries_of [] (slice_range (rows_in olds news) k end))
entries-start olds news k end =
    ap (λ (got : List (List ℕ)). flat_map entry_text (entries_of got (slice_range (rows_in olds news) k end))) (range-none (texts_of news) k)

pub entries-end : (olds news : List (Bor (List ℕ))) (told end : ℕ)
    → entries_text olds news told end end ≡ flat_map entry_text (map gets (slice_range (texts_of news) told end))
entries-end olds news told end =
    ap (λ (rows : List Row). flat_map entry_text (entries_of (slice_range (texts_of news) told end) rows)) (range-none (rows_in olds news) end)
    ∙ ap (λ (entries : List Entry). flat_map entry_text entries) (entries-none (slice_range (texts_of news) told end))

-- ---- lines of the new text

gain-map : (o : Option (Bor (List ℕ)))
    → map gets (come (option_map (λ (line : Bor (List ℕ)). line.now) o)) ≡ option_map_or (λ (line : Bor (List ℕ)). gets line.now ∷ []) o []
gain-map None = refl
gain-map (Some line) = refl

pub gains-more : (news : List (Bor (List ℕ))) (from j : ℕ) → from ≤ j
    → flat_map entry_text (map gets (slice_range (texts_of news) from (j + 1)))
    ≡ flat_map entry_text (map gets (slice_range (texts_of news) from j)) ++ flat_map entry_text (gain_at news j)
gains-more news from j le =
    let b = texts_of news in
    let same : map gets (come (slice_get b j)) ≡ gain_at news j =
    ap (λ (o : Option (List ℕ)). map gets (come o)) (get-map (λ (line : Bor (List ℕ)). line.now) news j) ∙ gain-map (slice_get news j) in
    ap (λ (lines : List (List ℕ)). flat_map entry_text (map gets lines)) (come-range b from j (slice_get b j) le refl)
    ∙ ap (λ (entries : List Entry). flat_map entry_text entries) (map-append gets (slice_range b from j) (come (slice_get b j)))
    ∙ flat_map-append entry_text (map gets (slice_range b from j)) (map gets (come (slice_get b j)))
    ∙ ap (λ (entries : List Entry). flat_map entry_text (map gets (slice_range b from j)) ++ flat_map entry_text entries) same

pub gains-none : (news : List (Bor (List ℕ))) (from : ℕ) → flat_map entry_text (map gets (slice_range (texts_of news) from from)) ≡ []
gains-none news from = ap (λ (lines : List (List ℕ)). flat_map entry_text (map gets lines)) (range-none (texts_of news) from)
