-- The stretches of rows: together they have the rows, and one that is near no change has the same lines in both texts.
use Rattle.std.proofs.Common.{◌≡◌, ◌∙◌, ℕ, suc, ◌+◌, ◌-◌, ◌<◌, ◌≤◌, Bool, true, false, List, [], ◌∷◌, ◌++◌, length, drop, inl, inr, refl, ap, sym, subst, arith}
use Rattle.std.specs.Prelude.{slice_range}
use Rattle.std.specs.List.{flat_map}
use Rattle.std.proofs.lemmas.Bool.{cases_Bool, cases_lt}
use Rattle.std.proofs.lemmas.List.{append-nil, append_assoc, drop_all, drop-drop, take-append-drop}
use Rattle.line_diff.specs.Rows.{Row, old_of, new_of, olds, news}
use Rattle.line_diff.specs.Hunks.{Stretch, stretch, are_alike, with_row, stretches_of}
use Rattle.line_diff.proofs.PairLemmas.{drop-get, get-there, length-range, range-cons}
use Rattle.line_diff.proofs.RowLemmas.{AreFar, same_line}

-- the lines of stretches
abbrev pub olds_in : List Stretch → List (List ℕ)
olds_in stretches = flat_map (λ (s : Stretch). olds s.rows) stretches

abbrev pub news_in : List Stretch → List (List ℕ)
news_in stretches = flat_map (λ (s : Stretch). news s.rows) stretches

-- each stretch that is near no change has the same lines in both texts
abbrev pub AreFaithful : List Stretch → Type 0
AreFaithful [] = Unit {0}
AreFaithful (s ∷ more) = (s.near ≡ false → olds s.rows ≡ news s.rows) × AreFaithful more

alike-equal : (a b : Bool) → are_alike a b ≡ true → a ≡ b
alike-equal true true alike = refl
alike-equal true false alike = absurd cc
alike-equal false true alike = absurd cc
alike-equal false false alike = refl

-- ---- a row in front

olds-with_row : (near : Bool) (row : Row) (stretches : List Stretch) → olds_in (with_row near row stretches) ≡ old_of row ++ olds_in stretches
olds-with_row near row [] = append-nil (old_of row ++ []) ∙ append-nil (old_of row) ∙ sym (append-nil (old_of row))
olds-with_row near row (s ∷ more) =
    elim (cases_Bool (are_alike near s.near)) [
      | inl alike ↦ rw alike (append_assoc (old_of row) (olds s.rows) (olds_in more))
      | inr apart ↦ rw apart (ap (λ (first : List (List ℕ)). first ++ (olds s.rows ++ olds_in more)) (append-nil (old_of row)))
    ]

news-with_row : (near : Bool) (row : Row) (stretches : List Stretch) → news_in (with_row near row stretches) ≡ new_of row ++ news_in stretches
news-with_row near row [] = append-nil (new_of row ++ []) ∙ append-nil (new_of row) ∙ sym (append-nil (new_of row))
news-with_row near row (s ∷ more) =
    elim (cases_Bool (are_alike near s.near)) [
      | inl alike ↦ rw alike (append_assoc (new_of row) (news s.rows) (news_in more))
      | inr apart ↦ rw apart (ap (λ (first : List (List ℕ)). first ++ (news s.rows ++ news_in more)) (append-nil (new_of row)))
    ]

faithful-with_row : (near : Bool) (row : Row) (stretches : List Stretch) → (near ≡ false → old_of row ≡ new_of row) → AreFaithful stretches
    → AreFaithful (with_row near row stretches)
faithful-with_row near row [] first rest = (λ far. rw (first far) refl, tt)
faithful-with_row near row (s ∷ more) first rest =
    elim (cases_Bool (are_alike near s.near)) [
      | inl alike ↦
          rw alike
          (λ far. rw (first far) (ap (λ (lines : List (List ℕ)). new_of row ++ lines) (rest.0 (sym (alike-equal near s.near alike) ∙ far))), rest.1)
      | inr apart ↦ rw apart (λ far. rw (first far) refl, rest)
    ]

-- ---- all rows

pub olds-stretches : (near : ℕ → Bool) (k : ℕ) (rows : List Row) → olds_in (stretches_of near k rows) ≡ olds rows
unfolding stretches_of
olds-stretches near k [] = refl
olds-stretches near k (row ∷ rows) =
    olds-with_row (near k) row (stretches_of near (k + 1) rows)
    ∙ ap (λ (more : List (List ℕ)). old_of row ++ more) (olds-stretches near (k + 1) rows)

pub news-stretches : (near : ℕ → Bool) (k : ℕ) (rows : List Row) → news_in (stretches_of near k rows) ≡ news rows
unfolding stretches_of
news-stretches near k [] = refl
news-stretches near k (row ∷ rows) =
    news-with_row (near k) row (stretches_of near (k + 1) rows)
    ∙ ap (λ (more : List (List ℕ)). new_of row ++ more) (news-stretches near (k + 1) rows)

pub faithful-stretches : (near : ℕ → Bool) (k : ℕ) (rows : List Row) → AreFar near k rows → AreFaithful (stretches_of near k rows)
unfolding stretches_of
faithful-stretches near k [] far = tt
faithful-stretches near k (row ∷ rows) far =
    faithful-with_row (near k) row (stretches_of near (k + 1) rows) (λ none. same_line row (far.0 none))
    (faithful-stretches near (k + 1) rows far.1)

-- ---- the first stretch

-- the first stretch behind a row in front is near a change exactly where that row is
begins-with_row : (near : Bool) (row : Row) (stretches : List Stretch)
    → (rows : List Row) × ((more : List Stretch) × (with_row near row stretches ≡ stretch near rows ∷ more))
begins-with_row near row [] = (row ∷ [], ([], refl))
begins-with_row near row (s ∷ more) =
    elim (cases_Bool (are_alike near s.near)) [
      | inl alike ↦ (row ∷ s.rows, (more, rw alike refl))
      | inr apart ↦ (row ∷ [], (s ∷ more, rw apart refl))
    ]

alike-same : (b : Bool) → are_alike b b ≡ true
alike-same true = refl
alike-same false = refl

joins : (near : Bool) (row : Row) (rows : List Row) (more : List Stretch) → with_row near row (stretch near rows ∷ more) ≡ stretch near (row ∷ rows) ∷ more
joins near row rows more = rw (alike-same near) refl

stands_apart : (near other : Bool) (row : Row) (rows : List Row) (more : List Stretch) → are_alike near other ≡ false
    → with_row near row (stretch other rows ∷ more) ≡ stretch near (row ∷ []) ∷ stretch other rows ∷ more
stands_apart near other row rows more apart = rw apart refl

-- what follows the rows of the first stretch: nothing, or a row that is near a change where they are not, or is not where they are
abbrev pub EndsThere : (ℕ → Bool) → ℕ → Bool → List Row → Type 0
EndsThere near k is [] = Unit {0}
EndsThere near k is (row ∷ rows) = are_alike is (near k) ≡ false

-- a row by itself is a stretch where the next one does not go on
one-cut : (near : ℕ → Bool) (k : ℕ) (is : Bool) (row : Row) (rest : List Row) → near k ≡ is → EndsThere near (k + 1) is rest
    → stretches_of near k (row ∷ rest) ≡ stretch is (row ∷ []) ∷ stretches_of near (k + 1) rest
unfolding stretches_of
one-cut near k is row [] here ends = rw here refl
one-cut near k is row (next ∷ rest) here ends =
    let first = begins-with_row (near (k + 1)) next (stretches_of near (k + 1 + 1) rest) in
    rw (here, first.1.1) (stands_apart is (near (k + 1)) row first.0 first.1.0 ends)

stretches-cons : (near : ℕ → Bool) (k : ℕ) (row : Row) (rows : List Row)
    → stretches_of near k (row ∷ rows) ≡ with_row (near k) row (stretches_of near (k + 1) rows)
unfolding stretches_of
stretches-cons near k row rows = refl

-- The first stretch: rows from k on that are all near a change, or none of which is, up to where that ends.
pub stretches-cut : (near : ℕ → Bool) (k : ℕ) (is : Bool) (row : Row) (rows rest : List Row)
    → ((j : ℕ) → j < suc (length rows) → near (k + j) ≡ is) → EndsThere near (k + suc (length rows)) is rest
    → stretches_of near k ((row ∷ rows) ++ rest) ≡ stretch is (row ∷ rows) ∷ stretches_of near (k + suc (length rows)) rest
stretches-cut near k is row [] rest all ends =
    let here : near k ≡ is = ap near (let e : k ≡ k + 0 = omega arith in e) ∙ all 0 (omega arith) in
    let next : k + suc 0 ≡ k + 1 = omega arith in
    rw next (one-cut near k is row rest here (rw next at ends))
stretches-cut near k is row (second ∷ rows) rest all ends =
    let here : near k ≡ is = ap near (let e : k ≡ k + 0 = omega arith in e) ∙ all 0 (omega arith) in
    let next : k + suc (suc (length rows)) ≡ k + 1 + suc (length rows) = omega arith in
    let more =
    stretches-cut near (k + 1) is second rows rest
    (λ j within. ap near (let e : k + 1 + j ≡ k + suc j = omega arith in e) ∙ all (suc j) (omega arith)) (rw next at ends) in
    stretches-cons near k row ((second ∷ rows) ++ rest)
    ∙ rw (here, more, next) (joins is row (second ∷ rows) (stretches_of near (k + 1 + suc (length rows)) rest))

ends-there : (near : ℕ → Bool) (end : ℕ) (is : Bool) (rows : List Row) → (end < length rows → are_alike is (near end) ≡ false) → end ≤ length rows
    → EndsThere near end is (drop end rows)
ends-there near end is rows stops within =
    elim (cases_lt end (length rows)) [
      | inl less ↦
          let there = get-there rows end less in
          let P : List Row → Type 0 = λ rest. EndsThere near end is rest in
          subst P (sym (drop-get rows end there.0 there.1)) (stops less)
      | inr past ↦ let P : List Row → Type 0 = λ rest. EndsThere near end is rest in subst P (sym (drop_all end rows past)) tt
    ]

-- The first stretch from row k on, by numbers.
pub stretch-at : (near : ℕ → Bool) (k end : ℕ) (is : Bool) (rows : List Row) → k < end → end ≤ length rows
    → ((j : ℕ) → k ≤ j → j < end → near j ≡ is) → (end < length rows → are_alike is (near end) ≡ false)
    → stretches_of near k (drop k rows) ≡ stretch is (slice_range rows k end) ∷ stretches_of near end (drop end rows)
stretch-at near k end is rows some within all stops =
    let there = get-there rows k (omega arith) in
    let row = there.0 in
    let more = slice_range rows (k + 1) end in
    let rest = drop end rows in
    let count : length more ≡ end - (k + 1) =
    length-range rows (k + 1) end (omega arith) ∙ omega arith in
    let next : k + suc (length more) ≡ end = omega arith in
    let range : slice_range rows k end ≡ row ∷ more = range-cons rows k end row there.1 some in
    let at : k + (end - k) ≡ end = omega arith in
    let whole : drop k rows ≡ (row ∷ more) ++ rest =
    sym (take-append-drop (end - k) (drop k rows))
    ∙ ap (λ (front : List Row). front ++ drop (end - k) (drop k rows)) range
    ∙ ap (λ (back : List Row). (row ∷ more) ++ back) (drop-drop (end - k) k rows ∙ ap (λ (n : ℕ). drop n rows) at) in
    let cut =
    stretches-cut near k is row more rest (λ j less. all (k + j) (omega arith) (omega arith))
    (rw next (ends-there near end is rows stops within)) in
    ap (λ (part : List Row). stretches_of near k part) whole ∙ rw next at cut
    ∙ ap (λ (part : List Row). stretch is part ∷ stretches_of near end rest) (sym range)

-- one that is near a change as well, or is not as well
pub alike-is : (a b : Bool) → are_alike a b ≡ true → b ≡ a
alike-is a b alike = sym (alike-equal a b alike)
