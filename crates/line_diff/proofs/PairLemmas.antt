-- Rows by their numbers, and parts of rows.
use Rattle.std.proofs.Common.{◌≡◌, ◌∙◌, ℕ, zero, suc, ◌+◌, ◌-◌, ◌<◌, ◌≤◌, min, Bool, false, not, ◌||◌, List, [], ◌∷◌, ◌++◌, length, map, take, drop, get_or, inl, inr, refl, ap, sym, arith}
use Rattle.std.specs.Prelude.{Option, None, Some, slice_get, slice_range}
use Rattle.std.specs.Borrow.{Bor}
use Rattle.std.specs.List.{list_any, range_with_len}
use Rattle.std.specs.Option.{option_map, option_map_or}
use Rattle.std.specs.Str.{bytes_eq}
use Rattle.std.proofs.lemmas.Bool.{cases_Bool, cases_lt}
use Rattle.std.proofs.lemmas.Option.{slice_get_read}
use Rattle.std.proofs.lemmas.List.{drop-map, drop_all, length-drop, length-map, length-take, take-map, take_all, take_rest}
use Rattle.cs_base.proofs.ListLemmas.{at_drop as get-drop}
use Rattle.line_diff.specs.Rows.{Row, goes, comes, row_of, rows_of, is_changed, is_near}
use Rattle.line_diff.specs.Pairs.{texts_of, rows_in, is_changed_at}

-- ---- lists by numbers

pub get-map : {X Y : Type 0} (f : X → Y) (xs : List X) (k : ℕ) → slice_get (map f xs) k ≡ option_map f (slice_get xs k)
get-map f [] k = refl
get-map f (x ∷ xs) zero = refl
get-map f (x ∷ xs) (suc k) = get-map f xs k

pub get-within : {X : Type 0} (xs : List X) (k : ℕ) (x : X) → slice_get xs k ≡ Some x → k < length xs
get-within [] k x here = absurd cc
get-within (y ∷ xs) zero x here = omega arith
get-within (y ∷ xs) (suc k) x here = let less = get-within xs k x here in omega arith

pub get-read : {X : Type 0} (xs : List X) (k : ℕ) (x d : X) → slice_get xs k ≡ Some x → get_or xs k d ≡ x
get-read [] k x d here = absurd cc
get-read (y ∷ xs) zero x d here = cc
get-read (y ∷ xs) (suc k) x d here = get-read xs k x d here

pub get-there : {X : Type 0} (xs : List X) (k : ℕ) → k < length xs → (x : X) × (slice_get xs k ≡ Some x)
get-there [] k within = absurd (omega arith)
get-there (x ∷ xs) zero within = (x, refl)
get-there (x ∷ xs) (suc k) within = get-there xs k (omega arith)

-- an element and those behind it
pub drop-get : {X : Type 0} (xs : List X) (k : ℕ) (x : X) → slice_get xs k ≡ Some x → drop k xs ≡ x ∷ drop (k + 1) xs
drop-get [] k x here = absurd cc
drop-get (y ∷ xs) zero x here = let same : y ≡ x = cc in ap (λ z. z ∷ xs) same
drop-get (y ∷ xs) (suc k) x here = let one : suc k + 1 ≡ suc (k + 1) = omega arith in rw one (drop-get xs k x here)

pub range-cons : {X : Type 0} (xs : List X) (j end : ℕ) (x : X) → slice_get xs j ≡ Some x → j < end
    → slice_range xs j end ≡ x ∷ slice_range xs (j + 1) end
range-cons xs j end x here less =
    let more : end - j ≡ suc (end - (j + 1)) = omega arith in
    rw (more, drop-get xs j x here) refl

take-more : {X : Type 0} (xs : List X) (n : ℕ) (x : X) → slice_get xs n ≡ Some x → take (n + 1) xs ≡ take n xs ++ x ∷ []
take-more [] n x here = absurd cc
take-more (y ∷ xs) zero x here = let same : y ≡ x = cc in ap (λ z. z ∷ []) same
take-more (y ∷ xs) (suc n) x here = let one : suc n + 1 ≡ suc (n + 1) = omega arith in rw one (ap (λ (l : List _). y ∷ l) (take-more xs n x here))

take-past : {X : Type 0} (xs : List X) (n : ℕ) → slice_get xs n ≡ None → take (n + 1) xs ≡ take n xs
take-past [] zero none = refl
take-past [] (suc n) none = let one : suc n + 1 ≡ suc (n + 1) = omega arith in rw one refl
take-past (y ∷ xs) zero none = absurd cc
take-past (y ∷ xs) (suc n) none = let one : suc n + 1 ≡ suc (n + 1) = omega arith in rw one (ap (λ (l : List _). y ∷ l) (take-past xs n none))

-- a range with one element more
pub range-more : {X : Type 0} (xs : List X) (from j : ℕ) (x : X) → from ≤ j → slice_get xs j ≡ Some x
    → slice_range xs from (j + 1) ≡ slice_range xs from j ++ x ∷ []
range-more xs from j x le here =
    let one : j + 1 - from ≡ j - from + 1 = omega arith in
    let at : from + (j - from) ≡ j = omega arith in
    rw one (take-more (drop from xs) (j - from) x (get-drop xs from (j - from) ∙ rw at here))

pub range-past : {X : Type 0} (xs : List X) (from j : ℕ) → from ≤ j → slice_get xs j ≡ None → slice_range xs from (j + 1) ≡ slice_range xs from j
range-past xs from j le none =
    let one : j + 1 - from ≡ j - from + 1 = omega arith in
    let at : from + (j - from) ≡ j = omega arith in
    rw one (take-past (drop from xs) (j - from) (get-drop xs from (j - from) ∙ rw at none))

pub range-none : {X : Type 0} (xs : List X) (j : ℕ) → slice_range xs j j ≡ []
range-none xs j = let none : j - j ≡ 0 = omega arith in rw none refl

-- ---- rows by numbers

-- the row of what stands in it
abbrev pub row_with : Option (List ℕ) → Option (List ℕ) → Option Row
row_with (Some old) (Some new) = Some (row_of old new)
row_with (Some old) None = Some (goes old)
row_with None (Some new) = Some (comes new)
row_with None None = None

get-comes : (lines : List (List ℕ)) (k : ℕ) → slice_get (map comes lines) k ≡ row_with None (slice_get lines k)
get-comes [] k = refl
get-comes (line ∷ lines) zero = refl
get-comes (line ∷ lines) (suc k) = get-comes lines k

get-goes : (lines : List (List ℕ)) (k : ℕ) → slice_get (map goes lines) k ≡ row_with (slice_get lines k) None
get-goes [] k = refl
get-goes (line ∷ lines) zero = refl
get-goes (line ∷ lines) (suc k) = get-goes lines k

pub get-rows : (a b : List (List ℕ)) (k : ℕ) → slice_get (rows_of a b) k ≡ row_with (slice_get a k) (slice_get b k)
unfolding rows_of
get-rows [] b k = get-comes b k
get-rows (x ∷ a) [] k = get-goes (x ∷ a) k
get-rows (x ∷ a) (y ∷ b) zero = refl
get-rows (x ∷ a) (y ∷ b) (suc k) = get-rows a b k

-- so many rows as the longer text has lines
pub length-rows-less : (a b : List (List ℕ)) → length a < length b → length (rows_of a b) ≡ length b
unfolding rows_of
length-rows-less [] b less = length-map b comes
length-rows-less (x ∷ a) [] less = absurd (omega arith)
length-rows-less (x ∷ a) (y ∷ b) less = let rest = length-rows-less a b (omega arith) in omega arith

pub length-rows-more : (a b : List (List ℕ)) → length b ≤ length a → length (rows_of a b) ≡ length a
unfolding rows_of
length-rows-more [] [] more = refl
length-rows-more [] (y ∷ b) more = absurd (omega arith)
length-rows-more (x ∷ a) [] more = length-map (x ∷ a) goes
length-rows-more (x ∷ a) (y ∷ b) more = let rest = length-rows-more a b (omega arith) in omega arith

-- ---- parts of rows

-- lines against nothing
rows-goes : (lines : List (List ℕ)) → rows_of lines [] ≡ map goes lines
unfolding rows_of
rows-goes [] = refl
rows-goes (line ∷ lines) = refl

rows-drop : (a b : List (List ℕ)) (k : ℕ) → drop k (rows_of a b) ≡ rows_of (drop k a) (drop k b)
unfolding rows_of
rows-drop a b zero = refl
rows-drop [] b (suc k) = drop-map comes (suc k) b
rows-drop (x ∷ a) [] (suc k) = drop-map goes k a ∙ sym (rows-goes (drop k a))
rows-drop (x ∷ a) (y ∷ b) (suc k) = rows-drop a b k

rows-take : (a b : List (List ℕ)) (k : ℕ) → take k (rows_of a b) ≡ rows_of (take k a) (take k b)
unfolding rows_of
rows-take a b zero = refl
rows-take [] b (suc k) = take-map comes (suc k) b
rows-take (x ∷ a) [] (suc k) = take-map goes (suc k) (x ∷ a)
rows-take (x ∷ a) (y ∷ b) (suc k) = ap (λ (rows : List Row). row_of x y ∷ rows) (rows-take a b k)

-- a range of rows is the rows of ranges
pub rows-range : (a b : List (List ℕ)) (k end : ℕ) → slice_range (rows_of a b) k end ≡ rows_of (slice_range a k end) (slice_range b k end)
rows-range a b k end = ap (λ (rows : List Row). take (end - k) rows) (rows-drop a b k) ∙ rows-take (drop k a) (drop k b) (end - k)

-- how many elements a range has
pub length-range : {X : Type 0} (xs : List X) (k end : ℕ) → k ≤ end → length (slice_range xs k end) ≡ min end (length xs) - min k (length xs)
length-range xs k end le = omega (arith, length-take (end - k) (drop k xs), length-drop k xs)

-- ---- slices

-- what a slice of lines has at a number
pub texts-get : (slices : List (Bor (List ℕ))) (k : ℕ) (line : Bor (List ℕ)) → k < length slices → line ≡ get_or slices k line
    → slice_get (texts_of slices) k ≡ Some line.now
texts-get slices k line within is =
    get-map (λ (slice : Bor (List ℕ)). slice.now) slices k
    ∙ ap (λ (o : Option (Bor (List ℕ))). option_map (λ (slice : Bor (List ℕ)). slice.now) o) (slice_get_read slices (length slices) k line refl within is)

pub texts-none : (slices : List (Bor (List ℕ))) (k : ℕ) → length slices ≤ k → slice_get (texts_of slices) k ≡ None
texts-none [] k past = refl
texts-none (slice ∷ slices) zero past = absurd (omega arith)
texts-none (slice ∷ slices) (suc k) past = texts-none slices k (omega arith)

pub length-texts : (slices : List (Bor (List ℕ))) → length (texts_of slices) ≡ length slices
length-texts slices = length-map slices (λ (slice : Bor (List ℕ)). slice.now)

-- whether the texts differ in a row, by what stands in it
pub changed-at : (olds news : List (Bor (List ℕ))) (k : ℕ) (o n : Option (List ℕ)) → slice_get (texts_of olds) k ≡ o → slice_get (texts_of news) k ≡ n
    → is_changed_at (rows_in olds news) k ≡ option_map_or is_changed (row_with o n) false
changed-at olds news k o n old_is new_is =
    ap (λ (row : Option Row). option_map_or is_changed row false) (get-rows (texts_of olds) (texts_of news) k ∙ rw (old_is, new_is) refl)

pub changed-both : (old new : List ℕ) → is_changed (row_of old new) ≡ not (bytes_eq old new)
changed-both old new = elim (cases_Bool (bytes_eq old new)) [ inl same ↦ rw same refl | inr apart ↦ rw apart refl ]

-- ---- near a change

get-past : {X : Type 0} (xs : List X) (k : ℕ) → length xs ≤ k → slice_get xs k ≡ None
get-past [] k past = refl
get-past (x ∷ xs) zero past = absurd (omega arith)
get-past (x ∷ xs) (suc k) past = get-past xs k (omega arith)

any-none : (rows : List Row) (from n : ℕ) → length rows ≤ from → list_any (is_changed_at rows) (range_with_len from n) ≡ false
any-none rows from zero past = refl
any-none rows from (suc n) past = rw (get-past rows from past) (any-none rows (from + 1) n (omega arith))

-- rows by their numbers, and as a list
any-range : (rows : List Row) (from n : ℕ) → list_any (is_changed_at rows) (range_with_len from n) ≡ list_any is_changed (take n (drop from rows))
any-range rows from zero = refl
any-range rows from (suc n) =
    elim (cases_lt from (length rows)) [
      | inl within ↦
          let there = get-there rows from within in
          rw (there.1, drop-get rows from there.0 there.1) (ap (λ (more : Bool). is_changed there.0 || more) (any-range rows (from + 1) n))
      | inr past ↦ rw (drop_all from rows past) (any-none rows from (suc n) past)
    ]

-- near a change, where all rows around are there
pub near-within : (rows : List Row) (k from : ℕ) → from ≡ k - 3
    → list_any (is_changed_at rows) (range_with_len from (k + 3 + 1 - from)) ≡ is_near rows k
near-within rows k from is = rw is (any-range rows (k - 3) (k + 3 + 1 - (k - 3)))

-- and where they end before
pub near-end : (rows : List Row) (k from : ℕ) → from ≡ k - 3 → k < length rows → length rows - k ≤ 3
    → list_any (is_changed_at rows) (range_with_len from (length rows - from)) ≡ is_near rows k
near-end rows k from is within few =
    let whole : take (length rows - from) (drop from rows) ≡ drop from rows = take_rest rows from in
    let all : take (k + 3 + 1 - from) (drop from rows) ≡ drop from rows = take_all (k + 3 + 1 - from) (drop from rows) (omega (arith, length-drop from rows)) in
    any-range rows from (length rows - from) ∙ ap (λ (part : List Row). list_any is_changed part) (whole ∙ sym all) ∙ rw is refl
