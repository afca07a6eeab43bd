-- The rows of two texts have their lines, and those that are near no change have the same in both.
use Rattle.std.proofs.Common.{◌≡◌, ℕ, zero, suc, ◌+◌, ◌-◌, ◌<◌, Bool, true, false, ◌||◌, List, [], ◌∷◌, ◌++◌, length, map, take, drop, inl, inr, refl, ap, arith}
use Rattle.std.specs.List.{list_any}
use Rattle.std.specs.Str.{bytes_eq}
use Rattle.std.proofs.lemmas.Bool.{cases_Bool}
use Rattle.std.proofs.lemmas.List.{append_assoc, drop-append-le, length-drop, length_push}
use Rattle.cs_base.proofs.FileMapLemmas.{bytes_eq-equal}
use Rattle.line_diff.specs.Rows.{Row, stays, changes, goes, comes, row_of, rows_of, old_of, new_of, olds, news, is_changed, is_near}

-- ---- the lines of rows

olds-comes : (lines : List (List ℕ)) → olds (map comes lines) ≡ []
olds-comes [] = refl
olds-comes (line ∷ lines) = olds-comes lines

news-comes : (lines : List (List ℕ)) → news (map comes lines) ≡ lines
news-comes [] = refl
news-comes (line ∷ lines) = ap (λ (more : List (List ℕ)). line ∷ more) (news-comes lines)

olds-goes : (lines : List (List ℕ)) → olds (map goes lines) ≡ lines
olds-goes [] = refl
olds-goes (line ∷ lines) = ap (λ (more : List (List ℕ)). line ∷ more) (olds-goes lines)

news-goes : (lines : List (List ℕ)) → news (map goes lines) ≡ []
news-goes [] = refl
news-goes (line ∷ lines) = news-goes lines

old_of-row : (old new : List ℕ) → old_of (row_of old new) ≡ old ∷ []
old_of-row old new = elim (cases_Bool (bytes_eq old new)) [ inl same ↦ rw same refl | inr apart ↦ rw apart refl ]

new_of-row : (old new : List ℕ) → new_of (row_of old new) ≡ new ∷ []
new_of-row old new =
    elim (cases_Bool (bytes_eq old new)) [
      | inl same ↦ rw same (ap (λ (line : List ℕ). line ∷ []) (bytes_eq-equal old new same))
      | inr apart ↦ rw apart refl
    ]

pub olds-rows : (a b : List (List ℕ)) → olds (rows_of a b) ≡ a
unfolding rows_of
olds-rows [] b = olds-comes b
olds-rows (x ∷ a) [] = olds-goes (x ∷ a)
olds-rows (x ∷ a) (y ∷ b) = rw old_of-row (ap (λ (more : List (List ℕ)). x ∷ more) (olds-rows a b))

pub news-rows : (a b : List (List ℕ)) → news (rows_of a b) ≡ b
unfolding rows_of
news-rows [] b = news-comes b
news-rows (x ∷ a) [] = news-goes (x ∷ a)
news-rows (x ∷ a) (y ∷ b) = rw new_of-row (ap (λ (more : List (List ℕ)). y ∷ more) (news-rows a b))

-- a row where the texts are alike has one line
pub same_line : (row : Row) → is_changed row ≡ false → old_of row ≡ new_of row
same_line (stays line) alike = refl
same_line (changes old new) alike = absurd cc
same_line (goes old) alike = absurd cc
same_line (comes new) alike = absurd cc

-- ---- near a change

-- from a number on, each row that is near no change is none
abbrev pub AreFar : (ℕ → Bool) → ℕ → List Row → Type 0
AreFar near k [] = Unit {0}
AreFar near k (row ∷ rows) = (near k ≡ false → is_changed row ≡ false) × AreFar near (k + 1) rows

neither : (a b : Bool) → (a || b) ≡ false → (a ≡ false) × (b ≡ false)
neither true b none = absurd cc
neither false b none = (refl, none)

-- where no element passes, this one does not
none_there : {X : Type 0} (p : X → Bool) (xs : List X) (x : X) (ys : List X) (n : ℕ) → length xs < n
    → list_any p (take n (xs ++ x ∷ ys)) ≡ false → p x ≡ false
none_there p xs x ys zero within none = absurd (omega arith)
none_there p [] x ys (suc n) within none = (neither (p x) (list_any p (take n ys)) none).0
none_there p (z ∷ xs) x ys (suc n) within none = none_there p xs x ys n (omega arith) (neither (p z) (list_any p (take n (xs ++ x ∷ ys))) none).1

-- the texts are alike in a row that is near no change
far-row : (front : List Row) (row : Row) (rows : List Row) → is_near (front ++ row ∷ rows) (length front) ≡ false → is_changed row ≡ false
far-row front row rows far =
    let k = length front in
    let cut : drop (k - 3) (front ++ row ∷ rows) ≡ drop (k - 3) front ++ row ∷ rows = drop-append-le (k - 3) front (row ∷ rows) (omega arith) in
    let within : length (drop (k - 3) front) < k + 3 + 1 - (k - 3) = omega (arith, length-drop (k - 3) front) in
    none_there is_changed (drop (k - 3) front) row rows (k + 3 + 1 - (k - 3)) within (rw cut at far)

pub are_far : (front rows : List Row) → AreFar (is_near (front ++ rows)) (length front) rows
are_far front [] = tt
are_far front (row ∷ rows) =
    let whole : (front ++ row ∷ []) ++ rows ≡ front ++ row ∷ rows = append_assoc front (row ∷ []) rows in
    let next : AreFar (is_near ((front ++ row ∷ []) ++ rows)) (length (front ++ row ∷ [])) rows = are_far (front ++ row ∷ []) rows in
    (λ far. far-row front row rows far, rw (whole, length_push front row) at next)
