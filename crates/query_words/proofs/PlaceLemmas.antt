-- Texts from a place on, and what stands between two places.
use Rattle.std.proofs.Common.{◌≡◌, ℕ, zero, suc, ◌+◌, ◌<◌, ◌≤◌, Bool, true, false, Option, List, [], ◌∷◌, ◌++◌, length, take, drop, inl, inr, refl, sym, ap, ◌∙◌, arith, drop-drop, append_assoc, length-append, length-drop}
use Rattle.std.specs.Prelude.{◌==◌, not, slice_get}
use Rattle.std.specs.Option.{option_map_or}
use Rattle.std.specs.List.{list_all, take_while}
use Rattle.std.proofs.Math.Seq.{drop-append_seam}
use Rattle.std.proofs.lemmas.List.{drop-take}
use Rattle.std.proofs.lemmas.List.Sums.{take_while-cons}
use Rattle.std.proofs.lemmas.Bool.{and_parts, cases_Bool, cond-false, cond-true, eqb-true, not-true, true≢false}
use Rattle.query_words.specs.Reading.{is_byte}

-- From a place on stands a part, and behind it what stands from the next place on.
pub record Stands (text : List ℕ) (at next : ℕ) (part : List ℕ) : Type 0 where
  pub here : drop at text ≡ part ++ drop next text
  pub ends : next ≡ at + length part

pub stands_none : (text : List ℕ) (at : ℕ) → Stands text at at []
stands_none text at = record { here = refl; ends = omega arith }

pub stands_join : {text : List ℕ} {a b c : ℕ} {p q : List ℕ} → Stands text a b p → Stands text b c q → Stands text a c (p ++ q)
stands_join {text} {a} {b} {c} {p} {q} first second = record {
  here = first.here ∙ ap (λ (xs : List ℕ). p ++ xs) second.here ∙ sym (append_assoc p q (drop c text));
  ends = let both = length-append p q in omega (arith, first.ends, second.ends);
}

-- what stands behind a part
pub behind : (text : List ℕ) (at : ℕ) (part rest : List ℕ) → drop at text ≡ part ++ rest → drop (at + length part) text ≡ rest
behind text at part rest here = sym (drop-drop (length part) at text) ∙ ap (drop (length part)) here ∙ drop-append_seam part rest

pub stands_of : (text : List ℕ) (at : ℕ) (part rest : List ℕ) → drop at text ≡ part ++ rest → Stands text at (at + length part) part
stands_of text at part rest here = record { here = here ∙ ap (λ (xs : List ℕ). part ++ xs) (sym (behind text at part rest here)); ends = refl }

-- ---- one byte

slice_get-drop : (xs : List ℕ) (n : ℕ) → slice_get xs n ≡ slice_get (drop n xs) 0
slice_get-drop [] zero = refl
slice_get-drop [] (suc n) = refl
slice_get-drop (x ∷ xs) zero = refl
slice_get-drop (x ∷ xs) (suc n) = slice_get-drop xs n

slice_get-take : (k n : ℕ) (xs : List ℕ) → n < k → slice_get xs n ≡ slice_get (take k xs) n
slice_get-take zero n xs less = absurd (omega arith)
slice_get-take (suc k) n [] less = refl
slice_get-take (suc k) zero (x ∷ xs) less = refl
slice_get-take (suc k) (suc n) (x ∷ xs) less = slice_get-take k n xs (omega arith)

-- the text begins with the byte
abbrev pub begins : ℕ → List ℕ → Bool
begins c rest = option_map_or (λ (b : ℕ). b == c) (slice_get rest 0) false

pub is_byte-drop : (text : List ℕ) (at c : ℕ) → is_byte text at c ≡ begins c (drop at text)
is_byte-drop text at c = ap (λ (o : Option ℕ). option_map_or (λ (b : ℕ). b == c) o false) (slice_get-drop text at)

pub is_byte_at : (text : List ℕ) (at b c : ℕ) (rest : List ℕ) → drop at text ≡ b ∷ rest → is_byte text at c ≡ (b == c)
is_byte_at text at b c rest here = is_byte-drop text at c ∙ ap (begins c) here

pub is_byte_end : (text : List ℕ) (at c : ℕ) → drop at text ≡ [] → is_byte text at c ≡ false
is_byte_end text at c here = is_byte-drop text at c ∙ ap (begins c) here

stands_begins : (c : ℕ) (text : List ℕ) (at : ℕ) (rest : List ℕ) → drop at text ≡ rest → begins c rest ≡ true → Stands text at (at + 1) (c ∷ [])
stands_begins c text at [] here there = absurd (true≢false (sym there))
stands_begins c text at (b ∷ rest) here there =
    let same : b ≡ c = eqb-true b c there in
    stands_of text at (c ∷ []) rest (here ∙ ap (λ (x : ℕ). x ∷ rest) same)

pub stands_byte : (text : List ℕ) (at c : ℕ) → is_byte text at c ≡ true → Stands text at (at + 1) (c ∷ [])
stands_byte text at c there = stands_begins c text at (drop at text) refl (sym (is_byte-drop text at c) ∙ there)

pub byte_within : (text : List ℕ) (at c : ℕ) → is_byte text at c ≡ true → at < length text
byte_within text at c there =
    let s = stands_byte text at c there in
    let long = ap length s.here in
    let rest = length-drop at text in
    omega (arith, long, rest)

-- ---- the longest front that passes a test

front_rest : (n : ℕ) (xs : List ℕ) → xs ≡ take n xs ++ drop (length (take n xs)) xs
front_rest zero xs = refl
front_rest (suc n) [] = refl
front_rest (suc n) (x ∷ xs) = ap (λ (ys : List ℕ). x ∷ ys) (front_rest n xs)

pub stands_while : (p : ℕ → Bool) (text : List ℕ) (at : ℕ) → Stands text at (at + length (take_while p (drop at text))) (take_while p (drop at text))
stands_while p text at = stands_of text at (take_while p (drop at text)) _ (front_rest _ (drop at text))

-- the first byte, if there is one, fails the test
abbrev pub stops : (ℕ → Bool) → List ℕ → Bool
stops p [] = true
stops p (b ∷ rest) = not (p b)

pub take_while_stops : (p : ℕ → Bool) (xs rest : List ℕ) → list_all p xs ≡ true → stops p rest ≡ true → take_while p (xs ++ rest) ≡ xs
take_while_stops p [] [] each stop = refl
take_while_stops p [] (b ∷ rest) each stop = take_while-cons p b rest ∙ cond-false (p b) _ _ (not-true (p b) stop)
take_while_stops p (x ∷ xs) rest each stop =
    let parts = and_parts (p x) (list_all p xs) each in
    take_while-cons p x (xs ++ rest) ∙ cond-true (p x) _ _ parts.0 ∙ ap (λ (ys : List ℕ). x ∷ ys) (take_while_stops p xs rest parts.1 stop)

pub take_while_passes : (p : ℕ → Bool) (xs : List ℕ) → list_all p (take_while p xs) ≡ true
take_while_passes p [] = refl
take_while_passes p (x ∷ xs) = elim (cases_Bool (p x)) [
  | inl yes_ ↦
      let is = take_while-cons p x xs ∙ cond-true (p x) _ _ yes_ in
      rw (is, yes_, take_while_passes p xs) refl
  | inr no_ ↦ let is = take_while-cons p x xs ∙ cond-false (p x) _ _ no_ in rw is refl
]

-- ---- texts that begin alike

pub same_byte : (k : ℕ) (text other : List ℕ) (n c : ℕ) → take k text ≡ take k other → n < k → is_byte other n c ≡ is_byte text n c
same_byte k text other n c alike less =
    ap (λ (o : Option ℕ). option_map_or (λ (b : ℕ). b == c) o false)
    (slice_get-take k n other less ∙ ap (λ (xs : List ℕ). slice_get xs n) (sym alike) ∙ sym (slice_get-take k n text less))

pub same_drop : (n m : ℕ) (text other : List ℕ) → take (n + m) text ≡ take (n + m) other → take m (drop n text) ≡ take m (drop n other)
same_drop n m text other alike = sym (drop-take n m text) ∙ ap (drop n) alike ∙ drop-take n m other

pub same_while : (p : ℕ → Bool) (m : ℕ) (xs ys : List ℕ) → take m xs ≡ take m ys → m ≤ length xs → length (take_while p xs) < m
    → take_while p ys ≡ take_while p xs
same_while p zero xs ys alike within less = absurd (omega arith)
same_while p (suc m) [] ys alike within less = absurd (omega arith)
same_while p (suc m) (x ∷ xs) [] alike within less = absurd (cc)
same_while p (suc m) (x ∷ xs) (y ∷ ys) alike within less = elim (cases_Bool (p x)) [
  | inl yes_ ↦
      let one : x ≡ y = cc in
      let more : take m xs ≡ take m ys = cc in
      let is = take_while-cons p x xs ∙ cond-true (p x) _ _ yes_ in
      let also : p y ≡ true = ap p (sym one) ∙ yes_ in
      let fewer : length (take_while p xs) < m = let long = ap length is in omega (arith, long) in
      let rest = same_while p m xs ys more (omega arith) fewer in
      take_while-cons p y ys ∙ cond-true (p y) _ _ also ∙ ap (λ (zs : List ℕ). y ∷ zs) rest ∙ ap (λ (z : ℕ). z ∷ take_while p xs) (sym one) ∙ sym is
  | inr no_ ↦
      let one : x ≡ y = cc in
      let also : p y ≡ false = ap p (sym one) ∙ no_ in
      take_while-cons p y ys ∙ cond-false (p y) _ _ also ∙ sym (take_while-cons p x xs ∙ cond-false (p x) _ _ no_)
]
