-- Bytes in front of the first `*` of a pattern.
use Rattle.std.proofs.Common.{◌≡◌, ℕ, zero, suc, ◌+◌, ◌-◌, ◌<◌, ◌≤◌, Bool, true, false, List, [], ◌∷◌, length, take, drop, get_or, refl, sym, ap, ◌∙◌, inl, inr, add-one, drop-cons, arith}
use Rattle.std.specs.Prelude.{◌==◌, ◌&&◌}
use Rattle.std.proofs.lemmas.Bool.{cases_eq, eq-eqb, false≢true, ne_eqb}
use Rattle.std.proofs.lemmas.List.{drop_all, length-drop, take_all}
use Rattle.query_words.specs.Patterns.{goes_on, is_empty, matches, star}
use Rattle.query_words.specs.Reading.{is_byte}

no_byte : (text : List ℕ) (k c : ℕ) (test : List ℕ → Bool) → is_byte text k c ≡ false → goes_on c test (drop k text) ≡ false
no_byte [] zero c test is = refl
no_byte [] (suc k) c test is = refl
no_byte (b ∷ text) zero c test is = rw is refl
no_byte (b ∷ text) (suc k) c test is = no_byte text k c test is

some_byte : (text : List ℕ) (k c : ℕ) (test : List ℕ → Bool) → is_byte text k c ≡ true → goes_on c test (drop k text) ≡ test (drop (suc k) text)
some_byte [] zero c test is = absurd (false≢true is)
some_byte [] (suc k) c test is = absurd (false≢true is)
some_byte (b ∷ text) zero c test is = rw is refl
some_byte (b ∷ text) (suc k) c test is = some_byte text k c test is

pub byte_within : (text : List ℕ) (k c : ℕ) → is_byte text k c ≡ true → k + 1 ≤ length text
byte_within [] zero c is = absurd (false≢true is)
byte_within [] (suc k) c is = absurd (false≢true is)
byte_within (b ∷ text) zero c is = omega arith
byte_within (b ∷ text) (suc k) c is = let within = byte_within text k c is in omega (arith, within)

-- a byte that stands for itself, and the same in the text
pub same_byte : (pattern text : List ℕ) (k : ℕ) → k < length pattern → (get_or pattern k 0 == star) ≡ false → is_byte text k (get_or pattern k 0) ≡ true
    → matches (drop (k + 1) pattern) (drop (k + 1) text) ≡ matches (drop k pattern) (drop k text)
unfolding matches
same_byte pattern text k within kept is =
    rw (add-one, drop-cons pattern k 0, kept) (sym (some_byte text k (get_or pattern k 0) (matches (drop (suc k) pattern)) is))

-- and another, or none
pub other_byte : (pattern text : List ℕ) (k : ℕ) → k < length pattern → (get_or pattern k 0 == star) ≡ false → is_byte text k (get_or pattern k 0) ≡ false
    → matches (drop k pattern) (drop k text) ≡ false
unfolding matches
other_byte pattern text k within kept is =
    rw (drop-cons pattern k 0, kept) (no_byte text k (get_or pattern k 0) (matches (drop (suc k) pattern)) is)

-- nothing is left of the pattern
pub none_left : (pattern text : List ℕ) (k : ℕ) → length pattern ≤ k → k ≤ length pattern → k ≤ length text
    → matches (drop k pattern) (drop k text) ≡ (length text == length pattern)
unfolding matches
none_left pattern text k past end within =
    let all : k ≡ length pattern = omega (arith, past, end) in
    rw (drop_all k pattern past) (elim (cases_eq (length text) (length pattern)) [
      | inl same ↦ let short : length text ≤ k = omega (arith, same, all) in rw (drop_all k text short, eq-eqb (length text) (length pattern) same) refl
      | inr differs ↦ let more : k < length text = omega (arith, differs, all, within) in rw (drop-cons text k 0, ne_eqb (length text) (length pattern) differs) refl
    ])

-- what is cut off behind a place is the rest
pub rest_of : (xs : List ℕ) (k : ℕ) → take (length xs - k) (drop k xs) ≡ drop k xs
rest_of xs k = let long = length-drop k xs in take_all (length xs - k) (drop k xs) (omega (arith, long))
