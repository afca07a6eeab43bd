-- Patterns, and what becomes of them.
use Rattle.std.proofs.Common.{◌≡◌, ℕ, ◌<◌, ◌≤◌, Bool, true, false, List, [], ◌∷◌, ◌++◌, length, inl, inr, refl, sym, ap, subst, arith, length-append, ◌∙◌}
use Rattle.std.specs.Prelude.{◌==◌, ◌&&◌, filter, nat_le}
use Rattle.std.proofs.lemmas.Bool.{cases_Bool, cases_eq, eq-eqb, eqb-true, leb-false, ne_eqb}
use Rattle.query_words.specs.PlaceMarks.{MatchAlike, is_kept}
use Rattle.query_words.specs.Patterns.{goes_on, matches, some_end, star, Becomes, nothing, replaced, kept}

-- an end of a text that passes a test
record HasEnd (test : List ℕ → Bool) (text : List ℕ) : Type 0 where
  front : List ℕ
  back : List ℕ
  whole : front ++ back ≡ text
  passed : test back ≡ true

end_of : (test : List ℕ → Bool) (text : List ℕ) → some_end test text ≡ true → HasEnd test text
end_of test [] passed = record { front = []; back = []; whole = refl; passed = passed }
end_of test (b ∷ text) passed = elim (cases_Bool (test (b ∷ text))) [
  | inl first ↦ record { front = []; back = b ∷ text; whole = refl; passed = first }
  | inr other ↦
      let later = end_of test text (rw other at passed) in
      record { front = b ∷ later.front; back = later.back; whole = ap (λ (xs : List ℕ). b ∷ xs) later.whole; passed = later.passed }
]

has_end : (test : List ℕ → Bool) (front back : List ℕ) → test back ≡ true → some_end test (front ++ back) ≡ true
has_end test [] [] passed = passed
has_end test [] (b ∷ back) passed = rw passed refl
has_end test (b ∷ front) back passed = elim (cases_Bool (test (b ∷ (front ++ back)))) [
  | inl first ↦ rw first refl
  | inr other ↦ rw other (has_end test front back passed)
]

kept_of : (c : ℕ) (pattern text : List ℕ) → (c ≡ star → ⊥) → ((t : List ℕ) → matches pattern t ≡ true → Becomes pattern t)
    → goes_on c (matches pattern) text ≡ true → Becomes (c ∷ pattern) text
kept_of c pattern [] other later passed = absurd (cc)
kept_of c pattern (b ∷ text) other later passed = elim (cases_Bool (b == c)) [
  | inl same ↦
      let rest : matches pattern text ≡ true = rw same at passed in
      subst (λ (d : ℕ). Becomes (c ∷ pattern) (d ∷ text)) (sym (eqb-true b c same)) (kept c other (later text rest))
  | inr differs ↦ let none : false ≡ true = rw differs at passed in absurd (cc)
]

replaced_of : (c : ℕ) (pattern text : List ℕ) → c ≡ star → ((t : List ℕ) → matches pattern t ≡ true → Becomes pattern t)
    → some_end (matches pattern) text ≡ true → Becomes (c ∷ pattern) text
replaced_of c pattern text is later passed =
    let e = end_of (matches pattern) text passed in
    subst (λ (d : ℕ). Becomes (d ∷ pattern) text) (sym is)
    (subst (λ (t : List ℕ). Becomes (star ∷ pattern) t) e.whole (replaced e.front (later e.back e.passed)))

pub becomes_of : (pattern text : List ℕ) → matches pattern text ≡ true → Becomes pattern text
unfolding matches
becomes_of [] [] passed = nothing
becomes_of [] (b ∷ text) passed = absurd (cc)
becomes_of (c ∷ pattern) text passed = elim (cases_eq c star) [
  | inl is ↦ replaced_of c pattern text is (becomes_of pattern) (rw (eq-eqb c star is) at passed)
  | inr other ↦ kept_of c pattern text other (becomes_of pattern) (rw (ne_eqb c star other) at passed)
]

pub matches_of : (pattern text : List ℕ) → Becomes pattern text → matches pattern text ≡ true
unfolding matches
matches_of pattern text nothing = refl
matches_of pattern text (replaced {pattern = rest} {text = back} bytes later) = has_end (matches rest) bytes back (matches_of rest back later)
matches_of pattern text (kept {pattern = rest} {text = back} c other later) =
    rw (ne_eqb c star other, eq-eqb c c refl, matches_of rest back later) refl

-- ---- texts that are too short

-- what becomes of a pattern has each of its bytes that stand for themselves
becomes_longer : (pattern text : List ℕ) → Becomes pattern text → length (filter is_kept pattern) ≤ length text
becomes_longer pattern text nothing = omega arith
becomes_longer pattern text (replaced {pattern = rest} {text = back} bytes later) =
    let less = becomes_longer rest back later in
    let long = length-append bytes back in
    omega (arith, less, long)
becomes_longer pattern text (kept {pattern = rest} {text = back} c other later) =
    let less = becomes_longer rest back later in
    rw (ne_eqb c star other) (omega (arith, less))

pub matches_none_longer : (pattern text : List ℕ) → length text < length (filter is_kept pattern) → matches pattern text ≡ false
matches_none_longer pattern text short = elim (cases_Bool (matches pattern text)) [
  | inl is ↦ let less = becomes_longer pattern text (becomes_of pattern text is) in absurd (omega (arith, less, short))
  | inr none ↦ none
]

-- where the least length is asked first, nothing else changes
pub least_first : (bytes pattern text : List ℕ) (least : ℕ) → least ≡ length (filter is_kept bytes) → MatchAlike bytes pattern
    → (nat_le least (length text) && matches bytes text) ≡ matches pattern text
least_first bytes pattern text least is same = elim (cases_Bool (nat_le least (length text))) [
  | inl enough ↦ rw enough (same text)
  | inr few ↦
      let short : length text < length (filter is_kept bytes) = let e = leb-false least (length text) few in omega (arith, e, is) in
      rw few (sym (matches_none_longer bytes text short) ∙ same text)
]
