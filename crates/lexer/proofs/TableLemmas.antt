-- Punctuators: the tables of 6.4.6 against the first characters of a text.
use Rattle.std.proofs.Common.{◌≡◌, ℕ, zero, suc, ◌≤◌, Bool, true, false, not, ◌&&◌, ◌||◌, ◌==◌, List, [], ◌∷◌, length, take, inl, inr, refl, arith}
use Rattle.std.proofs.lemmas.Bool.{cases_Bool, and_parts, eqb-true, ne_eqb, eq-eqb, both_ways, or_cases}
use Rattle.std.proofs.lemmas.Bool.Decides.{nat_tests}
use Rattle.std.specs.List.{list_all, list_any}
use Rattle.std.specs.Str.{bytes_eq}
use Rattle.cs_base.proofs.FileMapLemmas.{bytes_eq-equal}
use Rattle.lexer.specs.Characters.{is_nondigit, is_quote}
use Rattle.lexer.specs.Spelling.{begins_number, is_punctuator_text, punctuators_of_one, punctuators_of_two, punctuators_of_three, punctuators_of_four}
use Rattle.lexer.specs.Front.{begins_with, begins_with_one}

-- No text of a table passes this test, which a text passes: so that is no text of the table.
list_any-lacks : (P : List ℕ → Bool) (text : List ℕ) (table : List (List ℕ)) → P text ≡ true
    → list_all (λ w. not (P w)) table ≡ true → list_any (bytes_eq text) table ≡ false
list_any-lacks P text [] has lack = refl
list_any-lacks P text (w ∷ ws) has lack =
    let parts = and_parts (not (P w)) (list_all (λ v. not (P v)) ws) lack in
    elim (cases_Bool (bytes_eq text w)) [
      | inl same ↦
          let it : text ≡ w = bytes_eq-equal text w same in
          let passes : P w ≡ true = rw it at has in
          let fails = rw passes at parts.0 in
          absurd (both_ways false refl fails)
      | inr other ↦ rw other (list_any-lacks P text ws has parts.1)
    ]

-- no punctuator passes this test, which a text passes
pub punctuator-lacks : (P : List ℕ → Bool) (text : List ℕ) → P text ≡ true
    → list_all (λ w. not (P w)) punctuators_of_one ≡ true → list_all (λ w. not (P w)) punctuators_of_two ≡ true
    → list_all (λ w. not (P w)) punctuators_of_three ≡ true → list_all (λ w. not (P w)) punctuators_of_four ≡ true
    → is_punctuator_text text ≡ false
unfolding is_punctuator_text
punctuator-lacks P text has ones twos threes fours =
    rw (
      list_any-lacks P text punctuators_of_one has ones,
      list_any-lacks P text punctuators_of_two has twos,
      list_any-lacks P text punctuators_of_three has threes,
      list_any-lacks P text punctuators_of_four has fours,
    ) refl

-- the first character passes the test
abbrev first_is : (ℕ → Bool) → List ℕ → Bool
first_is p [] = false
first_is p (c ∷ cs) = p c

-- a pp-number begins the text
abbrev number_first : List ℕ → Bool
number_first [] = false
number_first (c ∷ cs) = begins_number c cs

pub nondigit-punctuator : (c : ℕ) (cs : List ℕ) → is_nondigit c ≡ true → is_punctuator_text (c ∷ cs) ≡ false
nondigit-punctuator c cs h = punctuator-lacks (first_is is_nondigit) (c ∷ cs) h refl refl refl refl

pub quote-punctuator : (c : ℕ) (cs : List ℕ) → is_quote c ≡ true → is_punctuator_text (c ∷ cs) ≡ false
quote-punctuator c cs h = punctuator-lacks (first_is is_quote) (c ∷ cs) h refl refl refl refl

pub number-punctuator : (c : ℕ) (cs : List ℕ) → begins_number c cs ≡ true → is_punctuator_text (c ∷ cs) ≡ false
number-punctuator c cs h = punctuator-lacks number_first (c ∷ cs) h refl refl refl refl

-- Words at the front of a text.

word-at : (k : ℕ) (text w : List ℕ) → k ≤ length text → bytes_eq (take k text) w ≡ (k == length w && begins_with w text)
word-at zero text [] within = refl
word-at zero text (x ∷ xs) within = rw (ne_eqb 0 (suc (length xs)) (λ e. omega arith)) refl
word-at (suc k) [] w within = absurd (omega arith)
word-at (suc k) (c ∷ cs) [] within = rw (ne_eqb (suc k) 0 (λ e. omega arith)) refl
word-at (suc k) (c ∷ cs) (x ∷ xs) within =
    let after = word-at k cs xs (omega arith) in
    let counts : (suc k == suc (length xs)) ≡ (k == length xs) = grind (arith, nat_tests) in
    rw (counts, after) (elim (cases_Bool (c == x)) [
      | inl same ↦ rw same refl
      | inr other ↦ rw other (elim (cases_Bool (k == length xs)) [ inl same ↦ rw same refl | inr other ↦ rw other refl ])
    ])

pub word-at_length : (k : ℕ) (text w : List ℕ) → k ≤ length text → k ≡ length w → begins_with w text ≡ bytes_eq (take k text) w
word-at_length k text w within size =
    let same : (k == length w) ≡ true = eq-eqb k (length w) size in
    rw (word-at k text w within, same) refl

spread : (a b c : Bool) → ((a && b) || (a && c)) ≡ (a && (b || c))
spread true b c = refl
spread false b c = refl

-- all words of a table have n characters: so only a front of n may be one of them
pub table-at : (n k : ℕ) (text : List ℕ) (table : List (List ℕ)) → list_all (λ w. length w == n) table ≡ true → k ≤ length text
    → list_any (bytes_eq (take k text)) table ≡ (k == n && begins_with_one table text)
table-at n k text [] sizes within = elim (cases_Bool (k == n)) [ inl same ↦ rw same refl | inr other ↦ rw other refl ]
table-at n k text (w ∷ ws) sizes within =
    let parts = and_parts (length w == n) (list_all (λ v. length v == n) ws) sizes in
    let size : length w ≡ n = eqb-true (length w) n parts.0 in
    rw (word-at k text w within, size, table-at n k text ws parts.1 within)
    (spread (k == n) (begins_with w text) (begins_with_one ws text))

begins_with-within : (w text : List ℕ) → begins_with w text ≡ true → length w ≤ length text
begins_with-within [] text begins = omega arith
begins_with-within (x ∷ xs) [] begins = absurd (both_ways false refl begins)
begins_with-within (x ∷ xs) (c ∷ cs) begins =
    let parts = and_parts (c == x) (begins_with xs cs) begins in
    let rest = begins_with-within xs cs parts.1 in
    omega arith

pub table-within : (n : ℕ) (text : List ℕ) (table : List (List ℕ)) → list_all (λ w. length w == n) table ≡ true
    → begins_with_one table text ≡ true → n ≤ length text
table-within n text [] sizes begins = absurd (both_ways false refl begins)
table-within n text (w ∷ ws) sizes begins =
    let parts = and_parts (length w == n) (list_all (λ v. length v == n) ws) sizes in
    elim (or_cases (begins_with w text) (begins_with_one ws text) begins) [
      | inl here ↦
          let size : length w ≡ n = eqb-true (length w) n parts.0 in
          let within = begins_with-within w text here in
          omega arith
      | inr later ↦ table-within n text ws parts.1 later
    ]

-- which front is a punctuator, where the text begins with one of one, two, three or four characters
abbrev pub sign_at : Bool → Bool → Bool → Bool → ℕ → Bool
sign_at ones twos threes fours k = (k == 1 && ones) || (k == 2 && twos) || (k == 3 && threes) || (k == 4 && fours)

pub punctuator-at : (k : ℕ) (text : List ℕ) → k ≤ length text
    → is_punctuator_text (take k text)
    ≡ sign_at (begins_with_one punctuators_of_one text) (begins_with_one punctuators_of_two text)
    (begins_with_one punctuators_of_three text) (begins_with_one punctuators_of_four text) k
unfolding is_punctuator_text
punctuator-at k text within =
    rw (
      table-at 1 k text punctuators_of_one refl within,
      table-at 2 k text punctuators_of_two refl within,
      table-at 3 k text punctuators_of_three refl within,
      table-at 4 k text punctuators_of_four refl within,
    ) refl
