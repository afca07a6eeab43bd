-- Where tokens begin in a text.
use Rattle.std.proofs.Common.{◌≡◌, ℕ, zero, suc, ◌<◌, ◌&&◌, ◌==◌, Bool, true, false, not, List, [], ◌∷◌, length, drop, inl, inr, refl, arith}
use Rattle.std.specs.List.{list_all}
use Rattle.std.proofs.lemmas.Bool.{cases_Bool, and_parts, and_from}
use Rattle.std.proofs.lemmas.Bool.Decides.{nat_tests}
use Rattle.cs_base.proofs.BoolLemmas.{not_both as clash}
use Rattle.lexer.specs.Characters.{slash, is_white, is_word, is_quote}
use Rattle.lexer.specs.Spelling.{may_follow, all_follow, begins_number, is_punctuator_text, punctuators_of_one, punctuators_of_two, punctuators_of_three, punctuators_of_four}
use Rattle.lexer.proofs.TableLemmas.{punctuator-lacks}
use Rattle.expansion_laws.proofs.FrontLemmas.{begins_token, is_dark}

-- ---- characters

pub quote_dark : (c : ℕ) → is_quote c ≡ true → is_white c ≡ false
quote_dark c h = grind (arith, nat_tests)

pub quote_slash : (c : ℕ) → is_quote c ≡ true → (c == slash) ≡ false
quote_slash c h = grind (arith, nat_tests)

pub quote_follow : (last c : ℕ) → is_quote c ≡ true → may_follow last c ≡ false
quote_follow last c h = grind (arith, nat_tests)

pub word_dark : (c : ℕ) → is_word c ≡ true → is_white c ≡ false
word_dark c h = grind (arith, nat_tests)

pub word_slash : (c : ℕ) → is_word c ≡ true → (c == slash) ≡ false
word_slash c h = grind (arith, nat_tests)

follow_dark : (last c : ℕ) → may_follow last c ≡ true → is_white c ≡ false
follow_dark last c h = grind (arith, nat_tests)

follow_slash : (last c : ℕ) → may_follow last c ≡ true → (c == slash) ≡ false
follow_slash last c h = grind (arith, nat_tests)

pub begins_dark : (c : ℕ) (cs : List ℕ) → begins_number c cs ≡ true → is_white c ≡ false
begins_dark c cs h = grind (arith, nat_tests)

pub begins_slash : (c : ℕ) (cs : List ℕ) → begins_number c cs ≡ true → (c == slash) ≡ false
begins_slash c cs h = grind (arith, nat_tests)

-- ---- where tokens begin

-- a token begins where a dark character stands that is no slash
pub token_begins : (c : ℕ) (cs : List ℕ) → is_white c ≡ false → (c == slash) ≡ false → begins_token (c ∷ cs) ≡ true
token_begins c cs dark other = rw (dark, other) refl

pub quote_token : (c : ℕ) (cs : List ℕ) → is_quote c ≡ true → begins_token (c ∷ cs) ≡ true
quote_token c cs h = token_begins c cs (quote_dark c h) (quote_slash c h)

-- a token begins at each character
abbrev pub begins_each : List ℕ → Bool
begins_each [] = true
begins_each (c ∷ cs) = begins_token (c ∷ cs) && begins_each cs

pub each_begins : (text : List ℕ) (m : ℕ) → begins_each text ≡ true → m < length text → begins_token (drop m text) ≡ true
each_begins [] m h below = absurd (omega arith)
each_begins (c ∷ cs) zero h below = (and_parts (begins_token (c ∷ cs)) (begins_each cs) h).0
each_begins (c ∷ cs) (suc m) h below = each_begins cs m (and_parts (begins_token (c ∷ cs)) (begins_each cs) h).1 (omega arith)

token_dark : (c : ℕ) (cs : List ℕ) → begins_token (c ∷ cs) ≡ true → not (is_white c) ≡ true
token_dark c cs h = elim (cases_Bool (is_white c)) [
  | inl white ↦ let no = rw white at h in absurd (cc)
  | inr dark ↦ rw dark refl
]

pub begins_each-dark : (text : List ℕ) → begins_each text ≡ true → is_dark text ≡ true
begins_each-dark [] h = refl
begins_each-dark (c ∷ cs) h =
    let both = and_parts (begins_token (c ∷ cs)) (begins_each cs) h in
    rw (token_dark c cs both.0, begins_each-dark cs both.1) refl

pub words_begin : (cs : List ℕ) → list_all is_word cs ≡ true → begins_each cs ≡ true
words_begin [] h = refl
words_begin (c ∷ cs) h =
    let both = and_parts (is_word c) (list_all is_word cs) h in
    and_from (begins_token (c ∷ cs)) (begins_each cs) (token_begins c cs (word_dark c both.0) (word_slash c both.0)) (words_begin cs both.1)

pub follow_begins : (last : ℕ) (cs : List ℕ) → all_follow last cs ≡ true → begins_each cs ≡ true
follow_begins last [] h = refl
follow_begins last (c ∷ cs) h =
    let both = and_parts (may_follow last c) (all_follow c cs) h in
    and_from (begins_token (c ∷ cs)) (begins_each cs) (token_begins c cs (follow_dark last c both.0) (follow_slash last c both.0)) (follow_begins c cs both.1)

-- each punctuator passes a test
pub punctuator_has : (p : List ℕ → Bool) (text : List ℕ) → is_punctuator_text text ≡ true
    → list_all (λ w. not (not (p w))) punctuators_of_one ≡ true → list_all (λ w. not (not (p w))) punctuators_of_two ≡ true
    → list_all (λ w. not (not (p w))) punctuators_of_three ≡ true → list_all (λ w. not (not (p w))) punctuators_of_four ≡ true → p text ≡ true
punctuator_has p text is ones twos threes fours = elim (cases_Bool (p text)) [
  | inl passes ↦ passes
  | inr fails ↦ absurd (clash (is_punctuator_text text) is (punctuator-lacks (λ w. not (p w)) text (rw fails refl) ones twos threes fours))
]

pub signs_begin : (text : List ℕ) → is_punctuator_text text ≡ true → begins_each text ≡ true
signs_begin text is = punctuator_has begins_each text is refl refl refl refl
