-- What is no identifier is not spelled as one.
use Rattle.std.proofs.Common.{◌≡◌, ℕ, ◌&&◌, ◌||◌, ◌==◌, Bool, true, false, not, List, [], ◌∷◌, inl, inr, refl, sym, ap, ◌∙◌, arith}
use Rattle.std.specs.List.{list_all, list_any}
use Rattle.std.specs.Str.{bytes_eq}
use Rattle.std.proofs.lemmas.Bool.{cases_Bool, both_ways, false_from_ne_true, and_parts, or_cases, eqb-true}
use Rattle.std.proofs.lemmas.Bool.Decides.{nat_tests}
use Rattle.cs_base.proofs.FileMapLemmas.{bytes_eq-equal}
use Rattle.cs_base.specs.declared.tokens.Kind.{Kind}
use Rattle.cs_base.specs.declared.tokens.Kind.TheVariants.{Ident, Number}
use Rattle.cs_base.specs.Reserved.{is_reserved_text}
use Rattle.cs_base.specs.Token.{has_origins}
use Rattle.lexer.specs.Characters.{double_quote, full_stop, is_nondigit, is_digit, is_word}
use Rattle.lexer.specs.Spelling.{is_identifier_text, begins_with_digit, begins_number, all_follow, is_number_text}
use Rattle.line_shape.specs.Signs.{is_identifier}
use Rattle.expansion_laws.specs.Spelled.{fits}
use Rattle.expansion_laws.proofs.ShapeLemmas.{words_are_names}
use Rattle.tree_laws.specs.RenamedNames.{own_words, is_own_word}
use Rattle.lexer.proofs.FitLemmas.{identifier-words}

-- ---- kinds

digit_apart : (c : ℕ) → is_digit c ≡ true → is_nondigit c ≡ false
digit_apart c h = grind (arith, nat_tests)

stop_apart : (c : ℕ) → (c == full_stop) ≡ true → is_nondigit c ≡ false
stop_apart c h = ap is_nondigit (eqb-true c full_stop h)

-- a pp-number is no identifier (6.4.2.1, 6.4.8)
number_plain : (text : List ℕ) → is_number_text text ≡ true → is_identifier_text text ≡ false
number_plain [] h = refl
number_plain (c ∷ cs) h =
    let begins = (and_parts (begins_number c cs) (all_follow c cs) h).0 in
    ap (λ (b : Bool). b && list_all is_word cs) (elim (or_cases (is_digit c) (c == full_stop && begins_with_digit cs) begins) [
      | inl digit ↦ digit_apart c digit
      | inr stop ↦ stop_apart c (and_parts (c == full_stop) (begins_with_digit cs) stop).0
    ])

other_plain : (k : Kind) (text : List ℕ) → is_identifier k ≡ false → fits k text ≡ true → has_origins k ≡ true → is_identifier_text text ≡ false
other_plain Number text other fit parted = number_plain text fit
other_plain Ident text other fit parted = absurd (cc)
other_plain _ text other fit parted = absurd (cc)

-- what is spelled as a kind other than identifiers is none
pub kind_plain : (k : Kind) (text : List ℕ) → is_identifier k ≡ false → fits k text ≡ true → is_identifier_text text ≡ false
kind_plain k text other fit = elim (cases_Bool (is_identifier_text text)) [
  | inl is ↦ absurd (both_ways (is_identifier_text text) (other_plain k text other fit (words_are_names k text fit (identifier-words text is))) is)
  | inr none ↦ none
]

-- ---- words

-- a text that is no identifier is none that is one
pub plain_apart : (x y : List ℕ) → is_identifier_text x ≡ true → is_identifier_text y ≡ false → bytes_eq x y ≡ false
plain_apart x y is none =
    false_from_ne_true (bytes_eq x y) (λ same. both_ways (is_identifier_text y) none (ap is_identifier_text (sym (bytes_eq-equal x y same)) ∙ is))

-- the word is reserved, or no identifier
abbrev pub is_fixed : List ℕ → Bool
is_fixed word = is_reserved_text word || not (is_identifier_text word)

own_fixed : list_all is_fixed own_words ≡ true
unfolding is_reserved_text
own_fixed = refl

any_fixed : (words : List (List ℕ)) (word : List ℕ) → list_all is_fixed words ≡ true → list_any (λ w. bytes_eq w word) words ≡ true → is_fixed word ≡ true
any_fixed [] word all any = absurd (cc)
any_fixed (w ∷ words) word all any =
    let both = and_parts (is_fixed w) (list_all is_fixed words) all in
    elim (or_cases (bytes_eq w word) (list_any (λ v. bytes_eq v word) words) any) [
      | inl here ↦ ap is_fixed (sym (bytes_eq-equal w word here)) ∙ both.0
      | inr later ↦ any_fixed words word both.1 later
    ]

-- so is each word that binding asks for
pub own_word_fixed : (word : List ℕ) → is_own_word word ≡ true → is_fixed word ≡ true
own_word_fixed word own = any_fixed own_words word own_fixed own

pub fixed_plain : (word : List ℕ) → is_fixed word ≡ true → is_reserved_text word ≡ false → is_identifier_text word ≡ false
fixed_plain word fixed free = elim (or_cases (is_reserved_text word) (not (is_identifier_text word)) fixed) [
  | inl reserved ↦ absurd (both_ways (is_reserved_text word) free reserved)
  | inr plain ↦ not_true (is_identifier_text word) plain
]
  where
    not_true : (b : Bool) → not b ≡ true → b ≡ false
    not_true true h = absurd (cc)
    not_true false h = refl

-- none of them begins with a quote
abbrev is_unquoted : List ℕ → Bool
is_unquoted [] = true
is_unquoted (c ∷ cs) = not (c == double_quote)

own_unquoted : list_all is_unquoted own_words ≡ true
own_unquoted = refl

any_unquoted : (words : List (List ℕ)) (word : List ℕ) → list_all is_unquoted words ≡ true → list_any (λ w. bytes_eq w word) words ≡ true → is_unquoted word ≡ true
any_unquoted [] word all any = absurd (cc)
any_unquoted (w ∷ words) word all any =
    let both = and_parts (is_unquoted w) (list_all is_unquoted words) all in
    elim (or_cases (bytes_eq w word) (list_any (λ v. bytes_eq v word) words) any) [
      | inl here ↦ ap is_unquoted (sym (bytes_eq-equal w word here)) ∙ both.0
      | inr later ↦ any_unquoted words word both.1 later
    ]

pub unquoted_word : (cs word : List ℕ) → is_own_word word ≡ true → bytes_eq (double_quote ∷ cs) word ≡ false
unquoted_word cs word own =
    false_from_ne_true (bytes_eq (double_quote ∷ cs) word) (λ same.
    both_ways (is_unquoted word) (ap is_unquoted (sym (bytes_eq-equal (double_quote ∷ cs) word same))) (any_unquoted own_words word own_unquoted own))
