-- Texts that are spelled as their kind says.
use Rattle.std.proofs.Common.{◌≡◌, ℕ, ◌<◌, ◌&&◌, ◌||◌, ◌==◌, Bool, true, false, not, List, [], ◌∷◌, length, is_some, ◌⊎◌, inl, inr, refl, sym, subst, arith}
use Rattle.std.specs.Prelude.{codes}
use Rattle.std.specs.List.{list_all}
use Rattle.std.proofs.lemmas.Bool.{cases_Bool, eqb-true, and_parts, and_from, not-true}
use Rattle.cs_base.specs.declared.tokens.Kind.{Kind}
use Rattle.cs_base.specs.declared.tokens.Kind.TheVariants.{Ident, Number, Char, Str, Punct, Header, Other}
use Rattle.cs_base.specs.Token.{has_origins}
use Rattle.cs_base.proofs.BoolLemmas.{not_both as clash}
use Rattle.lexer.specs.Characters.{less_than, slash, star, double_quote, capital_l, is_white, is_nondigit, is_digit, is_word, is_quote, begins}
use Rattle.lexer.specs.Spelling.{is_identifier_text, all_follow, begins_number, is_number_text, is_punctuator_text, kind_of}
use Rattle.lexer.proofs.LocalLemmas.{nondigit-word}
use Rattle.lexer.proofs.KindLemmas.{quote-word}
use Rattle.expansion_laws.specs.Spelled.{quote_first, begins_quoted, is_lone, fits}
use Rattle.expansion_laws.proofs.FrontLemmas.{begins_token}
use Rattle.expansion_laws.proofs.BeginLemmas.{word_dark, word_slash, begins_dark, begins_slash, token_begins, begins_each, words_begin, follow_begins, punctuator_has, signs_begin}
use Rattle.expansion_laws.proofs.TextKindLemmas.{double_is, kind_exact, identifier_kind, number_kind, sign_kind, some_kind, exact_slash, exact_star, alone}

-- ---- shapes

-- a text is of some length, a token begins at each of its characters, and it is a token itself
pub record IsSolid (text : List ℕ) : Type 0 where
  pub each : begins_each text ≡ true
  pub some : 0 < length text
  pub whole : (is_some (kind_of text) ≡ true) ⊎ (length text ≡ 1)

-- what a text is, or how it begins: with a quote, with an `L` and a quote, or with `<`
pub data Shape : List ℕ → Type 0 where
  Solid : {text : List ℕ} → IsSolid text → Shape text
  Quoted : (q : ℕ) (rest : List ℕ) → is_quote q ≡ true → Shape (q ∷ rest)
  Wide : (q : ℕ) (rest : List ℕ) → is_quote q ≡ true → Shape (capital_l ∷ q ∷ rest)
  Less : (rest : List ℕ) → Shape (less_than ∷ rest)

quoted_shape : (text : List ℕ) → begins_quoted text ≡ true → Shape text
quoted_shape [] h = absurd (cc)
quoted_shape (c ∷ cs) h = elim (cases_Bool (is_quote c)) [
  | inl quote ↦ Quoted c cs quote
  | inr other ↦ wide cs (rw other at h)
]
  where
    wide : (ds : List ℕ) → (c == capital_l && quote_first ds) ≡ true → Shape (c ∷ ds)
    wide [] k = let both = and_parts (c == capital_l) false k in let no = both.1 in absurd (cc)
    wide (q ∷ ds) k =
        let both = and_parts (c == capital_l) (is_quote q) k in
        subst (λ (x : ℕ). Shape (x ∷ q ∷ ds)) (sym (eqb-true c capital_l both.0)) (Wide q ds both.1)

less_shape : (text : List ℕ) → begins less_than text ≡ true → Shape text
less_shape [] h = absurd (cc)
less_shape (c ∷ cs) h = subst (λ (x : ℕ). Shape (x ∷ cs)) (sym (eqb-true c less_than h)) (Less cs)

identifier_shape : (text : List ℕ) → is_identifier_text text ≡ true → Shape text
identifier_shape [] h = absurd (cc)
identifier_shape (c ∷ cs) h =
    let both = and_parts (is_nondigit c) (list_all is_word cs) h in
    let word = nondigit-word c both.0 in
    Solid (record {
      each = and_from (begins_token (c ∷ cs)) (begins_each cs) (token_begins c cs (word_dark c word) (word_slash c word)) (words_begin cs both.1);
      some = omega arith;
      whole = inl (identifier_kind (c ∷ cs) h);
    })

number_shape : (text : List ℕ) → is_number_text text ≡ true → Shape text
number_shape [] h = absurd (cc)
number_shape (c ∷ cs) h =
    let both = and_parts (begins_number c cs) (all_follow c cs) h in
    Solid (record {
      each = and_from (begins_token (c ∷ cs)) (begins_each cs) (token_begins c cs (begins_dark c cs both.0) (begins_slash c cs both.0)) (follow_begins c cs both.1);
      some = omega arith;
      whole = inl (number_kind (c ∷ cs) h);
    })

sign_shape : (text : List ℕ) → is_punctuator_text text ≡ true → Shape text
unfolding is_punctuator_text
sign_shape [] h = absurd (clash (is_punctuator_text []) h refl)
sign_shape (c ∷ cs) h = Solid (record { each = signs_begin (c ∷ cs) h; some = omega arith; whole = inl (sign_kind (c ∷ cs) h) })

lone_shape : (text : List ℕ) → is_lone text ≡ true → Shape text
lone_shape [] h = absurd (cc)
lone_shape (c ∷ d ∷ cs) h = absurd (cc)
lone_shape (c ∷ []) h =
    let both = and_parts (not (is_white c)) (not (is_some (kind_of (c ∷ [])))) h in
    let dark = not-true (is_white c) both.0 in
    Solid (record { each = lone_begins c dark; some = omega arith; whole = inr refl })
  where
    lone_begins : (x : ℕ) → is_white x ≡ false → begins_each (x ∷ []) ≡ true
    lone_begins x dark = elim (cases_Bool (x == slash)) [
      | inl is ↦ rw (dark, is) refl
      | inr other ↦ rw (dark, other) refl
    ]

either_shape : (a b : Bool) (text : List ℕ) → (a ≡ true → Shape text) → (b ≡ true → Shape text) → (a || b) ≡ true → Shape text
either_shape true b text h k e = h refl
either_shape false b text h k e = k e

double_shape : (text : List ℕ) → begins double_quote text ≡ true → Shape text
double_shape [] h = absurd (cc)
double_shape (c ∷ cs) h = Quoted c cs (double_is c h)

pub shape_of : (k : Kind) (text : List ℕ) → fits k text ≡ true → Shape text
shape_of Ident text h = identifier_shape text h
shape_of Number text h = number_shape text h
shape_of Char text h = quoted_shape text h
shape_of Str text h = quoted_shape text h
shape_of Punct text h = either_shape (is_punctuator_text text) (begins less_than text) text (sign_shape text) (less_shape text) h
shape_of Header text h = either_shape (begins less_than text) (begins double_quote text) text (less_shape text) (double_shape text) h
shape_of Other text h = lone_shape text h

-- ---- tokens that begin with `/` or `*`

pub slash_token : (ds : List ℕ) → IsSolid (slash ∷ ds) → (slash ∷ ds ≡ codes "/") ⊎ (slash ∷ ds ≡ codes "/=")
slash_token ds h = by h.whole
  where
    by : (is_some (kind_of (slash ∷ ds)) ≡ true) ⊎ (length (slash ∷ ds) ≡ 1) → (slash ∷ ds ≡ codes "/") ⊎ (slash ∷ ds ≡ codes "/=")
    by (inl is) = let i = some_kind (kind_of (slash ∷ ds)) is in exact_slash i.0 ds (kind_exact (slash ∷ ds) i.0 i.1)
    by (inr one) = inl (alone slash ds one)

pub star_token : (ds : List ℕ) → IsSolid (star ∷ ds) → (star ∷ ds ≡ codes "*") ⊎ (star ∷ ds ≡ codes "*=")
star_token ds h = by h.whole
  where
    by : (is_some (kind_of (star ∷ ds)) ≡ true) ⊎ (length (star ∷ ds) ≡ 1) → (star ∷ ds ≡ codes "*") ⊎ (star ∷ ds ≡ codes "*=")
    by (inl is) = let i = some_kind (kind_of (star ∷ ds)) is in exact_star i.0 ds (kind_exact (star ∷ ds) i.0 i.1)
    by (inr one) = inl (alone star ds one)

-- ---- texts of words

-- the first character may stand in an identifier
abbrev word_first : List ℕ → Bool
word_first [] = false
word_first (c ∷ cs) = is_word c

lone_word : (c : ℕ) → is_word c ≡ true → is_some (kind_of (c ∷ [])) ≡ true
lone_word c h = elim (cases_Bool (is_nondigit c)) [
  | inl letter ↦ identifier_kind (c ∷ []) (rw letter refl)
  | inr other ↦
      let digit : is_digit c ≡ true = rw other at h in
      number_kind (c ∷ []) (rw digit refl)
]

quoted_word : (text : List ℕ) → begins_quoted text ≡ true → list_all is_word text ≡ true → ⊥
quoted_word [] h k = absurd (cc)
quoted_word (c ∷ cs) h k = elim (cases_Bool (is_quote c)) [
  | inl quote ↦ clash (is_word c) (and_parts (is_word c) (list_all is_word cs) k).0 (quote-word c quote)
  | inr other ↦ by cs (and_parts (c == capital_l) (quote_first cs) (rw other at h)).1 (and_parts (is_word c) (list_all is_word cs) k).1
]
  where
    by : (ds : List ℕ) → quote_first ds ≡ true → list_all is_word ds ≡ true → ⊥
    by [] a b = absurd (cc)
    by (d ∷ ds) a b = clash (is_word d) (and_parts (is_word d) (list_all is_word ds) b).0 (quote-word d a)

sign_word : (text : List ℕ) → is_punctuator_text text ≡ true → list_all is_word text ≡ true → ⊥
unfolding is_punctuator_text
sign_word [] h k = clash (is_punctuator_text []) h refl
sign_word (c ∷ cs) h k =
    let none = punctuator_has (λ w. not (word_first w)) (c ∷ cs) h refl refl refl refl in
    clash (is_word c) (and_parts (is_word c) (list_all is_word cs) k).0 (not-true (is_word c) none)

begins_word : (d : ℕ) (text : List ℕ) → is_word d ≡ false → begins d text ≡ true → list_all is_word text ≡ true → ⊥
begins_word d [] other h k = absurd (cc)
begins_word d (c ∷ cs) other h k =
    clash (is_word d) (subst (λ (x : ℕ). is_word x ≡ true) (eqb-true c d h) (and_parts (is_word c) (list_all is_word cs) k).0) other

either_none : (a b : Bool) → (a ≡ true → ⊥) → (b ≡ true → ⊥) → (a || b) ≡ true → ⊥
either_none true b h k e = h refl
either_none false b h k e = k e

lone_none : (text : List ℕ) → is_lone text ≡ true → list_all is_word text ≡ true → ⊥
lone_none [] h k = absurd (cc)
lone_none (c ∷ d ∷ cs) h k = absurd (cc)
lone_none (c ∷ []) h k =
    let both = and_parts (not (is_white c)) (not (is_some (kind_of (c ∷ [])))) h in
    clash (is_some (kind_of (c ∷ []))) (lone_word c (and_parts (is_word c) true k).0) (not-true (is_some (kind_of (c ∷ []))) both.1)

pub words_are_names : (k : Kind) (text : List ℕ) → fits k text ≡ true → list_all is_word text ≡ true → has_origins k ≡ true
words_are_names Ident text h k = refl
words_are_names Number text h k = refl
words_are_names Char text h k = absurd (quoted_word text h k)
words_are_names Str text h k = absurd (quoted_word text h k)
words_are_names Punct text h k = absurd (either_none (is_punctuator_text text) (begins less_than text) (λ e. sign_word text e k) (λ e. begins_word less_than text refl e k) h)
words_are_names Header text h k = absurd (either_none (begins less_than text) (begins double_quote text) (λ e. begins_word less_than text refl e k) (λ e. begins_word double_quote text refl e k) h)
words_are_names Other text h k = absurd (lone_none text h k)

pub names_are_words : (text : List ℕ) → fits Ident text ≡ true → list_all is_word text ≡ true
names_are_words [] h = absurd (cc)
names_are_words (c ∷ cs) h =
    let both = and_parts (is_nondigit c) (list_all is_word cs) h in
    rw (nondigit-word c both.0, both.1) refl
