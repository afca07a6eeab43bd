-- The kinds of texts, by their characters.
use Rattle.std.proofs.Common.{◌≡◌, ℕ, ◌&&◌, ◌||◌, ◌==◌, Bool, true, false, not, cond, List, [], ◌∷◌, ◌++◌, length, Option, Some, None, is_some, ◌⊎◌, inl, inr, refl, subst, arith}
use Rattle.std.specs.Prelude.{codes}
use Rattle.std.specs.List.{list_all, list_any}
use Rattle.std.specs.Str.{bytes_eq}
use Rattle.std.proofs.lemmas.Bool.{cases_Bool, and_parts}
use Rattle.std.proofs.Math.Bool.{or-true}
use Rattle.cs_base.proofs.FileMapLemmas.{bytes_eq-equal}
use Rattle.cs_base.proofs.BoolLemmas.{not_both as clash}
use Rattle.cs_base.specs.declared.tokens.Kind.{Kind}
use Rattle.cs_base.specs.declared.tokens.Kind.TheVariants.{Ident, Number, Char, Str, Punct, Header, Other}
use Rattle.lexer.specs.Characters.{less_than, slash, star, single_quote, double_quote, capital_l, is_nondigit, is_word, is_quote, begins}
use Rattle.lexer.specs.Spelling.{is_identifier_text, may_follow, all_follow, begins_number, is_number_text, is_plain_char_text, is_plain_string_text, without_prefix, is_char_text, is_string_text, is_punctuator_text, kind_of}
use Rattle.lexer.proofs.TableLemmas.{punctuator-lacks, nondigit-punctuator, quote-punctuator}
use Rattle.lexer.proofs.KindLemmas.{quote-word, quote-number, quote-nondigit}
use Rattle.expansion_laws.specs.Spelled.{quote_first, begins_quoted, fits}
use Rattle.expansion_laws.proofs.BeginLemmas.{quote_follow, punctuator_has}

-- ---- kinds of texts

-- what a text of this kind is
abbrev Exact : Kind → List ℕ → Type 0
Exact Ident text = is_identifier_text text ≡ true
Exact Number text = is_number_text text ≡ true
Exact Char text = begins_quoted text ≡ true
Exact Str text = begins_quoted text ≡ true
Exact Punct text = is_punctuator_text text ≡ true
Exact Header text = ⊥
Exact Other text = ⊥

quote_or : (c : ℕ) (b : Bool) → is_quote c ≡ true → (is_quote c || b) ≡ true
quote_or c b h = rw h refl

single_is : (c : ℕ) → (c == single_quote) ≡ true → is_quote c ≡ true
single_is c h = rw h refl

pub double_is : (c : ℕ) → (c == double_quote) ≡ true → is_quote c ≡ true
double_is c h = rw h (or-true (c == single_quote))

char_quote : (text : List ℕ) → is_plain_char_text text ≡ true → quote_first text ≡ true
char_quote [] h = absurd (cc)
char_quote (c ∷ cs) h = elim (cases_Bool (c == single_quote)) [
  | inl is ↦ single_is c is
  | inr other ↦ let no = rw other at h in absurd (cc)
]

string_quote : (text : List ℕ) → is_plain_string_text text ≡ true → quote_first text ≡ true
string_quote [] h = absurd (cc)
string_quote (c ∷ cs) h = elim (cases_Bool (c == double_quote)) [
  | inl is ↦ double_is c is
  | inr other ↦ let no = rw other at h in absurd (cc)
]

prefix_quoted : (text : List ℕ) → quote_first (without_prefix text) ≡ true → begins_quoted text ≡ true
prefix_quoted [] h = absurd (cc)
prefix_quoted (c ∷ cs) h = elim (cases_Bool (c == capital_l)) [
  | inl wide ↦ let quote : quote_first cs ≡ true = rw wide at h in rw (wide, quote) (or-true (is_quote c))
  | inr narrow ↦ let quote : is_quote c ≡ true = rw narrow at h in rw quote refl
]

kind_some : (kind k : Kind) (text : List ℕ) → Exact kind text → ◌≡◌ {A = Option Kind} (Some kind) (Some k) → Exact k text
kind_some kind k text is e = let same : kind ≡ k = cc in subst (λ (x : Kind). Exact x text) same is

pub kind_exact : (text : List ℕ) (k : Kind) → kind_of text ≡ Some k → Exact k text
unfolding kind_of
kind_exact text k e = elim (cases_Bool (is_identifier_text text)) [
  | inl identifier ↦ kind_some Ident k text identifier (rw identifier at e)
  | inr no_identifier ↦ elim (cases_Bool (is_number_text text)) [
    | inl number ↦ kind_some Number k text number (rw (no_identifier, number) at e)
    | inr no_number ↦ elim (cases_Bool (is_char_text text)) [
      | inl char ↦ kind_some Char k text (prefix_quoted text (char_quote (without_prefix text) char)) (rw (no_identifier, no_number, char) at e)
      | inr no_char ↦ elim (cases_Bool (is_string_text text)) [
        | inl string ↦ kind_some Str k text (prefix_quoted text (string_quote (without_prefix text) string)) (rw (no_identifier, no_number, no_char, string) at e)
        | inr no_string ↦ elim (cases_Bool (is_punctuator_text text)) [
          | inl sign ↦ kind_some Punct k text sign (rw (no_identifier, no_number, no_char, no_string, sign) at e)
          | inr no_sign ↦ let none = rw (no_identifier, no_number, no_char, no_string, no_sign) at e in absurd (cc)
        ]
      ]
    ]
  ]
]

-- a text of this kind is spelled so
exact_fits : (k : Kind) (text : List ℕ) → Exact k text → fits k text ≡ true
exact_fits Ident text h = h
exact_fits Number text h = h
exact_fits Char text h = h
exact_fits Str text h = h
exact_fits Punct text h = rw h refl
exact_fits Header text h = absurd h
exact_fits Other text h = absurd h

pub identifier_kind : (text : List ℕ) → is_identifier_text text ≡ true → is_some (kind_of text) ≡ true
unfolding kind_of
identifier_kind text h = rw h refl

some_if : {A : Type 0} (b : Bool) (x : Option A) (a : A) → is_some x ≡ true → is_some (cond b (Some a) x) ≡ true
some_if true x a h = refl
some_if false x a h = h

pub number_kind : (text : List ℕ) → is_number_text text ≡ true → is_some (kind_of text) ≡ true
unfolding kind_of
number_kind text h = rw h (some_if (is_identifier_text text) (Some Number) Ident refl)

pub sign_kind : (text : List ℕ) → is_punctuator_text text ≡ true → is_some (kind_of text) ≡ true
unfolding kind_of
sign_kind text h =
    rw h (some_if (is_identifier_text text) _ Ident (some_if (is_number_text text) _ Number (some_if (is_char_text text) _ Char (some_if (is_string_text text) (Some Punct) Str refl))))

-- ---- what no identifier, number or punctuator has inside

all_in : (p : ℕ → Bool) (xs : List ℕ) (c : ℕ) (ys : List ℕ) → list_all p (xs ++ c ∷ ys) ≡ true → p c ≡ true
all_in p [] c ys h = (and_parts (p c) (list_all p ys) h).0
all_in p (x ∷ xs) c ys h = all_in p xs c ys (and_parts (p x) (list_all p (xs ++ c ∷ ys)) h).1

follow_in : (last : ℕ) (xs : List ℕ) (c : ℕ) (ys : List ℕ) → all_follow last (xs ++ c ∷ ys) ≡ true → (before : ℕ) × (may_follow before c ≡ true)
follow_in last [] c ys h = (last, (and_parts (may_follow last c) (all_follow c ys) h).0)
follow_in last (x ∷ xs) c ys h = follow_in x xs c ys (and_parts (may_follow last x) (all_follow x (xs ++ c ∷ ys)) h).1

any_in : (p : ℕ → Bool) (xs : List ℕ) (c : ℕ) (ys : List ℕ) → p c ≡ true → list_any p (xs ++ c ∷ ys) ≡ true
any_in p [] c ys h = rw h refl
any_in p (x ∷ xs) c ys h = rw (any_in p xs c ys h) (or-true (p x))

-- ---- texts that begin with a quote, with an `L` and a quote, or with `<`

exact_quote : (k : Kind) (q : ℕ) (ws zs : List ℕ) → is_quote q ≡ true → Exact k (q ∷ ws) → fits k (q ∷ zs) ≡ true
exact_quote Ident q ws zs quote h = absurd (clash (is_nondigit q) (and_parts (is_nondigit q) (list_all is_word ws) h).0 (quote-nondigit q quote))
exact_quote Number q ws zs quote h = absurd (clash (begins_number q ws) (and_parts (begins_number q ws) (all_follow q ws) h).0 (quote-number q ws quote))
exact_quote Char q ws zs quote h = quote_or q (q == capital_l && quote_first zs) quote
exact_quote Str q ws zs quote h = quote_or q (q == capital_l && quote_first zs) quote
exact_quote Punct q ws zs quote h = absurd (clash (is_punctuator_text (q ∷ ws)) h (quote-punctuator q ws quote))
exact_quote Header q ws zs quote h = absurd h
exact_quote Other q ws zs quote h = absurd h

pub quote_fits : (k : Kind) (q : ℕ) (ws zs : List ℕ) → is_quote q ≡ true → kind_of (q ∷ ws) ≡ Some k → fits k (q ∷ zs) ≡ true
quote_fits k q ws zs quote e = exact_quote k q ws zs quote (kind_exact (q ∷ ws) k e)

exact_wide : (k : Kind) (q : ℕ) (ws zs : List ℕ) → is_quote q ≡ true → Exact k (capital_l ∷ q ∷ ws) → fits k (capital_l ∷ q ∷ zs) ≡ true
exact_wide Ident q ws zs quote h = absurd (clash (is_word q) (and_parts (is_word q) (list_all is_word ws) h).0 (quote-word q quote))
exact_wide Number q ws zs quote h = absurd (cc)
exact_wide Char q ws zs quote h = quote
exact_wide Str q ws zs quote h = quote
exact_wide Punct q ws zs quote h = absurd (clash (is_punctuator_text (capital_l ∷ q ∷ ws)) h (nondigit-punctuator capital_l (q ∷ ws) refl))
exact_wide Header q ws zs quote h = absurd h
exact_wide Other q ws zs quote h = absurd h

pub wide_fits : (k : Kind) (q : ℕ) (ws zs : List ℕ) → is_quote q ≡ true → kind_of (capital_l ∷ q ∷ ws) ≡ Some k → fits k (capital_l ∷ q ∷ zs) ≡ true
wide_fits k q ws zs quote e = exact_wide k q ws zs quote (kind_exact (capital_l ∷ q ∷ ws) k e)

exact_less : (k : Kind) (ws zs : List ℕ) → Exact k (less_than ∷ ws) → fits k (less_than ∷ zs) ≡ true
exact_less Ident ws zs h = absurd (cc)
exact_less Number ws zs h = absurd (cc)
exact_less Char ws zs h = absurd (cc)
exact_less Str ws zs h = absurd (cc)
exact_less Punct ws zs h = or-true (is_punctuator_text (less_than ∷ zs))
exact_less Header ws zs h = absurd h
exact_less Other ws zs h = absurd h

pub less_fits : (k : Kind) (ws zs : List ℕ) → kind_of (less_than ∷ ws) ≡ Some k → fits k (less_than ∷ zs) ≡ true
less_fits k ws zs e = exact_less k ws zs (kind_exact (less_than ∷ ws) k e)

-- ---- texts with a quote or a `<` inside

-- by its first two characters a text begins with a quote or not
quoted_on : (x : ℕ) (xs : List ℕ) (c : ℕ) (ys zs : List ℕ) → begins_quoted (x ∷ xs ++ c ∷ ys) ≡ true → begins_quoted (x ∷ xs ++ c ∷ zs) ≡ true
quoted_on x [] c ys zs h = h
quoted_on x (d ∷ xs) c ys zs h = h

exact_inner : (k : Kind) (x : ℕ) (xs : List ℕ) (q : ℕ) (ys zs : List ℕ) → is_quote q ≡ true → Exact k (x ∷ xs ++ q ∷ ys) → fits k (x ∷ xs ++ q ∷ zs) ≡ true
exact_inner Ident x xs q ys zs quote h =
    absurd (clash (is_word q) (all_in is_word xs q ys (and_parts (is_nondigit x) (list_all is_word (xs ++ q ∷ ys)) h).1) (quote-word q quote))
exact_inner Number x xs q ys zs quote h =
    let i = follow_in x xs q ys (and_parts (begins_number x (xs ++ q ∷ ys)) (all_follow x (xs ++ q ∷ ys)) h).1 in
    absurd (clash (may_follow i.0 q) i.1 (quote_follow i.0 q quote))
exact_inner Char x xs q ys zs quote h = quoted_on x xs q ys zs h
exact_inner Str x xs q ys zs quote h = quoted_on x xs q ys zs h
exact_inner Punct x xs q ys zs quote h =
    absurd (clash (is_punctuator_text (x ∷ xs ++ q ∷ ys)) h (punctuator-lacks (list_any is_quote) (x ∷ xs ++ q ∷ ys) (any_in is_quote (x ∷ xs) q ys quote) refl refl refl refl))
exact_inner Header x xs q ys zs quote h = absurd h
exact_inner Other x xs q ys zs quote h = absurd h

pub inner_fits : (k : Kind) (x : ℕ) (xs : List ℕ) (q : ℕ) (ys zs : List ℕ) → is_quote q ≡ true → kind_of (x ∷ xs ++ q ∷ ys) ≡ Some k → fits k (x ∷ xs ++ q ∷ zs) ≡ true
inner_fits k x xs q ys zs quote e = exact_inner k x xs q ys zs quote (kind_exact (x ∷ xs ++ q ∷ ys) k e)

-- a `<` stands inside, and not first
abbrev less_inside : List ℕ → Bool
less_inside [] = false
less_inside (c ∷ cs) = not (c == less_than) && list_any (λ d. d == less_than) cs

less_follow : (last : ℕ) → may_follow last less_than ≡ false
less_follow last = refl

exact_inner_less : (k : Kind) (x : ℕ) (xs ys zs : List ℕ) → Exact k (x ∷ xs ++ less_than ∷ ys) → fits k (x ∷ xs ++ less_than ∷ zs) ≡ true
exact_inner_less Ident x xs ys zs h =
    absurd (clash (is_word less_than) (all_in is_word xs less_than ys (and_parts (is_nondigit x) (list_all is_word (xs ++ less_than ∷ ys)) h).1) refl)
exact_inner_less Number x xs ys zs h =
    let i = follow_in x xs less_than ys (and_parts (begins_number x (xs ++ less_than ∷ ys)) (all_follow x (xs ++ less_than ∷ ys)) h).1 in
    absurd (clash (may_follow i.0 less_than) i.1 (less_follow i.0))
exact_inner_less Char x xs ys zs h = quoted_on x xs less_than ys zs h
exact_inner_less Str x xs ys zs h = quoted_on x xs less_than ys zs h
exact_inner_less Punct x xs ys zs h = elim (cases_Bool (x == less_than)) [
  | inl is ↦ rw is (or-true (is_punctuator_text (x ∷ xs ++ less_than ∷ zs)))
  | inr other ↦
      let inside : less_inside (x ∷ xs ++ less_than ∷ ys) ≡ true = rw (other, any_in (λ d. d == less_than) xs less_than ys refl) refl in
      absurd (clash (is_punctuator_text (x ∷ xs ++ less_than ∷ ys)) h (punctuator-lacks less_inside (x ∷ xs ++ less_than ∷ ys) inside refl refl refl refl))
]
exact_inner_less Header x xs ys zs h = absurd h
exact_inner_less Other x xs ys zs h = absurd h

pub inner_less_fits : (k : Kind) (x : ℕ) (xs ys zs : List ℕ) → kind_of (x ∷ xs ++ less_than ∷ ys) ≡ Some k → fits k (x ∷ xs ++ less_than ∷ zs) ≡ true
inner_less_fits k x xs ys zs e = exact_inner_less k x xs ys zs (kind_exact (x ∷ xs ++ less_than ∷ ys) k e)

pub kind_fits : (text : List ℕ) (k : Kind) → kind_of text ≡ Some k → fits k text ≡ true
kind_fits text k e = exact_fits k text (kind_exact text k e)

-- ---- tokens that begin with `/` or `*`

pub some_kind : (o : Option Kind) → is_some o ≡ true → (k : Kind) × (o ≡ Some k)
some_kind None h = absurd (cc)
some_kind (Some k) h = (k, refl)

-- a text is one of two, if it begins with this character
abbrev one_of_two : ℕ → List ℕ → List ℕ → List ℕ → Bool
one_of_two c a b text = not (begins c text) || (bytes_eq text a || bytes_eq text b)

either_text : (a b text : List ℕ) → (bytes_eq text a || bytes_eq text b) ≡ true → (text ≡ a) ⊎ (text ≡ b)
either_text a b text h = elim (cases_Bool (bytes_eq text a)) [
  | inl first ↦ inl (bytes_eq-equal text a first)
  | inr other ↦ inr (bytes_eq-equal text b (rw other at h))
]

pub exact_slash : (k : Kind) (ds : List ℕ) → Exact k (slash ∷ ds) → (slash ∷ ds ≡ codes "/") ⊎ (slash ∷ ds ≡ codes "/=")
exact_slash Ident ds h = absurd (cc)
exact_slash Number ds h = absurd (cc)
exact_slash Char ds h = absurd (cc)
exact_slash Str ds h = absurd (cc)
exact_slash Punct ds h = either_text (codes "/") (codes "/=") (slash ∷ ds) (punctuator_has (one_of_two slash (codes "/") (codes "/=")) (slash ∷ ds) h refl refl refl refl)
exact_slash Header ds h = absurd h
exact_slash Other ds h = absurd h

pub exact_star : (k : Kind) (ds : List ℕ) → Exact k (star ∷ ds) → (star ∷ ds ≡ codes "*") ⊎ (star ∷ ds ≡ codes "*=")
exact_star Ident ds h = absurd (cc)
exact_star Number ds h = absurd (cc)
exact_star Char ds h = absurd (cc)
exact_star Str ds h = absurd (cc)
exact_star Punct ds h = either_text (codes "*") (codes "*=") (star ∷ ds) (punctuator_has (one_of_two star (codes "*") (codes "*=")) (star ∷ ds) h refl refl refl refl)
exact_star Header ds h = absurd h
exact_star Other ds h = absurd h

pub alone : (c : ℕ) (ds : List ℕ) → length (c ∷ ds) ≡ 1 → c ∷ ds ≡ c ∷ []
alone c [] h = refl
alone c (d ∷ ds) h = absurd (omega arith)
