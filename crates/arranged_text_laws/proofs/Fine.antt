-- How tokens other than odd ones begin and end: with characters that end no new-line, and with a `/` only where they are one.
use Rattle.std.proofs.Common.{◌≡◌, ℕ, Bool, true, false, not, ◌&&◌, ◌||◌, ◌==◌, List, [], ◌∷◌, Option, Some, None, codes, inl, inr, refl, sym, ap, subst, ◌∙◌, arith}
use Rattle.std.specs.Prelude.{◌⊎◌, unwrap_or}
use Rattle.std.specs.List.{list_all, list_any}
use Rattle.std.specs.Str.{bytes_eq}
use Rattle.std.proofs.lemmas.Bool.{cases_Bool, and_parts, or_cases, eqb-true}
use Rattle.std.proofs.lemmas.Bool.Decides.{nat_tests}
use Rattle.std.proofs.lemmas.Slice.Eq.{bytes_eq-Decides}
use Rattle.cs_base.specs.declared.tokens.Kind.{Kind}
use Rattle.cs_base.specs.declared.tokens.Kind.TheVariants.{Other}
use Rattle.lexer.specs.Characters.{line_feed, backslash, slash, double_quote, single_quote, full_stop, capital_l, is_word, is_nondigit, is_digit, is_sign, is_exponent_letter, begins}
use Rattle.lexer.specs.Spelling.{is_identifier_text, may_follow, all_follow, begins_with_digit, begins_number, is_number_text, is_end, closes, is_plain_char_text, is_plain_string_text, without_prefix, is_char_text, is_string_text, punctuators_of_one, punctuators_of_two, punctuators_of_three, punctuators_of_four, is_punctuator_text, kind_of, kind_in}
use Rattle.lexer.specs.Tokens.{kind_or_other}
use Rattle.arranged_text_laws.specs.Labels.{starts}
use Rattle.arranged_text_laws.specs.Seams.{is_plain, ends_plain}
use Rattle.arranged_text_laws.specs.Calm.{is_odd, ends_slash}

-- ---- characters

abbrev pub is_fine : ℕ → Bool
is_fine c = is_plain c && not (c == slash)

-- the last of these is fine, if there is one
abbrev pub ends_fine : List ℕ → Bool
ends_fine [] = true
ends_fine (c ∷ []) = is_fine c
ends_fine (c ∷ d ∷ cs) = ends_fine (d ∷ cs)

word_fine : (c : ℕ) → is_word c ≡ true → is_fine c ≡ true
word_fine c h = grind (arith, nat_tests)

nondigit_fine : (c : ℕ) → is_nondigit c ≡ true → is_fine c ≡ true
nondigit_fine c h = grind (arith, nat_tests)

digit_fine : (c : ℕ) → is_digit c ≡ true → is_fine c ≡ true
digit_fine c h = grind (arith, nat_tests)

sign_fine : (c : ℕ) → is_sign c ≡ true → is_fine c ≡ true
sign_fine c h = grind (arith, nat_tests)

stop_fine : (c : ℕ) → (c == full_stop) ≡ true → is_fine c ≡ true
stop_fine c h = subst (λ (d : ℕ). is_fine d ≡ true) (sym (eqb-true c full_stop h)) refl

follow_fine : (last c : ℕ) → may_follow last c ≡ true → is_fine c ≡ true
follow_fine last c h = elim (or_cases (is_word c || c == full_stop) (is_sign c && is_exponent_letter last) h) [
  | inl more ↦ elim (or_cases (is_word c) (c == full_stop) more) [
    | inl word ↦ word_fine c word
    | inr stop ↦ stop_fine c stop
  ]
  | inr sign ↦ sign_fine c (and_parts (is_sign c) (is_exponent_letter last) sign).0
]

-- ---- texts

-- A text of a token that is not odd.
pub record Fine (text : List ℕ) : Type 0 where
  pub first : starts is_plain text ≡ true
  pub last : ends_plain text ≡ true
  pub slashed : ends_slash text ≡ true → text ≡ codes "/"

fine_plain : (c : ℕ) → is_fine c ≡ true → is_plain c ≡ true
fine_plain c h = (and_parts (is_plain c) (not (c == slash)) h).0

fine_slash : (c : ℕ) → is_fine c ≡ true → (c == slash) ≡ false
fine_slash c h = not_true (c == slash) (and_parts (is_plain c) (not (c == slash)) h).1
  where
    not_true : (b : Bool) → not b ≡ true → b ≡ false
    not_true true h = absurd cc
    not_true false h = refl

ends_fine_plain : (cs : List ℕ) → ends_fine cs ≡ true → ends_plain cs ≡ true
ends_fine_plain [] h = refl
ends_fine_plain (c ∷ []) h = fine_plain c h
ends_fine_plain (c ∷ d ∷ cs) h = ends_fine_plain (d ∷ cs) h

ends_fine_slash : (cs : List ℕ) → ends_fine cs ≡ true → ends_slash cs ≡ false
ends_fine_slash [] h = refl
ends_fine_slash (c ∷ []) h = fine_slash c h
ends_fine_slash (c ∷ d ∷ cs) h = ends_fine_slash (d ∷ cs) h

fine_from : (c : ℕ) (cs : List ℕ) → is_fine c ≡ true → ends_fine (c ∷ cs) ≡ true → Fine (c ∷ cs)
fine_from c cs first last = record {
  first = fine_plain c first;
  last = ends_fine_plain (c ∷ cs) last;
  slashed = λ h. let nost : false ≡ true = sym (ends_fine_slash (c ∷ cs) last) ∙ h in absurd cc;
}

words_end : (c : ℕ) (cs : List ℕ) → is_fine c ≡ true → list_all is_word cs ≡ true → ends_fine (c ∷ cs) ≡ true
words_end c [] first h = first
words_end c (d ∷ cs) first h = let p = and_parts (is_word d) (list_all is_word cs) h in words_end d cs (word_fine d p.0) p.1

follow_end : (c : ℕ) (cs : List ℕ) → is_fine c ≡ true → all_follow c cs ≡ true → ends_fine (c ∷ cs) ≡ true
follow_end c [] first h = first
follow_end c (d ∷ cs) first h = let p = and_parts (may_follow c d) (all_follow d cs) h in follow_end d cs (follow_fine c d p.0) p.1

closes_end : (q : ℕ) (escaped : Bool) (b : ℕ) (cs : List ℕ) → is_fine q ≡ true → closes q escaped cs ≡ true → ends_fine (b ∷ cs) ≡ true
closes_end q escaped b [] fine h = absurd cc
closes_end q true b (c ∷ cs) fine h =
    let p = and_parts (not (c == line_feed)) (closes q false cs) h in
    closes_end q false c cs fine p.1
closes_end q false b (c ∷ cs) fine h = elim (cases_Bool (c == q)) [
  | inl quote ↦
      let over : is_end cs ≡ true = rw quote at h in
      ends_there c cs (subst (λ (d : ℕ). is_fine d ≡ true) (sym (eqb-true c q quote)) fine) over
  | inr other ↦
      let on : (not (c == line_feed) && closes q (c == backslash) cs) ≡ true = rw other at h in
      let p = and_parts (not (c == line_feed)) (closes q (c == backslash) cs) on in
      closes_end q (c == backslash) c cs fine p.1
]
  where
    ends_there : (c : ℕ) (cs : List ℕ) → is_fine c ≡ true → is_end cs ≡ true → ends_fine (c ∷ cs) ≡ true
    ends_there c [] fine h = fine
    ends_there c (d ∷ cs) fine h = absurd cc

-- the first character is plain and the last fine
abbrev Quoted : List ℕ → Type 0
Quoted [] = ⊥
Quoted (c ∷ cs) = (is_plain c ≡ true) × (ends_fine (c ∷ cs) ≡ true)

char_quoted : (text : List ℕ) → is_plain_char_text text ≡ true → Quoted text
char_quoted [] h = absurd cc
char_quoted (c ∷ cs) h =
    let p = and_parts (c == single_quote && not (begins single_quote cs)) (closes single_quote false cs) h in
    let q = and_parts (c == single_quote) (not (begins single_quote cs)) p.0 in
    (subst (λ (d : ℕ). is_plain d ≡ true) (sym (eqb-true c single_quote q.0)) refl, closes_end single_quote false c cs refl p.1)

string_quoted : (text : List ℕ) → is_plain_string_text text ≡ true → Quoted text
string_quoted [] h = absurd cc
string_quoted (c ∷ cs) h =
    let p = and_parts (c == double_quote) (closes double_quote false cs) h in
    (subst (λ (d : ℕ). is_plain d ≡ true) (sym (eqb-true c double_quote p.0)) refl, closes_end double_quote false c cs refl p.1)

-- one character more before it
quoted_behind : (c : ℕ) (cs : List ℕ) → is_plain c ≡ true → Quoted cs → Quoted (c ∷ cs)
quoted_behind c [] plain q = absurd q
quoted_behind c (d ∷ cs) plain q = (plain, q.1)

prefixed : (text : List ℕ) (test : List ℕ → Bool) → ((cs : List ℕ) → test cs ≡ true → Quoted cs) → test (without_prefix text) ≡ true → Quoted text
prefixed [] test h p = h [] p
prefixed (c ∷ cs) test h p = elim (cases_Bool (c == capital_l)) [
  | inl wide ↦ quoted_behind c cs (subst (λ (d : ℕ). is_plain d ≡ true) (sym (eqb-true c capital_l wide)) refl) (h cs (rw wide at p))
  | inr other ↦ h (c ∷ cs) (rw other at p)
]

quoted_fine : (text : List ℕ) → Quoted text → Fine text
quoted_fine [] q = absurd q
quoted_fine (c ∷ cs) q = record {
  first = q.0;
  last = ends_fine_plain (c ∷ cs) q.1;
  slashed = λ h. let nost : false ≡ true = sym (ends_fine_slash (c ∷ cs) q.1) ∙ h in absurd cc;
}

identifier_fine : (text : List ℕ) → is_identifier_text text ≡ true → Fine text
identifier_fine [] h = absurd cc
identifier_fine (c ∷ cs) h =
    let p = and_parts (is_nondigit c) (list_all is_word cs) h in
    let first = nondigit_fine c p.0 in
    fine_from c cs first (words_end c cs first p.1)

number_fine : (text : List ℕ) → is_number_text text ≡ true → Fine text
number_fine [] h = absurd cc
number_fine (c ∷ cs) h =
    let p = and_parts (begins_number c cs) (all_follow c cs) h in
    let first : is_fine c ≡ true = elim (or_cases (is_digit c) (c == full_stop && begins_with_digit cs) p.0) [
      | inl digit ↦ digit_fine c digit
      | inr stop ↦ stop_fine c (and_parts (c == full_stop) (begins_with_digit cs) stop).0
    ] in
    fine_from c cs first (follow_end c cs first p.1)

abbrev fine_test : List ℕ → Bool
fine_test t = starts is_plain t && (ends_plain t && (not (ends_slash t) || bytes_eq t (codes "/")))

tested : (text : List ℕ) → fine_test text ≡ true → Fine text
tested text h =
    let p = and_parts (starts is_plain text) (ends_plain text && (not (ends_slash text) || bytes_eq text (codes "/"))) h in
    let q = and_parts (ends_plain text) (not (ends_slash text) || bytes_eq text (codes "/")) p.1 in
    record {
      first = p.0;
      last = q.0;
      slashed = λ is. elim (or_cases (not (ends_slash text)) (bytes_eq text (codes "/")) q.1) [
        | inl none ↦ let nost : false ≡ true = rw is at none in absurd cc
        | inr one ↦ (bytes_eq-Decides text (codes "/")).0 one
      ];
    }

in_table : (text : List ℕ) (table : List (List ℕ)) → list_any (bytes_eq text) table ≡ true → list_all fine_test table ≡ true → fine_test text ≡ true
in_table text [] h all = absurd cc
in_table text (t ∷ table) h all =
    let p = and_parts (fine_test t) (list_all fine_test table) all in
    elim (or_cases (bytes_eq text t) (list_any (bytes_eq text) table) h) [
      | inl is ↦ ap fine_test ((bytes_eq-Decides text t).0 is) ∙ p.0
      | inr more ↦ in_table text table more p.1
    ]

punctuator_fine : (text : List ℕ) → is_punctuator_text text ≡ true → Fine text
unfolding is_punctuator_text
punctuator_fine text h =
    let one = list_any (bytes_eq text) punctuators_of_one in
    let two = list_any (bytes_eq text) punctuators_of_two in
    let three = list_any (bytes_eq text) punctuators_of_three in
    let four = list_any (bytes_eq text) punctuators_of_four in
    elim (some_of one two three four h) [
      | inl is ↦ tested text (in_table text punctuators_of_one is refl)
      | inr more ↦ elim more [
        | inl is ↦ tested text (in_table text punctuators_of_two is refl)
        | inr rest ↦ elim rest [
          | inl is ↦ tested text (in_table text punctuators_of_three is refl)
          | inr is ↦ tested text (in_table text punctuators_of_four is refl)
        ]
      ]
    ]
  where
    some_of : (a b c d : Bool) → (a || b || c || d) ≡ true → (a ≡ true) ⊎ ((b ≡ true) ⊎ ((c ≡ true) ⊎ (d ≡ true)))
    some_of true b c d h = inl refl
    some_of false true c d h = inr (inl refl)
    some_of false false true d h = inr (inr (inl refl))
    some_of false false false d h = inr (inr (inr h))

pub kind_fine : (text : List ℕ) (k : Kind) → kind_of text ≡ Some k → Fine text
unfolding kind_of
kind_fine text k h = elim (cases_Bool (is_identifier_text text)) [
  | inl is ↦ identifier_fine text is
  | inr a ↦ elim (cases_Bool (is_number_text text)) [
    | inl is ↦ number_fine text is
    | inr b ↦ elim (cases_Bool (is_char_text text)) [
      | inl is ↦ quoted_fine text (prefixed text is_plain_char_text char_quoted is)
      | inr c ↦ elim (cases_Bool (is_string_text text)) [
        | inl is ↦ quoted_fine text (prefixed text is_plain_string_text string_quoted is)
        | inr d ↦ elim (cases_Bool (is_punctuator_text text)) [
          | inl is ↦ punctuator_fine text is
          | inr e ↦ let nost : None ≡ Some k = rw (a, b, c, d, e) at h in absurd cc
        ]
      ]
    ]
  ]
]

-- a token that is not odd, where no header name may stand
pub spelled_fine : (text : List ℕ) → is_odd (kind_or_other false text) ≡ false → Fine text
unfolding kind_in
spelled_fine text even = of_option (kind_of text) refl
  where
    of_option : (o : Option Kind) → kind_of text ≡ o → Fine text
    of_option None e = let nost : true ≡ false = sym (ap (λ (o : Option Kind). is_odd (unwrap_or o Other)) e) ∙ even in absurd cc
    of_option (Some k) e = kind_fine text k e
