-- The first token of a text stays whatever stands behind it, where it ends before that.
use Rattle.std.proofs.Common.{◌≡◌, ℕ, ◌+◌, ◌≤◌, Bool, true, false, not, ◌&&◌, ◌||◌, ◌==◌, List, [], ◌∷◌, ◌++◌, length, drop, Option, Some, None, inl, inr, refl, sym, ap, ◌∙◌, arith}
use Rattle.std.specs.List.{prefix_len, list_all}
use Rattle.std.specs.Option.{option_map}
use Rattle.std.proofs.lemmas.Bool.{cases_Bool, and_parts, eqb-true}
use Rattle.std.proofs.lemmas.Bool.Decides.{nat_tests}
use Rattle.cs_base.proofs.BoolLemmas.{not_true as not-true}
use Rattle.lexer.specs.Characters.{line_feed, single_quote, capital_l, backslash, is_nondigit, is_digit, is_word, is_quote, is_on_line, begins}
use Rattle.lexer.specs.Spelling.{may_follow, begins_number, begins_with_digit, header_close, punctuators_of_one, punctuators_of_two, punctuators_of_three, punctuators_of_four}
use Rattle.lexer.specs.Tokens.{one_more}
use Rattle.lexer.specs.Front.{count_following, closing, quoted, quoted_kind, wide_front, header_closing, header_length, begins_with, begins_with_one, punctuator_length, plain_front, front_of}
use Rattle.lexer.proofs.LocalLemmas.{option-cases, quoted-local as quoted_within}
use Rattle.arranged_text_laws.specs.Settling.{is_stop, begins_stop, has_line_feed}

-- ---- stops

abbrev pub ends : List ℕ → List ℕ → Bool
ends [] ys = begins_stop ys
ends (x ∷ xs) ys = is_stop x || ends xs ys

stop-word : (c : ℕ) → is_stop c ≡ true → is_word c ≡ false
stop-word c h = grind (arith, nat_tests)

stop-digit : (c : ℕ) → is_stop c ≡ true → is_digit c ≡ false
stop-digit c h = grind (arith, nat_tests)

stop-quote : (c : ℕ) → is_stop c ≡ true → is_quote c ≡ false
stop-quote c h = grind (arith, nat_tests)

stop-follow : (last c : ℕ) → is_stop c ≡ true → may_follow last c ≡ false
stop-follow last c h = rw (stop-word c h, stop-point c h, stop-plus c h, stop-minus c h) refl
  where
    stop-point : (c : ℕ) → is_stop c ≡ true → (c == 46) ≡ false
    stop-point c h = grind (arith, nat_tests)

    stop-plus : (c : ℕ) → is_stop c ≡ true → (c == 43) ≡ false
    stop-plus c h = grind (arith, nat_tests)

    stop-minus : (c : ℕ) → is_stop c ≡ true → (c == 45) ≡ false
    stop-minus c h = grind (arith, nat_tests)

stop-apart : (y w : ℕ) → is_stop y ≡ true → is_stop w ≡ false → (y == w) ≡ false
stop-apart y w h k =
    elim (cases_Bool (y == w)) [
      | inl same ↦
          let e : y ≡ w = eqb-true y w same in
          let nost : true ≡ false = sym h ∙ ap is_stop e ∙ k in
          absurd cc
      | inr apart ↦ apart
    ]

later : (x : ℕ) (xs ys : List ℕ) → is_stop x ≡ false → ends (x ∷ xs) ys ≡ true → ends xs ys ≡ true
later x xs ys nost h = rw nost at h

-- ---- runs

none-here : (p : ℕ → Bool) (ys : List ℕ) → ((c : ℕ) → is_stop c ≡ true → p c ≡ false) → begins_stop ys ≡ true → prefix_len p ys ≡ 0
none-here p [] fails h = refl
none-here p (y ∷ ys) fails h = rw (fails y h) refl

pub prefix_alone : (p : ℕ → Bool) → ((c : ℕ) → is_stop c ≡ true → p c ≡ false) → (xs ys : List ℕ) → ends xs ys ≡ true → prefix_len p (xs ++ ys) ≡ prefix_len p xs
prefix_alone p fails [] ys h = none-here p ys fails h
prefix_alone p fails (x ∷ xs) ys h =
    elim (cases_Bool (is_stop x)) [
      | inl st ↦ rw (fails x st) refl
      | inr nost ↦ elim (cases_Bool (p x)) [
        | inl passes ↦ rw passes (ap (λ n. 1 + n) (prefix_alone p fails xs ys (later x xs ys nost h)))
        | inr stays ↦ rw stays refl
      ]
    ]

follow-here : (last : ℕ) (ys : List ℕ) → begins_stop ys ≡ true → count_following last ys ≡ 0
follow-here last [] h = refl
follow-here last (y ∷ ys) h = rw (stop-follow last y h) refl

count_alone : (last : ℕ) (xs ys : List ℕ) → ends xs ys ≡ true → count_following last (xs ++ ys) ≡ count_following last xs
count_alone last [] ys h = follow-here last ys h
count_alone last (x ∷ xs) ys h =
    elim (cases_Bool (is_stop x)) [
      | inl st ↦ rw (stop-follow last x st) refl
      | inr nost ↦ elim (cases_Bool (may_follow last x)) [
        | inl passes ↦ rw passes (ap (λ n. 1 + n) (count_alone x xs ys (later x xs ys nost h)))
        | inr stays ↦ rw stays refl
      ]
    ]

digit-here : (ys : List ℕ) → begins_stop ys ≡ true → begins_with_digit ys ≡ false
digit-here [] h = refl
digit-here (y ∷ ys) h = stop-digit y h

number_alone : (c : ℕ) (xs ys : List ℕ) → ends xs ys ≡ true → begins_number c (xs ++ ys) ≡ begins_number c xs
number_alone c [] ys h = rw (digit-here ys h) refl
number_alone c (x ∷ xs) ys h = refl

-- ---- punctuators, none of which has a stop behind its first character

abbrev plain_word : List ℕ → Bool
plain_word w = list_all (λ b. not (is_stop b)) w

word-here : (w : ℕ) (ws ys : List ℕ) → is_stop w ≡ false → begins_stop ys ≡ true → begins_with (w ∷ ws) ys ≡ false
word-here w ws [] k h = refl
word-here w ws (y ∷ ys) k h = rw (stop-apart y w h k) refl

word_alone : (w xs ys : List ℕ) → plain_word w ≡ true → ends xs ys ≡ true → begins_with w (xs ++ ys) ≡ begins_with w xs
word_alone [] xs ys plain h = refl
word_alone (w ∷ ws) [] ys plain h =
    let parts = and_parts (not (is_stop w)) (plain_word ws) plain in
    word-here w ws ys (not-true (is_stop w) parts.0) h
word_alone (w ∷ ws) (x ∷ xs) ys plain h =
    let parts = and_parts (not (is_stop w)) (plain_word ws) plain in
    elim (cases_Bool (is_stop x)) [
      | inl st ↦ rw (stop-apart x w st (not-true (is_stop w) parts.0)) refl
      | inr nost ↦ ap (λ b. x == w && b) (word_alone ws xs ys parts.1 (later x xs ys nost h))
    ]

first_alone : (c : ℕ) (w xs ys : List ℕ) → plain_word (drop 1 w) ≡ true → ends xs ys ≡ true → begins_with w (c ∷ (xs ++ ys)) ≡ begins_with w (c ∷ xs)
first_alone c [] xs ys plain h = refl
first_alone c (w ∷ ws) xs ys plain h = ap (λ b. c == w && b) (word_alone ws xs ys plain h)

table_alone : (c : ℕ) (xs ys : List ℕ) (table : List (List ℕ)) → list_all (λ w. plain_word (drop 1 w)) table ≡ true → ends xs ys ≡ true
    → begins_with_one table (c ∷ (xs ++ ys)) ≡ begins_with_one table (c ∷ xs)
table_alone c xs ys [] plain h = refl
table_alone c xs ys (w ∷ ws) plain h =
    let parts = and_parts (plain_word (drop 1 w)) (list_all (λ v. plain_word (drop 1 v)) ws) plain in
    rw (first_alone c w xs ys parts.0 h, table_alone c xs ys ws parts.1 h) refl

punctuator_alone : (c : ℕ) (xs ys : List ℕ) → ends xs ys ≡ true → punctuator_length (c ∷ (xs ++ ys)) ≡ punctuator_length (c ∷ xs)
unfolding punctuator_length
punctuator_alone c xs ys h =
    rw (
      table_alone c xs ys punctuators_of_four refl h,
      table_alone c xs ys punctuators_of_three refl h,
      table_alone c xs ys punctuators_of_two refl h,
      table_alone c xs ys punctuators_of_one refl h,
    ) refl

-- ---- what is asked for on the line: a line feed in front of it ends that

pub on_line_alone : (xs ys : List ℕ) → has_line_feed xs ≡ true → prefix_len is_on_line (xs ++ ys) ≡ prefix_len is_on_line xs
on_line_alone [] ys h = absurd cc
on_line_alone (x ∷ xs) ys h =
    elim (cases_Bool (x == line_feed)) [
      | inl ends_here ↦ rw ends_here refl
      | inr on ↦ rw on (ap (λ n. 1 + n) (on_line_alone xs ys (rw on at h)))
    ]

closing_line : (quote : ℕ) (escaped : Bool) (xs ys zs : List ℕ) → has_line_feed xs ≡ true → closing quote escaped (xs ++ zs) ≡ closing quote escaped (xs ++ ys)
closing_line quote escaped [] ys zs h = absurd cc
closing_line quote true (x ∷ xs) ys zs h =
    elim (cases_Bool (x == line_feed)) [
      | inl ends_here ↦ rw ends_here refl
      | inr on ↦ rw on (ap one_more (closing_line quote false xs ys zs (rw on at h)))
    ]
closing_line quote false (x ∷ xs) ys zs h =
    elim (cases_Bool (x == quote)) [
      | inl closed ↦ rw closed refl
      | inr open_still ↦ elim (cases_Bool (x == line_feed)) [
        | inl ends_here ↦ rw (open_still, ends_here) refl
        | inr on ↦ rw (open_still, on) (ap one_more (closing_line quote (x == backslash) xs ys zs (rw on at h)))
      ]
    ]

quoted_line : (quote : ℕ) (xs ys zs : List ℕ) → has_line_feed xs ≡ true → quoted quote (xs ++ zs) ≡ quoted quote (xs ++ ys)
quoted_line quote [] ys zs h = absurd cc
quoted_line quote (x ∷ xs) ys zs h = rw (closing_line quote false (x ∷ xs) ys zs h) refl

header_line : (close : ℕ) (xs ys zs : List ℕ) → has_line_feed xs ≡ true → header_closing close (xs ++ zs) ≡ header_closing close (xs ++ ys)
header_line close [] ys zs h = absurd cc
header_line close (x ∷ xs) ys zs h =
    elim (cases_Bool (x == close)) [
      | inl closed ↦ rw closed refl
      | inr open_still ↦ elim (cases_Bool (x == line_feed)) [
        | inl ends_here ↦ rw (open_still, ends_here) refl
        | inr on ↦ rw (open_still, on) (ap one_more (header_line close xs ys zs (rw on at h)))
      ]
    ]

header_length_line : (c : ℕ) (xs ys zs : List ℕ) → has_line_feed xs ≡ true → header_length c (xs ++ zs) ≡ header_length c (xs ++ ys)
header_length_line c [] ys zs h = absurd cc
header_length_line c (x ∷ xs) ys zs h = rw (header_line (header_close c) (x ∷ xs) ys zs h) refl

-- ---- what closes in a text closes there, whatever follows

pub one_more-some : (x : Option ℕ) (j : ℕ) → one_more x ≡ Some j → (i : ℕ) × (x ≡ Some i) × (j ≡ i + 1)
one_more-some None j is = absurd cc
one_more-some (Some i) j is = (i, refl, cc)

quoted-some : (quote : ℕ) (cs : List ℕ) (j : ℕ) → quoted quote cs ≡ Some j
    → ((quote == single_quote && begins single_quote cs) ≡ false) × (closing quote false cs ≡ Some j)
quoted-some quote cs j is =
    elim (cases_Bool (quote == single_quote && begins single_quote cs)) [
      | inl empty ↦ let none = rw empty at is in absurd cc
      | inr some ↦ (some, rw some at is)
    ]

-- a quoted text that closes in xs, or that a line feed in xs keeps open
pub quoted_stays : (quote : ℕ) (xs ys zs : List ℕ) → ((j : ℕ) → quoted quote (xs ++ ys) ≡ Some j → j ≤ length xs)
    → (quoted quote (xs ++ ys) ≡ None → has_line_feed xs ≡ true) → quoted quote (xs ++ zs) ≡ quoted quote (xs ++ ys)
quoted_stays quote xs ys zs closed_in open_in =
    elim (option-cases (quoted quote (xs ++ ys))) [
      | inl open_still ↦ quoted_line quote xs ys zs (open_in open_still)
      | inr closed ↦ quoted_within quote xs ys zs closed.0 closed.1 (closed_in closed.0 closed.1) ∙ sym closed.1
    ]

-- ---- the first token

-- quotes close alike behind c and xs, and behind an `L` there
pub record Quotes (c : ℕ) (xs ys zs : List ℕ) : Type 0 where
  pub own : is_quote c ≡ true → quoted c (xs ++ zs) ≡ quoted c (xs ++ ys)
  pub wide : (q : ℕ) (ds : List ℕ) → xs ≡ q ∷ ds → (c == capital_l && is_quote q) ≡ true → quoted q (ds ++ zs) ≡ quoted q (ds ++ ys)

wide_none : (c : ℕ) (ys : List ℕ) → begins_stop ys ≡ true → wide_front c ys ≡ None
wide_none c [] h = refl
wide_none c (y ∷ ys) h =
    elim (cases_Bool (c == capital_l)) [ inl l ↦ rw (l, stop-quote y h) refl | inr nost ↦ rw nost refl ]

wide_same : (c : ℕ) (xs ys zs : List ℕ) → ends xs ys ≡ true → ends xs zs ≡ true → Quotes c xs ys zs → wide_front c (xs ++ zs) ≡ wide_front c (xs ++ ys)
wide_same c [] ys zs h k quotes = wide_none c zs k ∙ sym (wide_none c ys h)
wide_same c (q ∷ ds) ys zs h k quotes =
    elim (cases_Bool (c == capital_l && is_quote q)) [
      | inl wide ↦ rw wide (ap (option_map (λ n. (quoted_kind q, n + 1))) (quotes.wide q ds refl wide))
      | inr narrow ↦ rw narrow refl
    ]

pub plain_same : (c : ℕ) (xs ys zs : List ℕ) → ends xs ys ≡ true → ends xs zs ≡ true → Quotes c xs ys zs → plain_front c (xs ++ zs) ≡ plain_front c (xs ++ ys)
unfolding plain_front
plain_same c xs ys zs h k quotes =
    let words : prefix_len is_word (xs ++ zs) ≡ prefix_len is_word (xs ++ ys) = prefix_alone is_word stop-word xs zs k ∙ sym (prefix_alone is_word stop-word xs ys h) in
    let number : begins_number c (xs ++ zs) ≡ begins_number c (xs ++ ys) = number_alone c xs zs k ∙ sym (number_alone c xs ys h) in
    let follow : count_following c (xs ++ zs) ≡ count_following c (xs ++ ys) = count_alone c xs zs k ∙ sym (count_alone c xs ys h) in
    let sign : punctuator_length (c ∷ (xs ++ zs)) ≡ punctuator_length (c ∷ (xs ++ ys)) = punctuator_alone c xs zs k ∙ sym (punctuator_alone c xs ys h) in
    elim (cases_Bool (is_nondigit c)) [
      | inl letter ↦ rw (letter, wide_same c xs ys zs h k quotes, words) refl
      | inr other ↦ elim (cases_Bool (is_quote c)) [
        | inl quote ↦ rw (other, number, follow, quote, quotes.own quote) refl
        | inr no_quote ↦ rw (other, number, follow, no_quote, sign) refl
      ]
    ]

quotes_line : (c : ℕ) (xs ys zs : List ℕ) → has_line_feed xs ≡ true → Quotes c xs ys zs
quotes_line c xs ys zs line = record {
  own = λ quote. quoted_line c xs ys zs line;
  wide = λ q ds is wide.
      let parts = and_parts (c == capital_l) (is_quote q) wide in
      let on = quote-line q parts.1 in
      let there : has_line_feed (q ∷ ds) ≡ true = ap has_line_feed (sym is) ∙ line in
      quoted_line q ds ys zs (rw on at there);
}
  where
    quote-line : (q : ℕ) → is_quote q ≡ true → (q == line_feed) ≡ false
    quote-line q h = grind (arith, nat_tests)

pub front_line : (header : Bool) (c : ℕ) (xs ys zs : List ℕ) → ends xs ys ≡ true → ends xs zs ≡ true → has_line_feed xs ≡ true
    → front_of header c (xs ++ zs) ≡ front_of header c (xs ++ ys)
unfolding front_of
front_line true c xs ys zs h k line =
    rw (header_length_line c xs ys zs line, plain_same c xs ys zs h k (quotes_line c xs ys zs line)) refl
front_line false c xs ys zs h k line = plain_same c xs ys zs h k (quotes_line c xs ys zs line)
