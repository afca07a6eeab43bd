-- The kinds of the fronts of a text, by how it begins.
use Rattle.std.proofs.Common.{◌≡◌, ℕ, zero, suc, ◌+◌, ◌<◌, ◌≤◌, Bool, true, false, ◌&&◌, ◌==◌, nat_le, List, [], ◌∷◌, length, take, Option, Some, None, is_some, unwrap_or, IfSome, if◌then◌else◌, inl, inr, refl, ◌∙◌, arith}
use Rattle.std.proofs.lemmas.Bool.{cases_Bool, cases_eq, ne_eqb, eq-eqb, leb-true, leb-false}
use Rattle.std.proofs.lemmas.Bool.Decides.{nat_tests}
use Rattle.std.proofs.lemmas.List.Sums.{prefix_len-le-length}
use Rattle.std.specs.List.{list_all, prefix_len}
use Rattle.std.specs.Option.{option_map}
use Rattle.std.proofs.Math.Bool.{and-false}
use Rattle.cs_base.specs.declared.tokens.Kind.{Kind}
use Rattle.cs_base.specs.declared.tokens.Kind.TheVariants.{Ident, Number, Char, Str, Punct, Other, Header}
use Rattle.lexer.specs.Characters.{single_quote, double_quote, capital_l, is_nondigit, is_quote, is_word}
use Rattle.lexer.specs.Spelling.{all_follow, begins_number, is_plain_char_text, is_plain_string_text, is_punctuator_text, punctuators_of_one, punctuators_of_two, punctuators_of_three, punctuators_of_four, kind_of, kind_in}
use Rattle.lexer.specs.Tokens.{longest, front_length}
use Rattle.lexer.specs.Front.{quoted, quoted_kind, quoted_front, wide_front, header_length, count_following, begins_with_one, punctuator_length, punctuator_front, plain_front, or_header, front_of, IsFront}
use Rattle.lexer.proofs.RunLemmas.{list_all-prefix, list_all-longer, all_follow-prefix, all_follow-longer, count_following-within, begins_number-prefix, begins_number-longer, begins_number-none}
use Rattle.lexer.proofs.TableLemmas.{nondigit-punctuator, quote-punctuator, number-punctuator, punctuator-at, sign_at, table-within}
use Rattle.lexer.proofs.FrontLemmas.{is_at, plain_char-at, plain_string-at, header-at, quoted-within, header_length-within}

-- Classes of characters.

nondigit-number : (c : ℕ) (cs : List ℕ) → is_nondigit c ≡ true → begins_number c cs ≡ false
nondigit-number c cs h = grind (arith, nat_tests)

pub quote-nondigit : (c : ℕ) → is_quote c ≡ true → is_nondigit c ≡ false
quote-nondigit c h = grind (arith, nat_tests)

pub quote-word : (c : ℕ) → is_quote c ≡ true → is_word c ≡ false
quote-word c h = grind (arith, nat_tests)

pub quote-number : (c : ℕ) (cs : List ℕ) → is_quote c ≡ true → begins_number c cs ≡ false
quote-number c cs h = grind (arith, nat_tests)

quote-wide : (c : ℕ) → is_quote c ≡ true → (c == capital_l) ≡ false
quote-wide c h = grind (arith, nat_tests)

nondigit-single : (c : ℕ) → is_nondigit c ≡ true → (c == single_quote) ≡ false
nondigit-single c h = grind (arith, nat_tests)

pub nondigit-double : (c : ℕ) → is_nondigit c ≡ true → (c == double_quote) ≡ false
nondigit-double c h = grind (arith, nat_tests)

other-wide : (c : ℕ) → is_nondigit c ≡ false → (c == capital_l) ≡ false
other-wide c h = grind (arith, nat_tests)

number-single : (c : ℕ) (cs : List ℕ) → begins_number c cs ≡ true → (c == single_quote) ≡ false
number-single c cs h = grind (arith, nat_tests)

number-double : (c : ℕ) (cs : List ℕ) → begins_number c cs ≡ true → (c == double_quote) ≡ false
number-double c cs h = grind (arith, nat_tests)

other-single : (c : ℕ) → is_quote c ≡ false → (c == single_quote) ≡ false
other-single c h = grind (arith, nat_tests)

other-double : (c : ℕ) → is_quote c ≡ false → (c == double_quote) ≡ false
other-double c h = grind (arith, nat_tests)

-- Longest fronts.

-- Of the fronts of at most m characters behind the first, that of n is the longest that is a token, and
-- has this kind; where none is, n is 0 and the kind is `Other`.
pub record IsLongest (kind_at : ℕ → Option Kind) (m : ℕ) (kind : Kind) (n : ℕ) : Type 0 where
  pub spelled : unwrap_or (kind_at n) Other ≡ kind
  pub some : 1 ≤ n → is_some (kind_at n) ≡ true
  pub within : n ≤ m
  pub longer : (k : ℕ) → n < k → k ≤ m → kind_at k ≡ None

longest-is : (header : Bool) (c : ℕ) (cs : List ℕ) (m n : ℕ) → n ≤ m
    → (1 ≤ n → is_some (kind_in header (c ∷ take n cs)) ≡ true)
    → ((k : ℕ) → n < k → k ≤ m → kind_in header (c ∷ take k cs) ≡ None)
    → longest header (suc m) (c ∷ cs) ≡ suc n
longest-is header c cs zero n within some longer =
    let none : n ≡ 0 = omega arith in
    elim (cases_Bool (is_some (kind_in header (c ∷ [])))) [ inl is ↦ rw (none, is) refl | inr is_not ↦ rw (none, is_not) refl ]
longest-is header c cs (suc m) n within some longer =
    elim (cases_eq n (suc m)) [
      | inl all ↦
          let whole : is_some (kind_in header (c ∷ take (suc m) cs)) ≡ true = rw all at (some (omega arith)) in
          rw (whole, all) refl
      | inr less ↦
          let shorter = longer (suc m) (omega arith) (omega arith) in
          rw shorter (longest-is header c cs m n (omega arith) some (λ k h l. longer k h (omega arith)))
    ]

IsFront-longest : (header : Bool) (c : ℕ) (cs : List ℕ) (kind : Kind) (n : ℕ)
    → IsLongest (λ k. kind_in header (c ∷ take k cs)) (length cs) kind n → IsFront header c cs kind n
unfolding front_length
IsFront-longest header c cs kind n is = record {
  spelled = is.spelled;
  longest = longest-is header c cs (length cs) n is.within is.some is.longer;
  within = is.within;
}

-- Identifiers.

kind_of-words : (c : ℕ) (ws : List ℕ) → is_nondigit c ≡ true → list_all is_word ws ≡ true → kind_of (c ∷ ws) ≡ Some Ident
unfolding kind_of
kind_of-words c ws letter words = rw (letter, words) refl

-- a text that begins with a nondigit, and is no identifier and no wide quoted text
kind_of-no_words : (c : ℕ) (ws : List ℕ) → is_nondigit c ≡ true → list_all is_word ws ≡ false
    → is_plain_char_text (if c == capital_l then ws else c ∷ ws) ≡ false
    → is_plain_string_text (if c == capital_l then ws else c ∷ ws) ≡ false → kind_of (c ∷ ws) ≡ None
unfolding kind_of
kind_of-no_words c ws letter others no_char no_string =
    rw (letter, others, nondigit-number c ws letter, no_char, no_string, nondigit-punctuator c ws letter) refl

-- what stands between these quotes, if that is all of it
abbrev quoted_at : ℕ → Bool → Option Kind
quoted_at q whole = if whole then Some (quoted_kind q) else None

either_quote : (q : ℕ) (whole : Bool) → is_quote q ≡ true
    → (if (q == single_quote && whole) then Some Char else (if (q == double_quote && whole) then Some Str else None))
    ≡ quoted_at q whole
either_quote q whole quote =
    elim (cases_Bool (q == single_quote)) [
      | inl single ↦ rw single (elim (cases_Bool whole) [
        | inl all ↦ rw all refl
        | inr part ↦ rw part (elim (cases_Bool (q == double_quote)) [ inl double ↦ rw double refl | inr other ↦ rw other refl ])
      ])
      | inr other ↦
          let double : (q == double_quote) ≡ true = rw other at quote in
          rw (other, double) refl
    ]

kind_of-quoted : (q : ℕ) (cs : List ℕ) (k : ℕ) → is_quote q ≡ true → k ≤ length cs
    → kind_of (q ∷ take k cs) ≡ quoted_at q (is_at k (quoted q cs))
unfolding kind_of
kind_of-quoted q cs k quote within =
    rw (
      quote-nondigit q quote,
      quote-number q (take k cs) quote,
      quote-wide q quote,
      plain_char-at q cs k within,
      plain_string-at q cs k within,
      quote-punctuator q (take k cs) quote,
    )
    (either_quote q (is_at k (quoted q cs)) quote)

-- `L`, a quote and what follows
kind_of-wide : (c q : ℕ) (ds : List ℕ) (k : ℕ) → is_nondigit c ≡ true → (c == capital_l) ≡ true → is_quote q ≡ true
    → k ≤ length ds → kind_of (c ∷ q ∷ take k ds) ≡ quoted_at q (is_at k (quoted q ds))
unfolding kind_of
kind_of-wide c q ds k letter wide quote within =
    rw (
      letter,
      quote-word q quote,
      nondigit-number c (q ∷ take k ds) letter,
      wide,
      plain_char-at q ds k within,
      plain_string-at q ds k within,
      nondigit-punctuator c (q ∷ take k ds) letter,
    )
    (either_quote q (is_at k (quoted q ds)) quote)

-- the longest front of what begins with a quote, by where that closes
quoted-longest : (q : ℕ) (kind_at : ℕ → Option Kind) (m : ℕ) (x : Option ℕ) → IfSome x (λ n. n ≤ m)
    → ((k : ℕ) → k ≤ m → kind_at k ≡ quoted_at q (is_at k x))
    → IsLongest kind_at m (unwrap_or {T = Kind × ℕ} (option_map (λ n. (quoted_kind q, n)) x) (Other, 0)).0
    (unwrap_or {T = Kind × ℕ} (option_map (λ n. (quoted_kind q, n)) x) (Other, 0)).1
quoted-longest q kind_at m None within kinds = record {
  spelled = rw (kinds 0 (omega arith)) refl;
  some = λ h. absurd (omega arith);
  within = omega arith;
  longer = λ k h l. kinds k l;
}
quoted-longest q kind_at m (Some n) within kinds =
    let same : (n == n) ≡ true = eq-eqb n n refl in
    record {
      spelled = rw (kinds n within, same) refl;
      some = λ h. rw (kinds n within, same) refl;
      within = within;
      longer = λ k h l. let other : (n == k) ≡ false = ne_eqb n k (λ e. omega arith) in rw (kinds k l, other) refl;
    }

quote-longest : (q : ℕ) (cs : List ℕ) → is_quote q ≡ true
    → IsLongest (λ k. kind_of (q ∷ take k cs)) (length cs) (unwrap_or {T = Kind × ℕ} (quoted_front q cs) (Other, 0)).0
    (unwrap_or {T = Kind × ℕ} (quoted_front q cs) (Other, 0)).1
quote-longest q cs quote =
    quoted-longest q (λ k. kind_of (q ∷ take k cs)) (length cs) (quoted q cs) (quoted-within q cs)
    (λ k l. kind_of-quoted q cs k quote l)

-- the longest front of a nondigit and what follows, where no wide quoted text begins
words-longest : (c : ℕ) (cs : List ℕ) → is_nondigit c ≡ true
    → ((k : ℕ) → prefix_len is_word cs < k → k ≤ length cs → list_all is_word (take k cs) ≡ false → kind_of (c ∷ take k cs) ≡ None)
    → IsLongest (λ k. kind_of (c ∷ take k cs)) (length cs) Ident (prefix_len is_word cs)
words-longest c cs letter others =
    let is = kind_of-words c (take (prefix_len is_word cs) cs) letter (list_all-prefix is_word cs) in
    record {
      spelled = rw is refl;
      some = λ h. rw is refl;
      within = prefix_len-le-length is_word cs;
      longer = λ k h l. others k h l (list_all-longer is_word cs k h l);
    }

-- a nondigit other than `L`
kind_of-narrow : (c : ℕ) (ws : List ℕ) → is_nondigit c ≡ true → (c == capital_l) ≡ false → list_all is_word ws ≡ false
    → kind_of (c ∷ ws) ≡ None
kind_of-narrow c ws letter narrow others =
    kind_of-no_words c ws letter others (rw (narrow, nondigit-single c letter) refl) (rw (narrow, nondigit-double c letter) refl)

-- `L` and no quote
kind_of-wide_none : (c d : ℕ) (ws : List ℕ) → is_nondigit c ≡ true → (c == capital_l) ≡ true → is_quote d ≡ false
    → list_all is_word (d ∷ ws) ≡ false → kind_of (c ∷ d ∷ ws) ≡ None
kind_of-wide_none c d ws letter wide other others =
    kind_of-no_words c (d ∷ ws) letter others (rw (wide, other-single d other) refl) (rw (wide, other-double d other) refl)

wide-other : (c q : ℕ) (ds : List ℕ) (k : ℕ) → is_nondigit c ≡ true → (c == capital_l) ≡ true → is_quote q ≡ false
    → list_all is_word (take k (q ∷ ds)) ≡ false → kind_of (c ∷ take k (q ∷ ds)) ≡ None
wide-other c q ds zero letter wide other others = absurd cc
wide-other c q ds (suc k) letter wide other others = kind_of-wide_none c q (take k ds) letter wide other others

wide-none : (c q : ℕ) (ds : List ℕ) (k : ℕ) → is_nondigit c ≡ true
    → ((j : ℕ) → j ≤ length ds → kind_of (c ∷ q ∷ take j ds) ≡ None) → 1 ≤ k → k ≤ suc (length ds)
    → kind_of (c ∷ take k (q ∷ ds)) ≡ None
wide-none c q ds zero letter kinds some within = absurd (omega arith)
wide-none c q ds (suc k) letter kinds some within = kinds k (omega arith)

wide-longer : (c q : ℕ) (ds : List ℕ) (n k : ℕ)
    → ((j : ℕ) → j ≤ length ds → kind_of (c ∷ q ∷ take j ds) ≡ quoted_at q (n == j)) → suc n < k → k ≤ suc (length ds)
    → kind_of (c ∷ take k (q ∷ ds)) ≡ None
wide-longer c q ds n zero kinds longer within = absurd (omega arith)
wide-longer c q ds n (suc k) kinds longer within =
    let other : (n == k) ≡ false = ne_eqb n k (λ e. omega arith) in
    kinds k (omega arith) ∙ rw other refl

-- the longest front of `L`, a quote and what follows, by where that closes
wide-longest : (c q : ℕ) (ds : List ℕ) (x : Option ℕ) → is_nondigit c ≡ true → (c == capital_l) ≡ true → is_quote q ≡ true
    → IfSome x (λ n. n ≤ length ds)
    → ((k : ℕ) → k ≤ length ds → kind_of (c ∷ q ∷ take k ds) ≡ quoted_at q (is_at k x))
    → IsLongest (λ k. kind_of (c ∷ take k (q ∷ ds))) (suc (length ds))
    (unwrap_or {T = Kind × ℕ} (option_map (λ n. (quoted_kind q, n + 1)) x) (Ident, prefix_len is_word (q ∷ ds))).0
    (unwrap_or {T = Kind × ℕ} (option_map (λ n. (quoted_kind q, n + 1)) x) (Ident, prefix_len is_word (q ∷ ds))).1
wide-longest c q ds None letter wide quote within kinds =
    words-longest c (q ∷ ds) letter (λ k h l others. wide-none c q ds k letter kinds (omega arith) l)
wide-longest c q ds (Some n) letter wide quote within kinds =
    let same : (n == n) ≡ true = eq-eqb n n refl in
    let more : n + 1 ≡ suc n = omega arith in
    record {
      spelled = rw (more, kinds n within, same) refl;
      some = λ h. rw (more, kinds n within, same) refl;
      within = omega arith;
      longer = λ k h l. wide-longer c q ds n k kinds (omega arith) l;
    }

nondigit-longest : (c : ℕ) (cs : List ℕ) → is_nondigit c ≡ true
    → IsLongest (λ k. kind_of (c ∷ take k cs)) (length cs) (unwrap_or {T = Kind × ℕ} (wide_front c cs) (Ident, prefix_len is_word cs)).0
    (unwrap_or {T = Kind × ℕ} (wide_front c cs) (Ident, prefix_len is_word cs)).1
nondigit-longest c [] letter =
    words-longest c [] letter (λ k h l _. absurd (omega arith))
nondigit-longest c (q ∷ ds) letter =
    elim (cases_Bool (c == capital_l)) [
      | inr narrow ↦ rw narrow (words-longest c (q ∷ ds) letter (λ k h l others. kind_of-narrow c (take k (q ∷ ds)) letter narrow others))
      | inl wide ↦ elim (cases_Bool (is_quote q)) [
        | inr other ↦ rw (wide, other) (words-longest c (q ∷ ds) letter (λ k h l others. wide-other c q ds k letter wide other others))
        | inl quote ↦ rw (wide, quote) (wide-longest c q ds (quoted q ds) letter wide quote (quoted-within q ds) (λ k l. kind_of-wide c q ds k letter wide quote l))
      ]
    ]

-- Numbers.

kind_of-number : (c : ℕ) (ws : List ℕ) → is_nondigit c ≡ false → begins_number c ws ≡ true → all_follow c ws ≡ true
    → kind_of (c ∷ ws) ≡ Some Number
unfolding kind_of
kind_of-number c ws other begins follow = rw (other, begins, follow) refl

kind_of-no_number : (c : ℕ) (ws : List ℕ) → is_nondigit c ≡ false → begins_number c ws ≡ true → all_follow c ws ≡ false
    → kind_of (c ∷ ws) ≡ None
unfolding kind_of
kind_of-no_number c ws other begins stops =
    rw (other, begins, stops, other-wide c other, number-single c ws begins, number-double c ws begins, number-punctuator c ws begins) refl

number-longest : (c : ℕ) (cs : List ℕ) → is_nondigit c ≡ false → begins_number c cs ≡ true
    → IsLongest (λ k. kind_of (c ∷ take k cs)) (length cs) Number (count_following c cs)
number-longest c cs other begins =
    let is = kind_of-number c (take (count_following c cs) cs) other (begins_number-prefix c cs begins) (all_follow-prefix c cs) in
    record {
      spelled = rw is refl;
      some = λ h. rw is refl;
      within = count_following-within c cs;
      longer = λ k h l. kind_of-no_number c (take k cs) other (begins_number-longer c cs k (omega arith) begins)
          (all_follow-longer c cs k h l);
    }

-- Punctuators.

kind_of-sign : (c : ℕ) (ws : List ℕ) (sign : Bool) → is_nondigit c ≡ false → begins_number c ws ≡ false → is_quote c ≡ false
    → is_punctuator_text (c ∷ ws) ≡ sign → kind_of (c ∷ ws) ≡ (if sign then Some Punct else None)
unfolding kind_of
kind_of-sign c ws sign other no_number no_quote is =
    rw (other, no_number, other-wide c other, other-single c no_quote, other-double c no_quote, is) refl

-- the length of the longest punctuator in front, by which lengths one has
abbrev sign_length : Bool → Bool → Bool → Bool → ℕ
sign_length ones twos threes fours =
    if fours then 4 else (if threes then 3 else (if twos then 2 else (if ones then 1 else 0)))

sign_none : (k : ℕ) (b : Bool) (n : ℕ) → (k ≡ n → ⊥) → (k == n && b) ≡ false
sign_none k b n apart = rw (ne_eqb k n apart) refl

sign-longest : (kind_at : ℕ → Option Kind) (m : ℕ) (ones twos threes fours : Bool)
    → (twos ≡ true → 1 ≤ m) → (threes ≡ true → 2 ≤ m) → (fours ≡ true → 3 ≤ m)
    → ((k : ℕ) → k ≤ m → kind_at k ≡ (if sign_at ones twos threes fours (suc k) then Some Punct else None))
    → IsLongest kind_at m (punctuator_front (sign_length ones twos threes fours)).0
    (punctuator_front (sign_length ones twos threes fours)).1
sign-longest kind_at m ones twos threes true two three four kinds =
    let within = four refl in
    let is : sign_at ones twos threes true 4 ≡ true = refl in
    record {
      spelled = rw (kinds 3 within) refl;
      some = λ h. rw (kinds 3 within) refl;
      within = within;
      longer = λ k h l. rw (kinds k l, sign_none (suc k) ones 1 (λ e. omega arith), sign_none (suc k) twos 2 (λ e. omega arith), sign_none (suc k) threes 3 (λ e. omega arith), sign_none (suc k) true 4 (λ e. omega arith)) refl;
    }
sign-longest kind_at m ones twos true false two three four kinds =
    let within = three refl in
    record {
      spelled = rw (kinds 2 within) refl;
      some = λ h. rw (kinds 2 within) refl;
      within = within;
      longer = λ k h l. rw (kinds k l, sign_none (suc k) ones 1 (λ e. omega arith), sign_none (suc k) twos 2 (λ e. omega arith), sign_none (suc k) true 3 (λ e. omega arith), and-false (suc k == 4)) refl;
    }
sign-longest kind_at m ones true false false two three four kinds =
    let within = two refl in
    record {
      spelled = rw (kinds 1 within) refl;
      some = λ h. rw (kinds 1 within) refl;
      within = within;
      longer = λ k h l. rw (kinds k l, sign_none (suc k) ones 1 (λ e. omega arith), sign_none (suc k) true 2 (λ e. omega arith), and-false (suc k == 3), and-false (suc k == 4)) refl;
    }
sign-longest kind_at m true false false false two three four kinds = record {
  spelled = rw (kinds 0 (omega arith)) refl;
  some = λ h. absurd (omega arith);
  within = omega arith;
  longer = λ k h l. rw (kinds k l, sign_none (suc k) true 1 (λ e. omega arith), and-false (suc k == 2), and-false (suc k == 3), and-false (suc k == 4)) refl;
}
sign-longest kind_at m false false false false two three four kinds = record {
  spelled = rw (kinds 0 (omega arith)) refl;
  some = λ h. absurd (omega arith);
  within = omega arith;
  longer = λ k h l. rw (kinds k l, and-false (suc k == 1), and-false (suc k == 2), and-false (suc k == 3), and-false (suc k == 4)) refl;
}

punctuator-longest : (c : ℕ) (cs : List ℕ) → is_nondigit c ≡ false → begins_number c cs ≡ false → is_quote c ≡ false
    → IsLongest (λ k. kind_of (c ∷ take k cs)) (length cs) (punctuator_front (punctuator_length (c ∷ cs))).0
    (punctuator_front (punctuator_length (c ∷ cs))).1
unfolding punctuator_length
punctuator-longest c cs other no_number no_quote =
    sign-longest (λ k. kind_of (c ∷ take k cs)) (length cs)
    (begins_with_one punctuators_of_one (c ∷ cs)) (begins_with_one punctuators_of_two (c ∷ cs))
    (begins_with_one punctuators_of_three (c ∷ cs)) (begins_with_one punctuators_of_four (c ∷ cs))
    (λ h. let w = table-within 2 (c ∷ cs) punctuators_of_two refl h in omega arith)
    (λ h. let w = table-within 3 (c ∷ cs) punctuators_of_three refl h in omega arith)
    (λ h. let w = table-within 4 (c ∷ cs) punctuators_of_four refl h in omega arith)
    (λ k l. kind_of-sign c (take k cs) _ other (begins_number-none c cs k no_number) no_quote (punctuator-at (suc k) (c ∷ cs) (omega arith)))

-- Header names.

header-longest : (kind_at both_at : ℕ → Option Kind) (m : ℕ) (x : Option ℕ) (front : Kind × ℕ) → IfSome x (λ n. n ≤ m)
    → ((k : ℕ) → k ≤ m → both_at k ≡ (if is_at k x then Some Header else kind_at k))
    → IsLongest kind_at m front.0 front.1 → IsLongest both_at m (or_header x front).0 (or_header x front).1
header-longest kind_at both_at m None front within kinds is = record {
  spelled = rw (kinds front.1 is.within) is.spelled;
  some = λ h. rw (kinds front.1 is.within) (is.some h);
  within = is.within;
  longer = λ k h l. rw (kinds k l) (is.longer k h l);
}
header-longest kind_at both_at m (Some n) front within kinds is =
    let same : (n == n) ≡ true = eq-eqb n n refl in
    elim (cases_Bool (nat_le front.1 n)) [
      | inl reached ↦
          let order = leb-true front.1 n reached in
          rw reached (record {
            spelled = rw (kinds n within, same) refl;
            some = λ h. rw (kinds n within, same) refl;
            within = within;
            longer = λ k h l. let other : (n == k) ≡ false = ne_eqb n k (λ e. omega arith) in
                rw (kinds k l, other) (is.longer k (omega arith) l);
          })
      | inr shorter ↦
          let order = leb-false front.1 n shorter in
          let apart : (n == front.1) ≡ false = ne_eqb n front.1 (λ e. omega arith) in
          rw shorter (record {
            spelled = rw (kinds front.1 is.within, apart) is.spelled;
            some = λ h. rw (kinds front.1 is.within, apart) (is.some h);
            within = is.within;
            longer = λ k h l. let other : (n == k) ≡ false = ne_eqb n k (λ e. omega arith) in
                rw (kinds k l, other) (is.longer k h l);
          })
    ]

kind_in-header : (c : ℕ) (cs : List ℕ) (k : ℕ) → k ≤ length cs
    → kind_in true (c ∷ take k cs) ≡ (if is_at k (header_length c cs) then Some Header else kind_of (c ∷ take k cs))
unfolding kind_in
kind_in-header c cs k within = rw (header-at c cs k within) refl

pub kind_in-plain : (text : List ℕ) → kind_in false text ≡ kind_of text
unfolding kind_in
kind_in-plain text = refl

-- Fronts.

plain_front-longest : (c : ℕ) (cs : List ℕ)
    → IsLongest (λ k. kind_of (c ∷ take k cs)) (length cs) (plain_front c cs).0 (plain_front c cs).1
unfolding plain_front
plain_front-longest c cs =
    elim (cases_Bool (is_nondigit c)) [
      | inl letter ↦ rw letter (nondigit-longest c cs letter)
      | inr other ↦ elim (cases_Bool (begins_number c cs)) [
        | inl begins ↦ rw (other, begins) (number-longest c cs other begins)
        | inr no_number ↦ elim (cases_Bool (is_quote c)) [
          | inl quote ↦ rw (other, no_number, quote) (quote-longest c cs quote)
          | inr no_quote ↦ rw (other, no_number, no_quote) (punctuator-longest c cs other no_number no_quote)
        ]
      ]
    ]

-- what is no identifier, no pp-number and no quoted text
pub plain_front-sign : (c : ℕ) (cs : List ℕ) → is_nondigit c ≡ false → begins_number c cs ≡ false → is_quote c ≡ false
    → plain_front c cs ≡ punctuator_front (punctuator_length (c ∷ cs))
unfolding plain_front
plain_front-sign c cs other no_number no_quote = rw (other, no_number, no_quote) refl

-- what one pass reads is the longest front that is a token
pub front_of-front : (header : Bool) (c : ℕ) (cs : List ℕ) → IsFront header c cs (front_of header c cs).0 (front_of header c cs).1
unfolding front_of
front_of-front true c cs =
    IsFront-longest true c cs _ _
    (header-longest (λ k. kind_of (c ∷ take k cs)) (λ k. kind_in true (c ∷ take k cs)) (length cs) (header_length c cs)
    (plain_front c cs) (header_length-within c cs) (λ k l. kind_in-header c cs k l) (plain_front-longest c cs))
front_of-front false c cs =
    let is = plain_front-longest c cs in
    IsFront-longest false c cs _ _ (record {
      spelled = rw (kind_in-plain (c ∷ take (plain_front c cs).1 cs)) is.spelled;
      some = λ h. rw (kind_in-plain (c ∷ take (plain_front c cs).1 cs)) (is.some h);
      within = is.within;
      longer = λ k h l. rw (kind_in-plain (c ∷ take k cs)) (is.longer k h l);
    })
