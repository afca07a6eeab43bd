-- Locality: the first piece of a text stays where what follows it is spelled otherwise.
use Rattle.std.proofs.Common.{◌≡◌, ℕ, suc, ◌+◌, ◌≤◌, Bool, true, false, not, ◌&&◌, ◌==◌, nat_le, if◌then◌else◌, List, [], ◌∷◌, ◌++◌, length, Option, Some, None, unwrap_or, ◌⊎◌, inl, inr, refl, sym, ap, ◌∙◌, arith, one-add}
use Rattle.std.specs.List.{prefix_len, list_all}
use Rattle.std.specs.Str.{bytes_eq}
use Rattle.std.specs.Prelude.{codes}
use Rattle.std.proofs.lemmas.Bool.{cases_Bool, and_parts, leb-true, leb-false}
use Rattle.std.proofs.lemmas.Bool.Decides.{nat_tests}
use Rattle.cs_base.specs.declared.tokens.Kind.{Kind}
use Rattle.cs_base.specs.declared.tokens.Kind.TheVariants.{Ident, Other}
use Rattle.lexer.specs.Characters.{line_feed, single_quote, slash, star, less_than, capital_l, backslash, is_nondigit, is_digit, is_word, is_quote, begins}
use Rattle.lexer.specs.Spelling.{may_follow, begins_number, begins_with_digit, header_close, punctuators_of_one, punctuators_of_two, punctuators_of_three, punctuators_of_four}
use Rattle.lexer.specs.Tokens.{comment_end, one_more}
use Rattle.lexer.specs.Front.{count_following, closing, quoted, quoted_kind, quoted_front, wide_front, header_closing, header_length, begins_with, begins_with_one, punctuator_length, plain_front, or_header, front_of}
use Rattle.lexer.proofs.KindLemmas.{nondigit-double}

-- the first character passes the test
abbrev pub first_is : (ℕ → Bool) → List ℕ → Bool
first_is p [] = false
first_is p (c ∷ cs) = p c

-- Two texts begin alike for each test that answers the same at all nondigits.
abbrev pub FirstAlike : List ℕ → List ℕ → Type 0
FirstAlike ys zs = (p : ℕ → Bool) (b : Bool) → ((c : ℕ) → is_nondigit c ≡ true → p c ≡ b) → first_is p zs ≡ first_is p ys

one_more-some : (x : Option ℕ) (j : ℕ) → one_more x ≡ Some j → (i : ℕ) × (x ≡ Some i) × (j ≡ i + 1)
one_more-some None j is = absurd cc
one_more-some (Some i) j is = (i, refl, cc)

-- Runs that end in a text end there whatever follows it, if that begins alike.

prefix_len-none : (p : ℕ → Bool) (ys : List ℕ) → first_is p ys ≡ false → prefix_len p ys ≡ 0
prefix_len-none p [] none = refl
prefix_len-none p (y ∷ ys) none = rw none refl

first_is-none : (p : ℕ → Bool) (ys : List ℕ) → prefix_len p ys ≤ 0 → first_is p ys ≡ false
first_is-none p [] none = refl
first_is-none p (y ∷ ys) none =
    elim (cases_Bool (p y)) [
      | inl passes ↦ let some = rw passes at none in absurd (omega arith)
      | inr fails ↦ fails
    ]

pub prefix_len-local : (p : ℕ → Bool) (xs ys zs : List ℕ) → first_is p zs ≡ first_is p ys → prefix_len p (xs ++ ys) ≤ length xs
    → prefix_len p (xs ++ zs) ≡ prefix_len p (xs ++ ys)
prefix_len-local p [] ys zs alike within =
    let none = first_is-none p ys within in
    prefix_len-none p zs (alike ∙ none) ∙ sym (prefix_len-none p ys none)
prefix_len-local p (x ∷ xs) ys zs alike within =
    elim (cases_Bool (p x)) [
      | inl passes ↦
          let inside : 1 + prefix_len p (xs ++ ys) ≤ suc (length xs) = rw passes at within in
          rw passes (ap (λ n. 1 + n) (prefix_len-local p xs ys zs alike (omega arith)))
      | inr fails ↦ rw fails refl
    ]

follow-none : (last : ℕ) (ys : List ℕ) → first_is (may_follow last) ys ≡ false → count_following last ys ≡ 0
follow-none last [] none = refl
follow-none last (y ∷ ys) none = rw none refl

first_follow-none : (last : ℕ) (ys : List ℕ) → count_following last ys ≤ 0 → first_is (may_follow last) ys ≡ false
first_follow-none last [] none = refl
first_follow-none last (y ∷ ys) none =
    elim (cases_Bool (may_follow last y)) [
      | inl follows ↦ let some = rw follows at none in absurd (omega arith)
      | inr stops ↦ stops
    ]

nondigit-follows : (last c : ℕ) → is_nondigit c ≡ true → may_follow last c ≡ true
nondigit-follows last c h = rw h refl

count_following-local : (last : ℕ) (xs ys zs : List ℕ) → FirstAlike ys zs → count_following last (xs ++ ys) ≤ length xs
    → count_following last (xs ++ zs) ≡ count_following last (xs ++ ys)
count_following-local last [] ys zs alike within =
    let none = first_follow-none last ys within in
    follow-none last zs (alike (may_follow last) true (nondigit-follows last) ∙ none) ∙ sym (follow-none last ys none)
count_following-local last (x ∷ xs) ys zs alike within =
    elim (cases_Bool (may_follow last x)) [
      | inl follows ↦
          let inside : 1 + count_following x (xs ++ ys) ≤ suc (length xs) = rw follows at within in
          rw follows (ap (λ n. 1 + n) (count_following-local x xs ys zs alike (omega arith)))
      | inr stops ↦ rw stops refl
    ]

-- What closes in a text closes there whatever follows it.

pub closing-some : (quote : ℕ) (escaped : Bool) (cs : List ℕ) (j : ℕ) → closing quote escaped cs ≡ Some j → 1 ≤ j
closing-some quote escaped [] j is = absurd cc
closing-some quote true (c ∷ cs) j is =
    elim (cases_Bool (c == line_feed)) [
      | inl ends ↦ let none = rw ends at is in absurd cc
      | inr on ↦ let i = one_more-some (closing quote false cs) j (rw on at is) in omega (arith, i.2)
    ]
closing-some quote false (c ∷ cs) j is =
    elim (cases_Bool (c == quote)) [
      | inl closed ↦ let one : Some 1 ≡ Some j = rw closed at is in let same : 1 ≡ j = cc in omega arith
      | inr open_still ↦ elim (cases_Bool (c == line_feed)) [
        | inl ends ↦ let none = rw (open_still, ends) at is in absurd cc
        | inr on ↦ let i = one_more-some (closing quote (c == backslash) cs) j (rw (open_still, on) at is) in omega (arith, i.2)
      ]
    ]

pub more-again : (x z : Option ℕ) (j : ℕ) → one_more x ≡ Some j → ((i : ℕ) → x ≡ Some i → j ≡ i + 1 → z ≡ Some i) → one_more z ≡ Some j
more-again x z j is again =
    let i = one_more-some x j is in
    rw (again i.0 i.1 i.2) (ap (λ n. Some n) (sym i.2))

pub closing-local : (quote : ℕ) (escaped : Bool) (xs ys zs : List ℕ) (j : ℕ) → closing quote escaped (xs ++ ys) ≡ Some j → j ≤ length xs
    → closing quote escaped (xs ++ zs) ≡ Some j
closing-local quote escaped [] ys zs j is within = let some = closing-some quote escaped ys j is in absurd (omega arith)
closing-local quote true (x ∷ xs) ys zs j is within =
    elim (cases_Bool (x == line_feed)) [
      | inl ends ↦ let none = rw ends at is in absurd cc
      | inr on ↦ rw on (more-again (closing quote false (xs ++ ys)) (closing quote false (xs ++ zs)) j (rw on at is)
          (λ i h e. closing-local quote false xs ys zs i h (omega arith)))
    ]
closing-local quote false (x ∷ xs) ys zs j is within =
    elim (cases_Bool (x == quote)) [
      | inl closed ↦ rw closed (rw closed at is)
      | inr open_still ↦ elim (cases_Bool (x == line_feed)) [
        | inl ends ↦ let none = rw (open_still, ends) at is in absurd cc
        | inr on ↦ rw (open_still, on) (more-again (closing quote (x == backslash) (xs ++ ys)) (closing quote (x == backslash) (xs ++ zs)) j
            (rw (open_still, on) at is) (λ i h e. closing-local quote (x == backslash) xs ys zs i h (omega arith)))
      ]
    ]

quoted-some : (quote : ℕ) (cs : List ℕ) (j : ℕ) → quoted quote cs ≡ Some j
    → ((quote == single_quote && begins single_quote cs) ≡ false) × (closing quote false cs ≡ Some j)
quoted-some quote cs j is =
    elim (cases_Bool (quote == single_quote && begins single_quote cs)) [
      | inl empty ↦ let none = rw empty at is in absurd cc
      | inr some ↦ (some, rw some at is)
    ]

pub quoted-local : (quote : ℕ) (xs ys zs : List ℕ) (j : ℕ) → quoted quote (xs ++ ys) ≡ Some j → j ≤ length xs → quoted quote (xs ++ zs) ≡ Some j
quoted-local quote [] ys zs j is within =
    let parts = quoted-some quote ys j is in
    let some = closing-some quote false ys j parts.1 in
    absurd (omega arith)
quoted-local quote (x ∷ xs) ys zs j is within =
    let parts = quoted-some quote (x ∷ (xs ++ ys)) j is in
    let some : (quote == single_quote && x == single_quote) ≡ false = parts.0 in
    rw some (closing-local quote false (x ∷ xs) ys zs j parts.1 within)

header_closing-some : (close : ℕ) (cs : List ℕ) (j : ℕ) → header_closing close cs ≡ Some j → 1 ≤ j
header_closing-some close [] j is = absurd cc
header_closing-some close (c ∷ cs) j is =
    elim (cases_Bool (c == close)) [
      | inl closed ↦ let one : Some 1 ≡ Some j = rw closed at is in let same : 1 ≡ j = cc in omega arith
      | inr open_still ↦ elim (cases_Bool (c == line_feed)) [
        | inl ends ↦ let none = rw (open_still, ends) at is in absurd cc
        | inr on ↦ let i = one_more-some (header_closing close cs) j (rw (open_still, on) at is) in omega (arith, i.2)
      ]
    ]

header_closing-local : (close : ℕ) (xs ys zs : List ℕ) (j : ℕ) → header_closing close (xs ++ ys) ≡ Some j → j ≤ length xs
    → header_closing close (xs ++ zs) ≡ Some j
header_closing-local close [] ys zs j is within = let some = header_closing-some close ys j is in absurd (omega arith)
header_closing-local close (x ∷ xs) ys zs j is within =
    elim (cases_Bool (x == close)) [
      | inl closed ↦ rw closed (rw closed at is)
      | inr open_still ↦ elim (cases_Bool (x == line_feed)) [
        | inl ends ↦ let none = rw (open_still, ends) at is in absurd cc
        | inr on ↦ rw (open_still, on) (more-again (header_closing close (xs ++ ys)) (header_closing close (xs ++ zs)) j
            (rw (open_still, on) at is) (λ i h e. header_closing-local close xs ys zs i h (omega arith)))
      ]
    ]

header_some : (close : ℕ) (cs : List ℕ) (j : ℕ)
    → (if close == 0 then None else (if begins close cs then None else header_closing close cs)) ≡ Some j
    → ((close == 0) ≡ false) × (begins close cs ≡ false) × (header_closing close cs ≡ Some j)
header_some close cs j is =
    elim (cases_Bool (close == 0)) [
      | inl none ↦ let h = rw none at is in absurd cc
      | inr closable ↦ elim (cases_Bool (begins close cs)) [
        | inl empty ↦ let h = rw (closable, empty) at is in absurd cc
        | inr some ↦ (closable, some, rw (closable, some) at is)
      ]
    ]

header_length-local : (c : ℕ) (xs ys zs : List ℕ) (j : ℕ) → header_length c (xs ++ ys) ≡ Some j → j ≤ length xs
    → header_length c (xs ++ zs) ≡ Some j
header_length-local c [] ys zs j is within =
    let parts = header_some (header_close c) ys j is in
    let some = header_closing-some (header_close c) ys j parts.2 in
    absurd (omega arith)
header_length-local c (x ∷ xs) ys zs j is within =
    let parts = header_some (header_close c) (x ∷ (xs ++ ys)) j is in
    let closable = parts.0 in
    let some : (x == header_close c) ≡ false = parts.1 in
    let same = header_closing-local (header_close c) (x ∷ xs) ys zs j parts.2 within in
    rw (closable, some) (rw some at same)

pub comment_end-some : (cs : List ℕ) (j : ℕ) → comment_end cs ≡ Some j → 2 ≤ j
comment_end-some [] j is = absurd cc
comment_end-some (c ∷ cs) j is =
    elim (cases_Bool (c == star && begins slash cs)) [
      | inl ends ↦ let two : Some 2 ≡ Some j = rw ends at is in let same : 2 ≡ j = cc in omega arith
      | inr on ↦
          let i = one_more-some (comment_end cs) j (rw on at is) in
          let later = comment_end-some cs i.0 i.1 in
          omega (arith, i.2)
    ]

pub comment_end-local : (xs ys zs : List ℕ) (j : ℕ) → comment_end (xs ++ ys) ≡ Some j → j ≤ length xs → comment_end (xs ++ zs) ≡ Some j
comment_end-local [] ys zs j is within = let some = comment_end-some ys j is in absurd (omega arith)
comment_end-local (x ∷ []) ys zs j is within = let some = comment_end-some (x ∷ ys) j is in absurd (omega arith)
comment_end-local (x ∷ y ∷ xs) ys zs j is within =
    elim (cases_Bool (x == star && y == slash)) [
      | inl ends ↦ rw ends (rw ends at is)
      | inr on ↦ rw on (more-again (comment_end (y ∷ (xs ++ ys))) (comment_end (y ∷ (xs ++ zs))) j (rw on at is)
          (λ i h e. comment_end-local (y ∷ xs) ys zs i h (omega arith)))
    ]

-- Behind the character c and the characters xs one text stands like another: what follows begins alike,
-- no other punctuator begins, and what is open behind c stays open.
pub record Alike (c : ℕ) (xs ys zs : List ℕ) : Type 0 where
  pub first : FirstAlike ys zs
  pub empty : ys ≡ [] → zs ≡ []
  pub signs : (w : List ℕ) → list_all (λ b. not (is_word b)) w ≡ true
      → begins_with w (c ∷ (xs ++ zs)) ≡ begins_with w (c ∷ (xs ++ ys))
  pub quote_open : is_quote c ≡ true → quoted c (xs ++ ys) ≡ None → quoted c (xs ++ zs) ≡ None
  pub wide_open : wide_front c (xs ++ ys) ≡ None → wide_front c (xs ++ zs) ≡ None
  pub header_open : header_length c (xs ++ ys) ≡ None → header_length c (xs ++ zs) ≡ None

-- The first token.

-- a table of punctuators, none of which has a word character
table-local : (c : ℕ) (xs ys zs : List ℕ) (table : List (List ℕ))
    → list_all (λ w. list_all (λ b. not (is_word b)) w) table ≡ true → Alike c xs ys zs
    → begins_with_one table (c ∷ (xs ++ zs)) ≡ begins_with_one table (c ∷ (xs ++ ys))
table-local c xs ys zs [] plain like = refl
table-local c xs ys zs (w ∷ ws) plain like =
    let parts = and_parts (list_all (λ b. not (is_word b)) w) (list_all (λ v. list_all (λ b. not (is_word b)) v) ws) plain in
    rw (like.signs w parts.0, table-local c xs ys zs ws parts.1 like) refl

punctuator_length-local : (c : ℕ) (xs ys zs : List ℕ) → Alike c xs ys zs
    → punctuator_length (c ∷ (xs ++ zs)) ≡ punctuator_length (c ∷ (xs ++ ys))
unfolding punctuator_length
punctuator_length-local c xs ys zs like =
    rw (
      table-local c xs ys zs punctuators_of_one refl like,
      table-local c xs ys zs punctuators_of_two refl like,
      table-local c xs ys zs punctuators_of_three refl like,
      table-local c xs ys zs punctuators_of_four refl like,
    ) refl

digit_first : (d : ℕ) → is_nondigit d ≡ true → is_digit d ≡ false
digit_first d h = grind (arith, nat_tests)

begins_digit : (cs : List ℕ) → begins_with_digit cs ≡ first_is is_digit cs
begins_digit [] = refl
begins_digit (c ∷ cs) = refl

begins_number-local : (c : ℕ) (xs ys zs : List ℕ) → FirstAlike ys zs → begins_number c (xs ++ zs) ≡ begins_number c (xs ++ ys)
begins_number-local c [] ys zs alike =
    let same : begins_with_digit zs ≡ begins_with_digit ys = begins_digit zs ∙ alike is_digit false digit_first ∙ sym (begins_digit ys) in
    rw same refl
begins_number-local c (x ∷ xs) ys zs alike = refl

pub nondigit-word : (c : ℕ) → is_nondigit c ≡ true → is_word c ≡ true
nondigit-word c h = rw h refl

-- a front that is read in one pass, and ends within xs
abbrev pub Within : (Kind × ℕ) → List ℕ → Type 0
Within front xs = front.1 ≤ length xs

pub option-cases : (x : Option ℕ) → (x ≡ None) ⊎ ((j : ℕ) × (x ≡ Some j))
option-cases None = inl refl
option-cases (Some j) = inr (j, refl)

quote-local : (q : ℕ) (xs ys zs : List ℕ) → is_quote q ≡ true → Alike q xs ys zs
    → Within (unwrap_or {T = Kind × ℕ} (quoted_front q (xs ++ ys)) (Other, 0)) xs
    → unwrap_or {T = Kind × ℕ} (quoted_front q (xs ++ zs)) (Other, 0) ≡ unwrap_or (quoted_front q (xs ++ ys)) (Other, 0)
quote-local q xs ys zs quote like within =
    elim (option-cases (quoted q (xs ++ ys))) [
      | inl open_still ↦ rw (open_still, like.quote_open quote open_still) refl
      | inr closed ↦
          let here = closed.1 in
          let inside : closed.0 ≤ length xs = rw here at within in
          rw (here, quoted-local q xs ys zs closed.0 here inside) refl
    ]

pub wide-cases : (c : ℕ) (cs : List ℕ) → (wide_front c cs ≡ None)
    ⊎ ((q : ℕ) × (ds : List ℕ) × (j : ℕ) × (cs ≡ q ∷ ds) × ((c == capital_l && is_quote q) ≡ true) × (quoted q ds ≡ Some j))
wide-cases c [] = inl refl
wide-cases c (q ∷ ds) =
    elim (cases_Bool (c == capital_l && is_quote q)) [
      | inr other ↦ inl (rw other refl)
      | inl wide ↦ elim (option-cases (quoted q ds)) [
        | inl open_still ↦ inl (rw (wide, open_still) refl)
        | inr closed ↦ inr (q, ds, closed.0, refl, wide, closed.1)
      ]
    ]

-- a wide quoted text that closes within xs
wide-closed : (c q j : ℕ) (xs ys zs ds : List ℕ) → xs ++ ys ≡ q ∷ ds → (c == capital_l && is_quote q) ≡ true → quoted q ds ≡ Some j
    → j + 1 ≤ length xs → wide_front c (xs ++ zs) ≡ Some (quoted_kind q, j + 1)
wide-closed c q j [] ys zs ds whole wide closed within = absurd (omega arith)
wide-closed c q j (x ∷ xs) ys zs ds whole wide closed within =
    let same : x ≡ q = cc in
    let rest : xs ++ ys ≡ ds = cc in
    let here : quoted q (xs ++ ys) ≡ Some j = rw rest closed in
    rw (same, wide, quoted-local q xs ys zs j here (omega arith)) refl

nondigit-local : (c : ℕ) (xs ys zs : List ℕ) → Alike c xs ys zs
    → Within (unwrap_or {T = Kind × ℕ} (wide_front c (xs ++ ys)) (Ident, prefix_len is_word (xs ++ ys))) xs
    → unwrap_or {T = Kind × ℕ} (wide_front c (xs ++ zs)) (Ident, prefix_len is_word (xs ++ zs))
    ≡ unwrap_or (wide_front c (xs ++ ys)) (Ident, prefix_len is_word (xs ++ ys))
nondigit-local c xs ys zs like within =
    elim (wide-cases c (xs ++ ys)) [
      | inl none ↦
          let inside : prefix_len is_word (xs ++ ys) ≤ length xs = rw none at within in
          rw (
            none,
            like.wide_open none,
            prefix_len-local is_word xs ys zs (like.first is_word true nondigit-word) inside,
          ) refl
      | inr w ↦
          let q = w.0 in
          let ds = w.1 in
          let j = w.2 in
          let here : wide_front c (xs ++ ys) ≡ Some (quoted_kind q, j + 1) = rw (w.3, w.4, w.5) refl in
          let inside : j + 1 ≤ length xs = rw here at within in
          rw (here, wide-closed c q j xs ys zs ds w.3 w.4 w.5 inside) refl
    ]

plain_front-local : (c : ℕ) (xs ys zs : List ℕ) → Alike c xs ys zs → Within (plain_front c (xs ++ ys)) xs
    → plain_front c (xs ++ zs) ≡ plain_front c (xs ++ ys)
unfolding plain_front
plain_front-local c xs ys zs like within =
    let number = begins_number-local c xs ys zs like.first in
    elim (cases_Bool (is_nondigit c)) [
      | inl letter ↦ rw letter (nondigit-local c xs ys zs like (rw letter at within))
      | inr other ↦ elim (cases_Bool (begins_number c (xs ++ ys))) [
        | inl begins ↦
            let inside : count_following c (xs ++ ys) ≤ length xs = rw (other, begins) at within in
            rw (other, number, begins, count_following-local c xs ys zs like.first inside) refl
        | inr no_number ↦ elim (cases_Bool (is_quote c)) [
          | inl quote ↦ rw (other, number, no_number, quote) (quote-local c xs ys zs quote like (rw (other, no_number, quote) at within))
          | inr no_quote ↦ rw (other, number, no_number, no_quote, punctuator_length-local c xs ys zs like) refl
        ]
      ]
    ]

or_header-local : (x z : Option ℕ) (front again : Kind × ℕ) (xs : List ℕ) → Within (or_header x front) xs
    → (x ≡ None → z ≡ None) → ((j : ℕ) → x ≡ Some j → j ≤ length xs → z ≡ Some j) → (Within front xs → again ≡ front)
    → or_header z again ≡ or_header x front
or_header-local None z front again xs within none some same = rw (none refl, same within) refl
or_header-local (Some j) z front again xs within none some same =
    elim (cases_Bool (nat_le front.1 j)) [
      | inl reached ↦
          let order = leb-true front.1 j reached in
          let inside : j ≤ length xs = rw reached at within in
          rw (some j refl inside, same (omega arith)) refl
      | inr longer ↦
          let order = leb-false front.1 j longer in
          let inside : front.1 ≤ length xs = rw longer at within in
          rw (some j refl (omega arith), same inside) refl
    ]

pub front_of-local : (header : Bool) (c : ℕ) (xs ys zs : List ℕ) → Alike c xs ys zs → Within (front_of header c (xs ++ ys)) xs
    → front_of header c (xs ++ zs) ≡ front_of header c (xs ++ ys)
unfolding front_of
front_of-local true c xs ys zs like within =
    or_header-local (header_length c (xs ++ ys)) (header_length c (xs ++ zs)) (plain_front c (xs ++ ys)) (plain_front c (xs ++ zs)) xs
    within like.header_open (λ j is inside. header_length-local c xs ys zs j is inside) (λ inside. plain_front-local c xs ys zs like inside)
front_of-local false c xs ys zs like within = plain_front-local c xs ys zs like within

nondigit-less : (c : ℕ) → is_nondigit c ≡ true → (c == less_than) ≡ false
nondigit-less c h = grind (arith, nat_tests)

word-quote : (c : ℕ) → is_word c ≡ true → is_quote c ≡ false
word-quote c h = grind (arith, nat_tests)

-- a nondigit begins no header name
nondigit-close : (c : ℕ) → is_nondigit c ≡ true → header_close c ≡ 0
nondigit-close c letter = rw (nondigit-less c letter, nondigit-double c letter) refl

lone-other : (c : ℕ) → bytes_eq (c ∷ []) (codes "L") ≡ false → (c == capital_l) ≡ false
lone-other c other =
    elim (cases_Bool (c == capital_l)) [
      | inl wide ↦ let same = rw wide at other in absurd cc
      | inr narrow ↦ narrow
    ]

prefix_len-words : (ws ys : List ℕ) → list_all is_word ws ≡ true → first_is is_word ys ≡ false → prefix_len is_word (ws ++ ys) ≡ length ws
prefix_len-words [] ys words stops = prefix_len-none is_word ys stops
prefix_len-words (w ∷ ws) ys words stops =
    let parts = and_parts (is_word w) (list_all is_word ws) words in
    let rest = prefix_len-words ws ys parts.1 stops in
    rw (parts.0, rest, one-add) refl

-- an identifier is read whole, whatever no word follows it, unless it is the prefix of a quoted text
pub front_of-word : (header : Bool) (c : ℕ) (ws ys : List ℕ) → is_nondigit c ≡ true → list_all is_word ws ≡ true
    → first_is is_word ys ≡ false → (wide_front c (ws ++ ys) ≡ None) → front_of header c (ws ++ ys) ≡ (Ident, length ws)
unfolding front_of plain_front
front_of-word true c ws ys letter words stops narrow =
    let no_header : header_length c (ws ++ ys) ≡ None = rw (nondigit-close c letter) refl in
    rw (no_header, letter, narrow, prefix_len-words ws ys words stops) refl
front_of-word false c ws ys letter words stops narrow = rw (letter, narrow, prefix_len-words ws ys words stops) refl

-- a word of more than one character, or other than `L`, is no prefix
pub wide_front-word : (c : ℕ) (ws ys : List ℕ) → list_all is_word ws ≡ true → bytes_eq (c ∷ ws) (codes "L") ≡ false
    → wide_front c (ws ++ ys) ≡ None
wide_front-word c [] [] words other = refl
wide_front-word c [] (y ∷ ys) words other =
    let narrow : (c == capital_l) ≡ false = lone-other c other in rw narrow refl
wide_front-word c (w ∷ ws) ys words other =
    let parts = and_parts (is_word w) (list_all is_word ws) words in
    let no_quote : is_quote w ≡ false = word-quote w parts.0 in
    elim (cases_Bool (c == capital_l)) [ inl wide ↦ rw (wide, no_quote) refl | inr narrow ↦ rw narrow refl ]
