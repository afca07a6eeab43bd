-- The first token of a text, read in one pass, is its longest front that is a token.
use Rattle.std.proofs.Common.{◌≡◌, ℕ, zero, suc, ◌+◌, ◌≤◌, Bool, true, false, not, ◌&&◌, ◌==◌, List, [], ◌∷◌, length, take, Option, Some, None, IfSome, inl, inr, refl, sym, arith, if◌then◌else◌}
use Rattle.std.proofs.lemmas.Bool.{cases_Bool, eqb-true, ne_eqb}
use Rattle.std.proofs.lemmas.Bool.Decides.{nat_tests}
use Rattle.lexer.specs.Characters.{line_feed, single_quote, double_quote, backslash, begins}
use Rattle.lexer.specs.Spelling.{closes, is_end, ends_header, is_plain_char_text, is_plain_string_text, is_header_text, header_close}
use Rattle.lexer.specs.Tokens.{one_more}
use Rattle.lexer.specs.Front.{closing, quoted, header_closing, header_length}

-- Where a text closes: exactly one front of it may.

-- the number is the one that is given, if one is
abbrev pub is_at : ℕ → Option ℕ → Bool
is_at k None = false
is_at k (Some n) = n == k

is_at-first : (x : Option ℕ) → is_at 0 (one_more x) ≡ false
is_at-first None = refl
is_at-first (Some n) = ne_eqb (n + 1) 0 (λ e. omega arith)

suc-eqb : (m k : ℕ) → (m + 1 == suc k) ≡ (m == k)
suc-eqb m k = grind (arith, nat_tests)

is_at-more : (k : ℕ) (x : Option ℕ) → is_at (suc k) (one_more x) ≡ is_at k x
is_at-more k None = refl
is_at-more k (Some n) = suc-eqb n k

-- only the text of no characters is at its end
is_end-at : (k : ℕ) (cs : List ℕ) → k ≤ length cs → is_end (take k cs) ≡ (1 == suc k)
is_end-at zero cs within = refl
is_end-at (suc k) [] within = absurd (omega arith)
is_end-at (suc k) (c ∷ cs) within = sym (ne_eqb 1 (suc (suc k)) (λ e. omega arith))

closes-at : (quote : ℕ) (escaped : Bool) (cs : List ℕ) (k : ℕ) → k ≤ length cs
    → closes quote escaped (take k cs) ≡ is_at k (closing quote escaped cs)
closes-at quote escaped [] zero within = refl
closes-at quote escaped [] (suc k) within = absurd (omega arith)
closes-at quote true (c ∷ cs) zero within =
    elim (cases_Bool (c == line_feed)) [
      | inl ends ↦ rw ends refl
      | inr on ↦ rw on (sym (is_at-first (closing quote false cs)))
    ]
closes-at quote true (c ∷ cs) (suc k) within =
    elim (cases_Bool (c == line_feed)) [
      | inl ends ↦ rw ends refl
      | inr on ↦ rw (on, is_at-more) (closes-at quote false cs k (omega arith))
    ]
closes-at quote false (c ∷ cs) zero within =
    elim (cases_Bool (c == quote)) [
      | inl closed ↦ rw closed refl
      | inr open_still ↦ elim (cases_Bool (c == line_feed)) [
        | inl ends ↦ rw (open_still, ends) refl
        | inr on ↦ rw (open_still, on) (sym (is_at-first (closing quote (c == backslash) cs)))
      ]
    ]
closes-at quote false (c ∷ cs) (suc k) within =
    elim (cases_Bool (c == quote)) [
      | inl closed ↦ rw closed (is_end-at k cs (omega arith))
      | inr open_still ↦ elim (cases_Bool (c == line_feed)) [
        | inl ends ↦ rw (open_still, ends) refl
        | inr on ↦ rw (open_still, on, is_at-more) (closes-at quote (c == backslash) cs k (omega arith))
      ]
    ]

ends_header-at : (close : ℕ) (cs : List ℕ) (k : ℕ) → k ≤ length cs
    → ends_header close (take k cs) ≡ is_at k (header_closing close cs)
ends_header-at close [] zero within = refl
ends_header-at close [] (suc k) within = absurd (omega arith)
ends_header-at close (c ∷ cs) zero within =
    elim (cases_Bool (c == close)) [
      | inl closed ↦ rw closed refl
      | inr open_still ↦ elim (cases_Bool (c == line_feed)) [
        | inl ends ↦ rw (open_still, ends) refl
        | inr on ↦ rw (open_still, on) (sym (is_at-first (header_closing close cs)))
      ]
    ]
ends_header-at close (c ∷ cs) (suc k) within =
    elim (cases_Bool (c == close)) [
      | inl closed ↦ rw closed (is_end-at k cs (omega arith))
      | inr open_still ↦ elim (cases_Bool (c == line_feed)) [
        | inl ends ↦ rw (open_still, ends) refl
        | inr on ↦ rw (open_still, on, is_at-more) (ends_header-at close cs k (omega arith))
      ]
    ]

pub one_more-within : (x : Option ℕ) (m : ℕ) → IfSome x (λ n. n ≤ m) → IfSome (one_more x) (λ n. n ≤ suc m)
one_more-within None m within = tt
one_more-within (Some n) m within = omega arith

closing-within : (quote : ℕ) (escaped : Bool) (cs : List ℕ) → IfSome (closing quote escaped cs) (λ n. n ≤ length cs)
closing-within quote escaped [] = tt
closing-within quote true (c ∷ cs) =
    elim (cases_Bool (c == line_feed)) [
      | inl ends ↦ rw ends tt
      | inr on ↦ rw on (one_more-within (closing quote false cs) (length cs) (closing-within quote false cs))
    ]
closing-within quote false (c ∷ cs) =
    elim (cases_Bool (c == quote)) [
      | inl closed ↦ rw closed (omega arith)
      | inr open_still ↦ elim (cases_Bool (c == line_feed)) [
        | inl ends ↦ rw (open_still, ends) tt
        | inr on ↦ rw (open_still, on) (one_more-within (closing quote (c == backslash) cs) (length cs) (closing-within quote (c == backslash) cs))
      ]
    ]

header_closing-within : (close : ℕ) (cs : List ℕ) → IfSome (header_closing close cs) (λ n. n ≤ length cs)
header_closing-within close [] = tt
header_closing-within close (c ∷ cs) =
    elim (cases_Bool (c == close)) [
      | inl closed ↦ rw closed (omega arith)
      | inr open_still ↦ elim (cases_Bool (c == line_feed)) [
        | inl ends ↦ rw (open_still, ends) tt
        | inr on ↦ rw (open_still, on) (one_more-within (header_closing close cs) (length cs) (header_closing-within close cs))
      ]
    ]

-- Quoted texts and header names, whole.

char-closes : (cs : List ℕ) (k : ℕ) → k ≤ length cs
    → (not (begins single_quote (take k cs)) && closes single_quote false (take k cs)) ≡ is_at k (quoted single_quote cs)
char-closes cs zero within =
    elim (cases_Bool (begins single_quote cs)) [
      | inl empty ↦ rw empty refl
      | inr some ↦ rw some (closes-at single_quote false cs 0 within)
    ]
char-closes [] (suc k) within = absurd (omega arith)
char-closes (c ∷ cs) (suc k) within =
    elim (cases_Bool (c == single_quote)) [
      | inl empty ↦ rw empty refl
      | inr some ↦
          let rest = closes-at single_quote false (c ∷ cs) (suc k) within in
          rw some (rw some at rest)
    ]

pub plain_char-at : (q : ℕ) (cs : List ℕ) (k : ℕ) → k ≤ length cs
    → is_plain_char_text (q ∷ take k cs) ≡ (q == single_quote && is_at k (quoted q cs))
plain_char-at q cs k within =
    elim (cases_Bool (q == single_quote)) [
      | inl single ↦ let is = eqb-true q single_quote single in rw is (char-closes cs k within)
      | inr other ↦ rw other refl
    ]

pub plain_string-at : (q : ℕ) (cs : List ℕ) (k : ℕ) → k ≤ length cs
    → is_plain_string_text (q ∷ take k cs) ≡ (q == double_quote && is_at k (quoted q cs))
plain_string-at q cs k within =
    elim (cases_Bool (q == double_quote)) [
      | inl double ↦ let is = eqb-true q double_quote double in rw is (closes-at double_quote false cs k within)
      | inr other ↦ rw other refl
    ]

header-closes : (close : ℕ) (cs : List ℕ) (k : ℕ) → k ≤ length cs
    → (not (close == 0) && not (begins close (take k cs)) && ends_header close (take k cs))
    ≡ is_at k (if close == 0 then None else (if begins close cs then None else header_closing close cs))
header-closes close cs zero within =
    elim (cases_Bool (close == 0)) [
      | inl none ↦ rw none refl
      | inr closable ↦ elim (cases_Bool (begins close cs)) [
        | inl empty ↦ rw (closable, empty) refl
        | inr some ↦ rw (closable, some) (ends_header-at close cs 0 within)
      ]
    ]
header-closes close [] (suc k) within = absurd (omega arith)
header-closes close (c ∷ cs) (suc k) within =
    elim (cases_Bool (close == 0)) [
      | inl none ↦ rw none refl
      | inr closable ↦ elim (cases_Bool (c == close)) [
        | inl empty ↦ rw (closable, empty) refl
        | inr some ↦
            let rest = ends_header-at close (c ∷ cs) (suc k) within in
            rw (closable, some) (rw some at rest)
      ]
    ]

pub header-at : (c : ℕ) (cs : List ℕ) (k : ℕ) → k ≤ length cs → is_header_text (c ∷ take k cs) ≡ is_at k (header_length c cs)
header-at c cs k within = header-closes (header_close c) cs k within

pub quoted-within : (q : ℕ) (cs : List ℕ) → IfSome (quoted q cs) (λ n. n ≤ length cs)
quoted-within q cs =
    elim (cases_Bool (q == single_quote && begins single_quote cs)) [
      | inl empty ↦ rw empty tt
      | inr some ↦ rw some (closing-within q false cs)
    ]

pub header_length-within : (c : ℕ) (cs : List ℕ) → IfSome (header_length c cs) (λ n. n ≤ length cs)
header_length-within c cs =
    elim (cases_Bool (header_close c == 0)) [
      | inl none ↦ rw none tt
      | inr closable ↦ elim (cases_Bool (begins (header_close c) cs)) [
        | inl empty ↦ rw (closable, empty) tt
        | inr some ↦ rw (closable, some) (header_closing-within (header_close c) cs)
      ]
    ]
