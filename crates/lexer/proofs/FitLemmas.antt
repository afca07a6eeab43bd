-- Texts in which words stand for words.
use Rattle.std.proofs.Common.{◌≡◌, ℕ, suc, ◌+◌, Bool, true, false, not, ◌&&◌, ◌==◌, List, [], ◌∷◌, ◌++◌, length, Option, Some, None, inl, inr, refl, sym, ◌∙◌, arith, add-zero, append_assoc}
use Rattle.std.specs.List.{list_all}
use Rattle.std.specs.Option.{option_map}
use Rattle.std.specs.Str.{bytes_eq}
use Rattle.std.proofs.lemmas.Bool.{cases_Bool, and_parts, and_from, both_ways, eqb-true, not-true}
use Rattle.std.proofs.lemmas.Bool.Decides.{nat_tests}
use Rattle.cs_base.proofs.FileMapLemmas.{bytes_eq-equal}
use Rattle.cs_base.specs.declared.tokens.Kind.{Kind}
use Rattle.lexer.specs.Characters.{line_feed, single_quote, double_quote, greater_than, less_than, capital_l, backslash, is_nondigit, is_word, is_quote, begins}
use Rattle.lexer.specs.Spelling.{is_identifier_text, header_close}
use Rattle.lexer.specs.Tokens.{one_more}
use Rattle.lexer.specs.Front.{closing, quoted, quoted_kind, wide_front, header_closing, header_length, begins_with}
use Rattle.lexer.specs.Respelling.{Put, respell, stays}
use Rattle.lexer.proofs.LocalLemmas.{FirstAlike, Alike, nondigit-word}
use Rattle.lexer.proofs.KindLemmas.{quote-word}
use Rattle.lexer.proofs.PieceLocal.{begins-first}

-- What stands for a character: the character; for a nondigit an identifier; for a word character that is
-- directly behind another, word characters or nothing.
pub data FitsAt (put : Put) (before : Bool) (at c : ℕ) : Type 0 where
  kept : put at c ≡ c ∷ [] → FitsAt put before at c
  named : is_nondigit c ≡ true → is_identifier_text (put at c) ≡ true → FitsAt put before at c
  inner : before ≡ true → is_word c ≡ true → list_all is_word (put at c) ≡ true → FitsAt put before at c

-- so it is with each character of a text, and `before` says whether a word character stands before it
abbrev pub Fits : Put → Bool → ℕ → List ℕ → Type 0
Fits put before at [] = Unit {0}
Fits put before at (c ∷ cs) = FitsAt put before at c × Fits put (is_word c) (at + 1) cs

FitsAt-behind : (put : Put) (before : Bool) (at c : ℕ) → FitsAt put false at c → FitsAt put before at c
FitsAt-behind put before at c (kept is) = kept is
FitsAt-behind put before at c (named letter is) = named letter is
FitsAt-behind put before at c (inner contra word is) = absurd (both_ways false refl contra)

pub Fits-behind : (put : Put) (before : Bool) (at : ℕ) (cs : List ℕ) → Fits put false at cs → Fits put before at cs
Fits-behind put before at [] fits = tt
Fits-behind put before at (c ∷ cs) fits = (FitsAt-behind put before at c fits.0, fits.1)

pub Fits-append : (put : Put) (before : Bool) (at : ℕ) (xs ys : List ℕ) → Fits put before at xs → Fits put false (at + length xs) ys
    → Fits put before at (xs ++ ys)
Fits-append put before at [] ys front back =
    let here : at + 0 ≡ at = omega arith in Fits-behind put before at ys (rw here at back)
Fits-append put before at (x ∷ xs) ys front back =
    let on : at + suc (length xs) ≡ at + 1 + length xs = omega arith in
    (front.0, Fits-append put (is_word x) (at + 1) xs ys front.1 (rw on at back))

pub stays-fits : (put : Put) (before : Bool) (at : ℕ) (xs : List ℕ) → stays put at xs ≡ true → Fits put before at xs
stays-fits put before at [] same = tt
stays-fits put before at (x ∷ xs) same =
    let parts = and_parts (bytes_eq (put at x) (x ∷ [])) (stays put (at + 1) xs) same in
    (kept (bytes_eq-equal (put at x) (x ∷ []) parts.0), stays-fits put (is_word x) (at + 1) xs parts.1)

pub respell-append : (put : Put) (at : ℕ) (xs ys : List ℕ) → respell put at (xs ++ ys) ≡ respell put at xs ++ respell put (at + length xs) ys
respell-append put at [] ys = rw add-zero refl
respell-append put at (x ∷ xs) ys =
    let on : at + suc (length xs) ≡ at + 1 + length xs = omega arith in
    rw (on, respell-append put (at + 1) xs ys) (sym (append_assoc (put at x) (respell put (at + 1) xs) (respell put (at + 1 + length xs) ys)))

pub stays-respell : (put : Put) (at : ℕ) (xs : List ℕ) → stays put at xs ≡ true → respell put at xs ≡ xs
stays-respell put at [] same = refl
stays-respell put at (x ∷ xs) same =
    let parts = and_parts (bytes_eq (put at x) (x ∷ [])) (stays put (at + 1) xs) same in
    rw (bytes_eq-equal (put at x) (x ∷ []) parts.0, stays-respell put (at + 1) xs parts.1) refl

-- an identifier, by its first character
pub identifier-first : (text : List ℕ) → is_identifier_text text ≡ true
    → (c : ℕ) × (ws : List ℕ) × (text ≡ c ∷ ws) × (is_nondigit c ≡ true) × (list_all is_word ws ≡ true)
identifier-first [] ident = absurd (both_ways false refl ident)
identifier-first (c ∷ ws) ident =
    let parts = and_parts (is_nondigit c) (list_all is_word ws) ident in (c, ws, refl, parts.0, parts.1)

-- What follows begins alike.

first-at : (put : Put) (at c : ℕ) (cs : List ℕ) → FitsAt put false at c → FirstAlike (c ∷ cs) (respell put at (c ∷ cs))
first-at put at c cs (kept is) = λ p b same. rw is refl
first-at put at c cs (named letter is) = λ p b same.
    let w = identifier-first (put at c) is in
    rw (w.2, same w.0 w.3, same c letter) refl
first-at put at c cs (inner contra word is) = absurd (both_ways false refl contra)

pub first-fits : (put : Put) (at : ℕ) (cs : List ℕ) → Fits put false at cs → FirstAlike cs (respell put at cs)
first-fits put at [] fits = λ p b same. refl
first-fits put at (c ∷ cs) fits = first-at put at c cs fits.0

-- What is open stays open.

pub word-line : (c : ℕ) → is_word c ≡ true → (c == line_feed) ≡ false
word-line c h = grind (arith, nat_tests)

pub word-backslash : (c : ℕ) → is_word c ≡ true → (c == backslash) ≡ false
word-backslash c h = grind (arith, nat_tests)

more-open : (x : Option ℕ) → x ≡ None → one_more x ≡ None
more-open x none = rw none refl

pub open-more : (x : Option ℕ) → one_more x ≡ None → x ≡ None
open-more None none = refl
open-more (Some n) none = absurd cc

-- a sign is no word character, and no line end
pub record IsSign (q : ℕ) : Type 0 where
  pub apart : (c : ℕ) → is_word c ≡ true → (c == q) ≡ false

-- a word character passes no quote
closing-word : (q : ℕ) (escaped : Bool) (c : ℕ) (cs : List ℕ) → IsSign q → is_word c ≡ true
    → closing q escaped (c ∷ cs) ≡ one_more (closing q false cs)
closing-word q true c cs sign word = rw (word-line c word) refl
closing-word q false c cs sign word = rw (sign.apart c word, word-line c word, word-backslash c word) refl

closing-words : (q : ℕ) (ws cs : List ℕ) → IsSign q → list_all is_word ws ≡ true → closing q false cs ≡ None
    → closing q false (ws ++ cs) ≡ None
closing-words q [] cs sign words none = none
closing-words q (w ∷ ws) cs sign words none =
    let parts = and_parts (is_word w) (list_all is_word ws) words in
    closing-word q false w (ws ++ cs) sign parts.0 ∙ more-open (closing q false (ws ++ cs)) (closing-words q ws cs sign parts.1 none)

-- a character that stands for itself
closing-kept : (q : ℕ) (escaped : Bool) (c : ℕ) (cs ds : List ℕ) → closing q escaped (c ∷ cs) ≡ None
    → ((e : Bool) → (is_word c ≡ true → e ≡ false) → closing q e cs ≡ None → closing q e ds ≡ None)
    → closing q escaped (c ∷ ds) ≡ None
closing-kept q true c cs ds none later =
    elim (cases_Bool (c == line_feed)) [
      | inl ends ↦ rw ends refl
      | inr on ↦ rw on (more-open (closing q false ds) (later false (λ w. refl) (open-more (closing q false cs) (rw on at none))))
    ]
closing-kept q false c cs ds none later =
    elim (cases_Bool (c == q)) [
      | inl closed ↦ let some = rw closed at none in absurd cc
      | inr open_still ↦ elim (cases_Bool (c == line_feed)) [
        | inl ends ↦ rw (open_still, ends) refl
        | inr on ↦ rw (open_still, on) (more-open (closing q (c == backslash) ds)
            (later (c == backslash) (λ w. word-backslash c w) (open-more (closing q (c == backslash) cs) (rw (open_still, on) at none))))
      ]
    ]

closing-named : (q : ℕ) (escaped : Bool) (text cs : List ℕ) → IsSign q → is_identifier_text text ≡ true → closing q false cs ≡ None
    → closing q escaped (text ++ cs) ≡ None
closing-named q escaped [] cs sign ident none = absurd (both_ways false refl ident)
closing-named q escaped (w ∷ ws) cs sign ident none =
    let parts = and_parts (is_nondigit w) (list_all is_word ws) ident in
    closing-word q escaped w (ws ++ cs) sign (nondigit-word w parts.0)
    ∙ more-open (closing q false (ws ++ cs)) (closing-words q ws cs sign parts.1 none)

closing-at : (put : Put) (q : ℕ) (escaped before : Bool) (at c : ℕ) (cs : List ℕ) → IsSign q → (before ≡ true → escaped ≡ false)
    → FitsAt put before at c → closing q escaped (c ∷ cs) ≡ None
    → ((e : Bool) → (is_word c ≡ true → e ≡ false) → closing q e cs ≡ None → closing q e (respell put (at + 1) cs) ≡ None)
    → closing q escaped (respell put at (c ∷ cs)) ≡ None
closing-at put q escaped before at c cs sign behind (kept is) none later =
    rw is (closing-kept q escaped c cs (respell put (at + 1) cs) none later)
closing-at put q escaped before at c cs sign behind (named letter is) none later =
    let word = nondigit-word c letter in
    let rest = open-more (closing q false cs) (sym (closing-word q escaped c cs sign word) ∙ none) in
    closing-named q escaped (put at c) (respell put (at + 1) cs) sign is (later false (λ w. refl) rest)
closing-at put q escaped before at c cs sign behind (inner yes_before word is) none later =
    let plain = behind yes_before in
    let rest = open-more (closing q false cs) (sym (closing-word q escaped c cs sign word) ∙ none) in
    rw plain (closing-words q (put at c) (respell put (at + 1) cs) sign is (later false (λ w. refl) rest))

pub closing-fits : (put : Put) (q : ℕ) (escaped before : Bool) (at : ℕ) (cs : List ℕ) → IsSign q → (before ≡ true → escaped ≡ false)
    → Fits put before at cs → closing q escaped cs ≡ None → closing q escaped (respell put at cs) ≡ None
closing-fits put q escaped before at [] sign behind fits none = none
closing-fits put q escaped before at (c ∷ cs) sign behind fits none =
    closing-at put q escaped before at c cs sign behind fits.0 none
    (λ e b n. closing-fits put q e (is_word c) (at + 1) cs sign b fits.1 n)

-- A header name that is open stays open.

header-word : (close : ℕ) (c : ℕ) (cs : List ℕ) → IsSign close → is_word c ≡ true
    → header_closing close (c ∷ cs) ≡ one_more (header_closing close cs)
header-word close c cs sign word = rw (sign.apart c word, word-line c word) refl

header-words : (close : ℕ) (ws cs : List ℕ) → IsSign close → list_all is_word ws ≡ true → header_closing close cs ≡ None
    → header_closing close (ws ++ cs) ≡ None
header-words close [] cs sign words none = none
header-words close (w ∷ ws) cs sign words none =
    let parts = and_parts (is_word w) (list_all is_word ws) words in
    header-word close w (ws ++ cs) sign parts.0 ∙ more-open (header_closing close (ws ++ cs)) (header-words close ws cs sign parts.1 none)

header-kept : (close : ℕ) (c : ℕ) (cs ds : List ℕ) → header_closing close (c ∷ cs) ≡ None
    → (header_closing close cs ≡ None → header_closing close ds ≡ None) → header_closing close (c ∷ ds) ≡ None
header-kept close c cs ds none later =
    elim (cases_Bool (c == close)) [
      | inl closed ↦ let some = rw closed at none in absurd cc
      | inr open_still ↦ elim (cases_Bool (c == line_feed)) [
        | inl ends ↦ rw (open_still, ends) refl
        | inr on ↦ rw (open_still, on) (more-open (header_closing close ds)
            (later (open-more (header_closing close cs) (rw (open_still, on) at none))))
      ]
    ]

pub identifier-words : (text : List ℕ) → is_identifier_text text ≡ true → list_all is_word text ≡ true
identifier-words [] ident = refl
identifier-words (c ∷ ws) ident =
    let parts = and_parts (is_nondigit c) (list_all is_word ws) ident in
    and_from (is_word c) (list_all is_word ws) (nondigit-word c parts.0) parts.1

header-at : (put : Put) (close : ℕ) (before : Bool) (at c : ℕ) (cs : List ℕ) → IsSign close → FitsAt put before at c
    → header_closing close (c ∷ cs) ≡ None
    → (header_closing close cs ≡ None → header_closing close (respell put (at + 1) cs) ≡ None)
    → header_closing close (respell put at (c ∷ cs)) ≡ None
header-at put close before at c cs sign (kept is) none later =
    rw is (header-kept close c cs (respell put (at + 1) cs) none later)
header-at put close before at c cs sign (named letter is) none later =
    let rest = open-more (header_closing close cs) (sym (header-word close c cs sign (nondigit-word c letter)) ∙ none) in
    header-words close (put at c) (respell put (at + 1) cs) sign (identifier-words (put at c) is) (later rest)
header-at put close before at c cs sign (inner yes_before word is) none later =
    let rest = open-more (header_closing close cs) (sym (header-word close c cs sign word) ∙ none) in
    header-words close (put at c) (respell put (at + 1) cs) sign is (later rest)

header-fits : (put : Put) (close : ℕ) (before : Bool) (at : ℕ) (cs : List ℕ) → IsSign close → Fits put before at cs
    → header_closing close cs ≡ None → header_closing close (respell put at cs) ≡ None
header-fits put close before at [] sign fits none = none
header-fits put close before at (c ∷ cs) sign fits none =
    header-at put close before at c cs sign fits.0 none (λ n. header-fits put close (is_word c) (at + 1) cs sign fits.1 n)

-- Signs.

quote-apart : (q c : ℕ) → is_quote q ≡ true → is_word c ≡ true → (c == q) ≡ false
quote-apart q c quote word = grind (arith, nat_tests)

greater-apart : (c : ℕ) → is_word c ≡ true → (c == greater_than) ≡ false
greater-apart c word = grind (arith, nat_tests)

double-apart : (c : ℕ) → is_word c ≡ true → (c == double_quote) ≡ false
double-apart c word = grind (arith, nat_tests)

single-apart : (c : ℕ) → is_nondigit c ≡ true → (c == single_quote) ≡ false
single-apart c letter = grind (arith, nat_tests)

header-sign : (c : ℕ) → (header_close c == 0) ≡ false → IsSign (header_close c)
header-sign c closable =
    elim (cases_Bool (c == less_than)) [
      | inl less ↦ rw less (record { apart = greater-apart })
      | inr other ↦ elim (cases_Bool (c == double_quote)) [
        | inl double ↦ rw (other, double) (record { apart = double-apart })
        | inr none ↦ let contra = rw (other, none) at closable in absurd cc
      ]
    ]

begins-fits : (put : Put) (at d : ℕ) (cs : List ℕ) → Fits put false at cs → ((c : ℕ) → is_nondigit c ≡ true → (c == d) ≡ false)
    → begins d (respell put at cs) ≡ begins d cs
begins-fits put at d cs fits apart =
    begins-first d (respell put at cs) ∙ first-fits put at cs fits (λ c. c == d) false apart ∙ sym (begins-first d cs)

quoted-fits : (put : Put) (q at : ℕ) (cs : List ℕ) → is_quote q ≡ true → Fits put false at cs → quoted q cs ≡ None
    → quoted q (respell put at cs) ≡ None
quoted-fits put q at cs quote fits none =
    let same = begins-fits put at single_quote cs fits single-apart in
    let sign : IsSign q = record { apart = λ c word. quote-apart q c quote word } in
    elim (cases_Bool (q == single_quote && begins single_quote cs)) [
      | inl empty ↦ rw (same, empty) refl
      | inr some ↦ rw (same, some) (closing-fits put q false false at cs sign (λ h. refl) fits (rw some at none))
    ]

header_length-fits : (put : Put) (c at : ℕ) (cs : List ℕ) → Fits put false at cs → header_length c cs ≡ None
    → header_length c (respell put at cs) ≡ None
header_length-fits put c at cs fits none =
    elim (cases_Bool (header_close c == 0)) [
      | inl no_name ↦ rw no_name refl
      | inr closable ↦
          let sign = header-sign c closable in
          let same = begins-fits put at (header_close c) cs fits (λ d letter. sign.apart d (nondigit-word d letter)) in
          elim (cases_Bool (begins (header_close c) cs)) [
            | inl empty ↦ rw (closable, same, empty) refl
            | inr some ↦ rw (closable, same, some) (header-fits put (header_close c) false at cs sign fits (rw (closable, some) at none))
          ]
    ]

nondigit-quote : (c : ℕ) → is_nondigit c ≡ true → is_quote c ≡ false
nondigit-quote c letter = grind (arith, nat_tests)

no_quote-front : (c q : ℕ) (ds : List ℕ) → is_quote q ≡ false → wide_front c (q ∷ ds) ≡ None
no_quote-front c q ds other =
    elim (cases_Bool (c == capital_l)) [ inl wide ↦ rw (wide, other) refl | inr narrow ↦ rw narrow refl ]

map-open : (q : ℕ) (x : Option ℕ) → option_map {U = Kind × ℕ} (λ n. (quoted_kind q, n + 1)) x ≡ None → x ≡ None
map-open q None none = refl
map-open q (Some n) none = absurd cc

wide-at : (put : Put) (c at q : ℕ) (ds : List ℕ) → FitsAt put false at q → Fits put (is_word q) (at + 1) ds
    → wide_front c (q ∷ ds) ≡ None → wide_front c (respell put at (q ∷ ds)) ≡ None
wide-at put c at q ds (kept is) fits none =
    elim (cases_Bool (is_quote q)) [
      | inr other ↦ rw is (no_quote-front c q (respell put (at + 1) ds) other)
      | inl quote ↦ elim (cases_Bool (c == capital_l)) [
        | inr narrow ↦ rw (is, narrow) refl
        | inl wide ↦
            let behind : Fits put false (at + 1) ds = rw (quote-word q quote) at fits in
            let open_still = map-open q (quoted q ds) (rw (wide, quote) at none) in
            rw (is, wide, quote, quoted-fits put q (at + 1) ds quote behind open_still) refl
      ]
    ]
wide-at put c at q ds (named letter is) fits none =
    let w = identifier-first (put at q) is in
    rw w.2 (no_quote-front c w.0 (w.1 ++ respell put (at + 1) ds) (nondigit-quote w.0 w.3))
wide-at put c at q ds (inner contra word is) fits none = absurd (both_ways false refl contra)

wide-fits : (put : Put) (c at : ℕ) (cs : List ℕ) → Fits put false at cs → wide_front c cs ≡ None → wide_front c (respell put at cs) ≡ None
wide-fits put c at [] fits none = refl
wide-fits put c at (q ∷ ds) fits none = wide-at put c at q ds fits.0 fits.1 none

-- The same punctuators begin.

sign-word : (s c : ℕ) → not (is_word s) ≡ true → is_word c ≡ true → (c == s) ≡ false
sign-word s c sign word =
    elim (cases_Bool (c == s)) [
      | inl same ↦
          let is = eqb-true c s same in
          let contra = rw word at (rw (← is) at sign) in
          absurd cc
      | inr apart ↦ apart
    ]

signs-at : (put : Put) (s at c : ℕ) (ws cs : List ℕ) → not (is_word s) ≡ true → FitsAt put false at c
    → (is_word c ≡ false → begins_with ws (respell put (at + 1) cs) ≡ begins_with ws cs)
    → begins_with (s ∷ ws) (respell put at (c ∷ cs)) ≡ begins_with (s ∷ ws) (c ∷ cs)
signs-at put s at c ws cs sign (kept is) later =
    elim (cases_Bool (c == s)) [
      | inl same ↦
          let plain : is_word c ≡ false = rw (eqb-true c s same) (not-true (is_word s) sign) in
          rw (is, same) (later plain)
      | inr apart ↦ rw (is, apart) refl
    ]
signs-at put s at c ws cs sign (named letter is) later =
    let w = identifier-first (put at c) is in
    let apart = sign-word s c sign (nondigit-word c letter) in
    let apart_now = sign-word s w.0 sign (nondigit-word w.0 w.3) in
    rw (w.2, apart, apart_now) refl
signs-at put s at c ws cs sign (inner contra word is) later = absurd (both_ways false refl contra)

signs-fits : (put : Put) (w : List ℕ) (at : ℕ) (cs : List ℕ) → list_all (λ b. not (is_word b)) w ≡ true → Fits put false at cs
    → begins_with w (respell put at cs) ≡ begins_with w cs
signs-fits put [] at cs plain fits = refl
signs-fits put (s ∷ ws) at [] plain fits = refl
signs-fits put (s ∷ ws) at (c ∷ cs) plain fits =
    let parts = and_parts (not (is_word s)) (list_all (λ b. not (is_word b)) ws) plain in
    signs-at put s at c ws cs parts.0 fits.0 (λ other. signs-fits put ws (at + 1) cs parts.1 (rw other at fits.1))

-- behind a piece that stays what follows stands alike
pub alike-fits : (put : Put) (at c : ℕ) (xs ys : List ℕ) → stays put at (c ∷ xs) ≡ true → Fits put false (at + suc (length xs)) ys
    → Alike c xs ys (respell put (at + suc (length xs)) ys)
alike-fits put at c xs ys same fits =
    let on : at + suc (length xs) ≡ at + 1 + length xs = omega arith in
    let parts = and_parts (bytes_eq (put at c) (c ∷ [])) (stays put (at + 1) xs) same in
    let rest : Fits put false (at + 1) (xs ++ ys) = Fits-append put false (at + 1) xs ys (stays-fits put false (at + 1) xs parts.1) (rw on at fits) in
    let now : respell put (at + 1) (xs ++ ys) ≡ xs ++ respell put (at + suc (length xs)) ys =
    respell-append put (at + 1) xs ys ∙ rw (on, stays-respell put (at + 1) xs parts.1) refl in
    let here = bytes_eq-equal (put at c) (c ∷ []) parts.0 in
    let all : Fits put false at (c ∷ (xs ++ ys)) = (kept here, Fits-behind put (is_word c) (at + 1) (xs ++ ys) rest) in
    let whole : respell put at (c ∷ (xs ++ ys)) ≡ c ∷ (xs ++ respell put (at + suc (length xs)) ys) = rw (here, now) refl in
    record {
      first = first-fits put (at + suc (length xs)) ys fits;
      empty = λ none. rw none refl;
      signs = λ w plain. rw (← whole) (signs-fits put w at (c ∷ (xs ++ ys)) plain all);
      quote_open = λ quote none. rw (← now) (quoted-fits put c (at + 1) (xs ++ ys) quote rest none);
      wide_open = λ none. rw (← now) (wide-fits put c (at + 1) (xs ++ ys) rest none);
      header_open = λ none. rw (← now) (header_length-fits put c (at + 1) (xs ++ ys) rest none);
    }
