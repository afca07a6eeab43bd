-- Marks on the characters of one file, and which characters the spans of a token tell.
use Rattle.std.proofs.Common.{◌≡◌, ℕ, zero, suc, ◌+◌, ◌-◌, ◌<◌, ◌≤◌, Bool, true, false, ◌||◌, ◌&&◌, List, [], ◌∷◌, ◌++◌, Option, Some, None, length, map, get_or, refl, sym, ap, ◌∙◌, subst, arith, leb-true, inl, inr}
use Rattle.std.specs.Prelude.{nat_eq, nat_le, nat_lt, replicate, slice_set, IfOk, OnOk, Result, Ok, Err}
use Rattle.std.specs.List.{list_any, range_with_len}
use Rattle.std.proofs.lemmas.Bool.{cases_Bool, and_parts, and_from, eqb-true, eq-eqb}
use Rattle.std.proofs.lemmas.Bool.Decides.{nat_tests}
use Rattle.std.proofs.lemmas.Grind.{get_or-set_at}
use Rattle.std.proofs.lemmas.List.{get_or_past, get_or-replicate, length-replicate, get_or_append_left, get_or-append_right, get_or-set_other}
use Rattle.std.proofs.lemmas.List.Folds.{list_any_at}
use Rattle.std.proofs.lemmas.List.FromFn.{get_or-map-range_with_len, length-map-range_with_len}
use Rattle.std.proofs.lemmas.Option.{same_Some, slice_get-get_or}
use Rattle.cs_base.specs.declared.positions.Pos.{Pos}
use Rattle.cs_base.specs.declared.spans.Span.{Span}
use Rattle.cs_base.specs.Token.{Token, origin_at}
use Rattle.cs_base.specs.Spans.{lies_in, told_by, origin_by, origins_by, AreSpansFrom, AreSpans}
use Rattle.cs_base.proofs.PlaceLemmas.{pos_is}
use Rattle.cs_base.proofs.SpanLemmas.{AreSpansFrom-le}
use Rattle.unseen_names.specs.Characters.{covers, StandsFrom}
use Rattle.unseen_names.specs.Unseen.{comes_from, stands_at}

-- ---- one character

pub stands : (p : Pos) (o : Option Pos) → stands_at p o ≡ true → o ≡ Some p
stands p None is = absurd (cc)
stands p (Some q) is =
    let both = and_parts (nat_eq p.file q.file) (nat_eq p.at q.at) is in
    ap (λ (x : Pos). Some x) (sym (pos_is p q (eqb-true p.file q.file both.0) (eqb-true p.at q.at both.1)))

pub stands_there : (p : Pos) → stands_at p (Some p) ≡ true
stands_there p = and_from (nat_eq p.file p.file) (nat_eq p.at p.at) (eq-eqb p.file p.file refl) (eq-eqb p.at p.at refl)

-- ---- rows

-- a mark that is not set is none
blank_past : (n k : ℕ) → get_or (replicate n false) k false ≡ false
blank_past n k = elim (cases_Bool (nat_lt k n)) [
  | inl within ↦ get_or-replicate n k false false (grind (arith, nat_tests, within))
  | inr past ↦
      let behind : n ≤ k = grind (arith, nat_tests, past) in
      get_or_past (replicate n false) k false (omega (arith, length-replicate n false, behind))
]

-- a longer row has the marks that it had
pub longer_same : (old : List Bool) (n k : ℕ) → get_or (old ++ replicate n false) k false ≡ get_or old k false
longer_same old n k = elim (cases_Bool (nat_lt k (length old))) [
  | inl within ↦ get_or_append_left old (replicate n false) false k (grind (arith, nat_tests, within))
  | inr past ↦
      let behind : length old ≤ k = grind (arith, nat_tests, past) in
      get_or-append_right old (replicate n false) (length old) k false refl behind ∙ blank_past n (k - length old) ∙ sym (get_or_past old k false behind)
]

or_true : (b : Bool) → (b || true) ≡ true
or_true true = refl
or_true false = refl

-- one mark more
pub row_more : (old row : List Bool) (from k : ℕ) → from ≤ k → k < length row
    → ((j : ℕ) → get_or row j false ≡ (get_or old j false || (nat_le from j && nat_lt j k)))
    → (j : ℕ) → get_or (slice_set row k true) j false ≡ (get_or old j false || (nat_le from j && nat_lt j (k + 1)))
row_more old row from k behind within before j = elim (cases_Bool (nat_eq j k)) [
  | inl here ↦
      let is : j ≡ k = eqb-true j k here in
      let inside : (nat_le from j && nat_lt j (k + 1)) ≡ true = grind (arith, nat_tests) in
      get_or-set_at row k j true false is within ∙ sym (ap (λ (b : Bool). get_or old j false || b) inside ∙ or_true (get_or old j false))
  | inr other ↦
      let apart : j ≡ k → ⊥ = λ is. let same = eq-eqb j k is in cc in
      let same : (nat_le from j && nat_lt j k) ≡ (nat_le from j && nat_lt j (k + 1)) = grind (arith, nat_tests) in
      get_or-set_other row k j true false apart ∙ before j ∙ ap (λ (b : Bool). get_or old j false || b) same
]

-- ---- spans

-- two tests that say yes together
both_ways : (a b : Bool) → (a ≡ true → b ≡ true) → (b ≡ true → a ≡ true) → a ≡ b
both_ways true b there back = sym (there refl)
both_ways false true there back = back refl
both_ways false false there back = refl

told_covered : (s : Span) (k : ℕ) → lies_in s k ≡ true → covers (told_by s k) s ≡ true
told_covered s k lies = grind (arith, nat_tests)

-- what a span tells, it covers
covered : (p : Pos) (spans : List Span) (k : ℕ) → origin_by spans k ≡ Some p → list_any (covers p) spans ≡ true
covered p [] k told = absurd (cc)
covered p (s ∷ spans) k told =
    elim (cases_Bool (lies_in s k)) [
      | inl here ↦
          let at : told_by s k ≡ p = same_Some (told_by s k) p (rw here at told) in
          let is : covers p s ≡ true = subst (λ (q : Pos). covers q s ≡ true) at (told_covered s k here) in
          rw is refl
      | inr later ↦
          let is : list_any (covers p) spans ≡ true = covered p spans k (rw later at told) in
          elim (cases_Bool (covers p s)) [ inl first ↦ rw first refl | inr other ↦ rw (other, is) refl ]
    ]

ended : (s : Span) (k : ℕ) → s.from + s.len ≤ k → lies_in s k ≡ false
ended s k past = grind (arith, nat_tests)

-- the character of the token that comes from a position of the span
abbrev number_of : Pos → Span → ℕ
number_of p s = s.from + (p.at - s.start.at)

number_lies : (p : Pos) (s : Span) → covers p s ≡ true → lies_in s (number_of p s) ≡ true
number_lies p s is = grind (arith, nat_tests)

number_less : (p : Pos) (s : Span) → covers p s ≡ true → number_of p s < s.from + s.len
number_less p s is = grind (arith, nat_tests)

number_told : (p : Pos) (s : Span) → covers p s ≡ true → told_by s (number_of p s) ≡ p
number_told p s is =
    let parts = and_parts (nat_eq p.file s.start.file) (nat_le s.start.at p.at && nat_lt p.at (s.start.at + s.len)) is in
    let behind : s.start.at ≤ p.at = leb-true s.start.at p.at (and_parts (nat_le s.start.at p.at) (nat_lt p.at (s.start.at + s.len)) parts.1).0 in
    pos_is (told_by s (number_of p s)) p (sym (eqb-true p.file s.start.file parts.0)) (omega (arith, behind))

-- some character of a token comes from the position
record IsTold (p : Pos) (from n : ℕ) (spans : List Span) : Type 0 where
  character : ℕ
  behind : from ≤ character
  within : character < n
  told : origin_by spans character ≡ Some p

told_at : (p : Pos) (from n : ℕ) (spans : List Span) → AreSpansFrom from n spans → list_any (covers p) spans ≡ true → IsTold p from n spans
told_at p from n [] are is = absurd (cc)
told_at p from n (s ∷ spans) are is = elim (cases_Bool (covers p s)) [
  | inl here ↦ record {
    character = number_of p s;
    behind = omega (arith, are.0);
    within = omega (arith, number_less p s here, AreSpansFrom-le (s.from + s.len) n spans are.2);
    told = rw (number_lies p s here) (ap (λ (q : Pos). Some q) (number_told p s here));
  }
  | inr other ↦
      let later = told_at p (s.from + s.len) n spans are.2 (rw other at is) in
      record {
        character = later.character;
        behind = omega (arith, later.behind, are.0);
        within = later.within;
        told = rw (ended s later.character later.behind) later.told;
      }
]

some_stands : (p : Pos) (os : List (Option Pos)) → list_any (stands_at p) os ≡ true → (k : ℕ) × (k < length os) × (stands_at p (get_or os k None) ≡ true)
some_stands p [] is = absurd (cc)
some_stands p (o ∷ os) is = elim (cases_Bool (stands_at p o)) [
  | inl here ↦ (zero, omega arith, here)
  | inr other ↦ let later = some_stands p os (rw other at is) in (suc later.0, omega (arith, later.1), later.2)
]

-- The spans of a token cover the positions that its characters come from.
pub spans_tell : (p : Pos) (n : ℕ) (spans : List Span) → AreSpans n spans → list_any (covers p) spans ≡ list_any (stands_at p) (origins_by n spans)
unfolding origins_by
spans_tell p n spans are =
    let origins = map (origin_by spans) (range_with_len 0 n) in
    let count : length origins ≡ n = length-map-range_with_len (origin_by spans) 0 n in
    both_ways (list_any (covers p) spans) (list_any (stands_at p) origins)
    (λ is.
    let t = told_at p 0 n spans are is in
    let at : get_or origins t.character None ≡ Some p =
    get_or-map-range_with_len (origin_by spans) 0 n t.character t.character None t.within (omega arith) ∙ t.told in
    list_any_at (stands_at p) origins t.character None (omega (arith, t.within, count)) (ap (stands_at p) at ∙ stands_there p))
    (λ is.
    let x = some_stands p origins is in
    let within : x.0 < n = omega (arith, x.1, count) in
    let at : get_or origins x.0 None ≡ origin_by spans x.0 = get_or-map-range_with_len (origin_by spans) 0 n x.0 x.0 None within (omega arith) in
    covered p spans x.0 (sym at ∙ stands p (get_or origins x.0 None) x.2))

-- the spans of a token alone
pub taken : (p : Pos) (t : Token) (before spans : List Span) → AreSpans (0 + length t.text) spans
    → origins_by (0 + length t.text) spans ≡ origins_by 0 before ++ t.origins → list_any (covers p) spans ≡ comes_from p t
unfolding origins_by
taken p t before spans are told = spans_tell p (0 + length t.text) spans are ∙ ap (list_any (stands_at p)) told

-- a token that is one span
pub whole_taken : (p : Pos) (t : Token) (s : Span) → length t.origins ≡ length t.text → StandsFrom t s.start → s.len ≡ length t.text
    → covers p s ≡ comes_from p t
whole_taken p t s each starts len =
    both_ways (covers p s) (comes_from p t)
    (λ is.
    let parts = and_parts (nat_eq p.file s.start.file) (nat_le s.start.at p.at && nat_lt p.at (s.start.at + s.len)) is in
    let tests = and_parts (nat_le s.start.at p.at) (nat_lt p.at (s.start.at + s.len)) parts.1 in
    let behind : s.start.at ≤ p.at = leb-true s.start.at p.at tests.0 in
    let before : p.at < s.start.at + s.len = grind (arith, nat_tests, tests.1) in
    let k = p.at - s.start.at in
    let within : k < length t.text = omega (arith, behind, before, len) in
    let same : record { file = s.start.file; at = s.start.at + k } ≡ p = pos_is (record { file = s.start.file; at = s.start.at + k }) p (sym (eqb-true p.file s.start.file parts.0)) (omega (arith, behind)) in
    let at : get_or t.origins k None ≡ Some p = sym (origin_is k within) ∙ (starts k within ∙ ap (λ (q : Pos). Some q) same) in
    list_any_at (stands_at p) t.origins k None (omega (arith, within, each)) (ap (stands_at p) at ∙ stands_there p))
    (λ is.
    let x = some_stands p t.origins is in
    let within : x.0 < length t.text = omega (arith, x.1, each) in
    let there : Some (record { file = s.start.file; at = s.start.at + x.0 }) ≡ Some p =
    sym (starts x.0 within) ∙ (origin_is x.0 within ∙ stands p (get_or t.origins x.0 None) x.2) in
    let same = same_Some (record { file = s.start.file; at = s.start.at + x.0 }) p there in
    subst (λ (q : Pos). covers q s ≡ true) same (number_covered s x.0 (omega (arith, within, len))))
  where
    origin_is : (k : ℕ) → k < length t.text → origin_at t k ≡ get_or t.origins k None
    origin_is k within = rw (slice_get-get_or t.origins k None (omega (arith, within, each))) refl

    number_covered : (s : Span) (k : ℕ) → k < s.len → covers (record { file = s.start.file; at = s.start.at + k }) s ≡ true
    number_covered s k less = grind (arith, nat_tests)

pub on_ok_if : {X E : Type 0} (r : Result X E) (P Q : Type 0) → IfOk r (λ _. P) → (P → Q) → OnOk r Q
on_ok_if (Ok x) P Q h follows = follows h
on_ok_if (Err e) P Q h follows = tt

pub on_ok_map : {X E : Type 0} (r : Result X E) (P Q : Type 0) → OnOk r P → (P → Q) → OnOk r Q
on_ok_map (Ok x) P Q h follows = follows h
on_ok_map (Err e) P Q h follows = tt
