-- Lines of the logical text, and how they follow each other.
use Rattle.std.proofs.Common.{◌≡◌, ℕ, zero, suc, ◌+◌, ◌-◌, ◌<◌, ◌≤◌, Bool, true, false, not, List, [], length, get_or, Option, Some, None, slice_get, inl, inr, refl, sym, ap, ◌∙◌, arith}
use Rattle.std.specs.Prelude.{◌==◌, ◌&&◌, nat_le, nat_lt, ◌⊎◌}
use Rattle.std.specs.Option.{option_map_or}
use Rattle.std.specs.List.Sorted.{IsPartitionedBy}
use Rattle.std.proofs.lemmas.Bool.{cases_Bool, and_parts, eqb-true}
use Rattle.std.proofs.lemmas.Bool.Decides.{nat_tests}
use Rattle.std.proofs.lemmas.Option.{slice_get-get_or, slice_get_within, get_or_from_slice_get}
use Rattle.cs_base.specs.declared.positions.Pos.{Pos}
use Rattle.cs_base.proofs.BoolLemmas.{bool_same, not_true}
use Rattle.analysis.specs.Below.source_files.Files.{Table}
use Rattle.analysis.specs.Below.source_files.KeptFiles.{KeptValue, kept_at}
use Rattle.offences.specs.First.{IsAmong}
use Rattle.template_rules.specs.declared.odd_lines.OddLine.{OddLine}
use Rattle.template_rules.specs.LineOffences.{is_among_lines, is_line_among as in_lines, is_line_feed_at, line_begin}
use Rattle.template_rules.specs.OddLines.{AreInOrder, ArePlaced, FirstAmong, IsCut, IsLineEnd, IsLineIn, IsOddLine, IsPlaced, comes_before, ends_before, is_before, is_line_among}

-- ---- where lines begin

module _ (bytes : List ℕ) where
  abbrev lb : ℕ → ℕ
  lb k = line_begin bytes k

  abbrev feed : ℕ → Bool
  feed k = is_line_feed_at bytes k

  lb_first : lb 0 ≡ 0
  unfolding line_begin
  lb_first = refl

  lb_feed : (k : ℕ) → feed k ≡ true → lb (suc k) ≡ suc k
  unfolding line_begin
  lb_feed k is = rw is refl

  lb_free : (k : ℕ) → feed k ≡ false → lb (suc k) ≡ lb k
  unfolding line_begin
  lb_free k is = rw is refl

  lb_le : (k : ℕ) → lb k ≤ k
  lb_le zero = omega (arith, lb_first)
  lb_le (suc k) = elim (cases_Bool (feed k)) [
    | inl is ↦ omega (arith, lb_feed k is)
    | inr other ↦ omega (arith, lb_free k other, lb_le k)
  ]

  lb_step : (k : ℕ) → lb k ≤ lb (suc k)
  lb_step k = elim (cases_Bool (feed k)) [
    | inl is ↦ omega (arith, lb_feed k is, lb_le k)
    | inr other ↦ omega (arith, lb_free k other)
  ]

  lb_far : (d a b : ℕ) → a + d ≡ b → lb a ≤ lb b
  lb_far zero a b far = let same : a ≡ b = omega (arith, far) in omega (arith, ap lb same)
  lb_far (suc d) a zero far = absurd (omega (arith, far))
  lb_far (suc d) a (suc b) far = omega (arith, lb_far d a b (omega (arith, far)), lb_step b)

  lb_rise : (a b : ℕ) → a ≤ b → lb a ≤ lb b
  lb_rise a b on = lb_far (b - a) a b (omega (arith, on))

  lb_same : (d a b : ℕ) → a + d ≡ b → ((k : ℕ) → a ≤ k → k < b → feed k ≡ false) → lb b ≡ lb a
  lb_same zero a b far none = let same : b ≡ a = omega (arith, far) in ap lb same
  lb_same (suc d) a zero far none = absurd (omega (arith, far))
  lb_same (suc d) a (suc b) far none =
      lb_free b (none b (omega (arith, far)) (omega arith))
      ∙ lb_same d a b (omega (arith, far)) (λ k from to. none k from (omega (arith, to)))

  lb_behind : (e k : ℕ) → feed e ≡ true → e < k → e < lb k
  lb_behind e k is on = omega (arith, lb_rise (suc e) k on, lb_feed e is)

  lb_self : (k : ℕ) → lb (lb k) ≡ lb k
  lb_self zero = ap lb lb_first
  lb_self (suc k) = elim (cases_Bool (feed k)) [
    | inl is ↦ ap lb (lb_feed k is)
    | inr other ↦ ap lb (lb_free k other) ∙ lb_self k ∙ sym (lb_free k other)
  ]

  -- a line does not begin behind that of a character, where it does not end before it
  ends_told : (end : Option ℕ) (p from : ℕ) → IsLineEnd bytes p end
      → nat_le (lb from) (lb p) ≡ not (option_map_or (λ e. nat_lt e from) end false)
  ends_told None p from none = elim (cases_Bool (nat_le from p)) [
    | inl on ↦
        let low : lb from ≤ lb p = lb_rise from p (grind (arith, nat_tests)) in
        grind (arith, nat_tests)
    | inr past ↦
        let on : p ≤ from = grind (arith, nat_tests) in
        let same : lb from ≡ lb p = lb_same (from - p) p from (omega (arith, on)) (λ k h l. none k h) in
        grind (arith, nat_tests)
  ]
  ends_told (Some e) p from end = elim (cases_Bool (nat_lt e from)) [
    | inl past ↦
        let far : e < lb from = lb_behind e from end.1 (grind (arith, nat_tests)) in
        let low : lb p ≤ p = lb_le p in
        let less : p ≤ e = end.0 in
        rw past (grind (arith, nat_tests))
    | inr within ↦ elim (cases_Bool (nat_le from p)) [
      | inl on ↦
          let low : lb from ≤ lb p = lb_rise from p (grind (arith, nat_tests)) in
          rw within (grind (arith, nat_tests))
      | inr behind ↦
          let on : p ≤ from = grind (arith, nat_tests) in
          let last : from ≤ e = grind (arith, nat_tests) in
          let same : lb from ≡ lb p = lb_same (from - p) p from (omega (arith, on)) (λ k h l. end.2 k h (omega (arith, l, last))) in
          rw within (grind (arith, nat_tests))
    ]
  ]

  begin_told : (p to : ℕ) → nat_le (lb p) (lb to) ≡ nat_le (lb p) to
  begin_told p to =
      bool_same (nat_le (lb p) (lb to)) (nat_le (lb p) to)
      (λ is. let low : lb to ≤ to = lb_le to in let on : lb p ≤ lb to = grind (arith, nat_tests) in grind (arith, nat_tests))
      (λ is.
      let on : lb p ≤ to = grind (arith, nat_tests) in
      let low : lb (lb p) ≤ lb to = lb_rise (lb p) to on in
      let same : lb (lb p) ≡ lb p = lb_self p in
      grind (arith, nat_tests))

  not_ended : (end : Option ℕ) (p : ℕ) → IsLineEnd bytes p end → option_map_or (λ e. nat_lt e p) end false ≡ false
  not_ended None p none = refl
  not_ended (Some e) p end = let on : p ≤ e = end.0 in grind (arith, nat_tests)

-- the line of a token in its file is told as it is
pub odd_line : (table : Table) (f : KeptValue) (p : Pos) (o : OddLine) → kept_at table p.file ≡ Some f → IsLineIn f.bytes p o → IsOddLine table o
odd_line table f p o kept is =
    let first : o.first ≡ p = is.0 in
    let begin : o.begin ≡ line_begin f.bytes p.at = is.1 in
    record {
      placed = (rw first (omega (arith, begin, lb_le f.bytes p.at)), rw first (not_ended f.bytes o.end p.at is.2));
      told = λ from to. rw (first, kept, begin, ends_told f.bytes o.end p.at from.at is.2, begin_told f.bytes p.at to.at) refl;
    }

-- what stands in the line of a token stands where this does
in_file : (kept : Option KeptValue) (q p from to : ℕ) → option_map_or (in_lines q p p) kept false ≡ true
    → option_map_or (in_lines p from to) kept false ≡ true → option_map_or (in_lines q from to) kept false ≡ true
in_file None q p from to near among = absurd (cc)
in_file (Some f) q p from to near among =
    let n = and_parts (nat_le (line_begin f.bytes p) (line_begin f.bytes q)) (nat_le (line_begin f.bytes q) (line_begin f.bytes p)) near in
    let same : line_begin f.bytes q ≡ line_begin f.bytes p = grind (arith, nat_tests, n.0, n.1) in
    rw same among

pub same_line : (table : Table) (q p from to : Pos) → is_among_lines table q p p ≡ true → is_among_lines table p from to ≡ true
    → is_among_lines table q from to ≡ true
same_line table q p from to near among =
    let n = and_parts (q.file == p.file) (option_map_or (in_lines q.at p.at p.at) (kept_at table q.file) false) near in
    let m = and_parts (p.file == from.file) (option_map_or (in_lines p.at from.at to.at) (kept_at table p.file) false) among in
    let file : q.file ≡ p.file = eqb-true q.file p.file n.0 in
    let near' : option_map_or (in_lines q.at p.at p.at) (kept_at table p.file) false ≡ true = rw file at n.1 in
    rw (file, m.0) (in_file (kept_at table p.file) q.at p.at from.at to.at near' m.1)

-- ---- lines one behind the other

ends_up : (end : Option ℕ) (x y : ℕ) → option_map_or (λ e. nat_lt e x) end false ≡ true → x ≤ y → option_map_or (λ e. nat_lt e y) end false ≡ true
ends_up None x y is on = absurd (cc)
ends_up (Some e) x y is on = grind (arith, nat_tests)

ends_less : (end : Option ℕ) (x y : ℕ) → option_map_or (λ e. nat_lt e x) end false ≡ true → option_map_or (λ e. nat_lt e y) end false ≡ false → y < x
ends_less None x y is other = absurd (cc)
ends_less (Some e) x y is other = grind (arith, nat_tests)

-- a line before a position stands in a file before its file, or ends before it
before_cases : (p : Pos) (o : OddLine) → is_before p o ≡ true → (o.first.file < p.file) ⊎ ((o.first.file ≡ p.file) × (ends_before o p.at ≡ true))
before_cases p o is = elim (cases_Bool (nat_lt o.first.file p.file)) [
  | inl less ↦ inl (grind (arith, nat_tests))
  | inr other ↦
      let rest : (o.first.file == p.file && ends_before o p.at) ≡ true = rw other at is in
      let parts = and_parts (o.first.file == p.file) (ends_before o p.at) rest in
      inr (eqb-true o.first.file p.file parts.0, parts.1)
]

before_file : (p : Pos) (o : OddLine) → o.first.file < p.file → is_before p o ≡ true
before_file p o less = let is : nat_lt o.first.file p.file ≡ true = grind (arith, nat_tests) in rw is refl

before_end : (p : Pos) (o : OddLine) → o.first.file ≡ p.file → ends_before o p.at ≡ true → is_before p o ≡ true
before_end p o same ends =
    let is : (o.first.file == p.file) ≡ true = grind (arith, nat_tests) in
    let not_less : nat_lt o.first.file p.file ≡ false = grind (arith, nat_tests) in
    rw (not_less, is, ends) refl

-- what stands before a line that stands before a position stands before that too
before_through : (p : Pos) (o n : OddLine) → IsPlaced n → comes_before o n ≡ true → is_before p n ≡ true → is_before p o ≡ true
before_through p o n placed front is =
    let next : Pos = record { file = n.first.file; at = n.begin } in
    elim (before_cases next o front) [
      | inl less ↦ elim (before_cases p n is) [
        | inl on ↦ before_file p o (omega (arith, less, on))
        | inr here ↦ before_file p o (omega (arith, less, here.0))
      ]
      | inr same ↦ elim (before_cases p n is) [
        | inl on ↦ before_file p o (omega (arith, same.0, on))
        | inr here ↦
            let behind : n.first.at < p.at = ends_less n.end p.at n.first.at here.1 placed.1 in
            before_end p o (same.0 ∙ here.0) (ends_up o.end n.begin p.at same.1 (omega (arith, placed.0, behind)))
      ]
    ]

-- a line among these is not before their first
among_parts : (from : Pos) (to : ℕ) (o : OddLine) → is_line_among from to o ≡ true
    → (o.first.file ≡ from.file) × (ends_before o from.at ≡ false) × (o.begin ≤ to)
among_parts from to o is =
    let parts = and_parts (o.first.file == from.file) (not (ends_before o from.at) && nat_le o.begin to) is in
    let rest = and_parts (not (ends_before o from.at)) (nat_le o.begin to) parts.1 in
    (eqb-true o.first.file from.file parts.0, not_true (ends_before o from.at) rest.0, grind (arith, nat_tests, rest.1))

among_not_before : (from : Pos) (to : ℕ) (o : OddLine) → is_line_among from to o ≡ true → is_before from o ≡ true → ⊥
among_not_before from to o is before =
    let parts = among_parts from to o is in
    elim (before_cases from o before) [
      | inl less ↦ absurd (omega (arith, less, parts.0))
      | inr here ↦ let both : true ≡ false = sym here.1 ∙ parts.1 in cc
    ]

among_of : (from : Pos) (to : ℕ) (o : OddLine) → o.first.file ≡ from.file → ends_before o from.at ≡ false → o.begin ≤ to → is_line_among from to o ≡ true
among_of from to o same ends on =
    let file : (o.first.file == from.file) ≡ true = grind (arith, nat_tests) in
    let begins : nat_le o.begin to ≡ true = grind (arith, nat_tests) in
    rw (file, ends, begins) refl

-- a line of the same file that is not before a position does not end before it
not_before_end : (p : Pos) (o : OddLine) → o.first.file ≡ p.file → is_before p o ≡ false → ends_before o p.at ≡ false
not_before_end p o same other = elim (cases_Bool (ends_before o p.at)) [
  | inl ends ↦ let both : true ≡ false = sym (before_end p o same ends) ∙ other in absurd (cc)
  | inr none ↦ none
]

-- ---- lines in order

module _ (lines : List OddLine) (d : OddLine) (placed : ArePlaced lines) (ordered : AreInOrder lines) where
  abbrev at : ℕ → OddLine
  at k = get_or lines k d

  placed_at : (k : ℕ) → k < length lines → IsPlaced (at k)
  placed_at k within = placed (at k) (k, slice_get-get_or lines k d within)

  before_back : (p : Pos) (n i j : ℕ) → i + n ≡ j → j < length lines → is_before p (at j) ≡ true → is_before p (at i) ≡ true
  before_back p zero i j far within is = let same : i ≡ j = omega (arith, far) in rw same is
  before_back p (suc n) i zero far within is = absurd (omega (arith, far))
  before_back p (suc n) i (suc j) far within is =
      let on : j + 1 ≡ suc j = omega arith in
      let next : comes_before (at j) (at (suc j)) ≡ true = rw on at (ordered j d (omega (arith, within))) in
      before_back p n i j (omega (arith, far)) (omega (arith, within))
      (before_through p (at j) (at (suc j)) (placed_at (suc j) within) next is)

  -- each stands before all behind it
  in_front : (n i j : ℕ) → i + suc n ≡ j → j < length lines → comes_before (at i) (at j) ≡ true
  in_front n i zero far within = absurd (omega (arith, far))
  in_front n i (suc j) far within =
      let on : j + 1 ≡ suc j = omega arith in
      let next : comes_before (at j) (at (suc j)) ≡ true = rw on at (ordered j d (omega (arith, within))) in
      before_back (record { file = (at (suc j)).first.file; at = (at (suc j)).begin }) n i j (omega (arith, far)) (omega (arith, within)) next

pub before_partitioned : (lines : List OddLine) (p : Pos) → ArePlaced lines → AreInOrder lines → IsPartitionedBy (is_before p) lines
before_partitioned lines p placed ordered i j d on within is = before_back lines d placed ordered p (j - i) i j (omega (arith, on)) within is

-- ---- the first line that is not before a position

module _ (lines : List OddLine) (all_placed : ArePlaced lines) (ordered : AreInOrder lines) (from : Pos) (to n : ℕ) (cut : IsCut (is_before from) lines n) where
  -- what stands among the lines is the first one of these, or it stands behind
  not_in_front : (o : OddLine) → (m : IsAmong lines o) → is_line_among from to o ≡ true → n ≤ m.0
  not_in_front o m is = elim (cases_Bool (nat_lt m.0 n)) [
    | inl less ↦
        let before : is_before from (get_or lines m.0 o) ≡ true = cut.0 m.0 o (omega arith) (grind (arith, nat_tests)) in
        let it : get_or lines m.0 o ≡ o = get_or_from_slice_get lines m.0 o o m.1 in
        absurd (among_not_before from to o is (rw it at before))
    | inr other ↦ grind (arith, nat_tests)
  ]

  pub first_some : (p : OddLine) → slice_get lines n ≡ Some p → is_line_among from to p ≡ true → FirstAmong lines from to (Some p.first)
  first_some p found here = (
    (p, (n, found), refl, here),
    λ o m is.
        let from_n : n ≤ m.0 = not_in_front o m is in
        elim (cases_Bool (nat_le m.0 n)) [
          | inl last ↦
              let same : m.0 ≡ n = grind (arith, nat_tests) in
              let it : Some o ≡ Some p = sym m.1 ∙ ap (slice_get lines) same ∙ found in
              let eq : o ≡ p = cc in
              rw eq (omega arith)
          | inr more ↦
              let within : m.0 < length lines = slice_get_within lines m.0 o m.1 in
              let on : n < m.0 = grind (arith, nat_tests) in
              let front = in_front lines o all_placed ordered (m.0 - n - 1) n m.0 (omega (arith, on)) within in
              let one : get_or lines n o ≡ p = get_or_from_slice_get lines n p o found in
              let two : get_or lines m.0 o ≡ o = get_or_from_slice_get lines m.0 o o m.1 in
              let before : comes_before p o ≡ true = rw (one, two) at front in
              let parts = among_parts from to p here in
              let others = among_parts from to o is in
              let placed = all_placed o m in
              let own = all_placed p (n, found) in
              elim (before_cases (record { file = o.first.file; at = o.begin }) p before) [
                | inl less ↦ absurd (omega (arith, less, parts.0, others.0))
                | inr same ↦
                    let less : p.first.at < o.begin = ends_less p.end o.begin p.first.at same.1 own.1 in
                    omega (arith, less, placed.0)
              ]
        ],
  )

  pub first_none : ((p : OddLine) → slice_get lines n ≡ Some p → is_line_among from to p ≡ true → ⊥) → FirstAmong lines from to None
  first_none none o m = elim (cases_Bool (is_line_among from to o)) [
    | inl is ↦
        let from_n : n ≤ m.0 = not_in_front o m is in
        let within : m.0 < length lines = slice_get_within lines m.0 o m.1 in
        let p : OddLine = get_or lines n o in
        let found : slice_get lines n ≡ Some p = slice_get-get_or lines n o (omega (arith, from_n, within)) in
        let two : get_or lines m.0 o ≡ o = get_or_from_slice_get lines m.0 o o m.1 in
        absurd (none p found (elim (cases_Bool (nat_le m.0 n)) [
          | inl last ↦
              let same : m.0 ≡ n = grind (arith, nat_tests) in
              let it : p ≡ o = ap (λ k. get_or lines k o) (sym same) ∙ two in
              rw it is
          | inr more ↦
              let on : n < m.0 = grind (arith, nat_tests) in
              let front = in_front lines o all_placed ordered (m.0 - n - 1) n m.0 (omega (arith, on)) within in
              let before : comes_before p o ≡ true = rw two at front in
              let others = among_parts from to o is in
              let own = all_placed p (n, found) in
              let behind : is_before from p ≡ false = cut.1 n o (omega arith) (omega (arith, from_n, within)) in
              elim (before_cases (record { file = o.first.file; at = o.begin }) p before) [
                | inl less ↦
                    let yet : is_before from p ≡ true = before_file from p (omega (arith, less, others.0)) in
                    let both : true ≡ false = sym yet ∙ behind in absurd (cc)
                | inr here ↦
                    let file : p.first.file ≡ from.file = here.0 ∙ others.0 in
                    let less : p.first.at < o.begin = ends_less p.end o.begin p.first.at here.1 own.1 in
                    among_of from to p file (not_before_end from p file behind) (omega (arith, own.0, less, others.2))
              ]
        ]))
    | inr other ↦ other
  ]

  pub first_some-at : (d e : OddLine) → n < length lines → is_line_among from to (get_or lines n d) ≡ true
      → FirstAmong lines from to (Some (get_or lines n e).first)
  first_some-at d e within here =
      let found : slice_get lines n ≡ Some (get_or lines n e) = slice_get-get_or lines n e within in
      let same : get_or lines n d ≡ get_or lines n e = get_or_from_slice_get lines n (get_or lines n e) d found in
      first_some (get_or lines n e) found (rw same at here)

  pub first_none-at : (d : OddLine) → n < length lines → is_line_among from to (get_or lines n d) ≡ false → FirstAmong lines from to None
  first_none-at d within out =
      let found : slice_get lines n ≡ Some (get_or lines n d) = slice_get-get_or lines n d within in
      first_none (λ p at is.
      let two : Some p ≡ Some (get_or lines n d) = sym at ∙ found in
      let same : p ≡ get_or lines n d = cc in
      let other : is_line_among from to p ≡ false = rw same out in
      let both : true ≡ false = sym is ∙ other in
      cc)
