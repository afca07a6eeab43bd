-- One move: behind as many characters as stand before it, those of members replaced, a position stands where the growth of
-- the members before it moves it to.
use Rattle.std.proofs.Common.{◌≡◌, ℕ, zero, suc, ◌+◌, ◌-◌, ◌*◌, ◌<◌, ◌≤◌, ◌&&◌, Bool, true, false, cond, if◌then◌else◌, List, [], ◌∷◌, ◌++◌, length, take, Option, Some, ◌⊎◌, inl, inr, refl, sym, ap, ◌∙◌, arith, length-append}
use Rattle.std.specs.Prelude.{find, nat_eq, nat_lt}
use Rattle.std.specs.List.{count_by}
use Rattle.std.specs.Option.{option_map_or}
use Rattle.std.proofs.Math.Nat.{add-mul}
use Rattle.std.proofs.lemmas.List.Recursion.{is_count_by}
use Rattle.std.proofs.lemmas.Bool.{cases_Bool, cases_lt, eqb-true, eq-eqb, ltb-true, lt-ltb, false_from_ne_true}
use Rattle.cs_base.specs.declared.positions.Part.{Part}
use Rattle.cs_base.specs.declared.positions.Pos.{Pos}
use Rattle.analysis.specs.Below.eclass_map.ClassTable.{Table, part_with}
use Rattle.analysis.specs.Below.eclass_map.Positions.{holds}
use Rattle.analysis.specs.Below.eclass_map.Resized.{begins_before, members_before, moved_to}
use Rattle.analysis.proofs.Below.eclass_map.TokenFacts.{Holding, holding, holds_from}
use Rattle.lexer.specs.Places.{pos}
use Rattle.lexer.specs.Respelling.{respell, moved}
use Rattle.part_respell.specs.Respelled.{put_in, put_at, put_of}
use Rattle.edited_unit_laws.proofs.ListLemmas.{In, AllOf}
use Rattle.rename_meaning.proofs.SameElementLemmas.{Once, total, same_totals}

-- ---- how many members hold a character, and how many begin with it

abbrev pub one_if : Bool → ℕ
one_if b = cond b 1 0

zero_more : (k : ℕ) → 0 + k ≡ k
zero_more k = omega arith

abbrev pub begins_with : Pos → Part → Bool
begins_with p m = holds m p && nat_eq m.start.at p.at

abbrev pub held_by : List Part → Pos → ℕ
held_by [] p = 0
held_by (m ∷ ms) p = one_if (holds m p) + held_by ms p

abbrev pub begun_by : List Part → Pos → ℕ
begun_by [] p = 0
begun_by (m ∷ ms) p = one_if (begins_with p m) + begun_by ms p

one_le : (b c : Bool) → one_if (b && c) ≤ one_if b
one_le true true = omega arith
one_le true false = omega arith
one_le false c = omega arith

-- what begins with a character holds it
begun_le : (ms : List Part) (p : Pos) → begun_by ms p ≤ held_by ms p
begun_le [] p = omega arith
begun_le (m ∷ ms) p =
    let first = one_le (holds m p) (nat_eq m.start.at p.at) in
    let rest = begun_le ms p in
    omega (arith, first, rest)

module _ (name : List ℕ) (p : Pos) (c : ℕ) where
  abbrev put_size : Option Part → ℕ
  put_size o = length (option_map_or (put_in name p) o (c ∷ []))

  name_size : (b : Bool) → length (if b then name else []) ≡ one_if b * length name
  name_size true = omega arith
  name_size false = omega arith

  put_step : (m : Part) (b : Bool) (o : Option Part) (held begun : ℕ) → one_if b + held ≤ 1 → begun ≤ held
      → (held ≤ 1 → put_size o + held ≡ 1 + begun * length name)
      → put_size (cond b (Some m) o) + (one_if b + held) ≡ 1 + (one_if (b && nat_eq m.start.at p.at) + begun) * length name
  put_step m false o held begun le less rest = grown (put_size o) held begun (rest (omega (arith, le)))
    where
      grown : (l h b : ℕ) → l + h ≡ 1 + b * length name → l + (0 + h) ≡ 1 + (0 + b) * length name
      grown l h b r = ap (λ (k : ℕ). l + k) (zero_more h) ∙ (r ∙ ap (λ (k : ℕ). 1 + k * length name) (sym (zero_more b)))
  put_step m true o held begun le less rest =
      let none : begun ≡ 0 = omega (arith, le, less) in
      let size = name_size (nat_eq m.start.at p.at) in
      let all : (one_if (nat_eq m.start.at p.at) + begun) * length name ≡ one_if (nat_eq m.start.at p.at) * length name =
      ap (λ (k : ℕ). (one_if (nat_eq m.start.at p.at) + k) * length name) none
      ∙ ap (λ (k : ℕ). k * length name) (plus_none (one_if (nat_eq m.start.at p.at))) in
      join (length (put_in name p m)) held ((one_if (nat_eq m.start.at p.at) + begun) * length name) (one_if (nat_eq m.start.at p.at) * length name) size all le
    where
      plus_none : (k : ℕ) → k + 0 ≡ k
      plus_none k = omega arith

      join : (l held both one : ℕ) → l ≡ one → both ≡ one → 1 + held ≤ 1 → l + (1 + held) ≡ 1 + both
      join l held both one size all le = omega (arith, size, all, le)

  -- what stands for a character, where one member at most holds it
  put_length : (ms : List Part) → held_by ms p ≤ 1 → length (put_at ms name p c) + held_by ms p ≡ 1 + begun_by ms p * length name
  put_length [] le = omega arith
  put_length (m ∷ ms) le =
      put_step m (holds m p) (find (λ q. holds q p) ms) (held_by ms p) (begun_by ms p) le (begun_le ms p) (put_length ms)

-- ---- the same of many characters

module _ (ms : List Part) (name : List ℕ) (file : ℕ) (one : (p : Pos) → held_by ms p ≤ 1) where
  -- of the n characters from this one on
  abbrev held_to : ℕ → ℕ → ℕ
  held_to at zero = 0
  held_to at (suc n) = held_by ms (pos file at) + held_to (at + 1) n

  abbrev begun_to : ℕ → ℕ → ℕ
  begun_to at zero = 0
  begun_to at (suc n) = begun_by ms (pos file at) + begun_to (at + 1) n

  text_moves : (cs : List ℕ) (at n : ℕ) → n ≤ length cs
      → length (respell (put_of ms name file) at (take n cs)) + held_to at n ≡ n + begun_to at n * length name
  text_moves cs at zero less = none cs
    where
      none : (ds : List ℕ) → length (respell (put_of ms name file) at (take zero ds)) + 0 ≡ 0 + 0 * length name
      none [] = omega arith
      none (d ∷ ds) = omega arith
  text_moves [] at (suc n) less = absurd (omega (arith, less))
  text_moves (c ∷ cs) at (suc n) less =
      let p : Pos = pos file at in
      let first = put_length name p c ms (one p) in
      let rest = text_moves cs (at + 1) n (omega (arith, less)) in
      let both = length-append (put_of ms name file at c) (respell (put_of ms name file) (at + 1) (take n cs)) in
      let sum = add-mul (begun_by ms p) (begun_to (at + 1) n) (length name) in
      join (length (put_of ms name file at c)) (length (respell (put_of ms name file) (at + 1) (take n cs)))
      (length (put_of ms name file at c ++ respell (put_of ms name file) (at + 1) (take n cs))) (held_by ms p) (held_to (at + 1) n) n
      (begun_by ms p * length name) (begun_to (at + 1) n * length name) ((begun_by ms p + begun_to (at + 1) n) * length name) first rest both sum
    where
      join : (l1 l2 l h1 h2 k b1 b2 b : ℕ) → l1 + h1 ≡ 1 + b1 → l2 + h2 ≡ k + b2 → l ≡ l1 + l2 → b ≡ b1 + b2 → l + (h1 + h2) ≡ suc k + b
      join l1 l2 l h1 h2 k b1 b2 b first rest both sum = omega (arith, first, rest, both, sum)

-- ---- the characters of one member

module _ (m : Part) (file : ℕ) where
  abbrev own_held : ℕ → ℕ → ℕ
  own_held at zero = 0
  own_held at (suc n) = one_if (holds m (pos file at)) + own_held (at + 1) n

  abbrev own_begun : ℕ → ℕ → ℕ
  own_begun at zero = 0
  own_begun at (suc n) = one_if (begins_with (pos file at) m) + own_begun (at + 1) n

  free_here : (at : ℕ) → (Holding m (pos file at) → ⊥) → holds m (pos file at) ≡ false
  free_here at free = false_from_ne_true (holds m (pos file at)) (λ e. free (holding m (pos file at) e))

  -- a member of another file
  other_held : (m.start.file ≡ file → ⊥) → (at n : ℕ) → (own_held at n ≡ 0) × (own_begun at n ≡ 0)
  other_held apart at zero = (refl, refl)
  other_held apart at (suc n) =
      let here = free_here at (λ h. apart h.file) in
      let rest = other_held apart (at + 1) n in
      (ap (λ (b : Bool). one_if b + own_held (at + 1) n) here ∙ (zero_more (own_held (at + 1) n) ∙ rest.0), ap (λ (b : Bool). one_if (b && nat_eq m.start.at at) + own_begun (at + 1) n) here ∙ (zero_more (own_begun (at + 1) n) ∙ rest.1))

  -- characters before it
  before_held : (at n : ℕ) → at + n ≤ m.start.at → (own_held at n ≡ 0) × (own_begun at n ≡ 0)
  before_held at zero le = (refl, refl)
  before_held at (suc n) le =
      let here = free_here at (λ h. (let from = h.from in omega (arith, from, le))) in
      let rest = before_held (at + 1) n (omega (arith, le)) in
      (ap (λ (b : Bool). one_if b + own_held (at + 1) n) here ∙ (zero_more (own_held (at + 1) n) ∙ rest.0), ap (λ (b : Bool). one_if (b && nat_eq m.start.at at) + own_begun (at + 1) n) here ∙ (zero_more (own_begun (at + 1) n) ∙ rest.1))

  -- .. behind its first one: it begins with none of these
  behind_begun : (at n : ℕ) → m.start.at < at → own_begun at n ≡ 0
  behind_begun at zero less = refl
  behind_begun at (suc n) less =
      let other : nat_eq m.start.at at ≡ false = false_from_ne_true (nat_eq m.start.at at) (λ e. (let same = eqb-true m.start.at at e in omega (arith, same, less))) in
      let none : begins_with (pos file at) m ≡ false = ap (λ (b : Bool). holds m (pos file at) && b) other ∙ and_none (holds m (pos file at)) in
      ap (λ (b : Bool). one_if b + own_begun (at + 1) n) none ∙ (zero_more (own_begun (at + 1) n) ∙ behind_begun (at + 1) n (omega (arith, less)))
    where
      and_none : (b : Bool) → (b && false) ≡ false
      and_none true = refl
      and_none false = refl

  module _ (own : m.start.file ≡ file) where
    held_here : (at : ℕ) → m.start.at ≤ at → at < m.start.at + m.len → holds m (pos file at) ≡ true
    held_here at from less = holds_from m (pos file at) (record { file = own; from = from; less = omega (arith, from, less) })

    -- from one inside on, to its end or further
    inside_held : (at n : ℕ) → m.start.at ≤ at → at ≤ m.start.at + m.len → m.start.at + m.len ≤ at + n → own_held at n + at ≡ m.start.at + m.len
    inside_held at zero from upto ends = omega (arith, from, upto, ends)
    inside_held at (suc n) from upto ends = elim (cases_lt at (m.start.at + m.len)) [
      | inl less ↦
          let here = ap one_if (held_here at from less) in
          let rest = inside_held (at + 1) n (omega (arith, from)) (omega (arith, less)) (omega (arith, ends)) in
          join (one_if (holds m (pos file at))) (own_held (at + 1) n) at (m.start.at + m.len) here rest
      | inr past ↦
          let rest = behind_held (at) (suc n) (omega (arith, past)) in
          omega (arith, rest, upto, past)
    ]
      where
        behind_held : (k n : ℕ) → m.start.at + m.len ≤ k → own_held k n ≡ 0
        behind_held k zero le = refl
        behind_held k (suc n) le =
            let here = free_here k (λ h. (let from = h.from in let less = h.less in omega (arith, from, less, le))) in
            ap (λ (b : Bool). one_if b + own_held (k + 1) n) here ∙ (zero_more (own_held (k + 1) n) ∙ behind_held (k + 1) n (omega (arith, le)))

        join : (x y k end : ℕ) → x ≡ 1 → y + (k + 1) ≡ end → (x + y) + k ≡ end
        join x y k end here rest = omega (arith, here, rest)

    -- all its characters are among them
    across_held : (at n : ℕ) → at ≤ m.start.at → m.start.at + m.len ≤ at + n → own_held at n ≡ m.len
    across_held at zero from ends = omega (arith, from, ends)
    across_held at (suc n) from ends = elim (cases_lt at m.start.at) [
      | inl less ↦
          let here = free_here at (λ h. (let begun = h.from in omega (arith, begun, less))) in
          ap (λ (b : Bool). one_if b + own_held (at + 1) n) here
          ∙ (zero_more (own_held (at + 1) n) ∙ across_held (at + 1) n (omega (arith, less)) (omega (arith, ends)))
      | inr more ↦ let all = inside_held at (suc n) (omega (arith, more)) (omega (arith, from)) ends in omega (arith, all, from, more)
    ]

    -- .. so it begins with one of them
    across_begun : (at n : ℕ) → 0 < m.len → at ≤ m.start.at → m.start.at < at + n → own_begun at n ≡ 1
    across_begun at zero some from less = absurd (omega (arith, from, less))
    across_begun at (suc n) some from less = elim (cases_lt at m.start.at) [
      | inl later ↦
          let here = free_here at (λ h. (let begun = h.from in omega (arith, begun, later))) in
          ap (λ (b : Bool). one_if (b && nat_eq m.start.at at) + own_begun (at + 1) n) here
          ∙ (zero_more (own_begun (at + 1) n) ∙ across_begun (at + 1) n some (omega (arith, later)) (omega (arith, less)))
      | inr more ↦
          let same : m.start.at ≡ at = omega (arith, from, more) in
          let held = held_here at (omega (arith, same)) (omega (arith, same, some)) in
          let first : one_if (begins_with (pos file at) m) ≡ 1 =
          ap (λ (b : Bool). one_if (b && nat_eq m.start.at at)) held ∙ ap one_if (eq-eqb m.start.at at same) in
          let rest = behind_begun (at + 1) n (omega (arith, same)) in
          omega (arith, first, rest)
    ]

-- ---- all members of a file: none is cut at this character

-- it lies before the character or behind it
abbrev pub IsWholeAt : ℕ → ℕ → Part → Type 0
IsWholeAt file n m = m.start.file ≡ file → (n ≤ m.start.at) ⊎ (m.start.at + m.len ≤ n)

-- how many members begin before it
abbrev pub before_count : List Part → Pos → ℕ
before_count [] p = 0
before_count (m ∷ ms) p = one_if (begins_before p m) + before_count ms p

module _ (file n len : ℕ) where
  -- members of this length, none of which is empty or cut
  abbrev pub AreWhole : List Part → Type 0
  AreWhole = AllOf (λ (m : Part). (m.len ≡ len) × (0 < m.len) × IsWholeAt file n m)

  record IsCounted (held begun : ℕ) (m : Part) : Type 0 where
    pub chars : held ≡ one_if (begins_before (pos file n) m) * len
    pub starts : begun ≡ one_if (begins_before (pos file n) m)

  begun_if : (m : Part) (b c : Bool) → nat_eq m.start.file file ≡ b → nat_lt m.start.at n ≡ c → begins_before (pos file n) m ≡ (b && c)
  begun_if m b c e f = ap (λ (x : Bool). x && nat_lt m.start.at n) e ∙ ap (λ (x : Bool). b && x) f

  counted_so : (m : Part) (held begun : ℕ) (b : Bool) → begins_before (pos file n) m ≡ b → held ≡ one_if b * len → begun ≡ one_if b → IsCounted held begun m
  counted_so m held begun b is chars starts = record {
    chars = chars ∙ ap (λ (x : Bool). one_if x * len) (sym is);
    starts = starts ∙ ap one_if (sym is);
  }

  counted : (m : Part) → m.len ≡ len → 0 < m.len → IsWholeAt file n m → IsCounted (own_held m file 0 n) (own_begun m file 0 n) m
  counted m long some whole = elim (cases_Bool (nat_eq m.start.file file)) [
    | inl same ↦
        let own : m.start.file ≡ file = eqb-true m.start.file file same in
        elim (whole own) [
          | inl behind ↦
              let none = before_held m file 0 n (omega (arith, behind)) in
              let late : nat_lt m.start.at n ≡ false = false_from_ne_true (nat_lt m.start.at n) (λ e. (let l = ltb-true m.start.at n e in omega (arith, l, behind))) in
              counted_so m (own_held m file 0 n) (own_begun m file 0 n) false (begun_if m true false same late) (none.0 ∙ zero_times) none.1
          | inr ends ↦
              let less : m.start.at < n = omega (arith, ends, some) in
              let all = across_held m file own 0 n (omega arith) (omega (arith, ends)) in
              let begun = across_begun m file own 0 n some (omega arith) (omega (arith, less)) in
              counted_so m (own_held m file 0 n) (own_begun m file 0 n) true (begun_if m true true same (lt-ltb m.start.at n less)) (all ∙ (long ∙ one_times)) begun
        ]
    | inr other ↦
        let apart : m.start.file ≡ file → ⊥ = λ e. absurd (no_both (nat_eq m.start.file file) other (eq-eqb m.start.file file e)) in
        let none = other_held m file apart 0 n in
        counted_so m (own_held m file 0 n) (own_begun m file 0 n) false (begun_if m false (nat_lt m.start.at n) other refl) (none.0 ∙ zero_times) none.1
  ]
    where
      zero_times : 0 ≡ 0 * len
      zero_times = omega arith

      one_times : len ≡ 1 * len
      one_times = omega arith

      no_both : (b : Bool) → b ≡ false → b ≡ true → ⊥
      no_both true e f = cc
      no_both false e f = cc

-- sums over the members are sums over the characters
module _ (name : List ℕ) (file : ℕ) where
  held_more : (m : Part) (ms : List Part) (one : (p : Pos) → held_by (m ∷ ms) p ≤ 1) (less : (p : Pos) → held_by ms p ≤ 1) (at n : ℕ)
      → (held_to (m ∷ ms) name file one at n ≡ own_held m file at n + held_to ms name file less at n)
      × (begun_to (m ∷ ms) name file one at n ≡ own_begun m file at n + begun_to ms name file less at n)
  held_more m ms one less at zero = (refl, refl)
  held_more m ms one less at (suc n) =
      let rest = held_more m ms one less (at + 1) n in
      let h = rest.0 in
      let b = rest.1 in
      (omega (arith, h), omega (arith, b))

  less_one : (m : Part) (ms : List Part) → ((p : Pos) → held_by (m ∷ ms) p ≤ 1) → (p : Pos) → held_by ms p ≤ 1
  less_one m ms one p = let all = one p in omega (arith, all)

  whole_counted : (ms : List Part) (one : (p : Pos) → held_by ms p ≤ 1) (n len : ℕ) → AreWhole file n len ms
      → (held_to ms name file one 0 n ≡ before_count ms (pos file n) * len) × (begun_to ms name file one 0 n ≡ before_count ms (pos file n))
  whole_counted [] one n len whole = (no_held 0 n ∙ none len, no_begun 0 n)
    where
      none : (k : ℕ) → 0 ≡ 0 * k
      none k = omega arith

      no_held : (at k : ℕ) → held_to [] name file one at k ≡ 0
      no_held at zero = refl
      no_held at (suc k) = zero_more (held_to [] name file one (at + 1) k) ∙ no_held (at + 1) k

      no_begun : (at k : ℕ) → begun_to [] name file one at k ≡ 0
      no_begun at zero = refl
      no_begun at (suc k) = zero_more (begun_to [] name file one (at + 1) k) ∙ no_begun (at + 1) k
  whole_counted (m ∷ ms) one n len whole =
      let facts = whole.0 in
      let first = counted file n len m facts.0 facts.1 facts.2 in
      let rest = whole_counted ms (less_one m ms one) n len whole.1 in
      let more = held_more m ms one (less_one m ms one) 0 n in
      let here : ℕ = one_if (begins_before (pos file n) m) in (
        more.0 ∙ (ap (λ (k : ℕ). k + held_to ms name file (less_one m ms one) 0 n) first.chars
            ∙ (ap (λ (k : ℕ). here * len + k) rest.0 ∙ sym (add-mul here (before_count ms (pos file n)) len))),
        more.1 ∙ (ap (λ (k : ℕ). k + begun_to ms name file (less_one m ms one) 0 n) first.starts ∙ ap (λ (k : ℕ). here + k) rest.1),
      )

  -- a character at which no member is cut moves by the growth of the members before it
  pub one_move : (ms : List Part) (text : List ℕ) (n len : ℕ) → ((p : Pos) → held_by ms p ≤ 1) → AreWhole file n len ms → n ≤ length text
      → moved (put_of ms name file) text n + before_count ms (pos file n) * len ≡ n + before_count ms (pos file n) * length name
  one_move ms text n len one whole less =
      let both = whole_counted ms one n len whole in
      let moves = text_moves ms name file one text 0 n less in
      ap (λ (k : ℕ). moved (put_of ms name file) text n + k) (sym both.0) ∙ (moves ∙ ap (λ (k : ℕ). n + k * length name) both.1)

-- ---- the walk of a class has the same members

before_total : (ms : List Part) (p : Pos) → before_count ms p ≡ total (λ (m : Part). one_if (begins_before p m)) ms
before_total [] p = refl
before_total (m ∷ ms) p = ap (λ (k : ℕ). one_if (begins_before p m) + k) (before_total ms p)

count_step : (b : Bool) (k : ℕ) → one_if b + k ≡ cond b (1 + k) k
count_step true k = refl
count_step false k = zero_more k

pub counted_total : (test : Part → Bool) (ms : List Part) → total (λ (m : Part). one_if (test m)) ms ≡ count_by test ms
counted_total test ms =
    is_count_by (total (λ (m : Part). one_if (test m))) test refl (λ m rest. count_step (test m) (total (λ (x : Part). one_if (test x)) rest)) ms

pub same_before : (ms walk : List Part) (p : Pos) → Once ms → Once walk → ((m : Part) → In m ms → In m walk) → ((m : Part) → In m walk → In m ms)
    → before_count ms p ≡ count_by (begins_before p) walk
same_before ms walk p once also there back =
    before_total ms p ∙ (same_totals (λ (m : Part). one_if (begins_before p m)) ms walk once also there back ∙ counted_total (begins_before p) walk)

-- how many characters a part of the class has
abbrev pub length_of : Table → ℕ → ℕ
length_of t c = (part_with t c 0).len

-- So a position moves alike on the page of what "renamed" means and in the table: this class has this walk and this length.
pub moves_alike : (name : List ℕ) (file : ℕ) (ms : List Part) (c : ℕ) (t : Table) (text : List ℕ) (n : ℕ) → ((p : Pos) → held_by ms p ≤ 1)
    → AreWhole file n (length_of t c) ms → n ≤ length text → before_count ms (pos file n) ≡ members_before c t (pos file n)
    → moved (put_of ms name file) text n ≡ (moved_to c (length name) t (pos file n)).at
moves_alike name file ms c t text n one whole less same =
    let len : ℕ = length_of t c in
    let k : ℕ = members_before c t (pos file n) in
    let move = one_move name file ms text n len one whole less in
    let grown : before_count ms (pos file n) * length name ≡ k * length name = ap (λ (j : ℕ). j * length name) same in
    let gone : before_count ms (pos file n) * len ≡ k * len = ap (λ (j : ℕ). j * len) same in
    join (moved (put_of ms name file) text n) n (before_count ms (pos file n) * length name) (before_count ms (pos file n) * len) (k * length name) (k * len) move grown gone
  where
    join : (to from a b x y : ℕ) → to + b ≡ from + a → a ≡ x → b ≡ y → to ≡ from + x - y
    join to from a b x y move grown gone = omega (arith, move, grown, gone)
