-- The table of line starts answers as the text does.
use Rattle.std.proofs.Common.{◌≡◌, ℕ, zero, suc, ◌+◌, ◌-◌, ◌<◌, ◌≤◌, ◌^◌, true, false, cond, ◌==◌, ltb, nat_lt, nat_le, List, [], ◌∷◌, length, get_or, Some, None, IfSome, inl, inr, refl, sym, ◌∙◌, arith, add-zero}
use Rattle.std.proofs.lemmas.Bool.{cases_Bool, le-leb, lt-leb, le-ltb, lt-ltb, ltb-true, ltb-false, leb-true, leb-false}
use Rattle.std.proofs.lemmas.List.Sorted.{IsNonDecreasingBy-from_default, IsPartitionedBy-leb}
use Rattle.std.specs.List.Sorted.{IsPartitionedBy}
use Rattle.lexer.specs.Characters.{line_feed}
use Rattle.lexer.specs.Lines.{place_from, place_of_byte, offset_from, byte_at_place}
use Rattle.lexer.specs.LineTable.{starts_from, line_starts, place_along, place_in, offset_in, IsTable, Found}

-- no line begins before the characters that end the one before it
pub first-above : (at q : ℕ) (bs : List ℕ) (e : ℕ) → at ≤ q → at < e → at < get_or (starts_from q bs) 0 e
first-above at q [] e low high = high
first-above at q (c ∷ cs) e low high =
    elim (cases_Bool (c == line_feed)) [
      | inl end_here ↦ rw end_here (omega arith)
      | inr other ↦ rw other (first-above at (q + 1) cs e (omega arith) high)
    ]

-- a character before all later lines is on this line
place_along-before : (line start q : ℕ) (bs : List ℕ) (at : ℕ) → at ≤ q
    → place_along line start (starts_from q bs) at ≡ (line, at - start + 1)
place_along-before line start q [] at low = refl
place_along-before line start q (c ∷ cs) at low =
    elim (cases_Bool (c == line_feed)) [
      | inl end_here ↦ let behind : nat_le (q + 1) at ≡ false = lt-leb (q + 1) at (omega arith) in rw (end_here, behind) refl
      | inr other ↦ rw other (place_along-before line start (q + 1) cs at (omega arith))
    ]

pub ltb-suc : (a b : ℕ) → ltb (suc a) (suc b) ≡ ltb a b
ltb-suc a b =
    elim (cases_Bool (ltb a b)) [
      | inl below ↦ let less = ltb-true a b below in lt-ltb (suc a) (suc b) (omega arith) ∙ sym below
      | inr above ↦ let more = ltb-false a b above in le-ltb (suc a) (suc b) (omega arith) ∙ sym above
    ]

-- the place of a character by the text and by the table, from a character on
place_from-table : (line column start at : ℕ) (bs : List ℕ) (k : ℕ) → column + start ≡ at + 1 → start ≤ at
    → place_from line column bs k
    ≡ cond (nat_lt k (length bs)) (Some (place_along line start (starts_from at bs) (at + k))) None
place_from-table line column start at [] k here begun =
    let past : nat_lt k 0 ≡ false = le-ltb k 0 (omega arith) in rw past refl
place_from-table line column start at (c ∷ cs) zero here begun =
    let within : nat_lt 0 (length (c ∷ cs)) ≡ true = lt-ltb 0 (length (c ∷ cs)) (omega arith) in
    let same : column ≡ at - start + 1 = omega arith in
    rw (within, add-zero at, place_along-before line start at (c ∷ cs) at (omega arith), ← same) refl
place_from-table line column start at (c ∷ cs) (suc k) here begun =
    let on : at + suc k ≡ at + 1 + k = omega arith in
    let reached : nat_le (at + 1) (at + 1 + k) ≡ true = le-leb (at + 1) (at + 1 + k) (omega arith) in
    elim (cases_Bool (c == line_feed)) [
      | inl end_here ↦ rw (end_here, on, reached, ltb-suc) (place_from-table (line + 1) 1 (at + 1) (at + 1) cs k (omega arith) (omega arith))
      | inr other ↦ rw (other, on, ltb-suc) (place_from-table line (column + 1) start (at + 1) cs k (omega arith) (omega arith))
    ]

pub place_of_byte-table : (bytes : List ℕ) (at : ℕ)
    → place_of_byte bytes at ≡ cond (nat_lt at (length bytes)) (Some (place_in (line_starts bytes) at)) None
unfolding place_of_byte line_starts
place_of_byte-table bytes at =
    let on : 0 + at ≡ at = omega arith in
    rw on at (place_from-table 1 1 0 0 bytes at (omega arith) (omega arith))

-- a character of this line by the text and by where the next line begins
offset_from-line : (at : ℕ) (bs : List ℕ) (n : ℕ)
    → offset_from at bs zero n
    ≡ cond (nat_lt (at + n) (get_or (starts_from at bs) 0 (at + length bs))) (Some (at + n)) None
offset_from-line at [] n =
    let past : nat_lt (at + n) (at + 0) ≡ false = le-ltb (at + n) (at + 0) (omega arith) in rw past refl
offset_from-line at (c ∷ cs) zero =
    let here : at + 0 ≡ at = omega arith in
    let within : nat_lt at (get_or (starts_from at (c ∷ cs)) 0 (at + length (c ∷ cs))) ≡ true =
    lt-ltb _ _ (elim (cases_Bool (c == line_feed)) [
      | inl end_here ↦ rw end_here (omega arith)
      | inr other ↦ rw other (first-above at (at + 1) cs (at + length (c ∷ cs)) (omega arith) (omega arith))
    ]) in
    rw (here, within) refl
offset_from-line at (c ∷ cs) (suc n) =
    let on : at + suc n ≡ at + 1 + n = omega arith in
    let end : at + suc (length cs) ≡ at + 1 + length cs = omega arith in
    let behind : nat_lt (at + 1 + n) (at + 1) ≡ false = le-ltb (at + 1 + n) (at + 1) (omega arith) in
    elim (cases_Bool (c == line_feed)) [
      | inl end_here ↦ rw (end_here, on, behind) refl
      | inr other ↦ rw (other, on, end) (offset_from-line (at + 1) cs n)
    ]

-- a character of a later line by the text and by the table
offset_from-table : (at : ℕ) (bs : List ℕ) (lines n : ℕ)
    → offset_from at bs (suc lines) n ≡ offset_in (starts_from at bs) (at + length bs) lines n
offset_from-table at [] lines n = refl
offset_from-table at (c ∷ cs) zero n =
    let end : at + suc (length cs) ≡ at + 1 + length cs = omega arith in
    elim (cases_Bool (c == line_feed)) [
      | inl end_here ↦ rw (end_here, end) (offset_from-line (at + 1) cs n)
      | inr other ↦ rw (other, end) (offset_from-table (at + 1) cs zero n)
    ]
offset_from-table at (c ∷ cs) (suc lines) n =
    let end : at + suc (length cs) ≡ at + 1 + length cs = omega arith in
    elim (cases_Bool (c == line_feed)) [
      | inl end_here ↦ rw (end_here, end) (offset_from-table (at + 1) cs lines n)
      | inr other ↦ rw (other, end) (offset_from-table (at + 1) cs (suc lines) n)
    ]

pub byte_at_place-table : (bytes : List ℕ) (lines n : ℕ)
    → byte_at_place bytes (suc lines) (suc n) ≡ offset_in (line_starts bytes) (length bytes) lines n
unfolding byte_at_place line_starts
byte_at_place-table bytes zero n =
    let end : 0 + length bytes ≡ length bytes = omega arith in
    rw end at (offset_from-line 0 bytes n)
byte_at_place-table bytes (suc lines) n =
    let end : 0 + length bytes ≡ length bytes = omega arith in
    rw end at (offset_from-table 0 bytes lines n)

-- each of these lines begins behind character `at`
starts_from-above : (at : ℕ) (bs : List ℕ) (k e : ℕ) → k < length (starts_from at bs) → at < get_or (starts_from at bs) k e
starts_from-above at [] k e within = absurd (omega arith)
starts_from-above at (c ∷ cs) zero e within =
    elim (cases_Bool (c == line_feed)) [
      | inl end_here ↦ rw end_here (omega arith)
      | inr other ↦ let after = starts_from-above (at + 1) cs zero e (rw other at within) in rw other (omega arith)
    ]
starts_from-above at (c ∷ cs) (suc k) e within =
    elim (cases_Bool (c == line_feed)) [
      | inl end_here ↦
          let shorter : k < length (starts_from (at + 1) cs) = omega (arith, rw end_here at within) in
          let after = starts_from-above (at + 1) cs k e shorter in
          rw end_here (omega arith)
      | inr other ↦ let after = starts_from-above (at + 1) cs (suc k) e (rw other at within) in rw other (omega arith)
    ]

-- a line does not begin before an earlier one
starts_from-rises : (at : ℕ) (bs : List ℕ) (i j e : ℕ) → i ≤ j → j < length (starts_from at bs)
    → get_or (starts_from at bs) i e ≤ get_or (starts_from at bs) j e
starts_from-rises at [] i j e order within = absurd (omega arith)
starts_from-rises at (c ∷ cs) zero zero e order within = omega arith
starts_from-rises at (c ∷ cs) (suc i) zero e order within = absurd (omega arith)
starts_from-rises at (c ∷ cs) zero (suc j) e order within =
    elim (cases_Bool (c == line_feed)) [
      | inl end_here ↦
          let shorter : j < length (starts_from (at + 1) cs) = omega (arith, rw end_here at within) in
          let after = starts_from-above (at + 1) cs j e shorter in
          rw end_here (omega arith)
      | inr other ↦ rw other (starts_from-rises (at + 1) cs zero (suc j) e order (rw other at within))
    ]
starts_from-rises at (c ∷ cs) (suc i) (suc j) e order within =
    elim (cases_Bool (c == line_feed)) [
      | inl end_here ↦
          let shorter : j < length (starts_from (at + 1) cs) = omega (arith, rw end_here at within) in
          rw end_here (starts_from-rises (at + 1) cs i j e (omega arith) shorter)
      | inr other ↦ rw other (starts_from-rises (at + 1) cs (suc i) (suc j) e order (rw other at within))
    ]

starts_from-few : (at : ℕ) (bs : List ℕ) → length (starts_from at bs) ≤ length bs
starts_from-few at [] = omega arith
starts_from-few at (c ∷ cs) =
    let fewer = starts_from-few (at + 1) cs in
    elim (cases_Bool (c == line_feed)) [ inl end_here ↦ rw end_here (omega arith) | inr other ↦ rw other (omega arith) ]

line_starts-rises : (bytes : List ℕ) (i j : ℕ) → i ≤ j → j < length (0 ∷ starts_from 0 bytes)
    → get_or (0 ∷ starts_from 0 bytes) i 0 ≤ get_or (0 ∷ starts_from 0 bytes) j 0
line_starts-rises bytes zero j order within = omega arith
line_starts-rises bytes (suc i) zero order within = absurd (omega arith)
line_starts-rises bytes (suc i) (suc j) order within =
    starts_from-rises 0 bytes i j 0 (omega arith) (omega arith)

-- the table of a file is one
pub line_starts-table : (bytes : List ℕ) → length bytes ≤ 2 ^ 22 → IsTable (length bytes) (line_starts bytes)
unfolding line_starts
line_starts-table bytes small = record {
  first = refl;
  rises = IsNonDecreasingBy-from_default (λ x. x) (0 ∷ starts_from 0 bytes) 0 (line_starts-rises bytes);
  few = let fewer = starts_from-few 0 bytes in omega arith;
  small = small;
}

-- the lines that a search found to begin at the character or before it are those that are passed
pub place_along-found : (line start : ℕ) (later : List ℕ) (at j : ℕ) → j ≤ length later
    → ((k : ℕ) → k < j → get_or later k 0 ≤ at) → (j < length later → at < get_or later j 0)
    → place_along line start later at ≡ (line + j, at - get_or (start ∷ later) j 0 + 1)
place_along-found line start [] at zero within passed stops = rw add-zero refl
place_along-found line start [] at (suc j) within passed stops = absurd (omega arith)
place_along-found line start (s ∷ later) at zero within passed stops =
    let behind : nat_le s at ≡ false = lt-leb s at (stops (omega arith)) in rw (behind, add-zero) refl
place_along-found line start (s ∷ later) at (suc j) within passed stops =
    let reached : nat_le s at ≡ true = le-leb s at (passed zero (omega arith)) in
    let count : line + suc j ≡ line + 1 + j = omega arith in
    rw (reached, count) (place_along-found (line + 1) s later at j (omega arith) (λ k h. passed (suc k) (omega arith)) (λ h. stops (omega arith)))

-- the search found a line
pub Found-some : (starts : List ℕ) (at len i : ℕ) → IsTable len starts → Found starts at i → 1 ≤ i
Found-some [] at len i table found = let first = table.first in absurd cc
Found-some (s ∷ later) at len zero table found =
    let behind = found.1 zero 0 (omega arith) (omega arith) in
    let first : s ≡ 0 = let same = table.first in cc in
    let reached : nat_le s at ≡ true = le-leb s at (omega arith) in
    absurd cc
Found-some (s ∷ later) at len (suc i) table found = omega arith

-- the line that it found begins at the character or before it
pub Found-reached : (starts : List ℕ) (at i : ℕ) → 1 ≤ i → Found starts at i → get_or starts (i - 1) 0 ≤ at
Found-reached starts at i some found = leb-true _ _ (found.0 (i - 1) 0 (omega arith) (omega arith))

-- the line that it found is the one of the definition
pub Found-place : (starts : List ℕ) (at len i : ℕ) → IsTable len starts → i ≤ length starts → Found starts at i
    → (i, at - get_or starts (i - 1) 0 + 1) ≡ place_in starts at
Found-place [] at len i table within found = let first = table.first in absurd cc
Found-place (start ∷ later) at len zero table within found =
    let some = Found-some (start ∷ later) at len zero table found in absurd (omega arith)
Found-place (start ∷ later) at len (suc j) table within found =
    let rest : suc j - 1 ≡ j = omega arith in
    let count : suc j ≡ 1 + j = omega arith in
    let along = place_along-found 1 start later at j (omega arith)
    (λ k h. leb-true _ _ (found.0 (suc k) 0 (omega arith) (omega arith)))
    (λ h. leb-false _ _ (found.1 (suc j) 0 (omega arith) (omega arith))) in
    rw (rest, count) (sym along)

pub IsTable-partitioned : (starts : List ℕ) (at len : ℕ) → IsTable len starts → IsPartitionedBy (λ s. nat_le s at) starts
IsTable-partitioned starts at len table = IsPartitionedBy-leb (λ s. s) starts at table.rises

offset_from-within : (at : ℕ) (bs : List ℕ) (lines n : ℕ) → IfSome (offset_from at bs lines n) (λ b. b < at + length bs)
offset_from-within at [] lines n = tt
offset_from-within at (c ∷ cs) zero zero = omega arith
offset_from-within at (c ∷ cs) zero (suc n) =
    let end : at + 1 + length cs ≡ at + suc (length cs) = omega arith in
    elim (cases_Bool (c == line_feed)) [
      | inl end_here ↦ rw end_here tt
      | inr other ↦ rw other (rw end at (offset_from-within (at + 1) cs zero n))
    ]
offset_from-within at (c ∷ cs) (suc lines) n =
    let end : at + 1 + length cs ≡ at + suc (length cs) = omega arith in
    elim (cases_Bool (c == line_feed)) [
      | inl end_here ↦ rw end_here (rw end at (offset_from-within (at + 1) cs lines n))
      | inr other ↦ rw other (rw end at (offset_from-within (at + 1) cs (suc lines) n))
    ]

-- what stands at a line and a column is a byte of the file
pub byte_at_place-within : (bytes : List ℕ) (line column : ℕ) → IfSome (byte_at_place bytes line column) (λ b. b < length bytes)
unfolding byte_at_place
byte_at_place-within bytes zero column = tt
byte_at_place-within bytes (suc lines) zero = tt
byte_at_place-within bytes (suc lines) (suc n) =
    let end : 0 + length bytes ≡ length bytes = omega arith in
    rw end at (offset_from-within 0 bytes lines n)
