-- The table of the bytes that go tells bytes and characters apart as the text does.
use Rattle.std.proofs.Common.{◌≡◌, ℕ, zero, suc, ◌+◌, ◌-◌, ◌<◌, ◌≤◌, ◌^◌, Bool, true, false, cond, ◌==◌, nat_lt, nat_le, if◌then◌else◌, List, [], ◌∷◌, length, get_or, Option, Some, None, slice_get, inl, inr, refl, arith, one-add}
use Rattle.std.proofs.lemmas.Bool.{cases_Bool, cases_eq, ne_eqb, eq-eqb, le-leb, lt-leb, le-ltb, lt-ltb, ltb-true}
use Rattle.std.proofs.lemmas.List.Sorted.{IsNonDecreasingBy-from_default}
use Rattle.std.proofs.lemmas.List.Sums.{prefix_len-le-length, prefix_len_passes}
use Rattle.std.specs.List.{prefix_len}
use Rattle.std.specs.List.Sorted.{IsPartitionPoint}
use Rattle.std.specs.Option.{option_map, option_map_or}
use Rattle.lexer.specs.Logical.{character, logical_from, logical_of}
use Rattle.lexer.specs.Lines.{byte_offset_of, index_in}
use Rattle.lexer.proofs.LineLemmas.{ltb-suc}
use Rattle.lexer.specs.GoneTable.{going, gone_from, gone_of, marks_from, marks_of, byte_in, gone_before, is_gone, character_in, IsGoneTable}

-- a search finds how many elements pass in front
pub partition-prefix : {X : Type 0} (p : X → Bool) (xs : List X) (i : ℕ) → i ≤ length xs
    → IsPartitionPoint (λ x. p x ≡ true) (λ x. p x ≡ false) xs i → i ≡ prefix_len p xs
partition-prefix p [] zero within found = refl
partition-prefix p [] (suc i) within found = absurd (omega arith)
partition-prefix p (x ∷ xs) zero within found = rw (found.1 0 x (omega arith) (omega arith)) refl
partition-prefix p (x ∷ xs) (suc i) within found =
    let rest : i ≡ prefix_len p xs =
    partition-prefix p xs i (omega arith)
    (λ k d h l. found.0 (suc k) d (omega arith) (omega arith), λ k d h l. found.1 (suc k) d (omega arith) (omega arith)) in
    rw (found.0 0 x (omega arith) (omega arith)) (omega arith)

-- the first of these marks passes no test below what all of them reach
marks_from-later : (skip at j : ℕ) (bs : List ℕ) → j < at → prefix_len (λ m. nat_le m j) (marks_from skip at bs) ≡ 0
marks_from-later skip at j [] below = refl
marks_from-later skip at j (c ∷ cs) below =
    elim (cases_Bool (going skip c cs == 0)) [
      | inl stays ↦ rw stays (marks_from-later 0 (at + 1) j cs (omega arith))
      | inr goes ↦ rw (goes, lt-leb at j below) refl
    ]

-- Characters are numbered on from those before.

-- a byte that goes with one before
going-suc : (skip c : ℕ) (cs : List ℕ) → (going (suc skip) c cs == 0) ≡ false
going-suc skip c cs = ne_eqb (suc skip) 0 (λ e. omega arith)

-- the logical text of a byte and those behind it
pub logical_from-going : (skip at c : ℕ) (cs : List ℕ)
    → logical_from skip at (c ∷ cs)
    ≡ (if going skip c cs == 0 then character c at ∷ logical_from 0 (at + 1) cs else logical_from (going skip c cs - 1) (at + 1) cs)
unfolding logical_from
logical_from-going zero at c cs = refl
logical_from-going (suc skip) at c cs =
    let left : suc skip - 1 ≡ skip = omega arith in
    rw (going-suc skip c cs, left) refl

pub logical_from-empty : (skip at : ℕ) → logical_from skip at [] ≡ []
unfolding logical_from
logical_from-empty zero at = refl
logical_from-empty (suc skip) at = refl

byte-stays : (at o c : ℕ) (cs : List ℕ) (k : ℕ)
    → ((j : ℕ) → option_map (λ d. d.offset) (slice_get (logical_from 0 (o + 1) cs) j)
    ≡ cond (nat_lt j (length (logical_from 0 (o + 1) cs)))
    (Some (o + 1 + j + prefix_len (λ m. nat_le m (at + 1 + j)) (marks_from 0 (at + 1) cs))) None)
    → option_map (λ d. d.offset) (slice_get (character c o ∷ logical_from 0 (o + 1) cs) k)
    ≡ cond (nat_lt k (suc (length (logical_from 0 (o + 1) cs))))
    (Some (o + k + prefix_len (λ m. nat_le m (at + k)) (marks_from 0 (at + 1) cs))) None
byte-stays at o c cs zero later =
    let some : nat_lt 0 (suc (length (logical_from 0 (o + 1) cs))) ≡ true = lt-ltb 0 (suc (length (logical_from 0 (o + 1) cs))) (omega arith) in
    let here : o + 0 + 0 ≡ o = omega arith in
    rw (some, marks_from-later 0 (at + 1) (at + 0) cs (omega arith), here) refl
byte-stays at o c cs (suc k) later =
    let on : o + suc k ≡ o + 1 + k = omega arith in
    let count : at + suc k ≡ at + 1 + k = omega arith in
    rw (on, count, ltb-suc) (later k)

-- the offset of a character by the text and by the table, from a byte on
byte-from : (skip at o : ℕ) (bs : List ℕ) (k : ℕ)
    → option_map (λ d. d.offset) (slice_get (logical_from skip o bs) k)
    ≡ cond (nat_lt k (length (logical_from skip o bs))) (Some (o + k + prefix_len (λ m. nat_le m (at + k)) (marks_from skip at bs))) None
byte-from skip at o [] k =
    let past : nat_lt k 0 ≡ false = le-ltb k 0 (omega arith) in rw (logical_from-empty skip o, past) refl
byte-from skip at o (c ∷ cs) k =
    elim (cases_Bool (going skip c cs == 0)) [
      | inl stays ↦ rw (logical_from-going skip o c cs, stays) (byte-stays at o c cs k (λ j. byte-from 0 (at + 1) (o + 1) cs j))
      | inr goes ↦
          let reached : nat_le at (at + k) ≡ true = le-leb at (at + k) (omega arith) in
          let more = prefix_len (λ m. nat_le m (at + k)) (marks_from (going skip c cs - 1) at cs) in
          let on : o + k + (1 + more) ≡ o + 1 + k + more = omega arith in
          rw (logical_from-going skip o c cs, goes, reached, on) (byte-from (going skip c cs - 1) at (o + 1) cs k)
    ]

pub byte_offset_of-table : (bytes : List ℕ) (at : ℕ)
    → byte_offset_of bytes at ≡ cond (nat_lt at (length (logical_of bytes))) (Some (byte_in (marks_of bytes) at)) None
unfolding byte_offset_of logical_of marks_of
byte_offset_of-table bytes at =
    let on : 0 + at ≡ at = omega arith in
    rw on at (byte-from 0 0 0 bytes at)

-- The character at an offset.

-- no character stands before the first
index-later : (skip o x : ℕ) (bs : List ℕ) → x < o → index_in (logical_from skip o bs) x ≡ None
index-later skip o x [] below = rw (logical_from-empty skip o) refl
index-later skip o x (c ∷ cs) below =
    elim (cases_Bool (going skip c cs == 0)) [
      | inl stays ↦
          let apart : (o == x) ≡ false = ne_eqb o x (λ e. omega arith) in
          rw (logical_from-going skip o c cs, stays, apart, index-later 0 (o + 1) x cs (omega arith)) refl
      | inr goes ↦ rw (logical_from-going skip o c cs, goes) (index-later (going skip c cs - 1) (o + 1) x cs (omega arith))
    ]

-- none of these bytes goes before the first
gone-later : (skip o x : ℕ) (bs : List ℕ) → x ≤ o → prefix_len (λ g. nat_lt g x) (gone_from skip o bs) ≡ 0
gone-later skip o x [] below = refl
gone-later skip o x (c ∷ cs) below =
    elim (cases_Bool (going skip c cs == 0)) [
      | inl stays ↦ rw stays (gone-later 0 (o + 1) x cs (omega arith))
      | inr goes ↦ rw (goes, le-ltb o x below) refl
    ]

-- an offset before all of them is none of them
gone-apart : (skip o x : ℕ) (bs : List ℕ) → x < o → option_map_or (λ g. g == x) (slice_get (gone_from skip o bs) 0) false ≡ false
gone-apart skip o x [] below = refl
gone-apart skip o x (c ∷ cs) below =
    elim (cases_Bool (going skip c cs == 0)) [
      | inl stays ↦ rw stays (gone-apart 0 (o + 1) x cs (omega arith))
      | inr goes ↦ rw goes (ne_eqb o x (λ e. omega arith))
    ]

-- no more go than there are
gone-few : (skip o k : ℕ) (bs : List ℕ) → prefix_len (λ g. nat_lt g (o + k)) (gone_from skip o bs) ≤ k
gone-few skip o k [] = omega arith
gone-few skip o zero (c ∷ cs) = rw (gone-later skip o (o + 0) (c ∷ cs) (omega arith)) (omega arith)
gone-few skip o (suc k) (c ∷ cs) =
    let on : o + suc k ≡ o + 1 + k = omega arith in
    elim (cases_Bool (going skip c cs == 0)) [
      | inl stays ↦ let rest = gone-few 0 (o + 1) k cs in rw (on, stays) (omega arith)
      | inr goes ↦
          let before : nat_lt o (o + 1 + k) ≡ true = lt-ltb o (o + 1 + k) (omega arith) in
          let rest = gone-few (going skip c cs - 1) (o + 1) k cs in
          rw (on, goes, before) (omega arith)
    ]

-- the character at offset x, behind k bytes, by these bytes that go
abbrev char_at : List ℕ → ℕ → ℕ → Option ℕ
char_at gone x k = if is_gone gone x then None else Some (k - gone_before gone x)

char-stays : (gone : List ℕ) (x k : ℕ) → gone_before gone x ≤ k
    → option_map (λ n. n + 1) (char_at gone x k) ≡ char_at gone x (suc k)
char-stays gone x k few =
    elim (cases_Bool (is_gone gone x)) [
      | inl goes ↦ rw goes refl
      | inr stays ↦
          let count : k - gone_before gone x + 1 ≡ suc k - gone_before gone x = omega arith in
          rw (stays, count) refl
    ]

char-goes : (gone : List ℕ) (o x k : ℕ) → o < x → char_at gone x k ≡ char_at (o ∷ gone) x (suc k)
char-goes gone o x k below =
    let before : nat_lt o x ≡ true = lt-ltb o x below in
    let count : suc k - suc (gone_before gone x) ≡ k - gone_before gone x = omega arith in
    rw (before, one-add, count) refl

char-from : (skip o : ℕ) (bs : List ℕ) (k : ℕ) → k < length bs
    → index_in (logical_from skip o bs) (o + k) ≡ char_at (gone_from skip o bs) (o + k) k
char-from skip o [] k within = absurd (omega arith)
char-from skip o (c ∷ cs) zero within =
    let here : o + 0 ≡ o = omega arith in
    let same : (o == o) ≡ true = eq-eqb o o refl in
    elim (cases_Bool (going skip c cs == 0)) [
      | inl stays ↦
          rw (logical_from-going skip o c cs, stays, here, same, gone-later 0 (o + 1) o cs (omega arith), gone-apart 0 (o + 1) o cs (omega arith)) refl
      | inr goes ↦
          let behind : nat_lt o o ≡ false = le-ltb o o (omega arith) in
          rw (logical_from-going skip o c cs, goes, here, behind, same, index-later (going skip c cs - 1) (o + 1) o cs (omega arith)) refl
    ]
char-from skip o (c ∷ cs) (suc k) within =
    let on : o + suc k ≡ o + 1 + k = omega arith in
    elim (cases_Bool (going skip c cs == 0)) [
      | inl stays ↦
          let apart : (o == o + 1 + k) ≡ false = ne_eqb o (o + 1 + k) (λ e. omega arith) in
          let rest = char-from 0 (o + 1) cs k (omega arith) in
          let step = char-stays (gone_from 0 (o + 1) cs) (o + 1 + k) k (gone-few 0 (o + 1) k cs) in
          rw (on, logical_from-going skip o c cs, stays, apart, rest) step
      | inr goes ↦
          let rest = char-from (going skip c cs - 1) (o + 1) cs k (omega arith) in
          let step = char-goes (gone_from (going skip c cs - 1) (o + 1) cs) o (o + 1 + k) k (omega arith) in
          rw (on, logical_from-going skip o c cs, goes, rest) step
    ]

pub index_in-table : (bytes : List ℕ) (k : ℕ) → k < length bytes → index_in (logical_of bytes) k ≡ character_in (gone_of bytes) k
unfolding logical_of gone_of
index_in-table bytes k within =
    let on : 0 + k ≡ k = omega arith in
    rw on at (char-from 0 0 bytes k within)

-- What is true of the table of a file.

gone-above : (o : ℕ) (later : List ℕ) (k e : ℕ) → k < suc (length later)
    → ((j : ℕ) → j < length later → o + 1 + j ≤ get_or later j e) → o + k ≤ get_or (o ∷ later) k e
gone-above o later zero e within above = omega arith
gone-above o later (suc k) e within above = let rest = above k (omega arith) in omega arith

marks-above : (at : ℕ) (later : List ℕ) (k e : ℕ) → k < suc (length later)
    → ((j : ℕ) → j < length later → at ≤ get_or later j e) → at ≤ get_or (at ∷ later) k e
marks-above at later zero e within above = omega arith
marks-above at later (suc k) e within above = above k (omega arith)

-- one more in front of numbers that rise from it on
rises-more : (o : ℕ) (later : List ℕ) (i j e : ℕ) → i ≤ j → j < suc (length later)
    → ((k : ℕ) → k < length later → o ≤ get_or later k e)
    → ((m n : ℕ) → m ≤ n → n < length later → get_or later m e ≤ get_or later n e)
    → get_or (o ∷ later) i e ≤ get_or (o ∷ later) j e
rises-more o later zero zero e order within above rises = omega arith
rises-more o later (suc i) zero e order within above rises = absurd (omega arith)
rises-more o later zero (suc j) e order within above rises = above j (omega arith)
rises-more o later (suc i) (suc j) e order within above rises = rises i j (omega arith) (omega arith)

gone_from-above : (skip o : ℕ) (bs : List ℕ) (k e : ℕ) → k < length (gone_from skip o bs)
    → o + k ≤ get_or (gone_from skip o bs) k e
gone_from-above skip o [] k e within = absurd (omega arith)
gone_from-above skip o (c ∷ cs) k e within =
    elim (cases_Bool (going skip c cs == 0)) [
      | inl stays ↦ let rest = gone_from-above 0 (o + 1) cs k e (rw stays at within) in rw stays (omega arith)
      | inr goes ↦ rw goes (gone-above o (gone_from (going skip c cs - 1) (o + 1) cs) k e (rw goes at within)
          (λ j l. gone_from-above (going skip c cs - 1) (o + 1) cs j e l))
    ]

gone_from-rises : (skip o : ℕ) (bs : List ℕ) (i j e : ℕ) → i ≤ j → j < length (gone_from skip o bs)
    → get_or (gone_from skip o bs) i e ≤ get_or (gone_from skip o bs) j e
gone_from-rises skip o [] i j e order within = absurd (omega arith)
gone_from-rises skip o (c ∷ cs) i j e order within =
    elim (cases_Bool (going skip c cs == 0)) [
      | inl stays ↦ rw stays (gone_from-rises 0 (o + 1) cs i j e order (rw stays at within))
      | inr goes ↦ rw goes (rises-more o (gone_from (going skip c cs - 1) (o + 1) cs) i j e order (rw goes at within)
          (λ k l. let above = gone_from-above (going skip c cs - 1) (o + 1) cs k e l in omega arith)
          (λ m n h l. gone_from-rises (going skip c cs - 1) (o + 1) cs m n e h l))
    ]

marks_from-above : (skip at : ℕ) (bs : List ℕ) (k e : ℕ) → k < length (marks_from skip at bs) → at ≤ get_or (marks_from skip at bs) k e
marks_from-above skip at [] k e within = absurd (omega arith)
marks_from-above skip at (c ∷ cs) k e within =
    elim (cases_Bool (going skip c cs == 0)) [
      | inl stays ↦ let rest = marks_from-above 0 (at + 1) cs k e (rw stays at within) in rw stays (omega arith)
      | inr goes ↦ rw goes (marks-above at (marks_from (going skip c cs - 1) at cs) k e (rw goes at within)
          (λ j l. marks_from-above (going skip c cs - 1) at cs j e l))
    ]

marks_from-rises : (skip at : ℕ) (bs : List ℕ) (i j e : ℕ) → i ≤ j → j < length (marks_from skip at bs)
    → get_or (marks_from skip at bs) i e ≤ get_or (marks_from skip at bs) j e
marks_from-rises skip at [] i j e order within = absurd (omega arith)
marks_from-rises skip at (c ∷ cs) i j e order within =
    elim (cases_Bool (going skip c cs == 0)) [
      | inl stays ↦ rw stays (marks_from-rises 0 (at + 1) cs i j e order (rw stays at within))
      | inr goes ↦ rw goes (rises-more at (marks_from (going skip c cs - 1) at cs) i j e order (rw goes at within)
          (λ k l. marks_from-above (going skip c cs - 1) at cs k e l)
          (λ m n h l. marks_from-rises (going skip c cs - 1) at cs m n e h l))
    ]

-- each byte is a character or goes
marks_from-count : (skip at o : ℕ) (bs : List ℕ) → length (logical_from skip o bs) + length (marks_from skip at bs) ≡ length bs
marks_from-count skip at o [] = rw (logical_from-empty skip o) (omega arith)
marks_from-count skip at o (c ∷ cs) =
    elim (cases_Bool (going skip c cs == 0)) [
      | inl stays ↦ let rest = marks_from-count 0 (at + 1) (o + 1) cs in rw (logical_from-going skip o c cs, stays) (omega arith)
      | inr goes ↦
          let rest = marks_from-count (going skip c cs - 1) at (o + 1) cs in
          rw (logical_from-going skip o c cs, goes) (omega arith)
    ]

pub gone_of-table : (bytes : List ℕ) → length bytes ≤ 2 ^ 22
    → IsGoneTable (length (logical_of bytes)) (length bytes) (gone_of bytes) (marks_of bytes)
unfolding gone_of marks_of logical_of
gone_of-table bytes small = record {
  rises = IsNonDecreasingBy-from_default (λ x. x) (gone_from 0 0 bytes) 0 (λ i j h l. gone_from-rises 0 0 bytes i j 0 h l);
  apart = λ k l. let above = gone_from-above 0 0 bytes k 0 l in omega arith;
  marks_rise = IsNonDecreasingBy-from_default (λ x. x) (marks_from 0 0 bytes) 0 (λ i j h l. marks_from-rises 0 0 bytes i j 0 h l);
  few = let all = marks_from-count 0 0 0 bytes in omega arith;
  small = small;
}

-- as many bytes of a table go before an offset as it has at most
pub gone_before-within : (gone : List ℕ) (offset : ℕ) → ((k : ℕ) → k < length gone → k ≤ get_or gone k 0)
    → gone_before gone offset ≤ offset
gone_before-within gone offset apart =
    let n = gone_before gone offset in
    let within = prefix_len-le-length (λ g. nat_lt g offset) gone in
    elim (cases_eq n 0) [
      | inl none ↦ omega arith
      | inr some ↦
          let passes : nat_lt (get_or gone (n - 1) 0) offset ≡ true =
          prefix_len_passes (λ g. nat_lt g offset) gone (n - 1) 0 (omega arith) in
          let before = ltb-true (get_or gone (n - 1) 0) offset passes in
          let far = apart (n - 1) (omega arith) in
          omega arith
    ]

-- a character stands at a byte of the file
pub byte_in-within : (bytes : List ℕ) (at : ℕ) → at < length (logical_of bytes) → byte_in (marks_of bytes) at < length bytes
unfolding logical_of marks_of
byte_in-within bytes at within =
    let all = marks_from-count 0 0 0 bytes in
    let few = prefix_len-le-length (λ m. nat_le m at) (marks_from 0 0 bytes) in
    omega arith
