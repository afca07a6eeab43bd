-- The place of a byte, and the byte at a place.
use Rattle.std.proofs.Common.{◌≡◌, ℕ, zero, suc, ◌+◌, false, List, [], ◌∷◌, Option, Some, refl, ap, subst, ◌∙◌, inl, inr, arith}
use Rattle.std.specs.Prelude.{◌==◌, ◌<◌, true, length, is_some}
use Rattle.std.proofs.lemmas.Bool.{cases_Bool}
use Rattle.std.proofs.lemmas.Option.{same_Some}
use Rattle.lexer.specs.Characters.{line_feed}
use Rattle.lexer.specs.Lines.{place_from, place_of_byte, offset_from, byte_at_place}

-- the column behind n bytes of a line, which is the one that begins here or a later one
abbrev column_on : ℕ → ℕ → ℕ → ℕ
column_on column zero n = column + n
column_on column (suc lines) n = 1 + n

first_column : (lines n : ℕ) → column_on 1 lines n ≡ 1 + n
first_column zero n = refl
first_column (suc lines) n = refl

-- A byte at a place, from a byte on: its offset, and that it has this place.
abbrev IsThere : ℕ → ℕ → ℕ → List ℕ → ℕ → ℕ → ℕ → Type 0
IsThere line column at cs lines n o =
    (k : ℕ) × (o ≡ at + k) × (place_from line column cs k ≡ Some (line + lines, column_on column lines n))

there : (line column at : ℕ) (cs : List ℕ) (lines n o : ℕ) → offset_from at cs lines n ≡ Some o → IsThere line column at cs lines n o
there line column at [] lines n o e = absurd cc
there line column at (c ∷ cs) zero zero o e =
    let same : at ≡ o = same_Some at o e in
    let here : line ≡ line + 0 = omega arith in
    let begin : column ≡ column + 0 = omega arith in
    (0, omega arith, ap (λ (l : ℕ). Some (l, column)) here ∙ ap (λ (d : ℕ). Some (line + 0, d)) begin)
there line column at (c ∷ cs) zero (suc n) o e = elim (cases_Bool (c == line_feed)) [
  | inl ends ↦ absurd (let none = rw ends at e in cc)
  | inr other ↦
      let r = there line (column + 1) (at + 1) cs zero n o (rw other at e) in
      let on : (column + 1) + n ≡ column + suc n = omega arith in
      (suc r.0, omega (arith, r.1), rw other (r.2 ∙ ap (λ (d : ℕ). Some (line + 0, d)) on))
]
there line column at (c ∷ cs) (suc lines) n o e = elim (cases_Bool (c == line_feed)) [
  | inl ends ↦
      let r = there (line + 1) 1 (at + 1) cs lines n o (rw ends at e) in
      let on : (line + 1) + lines ≡ line + suc lines = omega arith in
      let same : column_on 1 lines n ≡ 1 + n = first_column lines n in
      (suc r.0, omega (arith, r.1), rw ends (r.2 ∙ ap (λ (l : ℕ). Some (l, column_on 1 lines n)) on ∙ ap (λ (d : ℕ). Some (line + suc lines, d)) same))
  | inr other ↦
      let r = there line (column + 1) (at + 1) cs (suc lines) n o (rw other at e) in
      (suc r.0, omega (arith, r.1), rw other r.2)
]

-- The lines that are passed up to a byte which has this place, and its bytes of one line: there it is found.
record Stands (line column at : ℕ) (cs : List ℕ) (k l c : ℕ) : Type 0 where
  lines : ℕ
  count : ℕ
  line_is : l ≡ line + lines
  column_is : c ≡ column_on column lines count
  found : offset_from at cs lines count ≡ Some (at + k)

-- one byte more in front, on the same line
on_line : (line column at b : ℕ) (cs : List ℕ) (k l c lines n : ℕ) → (b == line_feed) ≡ false → l ≡ line + lines
    → c ≡ column_on (column + 1) lines n → offset_from (at + 1) cs lines n ≡ Some (at + 1 + k) → Stands line column at (b ∷ cs) (suc k) l c
on_line line column at b cs k l c zero n other line_is column_is found =
    let on : at + 1 + k ≡ at + suc k = omega arith in
    record { lines = 0; count = suc n; line_is = line_is; column_is = omega arith; found = rw other (found ∙ ap (λ (o : ℕ). Some o) on) }
on_line line column at b cs k l c (suc lines) n other line_is column_is found =
    let on : at + 1 + k ≡ at + suc k = omega arith in
    record { lines = suc lines; count = n; line_is = line_is; column_is = column_is; found = rw other (found ∙ ap (λ (o : ℕ). Some o) on) }

-- a line feed more in front
next_line : (line column at b : ℕ) (cs : List ℕ) (k l c lines n : ℕ) → (b == line_feed) ≡ true → l ≡ line + 1 + lines
    → c ≡ column_on 1 lines n → offset_from (at + 1) cs lines n ≡ Some (at + 1 + k) → Stands line column at (b ∷ cs) (suc k) l c
next_line line column at b cs k l c lines n ends line_is column_is found =
    let on : at + 1 + k ≡ at + suc k = omega arith in
    record {
      lines = suc lines;
      count = n;
      line_is = omega arith;
      column_is = column_is ∙ first_column lines n;
      found = rw ends (found ∙ ap (λ (o : ℕ). Some o) on);
    }

pair_parts : (a b c d : ℕ) → ◌≡◌ {A = Option (ℕ × ℕ)} (Some (a, b)) (Some (c, d)) → (a ≡ c) × (b ≡ d)
pair_parts a b c d e =
    let same : ◌≡◌ {A = ℕ × ℕ} (a, b) (c, d) = same_Some (a, b) (c, d) e in
    (ap (λ (p : ℕ × ℕ). p.0) same, ap (λ (p : ℕ × ℕ). p.1) same)

stands : (line column at : ℕ) (cs : List ℕ) (k l c : ℕ) → place_from line column cs k ≡ Some (l, c) → Stands line column at cs k l c
stands line column at [] k l c e = absurd cc
stands line column at (b ∷ cs) zero l c e =
    let same = pair_parts line column l c e in
    let line_same : line ≡ l = same.0 in
    let column_same : column ≡ c = same.1 in
    let here : at ≡ at + 0 = omega arith in
    record { lines = 0; count = 0; line_is = omega arith; column_is = omega arith; found = ap (λ (o : ℕ). Some o) here }
stands line column at (b ∷ cs) (suc k) l c e = elim (cases_Bool (b == line_feed)) [
  | inl ends ↦
      let r = stands (line + 1) 1 (at + 1) cs k l c (rw ends at e) in
      next_line line column at b cs k l c r.lines r.count ends r.line_is r.column_is r.found
  | inr other ↦
      let r = stands line (column + 1) (at + 1) cs k l c (rw other at e) in
      on_line line column at b cs k l c r.lines r.count other r.line_is r.column_is r.found
]

-- the byte at a place has this place
pub byte_has_place : (bytes : List ℕ) (line column o : ℕ) → byte_at_place bytes line column ≡ Some o → place_of_byte bytes o ≡ Some (line, column)
unfolding byte_at_place place_of_byte
byte_has_place bytes zero column o e = absurd cc
byte_has_place bytes (suc lines) zero o e = absurd cc
byte_has_place bytes (suc lines) (suc n) o e =
    let r = there 1 1 0 bytes lines n o e in
    let on : r.0 ≡ o = omega (arith, r.1) in
    let line : 1 + lines ≡ suc lines = omega arith in
    let column : 1 + n ≡ suc n = omega arith in
    subst (λ (k : ℕ). place_from 1 1 bytes k ≡ Some (suc lines, suc n)) on
    (r.2 ∙ ap (λ (d : ℕ). Some (1 + lines, d)) (first_column lines n ∙ column) ∙ ap (λ (l : ℕ). Some (l, suc n)) line)

-- a byte is the one at its place
pub byte_at_its_place : (bytes : List ℕ) (o line column : ℕ) → place_of_byte bytes o ≡ Some (line, column) → byte_at_place bytes line column ≡ Some o
unfolding byte_at_place place_of_byte
byte_at_its_place bytes o line column e =
    let r = stands 1 1 0 bytes o line column e in
    let line_is : suc r.lines ≡ line = omega (arith, r.line_is) in
    let column_is : suc r.count ≡ column = omega (arith, r.column_is, first_column r.lines r.count) in
    let on : 0 + o ≡ o = omega arith in
    subst (λ (l : ℕ). byte_at_place bytes l column ≡ Some o) line_is
    (subst (λ (d : ℕ). byte_at_place bytes (suc r.lines) d ≡ Some o) column_is
    (r.found ∙ ap (λ (k : ℕ). Some k) on))

-- each byte has a place
some_place : (line column : ℕ) (bs : List ℕ) (k : ℕ) → k < length bs → is_some (place_from line column bs k) ≡ true
some_place line column [] k within = absurd (omega arith)
some_place line column (b ∷ bs) zero within = refl
some_place line column (b ∷ bs) (suc k) within = elim (cases_Bool (b == line_feed)) [
  | inl ends ↦ rw ends (some_place (line + 1) 1 bs k (omega arith))
  | inr other ↦ rw other (some_place line (column + 1) bs k (omega arith))
]

pub byte_placed : (bytes : List ℕ) (o : ℕ) → o < length bytes → is_some (place_of_byte bytes o) ≡ true
unfolding place_of_byte
byte_placed bytes o within = some_place 1 1 bytes o within
