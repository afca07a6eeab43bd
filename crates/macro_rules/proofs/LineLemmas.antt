-- Lines of the logical text.
use Rattle.std.proofs.Common.{◌≡◌, ℕ, zero, suc, ◌+◌, ◌-◌, ◌<◌, ◌≤◌, true, false, List, [], ◌∷◌, length, get_or, Option, Some, None, slice_get, refl, sym, ap, ◌∙◌, inl, inr, arith}
use Rattle.std.specs.Prelude.{◌==◌}
use Rattle.std.specs.Option.{option_map, option_map_or}
use Rattle.std.proofs.lemmas.Bool.{cases_Bool}
use Rattle.std.proofs.lemmas.Option.{same_Some as one}
use Rattle.analysis.specs.Below.lexer.Characters.{line_feed}
use Rattle.analysis.specs.Below.lexer.Logical.{Character, character, logical_from, logical_of}
use Rattle.analysis.specs.Below.lexer.Lines.{byte_offset_of}
use Rattle.analysis.specs.Below.lexer.GoneTable.{going}
use Rattle.analysis.proofs.Below.lexer.GoneLemmas.{logical_from-going, logical_from-empty}
use Rattle.analysis.proofs.Below.lexer.OrderLemmas.{nothing, offset_none}
use Rattle.macro_rules.specs.FileOffences.{is_line_feed_at, line_begin}

-- ---- bytes of characters

-- A character has the byte at its offset.
pub record IsByte (at : ℕ) (bytes : List ℕ) (c : Character) : Type 0 where
  pub behind : at ≤ c.offset
  pub inside : c.offset < at + length bytes
  pub byte : get_or bytes (c.offset - at) 0 ≡ c.byte

later : (at b : ℕ) (bs : List ℕ) (c : Character) → IsByte (at + 1) bs c → IsByte at (b ∷ bs) c
later at b bs c is =
    let on : c.offset - at ≡ suc (c.offset - (at + 1)) = omega (arith, is.behind) in
    record { behind = omega (arith, is.behind); inside = omega (arith, is.inside); byte = rw on is.byte }

first : (at b : ℕ) (bs : List ℕ) (c : Character) → character b at ≡ c → IsByte at (b ∷ bs) c
first at b bs c is =
    let offset : at ≡ c.offset = ap (λ (d : Character). d.offset) is in
    let byte : b ≡ c.byte = ap (λ (d : Character). d.byte) is in
    let none : c.offset - at ≡ 0 = omega (arith, offset) in
    record { behind = omega (arith, offset); inside = omega (arith, offset); byte = rw none byte }

character_byte : (skip at k : ℕ) (bs : List ℕ) (c : Character) → slice_get (logical_from skip at bs) k ≡ Some c → IsByte at bs c
character_byte skip at k [] c found =
    let none = rw (logical_from-empty skip at) at found in absurd (nothing k c none)
character_byte skip at zero (b ∷ bs) c found = elim (cases_Bool (going skip b bs == 0)) [
  | inl stays ↦
      let here : Some (character b at) ≡ Some c = rw (logical_from-going skip at b bs, stays) at found in
      first at b bs c (one (character b at) c here)
  | inr goes ↦
      let there = rw (logical_from-going skip at b bs, goes) at found in
      later at b bs c (character_byte (going skip b bs - 1) (at + 1) zero bs c there)
]
character_byte skip at (suc k) (b ∷ bs) c found = elim (cases_Bool (going skip b bs == 0)) [
  | inl stays ↦
      let there = rw (logical_from-going skip at b bs, stays) at found in
      later at b bs c (character_byte 0 (at + 1) k bs c there)
  | inr goes ↦
      let there = rw (logical_from-going skip at b bs, goes) at found in
      later at b bs c (character_byte (going skip b bs - 1) (at + 1) (suc k) bs c there)
]

offset_some : (r : Option Character) (b : ℕ) → option_map (λ (c : Character). c.offset) r ≡ Some b
    → (c : Character) × (r ≡ Some c) × (c.offset ≡ b)
offset_some None b is = absurd cc
offset_some (Some c) b is = (c, refl, cc)

pub no_line_feed : (bytes : List ℕ) (k : ℕ) → byte_offset_of bytes k ≡ None → is_line_feed_at bytes k ≡ false
unfolding byte_offset_of
no_line_feed bytes k is = offset_none (slice_get (logical_of bytes) k) is

pub line_feed_within : (bytes : List ℕ) (k b : ℕ) → byte_offset_of bytes k ≡ Some b → b < length bytes
unfolding byte_offset_of logical_of
line_feed_within bytes k b is =
    let c = offset_some (slice_get (logical_of bytes) k) b is in
    let at = character_byte 0 0 k bytes c.0 c.1 in
    omega (arith, at.inside, c.2)

pub line_feed_at : (bytes : List ℕ) (k b : ℕ) → byte_offset_of bytes k ≡ Some b → is_line_feed_at bytes k ≡ (get_or bytes b 0 == line_feed)
unfolding byte_offset_of logical_of
line_feed_at bytes k b is =
    let c = offset_some (slice_get (logical_of bytes) k) b is in
    let at = character_byte 0 0 k bytes c.0 c.1 in
    let same : c.0.offset - 0 ≡ b = omega (arith, c.2) in
    let byte : get_or bytes b 0 ≡ c.0.byte = ap (λ (n : ℕ). get_or bytes n 0) (sym same) ∙ at.byte in
    ap (λ (r : Option Character). option_map_or (λ (d : Character). d.byte == line_feed) r false) c.1 ∙ ap (λ (n : ℕ). n == line_feed) (sym byte)

-- ---- lines

pub line_same : (bytes : List ℕ) (k : ℕ) → 0 < k → is_line_feed_at bytes (k - 1) ≡ false → line_begin bytes (k - 1) ≡ line_begin bytes k
unfolding line_begin
line_same bytes zero some here = absurd (omega (arith, some))
line_same bytes (suc k) some here =
    let on : suc k - 1 ≡ k = omega arith in
    let there : is_line_feed_at bytes k ≡ false = rw on at here in
    rw (on, there) refl

pub line_ends : (bytes : List ℕ) (k : ℕ) → 0 < k → is_line_feed_at bytes (k - 1) ≡ true → line_begin bytes k ≡ k
unfolding line_begin
line_ends bytes zero some here = absurd (omega (arith, some))
line_ends bytes (suc k) some here =
    let on : suc k - 1 ≡ k = omega arith in
    let there : is_line_feed_at bytes k ≡ true = rw on at here in
    rw there refl

pub line_first : (bytes : List ℕ) → line_begin bytes 0 ≡ 0
unfolding line_begin
line_first bytes = refl
