-- The byte of a character, and the character at a byte.
use Rattle.std.proofs.Common.{◌≡◌, ℕ, zero, suc, ◌+◌, ◌-◌, ◌≤◌, ◌<◌, List, [], ◌∷◌, Option, None, Some, refl, ap, subst, inl, inr, arith}
use Rattle.std.specs.Prelude.{◌==◌, length, slice_get}
use Rattle.std.specs.Option.{option_map}
use Rattle.std.proofs.lemmas.Bool.{cases_Bool, eqb-true, eq-eqb, ne_eqb}
use Rattle.std.proofs.lemmas.Option.{same_Some}
use Rattle.lexer.specs.Lines.{byte_offset_of, index_in}
use Rattle.lexer.specs.Logical.{Character, character, gone_length, logical_from, logical_of}

-- the offset of character k
abbrev offset_at : List Character → ℕ → Option ℕ
offset_at cs k = option_map (λ (c : Character). c.offset) (slice_get cs k)

-- what is so of the later characters, and of the first, is so of all
first_above : (o c x : ℕ) (later : List Character) (j : ℕ) → ((k : ℕ) → offset_at later k ≡ Some x → o + 1 ≤ x)
    → offset_at (character c o ∷ later) j ≡ Some x → o ≤ x
first_above o c x later zero rest h = let same : o ≡ x = same_Some o x h in omega arith
first_above o c x later (suc j) rest h = let more : o + 1 ≤ x = rest j h in omega arith

first_below : (o c x n : ℕ) (later : List Character) (j : ℕ) → ((k : ℕ) → offset_at later k ≡ Some x → x < o + 1 + n)
    → offset_at (character c o ∷ later) j ≡ Some x → x < o + suc n
first_below o c x n later zero rest h = let same : o ≡ x = same_Some o x h in omega arith
first_below o c x n later (suc j) rest h = let more : x < o + 1 + n = rest j h in omega arith

first_back : (o c x : ℕ) (later : List Character) (j : ℕ) → ((k : ℕ) → offset_at later k ≡ Some x → o + 1 ≤ x)
    → ((k : ℕ) → offset_at later k ≡ Some x → index_in later x ≡ Some k)
    → offset_at (character c o ∷ later) j ≡ Some x → index_in (character c o ∷ later) x ≡ Some j
first_back o c x later zero above back h = rw (eq-eqb o x (same_Some o x h)) refl
first_back o c x later (suc j) above back h =
    let low : o + 1 ≤ x = above j h in
    let on : j + 1 ≡ suc j = omega arith in
    rw (ne_eqb o x (λ s. omega arith), back j h) (ap (λ (n : ℕ). Some n) on)

-- no character stands before the first byte
offset_above : (skip o : ℕ) (bs : List ℕ) (k x : ℕ) → offset_at (logical_from skip o bs) k ≡ Some x → o ≤ x
unfolding logical_from
offset_above zero o [] k x e = absurd cc
offset_above (suc skip) o [] k x e = absurd cc
offset_above (suc skip) o (c ∷ cs) k x e = let later = offset_above skip (o + 1) cs k x e in omega arith
offset_above zero o (c ∷ cs) k x e = elim (cases_Bool (gone_length c cs == 0)) [
  | inl stays ↦ first_above o c x (logical_from 0 (o + 1) cs) k (λ j h. offset_above 0 (o + 1) cs j x h) (rw stays at e)
  | inr goes ↦ let later = offset_above (gone_length c cs - 1) (o + 1) cs k x (rw goes at e) in omega arith
]

-- nor behind the last one
offset_below : (skip o : ℕ) (bs : List ℕ) (k x : ℕ) → offset_at (logical_from skip o bs) k ≡ Some x → x < o + length bs
unfolding logical_from
offset_below zero o [] k x e = absurd cc
offset_below (suc skip) o [] k x e = absurd cc
offset_below (suc skip) o (c ∷ cs) k x e = let later = offset_below skip (o + 1) cs k x e in omega arith
offset_below zero o (c ∷ cs) k x e = elim (cases_Bool (gone_length c cs == 0)) [
  | inl stays ↦ first_below o c x (length cs) (logical_from 0 (o + 1) cs) k (λ j h. offset_below 0 (o + 1) cs j x h) (rw stays at e)
  | inr goes ↦ let later = offset_below (gone_length c cs - 1) (o + 1) cs k x (rw goes at e) in omega arith
]

-- a character is the one at its byte
character_back : (skip o : ℕ) (bs : List ℕ) (k x : ℕ) → offset_at (logical_from skip o bs) k ≡ Some x → index_in (logical_from skip o bs) x ≡ Some k
unfolding logical_from
character_back zero o [] k x e = absurd cc
character_back (suc skip) o [] k x e = absurd cc
character_back (suc skip) o (c ∷ cs) k x e = character_back skip (o + 1) cs k x e
character_back zero o (c ∷ cs) k x e = elim (cases_Bool (gone_length c cs == 0)) [
  | inl stays ↦
      rw stays (first_back o c x (logical_from 0 (o + 1) cs) k (λ j h. offset_above 0 (o + 1) cs j x h) (λ j h. character_back 0 (o + 1) cs j x h) (rw stays at e))
  | inr goes ↦ rw goes (character_back (gone_length c cs - 1) (o + 1) cs k x (rw goes at e))
]

-- the character at a byte has this byte
zero_there : (c : Character) (cs : List Character) (x k : ℕ) → Some 0 ≡ Some k → c.offset ≡ x → offset_at (c ∷ cs) k ≡ Some x
zero_there c cs x k e same = subst (λ (n : ℕ). offset_at (c ∷ cs) n ≡ Some x) (same_Some 0 k e) (ap (λ (n : ℕ). Some n) same)

later_there : (c : Character) (cs : List Character) (x k : ℕ) (o : Option ℕ) → ((j : ℕ) → o ≡ Some j → offset_at cs j ≡ Some x)
    → option_map (λ (n : ℕ). n + 1) o ≡ Some k → offset_at (c ∷ cs) k ≡ Some x
later_there c cs x k None rest e = absurd cc
later_there c cs x k (Some j) rest e =
    let same : j + 1 ≡ k = same_Some (j + 1) k e in
    let on : suc j ≡ k = omega arith in
    subst (λ (n : ℕ). offset_at (c ∷ cs) n ≡ Some x) on (rest j refl)

character_there : (cs : List Character) (x k : ℕ) → index_in cs x ≡ Some k → offset_at cs k ≡ Some x
character_there [] x k e = absurd cc
character_there (c ∷ cs) x k e = elim (cases_Bool (c.offset == x)) [
  | inl same ↦ zero_there c cs x k (rw same at e) (eqb-true c.offset x same)
  | inr other ↦ later_there c cs x k (index_in cs x) (λ j is. character_there cs x j is) (rw other at e)
]

pub character_at_its_byte : (bytes : List ℕ) (at o : ℕ) → byte_offset_of bytes at ≡ Some o → index_in (logical_of bytes) o ≡ Some at
unfolding byte_offset_of logical_of
character_at_its_byte bytes at o e = character_back 0 0 bytes at o e

pub character_has_byte : (bytes : List ℕ) (o at : ℕ) → index_in (logical_of bytes) o ≡ Some at → byte_offset_of bytes at ≡ Some o
unfolding byte_offset_of logical_of
character_has_byte bytes o at e = character_there (logical_from 0 0 bytes) o at e

pub character_within : (bytes : List ℕ) (at o : ℕ) → byte_offset_of bytes at ≡ Some o → o < length bytes
unfolding byte_offset_of logical_of
character_within bytes at o e = let within = offset_below 0 0 bytes at o e in omega arith
