-- Lines of the logical text, and the odd tokens of all files.
use Rattle.std.proofs.Common.{◌≡◌, ℕ, zero, suc, ◌+◌, ◌-◌, ◌<◌, ◌≤◌, true, false, List, [], ◌∷◌, ◌++◌, length, get_or, drop, Option, Some, None, Ok, slice_get, refl, sym, ap, ◌∙◌, append_assoc, append-nil, inl, inr, arith}
use Rattle.std.specs.Prelude.{◌==◌, ◌^◌, nat_lt, is_some}
use Rattle.std.specs.List.{flat_map}
use Rattle.std.specs.Option.{option_map, option_map_or}
use Rattle.std.proofs.lemmas.Bool.{cases_Bool}
use Rattle.std.proofs.lemmas.Bool.Decides.{nat_tests}
use Rattle.std.proofs.lemmas.Grind.{flat_map-append}
use Rattle.std.proofs.lemmas.List.{at_drop_all}
use Rattle.std.proofs.lemmas.Option.{same_Some as one}
use Rattle.cs_base.specs.declared.positions.Pos.{Pos}
use Rattle.cs_base.specs.Token.{Token}
use Rattle.analysis.specs.Below.lexer.FileText.{TextValue, file_text}
use Rattle.analysis.specs.Below.lexer.Characters.{line_feed}
use Rattle.analysis.specs.Below.lexer.Logical.{Character, character, logical_from, logical_of}
use Rattle.analysis.specs.Below.lexer.Lines.{byte_offset_of}
use Rattle.analysis.specs.Below.lexer.GoneTable.{going}
use Rattle.analysis.proofs.Below.lexer.GoneLemmas.{logical_from-going, logical_from-empty}
use Rattle.analysis.proofs.Below.lexer.OrderLemmas.{few_bytes, nothing, offset_none}
use Rattle.analysis.specs.Below.source_files.Files.{Table}
use Rattle.analysis.specs.Below.source_files.KeptFiles.{kept_at}
use Rattle.offences.specs.Tokens.{file_toks, kept_tokens}
use Rattle.offences.proofs.UnitLemmas.{kept-more}
use Rattle.template_rules.specs.LineOffences.{is_line_feed_at, line_begin}

-- ---- bytes of characters

-- A character has the byte at its offset.
pub record IsByte (at : ℕ) (bytes : List ℕ) (c : Character) : Type 0 where
  pub behind : at ≤ c.offset
  pub inside : c.offset < at + length bytes
  pub byte : get_or bytes (c.offset - at) 0 ≡ c.byte

later : (at b : ℕ) (bs : List ℕ) (c : Character) → IsByte (at + 1) bs c → IsByte at (b ∷ bs) c
later at b bs c is =
    let on : c.offset - at ≡ suc (c.offset - (at + 1)) = omega (arith, is.behind) in
    record { behind = omega (arith, is.behind); inside = omega (arith, is.inside); byte = rw on is.byte }

first : (at b : ℕ) (bs : List ℕ) (c : Character) → character b at ≡ c → IsByte at (b ∷ bs) c
first at b bs c is =
    let offset : at ≡ c.offset = ap (λ (d : Character). d.offset) is in
    let byte : b ≡ c.byte = ap (λ (d : Character). d.byte) is in
    let none : c.offset - at ≡ 0 = omega (arith, offset) in
    record { behind = omega (arith, offset); inside = omega (arith, offset); byte = rw none byte }

character_byte : (skip at k : ℕ) (bs : List ℕ) (c : Character) → slice_get (logical_from skip at bs) k ≡ Some c → IsByte at bs c
character_byte skip at k [] c found =
    let none = rw (logical_from-empty skip at) at found in absurd (nothing k c none)
character_byte skip at zero (b ∷ bs) c found = elim (cases_Bool (going skip b bs == 0)) [
  | inl stays ↦
      let here : Some (character b at) ≡ Some c = rw (logical_from-going skip at b bs, stays) at found in
      first at b bs c (one (character b at) c here)
  | inr goes ↦
      let there = rw (logical_from-going skip at b bs, goes) at found in
      later at b bs c (character_byte (going skip b bs - 1) (at + 1) zero bs c there)
]
character_byte skip at (suc k) (b ∷ bs) c found = elim (cases_Bool (going skip b bs == 0)) [
  | inl stays ↦
      let there = rw (logical_from-going skip at b bs, stays) at found in
      later at b bs c (character_byte 0 (at + 1) k bs c there)
  | inr goes ↦
      let there = rw (logical_from-going skip at b bs, goes) at found in
      later at b bs c (character_byte (going skip b bs - 1) (at + 1) (suc k) bs c there)
]

offset_some : (r : Option Character) (b : ℕ) → option_map (λ (c : Character). c.offset) r ≡ Some b
    → (c : Character) × (r ≡ Some c) × (c.offset ≡ b)
offset_some None b is = absurd cc
offset_some (Some c) b is = (c, refl, cc)

pub no_line_feed : (bytes : List ℕ) (k : ℕ) → byte_offset_of bytes k ≡ None → is_line_feed_at bytes k ≡ false
unfolding byte_offset_of
no_line_feed bytes k is = offset_none (slice_get (logical_of bytes) k) is

pub line_feed_within : (bytes : List ℕ) (k b : ℕ) → byte_offset_of bytes k ≡ Some b → b < length bytes
unfolding byte_offset_of logical_of
line_feed_within bytes k b is =
    let c = offset_some (slice_get (logical_of bytes) k) b is in
    let at = character_byte 0 0 k bytes c.0 c.1 in
    omega (arith, at.inside, c.2)

pub line_feed_at : (bytes : List ℕ) (k b : ℕ) → byte_offset_of bytes k ≡ Some b → is_line_feed_at bytes k ≡ (get_or bytes b 0 == line_feed)
unfolding byte_offset_of logical_of
line_feed_at bytes k b is =
    let c = offset_some (slice_get (logical_of bytes) k) b is in
    let at = character_byte 0 0 k bytes c.0 c.1 in
    let same : c.0.offset - 0 ≡ b = omega (arith, c.2) in
    let byte : get_or bytes b 0 ≡ c.0.byte = ap (λ (n : ℕ). get_or bytes n 0) (sym same) ∙ at.byte in
    ap (λ (r : Option Character). option_map_or (λ (d : Character). d.byte == line_feed) r false) c.1 ∙ ap (λ (n : ℕ). n == line_feed) (sym byte)

-- ---- how far characters go

-- no character stands before its number
character_after : (skip at k : ℕ) (bs : List ℕ) (c : Character) → slice_get (logical_from skip at bs) k ≡ Some c → at + k ≤ c.offset
character_after skip at k [] c found =
    let none = rw (logical_from-empty skip at) at found in absurd (nothing k c none)
character_after skip at zero (b ∷ bs) c found = elim (cases_Bool (going skip b bs == 0)) [
  | inl stays ↦
      let here : Some (character b at) ≡ Some c = rw (logical_from-going skip at b bs, stays) at found in
      let offset : at ≡ c.offset = ap (λ (d : Character). d.offset) (one (character b at) c here) in
      omega (arith, offset)
  | inr goes ↦
      let there = rw (logical_from-going skip at b bs, goes) at found in
      let later_ = character_after (going skip b bs - 1) (at + 1) zero bs c there in
      omega (arith, later_)
]
character_after skip at (suc k) (b ∷ bs) c found = elim (cases_Bool (going skip b bs == 0)) [
  | inl stays ↦
      let there = rw (logical_from-going skip at b bs, stays) at found in
      let later_ = character_after 0 (at + 1) k bs c there in
      omega (arith, later_)
  | inr goes ↦
      let there = rw (logical_from-going skip at b bs, goes) at found in
      let later_ = character_after (going skip b bs - 1) (at + 1) (suc k) bs c there in
      omega (arith, later_)
]

pub character_behind : (bytes : List ℕ) (k b : ℕ) → byte_offset_of bytes k ≡ Some b → k ≤ b
unfolding byte_offset_of logical_of
character_behind bytes k b is =
    let c = offset_some (slice_get (logical_of bytes) k) b is in
    let at = character_after 0 0 k bytes c.0 c.1 in
    omega (arith, at, c.2)

-- so a character has a number of 32 bits, and so has the one behind it
pub character_fits : (file : ℕ) (bytes : List ℕ) (text : TextValue) (k b : ℕ) → file_text file bytes ≡ Ok text → byte_offset_of bytes k ≡ Some b
    → k + 1 < 2 ^ 32
character_fits file bytes text k b is found =
    let few = few_bytes file bytes text is in
    let on = character_behind bytes k b found in
    let within = line_feed_within bytes k b found in
    omega (arith, few, on, within)

none_at : {X : Type 0} (xs : List X) (i k : ℕ) → slice_get xs i ≡ None → i ≤ k → slice_get xs k ≡ None
none_at [] i zero none on = refl
none_at [] i (suc k) none on = refl
none_at (x ∷ xs) zero k none on = absurd (cc)
none_at (x ∷ xs) (suc i) zero none on = absurd (omega (arith, on))
none_at (x ∷ xs) (suc i) (suc k) none on = none_at xs i k none (omega (arith, on))

nothing_there : (r : Option Character) → is_some (option_map (λ (c : Character). c.offset) r) ≡ false → r ≡ None
nothing_there None is = refl
nothing_there (Some c) is = absurd cc

-- behind the last character no line feed stands
pub no_line_feed_behind : (bytes : List ℕ) (at end : ℕ) → ((k : ℕ) → at ≤ k → k < end → is_line_feed_at bytes k ≡ false)
    → is_some (byte_offset_of bytes end) ≡ false → (k : ℕ) → at ≤ k → is_line_feed_at bytes k ≡ false
unfolding byte_offset_of
no_line_feed_behind bytes at end free none k on = elim (cases_Bool (nat_lt k end)) [
  | inl less ↦ free k on (grind (arith, nat_tests))
  | inr other ↦
      let past : end ≤ k = grind (arith, nat_tests) in
      let gone : slice_get (logical_of bytes) k ≡ None = none_at (logical_of bytes) end k (nothing_there (slice_get (logical_of bytes) end) none) past in
      rw gone refl
]

pub feeds_more : (bytes : List ℕ) (at end : ℕ) → (at ≤ end) × ((k : ℕ) → at ≤ k → k < end → is_line_feed_at bytes k ≡ false)
    → is_line_feed_at bytes end ≡ false → (at ≤ end + 1) × ((k : ℕ) → at ≤ k → k < end + 1 → is_line_feed_at bytes k ≡ false)
feeds_more bytes at end before here = (
  (omega (arith, before.0)),
  λ k on to. elim (cases_Bool (nat_lt k end)) [
    | inl less ↦ before.1 k on (grind (arith, nat_tests))
    | inr other ↦ let same : k ≡ end = grind (arith, nat_tests) in rw same here
  ],
)

-- ---- all files

pub odd_files_next : (f : Token → List Pos) (table : Table) (k : ℕ) (out more whole : List Pos) → k < length table
    → out ++ flat_map f (kept_tokens k (drop k table)) ≡ whole → more ≡ out ++ flat_map f (option_map_or file_toks (kept_at table k) [])
    → more ++ flat_map f (kept_tokens (k + 1) (drop (k + 1) table)) ≡ whole
odd_files_next f table k out more whole within so_far added =
    let here = option_map_or file_toks (kept_at table k) [] in
    let rest = kept_tokens (k + 1) (drop (k + 1) table) in
    ap (λ (ps : List Pos). ps ++ flat_map f rest) added
    ∙ append_assoc out (flat_map f here) (flat_map f rest)
    ∙ ap (λ (ps : List Pos). out ++ ps) (sym (flat_map-append f here rest))
    ∙ ap (λ (ts : List Token). out ++ flat_map f ts) (sym (kept-more table k within))
    ∙ so_far

pub odd_files_all : (f : Token → List Pos) (table : Table) (k : ℕ) (out whole : List Pos) → length table ≤ k
    → out ++ flat_map f (kept_tokens k (drop k table)) ≡ whole → out ≡ whole
unfolding kept_tokens
odd_files_all f table k out whole past so_far =
    sym (append-nil out) ∙ ap (λ (ts : List Token). out ++ flat_map f ts) (sym (at_drop_all (kept_tokens k) table k past)) ∙ so_far

-- ---- lines

pub line_same : (bytes : List ℕ) (k : ℕ) → 0 < k → is_line_feed_at bytes (k - 1) ≡ false → line_begin bytes (k - 1) ≡ line_begin bytes k
unfolding line_begin
line_same bytes zero some here = absurd (omega (arith, some))
line_same bytes (suc k) some here =
    let on : suc k - 1 ≡ k = omega arith in
    let there : is_line_feed_at bytes k ≡ false = rw on at here in
    rw (on, there) refl

pub line_ends : (bytes : List ℕ) (k : ℕ) → 0 < k → is_line_feed_at bytes (k - 1) ≡ true → line_begin bytes k ≡ k
unfolding line_begin
line_ends bytes zero some here = absurd (omega (arith, some))
line_ends bytes (suc k) some here =
    let on : suc k - 1 ≡ k = omega arith in
    let there : is_line_feed_at bytes k ≡ true = rw on at here in
    rw there refl

pub line_first : (bytes : List ℕ) → line_begin bytes 0 ≡ 0
unfolding line_begin
line_first bytes = refl
