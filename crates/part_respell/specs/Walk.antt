-- The walk over the bytes of a file, by the offsets of its characters.
use Rattle.std.specs.Prelude.{ℕ, ◌+◌, ◌==◌, ◌≡◌, ◌<◌, ◌≤◌, nat_lt, if◌then◌else◌, Bool, true, false, List, [], ◌∷◌, ◌++◌, drop, length, unwrap_or}
use Rattle.std.specs.Option.{option_map_or}
use Rattle.cs_base.specs.declared.positions.Part.{Part}
use Rattle.lexer.specs.Lines.{byte_offset_of}
use Rattle.lexer.specs.Logical.{Character, logical_of}
use Rattle.lexer.specs.Places.{pos}
use Rattle.lexer.specs.Respelling.{Put}
use Rattle.part_respell.specs.Order.{AreLeft}
use Rattle.part_respell.specs.Respelled.{member_over, put_of, respelled}

-- The bytes from an offset on, the first character among which has number `at`: these are the characters left.
unfoldable pub edited_at : Put → ℕ → List Character → ℕ → List ℕ → List ℕ
edited_at put at chars offset [] = []
edited_at put at [] offset (c ∷ cs) = c ∷ edited_at put at [] (offset + 1) cs
edited_at put at (first ∷ chars) offset (c ∷ cs) =
    if first.offset == offset then put at c ++ edited_at put (at + 1) chars (offset + 1) cs
    else c ∷ edited_at put at (first ∷ chars) (offset + 1) cs

-- the byte at an offset is character `at`
abbrev pub is_character : List ℕ → ℕ → ℕ → Bool
is_character bytes at offset = option_map_or (λ byte. byte == offset) (byte_offset_of bytes at) false

-- none of the members that are left holds character `at`
abbrev pub is_between : List Part → ℕ → Bool
is_between [] at = true
is_between (m ∷ members) at = nat_lt at m.start.at

-- the character at which the first of them begins, if there is one
abbrev pub next_at : List Part → ℕ → ℕ
next_at [] at = at
next_at (m ∷ members) at = m.start.at

-- the offset of its byte; where the file ends if no such member begins in it
abbrev pub next_byte : List ℕ → List Part → ℕ
next_byte bytes [] = length bytes
next_byte bytes (m ∷ members) = unwrap_or (byte_offset_of bytes m.start.at) (length bytes)

-- Each character stands at the offset or behind it, and behind the one before.
abbrev pub Ascend : ℕ → List Character → Type 0
Ascend offset [] = Unit {0}
Ascend offset (c ∷ chars) = (offset ≤ c.offset) × Ascend (c.offset + 1) chars

-- What is made of the bytes before an offset, where character `at` comes next and these members are left.
pub record IsMade (members : List Part) (name : List ℕ) (file : ℕ) (bytes out : List ℕ) (offset at : ℕ) (rest : List Part) : Type 0 where
  pub made : out ++ edited_at (put_of members name file) at (drop at (logical_of bytes)) offset (drop offset bytes)
      ≡ respelled members name file bytes
  pub behind : offset < length bytes → at ≤ offset
  pub ahead : offset < length bytes → Ascend offset (drop at (logical_of bytes))
  pub left : AreLeft file at rest
  pub same : (p : ℕ) → at ≤ p → member_over rest (pos file p) ≡ member_over members (pos file p)
