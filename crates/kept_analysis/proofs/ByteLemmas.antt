-- The bytes of a file with what stands for each character, byte by byte.
use Rattle.std.proofs.Common.{ℕ, ◌+◌, ◌≡◌, ◌<◌, ◌≤◌, true, false, List, [], ◌∷◌, ◌++◌, length, drop, get_or, Option, Some, None, refl, sym, ap, ◌∙◌, arith, append_assoc, append-nil}
use Rattle.std.specs.Prelude.{◌==◌, slice_get}
use Rattle.std.specs.Option.{option_map, option_map_or}
use Rattle.std.proofs.lemmas.List.{drop_more, drop_all}
use Rattle.cs_base.proofs.ListLemmas.{drop-some as drop_at}
use Rattle.analysis.specs.Below.lexer.Logical.{Character, logical_of}
use Rattle.analysis.specs.Below.lexer.Lines.{byte_offset_of}
use Rattle.analysis.specs.Below.lexer.Respelling.{Put, edited}
use Rattle.part_respell.specs.Walk.{edited_at}
use Rattle.part_respell.proofs.WalkLemmas.{edited-at, edited_at-byte}
use Rattle.analysis.specs.Below.lexer.Places.{pos}
use Rattle.offences.specs.declared.moves.Moves.{Moves}
use Rattle.kept_analysis.specs.Edits.{stands_at, IsMade}
use Rattle.offences.specs.Moves.{editing_by, put_by}

-- the character that stands at an offset
character_is : (offset : ℕ) (r : Option Character)
    → option_map_or (λ byte. byte == offset) (option_map (λ (c : Character). c.offset) r) false ≡ true
    → (c : Character) × (r ≡ Some c) × ((c.offset == offset) ≡ true)
character_is offset None h = absurd cc
character_is offset (Some c) h = (c, refl, h)

-- the edit by the tables
pub editing_is : (m : Moves) (number : ℕ) (bytes : List ℕ) → edited (λ at c. put_by m (pos number at) c) bytes ≡ editing_by m number bytes
unfolding editing_by
editing_is m number bytes = refl

module _ (put : Put) (bytes : List ℕ) where
  pub made_none : IsMade put bytes [] 0 0
  unfolding edited logical_of
  made_none = record { made = sym (edited-at put 0 0 0 bytes); behind = omega arith }

  pub made_end : (out : List ℕ) (offset at : ℕ) → length bytes ≤ offset → IsMade put bytes out offset at → out ≡ edited put bytes
  unfolding edited_at
  made_end out offset at h is =
      let none : drop offset bytes ≡ [] = drop_all offset bytes h in
      let made : out ++ [] ≡ edited put bytes = rw none at is.made in
      sym (append-nil out) ∙ made

  pub made_character : (out more : List ℕ) (offset at b : ℕ) → offset < length bytes → b ≡ get_or bytes offset 0
      → stands_at bytes at offset ≡ true → more ≡ out ++ put at b → IsMade put bytes out offset at → IsMade put bytes more (offset + 1) (at + 1)
  unfolding edited_at byte_offset_of
  made_character out more offset at b h item here pushed is =
      let found = character_is offset (slice_get (logical_of bytes) at) here in
      let later = edited_at put (at + 1) (drop (at + 1) (logical_of bytes)) (offset + 1) (drop (offset + 1) bytes) in
      let made : out ++ (put at (get_or bytes offset 0) ++ later) ≡ edited put bytes =
      rw (drop_at (logical_of bytes) at found.0 found.1, drop_more bytes offset 0 h, found.2) at is.made in
      record {
        made = rw pushed (append_assoc out (put at b) later ∙ (ap (λ (x : ℕ). out ++ (put at x ++ later)) item ∙ made));
        behind = omega (arith, is.behind);
      }

  pub made_other : (out more : List ℕ) (offset at b : ℕ) → offset < length bytes → b ≡ get_or bytes offset 0
      → stands_at bytes at offset ≡ false → more ≡ out ++ b ∷ [] → IsMade put bytes out offset at → IsMade put bytes more (offset + 1) at
  unfolding edited_at byte_offset_of
  made_other out more offset at b h item here pushed is =
      let later = edited_at put at (drop at (logical_of bytes)) (offset + 1) (drop (offset + 1) bytes) in
      let made : out ++ (get_or bytes offset 0 ∷ later) ≡ edited put bytes =
      rw (
        drop_more bytes offset 0 h,
        edited_at-byte put at offset (get_or bytes offset 0) (drop (offset + 1) bytes) (logical_of bytes) (slice_get (logical_of bytes) at) refl here,
      )
      at is.made in
      record {
        made = rw pushed (append_assoc out (b ∷ []) later ∙ (ap (λ (x : ℕ). out ++ (x ∷ later)) item ∙ made));
        behind = omega (arith, is.behind);
      }
