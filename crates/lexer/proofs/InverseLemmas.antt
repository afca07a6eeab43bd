-- A character has a line and a column exactly where it is the one that stands there.
use Rattle.std.proofs.Common.{◌≡◌, ℕ, true, List, Option, None, Some, is_some, refl, ap, ◌∙◌}
use Rattle.std.specs.Option.{option_and_then}
use Rattle.lexer.specs.Lines.{byte_offset_of, byte_at_place, index_in, line_column_of, offset_of, place_of_byte}
use Rattle.lexer.specs.Logical.{logical_of}
use Rattle.lexer.specs.Inverse.{CharactersHavePlaces, PlacesAreInverse}
use Rattle.lexer.proofs.ByteLemmas.{byte_has_place, byte_at_its_place, byte_placed}
use Rattle.lexer.proofs.CharacterLemmas.{character_at_its_byte, character_has_byte, character_within}

-- the value in between
between : {X Y : Type 0} (f : X → Option Y) (o : Option X) (y : Y) → option_and_then f o ≡ Some y → (x : X) × (o ≡ Some x) × (f x ≡ Some y)
between f None y e = absurd cc
between f (Some x) y e = (x, refl, e)

found : (bytes : List ℕ) (at line column : ℕ) → line_column_of bytes at ≡ Some (line, column) → offset_of bytes line column ≡ Some at
unfolding line_column_of offset_of
found bytes at line column e =
    let r = between (place_of_byte bytes) (byte_offset_of bytes at) (line, column) e in
    ap (option_and_then (index_in (logical_of bytes))) (byte_at_its_place bytes r.0 line column r.2) ∙ character_at_its_byte bytes at r.0 r.1

placed : (bytes : List ℕ) (at line column : ℕ) → offset_of bytes line column ≡ Some at → line_column_of bytes at ≡ Some (line, column)
unfolding line_column_of offset_of
placed bytes at line column e =
    let r = between (index_in (logical_of bytes)) (byte_at_place bytes line column) at e in
    ap (option_and_then (place_of_byte bytes)) (character_has_byte bytes r.0 at r.2) ∙ byte_has_place bytes line column r.0 r.1

placed_by : (bytes : List ℕ) (at : ℕ) (o : Option ℕ) → byte_offset_of bytes at ≡ o → is_some o ≡ true → is_some (option_and_then (place_of_byte bytes) o) ≡ true
placed_by bytes at None is some = absurd cc
placed_by bytes at (Some x) is some = byte_placed bytes x (character_within bytes at x is)

pub characters_placed : CharactersHavePlaces
unfolding line_column_of
characters_placed bytes at some = placed_by bytes at (byte_offset_of bytes at) refl some

pub places_inverse : PlacesAreInverse
places_inverse bytes at line column = (found bytes at line column, placed bytes at line column)
