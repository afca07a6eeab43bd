-- Texts in which the members of a class are spelled otherwise (this project's): for the first character of each
-- member the new name stands, its other characters are gone, and every other character stays.
use Rattle.std.specs.Prelude.{ℕ, ◌==◌, if◌then◌else◌, Option, Some, None, List, [], ◌∷◌, ◌++◌, find}
use Rattle.std.specs.Option.{option_map_or}
use Rattle.cs_base.specs.declared.positions.Part.{Part}
use Rattle.cs_base.specs.declared.positions.Pos.{Pos}
use Rattle.cs_base.specs.Token.{Token}
use Rattle.eclass_map.specs.Positions.{holds}
use Rattle.lexer.specs.Logical.{logical_of, spelling}
use Rattle.lexer.specs.Places.{pos}
use Rattle.lexer.specs.Respelling.{Put, edited, moved}

-- the member that holds a character, if one does
abbrev pub member_over : List Part → Pos → Option Part
member_over members p = find (λ m. holds m p) members

-- what stands for a character of a member: the name for its first one, and nothing for the others
abbrev pub put_in : List ℕ → Pos → Part → List ℕ
put_in name p m = if m.start.at == p.at then name else []

-- what stands for the character at a position, which has this byte
abbrev pub put_at : List Part → List ℕ → Pos → ℕ → List ℕ
put_at members name p c = option_map_or (put_in name p) (member_over members p) (c ∷ [])

-- the same for the characters of a file
abbrev pub put_of : List Part → List ℕ → ℕ → Put
put_of members name file at c = put_at members name (pos file at) c

-- The bytes of a file with these members: line splices and white space stay where they stand.
unfoldable pub respelled : List Part → List ℕ → ℕ → List ℕ → List ℕ
respelled members name file bytes = edited (put_of members name file) bytes

-- the place to which a character of a file with these bytes moves
abbrev pub moved_to : List Part → List ℕ → ℕ → List ℕ → ℕ → ℕ
moved_to members name file bytes at = moved (put_of members name file) (spelling (logical_of bytes)) at

-- what stands for a character with this origin; one that comes from no file stays
abbrev pub put_for : List Part → List ℕ → Option Pos → ℕ → List ℕ
put_for members name None c = c ∷ []
put_for members name (Some p) c = put_at members name p c

-- the characters of a token with these origins
unfoldable pub spelled_from : List Part → List ℕ → List (Option Pos) → List ℕ → List ℕ
spelled_from members name (origin ∷ origins) (c ∷ text) =
    put_for members name origin c ++ spelled_from members name origins text
spelled_from members name _ _ = []

-- the new spelling of a token: each member in it is replaced by the name
abbrev pub spelled : List Part → List ℕ → Token → List ℕ
spelled members name t = spelled_from members name t.origins t.text
