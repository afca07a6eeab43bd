-- Files in which the members of a class are spelled otherwise (ISO/IEC 9899:1999, 5.1.1.2 phases 1 to 3).
use Rattle.std.specs.Prelude.{ℕ, ◌≡◌, List, length, map}
use Rattle.std.specs.Option.{option_map}
use Rattle.cs_base.specs.declared.positions.Part.{Part}
use Rattle.cs_base.specs.Token.{Token, token}
use Rattle.lexer.specs.Places.{pos, origins_from}
use Rattle.lexer.specs.Respelling.{KeepsPieces}
use Rattle.lexer.specs.Tokens.{tokens_of, firsts_of, open_comment_of}
use Rattle.part_respell.specs.Respelled.{put_of, respelled, spelled, moved_to}

-- A token of the file in which each member is replaced by the name, at the place to which it moves: kind, white
-- space, line and directness stay.
abbrev pub edited_token : List Part → List ℕ → ℕ → List ℕ → Token → Token
edited_token members name file bytes t =
    token t.kind (spelled members name t)
    (origins_from file (moved_to members name file bytes t.at.at) (length (spelled members name t))) t.gap
    (pos file (moved_to members name file bytes t.at.at)) t.line t.direct

-- Where identifiers alone change, each into an identifier, the edited file has the old tokens, each with its new
-- spelling, at the place to which it moves; the same are the first of their lines, and the same comment is open.
abbrev pub EditedFilesKeepTokens : Type 0
EditedFilesKeepTokens = (members : List Part) (name : List ℕ) (file : ℕ) (bytes : List ℕ) → KeepsPieces (put_of members name file) bytes
    → (tokens_of file (respelled members name file bytes) ≡ map (edited_token members name file bytes) (tokens_of file bytes))
    × (firsts_of (respelled members name file bytes) ≡ firsts_of bytes)
    × (open_comment_of (respelled members name file bytes) ≡ option_map (moved_to members name file bytes) (open_comment_of bytes))
