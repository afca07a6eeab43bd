-- Texts in which identifiers are spelled otherwise, by what stands for each character.
use Rattle.std.specs.Prelude.{◌≡◌, ℕ, zero, suc, ◌+◌, ◌-◌, Bool, true, not, ◌&&◌, ◌||◌, ◌==◌, if◌then◌else◌, List, [], ◌∷◌, ◌++◌, length, take, map, codes}
use Rattle.std.specs.Bool.{beq}
use Rattle.std.specs.List.{list_all}
use Rattle.std.specs.Option.{option_map}
use Rattle.std.specs.Str.{bytes_eq}
use Rattle.cs_base.specs.declared.tokens.Kind.TheVariants.{Ident}
use Rattle.cs_base.specs.Token.{Token, token}
use Rattle.lexer.specs.declared.pieces.Piece.{Piece}
use Rattle.lexer.specs.declared.pieces.Piece.TheVariants.{Token as Spelled}
use Rattle.lexer.specs.declared.pieces.LineFront.{LineFront}
use Rattle.lexer.specs.declared.pieces.LineFront.TheVariants.{Nothing, Hash}
use Rattle.lexer.specs.Characters.{is_word}
use Rattle.lexer.specs.Spelling.{is_identifier_text}
use Rattle.lexer.specs.Logical.{gone_length, logical_of, spelling}
use Rattle.lexer.specs.Places.{pos, origins_from}
use Rattle.lexer.specs.Tokens.{piece_of, piece_length, expects_header, line_front_after, tokens_of, firsts_of, open_comment_of}

-- what stands for a character, by its number and its byte
abbrev pub Put : Type 0
Put = ℕ → ℕ → List ℕ

-- a text whose first character has this number, with what stands for each character
abbrev pub respell : Put → ℕ → List ℕ → List ℕ
respell put at [] = []
respell put at (c ∷ cs) = put at c ++ respell put (at + 1) cs

-- each character stands for itself
abbrev pub stays : Put → ℕ → List ℕ → Bool
stays put at [] = true
stays put at (c ∷ cs) = bytes_eq (put at c) (c ∷ []) && stays put (at + 1) cs

-- for each character nondigits and digits stand, or nothing
abbrev pub words_stand : Put → ℕ → List ℕ → Bool
words_stand put at [] = true
words_stand put at (c ∷ cs) = list_all is_word (put at c) && words_stand put (at + 1) cs

-- for an identifier another stands: for its first character that character or an identifier, for the
-- others nondigits and digits, or nothing
abbrev pub names_stand : Put → ℕ → List ℕ → Bool
names_stand put at [] = true
names_stand put at (c ∷ cs) =
    (bytes_eq (put at c) (c ∷ []) || is_identifier_text (put at c)) && words_stand put (at + 1) cs

-- an identifier that stands behind the `#` of a directive is the word `include` before and after, or
-- neither
abbrev pub keeps_include : LineFront → List ℕ → List ℕ → Bool
keeps_include Hash old new = beq (bytes_eq old (codes "include")) (bytes_eq new (codes "include"))
keeps_include _ old new = true

-- An identifier stands for this one, and if it is another, it is not `L`, which would be the prefix of
-- what stands behind it between quotes, and the same header names stand behind it.
abbrev pub keeps_word : Put → LineFront → ℕ → List ℕ → Bool
keeps_word put front at word =
    names_stand put at word
    && (stays put at word || (not (bytes_eq (respell put at word) (codes "L")) && keeps_include front word (respell put at word)))

-- an identifier is kept as one, and every other piece stays
abbrev pub keeps_piece : Put → LineFront → ℕ → List ℕ → Piece → Bool
keeps_piece put front at text (Spelled Ident n) = keeps_word put front at (take n text)
keeps_piece put front at text piece = stays put at (take (piece_length (length text) piece) text)

-- So it is with each piece of the text from character `at` on, of which the first `skip` characters
-- belong to the piece before, and `front` stands on the line.
unfoldable pub keeps_pieces : Put → ℕ → LineFront → ℕ → List ℕ → Bool
keeps_pieces put skip front at [] = true
keeps_pieces put (suc skip) front at (c ∷ cs) = keeps_pieces put skip front (at + 1) cs
keeps_pieces put zero front at (c ∷ cs) =
    keeps_piece put front at (c ∷ cs) (piece_of (expects_header front) c cs)
    && keeps_pieces put (piece_length (length (c ∷ cs)) (piece_of (expects_header front) c cs) - 1)
    (line_front_after (c ∷ cs) front (piece_of (expects_header front) c cs)) (at + 1) cs

-- only identifiers of the file are spelled otherwise, each as another identifier
abbrev pub KeepsPieces : Put → List ℕ → Type 0
KeepsPieces put bytes = keeps_pieces put 0 Nothing 0 (spelling (logical_of bytes)) ≡ true

-- The bytes of a file of which character `at` comes next, and of which the first `skip` go with one
-- before: the bytes that are no logical character stay, and for each character stands what is put there.
unfoldable pub edited_from : Put → ℕ → ℕ → List ℕ → List ℕ
edited_from put skip at [] = []
edited_from put (suc skip) at (c ∷ cs) = c ∷ edited_from put skip at cs
edited_from put zero at (c ∷ cs) =
    if gone_length c cs == 0 then put at c ++ edited_from put 0 (at + 1) cs else
    c ∷ edited_from put (gone_length c cs - 1) at cs

-- the bytes of a file with what stands for each character
unfoldable pub edited : Put → List ℕ → List ℕ
edited put bytes = edited_from put 0 0 bytes

-- how many characters stand before what stands for character `at` of a text
abbrev pub moved : Put → List ℕ → ℕ → ℕ
moved put text at = length (respell put 0 (take at text))

-- the token of a file with its new spelling, at the place to which it moves
abbrev pub respelled_token : Put → ℕ → List ℕ → Token → Token
respelled_token put file text t =
    token t.kind (respell put t.at.at t.text)
    (origins_from file (moved put text t.at.at) (length (respell put t.at.at t.text))) t.gap
    (pos file (moved put text t.at.at)) t.line t.direct

-- The edited file has the old tokens in order, each with its new spelling, at the place to which it moves,
-- and with the kind, the gap and the line that it had; the same are the first of their lines, and the
-- same comment is open.
abbrev pub EditKeepsTokens : Type 0
EditKeepsTokens = (file : ℕ) (bytes : List ℕ) (put : Put) → KeepsPieces put bytes
    → (tokens_of file (edited put bytes) ≡ map (respelled_token put file (spelling (logical_of bytes))) (tokens_of file bytes))
    × (firsts_of (edited put bytes) ≡ firsts_of bytes)
    × (open_comment_of (edited put bytes) ≡ option_map (moved put (spelling (logical_of bytes))) (open_comment_of bytes))
