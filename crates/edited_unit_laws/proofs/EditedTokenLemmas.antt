-- The tokens of an edited file, with the new spelling of each by its origins.
use Rattle.std.proofs.Common.{◌≡◌, ℕ, zero, suc, ◌+◌, ◌-◌, Bool, true, ◌==◌, ◌&&◌, List, [], ◌∷◌, ◌++◌, length, map, drop, Option, None, Some, inl, inr, refl, sym, ap, ◌∙◌}
use Rattle.std.proofs.lemmas.Bool.{cases_Bool}
use Rattle.cs_base.specs.declared.positions.Part.{Part}
use Rattle.cs_base.specs.Token.{Token}
use Rattle.lexer.specs.Characters.{line_feed, slash, star, is_white, begins}
use Rattle.lexer.specs.Logical.{Character, logical_of, spelling, line_at}
use Rattle.lexer.specs.Places.{origins_from}
use Rattle.lexer.specs.Respelling.{respell, respelled_token}
use Rattle.lexer.specs.Tokens.{Found, comment_end, comment_or_open, token_piece, piece_of, expects_header, piece_at, piece_length, leaves_gap, line_front_after, found_in, found_from, found_of, tokens_in, tokens_of}
use Rattle.lexer.proofs.EditedBytes.{edit_keeps_tokens}
use Rattle.part_respell.specs.Respelled.{put_of, respelled, spelled_from}
use Rattle.edited_unit_laws.specs.EditedTokens.{edited_token, EditedFilesKeepTokens}

-- ---- origins of file tokens

-- each token has the origins of its characters in the file
abbrev AreTraced : ℕ → List Token → Type 0
AreTraced file [] = Unit {0}
AreTraced file (t ∷ ts) = (t.origins ≡ origins_from file t.at.at (length t.text)) × AreTraced file ts

token_traced : (file line : ℕ) (gap : Bool) (front : _) (at : ℕ) (header : Bool) (text : List ℕ) (rest : List Found)
    → AreTraced file (tokens_in rest) → AreTraced file (tokens_in (found_in file line gap front at text (token_piece header text) ++ rest))
unfolding token_piece
token_traced file line gap front at header text rest h = (refl, h)

comment_traced : (file line : ℕ) (gap : Bool) (front : _) (at : ℕ) (text : List ℕ) (o : Option ℕ) (rest : List Found)
    → AreTraced file (tokens_in rest) → AreTraced file (tokens_in (found_in file line gap front at text (comment_or_open o) ++ rest))
comment_traced file line gap front at text None rest h = h
comment_traced file line gap front at text (Some n) rest h = h

-- what the first piece of a text adds
piece_traced : (file line : ℕ) (gap : Bool) (front : _) (at : ℕ) (header : Bool) (c : ℕ) (cs : List ℕ) (rest : List Found)
    → AreTraced file (tokens_in rest) → AreTraced file (tokens_in (found_in file line gap front at (c ∷ cs) (piece_of header c cs) ++ rest))
unfolding piece_of
piece_traced file line gap front at header c cs rest h = elim (cases_Bool (c == line_feed)) [
  | inl ends ↦ rw ends h
  | inr a ↦ elim (cases_Bool (is_white c)) [
    | inl white ↦ rw (a, white) h
    | inr b ↦ elim (cases_Bool (c == slash && begins slash cs)) [
      | inl line_comment ↦ rw (a, b, line_comment) h
      | inr d ↦ elim (cases_Bool (c == slash && begins star cs)) [
        | inl comment ↦ rw (a, b, d, comment) (comment_traced file line gap front at (c ∷ cs) (comment_end (drop 1 cs)) rest h)
        | inr e ↦ rw (a, b, d, e) (token_traced file line gap front at header (c ∷ cs) rest h)
      ]
    ]
  ]
]

found_traced : (file : ℕ) (bytes : List ℕ) (skip : ℕ) (gap : Bool) (front : _) (at : ℕ) (cs : List Character)
    → AreTraced file (tokens_in (found_from file bytes skip gap front at cs))
unfolding found_from
found_traced file bytes zero gap front at [] = tt
found_traced file bytes (suc skip) gap front at [] = tt
found_traced file bytes (suc skip) gap front at (c ∷ cs) = found_traced file bytes skip gap front (at + 1) cs
found_traced file bytes zero gap front at (c ∷ cs) =
    piece_traced file (line_at bytes c.offset) gap front at (expects_header front) c.byte (spelling cs) _
    (found_traced file bytes (piece_length (length (c ∷ cs)) (piece_at front c cs) - 1) (leaves_gap (piece_at front c cs))
    (line_front_after (spelling (c ∷ cs)) front (piece_at front c cs)) (at + 1) cs)

tokens_traced : (file : ℕ) (bytes : List ℕ) → AreTraced file (tokens_of file bytes)
unfolding tokens_of found_of
tokens_traced file bytes = found_traced file bytes 0 true _ 0 (logical_of bytes)

-- ---- new spellings

-- what stands for the characters of a text, by their places and by their origins
pub respell-spelled : (members : List Part) (name : List ℕ) (file at : ℕ) (text : List ℕ)
    → respell (put_of members name file) at text ≡ spelled_from members name (origins_from file at (length text)) text
unfolding spelled_from
respell-spelled members name file at [] = refl
respell-spelled members name file at (c ∷ text) = rw (respell-spelled members name file (at + 1) text) refl

token-edited : (members : List Part) (name : List ℕ) (file : ℕ) (bytes : List ℕ) (t : Token) → t.origins ≡ origins_from file t.at.at (length t.text)
    → respelled_token (put_of members name file) file (spelling (logical_of bytes)) t ≡ edited_token members name file bytes t
token-edited members name file bytes t traced =
    let same : respell (put_of members name file) t.at.at t.text ≡ spelled_from members name t.origins t.text =
    respell-spelled members name file t.at.at t.text ∙ ap (λ origins. spelled_from members name origins t.text) (sym traced) in
    rw same refl

tokens-edited : (members : List Part) (name : List ℕ) (file : ℕ) (bytes : List ℕ) (ts : List Token) → AreTraced file ts
    → map (respelled_token (put_of members name file) file (spelling (logical_of bytes))) ts ≡ map (edited_token members name file bytes) ts
tokens-edited members name file bytes [] traced = refl
tokens-edited members name file bytes (t ∷ ts) traced =
    rw (token-edited members name file bytes t traced.0, tokens-edited members name file bytes ts traced.1) refl

pub edited_files_keep_tokens : EditedFilesKeepTokens
unfolding respelled
edited_files_keep_tokens members name file bytes keeps =
    let all = edit_keeps_tokens file bytes (put_of members name file) keeps in
    (all.0 ∙ tokens-edited members name file bytes (tokens_of file bytes) (tokens_traced file bytes), all.1, all.2)
