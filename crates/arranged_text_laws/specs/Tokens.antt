-- The tokens of a file in which the items of lists change places (this project's, over ISO/IEC 9899:1999, 5.1.1.2 phase 3).
use Rattle.std.specs.Prelude.{◌≡◌, ℕ, Bool, false, List, length, map, None}
use Rattle.cs_base.specs.Token.{Token, token}
use Rattle.lexer.specs.Logical.{logical_of}
use Rattle.lexer.specs.Places.{pos, origins_from}
use Rattle.lexer.specs.Tokens.{tokens_of, firsts_of, open_comment_of}
use Rattle.list_cuts.specs.Cuts.{Cut, IsOrder, arranged, AreOf}
use Rattle.arranged_text_laws.specs.Labels.{masked}
use Rattle.arranged_text_laws.specs.Outside.{SameOutside}
use Rattle.arranged_text_laws.specs.Arranging.{character_cut, token_cut, place_in, line_in, MayMove}

-- the cut of a file's tokens, by that of its bytes
abbrev pub cut_in : ℕ → Cut → List ℕ → Cut
cut_in file c bytes = token_cut file (character_cut c bytes) bytes

-- a token of a file, with its first character at another place, and in another line
abbrev pub moved_token : (ℕ → ℕ) → (ℕ → ℕ) → Token → Token
moved_token place line t =
    token t.kind t.text (origins_from t.at.file (place t.at.at) (length t.text)) t.gap (pos t.at.file (place t.at.at)) (line t.at.at) t.direct

-- a token where it goes
abbrev pub token_there : List ℕ → Cut → List ℕ → Token → Token
token_there order c bytes t = moved_token (place_in order c bytes) (line_in order c bytes) t

-- but for whether white space stands before it
abbrev pub without_gap : Token → Token
without_gap t = record t { gap = false }

abbrev pub not_first : Bool → Bool
not_first first = false

-- The tokens of the file with its items in the new order, and for each whether it is the first of its line: they are those of
-- the file, each where it goes, but for white space before the first of an item, and whether it is the first of its line.
-- Outside of lists all stay. No comment is open.
pub record TokensAreArranged (order : List ℕ) (c : Cut) (file : ℕ) (bytes : List ℕ) : Type 0 where
  pub toks : List Token
  pub firsts : List Bool
  pub tokens : tokens_of file (arranged order c bytes) ≡ arranged order (cut_in file c bytes) toks
  pub first : firsts_of (arranged order c bytes) ≡ arranged order (cut_in file c bytes) firsts
  pub shut : open_comment_of (arranged order c bytes) ≡ None
  pub size : length (arranged order c bytes) ≡ length bytes
  pub characters : length (logical_of (arranged order c bytes)) ≡ length (logical_of bytes)
  pub alike : masked without_gap (cut_in file c bytes) toks ≡ masked without_gap (cut_in file c bytes) (map (token_there order c bytes) (tokens_of file bytes))
  pub firsts_alike : masked not_first (cut_in file c bytes) firsts ≡ masked not_first (cut_in file c bytes) (firsts_of bytes)
  pub outside : SameOutside (cut_in file c bytes) (map (token_there order c bytes) (tokens_of file bytes)) (tokens_of file bytes)

-- The law.
abbrev pub TokensOfFilesAreArranged : Type 0
TokensOfFilesAreArranged = (n : ℕ) (order : List ℕ) (c : Cut) (file : ℕ) (bytes : List ℕ) → IsOrder n order → AreOf n c → MayMove c bytes
    → open_comment_of bytes ≡ None → TokensAreArranged order c file bytes
