-- Files in which the items of lists change places (this project's, over ISO/IEC 9899:1999, 5.1.1.2 phases 2 and 3): what is
-- found in them is what was found, in the new order.
use Rattle.std.specs.Prelude.{◌≡◌, ◌≤◌, ℕ, true, false, List, length, take, drop, map, get_or}
use Rattle.cs_base.specs.Token.{token}
use Rattle.lexer.specs.Places.{pos, origins_from}
use Rattle.lexer.specs.Tokens.{Found, FoundToken, FoundOpen, found_of}
use Rattle.list_cuts.specs.Cuts.{Cut, extent_of, IsOrder, arranged, moved, AreOf}
use Rattle.arranged_text_laws.specs.Labels.{starts, masked}
use Rattle.arranged_text_laws.specs.Settling.{begins_stop}
use Rattle.arranged_text_laws.specs.Outside.{SameOutside}
use Rattle.arranged_text_laws.specs.Marks.{line_start, Before, before, mark, text, marks_of, brought, with_labels}
use Rattle.arranged_text_laws.specs.Along.{SettlesAlong}
use Rattle.arranged_text_laws.specs.Seams.{kept, is_some_byte, SeamsAlong}
use Rattle.arranged_text_laws.specs.Weighed.{weighed}

-- the cut of a file's characters, by that of its bytes
abbrev pub character_cut : Cut → List ℕ → Cut
character_cut c bytes = weighed c (map length (kept 0 bytes))

-- the cut of what is found in it, by that of its characters
abbrev pub token_cut : ℕ → Cut → List ℕ → Cut
token_cut file c bytes = weighed c (map length (brought file 0 true line_start (marks_of bytes)))

-- what is found, with its character at another place, and another line
abbrev pub moved_found : (ℕ → ℕ) → (ℕ → ℕ) → Found → Found
moved_found place line (FoundToken t first) =
    FoundToken (token t.kind t.text (origins_from t.at.file (place t.at.at) (length t.text)) t.gap (pos t.at.file (place t.at.at)) (line t.at.at) t.direct) first
moved_found place line (FoundOpen at) = FoundOpen (place at)

-- the place to which a character of a file goes
abbrev pub place_in : List ℕ → Cut → List ℕ → ℕ → ℕ
place_in order c bytes at = moved order (character_cut c bytes) (length (marks_of bytes)) at

-- the line to which it goes
abbrev pub line_in : List ℕ → Cut → List ℕ → ℕ → ℕ
line_in order c bytes at = (get_or (marks_of (arranged order c bytes)) (place_in order c bytes at) (mark 0 0 0)).line

-- Each part of the file that the cut leaves whole may stand elsewhere, and something stands behind the last list that ends
-- its tokens.
pub record MayMove (c : Cut) (bytes : List ℕ) : Type 0 where
  pub within : extent_of c ≤ length bytes
  pub seams : SeamsAlong c (take (extent_of c) bytes)
  pub more : starts is_some_byte (drop (extent_of c) bytes) ≡ true
  pub inside : extent_of (character_cut c bytes) ≤ length (marks_of bytes)
  pub end : Before
  pub settles : SettlesAlong (before true true) (character_cut c bytes) (take (extent_of (character_cut c bytes)) (marks_of bytes))
      (text (drop (extent_of (character_cut c bytes)) (marks_of bytes))) end
  pub stop : begins_stop (text (drop (extent_of (character_cut c bytes)) (marks_of bytes))) ≡ true

-- What is found in the file with its items in the new order: it stands where it went, and else is as it was, but that white
-- space may stand before the first of an item, and that it may be the first of its line. Outside of lists all stays.
pub record FileArranged (order : List ℕ) (c : Cut) (file : ℕ) (bytes : List ℕ) : Type 0 where
  pub new : List Found
  pub found : found_of file (arranged order c bytes) ≡ arranged order (token_cut file (character_cut c bytes) bytes) new
  pub alike : masked (with_labels false false) (token_cut file (character_cut c bytes) bytes) new
      ≡ masked (with_labels false false) (token_cut file (character_cut c bytes) bytes)
      (map (moved_found (place_in order c bytes) (line_in order c bytes)) (found_of file bytes))
  pub outside : SameOutside (token_cut file (character_cut c bytes) bytes)
      (map (moved_found (place_in order c bytes) (line_in order c bytes)) (found_of file bytes)) (found_of file bytes)

-- The law.
abbrev pub FilesAreArranged : Type 0
FilesAreArranged = (n : ℕ) (order : List ℕ) (c : Cut) (file : ℕ) (bytes : List ℕ) → IsOrder n order → AreOf n c → MayMove c bytes → FileArranged order c file bytes
