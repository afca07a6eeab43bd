-- The note on words of no form (this project's): the first word that is bad, or what the command takes.
use Rattle.std.specs.Prelude.{ℕ, bytes_eq, if◌then◌else◌, Option, Some, None, List, [], ◌∷◌, codes}
use Rattle.command_words.specs.Message.{message}
use Rattle.command_words.specs.Request.{is_number}
use Rattle.usage_notes.specs.Forms.{form_of, is_edit}

-- A note, in three pieces: some may be empty.
pub record NotePieces : Type 0 where
  pub first : List ℕ
  pub middle : List ℕ
  pub last : List ℕ

abbrev pub note : List ℕ → List ℕ → List ℕ → NotePieces
note first middle last = record { first = first; middle = middle; last = last }

-- its line: `cscout: note: ..`
abbrev pub note_line : NotePieces → List ℕ
note_line n = message (codes "note: " ∷ n.first ∷ n.middle ∷ n.last ∷ [])

-- ---- notes

abbrev pub no_words : NotePieces
no_words = note (codes "no word is given") [] []

abbrev pub no_command : List ℕ → NotePieces
no_command ws = note (codes "no command follows ") ws []

abbrev pub unknown : List ℕ → NotePieces
unknown command = note (codes "there is no command ") command []

abbrev pub takes : List ℕ → List ℕ → NotePieces
takes command form = note command (codes " takes ") form

-- a word that has to be a number; `name` is what the manual calls it
abbrev pub no_number : List ℕ → List ℕ → NotePieces
no_number name word = note name (codes " is a number from 1 to 999999999, and not ") word

abbrev pub no_size : List ℕ → NotePieces
no_size word = note (codes "N is a number from 1 to 1024, and not ") word []

-- a word that has to be another one
abbrev pub no_strings : List ℕ → NotePieces
no_strings word = note (codes "the word behind NAME is strings") (codes ", and not ") word

abbrev pub no_stays : List ℕ → NotePieces
no_stays word = note (codes "the word behind trim is stays") (codes ", and not ") word

-- ---- the words behind a command of this form

-- the line and the column of a place, and the note where both are numbers
abbrev pub at_place : List ℕ → List ℕ → NotePieces → NotePieces
at_place line column rest =
    if is_number line then (if is_number column then rest else no_number (codes "COL") column) else no_number (codes "LINE") line

-- one word
abbrev pub behind_one : List ℕ → List ℕ → List ℕ → NotePieces
behind_one command form word =
    if bytes_eq command (codes "tokens") then no_number (codes "UNIT") word
    else (if bytes_eq command (codes "trim") then no_stays word else takes command form)

-- a place
abbrev pub behind_place : List ℕ → List ℕ → List ℕ → List ℕ → NotePieces
behind_place command form line column =
    if bytes_eq command (codes "class") then at_place line column (takes command form) else takes command form

-- a place, and a name or an order
abbrev pub behind_name : List ℕ → List ℕ → List ℕ → List ℕ → NotePieces
behind_name command form line column =
    if is_edit command then at_place line column (takes command form) else takes command form

-- a place, a name and a word
abbrev pub behind_word : List ℕ → List ℕ → List ℕ → List ℕ → List ℕ → NotePieces
behind_word command form line column word =
    if bytes_eq command (codes "rename") then at_place line column (no_strings word)
    else takes command form

-- by how many they are
abbrev pub behind : List ℕ → List ℕ → List (List ℕ) → NotePieces
behind command form (word ∷ []) = behind_one command form word
behind command form (path ∷ line ∷ column ∷ []) = behind_place command form line column
behind command form (path ∷ line ∷ column ∷ name ∷ []) = behind_name command form line column
behind command form (path ∷ line ∷ column ∷ name ∷ word ∷ []) = behind_word command form line column word
behind command form words = takes command form

-- ---- all words

-- a word in the place of a command: alone behind `generate` it has to be a number
abbrev pub second : List ℕ → List ℕ → NotePieces
second ws command = if bytes_eq ws (codes "generate") then no_size command else unknown command

abbrev pub no_form : List ℕ → List ℕ → List (List ℕ) → NotePieces
no_form ws command [] = second ws command
no_form ws command words = unknown command

abbrev pub with_form : List ℕ → List ℕ → List (List ℕ) → Option (List ℕ) → NotePieces
with_form ws command words None = no_form ws command words
with_form ws command words (Some form) = behind command form words

-- one word
abbrev pub alone : List ℕ → NotePieces
alone ws = if bytes_eq ws (codes "generate") then takes ws (codes "N") else no_command ws

-- The note on words of no form.
abbrev pub note_of : List (List ℕ) → NotePieces
note_of [] = no_words
note_of (ws ∷ []) = alone ws
note_of (ws ∷ command ∷ words) = with_form ws command words (form_of command)

-- the line of that note
abbrev pub usage_note : List (List ℕ) → List ℕ
usage_note words = note_line (note_of words)
