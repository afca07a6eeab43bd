-- Reading a batch file, line by line (this project's own).
use Rattle.std.specs.Prelude.{ℕ, Bool, true, false, not, ◌&&◌, ◌||◌, ◌==◌, ◌+◌, ◌-◌, List, [], ◌∷◌, ◌++◌, Option, None, Some, Result, Ok, Err, length, take, codes, nat_lt, if◌then◌else◌}
use Rattle.std.specs.List.{slice_split}
use Rattle.std.specs.Str.{bytes_eq, is_utf8}
use Rattle.cs_base.specs.Paths.{normal_path_of}
use Rattle.cs_base.specs.Units.{ends_with}
use Rattle.cs_base.specs.Limits.{most_bytes}
use Rattle.ws_file.specs.Lines.{lines_of}
use Rattle.command_words.specs.Request.{is_number, number_of}
use Rattle.batch_run.specs.Line.{LineValue, line_value}

-- what separates the words of a line, and what may stand before its line feed
abbrev pub space : ℕ
space = 32

abbrev pub carriage_return : ℕ
carriage_return = 13

-- the words of a line: what stands before, between and after its spaces
abbrev pub words_of : List ℕ → List (List ℕ)
words_of line = slice_split (λ b. b == space) line

-- a word that is there
abbrev pub is_some_word : List ℕ → Bool
is_some_word word = not (bytes_eq word [])

-- the rename of these words: its path and its name are there, and its numbers are numbers
abbrev pub renaming_of : List ℕ → List ℕ → List ℕ → List ℕ → Bool → Option LineValue
renaming_of path line column name strings =
    if is_some_word path && is_number line && is_number column && is_some_word name
    then Some (line_value (normal_path_of path) (number_of line) (number_of column) name strings)
    else None

-- the rename that the words of a line ask for, the last of six being `strings`; none where they are of another form
unfoldable pub asked_by : List (List ℕ) → Option LineValue
asked_by (command ∷ path ∷ line ∷ column ∷ name ∷ []) =
    if bytes_eq command (codes "rename") then renaming_of path line column name false else None
asked_by (command ∷ path ∷ line ∷ column ∷ name ∷ word ∷ []) =
    if bytes_eq command (codes "rename") && bytes_eq word (codes "strings") then renaming_of path line column name true else None
asked_by words = None

-- a line that a line feed ends lacks the carriage return before that
abbrev pub without_return : Bool → List ℕ → List ℕ
without_return ended line =
    if ended && ends_with (λ b. b == carriage_return) line then take (length line - 1) line else line

-- A line that begins at this byte of a file of this size; none where it is bad: it ends past byte 2^22 of the file,
-- or is no UTF-8, or asks for nothing. All but the last line of a file end before its last byte.
unfoldable pub line_at : ℕ → ℕ → List ℕ → Option LineValue
line_at size start line =
    if nat_lt most_bytes (start + length line) || not (is_utf8 line) then None
    else asked_by (words_of (without_return (nat_lt (start + length line) size) line))

-- the lines taken once the line of this number follows: a bad one is named
abbrev pub taken_with : ℕ → List LineValue → Option LineValue → Result (List LineValue) ℕ
taken_with number taken None = Err number
taken_with number taken (Some value) = Ok (taken ++ value ∷ [])

-- The lines from this one on, behind those taken so far; or the number of the first bad one.
unfoldable pub read_lines : ℕ → ℕ → ℕ → List (List ℕ) → List LineValue → Result (List LineValue) ℕ
read_lines size number start [] taken = Ok taken
read_lines size number start (line ∷ lines) taken =
    elim (taken_with number taken (line_at size start line)) [
      | Ok now ↦ read_lines size (number + 1) (start + length line + 1) lines now
      | Err bad ↦ Err bad
    ]

-- the lines of a batch file, or the number of the first bad one, from 1
unfoldable pub batch_of : List ℕ → Result (List LineValue) ℕ
batch_of bytes = read_lines (length bytes) 1 0 (lines_of bytes) []
