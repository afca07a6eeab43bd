-- The diff of one file as text, in the unified format of diff, which `patch` and `git apply` read.
use Rattle.std.specs.Prelude.{ℕ, ◌+◌, ◌/◌, ◌%◌, ◌==◌, ◌||◌, nat_lt, if◌then◌else◌, Bool, List, [], ◌∷◌, ◌++◌, codes, decimal, length}
use Rattle.std.specs.List.{flat_map, list_any}
use Rattle.std.specs.Str.{bytes_eq}
use Rattle.cs_base.specs.Units.{backslash, begins_with, ends_with, line_feed, quote, space, tab}
use Rattle.line_diff.specs.Hunks.{Entry, keeps, loses, gets, Hunk, old_lines, new_lines, hunks_of}

-- a line with its line feed
abbrev pub has_feed : List ℕ → Bool
has_feed line = ends_with (λ b. b == line_feed) line

-- what is said behind a line that lacks its line feed
abbrev pub note_text : List ℕ → List ℕ
note_text line = if has_feed line then [] else codes "\n\\ No newline at end of file\n"

-- a line behind its sign
abbrev pub signed : List ℕ → List ℕ → List ℕ
signed sign line = (sign ++ line) ++ note_text line

-- the line of an entry
abbrev pub entry_text : Entry → List ℕ
entry_text (keeps line) = signed (codes " ") line
entry_text (loses line) = signed (codes "-") line
entry_text (gets line) = signed (codes "+") line

-- `START,COUNT` of one side of a hunk: the number of its first line there; where it has none, that of the line before
abbrev pub range_text : ℕ → ℕ → List ℕ
range_text before count = decimal (if count == 0 then before else before + 1) ++ codes "," ++ decimal count

-- a hunk: its ranges in both texts, and its entries
abbrev pub hunk_text : Hunk → List ℕ
hunk_text h =
    codes "@@ -" ++ range_text h.old_before (length (old_lines h.entries)) ++ codes " +"
    ++ range_text h.new_before (length (new_lines h.entries)) ++ codes " @@\n" ++ flat_map entry_text h.entries

-- a byte that no line of a diff can have in a name, which is then said between quotes
abbrev pub is_odd : ℕ → Bool
is_odd b = nat_lt b 32 || b == 127

-- a byte between quotes, in three octal digits where it is not plain
abbrev pub octal : ℕ → List ℕ
octal b = backslash ∷ (48 + b / 64) ∷ (48 + b / 8 % 8) ∷ (48 + b % 8) ∷ []

abbrev pub quoted_byte : ℕ → List ℕ
quoted_byte b = if is_odd b || nat_lt 127 b || b == quote || b == backslash then octal b else b ∷ []

-- a name that stands between quotes: it has an odd byte or begins with a quote
abbrev pub wants_quotes : List ℕ → Bool
wants_quotes path = begins_with (λ b. b == quote) path || list_any is_odd path

abbrev pub quoted_text : List ℕ → List ℕ
quoted_text path = (quote ∷ flat_map quoted_byte path) ++ quote ∷ []

-- The name of a file in a diff; a tab ends it where it has a blank.
abbrev pub name_text : List ℕ → List ℕ
name_text path =
    if wants_quotes path then quoted_text path else (if list_any (λ b. b == space) path then path ++ tab ∷ [] else path)

-- the two lines that name a file
abbrev pub names_text : List ℕ → List ℕ
names_text path = codes "--- " ++ name_text path ++ codes "\n+++ " ++ name_text path ++ codes "\n"

-- The diff of a file: nothing where its text stays.
unfoldable pub file_text : List ℕ → List ℕ → List ℕ → List ℕ
file_text path old new = if bytes_eq old new then [] else names_text path ++ flat_map hunk_text (hunks_of old new)
