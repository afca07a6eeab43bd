-- What the words after the program's name ask for.
use Rattle.std.specs.Prelude.{ℕ, ◌+◌, ◌-◌, ◌*◌, Bool, true, false, ◌&&◌, ◌==◌, not, List, [], ◌∷◌, Option, None, Some, codes, fold, length, map, bytes_eq, nat_le, nat_lt, if◌then◌else◌}
use Rattle.std.specs.Char.{is_ascii_digit}
use Rattle.std.specs.List.{list_all, slice_split}
use Rattle.std.specs.Option.{option_map}
use Rattle.std.specs.Str.{byte}
use Rattle.cs_base.specs.Paths.{normal_path_of}

-- A rename: the place, the new name, and whether strings that `#` makes may follow the renaming.
pub record RenameValue : Type 0 where
  pub path : List ℕ
  pub line : ℕ
  pub column : ℕ
  pub name : List ℕ
  pub strings : Bool

-- a rename of these parts
abbrev pub rename : List ℕ → ℕ → ℕ → List ℕ → Bool → RenameValue
rename path line column name strings = record { path = path; line = line; column = column; name = name; strings = strings }

-- A new order of parameters: the place, and the order.
pub record TemplateValue : Type 0 where
  pub path : List ℕ
  pub line : ℕ
  pub column : ℕ
  pub order : List ℕ

-- such an order of these parts
abbrev pub template_at : List ℕ → ℕ → ℕ → List ℕ → TemplateValue
template_at path line column order = record { path = path; line = line; column = column; order = order }

-- A report on the class of a name: the place.
pub record ClassValue : Type 0 where
  pub path : List ℕ
  pub line : ℕ
  pub column : ℕ

-- such a report of these parts
abbrev pub class_at : List ℕ → ℕ → ℕ → ClassValue
class_at path line column = record { path = path; line = line; column = column }

-- ---- what the program can be asked for

-- An edit over an analysis: each changes files.
pub data EditValue : Type 0 where
  rename_asked : RenameValue → EditValue
  template_asked : TemplateValue → EditValue
  macro_asked : TemplateValue → EditValue

-- A report on an analysis: each writes a text. That of `find` has its query.
pub data ReportValue : Type 0 where
  class_asked : ClassValue → ReportValue
  unused_asked : ReportValue
  includes_asked : ReportValue
  calls_asked : ReportValue
  find_asked : List ℕ → ReportValue

-- What is asked over a workspace: the tokens of the unit of a number, its skipped groups, a check of its units, a report, an edit, a trim, which may
-- tell what stays, or the lines of a batch file.
pub data AskValue : Type 0 where
  tokens_asked : ℕ → AskValue
  skipped_asked : AskValue
  check_asked : AskValue
  report_asked : ReportValue → AskValue
  edit_asked : EditValue → AskValue
  trim_asked : Bool → AskValue
  batch_asked : List ℕ → AskValue

-- What words ask for: a text of the program's own, the size of a generated workspace of so many units, or an ask over the
-- workspace of a workspace file.
pub data RequestValue : Type 0 where
  help_asked : RequestValue
  version_asked : RequestValue
  generated_asked : ℕ → RequestValue
  asked_over : List ℕ → AskValue → RequestValue

-- ---- numbers and orders in words

-- the number that decimal digits spell
abbrev pub number_of : List ℕ → ℕ
number_of digits = fold (λ n digit. 10 * n + (digit - byte "0")) 0 digits

-- the first byte is the digit 0
abbrev pub begins_with_zero : List ℕ → Bool
begins_with_zero [] = false
begins_with_zero (b ∷ word) = b == byte "0"

-- only decimal digits
abbrev pub are_digits : List ℕ → Bool
are_digits word = list_all is_ascii_digit word

-- one to nine decimal digits, the first not 0
abbrev pub is_number : List ℕ → Bool
is_number word =
    are_digits word && not (begins_with_zero word) && nat_lt 0 (length word) && nat_le (length word) 9

-- the number that a word is, and 0 for another word
abbrev pub number_or_zero : List ℕ → ℕ
number_or_zero word = if is_number word then number_of word else 0

-- an order in words: numbers joined by commas. What is no number counts as 0, which stands in no order.
abbrev pub order_of : List ℕ → List ℕ
order_of word = map number_or_zero (slice_split (λ b. b == byte ",") word)

-- ---- commands, by the words behind their name

-- a rename's words: its two numbers are numbers, and the path is taken in its normal form
abbrev pub rename_of : List ℕ → List ℕ → List ℕ → List ℕ → Bool → Option AskValue
rename_of path line column name strings =
    if is_number line && is_number column
    then Some (edit_asked (rename_asked (rename (normal_path_of path) (number_of line) (number_of column) name strings)))
    else None

-- the words of a new order of parameters: as those of a rename, and an order
abbrev pub template_of : List ℕ → List ℕ → List ℕ → List ℕ → Option AskValue
template_of path line column order =
    if is_number line && is_number column
    then Some (edit_asked (template_asked (template_at (normal_path_of path) (number_of line) (number_of column) (order_of order))))
    else None

-- the words of a new order of a macro's parameters: the same
abbrev pub macro_of : List ℕ → List ℕ → List ℕ → List ℕ → Option AskValue
macro_of path line column order =
    if is_number line && is_number column
    then Some (edit_asked (macro_asked (template_at (normal_path_of path) (number_of line) (number_of column) (order_of order))))
    else None

-- the words of a report on a class: as those of a rename
abbrev pub class_report_of : List ℕ → List ℕ → List ℕ → Option AskValue
class_report_of path line column =
    if is_number line && is_number column
    then Some (report_asked (class_asked (class_at (normal_path_of path) (number_of line) (number_of column))))
    else None

-- a command alone
abbrev pub command_alone : List ℕ → Option AskValue
command_alone command =
    if bytes_eq command (codes "skipped") then Some skipped_asked
    else (if bytes_eq command (codes "check") then Some check_asked
    else (if bytes_eq command (codes "unused") then Some (report_asked unused_asked)
    else (if bytes_eq command (codes "includes") then Some (report_asked includes_asked)
    else (if bytes_eq command (codes "calls") then Some (report_asked calls_asked)
    else (if bytes_eq command (codes "trim") then Some (trim_asked false) else None)))))

-- a command, and a query or a batch file, which is any word, or the word `stays`
abbrev pub command_with_word : List ℕ → List ℕ → Option AskValue
command_with_word command word =
    if bytes_eq command (codes "find") then Some (report_asked (find_asked word))
    else (if bytes_eq command (codes "batch") then Some (batch_asked word)
    else (if bytes_eq command (codes "trim") && bytes_eq word (codes "stays") then Some (trim_asked true) else None))

-- a command, and the number of a unit or another word
abbrev pub command_with_unit : List ℕ → List ℕ → Option AskValue
command_with_unit command unit =
    if bytes_eq command (codes "tokens") && is_number unit then Some (tokens_asked (number_of unit)) else command_with_word command unit

-- a command and a place
abbrev pub command_at_place : List ℕ → List ℕ → List ℕ → List ℕ → Option AskValue
command_at_place command path line column =
    if bytes_eq command (codes "class") then class_report_of path line column else None

-- a command, a place, and a name or an order
abbrev pub command_with_name : List ℕ → List ℕ → List ℕ → List ℕ → List ℕ → Option AskValue
command_with_name command path line column name =
    if bytes_eq command (codes "rename") then rename_of path line column name false
    else (if bytes_eq command (codes "template") then template_of path line column name
    else (if bytes_eq command (codes "macro") then macro_of path line column name else None))

-- the words of a rename, and the word `strings`
abbrev pub command_with_strings : List ℕ → List ℕ → List ℕ → List ℕ → List ℕ → List ℕ → Option AskValue
command_with_strings command path line column name word =
    if bytes_eq command (codes "rename") && bytes_eq word (codes "strings") then rename_of path line column name true else None

-- ---- all words

-- a word that stands alone
abbrev pub alone_of : List ℕ → Option RequestValue
alone_of word =
    if bytes_eq word (codes "--help") then Some help_asked
    else (if bytes_eq word (codes "--version") then Some version_asked else None)

-- how many units a generated workspace may have: 1 to 1,024
abbrev pub is_size : List ℕ → Bool
is_size word = is_number word && nat_le (number_of word) 1024

-- what is asked over the workspace of this file, or none
abbrev pub over_file : List ℕ → Option AskValue → Option RequestValue
over_file ws ask = option_map (asked_over ws) ask

-- two words: `generate` and a number, or the workspace file and a command
abbrev pub two_words_of : List ℕ → List ℕ → Option RequestValue
two_words_of ws command =
    if bytes_eq ws (codes "generate") && is_size command
    then Some (generated_asked (number_of command))
    else over_file ws (command_alone command)

-- the request of these words, or none where they are of no form
abbrev pub asked : List (List ℕ) → Option RequestValue
asked (word ∷ []) = alone_of word
asked (ws ∷ command ∷ []) = two_words_of ws command
asked (ws ∷ command ∷ word ∷ []) = over_file ws (command_with_unit command word)
asked (ws ∷ command ∷ path ∷ line ∷ column ∷ []) = over_file ws (command_at_place command path line column)
asked (ws ∷ command ∷ path ∷ line ∷ column ∷ name ∷ []) = over_file ws (command_with_name command path line column name)
asked (ws ∷ command ∷ path ∷ line ∷ column ∷ name ∷ word ∷ []) =
    over_file ws (command_with_strings command path line column name word)
asked words = None
