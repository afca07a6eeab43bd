-- Reading a workspace file, line by line.
use Rattle.std.specs.Prelude.{ℕ, Bool, not, ◌||◌, ◌==◌, ◌+◌, List, [], ◌∷◌, ◌++◌, Option, None, Some, Result, Ok, Err, length, codes, nat_lt, if◌then◌else◌}
use Rattle.std.specs.List.{list_all}
use Rattle.std.specs.Str.{bytes_eq, is_utf8}
use Rattle.cs_base.specs.declared.ws_units.Setting.{Setting}
use Rattle.cs_base.specs.declared.ws_units.Setting.TheVariants as setting
use Rattle.cs_base.specs.declared.ws_units.Standard.{Standard as Language}
use Rattle.cs_base.specs.declared.ws_units.Standard.TheVariants.{C99, C11, Gnu99, Gnu11}
use Rattle.cs_base.specs.Paths.{normal_path_of}
use Rattle.cs_base.specs.Units.{UnitValue, unit, backslash, quote, less_sign, is_blank, begins_with, ends_with, has_bad_ends, is_nondigit, is_identifier, defines_fit}
use Rattle.cs_base.specs.Limits.{most_bytes, most_units}
use Rattle.ws_file.specs.declared.words.LineWord.{LineWord}
use Rattle.ws_file.specs.declared.words.LineWord.TheVariants.{Project, Standard, Qpath, Ipath, Readonly, Define, Undefine, Include, File, Other}
use Rattle.ws_file.specs.Workspace.{WorkspaceValue, workspace}
use Rattle.ws_file.specs.Lines.{lines_of, trimmed, first_word, rest_of, line_word}

-- What the lines read so far say: the project, include paths, settings and first includes of the next units, the units
-- in order, the prefixes of read-only paths, and the standard of the next units.
pub record Reading : Type 0 where
  pub project : List ℕ
  pub qpath : List (List ℕ)
  pub ipath : List (List ℕ)
  pub settings : List Setting
  pub includes : List (List ℕ)
  pub units : List UnitValue
  pub readonly : List (List ℕ)
  pub standard : Language

-- a reading of these parts
abbrev pub reading : List ℕ → List (List ℕ) → List (List ℕ) → List Setting → List (List ℕ) → List UnitValue → List (List ℕ) → Language → Reading
reading project qpath ipath settings includes units readonly standard = record {
  project = project;
  qpath = qpath;
  ipath = ipath;
  settings = settings;
  includes = includes;
  units = units;
  readonly = readonly;
  standard = standard;
}

-- behind a line of a project: no include path, no setting and no first include yet, and C99
abbrev pub project_begun : List ℕ → List UnitValue → List (List ℕ) → Reading
project_begun name units readonly = reading name [] [] [] [] units readonly C99

-- before the first line
abbrev pub at_first : Reading
at_first = project_begun (codes "default") [] []

-- `project NAME`, one word: later units belong to it
abbrev pub with_project : List ℕ → Reading → Option Reading
with_project name r =
    if list_all (λ b. not (is_blank b)) name then Some (project_begun name r.units r.readonly) else None

-- a standard that holds for later units of the project
abbrev pub of_standard : Language → Reading → Reading
of_standard s r = record r { standard = s }

-- `standard c99`, `standard c11`, `standard gnu99` or `standard gnu11`
abbrev pub with_standard : List ℕ → Reading → Option Reading
with_standard name r =
    if bytes_eq name (codes "c99") then Some (of_standard C99 r)
    else (if bytes_eq name (codes "c11") then Some (of_standard C11 r)
    else (if bytes_eq name (codes "gnu99") then Some (of_standard Gnu99 r)
    else (if bytes_eq name (codes "gnu11") then Some (of_standard Gnu11 r) else None)))

-- `qpath DIR`: a directory for quoted names alone
abbrev pub with_quoted_directory : List ℕ → Reading → Option Reading
with_quoted_directory directory r =
    if has_bad_ends directory then None else Some (record r { qpath = r.qpath ++ directory ∷ [] })

-- `ipath DIR`
abbrev pub with_directory : List ℕ → Reading → Option Reading
with_directory directory r =
    if has_bad_ends directory then None else Some (record r { ipath = r.ipath ++ directory ∷ [] })

-- `readonly PREFIX`
abbrev pub with_prefix : List ℕ → Reading → Option Reading
with_prefix prefix r = Some (record r { readonly = r.readonly ++ prefix ∷ [] })

-- a setting that holds in later units of the project
abbrev pub with_setting : Setting → Reading → Reading
with_setting s r = record r { settings = r.settings ++ s ∷ [] }

-- `define REST`
abbrev pub with_define : List ℕ → Reading → Option Reading
with_define rest r =
    if begins_with is_nondigit rest then Some (with_setting (setting.Define rest) r) else None

-- `undefine NAME`
abbrev pub with_undefine : List ℕ → Reading → Option Reading
with_undefine name r =
    if is_identifier name then Some (with_setting (setting.Undefine name) r) else None

-- a path that no unit may have: empty, like that of a pseudo file, or with bad ends
abbrev pub is_bad_path : List ℕ → Bool
is_bad_path path = bytes_eq path [] || begins_with (λ b. b == less_sign) path || has_bad_ends path

-- a path that no include line can name: one that no unit may have, or with a quote in it
abbrev pub is_bad_include : List ℕ → Bool
is_bad_include path = is_bad_path path || not (list_all (λ b. not (b == quote)) path)

-- `include PATH`: a file that is included before the own ones of later units of the project
abbrev pub with_include : List ℕ → Reading → Option Reading
with_include path r =
    if is_bad_include path then None else Some (record r { includes = r.includes ++ path ∷ [] })

-- `file PATH`: a unit with what is in force
abbrev pub with_unit : List ℕ → Reading → Option Reading
with_unit path r =
    if is_bad_path path || not (defines_fit r.standard r.settings r.includes) then None
    else Some (record r { units = r.units ++ unit r.project path r.qpath r.ipath r.settings r.includes r.standard ∷ [] })

-- a line of this word and rest; none where it is bad
unfoldable pub with_word : LineWord → List ℕ → Reading → Option Reading
with_word Project rest r = with_project rest r
with_word Standard rest r = with_standard rest r
with_word Qpath rest r = with_quoted_directory (normal_path_of rest) r
with_word Ipath rest r = with_directory (normal_path_of rest) r
with_word Readonly rest r = with_prefix rest r
with_word Define rest r = with_define rest r
with_word Undefine rest r = with_undefine rest r
with_word Include rest r = with_include (normal_path_of rest) r
with_word File rest r = with_unit (normal_path_of rest) r
with_word Other rest r = None

-- `#`, with which a comment begins
abbrev pub number_sign : ℕ
number_sign = 35

-- a line that says nothing: it is empty, or `#` is first
abbrev pub is_comment : List ℕ → Bool
is_comment text = bytes_eq text [] || begins_with (λ b. b == number_sign) text

-- a line without the blanks at its ends; none where it is bad
unfoldable pub with_text : List ℕ → Reading → Option Reading
with_text text r =
    if ends_with (λ b. b == backslash) text then None
    else (if is_comment text then Some r
    else (if bytes_eq (rest_of text) [] then None
    else with_word (line_word (first_word text)) (rest_of text) r))

-- A line that begins at this byte of the file; none where it is bad: it ends past byte 2^22 of the file,
-- or is no UTF-8, or says nothing that a line may say.
unfoldable pub with_line : ℕ → List ℕ → Reading → Option Reading
with_line start line r =
    if nat_lt most_bytes (start + length line) || not (is_utf8 line) then None
    else with_text (trimmed line) r

-- Why a file is refused, with the number of the line, from 1.
pub data WsFault : Type 0 where
  bad_line : ℕ → WsFault
  too_many_units : ℕ → WsFault

-- what follows a line of this number: a bad line comes before too many units
abbrev pub checked : ℕ → Option Reading → Result Reading WsFault
checked number None = Err (bad_line number)
checked number (Some r) =
    if nat_lt most_units (length r.units) then Err (too_many_units number) else Ok r

-- the workspace of the lines from this one on, or the first fault
unfoldable pub read_lines : ℕ → ℕ → List (List ℕ) → Reading → Result WorkspaceValue WsFault
read_lines number start [] r = Ok (workspace r.units r.readonly)
read_lines number start (line ∷ lines) r =
    elim (checked number (with_line start line r)) [
      | Ok next ↦ read_lines (number + 1) (start + length line + 1) lines next
      | Err fault ↦ Err fault
    ]

-- the workspace that a file describes, or its first fault
unfoldable pub workspace_of : List ℕ → Result WorkspaceValue WsFault
workspace_of bytes = read_lines 1 0 (lines_of bytes) at_first
