-- The units of a workspace, their settings and standards: what contracts see of a `Unit`, and what is true of each.
use Rattle.std.specs.Prelude.{ℕ, Bool, true, false, not, ◌&&◌, ◌||◌, ◌==◌, List, [], ◌∷◌, ◌++◌, IsTrue, length, map, reverse, codes, nat_le}
use Rattle.std.specs.List.{list_all, flat_map}
use Rattle.std.specs.Char.{is_ascii_alphabetic, is_ascii_digit}
use Rattle.std.specs.Str.{bytes_eq, is_utf8}
use Rattle.cs_base.specs.declared.ws_units.Setting.{Setting}
use Rattle.cs_base.specs.declared.ws_units.Setting.TheVariants.{Define, Undefine}
use Rattle.cs_base.specs.declared.ws_units.Standard.{Standard}
use Rattle.cs_base.specs.declared.ws_units.Standard.TheVariants.{C99, C11, Gnu99, Gnu11}
use Rattle.cs_base.specs.Paths.{is_normal}
use Rattle.cs_base.specs.Limits.{most_defines}

abbrev pub line_feed : ℕ
line_feed = 10

abbrev pub backslash : ℕ
backslash = 92

abbrev pub underscore : ℕ
underscore = 95

-- `"`, between which the name of a source file stands in an include line (6.10.2)
abbrev pub quote : ℕ
quote = 34

-- `<`, with which the name of a pseudo file begins
abbrev pub less_sign : ℕ
less_sign = 60

abbrev pub space : ℕ
space = 32

abbrev pub tab : ℕ
tab = 9

abbrev pub carriage_return : ℕ
carriage_return = 13

-- a blank: a space, a tab or a carriage return
abbrev pub is_blank : ℕ → Bool
is_blank b = b == space || b == tab || b == carriage_return

-- the first byte passes the test
abbrev pub begins_with : (ℕ → Bool) → List ℕ → Bool
begins_with test [] = false
begins_with test (b ∷ text) = test b

-- the last byte passes the test
abbrev pub ends_with : (ℕ → Bool) → List ℕ → Bool
ends_with test text = begins_with test (reverse text)

-- Has a blank at its first or last byte, or a backslash at its last.
abbrev pub has_bad_ends : List ℕ → Bool
has_bad_ends text = begins_with is_blank text || ends_with is_blank text || ends_with (λ b. b == backslash) text

-- Can stand in a line of a workspace file: UTF-8 without line feed, with good ends.
unfoldable pub is_writable : List ℕ → Bool
is_writable text = is_utf8 text && list_all (λ b. not (b == line_feed)) text && not (has_bad_ends text)

-- the name of a project: one word
abbrev pub is_project : List ℕ → Bool
is_project name = is_writable name && not (bytes_eq name []) && list_all (λ b. not (is_blank b)) name

-- the path of a unit: normalised, not empty, and no name of a pseudo file
abbrev pub is_unit_path : List ℕ → Bool
is_unit_path path =
    is_writable path && is_normal path && not (bytes_eq path []) && not (begins_with (λ b. b == less_sign) path)

-- a directory of include paths: normalised; the empty one is the directory that the program runs in
abbrev pub is_directory : List ℕ → Bool
is_directory directory = is_writable directory && is_normal directory

-- a file that is included before the unit's own: a path that a unit may have, which an include line can name
abbrev pub is_include : List ℕ → Bool
is_include path = is_unit_path path && list_all (λ b. not (b == quote)) path

-- nondigit (6.4.2.1): a letter or `_`
abbrev pub is_nondigit : ℕ → Bool
is_nondigit c = is_ascii_alphabetic c || c == underscore

-- identifier (6.4.2.1)
abbrev pub is_identifier : List ℕ → Bool
is_identifier name =
    begins_with is_nondigit name && list_all (λ c. is_nondigit c || is_ascii_digit c) name

-- a setting that a line can make
abbrev pub is_setting : Setting → Bool
is_setting (Define rest) = is_writable rest && begins_with is_nondigit rest
is_setting (Undefine name) = is_identifier name

-- the directive that a setting makes (6.10.3, 6.10.3.5)
abbrev pub setting_line : Setting → List ℕ
setting_line (Define rest) = codes "#define " ++ rest
setting_line (Undefine name) = codes "#undef " ++ name

-- the include line of a file that is included before the unit's own (6.10.2)
abbrev pub include_line : List ℕ → List ℕ
include_line path = codes "#include \"" ++ (path ++ quote ∷ [])

-- C as gcc has it, with more than the standard
abbrev pub is_gnu : Standard → Bool
is_gnu C99 = false
is_gnu C11 = false
is_gnu Gnu99 = true
is_gnu Gnu11 = true

-- the line that tells the standard (6.10.8)
abbrev pub version_line : Standard → List ℕ
version_line C99 = codes "#define __STDC_VERSION__ 199901L"
version_line C11 = codes "#define __STDC_VERSION__ 201112L"
version_line Gnu99 = codes "#define __STDC_VERSION__ 199901L"
version_line Gnu11 = codes "#define __STDC_VERSION__ 201112L"

-- what gcc defines more: `_Pragma`, an operator whose operand says nothing here (6.10.9), and two words of conditions
abbrev pub gnu_lines : List (List ℕ)
gnu_lines =
    codes "#define _Pragma(__text)" ∷ codes "#define __has_include __has_include"
    ∷ codes "#define __has_include_next __has_include_next" ∷ []

-- the lines that a unit of this standard has more than the standard's own
abbrev pub added_lines : Standard → List (List ℕ)
added_lines C99 = []
added_lines C11 = []
added_lines Gnu99 = gnu_lines
added_lines Gnu11 = gnu_lines

-- the lines that the pseudo file `<defines N>` of a unit of this standard begins with (6.10.8)
unfoldable pub fixed_lines : Standard → List (List ℕ)
fixed_lines standard =
    codes "#define __STDC__ 1" ∷ codes "#define __STDC_HOSTED__ 1" ∷ version_line standard
    ∷ codes "#define __DATE__ \"Jan  1 1970\"" ∷ codes "#define __TIME__ \"00:00:00\"" ∷ added_lines standard

-- a line with its line feed
abbrev pub ended_line : List ℕ → List ℕ
ended_line line = line ++ line_feed ∷ []

-- The text of a unit's pseudo file: the fixed lines, one line for each setting in force, and one for each file that is
-- included before the unit's own.
unfoldable pub defines_text : Standard → List Setting → List (List ℕ) → List ℕ
defines_text standard settings includes =
    flat_map ended_line (fixed_lines standard ++ (map setting_line settings ++ map include_line includes))

-- no more than 2^16 bytes of pseudo file
unfoldable pub defines_fit : Standard → List Setting → List (List ℕ) → Bool
defines_fit standard settings includes = nat_le (length (defines_text standard settings includes)) most_defines

-- A unit: its project, the path of its main source file, the directories that its includes are looked for in (`qpath`
-- by quoted names alone, and before `ipath`), the settings that hold in it and the files that are included before its
-- own, all in order, and its standard.
pub record UnitValue : Type 0 where
  pub project : List ℕ
  pub path : List ℕ
  pub qpath : List (List ℕ)
  pub ipath : List (List ℕ)
  pub settings : List Setting
  pub includes : List (List ℕ)
  pub standard : Standard

-- a unit of these parts
abbrev pub unit : List ℕ → List ℕ → List (List ℕ) → List (List ℕ) → List Setting → List (List ℕ) → Standard → UnitValue
unit project path qpath ipath settings includes standard = record {
  project = project;
  path = path;
  qpath = qpath;
  ipath = ipath;
  settings = settings;
  includes = includes;
  standard = standard;
}

-- the text of its pseudo file
abbrev pub defines_of : UnitValue → List ℕ
defines_of u = defines_text u.standard u.settings u.includes

-- What is true of every unit.
pub record IsUnit (u : UnitValue) : Type 0 where
  pub is_named : IsTrue (is_project u.project)
  pub is_placed : IsTrue (is_unit_path u.path)
  pub are_quoted_directories : IsTrue (list_all is_directory u.qpath)
  pub are_directories : IsTrue (list_all is_directory u.ipath)
  pub are_settings : IsTrue (list_all is_setting u.settings)
  pub are_includes : IsTrue (list_all is_include u.includes)
  pub fits : IsTrue (defines_fit u.standard u.settings u.includes)
