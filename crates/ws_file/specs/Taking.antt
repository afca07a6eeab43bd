-- What the reader's steps promise each other.
use Rattle.std.specs.Prelude.{◌≡◌, ℕ, Bool, true, false, not, ◌==◌, ◌+◌, List, [], ◌∷◌, Option, None, Some, IsTrue, All, length, if◌then◌else◌}
use Rattle.std.specs.List.{list_all}
use Rattle.std.specs.Str.{is_utf8}
use Rattle.cs_base.specs.declared.ws_units.Setting.{Setting}
use Rattle.cs_base.specs.declared.ws_units.Standard.{Standard}
use Rattle.cs_base.specs.Units.{IsUnit, line_feed, is_blank, begins_with, ends_with, is_gnu, is_project, is_directory, is_setting, is_include, setting_line, include_line}
use Rattle.ws_file.specs.Workspace.{is_prefix}
use Rattle.ws_file.specs.Reading.{Reading}

-- The line was taken, and this is the reading after it; or it is bad.
abbrev pub Takes : Option Reading → Bool → Reading → Type 0
Takes expected true now = expected ≡ Some now
Takes expected false now = expected ≡ None

-- What is true of every reading.
pub record IsReading (r : Reading) : Type 0 where
  pub is_named : IsTrue (is_project r.project)
  pub are_quoted_directories : IsTrue (list_all is_directory r.qpath)
  pub are_directories : IsTrue (list_all is_directory r.ipath)
  pub are_settings : IsTrue (list_all is_setting r.settings)
  pub are_includes : IsTrue (list_all is_include r.includes)
  pub are_units : All IsUnit r.units
  pub are_prefixes : IsTrue (list_all is_prefix r.readonly)

abbrev pub is_no_feed : ℕ → Bool
is_no_feed b = not (b == line_feed)

-- a text without line feed
abbrev pub has_no_feed : List ℕ → Bool
has_no_feed text = list_all is_no_feed text

-- What is true of a line without the blanks at its ends.
pub record IsTrimmed (text : List ℕ) : Type 0 where
  pub utf8 : IsTrue (is_utf8 text)
  pub one_line : IsTrue (has_no_feed text)
  pub first : begins_with is_blank text ≡ false
  pub last : ends_with is_blank text ≡ false

-- the bytes of a setting's line, with its line feed
abbrev pub setting_len : Setting → ℕ
setting_len s = length (setting_line s) + 1

-- the bytes of the include line of a file, with its line feed
abbrev pub include_len : List ℕ → ℕ
include_len path = length (include_line path) + 1

-- these lengths of all together
abbrev pub lengths : {X : Type 0} → (X → ℕ) → List X → ℕ
lengths len [] = 0
lengths len (x ∷ xs) = len x + lengths len xs

-- the bytes of the lines that a unit of this standard has before its settings
abbrev pub fixed_len : Standard → ℕ
fixed_len standard = if is_gnu standard then 243 else 137
