-- The text of a workspace file that says what a workspace is.
use Rattle.std.specs.Prelude.{ℕ, List, [], ◌∷◌, ◌++◌, map, codes, if◌then◌else◌}
use Rattle.std.specs.List.{flat_map}
use Rattle.std.specs.Str.{bytes_eq}
use Rattle.cs_base.specs.declared.ws_units.Setting.{Setting}
use Rattle.cs_base.specs.declared.ws_units.Setting.TheVariants.{Define, Undefine}
use Rattle.cs_base.specs.declared.ws_units.Standard.{Standard}
use Rattle.cs_base.specs.declared.ws_units.Standard.TheVariants.{C99, C11, Gnu99, Gnu11}
use Rattle.cs_base.specs.Units.{UnitValue, ended_line}
use Rattle.ws_file.specs.Workspace.{WorkspaceValue}

-- the line of a prefix of read-only paths
abbrev pub readonly_line : List ℕ → List ℕ
readonly_line prefix = codes "readonly " ++ prefix

-- the line of a project
abbrev pub project_line : List ℕ → List ℕ
project_line name = codes "project " ++ name

-- the line of a standard; C99 needs none
abbrev pub standard_lines : Standard → List (List ℕ)
standard_lines C99 = []
standard_lines C11 = codes "standard c11" ∷ []
standard_lines Gnu99 = codes "standard gnu99" ∷ []
standard_lines Gnu11 = codes "standard gnu11" ∷ []

-- the line of a directory of quoted names; the empty one is `.`
abbrev pub qpath_line : List ℕ → List ℕ
qpath_line directory = codes "qpath " ++ (if bytes_eq directory [] then codes "." else directory)

-- the line of a directory; the empty one is `.`
abbrev pub ipath_line : List ℕ → List ℕ
ipath_line directory = codes "ipath " ++ (if bytes_eq directory [] then codes "." else directory)

-- the line of a setting
abbrev pub define_line : Setting → List ℕ
define_line (Define rest) = codes "define " ++ rest
define_line (Undefine name) = codes "undefine " ++ name

-- the line of a file that is included before the unit's own
abbrev pub included_line : List ℕ → List ℕ
included_line path = codes "include " ++ path

-- the line of a unit's path
abbrev pub file_line : List ℕ → List ℕ
file_line path = codes "file " ++ path

-- the lines of a unit: its project, standard, include paths, settings and first includes, and then its path
unfoldable pub unit_lines : UnitValue → List (List ℕ)
unit_lines u =
    project_line u.project
    ∷ (standard_lines u.standard ++ (map qpath_line u.qpath ++ (map ipath_line u.ipath
    ++ (map define_line u.settings ++ (map included_line u.includes ++ file_line u.path ∷ [])))))

-- the lines of a workspace: its prefixes, and then its units
unfoldable pub workspace_lines : WorkspaceValue → List (List ℕ)
workspace_lines ws = map readonly_line ws.readonly ++ flat_map unit_lines ws.units

-- the text of these lines, each with its line feed
abbrev pub lines_text : List (List ℕ) → List ℕ
lines_text lines = flat_map ended_line lines

-- the text of a workspace
unfoldable pub workspace_text : WorkspaceValue → List ℕ
workspace_text ws = lines_text (workspace_lines ws)
