-- A workspace: what contracts see of a `Workspace`, and what is true of each.
use Rattle.std.specs.Prelude.{ℕ, Bool, not, ◌&&◌, ◌≤◌, List, [], IsTrue, length, All}
use Rattle.std.specs.List.{list_all}
use Rattle.std.specs.Str.{bytes_eq}
use Rattle.cs_base.specs.Units.{UnitValue, IsUnit, is_writable}
use Rattle.cs_base.specs.Limits.{most_units}

-- A workspace: its units in order, numbered from 1, and the prefixes of read-only paths.
pub record WorkspaceValue : Type 0 where
  pub units : List UnitValue
  pub readonly : List (List ℕ)

-- a workspace of these parts
abbrev pub workspace : List UnitValue → List (List ℕ) → WorkspaceValue
workspace units readonly = record { units = units; readonly = readonly }

-- a prefix of read-only paths, as written
abbrev pub is_prefix : List ℕ → Bool
is_prefix prefix = is_writable prefix && not (bytes_eq prefix [])

-- What is true of every workspace.
pub record IsWorkspace (ws : WorkspaceValue) : Type 0 where
  pub are_few : length ws.units ≤ most_units
  pub are_units : All IsUnit ws.units
  pub are_prefixes : IsTrue (list_all is_prefix ws.readonly)
