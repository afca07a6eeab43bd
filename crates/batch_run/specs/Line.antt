-- A line of a batch file: what contracts see of a `BatchLine` (this project's own).
use Rattle.std.specs.Prelude.{ℕ, Bool, List}

-- A line that asks for a rename: the path of a place in its normal form, its line and column, the new name, and whether
-- strings that `#` makes may follow the renaming.
pub record LineValue : Type 0 where
  pub path : List ℕ
  pub line : ℕ
  pub column : ℕ
  pub name : List ℕ
  pub strings : Bool

-- a line of these parts
abbrev pub line_value : List ℕ → ℕ → ℕ → List ℕ → Bool → LineValue
line_value path line column name strings = record { path = path; line = line; column = column; name = name; strings = strings }
