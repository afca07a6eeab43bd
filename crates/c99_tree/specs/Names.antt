-- Visible ordinary names (ISO/IEC 9899:1999, 6.2.1): which of them are typedef names.
use Rattle.std.specs.Prelude.{ℕ, Bool, false, List, [], ◌∷◌, Option, None, Some, if◌then◌else◌, unwrap_or}
use Rattle.std.specs.Str.{bytes_eq}

-- a declaration of an ordinary identifier: its spelling, and whether it declares a typedef name (6.7.7)
pub record Declared : Type 0 where
  pub name : List ℕ
  pub typedef : Bool

-- The scopes that have begun and not ended, the innermost first and the outermost one last; of each its
-- declarations, the latest first.
abbrev pub Scopes : Type 0
Scopes = List (List Declared)

-- before any declaration: the outermost scope
abbrev pub outermost : Scopes
outermost = [] ∷ []

-- a declaration is put into the innermost scope
abbrev pub declared : Scopes → List ℕ → Bool → Scopes
declared [] name typedef = []
declared (scope ∷ outer) name typedef = (record { name = name; typedef = typedef } ∷ scope) ∷ outer

-- the innermost scope ends, and what it hid is visible again (6.2.1 paragraph 4); the outermost one stays
abbrev pub ended : Scopes → Scopes
ended [] = []
ended (scope ∷ []) = scope ∷ []
ended (scope ∷ (next ∷ outer)) = next ∷ outer

-- what the latest declaration of the name in one scope says
abbrev pub latest : List Declared → List ℕ → Option Bool
latest [] name = None
latest (d ∷ older) name = if bytes_eq name d.name then Some d.typedef else latest older name

-- the innermost declaration of the name is one of a typedef name
abbrev pub is_typedef : Scopes → List ℕ → Bool
is_typedef [] name = false
is_typedef (scope ∷ outer) name = unwrap_or (latest scope name) (is_typedef outer name)
