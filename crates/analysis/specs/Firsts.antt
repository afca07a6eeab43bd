-- The first occurrences of entities among the tokens before one.
use Rattle.std.specs.Prelude.{ℕ, ◌≡◌, ◌<◌, true, false, List, Option, Some, None, length, slice_index_or}
use Rattle.gnu_bind.specs.Below.scope_bind.declared.bound.Name.{Name}
use Rattle.analysis.specs.Links.{is_bound_to}

-- token j is bound to the entity, and no token before it
pub record IsFirstOf (names : List Name) (entity j : ℕ) : Type 0 where
  pub bound : is_bound_to names entity j ≡ true
  pub before : (i : ℕ) → i < j → is_bound_to names entity i ≡ false

-- the first one among the tokens before number k, or none where none is bound to the entity
abbrev pub TellsFirst : List Name → ℕ → ℕ → Option ℕ → Type 0
TellsFirst names entity k None = (i : ℕ) → i < k → is_bound_to names entity i ≡ false
TellsFirst names entity k (Some j) = (j < k) × IsFirstOf names entity j

-- for each entity that
abbrev pub TellFirsts : List Name → ℕ → List (Option ℕ) → Type 0
TellFirsts names k firsts = (entity : ℕ) → entity < length firsts → TellsFirst names entity k (slice_index_or firsts entity None)
