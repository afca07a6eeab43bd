-- The first and the last occurrence of each entity of a unit.
use Rattle.std.specs.Prelude.{ℕ, ◌≡◌, ◌≤◌, ◌<◌, Option, None, Some, List, length, slice_index_or}
use Rattle.analysis.specs.Below.scope_bind.declared.bound.Name.{Name}
use Rattle.analysis.specs.Below.scope_bind.Names.{entity_at}
use Rattle.unused_names.specs.declared.spans.Span.{Span}

abbrev pub span : ℕ → ℕ → Span
span first last = record { first = first; last = last }

-- the span with one token more, behind all others
abbrev pub span_with : Option Span → ℕ → Span
span_with None k = span k k
span_with (Some s) k = span s.first k

-- Among the first n tokens the entity occurs first and last where the span says so.
pub record IsSpan (names : List Name) (n entity : ℕ) (s : Span) : Type 0 where
  pub first : entity_at names s.first ≡ Some entity
  pub last : entity_at names s.last ≡ Some entity
  pub first_within : s.first < n
  pub last_within : s.last < n
  pub each : (j : ℕ) → j < n → entity_at names j ≡ Some entity → (s.first ≤ j) × (j ≤ s.last)

-- the same, or it does not occur
abbrev pub TellsSpan : List Name → ℕ → ℕ → Option Span → Type 0
TellsSpan names n entity None = (j : ℕ) → j < n → entity_at names j ≡ Some entity → ⊥
TellsSpan names n entity (Some s) = IsSpan names n entity s

-- These are the spans of all entities that occur among the first n tokens.
pub record AreSpans (names : List Name) (n : ℕ) (spans : List (Option Span)) : Type 0 where
  pub each : (entity : ℕ) → TellsSpan names n entity (slice_index_or spans entity None)
  pub within : (j entity : ℕ) → j < n → entity_at names j ≡ Some entity → entity < length spans

-- Token k is an occurrence of an entity that has an occurrence among the first n tokens past these bounds.
pub record ReachesOut (names : List Name) (n from to k : ℕ) : Type 0 where
  pub entity : ℕ
  pub here : entity_at names k ≡ Some entity
  pub other : ℕ
  pub within : other < n
  pub there : entity_at names other ≡ Some entity
  pub outside : from ≤ other → other < to → ⊥
