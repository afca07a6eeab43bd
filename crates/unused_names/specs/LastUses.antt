-- Where names of macros are asked for last.
use Rattle.std.specs.Prelude.{ℕ, ◌≡◌, ◌≤◌, ◌<◌, ◌&&◌, nat_eq, Bool, true, Option, None, Some, List, slice_get}
use Rattle.std.specs.Borrow.{Bor}
use Rattle.std.specs.Str.{bytes_eq}
use Rattle.indexmap.specs.IndexMap.{IndexMap, get_by}
use Rattle.analysis.specs.Below.unit_steps.declared.events.Event.{Event}
use Rattle.unused_names.specs.Unneeded.{asks_meaning, subject_of, Means}

-- two names or files are the same
abbrev pub is_subject : ℕ × List ℕ → ℕ × List ℕ → Bool
is_subject x y = nat_eq x.0 y.0 && bytes_eq x.1 y.1

-- what the map holds for a name or a file
abbrev pub last_at : {S : Type 0} → IndexMap (ℕ × Bor (List ℕ)) ℕ S → ℕ × List ℕ → Option ℕ
last_at map subject = get_by (λ k. nat_eq subject.0 k.0 && bytes_eq subject.1 k.1.now) map

-- event j asks for this name or file
pub record Asks (events : List Event) (subject : ℕ × List ℕ) (j : ℕ) : Type 0 where
  pub event : Event
  pub at : slice_get events j ≡ Some event
  pub asks : asks_meaning event.kind ≡ true
  pub named : subject_of event ≡ subject

-- the last of the first n events that asks for it, or none where none does
abbrev pub TellsLast : List Event → ℕ → ℕ × List ℕ → Option ℕ → Type 0
TellsLast events n subject None = (j : ℕ) → j < n → Asks events subject j → ⊥
TellsLast events n subject (Some last) = (last < n) × Asks events subject last × ((j : ℕ) → j < n → Asks events subject j → j ≤ last)

-- so for each of them
abbrev pub AreLast : List Event → ℕ → (ℕ × List ℕ → Option ℕ) → Type 0
AreLast events n last = (subject : ℕ × List ℕ) → TellsLast events n subject (last subject)

-- event i gives a name or a file a meaning that an event from number `end` on asks for
pub record MeansBehind (events : List Event) (i end : ℕ) : Type 0 where
  pub event : ℕ
  pub behind : end ≤ event
  pub means : Means events i event
