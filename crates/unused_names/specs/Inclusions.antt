-- What an include line brings into a unit (ISO/IEC 9899:1999, 6.10.2): the events and tokens between the beginning of
-- the included file and its end.
use Rattle.std.specs.Prelude.{ℕ, ◌+◌, ◌-◌, ◌==◌, if◌then◌else◌, ◌≡◌, ◌≤◌, ◌<◌, Bool, true, false, Option, Some, None, List, [], ◌∷◌, drop, length, slice_get}
use Rattle.std.specs.Option.{option_map_or}
use Rattle.analysis.specs.Below.unit_steps.declared.events.Event.{Event}
use Rattle.analysis.specs.Below.unit_steps.declared.events.EventKind.{EventKind}
use Rattle.analysis.specs.Below.unit_steps.declared.events.EventKind.TheVariants as kind
use Rattle.analysis.specs.Below.unit_steps.Texts.{UnitTextValue}

-- the items of an included file begin
abbrev pub is_enter : EventKind → Bool
is_enter kind.Enter = true
is_enter _ = false

-- how many inclusions are open behind an event, so many being open before it; none where it ends the outermost
abbrev pub open_behind : EventKind → ℕ → Option ℕ
open_behind kind.Enter inner = Some (inner + 1)
open_behind kind.Leave inner = if inner == 0 then None else Some (inner - 1)
open_behind _ inner = Some inner

-- Among events, the first of which has this number, the number of the one that ends an inclusion; so many others are
-- open inside it.
unfoldable pub end_from : ℕ → ℕ → List Event → ℕ
end_from number inner [] = number
end_from number inner (e ∷ events) = option_map_or (λ now. end_from (number + 1) now events) (open_behind e.kind inner) number

-- the number of the event that ends the inclusion which event k begins
abbrev pub end_of : List Event → ℕ → ℕ
end_of events k = end_from (k + 1) 0 (drop (k + 1) events)

-- how many tokens of the unit are put out before event k, or in all where there is no such event
abbrev pub tokens_before : UnitTextValue → ℕ → ℕ
tokens_before text k = option_map_or (λ (e : Event). e.before) (slice_get text.events k) (length text.toks)

-- event k of a unit begins an inclusion
pub record Begins (text : UnitTextValue) (k : ℕ) : Type 0 where
  pub event : Event
  pub at : slice_get text.events k ≡ Some event
  pub enters : is_enter event.kind ≡ true

-- the inclusion that event k begins brings token j of the unit
abbrev pub Brings : UnitTextValue → ℕ → ℕ → Type 0
Brings text k j = (tokens_before text k ≤ j) × (j < tokens_before text (end_of text.events k))
