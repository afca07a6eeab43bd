-- What the program keeps of what happens, where the definition gives notes.
use Rattle.std.specs.Prelude.{ℕ, Bool, List, [], ◌++◌, map, length, Result, Ok, Err}
use Rattle.std.specs.List.{flat_map}
use Rattle.cs_base.specs.Token.{Token}
use Rattle.macro_expand.specs.Below.macro_body.declared.notes.Replacement.{Replacement}
use Rattle.macro_expand.specs.Below.macro_body.Kept.{Kept}
use Rattle.unit_steps.specs.declared.events.Event.{Event}
use Rattle.unit_steps.specs.declared.events.EventKind.TheVariants as kind
use Rattle.source_files.specs.Faults.{Fault}
use Rattle.unit_steps.specs.Notes.{Note, links_of, pasted_of, stringized_of, header_of, answers_of, events_of, named_event, before_in}
use Rattle.unit_steps.specs.State.{State, Outcome}
use Rattle.unit_steps.specs.Texts.{UnitTextValue, text_of, reached_in}

-- the text of nothing
abbrev pub no_text : UnitTextValue
no_text = text_of [] [] [] [] [] [] [] []

-- a text, with what happened then
abbrev pub noted_in : UnitTextValue → List Note → UnitTextValue
noted_in k notes = record k {
  links = k.links ++ flat_map links_of notes;
  pasted = k.pasted ++ flat_map pasted_of notes;
  stringized = k.stringized ++ flat_map stringized_of notes;
  header = k.header ++ flat_map header_of notes;
  answers = k.answers ++ flat_map answers_of notes;
  reached = k.reached ++ reached_in (length k.events) notes;
  events = k.events ++ flat_map events_of notes;
}

-- a text, with these tokens put out then
abbrev pub put_in : UnitTextValue → List Token → UnitTextValue
put_in k toks = record k { toks = k.toks ++ toks }

-- the event of a replacement in an expansion
abbrev pub replaced_event : Bool → ℕ → Replacement → Event
replaced_event run before r = named_event kind.Replaced r.name r.def (before_in run before r.before)

-- a text, with what is kept of an expansion
abbrev pub expanded_into : UnitTextValue → Bool → ℕ → Kept → UnitTextValue
expanded_into k run before e = record k {
  links = k.links ++ e.links;
  pasted = k.pasted ++ e.pasted;
  stringized = k.stringized ++ e.stringized;
  answers = k.answers ++ e.counted;
  events = k.events ++ map (replaced_event run before) e.replaced;
}

-- What a step gives, the state behind it, and the text with what happened; or the first fault.
abbrev pub kept_after : {A : Type 0} → UnitTextValue → Outcome A → Result (A × State × UnitTextValue) Fault
kept_after k (Ok d) = Ok (d.value, d.state, noted_in k d.notes)
kept_after k (Err fault) = Err fault

-- the same of a step that puts its tokens out
abbrev pub put_after : UnitTextValue → Outcome (List Token) → Result (State × UnitTextValue) Fault
put_after k (Ok d) = Ok (d.state, put_in (noted_in k d.notes) d.value)
put_after k (Err fault) = Err fault
