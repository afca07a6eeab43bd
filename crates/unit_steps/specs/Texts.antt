-- What callers see of a unit that is preprocessed.
use Rattle.std.specs.Prelude.{ℕ, ◌+◌, List, [], ◌∷◌, ◌++◌, length}
use Rattle.std.specs.List.{flat_map}
use Rattle.cs_base.specs.declared.tokens.Link.{Link}
use Rattle.cs_base.specs.Token.{Token}
use Rattle.unit_steps.specs.declared.events.Event.{Event}
use Rattle.unit_steps.specs.declared.events.Reached.{Reached}
use Rattle.unit_steps.specs.Notes.{Note, links_of, pasted_of, stringized_of, header_of, answers_of, events_of, reached_of}

-- The tokens of a unit; its links; the tokens that `##` made; those that strings were made of; those of
-- expanded include lines; the numbers that stood for operands of `defined`; the items that were reached;
-- and the events. Each list is in order.
pub record UnitTextValue : Type 0 where
  pub toks : List Token
  pub links : List Link
  pub pasted : List Token
  pub stringized : List Token
  pub header : List Token
  pub answers : List Token
  pub reached : List Reached
  pub events : List Event

-- a text of these parts
abbrev pub text_of : List Token → List Link → List Token → List Token → List Token → List Token → List Reached → List Event → UnitTextValue
text_of toks links pasted stringized header answers reached events = record {
  toks = toks;
  links = links;
  pasted = pasted;
  stringized = stringized;
  header = header;
  answers = answers;
  reached = reached;
  events = events;
}

-- the items that are reached, behind so many events
unfoldable pub reached_in : ℕ → List Note → List Reached
reached_in events [] = []
reached_in events (note ∷ notes) = reached_of events note ++ reached_in (events + length (events_of note)) notes

-- the text of these tokens and notes
abbrev pub unit_text : List Token → List Note → UnitTextValue
unit_text toks notes =
    text_of toks (flat_map links_of notes) (flat_map pasted_of notes) (flat_map stringized_of notes) (flat_map header_of notes)
    (flat_map answers_of notes) (reached_in 0 notes) (flat_map events_of notes)
