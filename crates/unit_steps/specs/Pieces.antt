-- Pieces of the text of a unit: what stands between two of its places, and what comes behind another text.
use Rattle.std.specs.Prelude.{ℕ, ◌≤◌, List, ◌++◌, length, slice_range}
use Rattle.unit_steps.specs.Texts.{UnitTextValue, text_of}
use Rattle.unit_steps.specs.declared.unit_text.pieces.Mark.{Mark}

-- the place where a text ends: how long each of its lists is
abbrev pub mark_of : UnitTextValue → Mark
mark_of k = record {
  toks = length k.toks;
  links = length k.links;
  pasted = length k.pasted;
  stringized = length k.stringized;
  header = length k.header;
  answers = length k.answers;
  reached = length k.reached;
  events = length k.events;
}

-- Two places stand in a text, and the first is not behind the second.
pub record IsWithin (from to : Mark) (k : UnitTextValue) : Type 0 where
  pub toks : (from.toks ≤ to.toks) × (to.toks ≤ length k.toks)
  pub links : (from.links ≤ to.links) × (to.links ≤ length k.links)
  pub pasted : (from.pasted ≤ to.pasted) × (to.pasted ≤ length k.pasted)
  pub stringized : (from.stringized ≤ to.stringized) × (to.stringized ≤ length k.stringized)
  pub header : (from.header ≤ to.header) × (to.header ≤ length k.header)
  pub answers : (from.answers ≤ to.answers) × (to.answers ≤ length k.answers)
  pub reached : (from.reached ≤ to.reached) × (to.reached ≤ length k.reached)
  pub events : (from.events ≤ to.events) × (to.events ≤ length k.events)

-- what of a text stands between two places
abbrev pub piece_of : Mark → Mark → UnitTextValue → UnitTextValue
piece_of from to k =
    text_of (slice_range k.toks from.toks to.toks) (slice_range k.links from.links to.links) (slice_range k.pasted from.pasted to.pasted)
    (slice_range k.stringized from.stringized to.stringized) (slice_range k.header from.header to.header)
    (slice_range k.answers from.answers to.answers) (slice_range k.reached from.reached to.reached)
    (slice_range k.events from.events to.events)

-- a text, and another one behind it
abbrev pub joined : UnitTextValue → UnitTextValue → UnitTextValue
joined k more =
    text_of (k.toks ++ more.toks) (k.links ++ more.links) (k.pasted ++ more.pasted) (k.stringized ++ more.stringized)
    (k.header ++ more.header) (k.answers ++ more.answers) (k.reached ++ more.reached) (k.events ++ more.events)

-- a text, and the tokens of another one behind it
abbrev pub with_tokens : UnitTextValue → UnitTextValue → UnitTextValue
with_tokens k more = record k {
  toks = k.toks ++ more.toks;
  pasted = k.pasted ++ more.pasted;
  stringized = k.stringized ++ more.stringized;
  header = k.header ++ more.header;
  answers = k.answers ++ more.answers;
}
