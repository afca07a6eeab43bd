-- What the program knows at each moment, and the state of the definition.
use Rattle.std.specs.Prelude.{◌≡◌, ◌≤◌, ◌++◌, ◌∷◌, [], ℕ, None, OnOk, Result, length}
use Rattle.cs_base.specs.Token.{Token}
use Rattle.cs_base.specs.Limits.{most_tokens, most_work}
use Rattle.macro_expand.specs.Below.macro_body.Live.{table_of}
use Rattle.macro_expand.specs.Below.macro_body.Sound.{AllTraced}
use Rattle.unit_steps.specs.declared.events.EventKind.{EventKind}
use Rattle.unit_steps.specs.declared.progress.Progress.{Progress}
use Rattle.source_files.specs.Files.{Table}
use Rattle.unit_steps.specs.Notes.{named_event}
use Rattle.unit_steps.specs.State.{State}
use Rattle.unit_steps.specs.Names.{spelled_in, linked_with}
use Rattle.unit_steps.specs.FirstNames.{names_with}
use Rattle.unit_steps.specs.Keeping.{noted_in}

-- the state with this table of files
abbrev pub state_in : Table → Progress → State
state_in table p = record {
  table = table;
  macros = table_of p.macros;
  work = p.work;
  names = p.names;
  before = length p.text.toks;
  behind = p.behind;
  once = p.once.items;
}

-- What is true at each moment.
pub record IsAble (p : Progress) : Type 0 where
  pub few : length p.text.toks ≤ p.most
  pub low : p.most ≤ most_tokens
  pub little : p.work.left ≤ most_work
  pub traced : AllTraced (table_of p.macros)

-- A step goes on: where it is done, all this is true behind it; and it leaves the limit.
pub record GoesOn {X E : Type 0} (old new : Progress) (result : Result X E) : Type 0 where
  pub able : OnOk result (IsAble new)
  pub most : new.most ≡ old.most

-- A walk can begin, in a unit that may have so many tokens.
pub record IsReady (p : Progress) (most : ℕ) : Type 0 where
  pub able : IsAble p
  pub limited : p.most ≡ most

-- what is known behind a name that is processed
abbrev pub named_in : Token → Progress → Progress
named_in name p = record p {
  names = names_with name p.names;
  text = noted_in p.text (linked_with name (spelled_in p.names name.text));
}

-- what is known behind an event with a name, the name itself aside
abbrev pub with_event : EventKind → Token → Progress → Progress
with_event kind name p = record p {
  text = record p.text { events = p.text.events ++ named_event kind name None (length p.text.toks) ∷ [] };
}
