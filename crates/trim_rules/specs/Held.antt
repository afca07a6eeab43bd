-- What is held of a unit, and why an inclusion keeps its line by it.
use Rattle.std.specs.Prelude.{ℕ, ◌≡◌, ◌+◌, ◌-◌, ◌==◌, ◌&&◌, ◌||◌, not, nat_le, nat_lt, if◌then◌else◌, Bool, false, Option, Some, None, List, filter, map, length, slice_get}
use Rattle.std.specs.List.{list_any}
use Rattle.std.specs.Option.{option_map, option_map_or, option_or}
use Rattle.analysis.specs.Below.source_files.Files.{Table}
use Rattle.analysis.specs.Below.unit_steps.declared.events.Event.{Event}
use Rattle.analysis.specs.Below.unit_steps.declared.events.Reached.{Reached}
use Rattle.analysis.specs.Analysis.{UnitAnalysis}
use Rattle.unused_names.specs.Inclusions.{end_of, tokens_before}
use Rattle.unused_names.specs.Unneeded.{gives_meaning, name_of}
use Rattle.trim_rules.specs.declared.mentions.Mention.{Mention}
use Rattle.trim_rules.specs.declared.unit_reasons.UnitReasons.{UnitReasons}
use Rattle.trim_rules.specs.Inside.{is_pragma}
use Rattle.trim_rules.specs.Mentions.{told_at, is_told_outside, AreMentions}
use Rattle.trim_rules.specs.Numbers.{first_from}
use Rattle.trim_rules.specs.Staying.{Why, fragment, pragma, name_why, definition_why}
use Rattle.trim_rules.specs.Walks.{is_marked, AreEdges, AreDefining}

abbrev pub event_gives : (List ℕ → Option (Option Mention)) → ℕ → ℕ → Event → Bool
event_gives told k end e = gives_meaning e.kind && is_told_outside k end (told (name_of e))

abbrev pub held_giving : (List ℕ → Option (Option Mention)) → List Event → ℕ → ℕ → ℕ → Bool
held_giving told events k end i = option_map_or (event_gives told k end) (slice_get events i) false

abbrev pub first_held_giving : (List ℕ → Option (Option Mention)) → List Event → ℕ → ℕ → Option ℕ
first_held_giving told events k end = first_from (held_giving told events k end) (k + 1) (end - (k + 1))

abbrev pub first_held_defining : List Bool → ℕ → ℕ → Option ℕ
first_held_defining marks from to = first_from (is_marked marks) from (to - from)

-- a pragma is reached inside: behind so many events
abbrev pub is_within : ℕ → ℕ → ℕ → Bool
is_within k end behind = nat_lt k behind && nat_le behind end

abbrev pub is_held_whole : List Bool → ℕ → ℕ → Bool
is_held_whole marks from to = (from == to) || (is_marked marks from && is_marked marks to)

abbrev pub pragma_held : UnitReasons → ℕ → ℕ → Option Why
pragma_held r k end = if list_any (is_within k end) r.pragmas.items then Some pragma else None

-- why an inclusion keeps its line where no name does
abbrev pub why_behind : UnitReasons → ℕ → ℕ → ℕ → ℕ → Option Why
why_behind r k end from to =
    option_or (option_map (definition_why r.text.now.toks) (first_held_defining r.defining.items from to))
    (pragma_held r k end)

-- .. and where one may, from one token to before another
abbrev pub why_between : UnitReasons → ℕ → ℕ → ℕ → ℕ → Option Why
why_between r k end from to =
    if not (is_held_whole r.edges.items from to) then Some fragment else
    option_or (option_map (name_why r.text.now.events) (first_held_giving (told_at r.mentions.spans) r.text.now.events k end))
    (why_behind r k end from to)

-- why the inclusion that event k begins keeps its line
abbrev pub why_held : UnitReasons → ℕ → Option Why
why_held r k =
    why_between r k (end_of r.text.now.events k) (tokens_before r.text.now k) (tokens_before r.text.now (end_of r.text.now.events k))

-- the counts of events before the pragmas that are reached
abbrev pub pragmas_of : Table → List Reached → List ℕ
pragmas_of table reached = map (λ (r : Reached). r.events) (filter (is_pragma table) reached)

-- It is held of this unit.
pub record AreReasonsOf (table : Table) (u : UnitAnalysis) (r : UnitReasons) : Type 0 where
  pub text : r.text.now ≡ u.text
  pub count : r.count ≡ length u.text.toks
  pub edges : AreEdges u.tree.under (length u.text.toks) r.edges.items
  pub defining : AreDefining u.tree.under u.bound.names u.bound.functions (length u.text.toks) r.defining.items
  pub pragmas : r.pragmas.items ≡ pragmas_of table u.text.reached
  pub mentions : AreMentions table u.text (told_at r.mentions.spans)
