-- Include lines that bring nothing which is used, and whether they can be taken away (this project's, over ISO/IEC 9899:1999,
-- 6.10.2): why one stays, or that nothing keeps it.
use Rattle.std.specs.Prelude.{ℕ, ◌≡◌, ◌==◌, ◌&&◌, not, Bool, false, if◌then◌else◌, is_none, Option, Some, None, List, [], ◌∷◌, filter, map, length, slice_get}
use Rattle.std.specs.List.{list_any, flat_map}
use Rattle.std.specs.Option.{option_map, option_map_or, option_and_then, option_or}
use Rattle.cs_base.specs.declared.positions.Pos.{Pos}
use Rattle.cs_base.specs.Token.{Token}
use Rattle.analysis.specs.Below.c_types.Declarations.{spelling_at}
use Rattle.analysis.specs.Below.include_tree.Walk.{ItemText, item_texts}
use Rattle.analysis.specs.Below.lexer.Tokens.{tokens_of, firsts_of}
use Rattle.analysis.specs.Below.source_files.Files.{Table}
use Rattle.analysis.specs.Below.source_files.HeaderNames.{is_header}
use Rattle.analysis.specs.Below.source_files.KeptFiles.{KeptValue, kept_at}
use Rattle.analysis.specs.Below.unit_steps.declared.events.Event.{Event}
use Rattle.analysis.specs.Analysis.{UnitAnalysis, AnalysisValue}
use Rattle.unused_names.specs.Inclusions.{is_enter}
use Rattle.unused_names.specs.Lines.{is_position}
use Rattle.unused_names.specs.Unneeded.{name_of, AreUnneeded}
use Rattle.trim_rules.specs.Defining.{is_whole, first_defining}
use Rattle.trim_rules.specs.Inside.{first_giving, reaches_pragma}
use Rattle.trim_rules.specs.Numbers.{first_answer, is_below}

-- Why an include line stays: its operand is expanded first (6.10.2 paragraph 4); it brings tokens that are no whole
-- declarations; a name to which it gives a meaning, or from which it takes it, is mentioned outside; it brings a definition of
-- this name, with external linkage; or a pragma is reached inside.
pub data Why : Type 0 where
  computed : Why
  fragment : Why
  name : List ℕ → Why
  definition : List ℕ → Why
  pragma : Why

-- ---- one inclusion

-- the name that is mentioned, and the one that is defined, by the number of their event and token
abbrev pub name_why : List Event → ℕ → Why
name_why events i = name (option_map_or name_of (slice_get events i) [])

abbrev pub definition_why : List Token → ℕ → Why
definition_why toks k = definition (spelling_at toks k)

-- Why the inclusion that event k begins keeps its line, if it does: what is named first is asked first.
abbrev pub why_in : Table → UnitAnalysis → ℕ → Option Why
why_in table u k =
    if not (is_whole u k) then Some fragment else
    option_or (option_map (name_why u.text.events) (first_giving table u.text k))
    (option_or (option_map (definition_why u.text.toks) (first_defining u k))
    (if reaches_pragma table u.text k then Some pragma else None))

-- ---- one line

-- the items of a kept file
abbrev pub items_of : KeptValue → List ItemText
items_of f = item_texts (tokens_of f.number f.bytes) (firsts_of f.bytes)

-- the third token of the item is a header name (6.4.7)
abbrev pub names_header : ItemText → Bool
names_header i = option_map_or (λ (t : Token). is_header t.kind) (slice_get i.toks 2) false

-- the item is the line whose `#` stands there, and names its header by one token
abbrev pub is_header_line : Pos → ItemText → Bool
is_header_line p i = is_position p i.at && names_header i

abbrev pub file_has_header : Pos → KeptValue → Bool
file_has_header p f = list_any (is_header_line p) (items_of f)

-- some kept file has such a line
abbrev pub has_header : Table → Pos → Bool
has_header table p = is_below (λ n. option_map_or (file_has_header p) (kept_at table n) false) (length table)

-- why event k of a unit keeps the line: it begins an inclusion by it that does
abbrev pub why_entered : Table → Pos → UnitAnalysis → ℕ → Event → Option Why
why_entered table p u k e = if is_enter e.kind && is_position p e.at then why_in table u k else None

abbrev pub event_why : Table → Pos → UnitAnalysis → ℕ → Option Why
event_why table p u k = option_and_then (why_entered table p u k) (slice_get u.text.events k)

abbrev pub unit_why : Table → Pos → UnitAnalysis → Option Why
unit_why table p u = first_answer (event_why table p u) (length u.text.events)

-- why an inclusion keeps the line: the first that does, in the order of units and events
abbrev pub inclusion_why : AnalysisValue → Pos → Option Why
inclusion_why a p = first_answer (λ n. option_and_then (unit_why a.table p) (slice_get a.units n)) (length a.units)

-- Why the line whose `#` stands there stays, if it does.
unfoldable pub why_of : AnalysisValue → Pos → Option Why
why_of a p = option_or (if has_header a.table p then None else Some computed) (inclusion_why a p)

-- ---- all lines

-- A line that brings nothing which is used, and why it stays, if it does.
pub record Judged : Type 0 where
  pub at : Pos
  pub why : Option Why

abbrev pub judged : AnalysisValue → Pos → Judged
judged a p = record { at = p; why = why_of a p }

-- Each such line, in the order of their places.
pub record AreJudged (a : AnalysisValue) (js : List Judged) : Type 0 where
  pub lines : List Pos
  pub unneeded : AreUnneeded a lines
  pub each : js ≡ map (judged a) lines

-- the lines that nothing keeps
abbrev pub removed_by : Judged → List Pos
removed_by j = if is_none j.why then j.at ∷ [] else []

abbrev pub removable : List Judged → List Pos
removable js = flat_map removed_by js

-- Removable lines: those that bring nothing which is used, and that nothing keeps, in the order of their places.
pub record AreRemovable (a : AnalysisValue) (lines : List Pos) : Type 0 where
  pub judgements : List Judged
  pub judged : AreJudged a judgements
  pub removed : lines ≡ removable judgements
