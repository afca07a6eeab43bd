-- Include lines that bring nothing which is used (this project's, over ISO/IEC 9899:1999, 6.2.1, 6.10.2 and 6.10.3).
use Rattle.std.specs.Prelude.{ℕ, ◌≡◌, ◌≤◌, ◌<◌, Bool, true, false, Option, None, Some, List, [], codes, length, slice_get}
use Rattle.std.specs.List.Sorted.{IsStrictlySortedBy}
use Rattle.std.specs.Option.{option_map_or}
use Rattle.std.specs.Str.{bytes_eq}
use Rattle.cs_base.specs.declared.positions.Pos.{Pos}
use Rattle.cs_base.specs.Token.{Token}
use Rattle.analysis.specs.Below.unit_steps.declared.events.Event.{Event}
use Rattle.analysis.specs.Below.unit_steps.declared.events.EventKind.{EventKind}
use Rattle.analysis.specs.Below.unit_steps.declared.events.EventKind.TheVariants as kind
use Rattle.analysis.specs.Below.unit_steps.Texts.{UnitTextValue}
use Rattle.analysis.specs.Below.scope_bind.declared.bound.Name.{Name}
use Rattle.analysis.specs.Below.scope_bind.Names.{entity_at}
use Rattle.analysis.specs.Analysis.{UnitAnalysis, AnalysisValue}
use Rattle.analysis.specs.Places.{is_read_only}
use Rattle.unused_names.specs.Inclusions.{end_of, Begins, Brings}
use Rattle.unused_names.specs.Order.{position_cmp}

-- ---- what is used

-- token j of the unit is an occurrence of the entity (6.2.1)
pub record Occurs (text : UnitTextValue) (names : List Name) (entity j : ℕ) : Type 0 where
  pub within : j < length text.toks
  pub bound : entity_at names j ≡ Some entity

-- a line gives a macro name a meaning or takes it away (6.10.3, 6.10.3.5), or says that its file is read once
abbrev pub gives_meaning : EventKind → Bool
gives_meaning kind.Defined = true
gives_meaning kind.Undefined = true
gives_meaning kind.Once = true
gives_meaning _ = false

-- a name is asked for: a macro replaces it, a directive tests it, or a condition has it left over (6.10.1); or a file is
-- passed over, of which it was said that it is read once
abbrev pub asks_meaning : EventKind → Bool
asks_meaning kind.Replaced = true
asks_meaning kind.Tested = true
asks_meaning kind.Left = true
asks_meaning kind.Passed = true
asks_meaning _ = false

-- the spelling of the name of an event, and the number of its file, if it has one
abbrev pub name_of : Event → List ℕ
name_of e = option_map_or (λ (t : Token). t.text) e.name []

abbrev pub file_of : Event → ℕ
file_of e = option_map_or (λ (n : ℕ). n) e.file 0

-- what an event is of: a name, which has no number of a file, or a file, which has no name
abbrev pub subject_of : Event → ℕ × List ℕ
subject_of e = (file_of e, name_of e)

-- event i of a unit gives a name or a file a meaning that event j asks for
pub record Means (events : List Event) (i j : ℕ) : Type 0 where
  pub giving : Event
  pub given : slice_get events i ≡ Some giving
  pub gives : gives_meaning giving.kind ≡ true
  pub asking : Event
  pub asked : slice_get events j ≡ Some asking
  pub asks : asks_meaning asking.kind ≡ true
  pub same : subject_of giving ≡ subject_of asking

-- `__COUNTER__` of GNU C is replaced by the next number of the unit: where no line defines it, its macro stands in no file
abbrev pub brings_number : EventKind → Option Pos → Option Token → Bool
brings_number kind.Replaced None (Some name) = bytes_eq name.text (codes "__COUNTER__")
brings_number _ _ _ = false

-- event i of a unit does that: what stands behind has other numbers without it
abbrev pub counts_at : List Event → ℕ → Bool
counts_at events i = option_map_or (λ (e : Event). brings_number e.kind e.def e.name) (slice_get events i) false

-- ---- inclusions

-- What the inclusion brings that event k begins is not used outside it: an entity that has an occurrence inside has
-- all of them there, no name is asked for behind it that a line inside gives a meaning or takes it away, no file is passed
-- over behind it of which a line inside says that it is read once, and no number of the unit is brought inside.
pub record IsUnneeded (text : UnitTextValue) (names : List Name) (k : ℕ) : Type 0 where
  pub entities : (entity i j : ℕ) → Occurs text names entity i → Occurs text names entity j → Brings text k i → Brings text k j
  pub macros : (i j : ℕ) → k < i → i < end_of text.events k → end_of text.events k ≤ j → Means text.events i j → ⊥
  pub numbers : (i : ℕ) → k < i → i < end_of text.events k → counts_at text.events i ≡ false

-- ---- include lines

-- Event k of the unit begins an inclusion by the line whose `#` stands there.
pub record Includes (units : List UnitAnalysis) (p : Pos) (u : UnitAnalysis) (k : ℕ) : Type 0 where
  pub number : ℕ
  pub unit : slice_get units number ≡ Some u
  pub begins : Begins u.text k
  pub at : begins.event.at ≡ p

-- an include line that is processed, stands in no read-only file, and is unneeded in each of its inclusions
pub record IsUnneededLine (a : AnalysisValue) (p : Pos) : Type 0 where
  pub unit : UnitAnalysis
  pub event : ℕ
  pub includes : Includes a.units p unit event
  pub edited : is_read_only a.table a.workspace.readonly p.file ≡ false
  pub each : (u : UnitAnalysis) (k : ℕ) → Includes a.units p u k → IsUnneeded u.text u.bound.names k

-- The list has the `#` of each such line, once, in the order of their places.
pub record AreUnneeded (a : AnalysisValue) (lines : List Pos) : Type 0 where
  pub each : (k : ℕ) (p : Pos) → slice_get lines k ≡ Some p → IsUnneededLine a p
  pub all : (p : Pos) → IsUnneededLine a p → (k : ℕ) × (slice_get lines k ≡ Some p)
  pub sorted : IsStrictlySortedBy (position_cmp a.table) lines
