-- The tokens that include lines bring into a unit, and where the others stand without them (ISO/IEC 9899:1999, 6.10.2).
use Rattle.std.specs.Prelude.{ℕ, zero, suc, ◌+◌, ◌&&◌, nat_le, nat_lt, if◌then◌else◌, Bool, false, List, length, slice_get}
use Rattle.std.specs.Option.{option_map_or}
use Rattle.cs_base.specs.declared.positions.Pos.{Pos}
use Rattle.analysis.specs.Below.c99_tree.Tree.{Forest, none, token, node, Node, node_of}
use Rattle.analysis.specs.Below.unit_steps.declared.events.Event.{Event}
use Rattle.analysis.specs.Below.unit_steps.Texts.{UnitTextValue}
use Rattle.unused_names.specs.Inclusions.{end_of, is_enter, tokens_before}
use Rattle.trim_rules.specs.Numbers.{is_below}
use Rattle.trim_rules.specs.Trimmed.{is_line}

-- the event begins an inclusion by one of these lines
abbrev pub enters_by : List Pos → Event → Bool
enters_by lines e = is_enter e.kind && is_line lines e.at

-- the inclusion that event k begins brings token j
abbrev pub is_brought : UnitTextValue → ℕ → ℕ → Bool
is_brought text j k = nat_le (tokens_before text k) j && nat_lt j (tokens_before text (end_of text.events k))

-- .. and is one by one of these lines
abbrev pub goes_by : List Pos → UnitTextValue → ℕ → ℕ → Bool
goes_by lines text j k = option_map_or (enters_by lines) (slice_get text.events k) false && is_brought text j k

-- an inclusion by one of these lines brings token j of the unit
abbrev pub is_gone : List Pos → UnitTextValue → ℕ → Bool
is_gone lines text j = nat_lt j (length text.toks) && is_below (goes_by lines text j) (length text.events)

module _ (gone : ℕ → Bool) where
  -- how many tokens before token k are left
  abbrev pub place : ℕ → ℕ
  place zero = 0
  place (suc k) = if gone k then place k else place k + 1

  -- ---- trees (Annex A)

  -- the children, their tokens at their places
  abbrev pub moved : Forest → Forest
  moved none = none
  moved (token i rest) = token (place i) (moved rest)
  moved (node l first under rest) = node l (place first) (moved under) (moved rest)

  -- the children that do not begin at a token that is gone
  abbrev pub left : Forest → Forest
  left none = none
  left (token i rest) = if gone i then left rest else token i (left rest)
  left (node l first under rest) = if gone first then left rest else node l first under (left rest)

  -- the tree without the children that begin at such a token
  abbrev pub pruned : Node → Node
  pruned t = node_of t.label (place t.first) (moved (left t.under))
