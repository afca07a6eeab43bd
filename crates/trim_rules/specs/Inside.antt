-- What is reached inside an inclusion and what outside, and where names are mentioned (ISO/IEC 9899:1999, 6.10.2, 6.10.3).
use Rattle.std.specs.Prelude.{ℕ, ◌+◌, ◌-◌, ◌&&◌, ◌||◌, not, nat_le, nat_lt, Bool, true, false, Option, List, [], slice_get}
use Rattle.std.specs.List.{list_any}
use Rattle.std.specs.Option.{option_map_or, option_and_then}
use Rattle.std.specs.Str.{bytes_eq}
use Rattle.cs_base.specs.Token.{Token}
use Rattle.analysis.specs.Below.include_tree.Walk.{ItemText}
use Rattle.analysis.specs.Below.line_shape.declared.items.ItemKind.{ItemKind}
use Rattle.analysis.specs.Below.line_shape.declared.items.ItemKind.TheVariants as kind
use Rattle.analysis.specs.Below.source_files.Files.{Table}
use Rattle.analysis.specs.Below.source_files.KeptFiles.{kept_at}
use Rattle.analysis.specs.Below.unit_steps.declared.events.Event.{Event}
use Rattle.analysis.specs.Below.unit_steps.declared.events.Reached.{Reached}
use Rattle.analysis.specs.Below.unit_steps.Texts.{UnitTextValue}
use Rattle.analysis.specs.Naming.{item_at}
use Rattle.unused_names.specs.Inclusions.{end_of}
use Rattle.unused_names.specs.Unneeded.{gives_meaning, name_of}
use Rattle.trim_rules.specs.Numbers.{first_from}

-- Behind so many events an item is reached outside the inclusion that event k begins. The include line itself is outside.
abbrev pub is_outside : List Event → ℕ → ℕ → Bool
is_outside events k behind = nat_le behind k || nat_lt (end_of events k) behind

-- the item that was reached, with its tokens
abbrev pub item_reached : Table → Reached → Option ItemText
item_reached table r = option_and_then (item_at r.item) (kept_at table r.file)

abbrev pub toks_of : ItemText → List Token
toks_of i = i.toks

abbrev pub toks_reached : Table → Reached → List Token
toks_reached table r = option_map_or toks_of (item_reached table r) []

-- one of these tokens has the spelling
abbrev pub is_spelled : List ℕ → List Token → Bool
is_spelled name toks = list_any (λ (t : Token). bytes_eq name t.text) toks

-- The name is mentioned outside the inclusion that event k begins: it is the spelling of a token of an item that is reached
-- there, in a directive line too, or of a token that `##` made, wherever that was (6.10.3.3).
abbrev pub is_mentioned : Table → UnitTextValue → ℕ → List ℕ → Bool
is_mentioned table text k name =
    is_spelled name text.pasted || list_any (λ (r : Reached). is_outside text.events k r.events && is_spelled name (toks_reached table r)) text.reached

-- an event gives a name a meaning or takes it away, and that name is mentioned outside
abbrev pub gives_mentioned : Table → UnitTextValue → ℕ → Event → Bool
gives_mentioned table text k e = gives_meaning e.kind && is_mentioned table text k (name_of e)

abbrev pub is_giving : Table → UnitTextValue → ℕ → ℕ → Bool
is_giving table text k i = option_map_or (gives_mentioned table text k) (slice_get text.events i) false

-- the first event inside that does
abbrev pub first_giving : Table → UnitTextValue → ℕ → Option ℕ
first_giving table text k = first_from (is_giving table text k) (k + 1) (end_of text.events k - (k + 1))

-- ---- pragmas (6.10.6)

abbrev pub is_pragma_kind : ItemKind → Bool
is_pragma_kind kind.Pragma = true
is_pragma_kind _ = false

abbrev pub is_pragma : Table → Reached → Bool
is_pragma table r = option_map_or (λ (i : ItemText). is_pragma_kind i.kind) (item_reached table r) false

-- a pragma is reached inside
abbrev pub reaches_pragma : Table → UnitTextValue → ℕ → Bool
reaches_pragma table text k = list_any (λ (r : Reached). not (is_outside text.events k r.events) && is_pragma table r) text.reached
