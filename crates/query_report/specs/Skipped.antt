-- The report `skipped`: the directive lines and runs of source files that stand in skipped groups (ISO/IEC
-- 9899:1999, 6.10.1 paragraph 6) of every unit that reads them.
use Rattle.std.specs.Prelude.{ℕ, ◌+◌, ◌==◌, ◌&&◌, Bool, true, false, Option, None, Some, Result, Ok, Err, List, [], ◌∷◌, ◌++◌, codes, decimal}
use Rattle.std.specs.List.{flat_map, list_any}
use Rattle.std.specs.Option.{option_map_or, option_to_list}
use Rattle.analysis.specs.Below.lexer.FileText.{TextValue, file_text}
use Rattle.line_shape.specs.declared.items.Item.{Item}
use Rattle.line_shape.specs.Items.{items_of}
use Rattle.analysis.specs.Below.unit_steps.declared.events.Reached.{Reached}
use Rattle.analysis.specs.Below.source_files.KeptFiles.{KeptValue, kept_at}
use Rattle.analysis.specs.Below.unit_steps.Texts.{UnitTextValue}
use Rattle.analysis.specs.Texts.{TextsValue}
use Rattle.query_report.specs.declared.spans.Span.{Span}
use Rattle.query_report.specs.Order.{file_cmp, numbers_from, in_order}

-- ---- the items that are reached

-- what is reached is this item of this file
abbrev pub is_item : ℕ → ℕ → Reached → Bool
is_item file item r = r.file == file && r.item == item

-- a unit reaches an item: it stands in a processed group there
abbrev pub reaches : ℕ → ℕ → UnitTextValue → Bool
reaches file item unit = list_any (is_item file item) unit.reached

-- some unit does
abbrev pub is_reached : List UnitTextValue → ℕ → ℕ → Bool
is_reached texts file item = list_any (reaches file item) texts

-- ---- the sequences of those that are not

-- the lines of a sequence that goes on with this item, or begins with it
abbrev pub joined : Option Span → Item → Span
joined None i = record { first = i.first_line; last = i.last_line }
joined (Some s) i = record { first = s.first; last = i.last_line }

-- the sequence that ends before an item, which is reached or not
abbrev pub ended : Bool → Option Span → List Span
ended true before = option_to_list before
ended false before = []

-- the sequence that has not ended behind the item
abbrev pub going_on : Bool → Option Span → Item → Option Span
going_on true before i = None
going_on false before i = Some (joined before i)

-- The maximal sequences of items that are not reached, by their lines. The first of these items has number
-- `k`, and a sequence before it may not have ended.
unfoldable pub sequences : (ℕ → Bool) → ℕ → Option Span → List Item → List Span
sequences reached k before [] = option_to_list before
sequences reached k before (i ∷ items) =
    ended (reached k) before ++ sequences reached (k + 1) (going_on (reached k) before i) items

-- ---- the lines of the report

-- `PATH:FIRST-LAST`
abbrev pub span_line : List ℕ → Span → List ℕ
span_line path s = path ++ codes ":" ++ decimal s.first ++ (codes "-" ++ decimal s.last ++ codes "\n")

-- the lines of a file with these items
abbrev pub file_lines : List ℕ → (ℕ → Bool) → List Item → List ℕ
file_lines path reached items = flat_map (span_line path) (sequences reached 0 None items)

-- the items of a text, if there is one
abbrev pub items_of_text : {E : Type 0} → Result TextValue E → List Item
items_of_text (Ok text) = items_of text.toks text.firsts
items_of_text (Err fault) = []

-- the items of a kept file
abbrev pub items_in : KeptValue → List Item
items_in f = items_of_text (file_text f.number f.bytes)

-- the lines of the kept file with a number
abbrev pub lines_in : List UnitTextValue → ℕ → KeptValue → List ℕ
lines_in texts number f = file_lines f.path (is_reached texts number) (items_in f)

abbrev pub lines_at : TextsValue → ℕ → List ℕ
lines_at t number = option_map_or (lines_in t.texts number) (kept_at t.table number) []

-- the report: source files in order of their paths, and the lines of each in order
unfoldable pub skipped_text : TextsValue → List ℕ
skipped_text t = flat_map (lines_at t) (in_order (file_cmp t.table) (numbers_from 0 t.table))
