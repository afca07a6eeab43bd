-- The items of a source file, in order (ISO/IEC 9899:1999, 6.10).
use Rattle.std.specs.Prelude.{ℕ, zero, suc, ◌+◌, Bool, true, false, not, if◌then◌else◌, Some, None, List, [], ◌∷◌, ◌++◌, Err, map, slice_range}
use Rattle.cs_base.specs.declared.causes.Cause.TheVariants.{BadDirective, ErrorDirective, UnbalancedIf}
use Rattle.cs_base.specs.declared.positions.Pos.{Pos}
use Rattle.cs_base.specs.Token.{Token}
use Rattle.cs_base.specs.declared.ws_units.Standard.{Standard}
use Rattle.cs_base.specs.Units.{is_gnu}
use Rattle.source_files.specs.Below.line_shape.declared.items.Item.{Item}
use Rattle.source_files.specs.Below.line_shape.declared.items.ItemKind.{ItemKind}
use Rattle.source_files.specs.Below.line_shape.declared.items.ItemKind.TheVariants as kind
use Rattle.source_files.specs.Below.line_shape.declared.items.GnuLine.{GnuLine}
use Rattle.source_files.specs.Below.line_shape.declared.items.GnuLine.TheVariants.{IncludeNext}
use Rattle.source_files.specs.Below.line_shape.Items.{items_of}
use Rattle.source_files.specs.Files.{SourceFile}
use Rattle.source_files.specs.Faults.{fault_at}
use Rattle.unit_steps.specs.Notes.{Reaches}
use Rattle.unit_steps.specs.State.{Context, State, Outcome, only, noted, onward}
use Rattle.include_tree.specs.Sections.{Group, Awaited, Skipped, Section, section, is_alive, are_processed, group_if, group_after, group_of_else, Turn, Opens, GoesOn, GoesLast, Ends, Stays, turn_of}
use Rattle.unit_steps.specs.Expanding.{run_of}
use Rattle.unit_steps.specs.Directives.{define_of, undef_of, is_if, pragma_of}
use Rattle.include_tree.specs.Asking.{opens_in, goes_in}
use Rattle.include_tree.specs.Including.{Process, Inner, include_of, include_next_of}

-- An item with its tokens.
pub record ItemText : Type 0 where
  pub kind : ItemKind
  pub at : Pos
  pub toks : List Token

-- the same, its tokens taken from those of its file
abbrev pub item_text : List Token → Item → ItemText
item_text toks i = record { kind = i.kind; at = i.at; toks = slice_range toks i.from i.to }

-- the items of a file with these tokens, for each of which it is given whether it is the first of its line
abbrev pub item_texts : List Token → List Bool → List ItemText
item_texts toks firsts = map (item_text toks) (items_of toks firsts)

-- the items of a file
abbrev pub items_in : SourceFile → List ItemText
items_in file = item_texts file.text.toks file.text.firsts

-- ---- an item that opens no section and ends none

-- what a line that GNU C alone has gives in a processed group of a unit of GNU C: a message is passed over
abbrev pub processed_line : Context → Inner → GnuLine → SourceFile → Pos → List Token → State → Outcome (List Token)
processed_line ctx inner IncludeNext file at toks s = include_next_of ctx inner file at toks s
processed_line ctx inner _ file at toks s = only [] s

-- what it gives in a processed group; a bad line is a fault there
abbrev pub processed : Context → Inner → SourceFile → ItemKind → Pos → List Token → State → Outcome (List Token)
processed ctx inner file kind.Run at toks s = run_of ctx file toks s
processed ctx inner file kind.Define at toks s = define_of (is_gnu ctx.unit.standard) file at toks s
processed ctx inner file kind.Undef at toks s = undef_of file at toks s
processed ctx inner file kind.Include at toks s = include_of ctx inner file at toks s
processed ctx inner file kind.Error at toks s = Err (fault_at file at ErrorDirective)
processed ctx inner file (kind.Bad cause place nests) at toks s = Err (fault_at file at BadDirective)
processed ctx inner file kind.Pragma at toks s = pragma_of (is_gnu ctx.unit.standard) file at toks s
processed ctx inner file (kind.Gnu line) at toks s = processed_line ctx inner line file at toks s
processed ctx inner file _ at toks s = only [] s

-- ---- sections

-- What an item gives: tokens, and the sections that are open behind it.
pub record Stepped : Type 0 where
  pub toks : List Token
  pub sections : List Section

abbrev pub stepped : List Token → List Section → Stepped
stepped toks sections = record { toks = toks; sections = sections }

-- an item is reached; `k` is its number
abbrev pub reaching : {A : Type 0} → SourceFile → ℕ → Bool → State → Outcome A → Outcome A
reaching file k evaluated s outcome = noted (Reaches file.number k evaluated s.before ∷ []) outcome

-- the group with which a section goes on, the sections around it being these
abbrev pub go_on : Section → Group → Bool → List Section → Stepped
go_on open_ group after_else sections = stepped [] (section open_.opening group after_else ∷ sections)

-- `if`, `ifdef`, `ifndef`, and a bad line in their place
abbrev pub opens : Context → SourceFile → ℕ → ItemText → List Section → State → Outcome Stepped
opens ctx file k i sections s =
    if are_processed sections then
    reaching file k (is_if i.kind) s (onward (opens_in ctx i.kind file i.at i.toks s)
    (λ b t. only (stepped [] (section i.at (group_if b) false ∷ sections)) t))
    else only (stepped [] (section i.at Skipped false ∷ sections)) s

-- `elif`, and in GNU C `elifdef` and `elifndef`: the condition is asked where no group was processed yet
abbrev pub goes_on : Context → SourceFile → ℕ → ItemText → Section → List Section → State → Group → Outcome Stepped
goes_on ctx file k i open_ sections s Awaited =
    reaching file k true s (onward (goes_in ctx i.kind file i.at i.toks s) (λ b t. only (go_on open_ (group_if b) false sections) t))
goes_on ctx file k i open_ sections s Skipped = only (go_on open_ Skipped false sections) s
goes_on ctx file k i open_ sections s group = reaching file k false s (only (go_on open_ (group_after group) false sections) s)

-- a line that is reached unless its section is skipped
abbrev pub reaching_alive : {A : Type 0} → SourceFile → ℕ → Group → State → Outcome A → Outcome A
reaching_alive file k group s outcome = if is_alive group then reaching file k false s outcome else outcome

-- a directive that ends a group: it needs an open section, whose `else` did not come if it begins another
-- group
abbrev pub in_section : SourceFile → ItemText → Turn → List Section → (Section → List Section → Outcome Stepped) → Outcome Stepped
in_section file i turn [] next = Err (fault_at file i.at UnbalancedIf)
in_section file i Ends (open_ ∷ sections) next = next open_ sections
in_section file i turn (open_ ∷ sections) next =
    if open_.after_else then Err (fault_at file i.at UnbalancedIf) else next open_ sections

-- an item by what it does to the sections
abbrev pub turned : Context → Inner → SourceFile → ℕ → ItemText → List Section → State → Turn → Outcome Stepped
turned ctx inner file k i sections s Opens = opens ctx file k i sections s
turned ctx inner file k i sections s GoesOn =
    in_section file i GoesOn sections (λ open_ around. goes_on ctx file k i open_ around s open_.group)
turned ctx inner file k i sections s GoesLast =
    in_section file i GoesLast sections (λ open_ around.
    reaching_alive file k open_.group s (only (go_on open_ (group_of_else open_.group) true around) s))
turned ctx inner file k i sections s Ends =
    in_section file i Ends sections (λ open_ around. reaching_alive file k open_.group s (only (stepped [] around) s))
turned ctx inner file k i sections s Stays =
    if are_processed sections then
    reaching file k false s (onward (processed ctx inner file i.kind i.at i.toks s) (λ toks t. only (stepped toks sections) t))
    else only (stepped [] sections) s

-- a line that GNU C alone has, in a unit of another standard: none of the directives (6.10), so a fault where it is
-- processed
abbrev pub foreign_line : SourceFile → ItemText → List Section → State → Outcome Stepped
foreign_line file i sections s =
    if are_processed sections then Err (fault_at file i.at BadDirective) else only (stepped [] sections) s

-- a line that no unit of this standard has
abbrev pub is_foreign : Standard → ItemKind → Bool
is_foreign standard (kind.Gnu line) = not (is_gnu standard)
is_foreign standard _ = false

-- item number k of a file, these sections being open
abbrev pub item_step : Context → Inner → SourceFile → ℕ → ItemText → List Section → State → Outcome Stepped
item_step ctx inner file k i sections s =
    if is_foreign ctx.unit.standard i.kind then foreign_line file i sections s
    else turned ctx inner file k i sections s (turn_of i.kind)

-- ---- all items

-- the end of a file: no section may be open
abbrev pub file_end : SourceFile → List Section → State → Outcome (List Token)
file_end file [] s = only [] s
file_end file (open_ ∷ sections) s = Err (fault_at file open_.opening UnbalancedIf)

-- The items of a file from number k on, in these sections. `inner` says what the items of an included
-- file give.
unfoldable pub walk : Context → Inner → SourceFile → ℕ → List ItemText → List Section → State → Outcome (List Token)
walk ctx inner file k [] sections s = file_end file sections s
walk ctx inner file k (i ∷ items) sections s =
    onward (item_step ctx inner file k i sections s) (λ d t.
    onward (walk ctx inner file (k + 1) items d.sections t) (λ toks u. only (d.toks ++ toks) u))

-- The items of a file, where so many more may be open inside it.
unfoldable pub file_items : Context → ℕ → Process
file_items ctx zero file s = walk ctx None file 0 (items_in file) [] s
file_items ctx (suc room) file s = walk ctx (Some (file_items ctx room)) file 0 (items_in file) [] s
