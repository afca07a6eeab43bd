-- Units under a renaming (ISO/IEC 9899:1999, 5.1.1.2 phase 4): what happens, states, and what steps give.
use Rattle.std.specs.Prelude.{map}
use Rattle.macro_body.specs.Macro.{Table as Macros}
use Rattle.macro_expand.specs.Renaming.{Renaming, renamed, renamed_macro, renamed_note}
use Rattle.unit_steps.specs.Notes.{Note, Reaches, Happened, Defined, Undefined, Tested, Left, Linked, Answered, Named, Entered, Exited, ReadOnce}
use Rattle.include_tree.specs.Sections.{Section, section}
use Rattle.unit_steps.specs.State.{State}
use Rattle.include_tree.specs.Walk.{Stepped, stepped}
use Rattle.analysis.specs.Changed.{Editing, edited_table}

-- what happens, renamed: counts, and the numbers of files and items, stay
abbrev pub renamed_happening : Renaming → Note → Note
renamed_happening r (Reaches file item evaluated before) = Reaches file item evaluated before
renamed_happening r (Happened run before note) = Happened run before (renamed_note r note)
renamed_happening r (Defined m before) = Defined (renamed_macro r m) before
renamed_happening r (Undefined name before) = Undefined (renamed r name) before
renamed_happening r (Tested name before) = Tested (renamed r name) before
renamed_happening r (Left name before) = Left (renamed r name) before
renamed_happening r (Linked x y) = Linked (renamed r x) (renamed r y)
renamed_happening r (Answered number) = Answered (renamed r number)
renamed_happening r (Named toks) = Named (map (renamed r) toks)
renamed_happening r (Entered at file before) = Entered (r.move at) file before
renamed_happening r (Exited at file before) = Exited (r.move at) file before
renamed_happening r (ReadOnce passed at file before) = ReadOnce passed (r.move at) file before

-- a state over the edited files, with these macros: work and counts stay
abbrev pub renamed_state : Editing → Renaming → Macros → State → State
renamed_state edit r macros s = record {
  table = edited_table edit s.table;
  macros = macros;
  work = s.work;
  names = map (renamed r) s.names;
  before = s.before;
  behind = s.behind;
  once = s.once;
}

-- a section whose `#` moved, and what an item gives
abbrev pub renamed_section : Renaming → Section → Section
renamed_section r s = section (r.move s.opening) s.group s.after_else

abbrev pub renamed_stepped : Renaming → Stepped → Stepped
renamed_stepped r d = stepped (map (renamed r) d.toks) (map (renamed_section r) d.sections)
