-- No file that was found stays unopened: include lines, items, files and units.
use Rattle.std.proofs.Common.{ℕ, zero, suc, ◌+◌, ◌-◌, Bool, true, false, not, ◌&&◌, List, [], ◌∷◌, drop, Option, None, Some, Ok, Err}
use Rattle.cs_base.specs.declared.positions.Pos.{Pos}
use Rattle.cs_base.specs.Token.{Token}
use Rattle.analysis.specs.Below.line_shape.declared.items.ItemKind.{ItemKind}
use Rattle.analysis.specs.Below.line_shape.declared.items.ItemKind.TheVariants as kind
use Rattle.analysis.specs.Below.line_shape.declared.items.GnuLine.TheVariants as gnu
use Rattle.cs_base.specs.Units.{UnitValue, is_gnu, defines_of}
use Rattle.cs_base.specs.declared.causes.Cause.TheVariants.{BadDirective}
use Rattle.analysis.specs.Below.source_files.Limits.{Limits}
use Rattle.analysis.specs.Below.source_files.Files.{Source, SourceFile, Made, Carried, defines_path, asked}
use Rattle.analysis.specs.Below.source_files.Opening.{Reader}
use Rattle.analysis.specs.Below.source_files.Faults.{fault_at, first_place}
use Rattle.analysis.specs.Below.unit_steps.Notes.{Reaches, Entered, ReadOnce}
use Rattle.analysis.specs.Below.unit_steps.State.{Context, context, State, did, Outcome, only, onward}
use Rattle.analysis.specs.Below.include_tree.Sections.{Group, Processed, Awaited, Over, Skipped, Section, section, are_processed, group_of_else, Turn, Opens, GoesOn, GoesLast, Ends, Stays as Remains, turn_of}
use Rattle.analysis.specs.Below.source_files.Search.{Header, behind_of}
use Rattle.analysis.specs.Below.include_tree.OpeningStep.{open_file}
use Rattle.analysis.specs.Below.unit_steps.Expanding.{expanded_in}
use Rattle.analysis.specs.Below.unit_steps.Directives.{opens_with, goes_with, operand_in, is_if, says_once, said_once, pragma_of, is_read_once}
use Rattle.analysis.specs.Below.include_tree.Including.{open_header, Process, Inner, left_to, entered, unless_once, included, include_of, include_next_of}
use Rattle.analysis.specs.Below.unit_steps.IncludeNames.{header_or, computed_header, header_named, written_header, next_named}
use Rattle.analysis.specs.Below.source_files.HeaderNames.{header_of_toks, is_header, header_in, header_at, begins_header}
use Rattle.analysis.specs.Below.unit_steps.Conditions.{asked_toks, judged}
use Rattle.analysis.specs.Below.unit_steps.Questions.{Question, Unasked, Looks, Lacks, asks_next, questions_from, found_as}
use Rattle.analysis.specs.Below.include_tree.Asking.{is_there, look_for, look, looked, gnu_known, gnu_asked, gnu_holds, asks_files, opens_in, goes_in}
use Rattle.analysis.specs.Below.include_tree.Walk.{ItemText, items_in, processed, Stepped, stepped, go_on, opens, goes_on, reaching_alive, in_section, turned, is_foreign, foreign_line, item_step, file_end, walk, file_items}
use Rattle.analysis.specs.Below.include_tree.Unit.{pseudo_path, first_state, outer_file, main_file, unit_outcome}
use Rattle.analysis.specs.Below.include_tree.Laws.{IfDone}
use Rattle.analysis.proofs.Below.include_tree.DefinesLemmas.{with_defines_has}
use Rattle.analysis.proofs.Below.include_tree.OutcomeLemmas.{noted_done, onward_done, cond_done}
use Rattle.analysis.proofs.Below.include_tree.StayLemmas.{Stays, expanded_stays, run_stays, define_stays, undef_stays, asks_stays, asked_stays, judged_stays, holds_stays}
use Rattle.batch_run.proofs.SettledTables.{AreSettled, SettledBut, settled_push, but_all, asked_but, open_settles, is_there_settles, header_settles as found_settles}

-- ---- include lines

header_or_settles : (file : SourceFile) (at : Pos) (toks : List Token) (s : State) (o : Option Header) → AreSettled s.table
    → IfDone (Stays {A = Header} AreSettled) (header_or file at toks s o)
header_or_settles file at toks s None h = tt
header_or_settles file at toks s (Some found) h = h

computed_settles : (file : SourceFile) (at : Pos) (toks : List Token) (s : State) → AreSettled s.table
    → IfDone (Stays {A = Header} AreSettled) (computed_header file at toks s)
computed_settles file at toks s h =
    onward_done (Stays {A = List Token} AreSettled) (Stays {A = Header} AreSettled) (expanded_in false file toks s)
    (λ out t. header_or file at out t (header_of_toks out)) (expanded_stays AreSettled false file toks s h)
    (λ out t k. header_or_settles file at out t (header_of_toks out) k)

header_settles : (file : SourceFile) (at : Pos) (toks : List Token) (s : State) → AreSettled s.table
    → IfDone (Stays {A = Header} AreSettled) (header_named file at toks s)
header_settles file at [] s h = tt
header_settles file at (t ∷ toks) s h =
    cond_done (Stays {A = Header} AreSettled) (is_header t.kind) (only (header_in t.text) s) (computed_header file at (t ∷ toks) s)
    h (computed_settles file at (t ∷ toks) s h)

-- what is known of the items of included files
abbrev pub ProcessSettles : Process → Type 0
ProcessSettles process = (file : SourceFile) (s : State) → AreSettled s.table → IfDone (Stays {A = List Token} AreSettled) (process file s)

abbrev pub InnerSettles : Inner → Type 0
InnerSettles None = Unit {0}
InnerSettles (Some process) = ProcessSettles process

-- where a search for the next file of a name begins, and which files are read once, are no part of the table
left_settles : (behind : Option ℕ) (m : Outcome (List Token)) → IfDone (Stays {A = List Token} AreSettled) m → IfDone (Stays {A = List Token} AreSettled) (left_to behind m)
left_settles behind (Ok d) h = h
left_settles behind (Err found) h = tt

passes_settle : (process : Process) → ProcessSettles process → (at : Pos) → ProcessSettles (unless_once at process)
passes_settle process p at file s h =
    cond_done (Stays {A = List Token} AreSettled) (is_read_once file.number s) (Ok (did [] (ReadOnce true at file.number s.before ∷ []) s)) (process file s) h (p file s h)

pragma_settles : (gnu_ : Bool) (file : SourceFile) (at : Pos) (toks : List Token) (s : State) → AreSettled s.table
    → IfDone (Stays {A = List Token} AreSettled) (pragma_of gnu_ file at toks s)
pragma_settles gnu_ file at toks s h = cond_done (Stays {A = List Token} AreSettled) (gnu_ && says_once toks) (said_once file at s) (only [] s) h h

entered_settles : (process : Process) → ProcessSettles process → (at : Pos) (behind : Option ℕ) (file : SourceFile) (s : State) → AreSettled s.table
    → IfDone (Stays {A = List Token} AreSettled) (entered process at behind file s)
entered_settles process p at behind file s h =
    let inside : State = record s { behind = behind } in
    noted_done (Stays {A = List Token} AreSettled) (Entered at file.number s.before ∷ []) _
    (left_settles s.behind _
    (onward_done (Stays {A = List Token} AreSettled) (Stays {A = List Token} AreSettled) (process file inside) _ (p file inside h) (λ toks t k. k)))

included_settles : (ctx : Context) (inner : Inner) → InnerSettles inner → (file : SourceFile) (at : Pos) (next : Bool) (header : Header) (s : State)
    → AreSettled s.table → IfDone (Stays {A = List Token} AreSettled) (included ctx inner file at next header s)
included_settles ctx None p file at next header s h = tt
included_settles ctx (Some process) p file at next header s h =
    let place_of : SourceFile → Option ℕ = λ f. behind_of next header s.behind file.path ctx.unit f.path in
    onward_done (Stays {A = SourceFile} AreSettled) (Stays {A = List Token} AreSettled) (open_header ctx file at next header s)
    (λ f t. entered (unless_once at process) at (place_of f) f t)
    (found_settles ctx file at next header s h) (λ f t g. entered_settles (unless_once at process) (passes_settle process p at) at (place_of f) f t g)

include_settles : (ctx : Context) (inner : Inner) → InnerSettles inner → (file : SourceFile) (at : Pos) (toks : List Token) (s : State)
    → AreSettled s.table → IfDone (Stays {A = List Token} AreSettled) (include_of ctx inner file at toks s)
include_settles ctx inner p file at toks s h =
    onward_done (Stays {A = Header} AreSettled) (Stays {A = List Token} AreSettled) (header_named file at (drop 2 toks) s) (included ctx inner file at false)
    (header_settles file at (drop 2 toks) s h) (λ header t g. included_settles ctx inner p file at false header t g)

written_settles : (file : SourceFile) (at : Pos) (s : State) (o : Option Header) → AreSettled s.table → IfDone (Stays {A = Header} AreSettled) (written_header file at s o)
written_settles file at s None h = tt
written_settles file at s (Some header) h = h

next_settles : (file : SourceFile) (at : Pos) (toks : List Token) (s : State) → AreSettled s.table → IfDone (Stays {A = Header} AreSettled) (next_named file at toks s)
next_settles file at toks s h =
    cond_done (Stays {A = Header} AreSettled) (begins_header toks) (written_header file at s (header_at toks)) (computed_header file at toks s)
    (written_settles file at s (header_at toks) h) (computed_settles file at toks s h)

include_next_settles : (ctx : Context) (inner : Inner) → InnerSettles inner → (file : SourceFile) (at : Pos) (toks : List Token) (s : State)
    → AreSettled s.table → IfDone (Stays {A = List Token} AreSettled) (include_next_of ctx inner file at toks s)
include_next_settles ctx inner p file at toks s h =
    onward_done (Stays {A = Header} AreSettled) (Stays {A = List Token} AreSettled) (next_named file at (drop 2 toks) s) (included ctx inner file at true)
    (next_settles file at (drop 2 toks) s h) (λ header t g. included_settles ctx inner p file at true header t g)

-- ---- items

processed_settles : (ctx : Context) (inner : Inner) → InnerSettles inner → (file : SourceFile) (k : ItemKind) (at : Pos) (toks : List Token) (s : State)
    → AreSettled s.table → IfDone (Stays {A = List Token} AreSettled) (processed ctx inner file k at toks s)
processed_settles ctx inner p file kind.Run at toks s h = run_stays AreSettled ctx file toks s h
processed_settles ctx inner p file kind.Define at toks s h = define_stays AreSettled (is_gnu ctx.unit.standard) file at toks s h
processed_settles ctx inner p file kind.Undef at toks s h = undef_stays AreSettled file at toks s h
processed_settles ctx inner p file kind.Include at toks s h = include_settles ctx inner p file at toks s h
processed_settles ctx inner p file kind.Error at toks s h = tt
processed_settles ctx inner p file (kind.Bad cause place nests) at toks s h = tt
processed_settles ctx inner p file (kind.Gnu gnu.IncludeNext) at toks s h = include_next_settles ctx inner p file at toks s h
processed_settles ctx inner p file (kind.Gnu gnu.Message) at toks s h = h
processed_settles ctx inner p file (kind.Gnu gnu.Elifdef) at toks s h = h
processed_settles ctx inner p file (kind.Gnu gnu.Elifndef) at toks s h = h
processed_settles ctx inner p file kind.If at toks s h = h
processed_settles ctx inner p file kind.Ifdef at toks s h = h
processed_settles ctx inner p file kind.Ifndef at toks s h = h
processed_settles ctx inner p file kind.Elif at toks s h = h
processed_settles ctx inner p file kind.Else at toks s h = h
processed_settles ctx inner p file kind.Endif at toks s h = h
processed_settles ctx inner p file kind.Line at toks s h = h
processed_settles ctx inner p file kind.Pragma at toks s h = pragma_settles (is_gnu ctx.unit.standard) file at toks s h
processed_settles ctx inner p file kind.Empty at toks s h = h

-- ---- conditions of GNU C

look_settles : (ctx : Context) (file : SourceFile) (at : Pos) (q : Question) (s : State) → AreSettled s.table → IfDone (Stays {A = Token} AreSettled) (look ctx file at q s)
look_settles ctx file at (Unasked t) s h = h
look_settles ctx file at (Looks word operand) s h =
    onward_done (Stays {A = Header} AreSettled) (Stays {A = Token} AreSettled) (header_or file at operand s (header_of_toks operand)) (look_for ctx file at word)
    (header_or_settles file at operand s (header_of_toks operand) h)
    (λ header t g. onward_done (Stays {A = Bool} AreSettled) (Stays {A = Token} AreSettled) (is_there ctx file at (asks_next word) header t) (found_as word)
    (is_there_settles ctx file at (asks_next word) header t g) (λ b u i. i))
look_settles ctx file at Lacks s h = tt

looked_settles : (ctx : Context) (file : SourceFile) (at : Pos) (qs : List Question) (s : State) → AreSettled s.table → IfDone (Stays {A = List Token} AreSettled) (looked ctx file at qs s)
unfolding looked
looked_settles ctx file at [] s h = h
looked_settles ctx file at (q ∷ qs) s h =
    onward_done (Stays {A = Token} AreSettled) (Stays {A = List Token} AreSettled) (look ctx file at q s) (λ t u. onward (looked ctx file at qs u) (λ toks v. only (t ∷ toks) v)) (look_settles ctx file at q s h)
    (λ t u g. onward_done (Stays {A = List Token} AreSettled) (Stays {A = List Token} AreSettled) (looked ctx file at qs u) (λ toks v. only (t ∷ toks) v) (looked_settles ctx file at qs u g) (λ toks v i. i))

known_settles : (ctx : Context) (file : SourceFile) (at : Pos) (toks : List Token) (s : State) → AreSettled s.table → IfDone (Stays {A = Bool} AreSettled) (gnu_known ctx file at toks s)
known_settles ctx file at toks s h =
    onward_done (Stays {A = List Token} AreSettled) (Stays {A = Bool} AreSettled) (looked ctx file at (questions_from false 0 toks) s) (judged file at)
    (looked_settles ctx file at (questions_from false 0 toks) s h) (λ out t g. judged_stays AreSettled file at out t g)

asked_settles : (ctx : Context) (file : SourceFile) (at : Pos) (toks : List Token) (s : State) → AreSettled s.table → IfDone (Stays {A = Bool} AreSettled) (gnu_asked ctx file at toks s)
asked_settles ctx file at toks s h =
    onward_done (Stays {A = List Token} AreSettled) (Stays {A = Bool} AreSettled) (asked_toks file at toks s) (gnu_known ctx file at) (asked_stays AreSettled file at toks s h)
    (λ out t g. known_settles ctx file at out t g)

gnu_settles : (ctx : Context) (file : SourceFile) (at : Pos) (toks : List Token) (s : State) → AreSettled s.table → IfDone (Stays {A = Bool} AreSettled) (gnu_holds ctx file at toks s)
gnu_settles ctx file at toks s h =
    onward_done (Stays {A = List Token} AreSettled) (Stays {A = Bool} AreSettled) (looked ctx file at (questions_from true 0 toks) s) (gnu_asked ctx file at)
    (looked_settles ctx file at (questions_from true 0 toks) s h) (λ out t g. asked_settles ctx file at out t g)

-- ---- sections

opens_with_settles : (k : ItemKind) (file : SourceFile) (at : Pos) (toks : List Token) (s : State) → AreSettled s.table
    → IfDone (Stays {A = Bool} AreSettled) (opens_with k file at toks s)
opens_with_settles kind.If file at toks s h = holds_stays AreSettled file at (drop 2 toks) s h
opens_with_settles kind.Ifdef file at toks s h = asks_stays AreSettled file at (λ b. b) s (operand_in toks) h
opens_with_settles kind.Ifndef file at toks s h = asks_stays AreSettled file at not s (operand_in toks) h
opens_with_settles (kind.Bad cause place nests) file at toks s h = tt
opens_with_settles (kind.Gnu line) file at toks s h = tt
opens_with_settles kind.Run file at toks s h = tt
opens_with_settles kind.Define file at toks s h = tt
opens_with_settles kind.Undef file at toks s h = tt
opens_with_settles kind.Elif file at toks s h = tt
opens_with_settles kind.Else file at toks s h = tt
opens_with_settles kind.Endif file at toks s h = tt
opens_with_settles kind.Include file at toks s h = tt
opens_with_settles kind.Line file at toks s h = tt
opens_with_settles kind.Error file at toks s h = tt
opens_with_settles kind.Pragma file at toks s h = tt
opens_with_settles kind.Empty file at toks s h = tt

opens_in_settles : (ctx : Context) (k : ItemKind) (file : SourceFile) (at : Pos) (toks : List Token) (s : State) → AreSettled s.table
    → IfDone (Stays {A = Bool} AreSettled) (opens_in ctx k file at toks s)
opens_in_settles ctx k file at toks s h =
    cond_done (Stays {A = Bool} AreSettled) (asks_files ctx.unit.standard k) (gnu_holds ctx file at (drop 2 toks) s) (opens_with k file at toks s)
    (gnu_settles ctx file at (drop 2 toks) s h) (opens_with_settles k file at toks s h)

opens_settles : (ctx : Context) (file : SourceFile) (k : ℕ) (i : ItemText) (sections : List Section) (s : State) → AreSettled s.table
    → IfDone (Stays {A = Stepped} AreSettled) (opens ctx file k i sections s)
opens_settles ctx file k i sections s h =
    cond_done (Stays {A = Stepped} AreSettled) (are_processed sections) _ (only (stepped [] (section i.at Skipped false ∷ sections)) s)
    (noted_done (Stays {A = Stepped} AreSettled) (Reaches file.number k (is_if i.kind) s.before ∷ []) _
    (onward_done (Stays {A = Bool} AreSettled) (Stays {A = Stepped} AreSettled) (opens_in ctx i.kind file i.at i.toks s) _ (opens_in_settles ctx i.kind file i.at i.toks s h) (λ b t g. g)))
    h

goes_with_settles : (k : ItemKind) (file : SourceFile) (at : Pos) (toks : List Token) (s : State) → AreSettled s.table
    → IfDone (Stays {A = Bool} AreSettled) (goes_with k file at toks s)
goes_with_settles (kind.Gnu gnu.Elifdef) file at toks s h = asks_stays AreSettled file at (λ b. b) s (operand_in toks) h
goes_with_settles (kind.Gnu gnu.Elifndef) file at toks s h = asks_stays AreSettled file at not s (operand_in toks) h
goes_with_settles (kind.Gnu gnu.IncludeNext) file at toks s h = tt
goes_with_settles (kind.Gnu gnu.Message) file at toks s h = tt
goes_with_settles (kind.Bad cause place nests) file at toks s h = holds_stays AreSettled file at (drop 2 toks) s h
goes_with_settles kind.Run file at toks s h = holds_stays AreSettled file at (drop 2 toks) s h
goes_with_settles kind.Define file at toks s h = holds_stays AreSettled file at (drop 2 toks) s h
goes_with_settles kind.Undef file at toks s h = holds_stays AreSettled file at (drop 2 toks) s h
goes_with_settles kind.If file at toks s h = holds_stays AreSettled file at (drop 2 toks) s h
goes_with_settles kind.Ifdef file at toks s h = holds_stays AreSettled file at (drop 2 toks) s h
goes_with_settles kind.Ifndef file at toks s h = holds_stays AreSettled file at (drop 2 toks) s h
goes_with_settles kind.Elif file at toks s h = holds_stays AreSettled file at (drop 2 toks) s h
goes_with_settles kind.Else file at toks s h = holds_stays AreSettled file at (drop 2 toks) s h
goes_with_settles kind.Endif file at toks s h = holds_stays AreSettled file at (drop 2 toks) s h
goes_with_settles kind.Include file at toks s h = holds_stays AreSettled file at (drop 2 toks) s h
goes_with_settles kind.Line file at toks s h = holds_stays AreSettled file at (drop 2 toks) s h
goes_with_settles kind.Error file at toks s h = holds_stays AreSettled file at (drop 2 toks) s h
goes_with_settles kind.Pragma file at toks s h = holds_stays AreSettled file at (drop 2 toks) s h
goes_with_settles kind.Empty file at toks s h = holds_stays AreSettled file at (drop 2 toks) s h

goes_in_settles : (ctx : Context) (k : ItemKind) (file : SourceFile) (at : Pos) (toks : List Token) (s : State) → AreSettled s.table
    → IfDone (Stays {A = Bool} AreSettled) (goes_in ctx k file at toks s)
goes_in_settles ctx k file at toks s h =
    cond_done (Stays {A = Bool} AreSettled) (asks_files ctx.unit.standard k) (gnu_holds ctx file at (drop 2 toks) s) (goes_with k file at toks s)
    (gnu_settles ctx file at (drop 2 toks) s h) (goes_with_settles k file at toks s h)

goes_on_settles : (ctx : Context) (file : SourceFile) (k : ℕ) (i : ItemText) (open_ : Section) (sections : List Section) (s : State) (g : Group) → AreSettled s.table
    → IfDone (Stays {A = Stepped} AreSettled) (goes_on ctx file k i open_ sections s g)
goes_on_settles ctx file k i open_ sections s Awaited h =
    noted_done (Stays {A = Stepped} AreSettled) (Reaches file.number k true s.before ∷ []) _
    (onward_done (Stays {A = Bool} AreSettled) (Stays {A = Stepped} AreSettled) (goes_in ctx i.kind file i.at i.toks s) _ (goes_in_settles ctx i.kind file i.at i.toks s h) (λ b t g. g))
goes_on_settles ctx file k i open_ sections s Skipped h = h
goes_on_settles ctx file k i open_ sections s Processed h = h
goes_on_settles ctx file k i open_ sections s Over h = h

alive_settles : (file : SourceFile) (k : ℕ) (g : Group) (s : State) (d : Stepped) → AreSettled s.table
    → IfDone (Stays {A = Stepped} AreSettled) (reaching_alive file k g s (only d s))
alive_settles file k Processed s d h = h
alive_settles file k Awaited s d h = h
alive_settles file k Over s d h = h
alive_settles file k Skipped s d h = h

in_section_settles : (file : SourceFile) (i : ItemText) (turn : Turn) (sections : List Section)
    (next : Section → List Section → Outcome Stepped) → ((o : Section) (around : List Section) → IfDone (Stays {A = Stepped} AreSettled) (next o around))
    → IfDone (Stays {A = Stepped} AreSettled) (in_section file i turn sections next)
in_section_settles file i turn [] next h = tt
in_section_settles file i Ends (o ∷ around) next h = h o around
in_section_settles file i Opens (o ∷ around) next h = cond_done (Stays {A = Stepped} AreSettled) o.after_else _ (next o around) tt (h o around)
in_section_settles file i GoesOn (o ∷ around) next h = cond_done (Stays {A = Stepped} AreSettled) o.after_else _ (next o around) tt (h o around)
in_section_settles file i GoesLast (o ∷ around) next h = cond_done (Stays {A = Stepped} AreSettled) o.after_else _ (next o around) tt (h o around)
in_section_settles file i Remains (o ∷ around) next h = cond_done (Stays {A = Stepped} AreSettled) o.after_else _ (next o around) tt (h o around)

turned_settles : (ctx : Context) (inner : Inner) → InnerSettles inner → (file : SourceFile) (k : ℕ) (i : ItemText) (sections : List Section) (s : State) (turn : Turn)
    → AreSettled s.table → IfDone (Stays {A = Stepped} AreSettled) (turned ctx inner file k i sections s turn)
turned_settles ctx inner p file k i sections s Opens h = opens_settles ctx file k i sections s h
turned_settles ctx inner p file k i sections s GoesOn h =
    in_section_settles file i GoesOn sections _ (λ o around. goes_on_settles ctx file k i o around s o.group h)
turned_settles ctx inner p file k i sections s GoesLast h =
    in_section_settles file i GoesLast sections _ (λ o around. alive_settles file k o.group s (go_on o (group_of_else o.group) true around) h)
turned_settles ctx inner p file k i sections s Ends h =
    in_section_settles file i Ends sections _ (λ o around. alive_settles file k o.group s (stepped [] around) h)
turned_settles ctx inner p file k i sections s Remains h =
    cond_done (Stays {A = Stepped} AreSettled) (are_processed sections) _ (only (stepped [] sections) s)
    (noted_done (Stays {A = Stepped} AreSettled) (Reaches file.number k false s.before ∷ []) _
    (onward_done (Stays {A = List Token} AreSettled) (Stays {A = Stepped} AreSettled) (processed ctx inner file i.kind i.at i.toks s) _ (processed_settles ctx inner p file i.kind i.at i.toks s h) (λ toks t g. g)))
    h

-- a line that GNU C alone has, or an item as it is
step_settles : (ctx : Context) (inner : Inner) → InnerSettles inner → (file : SourceFile) (k : ℕ) (i : ItemText) (sections : List Section) (s : State)
    → AreSettled s.table → IfDone (Stays {A = Stepped} AreSettled) (item_step ctx inner file k i sections s)
step_settles ctx inner p file k i sections s h =
    cond_done (Stays {A = Stepped} AreSettled) (is_foreign ctx.unit.standard i.kind) (foreign_line file i sections s) (turned ctx inner file k i sections s (turn_of i.kind))
    (cond_done (Stays {A = Stepped} AreSettled) (are_processed sections) (Err (fault_at file i.at BadDirective)) (only (stepped [] sections) s) tt h)
    (turned_settles ctx inner p file k i sections s (turn_of i.kind) h)

-- ---- files

file_end_settles : (file : SourceFile) (sections : List Section) (s : State) → AreSettled s.table → IfDone (Stays {A = List Token} AreSettled) (file_end file sections s)
file_end_settles file [] s h = h
file_end_settles file (o ∷ sections) s h = tt

walk_settles : (ctx : Context) (inner : Inner) → InnerSettles inner → (file : SourceFile) (k : ℕ) (items : List ItemText) (sections : List Section) (s : State)
    → AreSettled s.table → IfDone (Stays {A = List Token} AreSettled) (walk ctx inner file k items sections s)
unfolding walk
walk_settles ctx inner p file k [] sections s h = file_end_settles file sections s h
walk_settles ctx inner p file k (i ∷ items) sections s h =
    onward_done (Stays {A = Stepped} AreSettled) (Stays {A = List Token} AreSettled) (item_step ctx inner file k i sections s) _
    (step_settles ctx inner p file k i sections s h)
    (λ d t g. onward_done (Stays {A = List Token} AreSettled) (Stays {A = List Token} AreSettled) (walk ctx inner file (k + 1) items d.sections t) _
    (walk_settles ctx inner p file (k + 1) items d.sections t g) (λ toks u f. f))

pub files_settle : (ctx : Context) (room : ℕ) → ProcessSettles (file_items ctx room)
unfolding file_items
files_settle ctx zero file s h = walk_settles ctx None tt file 0 (items_in file) [] s h
files_settle ctx (suc room) file s h = walk_settles ctx (Some (file_items ctx room)) (files_settle ctx room) file 0 (items_in file) [] s h

-- ---- units

outer_settles : (ctx : Context) (path : List ℕ) (s : State) → SettledBut path s.table → IfDone (Stays {A = List Token} AreSettled) (outer_file ctx path s)
outer_settles ctx path s h =
    onward_done (Stays {A = SourceFile} AreSettled) (Stays {A = List Token} AreSettled) (open_file ctx (first_place path) path s) (file_items ctx (ctx.limits.open_files - 1))
    (open_settles ctx (first_place path) path s h)
    (λ f t g. files_settle ctx (ctx.limits.open_files - 1) f t g)

-- a unit
pub unit_settles : (limits : Limits) (reader : Reader) (source : Source) (number : ℕ) (unit : UnitValue) (before : Carried) → AreSettled before.table
    → IfDone (Stays {A = List Token} AreSettled) (unit_outcome limits reader source number unit before)
unit_settles limits reader source number unit before h =
    let ctx : Context = context source reader unit limits before.toks in
    let s : State = first_state limits number unit before.table in
    let made = with_defines_has AreSettled number unit before.table h (settled_push (defines_path number) (Made (defines_of unit)) before.table tt h) in
    let own : List ℕ = pseudo_path number unit before.table in
    onward_done (Stays {A = List Token} AreSettled) (Stays {A = List Token} AreSettled) (outer_file ctx own s) _
    (outer_settles ctx own s (but_all own s.table made))
    (λ toks t g. onward_done (Stays {A = List Token} AreSettled) (Stays {A = List Token} AreSettled) (main_file ctx unit.path t) _
    (outer_settles ctx unit.path (record t { table = asked ctx.source unit.path t.table }) (asked_but ctx.source unit.path t.table g))
    (λ more u f. f))
