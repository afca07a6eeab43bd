-- What stays true of the table of files over include lines, items, files and units.
use Rattle.std.proofs.Common.{◌≡◌, ℕ, zero, suc, ◌+◌, ◌-◌, Bool, true, false, not, ◌&&◌, List, [], ◌∷◌, map, drop, Option, None, Some, Ok, Err}
use Rattle.cs_base.specs.declared.positions.Pos.{Pos}
use Rattle.cs_base.specs.Token.{Token}
use Rattle.cs_base.specs.Paths.{joined_path_of}
use Rattle.cs_base.specs.Units.{is_gnu}
use Rattle.cs_base.specs.declared.causes.Cause.TheVariants.{BadDirective}
use Rattle.source_files.specs.Faults.{fault_at}
use Rattle.source_files.specs.Below.line_shape.declared.items.ItemKind.{ItemKind}
use Rattle.source_files.specs.Below.line_shape.declared.items.ItemKind.TheVariants as kind
use Rattle.source_files.specs.Below.line_shape.declared.items.GnuLine.TheVariants as gnu
use Rattle.source_files.specs.Files.{Table, SourceFile, asked}
use Rattle.source_files.specs.Faults.{place_in, first_place}
use Rattle.unit_steps.specs.Notes.{Reaches, Entered, ReadOnce}
use Rattle.unit_steps.specs.State.{Context, State, did, Outcome, only, onward}
use Rattle.include_tree.specs.Sections.{Group, Processed, Awaited, Over, Skipped, Section, section, are_processed, group_of_else, Turn, Opens, GoesOn, GoesLast, Ends, Stays as Remains, turn_of}
use Rattle.source_files.specs.Search.{Header, Searched, Place, places_for, behind_of, can_be_asked, candidates_of, search}
use Rattle.include_tree.specs.OpeningStep.{open_file}
use Rattle.unit_steps.specs.Expanding.{expanded_in}
use Rattle.unit_steps.specs.Directives.{opens_with, operand_in, is_if, goes_with, says_once, said_once, pragma_of, is_read_once}
use Rattle.include_tree.specs.Including.{open_searched, open_header, Process, Inner, left_to, entered, unless_once, included, include_of, include_next_of}
use Rattle.unit_steps.specs.IncludeNames.{header_or, computed_header, header_named, written_header, next_named}
use Rattle.source_files.specs.HeaderNames.{header_of_toks, is_header, header_in, header_at, begins_header}
use Rattle.unit_steps.specs.Conditions.{asked_toks, judged}
use Rattle.unit_steps.specs.Questions.{Question, Unasked, Looks, Lacks, asks_next, questions_from, found_as}
use Rattle.include_tree.specs.Asking.{there, is_there, look, looked, gnu_known, gnu_asked, gnu_holds, asks_files, opens_in, goes_in}
use Rattle.include_tree.specs.Walk.{ItemText, items_in, processed, Stepped, stepped, go_on, opens, goes_on, reaching_alive, in_section, turned, is_foreign, foreign_line, item_step, file_end, walk, file_items}
use Rattle.include_tree.specs.Unit.{outer_file, main_file, both_files}
use Rattle.include_tree.specs.Laws.{IfDone}
use Rattle.include_tree.specs.PseudoFiles.{is_pseudo}
use Rattle.include_tree.proofs.OutcomeLemmas.{noted_done, onward_done, cond_done}
use Rattle.include_tree.proofs.StayLemmas.{IsStable, Stays, expanded_stays, run_stays, define_stays, undef_stays, asks_stays, asked_stays, judged_stays, holds_stays, search_stays, list_all-filtered, open_file_stays}

-- ---- include lines

header_or_stays : (J : Table → Type 0) (file : SourceFile) (at : Pos) (toks : List Token) (s : State) (o : Option Header) → J s.table
    → IfDone (Stays {A = Header} J) (header_or file at toks s o)
header_or_stays J file at toks s None h = tt
header_or_stays J file at toks s (Some found) h = h

computed_stays : (J : Table → Type 0) (file : SourceFile) (at : Pos) (toks : List Token) (s : State) → J s.table
    → IfDone (Stays {A = Header} J) (computed_header file at toks s)
computed_stays J file at toks s h =
    onward_done (Stays {A = List Token} J) (Stays {A = Header} J) (expanded_in false file toks s)
    (λ out t. header_or file at out t (header_of_toks out)) (expanded_stays J false file toks s h)
    (λ out t k. header_or_stays J file at out t (header_of_toks out) k)

header_stays : (J : Table → Type 0) (file : SourceFile) (at : Pos) (toks : List Token) (s : State) → J s.table
    → IfDone (Stays {A = Header} J) (header_named file at toks s)
header_stays J file at [] s h = tt
header_stays J file at (t ∷ toks) s h =
    cond_done (Stays {A = Header} J) (is_header t.kind) (only (header_in t.text) s) (computed_header file at (t ∷ toks) s)
    h (computed_stays J file at (t ∷ toks) s h)

open_searched_stays : (ctx : Context) (J : Table → Type 0) → IsStable ctx.source J → (file : SourceFile) (at : Pos) (s : State) (found : Searched) (o : Option (List ℕ))
    → J found.table → IfDone (Stays {A = SourceFile} J) (open_searched ctx file at s found o)
open_searched_stays ctx J k file at s found None h = tt
open_searched_stays ctx J k file at s found (Some path) h =
    open_file_stays ctx J k (place_in file at) path (record s { table = found.table }) h

written_stays : (J : Table → Type 0) (file : SourceFile) (at : Pos) (s : State) (o : Option Header) → J s.table → IfDone (Stays {A = Header} J) (written_header file at s o)
written_stays J file at s None h = tt
written_stays J file at s (Some header) h = h

next_stays : (J : Table → Type 0) (file : SourceFile) (at : Pos) (toks : List Token) (s : State) → J s.table → IfDone (Stays {A = Header} J) (next_named file at toks s)
next_stays J file at toks s h =
    cond_done (Stays {A = Header} J) (begins_header toks) (written_header file at s (header_at toks)) (computed_header file at toks s)
    (written_stays J file at s (header_at toks) h) (computed_stays J file at toks s h)

-- the table behind a search for a header
paths_stay : (ctx : Context) (J : Table → Type 0) → IsStable ctx.source J → (file : SourceFile) (next : Bool) (header : Header) (s : State) → J s.table
    → J (search ctx.source (candidates_of next header s.behind file.path ctx.unit) s.table).table
paths_stay ctx J k file next header s h =
    search_stays ctx.source J k (candidates_of next header s.behind file.path ctx.unit) s.table
    (list_all-filtered can_be_asked (map (λ (p : Place). joined_path_of p.directory header.name) (places_for next header s.behind file.path ctx.unit))) h

open_header_stays : (ctx : Context) (J : Table → Type 0) → IsStable ctx.source J → (file : SourceFile) (at : Pos) (next : Bool) (header : Header) (s : State) → J s.table
    → IfDone (Stays {A = SourceFile} J) (open_header ctx file at next header s)
open_header_stays ctx J k file at next header s h =
    let found : Searched = search ctx.source (candidates_of next header s.behind file.path ctx.unit) s.table in
    open_searched_stays ctx J k file at s found found.path (paths_stay ctx J k file next header s h)

-- what is known of the items of included files
abbrev pub ProcessStays : (Table → Type 0) → Process → Type 0
ProcessStays J process = (file : SourceFile) (s : State) → J s.table → IfDone (Stays {A = List Token} J) (process file s)

abbrev pub InnerStays : (Table → Type 0) → Inner → Type 0
InnerStays J None = Unit {0}
InnerStays J (Some process) = ProcessStays J process

left_stays : (J : Table → Type 0) (behind : Option ℕ) (m : Outcome (List Token)) → IfDone (Stays {A = List Token} J) m → IfDone (Stays {A = List Token} J) (left_to behind m)
left_stays J behind (Ok d) h = h
left_stays J behind (Err found) h = tt

entered_stays : (J : Table → Type 0) (process : Process) → ProcessStays J process → (at : Pos) (behind : Option ℕ) (file : SourceFile) (s : State) → J s.table
    → IfDone (Stays {A = List Token} J) (entered process at behind file s)
entered_stays J process p at behind file s h =
    let inside : State = record s { behind = behind } in
    noted_done (Stays {A = List Token} J) (Entered at file.number s.before ∷ []) _
    (left_stays J s.behind _ (onward_done (Stays {A = List Token} J) (Stays {A = List Token} J) (process file inside) _ (p file inside h) (λ toks t k. k)))

passes_stays : (J : Table → Type 0) (process : Process) → ProcessStays J process → (at : Pos) → ProcessStays J (unless_once at process)
passes_stays J process p at file s h =
    cond_done (Stays {A = List Token} J) (is_read_once file.number s) (Ok (did [] (ReadOnce true at file.number s.before ∷ []) s)) (process file s) h (p file s h)

included_stays : (ctx : Context) (J : Table → Type 0) → IsStable ctx.source J → (inner : Inner) → InnerStays J inner → (file : SourceFile) (at : Pos) (next : Bool) (header : Header) (s : State)
    → J s.table → IfDone (Stays {A = List Token} J) (included ctx inner file at next header s)
included_stays ctx J k None p file at next header s h = tt
included_stays ctx J k (Some process) p file at next header s h =
    let place_of : SourceFile → Option ℕ = λ f. behind_of next header s.behind file.path ctx.unit f.path in
    onward_done (Stays {A = SourceFile} J) (Stays {A = List Token} J) (open_header ctx file at next header s) (λ f t. entered (unless_once at process) at (place_of f) f t)
    (open_header_stays ctx J k file at next header s h) (λ f t g. entered_stays J (unless_once at process) (passes_stays J process p at) at (place_of f) f t g)

include_stays : (ctx : Context) (J : Table → Type 0) → IsStable ctx.source J → (inner : Inner) → InnerStays J inner → (file : SourceFile) (at : Pos) (toks : List Token) (s : State)
    → J s.table → IfDone (Stays {A = List Token} J) (include_of ctx inner file at toks s)
include_stays ctx J k inner p file at toks s h =
    onward_done (Stays {A = Header} J) (Stays {A = List Token} J) (header_named file at (drop 2 toks) s) (included ctx inner file at false)
    (header_stays J file at (drop 2 toks) s h) (λ header t g. included_stays ctx J k inner p file at false header t g)

include_next_stays : (ctx : Context) (J : Table → Type 0) → IsStable ctx.source J → (inner : Inner) → InnerStays J inner → (file : SourceFile) (at : Pos) (toks : List Token) (s : State)
    → J s.table → IfDone (Stays {A = List Token} J) (include_next_of ctx inner file at toks s)
include_next_stays ctx J k inner p file at toks s h =
    onward_done (Stays {A = Header} J) (Stays {A = List Token} J) (next_named file at (drop 2 toks) s) (included ctx inner file at true)
    (next_stays J file at (drop 2 toks) s h) (λ header t g. included_stays ctx J k inner p file at true header t g)

-- ---- items

pragma_stays : (J : Table → Type 0) (gnu_ : Bool) (file : SourceFile) (at : Pos) (toks : List Token) (s : State) → J s.table
    → IfDone (Stays {A = List Token} J) (pragma_of gnu_ file at toks s)
pragma_stays J gnu_ file at toks s h = cond_done (Stays {A = List Token} J) (gnu_ && says_once toks) (said_once file at s) (only [] s) h h

processed_stays : (ctx : Context) (J : Table → Type 0) → IsStable ctx.source J → (inner : Inner) → InnerStays J inner → (file : SourceFile) (k : ItemKind) (at : Pos) (toks : List Token) (s : State)
    → J s.table → IfDone (Stays {A = List Token} J) (processed ctx inner file k at toks s)
processed_stays ctx J b inner p file kind.Run at toks s h = run_stays J ctx file toks s h
processed_stays ctx J b inner p file kind.Define at toks s h = define_stays J (is_gnu ctx.unit.standard) file at toks s h
processed_stays ctx J b inner p file kind.Undef at toks s h = undef_stays J file at toks s h
processed_stays ctx J b inner p file kind.Include at toks s h = include_stays ctx J b inner p file at toks s h
processed_stays ctx J b inner p file kind.Error at toks s h = tt
processed_stays ctx J b inner p file (kind.Bad cause place nests) at toks s h = tt
processed_stays ctx J b inner p file (kind.Gnu gnu.IncludeNext) at toks s h = include_next_stays ctx J b inner p file at toks s h
processed_stays ctx J b inner p file (kind.Gnu gnu.Message) at toks s h = h
processed_stays ctx J b inner p file (kind.Gnu gnu.Elifdef) at toks s h = h
processed_stays ctx J b inner p file (kind.Gnu gnu.Elifndef) at toks s h = h
processed_stays ctx J b inner p file kind.If at toks s h = h
processed_stays ctx J b inner p file kind.Ifdef at toks s h = h
processed_stays ctx J b inner p file kind.Ifndef at toks s h = h
processed_stays ctx J b inner p file kind.Elif at toks s h = h
processed_stays ctx J b inner p file kind.Else at toks s h = h
processed_stays ctx J b inner p file kind.Endif at toks s h = h
processed_stays ctx J b inner p file kind.Line at toks s h = h
processed_stays ctx J b inner p file kind.Pragma at toks s h = pragma_stays J (is_gnu ctx.unit.standard) file at toks s h
processed_stays ctx J b inner p file kind.Empty at toks s h = h

-- ---- conditions of GNU C

there_stays : (ctx : Context) (J : Table → Type 0) → IsStable ctx.source J → (file : SourceFile) (at : Pos) (s : State) (found : Searched) (o : Option (List ℕ))
    → J found.table → IfDone (Stays {A = Bool} J) (there ctx file at s found o)
there_stays ctx J k file at s found None h = h
there_stays ctx J k file at s found (Some path) h =
    let t : State = record s { table = found.table } in
    onward_done (Stays {A = SourceFile} J) (Stays {A = Bool} J) (open_file ctx (place_in file at) path t) (λ f u. only true u)
    (open_file_stays ctx J k (place_in file at) path t h) (λ f u g. g)

is_there_stays : (ctx : Context) (J : Table → Type 0) → IsStable ctx.source J → (file : SourceFile) (at : Pos) (next : Bool) (header : Header) (s : State) → J s.table
    → IfDone (Stays {A = Bool} J) (is_there ctx file at next header s)
is_there_stays ctx J k file at next header s h =
    let found : Searched = search ctx.source (candidates_of next header s.behind file.path ctx.unit) s.table in
    there_stays ctx J k file at s found found.path (paths_stay ctx J k file next header s h)

look_stays : (ctx : Context) (J : Table → Type 0) → IsStable ctx.source J → (file : SourceFile) (at : Pos) (q : Question) (s : State) → J s.table
    → IfDone (Stays {A = Token} J) (look ctx file at q s)
look_stays ctx J k file at (Unasked t) s h = h
look_stays ctx J k file at (Looks word operand) s h =
    onward_done (Stays {A = Header} J) (Stays {A = Token} J) (header_or file at operand s (header_of_toks operand)) (λ header t. onward (is_there ctx file at (asks_next word) header t) (found_as word))
    (header_or_stays J file at operand s (header_of_toks operand) h)
    (λ header t g. onward_done (Stays {A = Bool} J) (Stays {A = Token} J) (is_there ctx file at (asks_next word) header t) (found_as word)
    (is_there_stays ctx J k file at (asks_next word) header t g) (λ b u i. i))
look_stays ctx J k file at Lacks s h = tt

looked_stays : (ctx : Context) (J : Table → Type 0) → IsStable ctx.source J → (file : SourceFile) (at : Pos) (qs : List Question) (s : State) → J s.table
    → IfDone (Stays {A = List Token} J) (looked ctx file at qs s)
unfolding looked
looked_stays ctx J k file at [] s h = h
looked_stays ctx J k file at (q ∷ qs) s h =
    onward_done (Stays {A = Token} J) (Stays {A = List Token} J) (look ctx file at q s) (λ t u. onward (looked ctx file at qs u) (λ toks v. only (t ∷ toks) v)) (look_stays ctx J k file at q s h)
    (λ t u g. onward_done (Stays {A = List Token} J) (Stays {A = List Token} J) (looked ctx file at qs u) (λ toks v. only (t ∷ toks) v) (looked_stays ctx J k file at qs u g) (λ toks v i. i))

gnu_known_stays : (ctx : Context) (J : Table → Type 0) → IsStable ctx.source J → (file : SourceFile) (at : Pos) (toks : List Token) (s : State) → J s.table
    → IfDone (Stays {A = Bool} J) (gnu_known ctx file at toks s)
gnu_known_stays ctx J k file at toks s h =
    onward_done (Stays {A = List Token} J) (Stays {A = Bool} J) (looked ctx file at (questions_from false 0 toks) s) (judged file at)
    (looked_stays ctx J k file at (questions_from false 0 toks) s h) (λ out t g. judged_stays J file at out t g)

gnu_asked_stays : (ctx : Context) (J : Table → Type 0) → IsStable ctx.source J → (file : SourceFile) (at : Pos) (toks : List Token) (s : State) → J s.table
    → IfDone (Stays {A = Bool} J) (gnu_asked ctx file at toks s)
gnu_asked_stays ctx J k file at toks s h =
    onward_done (Stays {A = List Token} J) (Stays {A = Bool} J) (asked_toks file at toks s) (gnu_known ctx file at) (asked_stays J file at toks s h)
    (λ out t g. gnu_known_stays ctx J k file at out t g)

gnu_holds_stays : (ctx : Context) (J : Table → Type 0) → IsStable ctx.source J → (file : SourceFile) (at : Pos) (toks : List Token) (s : State) → J s.table
    → IfDone (Stays {A = Bool} J) (gnu_holds ctx file at toks s)
gnu_holds_stays ctx J k file at toks s h =
    onward_done (Stays {A = List Token} J) (Stays {A = Bool} J) (looked ctx file at (questions_from true 0 toks) s) (gnu_asked ctx file at)
    (looked_stays ctx J k file at (questions_from true 0 toks) s h) (λ out t g. gnu_asked_stays ctx J k file at out t g)

-- ---- sections

opens_with_stays : (J : Table → Type 0) (k : ItemKind) (file : SourceFile) (at : Pos) (toks : List Token) (s : State) → J s.table
    → IfDone (Stays {A = Bool} J) (opens_with k file at toks s)
opens_with_stays J kind.If file at toks s h = holds_stays J file at (drop 2 toks) s h
opens_with_stays J kind.Ifdef file at toks s h = asks_stays J file at (λ b. b) s (operand_in toks) h
opens_with_stays J kind.Ifndef file at toks s h = asks_stays J file at not s (operand_in toks) h
opens_with_stays J (kind.Bad cause place nests) file at toks s h = tt
opens_with_stays J (kind.Gnu line) file at toks s h = tt
opens_with_stays J kind.Run file at toks s h = tt
opens_with_stays J kind.Define file at toks s h = tt
opens_with_stays J kind.Undef file at toks s h = tt
opens_with_stays J kind.Elif file at toks s h = tt
opens_with_stays J kind.Else file at toks s h = tt
opens_with_stays J kind.Endif file at toks s h = tt
opens_with_stays J kind.Include file at toks s h = tt
opens_with_stays J kind.Line file at toks s h = tt
opens_with_stays J kind.Error file at toks s h = tt
opens_with_stays J kind.Pragma file at toks s h = tt
opens_with_stays J kind.Empty file at toks s h = tt

opens_in_stays : (ctx : Context) (J : Table → Type 0) → IsStable ctx.source J → (k : ItemKind) (file : SourceFile) (at : Pos) (toks : List Token) (s : State) → J s.table
    → IfDone (Stays {A = Bool} J) (opens_in ctx k file at toks s)
opens_in_stays ctx J b k file at toks s h =
    cond_done (Stays {A = Bool} J) (asks_files ctx.unit.standard k) (gnu_holds ctx file at (drop 2 toks) s) (opens_with k file at toks s)
    (gnu_holds_stays ctx J b file at (drop 2 toks) s h) (opens_with_stays J k file at toks s h)

opens_stays : (ctx : Context) (J : Table → Type 0) → IsStable ctx.source J → (file : SourceFile) (k : ℕ) (i : ItemText) (sections : List Section) (s : State) → J s.table
    → IfDone (Stays {A = Stepped} J) (opens ctx file k i sections s)
opens_stays ctx J b file k i sections s h =
    cond_done (Stays {A = Stepped} J) (are_processed sections) _ (only (stepped [] (section i.at Skipped false ∷ sections)) s)
    (noted_done (Stays {A = Stepped} J) (Reaches file.number k (is_if i.kind) s.before ∷ []) _
    (onward_done (Stays {A = Bool} J) (Stays {A = Stepped} J) (opens_in ctx i.kind file i.at i.toks s) _ (opens_in_stays ctx J b i.kind file i.at i.toks s h) (λ v t g. g)))
    h

goes_with_stays : (J : Table → Type 0) (k : ItemKind) (file : SourceFile) (at : Pos) (toks : List Token) (s : State) → J s.table
    → IfDone (Stays {A = Bool} J) (goes_with k file at toks s)
goes_with_stays J (kind.Gnu gnu.Elifdef) file at toks s h = asks_stays J file at (λ b. b) s (operand_in toks) h
goes_with_stays J (kind.Gnu gnu.Elifndef) file at toks s h = asks_stays J file at not s (operand_in toks) h
goes_with_stays J (kind.Gnu gnu.IncludeNext) file at toks s h = tt
goes_with_stays J (kind.Gnu gnu.Message) file at toks s h = tt
goes_with_stays J (kind.Bad cause place nests) file at toks s h = holds_stays J file at (drop 2 toks) s h
goes_with_stays J kind.Run file at toks s h = holds_stays J file at (drop 2 toks) s h
goes_with_stays J kind.Define file at toks s h = holds_stays J file at (drop 2 toks) s h
goes_with_stays J kind.Undef file at toks s h = holds_stays J file at (drop 2 toks) s h
goes_with_stays J kind.If file at toks s h = holds_stays J file at (drop 2 toks) s h
goes_with_stays J kind.Ifdef file at toks s h = holds_stays J file at (drop 2 toks) s h
goes_with_stays J kind.Ifndef file at toks s h = holds_stays J file at (drop 2 toks) s h
goes_with_stays J kind.Elif file at toks s h = holds_stays J file at (drop 2 toks) s h
goes_with_stays J kind.Else file at toks s h = holds_stays J file at (drop 2 toks) s h
goes_with_stays J kind.Endif file at toks s h = holds_stays J file at (drop 2 toks) s h
goes_with_stays J kind.Include file at toks s h = holds_stays J file at (drop 2 toks) s h
goes_with_stays J kind.Line file at toks s h = holds_stays J file at (drop 2 toks) s h
goes_with_stays J kind.Error file at toks s h = holds_stays J file at (drop 2 toks) s h
goes_with_stays J kind.Pragma file at toks s h = holds_stays J file at (drop 2 toks) s h
goes_with_stays J kind.Empty file at toks s h = holds_stays J file at (drop 2 toks) s h

goes_in_stays : (ctx : Context) (J : Table → Type 0) → IsStable ctx.source J → (k : ItemKind) (file : SourceFile) (at : Pos) (toks : List Token) (s : State) → J s.table
    → IfDone (Stays {A = Bool} J) (goes_in ctx k file at toks s)
goes_in_stays ctx J b k file at toks s h =
    cond_done (Stays {A = Bool} J) (asks_files ctx.unit.standard k) (gnu_holds ctx file at (drop 2 toks) s) (goes_with k file at toks s)
    (gnu_holds_stays ctx J b file at (drop 2 toks) s h) (goes_with_stays J k file at toks s h)

goes_on_stays : (ctx : Context) (J : Table → Type 0) → IsStable ctx.source J → (file : SourceFile) (k : ℕ) (i : ItemText) (open_ : Section) (sections : List Section) (s : State) (g : Group) → J s.table
    → IfDone (Stays {A = Stepped} J) (goes_on ctx file k i open_ sections s g)
goes_on_stays ctx J b file k i open_ sections s Awaited h =
    noted_done (Stays {A = Stepped} J) (Reaches file.number k true s.before ∷ []) _
    (onward_done (Stays {A = Bool} J) (Stays {A = Stepped} J) (goes_in ctx i.kind file i.at i.toks s) _ (goes_in_stays ctx J b i.kind file i.at i.toks s h) (λ v t g. g))
goes_on_stays ctx J b file k i open_ sections s Skipped h = h
goes_on_stays ctx J b file k i open_ sections s Processed h = h
goes_on_stays ctx J b file k i open_ sections s Over h = h

alive_stays : (J : Table → Type 0) (file : SourceFile) (k : ℕ) (g : Group) (s : State) (d : Stepped) → J s.table
    → IfDone (Stays {A = Stepped} J) (reaching_alive file k g s (only d s))
alive_stays J file k Processed s d h = h
alive_stays J file k Awaited s d h = h
alive_stays J file k Over s d h = h
alive_stays J file k Skipped s d h = h

in_section_stays : (J : Table → Type 0) (file : SourceFile) (i : ItemText) (turn : Turn) (sections : List Section)
    (next : Section → List Section → Outcome Stepped) → ((o : Section) (around : List Section) → IfDone (Stays {A = Stepped} J) (next o around))
    → IfDone (Stays {A = Stepped} J) (in_section file i turn sections next)
in_section_stays J file i turn [] next h = tt
in_section_stays J file i Ends (o ∷ around) next h = h o around
in_section_stays J file i Opens (o ∷ around) next h = cond_done (Stays {A = Stepped} J) o.after_else _ (next o around) tt (h o around)
in_section_stays J file i GoesOn (o ∷ around) next h = cond_done (Stays {A = Stepped} J) o.after_else _ (next o around) tt (h o around)
in_section_stays J file i GoesLast (o ∷ around) next h = cond_done (Stays {A = Stepped} J) o.after_else _ (next o around) tt (h o around)
in_section_stays J file i Remains (o ∷ around) next h = cond_done (Stays {A = Stepped} J) o.after_else _ (next o around) tt (h o around)

turned_stays : (ctx : Context) (J : Table → Type 0) → IsStable ctx.source J → (inner : Inner) → InnerStays J inner → (file : SourceFile) (k : ℕ) (i : ItemText) (sections : List Section) (s : State) (turn : Turn)
    → J s.table → IfDone (Stays {A = Stepped} J) (turned ctx inner file k i sections s turn)
turned_stays ctx J b inner p file k i sections s Opens h = opens_stays ctx J b file k i sections s h
turned_stays ctx J b inner p file k i sections s GoesOn h =
    in_section_stays J file i GoesOn sections _ (λ o around. goes_on_stays ctx J b file k i o around s o.group h)
turned_stays ctx J b inner p file k i sections s GoesLast h =
    in_section_stays J file i GoesLast sections _ (λ o around. alive_stays J file k o.group s (go_on o (group_of_else o.group) true around) h)
turned_stays ctx J b inner p file k i sections s Ends h =
    in_section_stays J file i Ends sections _ (λ o around. alive_stays J file k o.group s (stepped [] around) h)
turned_stays ctx J b inner p file k i sections s Remains h =
    cond_done (Stays {A = Stepped} J) (are_processed sections) _ (only (stepped [] sections) s)
    (noted_done (Stays {A = Stepped} J) (Reaches file.number k false s.before ∷ []) _
    (onward_done (Stays {A = List Token} J) (Stays {A = Stepped} J) (processed ctx inner file i.kind i.at i.toks s) _ (processed_stays ctx J b inner p file i.kind i.at i.toks s h) (λ toks t g. g)))
    h

-- a line that GNU C alone has, or an item as it is
step_stays : (ctx : Context) (J : Table → Type 0) → IsStable ctx.source J → (inner : Inner) → InnerStays J inner → (file : SourceFile) (k : ℕ) (i : ItemText) (sections : List Section) (s : State)
    → J s.table → IfDone (Stays {A = Stepped} J) (item_step ctx inner file k i sections s)
step_stays ctx J b inner p file k i sections s h =
    cond_done (Stays {A = Stepped} J) (is_foreign ctx.unit.standard i.kind) (foreign_line file i sections s) (turned ctx inner file k i sections s (turn_of i.kind))
    (cond_done (Stays {A = Stepped} J) (are_processed sections) (Err (fault_at file i.at BadDirective)) (only (stepped [] sections) s) tt h)
    (turned_stays ctx J b inner p file k i sections s (turn_of i.kind) h)

-- ---- files

file_end_stays : (J : Table → Type 0) (file : SourceFile) (sections : List Section) (s : State) → J s.table → IfDone (Stays {A = List Token} J) (file_end file sections s)
file_end_stays J file [] s h = h
file_end_stays J file (o ∷ sections) s h = tt

walk_stays : (ctx : Context) (J : Table → Type 0) → IsStable ctx.source J → (inner : Inner) → InnerStays J inner → (file : SourceFile) (k : ℕ) (items : List ItemText) (sections : List Section) (s : State)
    → J s.table → IfDone (Stays {A = List Token} J) (walk ctx inner file k items sections s)
unfolding walk
walk_stays ctx J b inner p file k [] sections s h = file_end_stays J file sections s h
walk_stays ctx J b inner p file k (i ∷ items) sections s h =
    onward_done (Stays {A = Stepped} J) (Stays {A = List Token} J) (item_step ctx inner file k i sections s) _
    (step_stays ctx J b inner p file k i sections s h)
    (λ d t g. onward_done (Stays {A = List Token} J) (Stays {A = List Token} J) (walk ctx inner file (k + 1) items d.sections t) _
    (walk_stays ctx J b inner p file (k + 1) items d.sections t g) (λ toks u f. f))

pub files_stay : (ctx : Context) (J : Table → Type 0) → IsStable ctx.source J → (room : ℕ) → ProcessStays J (file_items ctx room)
unfolding file_items
files_stay ctx J b zero file s h = walk_stays ctx J b None tt file 0 (items_in file) [] s h
files_stay ctx J b (suc room) file s h = walk_stays ctx J b (Some (file_items ctx room)) (files_stay ctx J b room) file 0 (items_in file) [] s h

-- ---- units

outer_stays : (ctx : Context) (J : Table → Type 0) → IsStable ctx.source J → (path : List ℕ) (s : State) → J s.table
    → IfDone (Stays {A = List Token} J) (outer_file ctx path s)
outer_stays ctx J b path s h =
    onward_done (Stays {A = SourceFile} J) (Stays {A = List Token} J) (open_file ctx (first_place path) path s) (file_items ctx (ctx.limits.open_files - 1))
    (open_file_stays ctx J b (first_place path) path s h)
    (λ f t g. files_stay ctx J b (ctx.limits.open_files - 1) f t g)

main_stays : (ctx : Context) (J : Table → Type 0) → IsStable ctx.source J → (path : List ℕ) (s : State) → is_pseudo path ≡ false → J s.table
    → IfDone (Stays {A = List Token} J) (main_file ctx path s)
main_stays ctx J b path s real h =
    outer_stays ctx J b path (record s { table = asked ctx.source path s.table }) (b.asks path s.table real h)

pub both_files_stay : (ctx : Context) (J : Table → Type 0) → IsStable ctx.source J → (defines path : List ℕ) (s : State) → is_pseudo path ≡ false → J s.table
    → IfDone (Stays {A = List Token} J) (both_files ctx defines path s)
both_files_stay ctx J b defines path s real h =
    onward_done (Stays {A = List Token} J) (Stays {A = List Token} J) (outer_file ctx defines s) _ (outer_stays ctx J b defines s h)
    (λ toks t g. onward_done (Stays {A = List Token} J) (Stays {A = List Token} J) (main_file ctx path t) _ (main_stays ctx J b path t real g)
    (λ more u f. f))
