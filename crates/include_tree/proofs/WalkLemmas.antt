-- The items of files and of units: what becomes of the state.
use Rattle.std.proofs.Common.{◌≡◌, ℕ, zero, suc, ◌+◌, ◌-◌, ◌≤◌, Bool, true, false, List, [], ◌∷◌, ◌++◌, length, Option, None, Some, Ok, Err, refl, sym, arith, length-append, drop, not, ◌&&◌}
use Rattle.cs_base.specs.declared.positions.Pos.{Pos}
use Rattle.cs_base.specs.Token.{Token}
use Rattle.cs_base.specs.Units.{UnitValue, is_gnu, defines_of}
use Rattle.cs_base.specs.declared.causes.Cause.TheVariants.{BadDirective}
use Rattle.source_files.specs.Faults.{fault_at}
use Rattle.source_files.specs.Below.line_shape.declared.items.ItemKind.{ItemKind}
use Rattle.source_files.specs.Below.line_shape.declared.items.ItemKind.TheVariants as kind
use Rattle.source_files.specs.Below.line_shape.declared.items.GnuLine.TheVariants as gnu
use Rattle.source_files.specs.Limits.{Limits}
use Rattle.source_files.specs.Files.{Source, Made, Table, SourceFile, Carried, asked, found_at, defines_path}
use Rattle.source_files.specs.Faults.{place_in, first_place}
use Rattle.unit_steps.specs.Notes.{Reaches, Entered, ReadOnce}
use Rattle.unit_steps.specs.State.{Context, context, State, did, Outcome, only, onward}
use Rattle.source_files.specs.Opening.{Reader}
use Rattle.include_tree.specs.Sections.{Group, Processed, Awaited, Over, Skipped, Section, section, are_processed, group_of_else, Turn, Opens, GoesOn, GoesLast, Ends, Stays, turn_of}
use Rattle.source_files.specs.Search.{Header, Searched, behind_of, candidates_of, search}
use Rattle.include_tree.specs.OpeningStep.{open_file}
use Rattle.unit_steps.specs.Expanding.{expanded_in}
use Rattle.unit_steps.specs.Directives.{opens_with, operand_in, is_if, goes_with, says_once, with_once, said_once, pragma_of, is_read_once}
use Rattle.include_tree.specs.Including.{open_searched, open_header, Process, Inner, left_to, entered, unless_once, included, include_of, include_next_of}
use Rattle.unit_steps.specs.IncludeNames.{header_or, computed_header, header_named, written_header, next_named}
use Rattle.source_files.specs.HeaderNames.{header_of_toks, is_header, header_in, header_at, begins_header}
use Rattle.unit_steps.specs.Conditions.{asked_toks, judged}
use Rattle.unit_steps.specs.Questions.{Question, Unasked, Looks, Lacks, asks_next, questions_from, found_as}
use Rattle.include_tree.specs.Asking.{there, is_there, look, looked, gnu_known, gnu_asked, gnu_holds, asks_files, opens_in, goes_in}
use Rattle.include_tree.specs.Walk.{ItemText, items_in, processed, Stepped, stepped, go_on, opens, goes_on, reaching_alive, in_section, turned, is_foreign, foreign_line, item_step, file_end, walk, file_items}
use Rattle.include_tree.specs.Unit.{pseudo_path, first_state, outer_file, main_file, both_files, unit_outcome}
use Rattle.include_tree.specs.Laws.{IfDone, Leads, UnitEnds}
use Rattle.source_files.specs.Tables.{Widens}
use Rattle.include_tree.proofs.DefinesLemmas.{with_defines_has}
use Rattle.include_tree.proofs.OutcomeLemmas.{noted_done, onward_done, cond_done}
use Rattle.source_files.proofs.TableLemmas.{widens_refl, widens_trans, widens_asked, widens_push}
use Rattle.include_tree.proofs.LeadsLemmas.{leads_by, leads_refl, leads_trans, leads_as}
use Rattle.include_tree.proofs.SearchLemmas.{search_wide, open_file_leads}
use Rattle.include_tree.proofs.StepLemmas.{Behind, PutsOut, expanded_leads, run_leads, puts_then, behind_then, define_leads, undef_leads, asks_leads, asked_leads, judged_leads, holds_leads}

-- ---- include lines

header_or_leads : (ctx : Context) (file : SourceFile) (at : Pos) (toks : List Token) (s : State) (o : Option Header)
    → IfDone (Behind {A = Header} ctx s) (header_or file at toks s o)
header_or_leads ctx file at toks s None = tt
header_or_leads ctx file at toks s (Some h) = leads_refl ctx s

computed_leads : (ctx : Context) (file : SourceFile) (at : Pos) (toks : List Token) (s : State) → IfDone (Behind {A = Header} ctx s) (computed_header file at toks s)
computed_leads ctx file at toks s =
    onward_done (Behind {A = List Token} ctx s) (Behind {A = Header} ctx s) (expanded_in false file toks s)
    (λ out t. header_or file at out t (header_of_toks out)) (expanded_leads ctx false file toks s)
    (λ out t h. behind_then ctx s t h (header_or file at out t (header_of_toks out)) (header_or_leads ctx file at out t (header_of_toks out)))

header_leads : (ctx : Context) (file : SourceFile) (at : Pos) (toks : List Token) (s : State) → IfDone (Behind {A = Header} ctx s) (header_named file at toks s)
header_leads ctx file at [] s = tt
header_leads ctx file at (t ∷ toks) s =
    cond_done (Behind {A = Header} ctx s) (is_header t.kind) (only (header_in t.text) s) (computed_header file at (t ∷ toks) s)
    (leads_refl ctx s) (computed_leads ctx file at (t ∷ toks) s)

-- a state with a table that was searched
leads_table : (ctx : Context) (s : State) (t : Table) → Widens ctx.source s.table t → Leads ctx s 0 (record s { table = t })
leads_table ctx s t h = leads_by ctx s (record s { table = t }) refl (omega arith) h

open_searched_leads : (ctx : Context) (file : SourceFile) (at : Pos) (s : State) (found : Searched) (o : Option (List ℕ))
    → Widens ctx.source s.table found.table → IfDone (Behind {A = SourceFile} ctx s) (open_searched ctx file at s found o)
open_searched_leads ctx file at s found None h = tt
open_searched_leads ctx file at s found (Some path) h =
    behind_then ctx s (record s { table = found.table }) (leads_table ctx s found.table h)
    (open_file ctx (place_in file at) path (record s { table = found.table }))
    (open_file_leads ctx (place_in file at) path (record s { table = found.table }))

written_leads : (ctx : Context) (file : SourceFile) (at : Pos) (s : State) (o : Option Header) → IfDone (Behind {A = Header} ctx s) (written_header file at s o)
written_leads ctx file at s None = tt
written_leads ctx file at s (Some h) = leads_refl ctx s

next_leads : (ctx : Context) (file : SourceFile) (at : Pos) (toks : List Token) (s : State) → IfDone (Behind {A = Header} ctx s) (next_named file at toks s)
next_leads ctx file at toks s =
    cond_done (Behind {A = Header} ctx s) (begins_header toks) (written_header file at s (header_at toks)) (computed_header file at toks s)
    (written_leads ctx file at s (header_at toks)) (computed_leads ctx file at toks s)

open_header_leads : (ctx : Context) (file : SourceFile) (at : Pos) (next : Bool) (h : Header) (s : State) → IfDone (Behind {A = SourceFile} ctx s) (open_header ctx file at next h s)
open_header_leads ctx file at next h s =
    let paths = candidates_of next h s.behind file.path ctx.unit in
    let found : Searched = search ctx.source paths s.table in
    open_searched_leads ctx file at s found found.path (search_wide ctx.source paths s.table)

-- what is known of the items of included files
abbrev pub ProcessLeads : Context → Process → Type 0
ProcessLeads ctx process = (file : SourceFile) (s : State) → IfDone (PutsOut ctx s) (process file s)

abbrev pub InnerLeads : Context → Inner → Type 0
InnerLeads ctx None = Unit {0}
InnerLeads ctx (Some process) = ProcessLeads ctx process

-- where a search for the next file of a name begins is no part of what leads on
left_leads : (ctx : Context) (s : State) (behind : Option ℕ) (m : Outcome (List Token)) → IfDone (PutsOut ctx s) m → IfDone (PutsOut ctx s) (left_to behind m)
left_leads ctx s behind (Ok d) h = record { counted = h.counted; few = h.few; work = h.work; table = h.table }
left_leads ctx s behind (Err found) h = tt

entered_leads : (ctx : Context) (process : Process) → ProcessLeads ctx process → (at : Pos) (behind : Option ℕ) (file : SourceFile) (s : State)
    → IfDone (PutsOut ctx s) (entered process at behind file s)
entered_leads ctx process p at behind file s =
    let inside : State = record s { behind = behind } in
    let moves : Leads ctx s 0 inside = leads_by ctx s inside refl (omega arith) (widens_refl ctx.source s.table) in
    noted_done (PutsOut ctx s) (Entered at file.number s.before ∷ []) _
    (left_leads ctx s s.behind _
    (onward_done (PutsOut ctx s) (PutsOut ctx s) (process file inside) _ (puts_then ctx s inside moves (process file inside) (p file inside)) (λ toks t h. h)))

passes_leads : (ctx : Context) (process : Process) → ProcessLeads ctx process → (at : Pos) → ProcessLeads ctx (unless_once at process)
passes_leads ctx process p at file s =
    cond_done (PutsOut ctx s) (is_read_once file.number s) (Ok (did [] (ReadOnce true at file.number s.before ∷ []) s)) (process file s) (leads_refl ctx s) (p file s)

included_leads : (ctx : Context) (inner : Inner) → InnerLeads ctx inner → (file : SourceFile) (at : Pos) (next : Bool) (h : Header) (s : State)
    → IfDone (PutsOut ctx s) (included ctx inner file at next h s)
included_leads ctx None p file at next h s = tt
included_leads ctx (Some process) p file at next h s =
    let place_of : SourceFile → Option ℕ = λ f. behind_of next h s.behind file.path ctx.unit f.path in
    onward_done (Behind {A = SourceFile} ctx s) (PutsOut ctx s) (open_header ctx file at next h s) (λ f t. entered (unless_once at process) at (place_of f) f t) (open_header_leads ctx file at next h s)
    (λ f t k. puts_then ctx s t k (entered (unless_once at process) at (place_of f) f t)
    (entered_leads ctx (unless_once at process) (passes_leads ctx process p at) at (place_of f) f t))

include_leads : (ctx : Context) (inner : Inner) → InnerLeads ctx inner → (file : SourceFile) (at : Pos) (toks : List Token) (s : State)
    → IfDone (PutsOut ctx s) (include_of ctx inner file at toks s)
include_leads ctx inner p file at toks s =
    onward_done (Behind {A = Header} ctx s) (PutsOut ctx s) (header_named file at (drop 2 toks) s) (included ctx inner file at false)
    (header_leads ctx file at (drop 2 toks) s)
    (λ h t k. puts_then ctx s t k (included ctx inner file at false h t) (included_leads ctx inner p file at false h t))

include_next_leads : (ctx : Context) (inner : Inner) → InnerLeads ctx inner → (file : SourceFile) (at : Pos) (toks : List Token) (s : State)
    → IfDone (PutsOut ctx s) (include_next_of ctx inner file at toks s)
include_next_leads ctx inner p file at toks s =
    onward_done (Behind {A = Header} ctx s) (PutsOut ctx s) (next_named file at (drop 2 toks) s) (included ctx inner file at true)
    (next_leads ctx file at (drop 2 toks) s)
    (λ h t k. puts_then ctx s t k (included ctx inner file at true h t) (included_leads ctx inner p file at true h t))

-- ---- items

-- which files are read once is no part of what leads on
pragma_leads : (ctx : Context) (gnu_ : Bool) (file : SourceFile) (at : Pos) (toks : List Token) (s : State) → IfDone (PutsOut ctx s) (pragma_of gnu_ file at toks s)
pragma_leads ctx gnu_ file at toks s =
    cond_done (PutsOut ctx s) (gnu_ && says_once toks) (said_once file at s) (only [] s)
    (leads_by ctx s (with_once file.number s) refl (omega arith) (widens_refl ctx.source s.table)) (leads_refl ctx s)

processed_leads : (ctx : Context) (inner : Inner) → InnerLeads ctx inner → (file : SourceFile) (k : ItemKind) (at : Pos) (toks : List Token) (s : State)
    → IfDone (PutsOut ctx s) (processed ctx inner file k at toks s)
processed_leads ctx inner p file kind.Run at toks s = run_leads ctx file toks s
processed_leads ctx inner p file kind.Define at toks s = define_leads ctx (is_gnu ctx.unit.standard) file at toks s
processed_leads ctx inner p file kind.Undef at toks s = undef_leads ctx file at toks s
processed_leads ctx inner p file kind.Include at toks s = include_leads ctx inner p file at toks s
processed_leads ctx inner p file kind.Error at toks s = tt
processed_leads ctx inner p file (kind.Bad cause place nests) at toks s = tt
processed_leads ctx inner p file (kind.Gnu gnu.IncludeNext) at toks s = include_next_leads ctx inner p file at toks s
processed_leads ctx inner p file (kind.Gnu gnu.Message) at toks s = leads_refl ctx s
processed_leads ctx inner p file (kind.Gnu gnu.Elifdef) at toks s = leads_refl ctx s
processed_leads ctx inner p file (kind.Gnu gnu.Elifndef) at toks s = leads_refl ctx s
processed_leads ctx inner p file kind.If at toks s = leads_refl ctx s
processed_leads ctx inner p file kind.Ifdef at toks s = leads_refl ctx s
processed_leads ctx inner p file kind.Ifndef at toks s = leads_refl ctx s
processed_leads ctx inner p file kind.Elif at toks s = leads_refl ctx s
processed_leads ctx inner p file kind.Else at toks s = leads_refl ctx s
processed_leads ctx inner p file kind.Endif at toks s = leads_refl ctx s
processed_leads ctx inner p file kind.Line at toks s = leads_refl ctx s
processed_leads ctx inner p file kind.Pragma at toks s = pragma_leads ctx (is_gnu ctx.unit.standard) file at toks s
processed_leads ctx inner p file kind.Empty at toks s = leads_refl ctx s

-- ---- conditions of GNU C

there_leads : (ctx : Context) (file : SourceFile) (at : Pos) (s : State) (found : Searched) (o : Option (List ℕ)) → Widens ctx.source s.table found.table
    → IfDone (Behind {A = Bool} ctx s) (there ctx file at s found o)
there_leads ctx file at s found None wide = leads_table ctx s found.table wide
there_leads ctx file at s found (Some path) wide =
    let t : State = record s { table = found.table } in
    onward_done (Behind {A = SourceFile} ctx t) (Behind {A = Bool} ctx s) (open_file ctx (place_in file at) path t) (λ f u. only true u) (open_file_leads ctx (place_in file at) path t)
    (λ f u h. behind_then ctx s t (leads_table ctx s found.table wide) (only true u) h)

pub is_there_leads : (ctx : Context) (file : SourceFile) (at : Pos) (next : Bool) (h : Header) (s : State) → IfDone (Behind {A = Bool} ctx s) (is_there ctx file at next h s)
is_there_leads ctx file at next h s =
    let paths = candidates_of next h s.behind file.path ctx.unit in
    let found : Searched = search ctx.source paths s.table in
    there_leads ctx file at s found found.path (search_wide ctx.source paths s.table)

pub look_leads : (ctx : Context) (file : SourceFile) (at : Pos) (q : Question) (s : State) → IfDone (Behind {A = Token} ctx s) (look ctx file at q s)
look_leads ctx file at (Unasked t) s = leads_refl ctx s
look_leads ctx file at (Looks word operand) s =
    onward_done (Behind {A = Header} ctx s) (Behind {A = Token} ctx s) (header_or file at operand s (header_of_toks operand))
    (λ h t. onward (is_there ctx file at (asks_next word) h t) (found_as word)) (header_or_leads ctx file at operand s (header_of_toks operand))
    (λ h t k. behind_then ctx s t k (onward (is_there ctx file at (asks_next word) h t) (found_as word))
    (onward_done (Behind {A = Bool} ctx t) (Behind {A = Token} ctx t) (is_there ctx file at (asks_next word) h t) (found_as word) (is_there_leads ctx file at (asks_next word) h t) (λ b u g. g)))
look_leads ctx file at Lacks s = tt

pub looked_leads : (ctx : Context) (file : SourceFile) (at : Pos) (qs : List Question) (s : State) → IfDone (Behind {A = List Token} ctx s) (looked ctx file at qs s)
unfolding looked
looked_leads ctx file at [] s = leads_refl ctx s
looked_leads ctx file at (q ∷ qs) s =
    onward_done (Behind {A = Token} ctx s) (Behind {A = List Token} ctx s) (look ctx file at q s) (λ t u. onward (looked ctx file at qs u) (λ toks v. only (t ∷ toks) v)) (look_leads ctx file at q s)
    (λ t u h. behind_then ctx s u h (onward (looked ctx file at qs u) (λ toks v. only (t ∷ toks) v))
    (onward_done (Behind {A = List Token} ctx u) (Behind {A = List Token} ctx u) (looked ctx file at qs u) (λ toks v. only (t ∷ toks) v) (looked_leads ctx file at qs u) (λ toks v g. g)))

pub gnu_known_leads : (ctx : Context) (file : SourceFile) (at : Pos) (toks : List Token) (s : State) → IfDone (Behind {A = Bool} ctx s) (gnu_known ctx file at toks s)
gnu_known_leads ctx file at toks s =
    onward_done (Behind {A = List Token} ctx s) (Behind {A = Bool} ctx s) (looked ctx file at (questions_from false 0 toks) s) (judged file at) (looked_leads ctx file at (questions_from false 0 toks) s)
    (λ out t h. behind_then ctx s t h (judged file at out t) (judged_leads ctx file at out t))

pub gnu_asked_leads : (ctx : Context) (file : SourceFile) (at : Pos) (toks : List Token) (s : State) → IfDone (Behind {A = Bool} ctx s) (gnu_asked ctx file at toks s)
gnu_asked_leads ctx file at toks s =
    onward_done (Behind {A = List Token} ctx s) (Behind {A = Bool} ctx s) (asked_toks file at toks s) (gnu_known ctx file at) (asked_leads ctx file at toks s)
    (λ out t h. behind_then ctx s t h (gnu_known ctx file at out t) (gnu_known_leads ctx file at out t))

gnu_holds_leads : (ctx : Context) (file : SourceFile) (at : Pos) (toks : List Token) (s : State) → IfDone (Behind {A = Bool} ctx s) (gnu_holds ctx file at toks s)
gnu_holds_leads ctx file at toks s =
    onward_done (Behind {A = List Token} ctx s) (Behind {A = Bool} ctx s) (looked ctx file at (questions_from true 0 toks) s) (gnu_asked ctx file at) (looked_leads ctx file at (questions_from true 0 toks) s)
    (λ out t h. behind_then ctx s t h (gnu_asked ctx file at out t) (gnu_asked_leads ctx file at out t))

-- ---- sections

opens_with_leads : (ctx : Context) (k : ItemKind) (file : SourceFile) (at : Pos) (toks : List Token) (s : State)
    → IfDone (Behind {A = Bool} ctx s) (opens_with k file at toks s)
opens_with_leads ctx kind.If file at toks s = holds_leads ctx file at (drop 2 toks) s
opens_with_leads ctx kind.Ifdef file at toks s = asks_leads ctx file at (λ b. b) s (operand_in toks)
opens_with_leads ctx kind.Ifndef file at toks s = asks_leads ctx file at not s (operand_in toks)
opens_with_leads ctx (kind.Bad cause place nests) file at toks s = tt
opens_with_leads ctx (kind.Gnu line) file at toks s = tt
opens_with_leads ctx kind.Run file at toks s = tt
opens_with_leads ctx kind.Define file at toks s = tt
opens_with_leads ctx kind.Undef file at toks s = tt
opens_with_leads ctx kind.Elif file at toks s = tt
opens_with_leads ctx kind.Else file at toks s = tt
opens_with_leads ctx kind.Endif file at toks s = tt
opens_with_leads ctx kind.Include file at toks s = tt
opens_with_leads ctx kind.Line file at toks s = tt
opens_with_leads ctx kind.Error file at toks s = tt
opens_with_leads ctx kind.Pragma file at toks s = tt
opens_with_leads ctx kind.Empty file at toks s = tt

-- a state behind an item
abbrev pub Steps : Context → State → Stepped → State → Type 0
Steps ctx s d t = Leads ctx s (length d.toks) t

opens_in_leads : (ctx : Context) (k : ItemKind) (file : SourceFile) (at : Pos) (toks : List Token) (s : State) → IfDone (Behind {A = Bool} ctx s) (opens_in ctx k file at toks s)
opens_in_leads ctx k file at toks s =
    cond_done (Behind {A = Bool} ctx s) (asks_files ctx.unit.standard k) (gnu_holds ctx file at (drop 2 toks) s) (opens_with k file at toks s)
    (gnu_holds_leads ctx file at (drop 2 toks) s) (opens_with_leads ctx k file at toks s)

opens_leads : (ctx : Context) (file : SourceFile) (k : ℕ) (i : ItemText) (sections : List Section) (s : State) → IfDone (Steps ctx s) (opens ctx file k i sections s)
opens_leads ctx file k i sections s =
    cond_done (Steps ctx s) (are_processed sections) _ (only (stepped [] (section i.at Skipped false ∷ sections)) s)
    (noted_done (Steps ctx s) (Reaches file.number k (is_if i.kind) s.before ∷ []) _
    (onward_done (Behind {A = Bool} ctx s) (Steps ctx s) (opens_in ctx i.kind file i.at i.toks s) _ (opens_in_leads ctx i.kind file i.at i.toks s) (λ b t h. h)))
    (leads_refl ctx s)

goes_with_leads : (ctx : Context) (k : ItemKind) (file : SourceFile) (at : Pos) (toks : List Token) (s : State)
    → IfDone (Behind {A = Bool} ctx s) (goes_with k file at toks s)
goes_with_leads ctx (kind.Gnu gnu.Elifdef) file at toks s = asks_leads ctx file at (λ b. b) s (operand_in toks)
goes_with_leads ctx (kind.Gnu gnu.Elifndef) file at toks s = asks_leads ctx file at not s (operand_in toks)
goes_with_leads ctx (kind.Gnu gnu.IncludeNext) file at toks s = tt
goes_with_leads ctx (kind.Gnu gnu.Message) file at toks s = tt
goes_with_leads ctx (kind.Bad cause place nests) file at toks s = holds_leads ctx file at (drop 2 toks) s
goes_with_leads ctx kind.Run file at toks s = holds_leads ctx file at (drop 2 toks) s
goes_with_leads ctx kind.Define file at toks s = holds_leads ctx file at (drop 2 toks) s
goes_with_leads ctx kind.Undef file at toks s = holds_leads ctx file at (drop 2 toks) s
goes_with_leads ctx kind.If file at toks s = holds_leads ctx file at (drop 2 toks) s
goes_with_leads ctx kind.Ifdef file at toks s = holds_leads ctx file at (drop 2 toks) s
goes_with_leads ctx kind.Ifndef file at toks s = holds_leads ctx file at (drop 2 toks) s
goes_with_leads ctx kind.Elif file at toks s = holds_leads ctx file at (drop 2 toks) s
goes_with_leads ctx kind.Else file at toks s = holds_leads ctx file at (drop 2 toks) s
goes_with_leads ctx kind.Endif file at toks s = holds_leads ctx file at (drop 2 toks) s
goes_with_leads ctx kind.Include file at toks s = holds_leads ctx file at (drop 2 toks) s
goes_with_leads ctx kind.Line file at toks s = holds_leads ctx file at (drop 2 toks) s
goes_with_leads ctx kind.Error file at toks s = holds_leads ctx file at (drop 2 toks) s
goes_with_leads ctx kind.Pragma file at toks s = holds_leads ctx file at (drop 2 toks) s
goes_with_leads ctx kind.Empty file at toks s = holds_leads ctx file at (drop 2 toks) s

goes_in_leads : (ctx : Context) (k : ItemKind) (file : SourceFile) (at : Pos) (toks : List Token) (s : State) → IfDone (Behind {A = Bool} ctx s) (goes_in ctx k file at toks s)
goes_in_leads ctx k file at toks s =
    cond_done (Behind {A = Bool} ctx s) (asks_files ctx.unit.standard k) (gnu_holds ctx file at (drop 2 toks) s) (goes_with k file at toks s)
    (gnu_holds_leads ctx file at (drop 2 toks) s) (goes_with_leads ctx k file at toks s)

goes_on_leads : (ctx : Context) (file : SourceFile) (k : ℕ) (i : ItemText) (open_ : Section) (sections : List Section) (s : State) (g : Group)
    → IfDone (Steps ctx s) (goes_on ctx file k i open_ sections s g)
goes_on_leads ctx file k i open_ sections s Awaited =
    noted_done (Steps ctx s) (Reaches file.number k true s.before ∷ []) _
    (onward_done (Behind {A = Bool} ctx s) (Steps ctx s) (goes_in ctx i.kind file i.at i.toks s) _ (goes_in_leads ctx i.kind file i.at i.toks s) (λ b t h. h))
goes_on_leads ctx file k i open_ sections s Skipped = leads_refl ctx s
goes_on_leads ctx file k i open_ sections s Processed = leads_refl ctx s
goes_on_leads ctx file k i open_ sections s Over = leads_refl ctx s

alive_leads : (ctx : Context) (file : SourceFile) (k : ℕ) (g : Group) (s : State) (d : Stepped) → length d.toks ≡ 0
    → IfDone (Steps ctx s) (reaching_alive file k g s (only d s))
alive_leads ctx file k Processed s d e = leads_as ctx s s 0 (length d.toks) (sym e) (leads_refl ctx s)
alive_leads ctx file k Awaited s d e = leads_as ctx s s 0 (length d.toks) (sym e) (leads_refl ctx s)
alive_leads ctx file k Over s d e = leads_as ctx s s 0 (length d.toks) (sym e) (leads_refl ctx s)
alive_leads ctx file k Skipped s d e = leads_as ctx s s 0 (length d.toks) (sym e) (leads_refl ctx s)

in_section_leads : (ctx : Context) (s : State) (file : SourceFile) (i : ItemText) (turn : Turn) (sections : List Section)
    (next : Section → List Section → Outcome Stepped) → ((o : Section) (around : List Section) → IfDone (Steps ctx s) (next o around))
    → IfDone (Steps ctx s) (in_section file i turn sections next)
in_section_leads ctx s file i turn [] next h = tt
in_section_leads ctx s file i Ends (o ∷ around) next h = h o around
in_section_leads ctx s file i Opens (o ∷ around) next h = cond_done (Steps ctx s) o.after_else _ (next o around) tt (h o around)
in_section_leads ctx s file i GoesOn (o ∷ around) next h = cond_done (Steps ctx s) o.after_else _ (next o around) tt (h o around)
in_section_leads ctx s file i GoesLast (o ∷ around) next h = cond_done (Steps ctx s) o.after_else _ (next o around) tt (h o around)
in_section_leads ctx s file i Stays (o ∷ around) next h = cond_done (Steps ctx s) o.after_else _ (next o around) tt (h o around)

turned_leads : (ctx : Context) (inner : Inner) → InnerLeads ctx inner → (file : SourceFile) (k : ℕ) (i : ItemText) (sections : List Section) (s : State) (turn : Turn)
    → IfDone (Steps ctx s) (turned ctx inner file k i sections s turn)
turned_leads ctx inner p file k i sections s Opens = opens_leads ctx file k i sections s
turned_leads ctx inner p file k i sections s GoesOn =
    in_section_leads ctx s file i GoesOn sections _ (λ o around. goes_on_leads ctx file k i o around s o.group)
turned_leads ctx inner p file k i sections s GoesLast =
    in_section_leads ctx s file i GoesLast sections _ (λ o around. alive_leads ctx file k o.group s (go_on o (group_of_else o.group) true around) refl)
turned_leads ctx inner p file k i sections s Ends =
    in_section_leads ctx s file i Ends sections _ (λ o around. alive_leads ctx file k o.group s (stepped [] around) refl)
turned_leads ctx inner p file k i sections s Stays =
    cond_done (Steps ctx s) (are_processed sections) _ (only (stepped [] sections) s)
    (noted_done (Steps ctx s) (Reaches file.number k false s.before ∷ []) _
    (onward_done (PutsOut ctx s) (Steps ctx s) (processed ctx inner file i.kind i.at i.toks s) _ (processed_leads ctx inner p file i.kind i.at i.toks s) (λ toks t h. h)))
    (leads_refl ctx s)

-- ---- files

file_end_leads : (ctx : Context) (file : SourceFile) (sections : List Section) (s : State) → IfDone (PutsOut ctx s) (file_end file sections s)
file_end_leads ctx file [] s = leads_refl ctx s
file_end_leads ctx file (o ∷ sections) s = tt

-- tokens behind tokens
both_lead : (ctx : Context) (s t u : State) (xs ys : List Token) → Leads ctx s (length xs) t → Leads ctx t (length ys) u → Leads ctx s (length (xs ++ ys)) u
both_lead ctx s t u xs ys h k =
    leads_as ctx s u (length xs + length ys) (length (xs ++ ys)) (sym (length-append xs ys)) (leads_trans ctx s t u (length xs) (length ys) h k)

-- a line that GNU C alone has, or an item as it is
step_leads : (ctx : Context) (inner : Inner) → InnerLeads ctx inner → (file : SourceFile) (k : ℕ) (i : ItemText) (sections : List Section) (s : State)
    → IfDone (Steps ctx s) (item_step ctx inner file k i sections s)
step_leads ctx inner p file k i sections s =
    cond_done (Steps ctx s) (is_foreign ctx.unit.standard i.kind) (foreign_line file i sections s) (turned ctx inner file k i sections s (turn_of i.kind))
    (cond_done (Steps ctx s) (are_processed sections) (Err (fault_at file i.at BadDirective)) (only (stepped [] sections) s) tt (leads_refl ctx s))
    (turned_leads ctx inner p file k i sections s (turn_of i.kind))

pub walk_leads : (ctx : Context) (inner : Inner) → InnerLeads ctx inner → (file : SourceFile) (k : ℕ) (items : List ItemText) (sections : List Section) (s : State)
    → IfDone (PutsOut ctx s) (walk ctx inner file k items sections s)
unfolding walk
walk_leads ctx inner p file k [] sections s = file_end_leads ctx file sections s
walk_leads ctx inner p file k (i ∷ items) sections s =
    onward_done (Steps ctx s) (PutsOut ctx s) (item_step ctx inner file k i sections s) _
    (step_leads ctx inner p file k i sections s)
    (λ d t h. onward_done (PutsOut ctx t) (PutsOut ctx s) (walk ctx inner file (k + 1) items d.sections t) _
    (walk_leads ctx inner p file (k + 1) items d.sections t) (λ toks u g. both_lead ctx s t u d.toks toks h g))

pub files_lead : (ctx : Context) (room : ℕ) → ProcessLeads ctx (file_items ctx room)
unfolding file_items
files_lead ctx zero file s = walk_leads ctx None tt file 0 (items_in file) [] s
files_lead ctx (suc room) file s = walk_leads ctx (Some (file_items ctx room)) (files_lead ctx room) file 0 (items_in file) [] s

-- ---- units

outer_leads : (ctx : Context) (path : List ℕ) (s : State) → IfDone (PutsOut ctx s) (outer_file ctx path s)
outer_leads ctx path s =
    onward_done (Behind {A = SourceFile} ctx s) (PutsOut ctx s) (open_file ctx (first_place path) path s) (file_items ctx (ctx.limits.open_files - 1))
    (open_file_leads ctx (first_place path) path s)
    (λ f t h. puts_then ctx s t h (file_items ctx (ctx.limits.open_files - 1) f t) (files_lead ctx (ctx.limits.open_files - 1) f t))

main_leads : (ctx : Context) (path : List ℕ) (s : State) → IfDone (PutsOut ctx s) (main_file ctx path s)
main_leads ctx path s =
    puts_then ctx s (record s { table = asked ctx.source path s.table }) (leads_table ctx s (asked ctx.source path s.table) (widens_asked ctx.source path s.table))
    (outer_file ctx path (record s { table = asked ctx.source path s.table })) (outer_leads ctx path (record s { table = asked ctx.source path s.table }))

pub both_files_lead : (ctx : Context) (defines path : List ℕ) (s : State) → IfDone (PutsOut ctx s) (both_files ctx defines path s)
both_files_lead ctx defines path s =
    onward_done (PutsOut ctx s) (PutsOut ctx s) (outer_file ctx defines s) _ (outer_leads ctx defines s)
    (λ toks t h. onward_done (PutsOut ctx t) (PutsOut ctx s) (main_file ctx path t) _ (main_leads ctx path t)
    (λ more u g. both_lead ctx s t u toks more h g))

-- the ends of a unit
unit_ended : (ctx : Context) (before : Table) (s : State) → s.before ≡ 0 → s.work.left ≤ ctx.limits.work → Widens ctx.source before s.table
    → (m : Outcome (List Token)) → IfDone (PutsOut ctx s) m → IfDone (λ toks t. UnitEnds ctx before (length toks) t) m
unit_ended ctx before s none work wide (Ok d) h = record {
  counted = omega (arith, h.counted, none);
  few = omega (arith, h.counted, none, h.few (omega (arith, none)));
  work = omega (arith, h.work, work);
  table = widens_trans ctx.source before s.table d.state.table wide h.table;
}
unit_ended ctx before s none work wide (Err found) h = tt

pub units_end : (limits : Limits) (reader : Reader) (source : Source) (number : ℕ) (unit : UnitValue) (before : Carried)
    → found_at (defines_path number) before.table ≡ None
    → IfDone (λ toks t. UnitEnds (context source reader unit limits before.toks) before.table (length toks) t)
    (unit_outcome limits reader source number unit before)
units_end limits reader source number unit before none =
    let ctx : Context = context source reader unit limits before.toks in
    let s : State = first_state limits number unit before.table in
    unit_ended ctx before.table s refl (omega arith)
    (with_defines_has (Widens source before.table) number unit before.table (widens_refl source before.table)
    (widens_push source (defines_path number) (Made (defines_of unit)) before.table none tt))
    (unit_outcome limits reader source number unit before) (both_files_lead ctx (pseudo_path number unit before.table) unit.path s)
