-- How many files may be open inside one another is a limit: more of it changes nothing where it suffices.
use Rattle.std.proofs.Common.{◌≡◌, ℕ, zero, suc, ◌+◌, Bool, true, false, cond, List, [], ◌∷◌, Option, None, Some, Ok, Err, refl, sym, ap, subst, arith, drop}
use Rattle.cs_base.specs.declared.positions.Pos.{Pos}
use Rattle.cs_base.specs.Token.{Token}
use Rattle.source_files.specs.Below.line_shape.declared.items.ItemKind.{ItemKind}
use Rattle.source_files.specs.Below.line_shape.declared.items.ItemKind.TheVariants as kind
use Rattle.source_files.specs.Below.line_shape.declared.items.GnuLine.TheVariants as gnu
use Rattle.source_files.specs.Files.{SourceFile}
use Rattle.unit_steps.specs.Notes.{Note, Reaches, Entered, Exited, ReadOnce}
use Rattle.unit_steps.specs.State.{Context, State, Did, did, Outcome, only, noted, onward}
use Rattle.include_tree.specs.Sections.{Section, are_processed, Turn, Opens, GoesOn, GoesLast, Ends, Stays, turn_of}
use Rattle.source_files.specs.Search.{Header, behind_of}
use Rattle.unit_steps.specs.Directives.{is_read_once}
use Rattle.include_tree.specs.Including.{open_header, Process, Inner, left_to, entered, unless_once, included, include_of, include_next_of}
use Rattle.unit_steps.specs.IncludeNames.{header_named, next_named}
use Rattle.include_tree.specs.Walk.{ItemText, items_in, processed, stepped, turned, is_foreign, foreign_line, item_step, file_end, walk, file_items}

-- the second outcome is the first one, where that has no fault
abbrev pub Confirms : {A : Type 0} → Outcome A → Outcome A → Type 0
Confirms {A} (Ok d) m = ◌≡◌ {A = Outcome A} m (Ok d)
Confirms (Err found) m = Unit {0}

confirms_refl : {A : Type 0} (m : Outcome A) → Confirms m m
confirms_refl (Ok d) = refl
confirms_refl (Err found) = tt

confirms_noted : {A : Type 0} (notes : List Note) (m n : Outcome A) → Confirms m n → Confirms (noted notes m) (noted notes n)
confirms_noted notes (Ok d) n h = ap (noted notes) h
confirms_noted notes (Err found) n h = tt

confirms_onward : {A B : Type 0} (m n : Outcome A) (next later : A → State → Outcome B) → Confirms m n
    → ((a : A) (s : State) → Confirms (next a s) (later a s)) → Confirms (onward m next) (onward n later)
confirms_onward (Ok d) n next later h k =
    subst (λ (x : Outcome _). Confirms (noted d.notes (next d.value d.state)) (onward x later)) (sym h)
    (confirms_noted d.notes (next d.value d.state) (later d.value d.state) (k d.value d.state))
confirms_onward (Err found) n next later h k = tt

confirms_cond : {A : Type 0} (b : Bool) (m n other : Outcome A) → Confirms m n → Confirms (cond b m other) (cond b n other)
confirms_cond true m n other h = h
confirms_cond false m n other h = confirms_refl other

confirms_unless : {A : Type 0} (b : Bool) (x y z : Outcome A) → Confirms y z → Confirms (cond b x y) (cond b x z)
confirms_unless true x y z h = confirms_refl x
confirms_unless false x y z h = h

-- the same of the items of included files
abbrev pub ProcessConfirms : Process → Process → Type 0
ProcessConfirms p q = (file : SourceFile) (s : State) → Confirms (p file s) (q file s)

abbrev pub InnerConfirms : Inner → Inner → Type 0
InnerConfirms None q = Unit {0}
InnerConfirms (Some p) None = ⊥
InnerConfirms (Some p) (Some q) = ProcessConfirms p q

confirms_left : {A : Type 0} (behind : Option ℕ) (m n : Outcome A) → Confirms m n → Confirms (left_to behind m) (left_to behind n)
confirms_left behind (Ok d) n h = ap (left_to behind) h
confirms_left behind (Err found) n h = tt

entered_confirms : (p q : Process) → ProcessConfirms p q → (at : Pos) (behind : Option ℕ) (file : SourceFile) (s : State)
    → Confirms (entered p at behind file s) (entered q at behind file s)
entered_confirms p q h at behind file s =
    let inside : State = record s { behind = behind } in
    let exit : List Token → State → Outcome (List Token) = λ toks t. Ok (did toks (Exited at file.number t.before ∷ []) t) in
    confirms_noted (Entered at file.number s.before ∷ []) _ _
    (confirms_left s.behind (onward (p file inside) exit) (onward (q file inside) exit)
    (confirms_onward (p file inside) (q file inside) exit exit (h file inside) (λ toks t. refl)))

passes_confirms : (p q : Process) → ProcessConfirms p q → (at : Pos) → ProcessConfirms (unless_once at p) (unless_once at q)
passes_confirms p q h at file s =
    confirms_unless (is_read_once file.number s) (Ok (did [] (ReadOnce true at file.number s.before ∷ []) s)) (p file s) (q file s) (h file s)

included_confirms : (ctx : Context) (p q : Inner) → InnerConfirms p q → (file : SourceFile) (at : Pos) (next : Bool) (h : Header) (s : State)
    → Confirms (included ctx p file at next h s) (included ctx q file at next h s)
included_confirms ctx None q c file at next h s = tt
included_confirms ctx (Some p) None c file at next h s = absurd c
included_confirms ctx (Some p) (Some q) c file at next h s =
    let place_of : SourceFile → Option ℕ = λ f. behind_of next h s.behind file.path ctx.unit f.path in
    confirms_onward (open_header ctx file at next h s) (open_header ctx file at next h s) (λ f t. entered (unless_once at p) at (place_of f) f t) (λ f t. entered (unless_once at q) at (place_of f) f t)
    (confirms_refl (open_header ctx file at next h s)) (λ f t. entered_confirms (unless_once at p) (unless_once at q) (passes_confirms p q c at) at (place_of f) f t)

include_confirms : (ctx : Context) (p q : Inner) → InnerConfirms p q → (file : SourceFile) (at : Pos) (toks : List Token) (s : State)
    → Confirms (include_of ctx p file at toks s) (include_of ctx q file at toks s)
include_confirms ctx p q c file at toks s =
    confirms_onward (header_named file at (drop 2 toks) s) (header_named file at (drop 2 toks) s) (included ctx p file at false) (included ctx q file at false)
    (confirms_refl (header_named file at (drop 2 toks) s)) (λ h t. included_confirms ctx p q c file at false h t)

include_next_confirms : (ctx : Context) (p q : Inner) → InnerConfirms p q → (file : SourceFile) (at : Pos) (toks : List Token) (s : State)
    → Confirms (include_next_of ctx p file at toks s) (include_next_of ctx q file at toks s)
include_next_confirms ctx p q c file at toks s =
    confirms_onward (next_named file at (drop 2 toks) s) (next_named file at (drop 2 toks) s) (included ctx p file at true) (included ctx q file at true)
    (confirms_refl (next_named file at (drop 2 toks) s)) (λ h t. included_confirms ctx p q c file at true h t)

processed_confirms : (ctx : Context) (p q : Inner) → InnerConfirms p q → (file : SourceFile) (k : ItemKind) (at : Pos) (toks : List Token) (s : State)
    → Confirms (processed ctx p file k at toks s) (processed ctx q file k at toks s)
processed_confirms ctx p q c file kind.Include at toks s = include_confirms ctx p q c file at toks s
processed_confirms ctx p q c file kind.Run at toks s = confirms_refl (processed ctx p file kind.Run at toks s)
processed_confirms ctx p q c file kind.Define at toks s = confirms_refl (processed ctx p file kind.Define at toks s)
processed_confirms ctx p q c file kind.Undef at toks s = confirms_refl (processed ctx p file kind.Undef at toks s)
processed_confirms ctx p q c file kind.If at toks s = confirms_refl (processed ctx p file kind.If at toks s)
processed_confirms ctx p q c file kind.Ifdef at toks s = confirms_refl (processed ctx p file kind.Ifdef at toks s)
processed_confirms ctx p q c file kind.Ifndef at toks s = confirms_refl (processed ctx p file kind.Ifndef at toks s)
processed_confirms ctx p q c file kind.Elif at toks s = confirms_refl (processed ctx p file kind.Elif at toks s)
processed_confirms ctx p q c file kind.Else at toks s = confirms_refl (processed ctx p file kind.Else at toks s)
processed_confirms ctx p q c file kind.Endif at toks s = confirms_refl (processed ctx p file kind.Endif at toks s)
processed_confirms ctx p q c file kind.Line at toks s = confirms_refl (processed ctx p file kind.Line at toks s)
processed_confirms ctx p q c file kind.Error at toks s = confirms_refl (processed ctx p file kind.Error at toks s)
processed_confirms ctx p q c file kind.Pragma at toks s = confirms_refl (processed ctx p file kind.Pragma at toks s)
processed_confirms ctx p q c file kind.Empty at toks s = confirms_refl (processed ctx p file kind.Empty at toks s)
processed_confirms ctx p q c file (kind.Bad cause place nests) at toks s = tt
processed_confirms ctx p q c file (kind.Gnu gnu.IncludeNext) at toks s = include_next_confirms ctx p q c file at toks s
processed_confirms ctx p q c file (kind.Gnu gnu.Message) at toks s = confirms_refl (processed ctx p file (kind.Gnu gnu.Message) at toks s)
processed_confirms ctx p q c file (kind.Gnu gnu.Elifdef) at toks s = confirms_refl (processed ctx p file (kind.Gnu gnu.Elifdef) at toks s)
processed_confirms ctx p q c file (kind.Gnu gnu.Elifndef) at toks s = confirms_refl (processed ctx p file (kind.Gnu gnu.Elifndef) at toks s)

turned_confirms : (ctx : Context) (p q : Inner) → InnerConfirms p q → (file : SourceFile) (k : ℕ) (i : ItemText) (sections : List Section) (s : State) (turn : Turn)
    → Confirms (turned ctx p file k i sections s turn) (turned ctx q file k i sections s turn)
turned_confirms ctx p q c file k i sections s Stays =
    confirms_cond (are_processed sections) _ _ (only (stepped [] sections) s)
    (confirms_noted (Reaches file.number k false s.before ∷ []) _ _
    (confirms_onward (processed ctx p file i.kind i.at i.toks s) (processed ctx q file i.kind i.at i.toks s) (λ toks t. only (stepped toks sections) t) (λ toks t. only (stepped toks sections) t)
    (processed_confirms ctx p q c file i.kind i.at i.toks s) (λ toks t. refl)))
turned_confirms ctx p q c file k i sections s Opens = confirms_refl (turned ctx p file k i sections s Opens)
turned_confirms ctx p q c file k i sections s GoesOn = confirms_refl (turned ctx p file k i sections s GoesOn)
turned_confirms ctx p q c file k i sections s GoesLast = confirms_refl (turned ctx p file k i sections s GoesLast)
turned_confirms ctx p q c file k i sections s Ends = confirms_refl (turned ctx p file k i sections s Ends)

walk_confirms : (ctx : Context) (p q : Inner) → InnerConfirms p q → (file : SourceFile) (k : ℕ) (items : List ItemText) (sections : List Section) (s : State)
    → Confirms (walk ctx p file k items sections s) (walk ctx q file k items sections s)
unfolding walk
walk_confirms ctx p q c file k [] sections s = confirms_refl (file_end file sections s)
walk_confirms ctx p q c file k (i ∷ items) sections s =
    confirms_onward (item_step ctx p file k i sections s) (item_step ctx q file k i sections s) _ _
    (confirms_unless (is_foreign ctx.unit.standard i.kind) (foreign_line file i sections s) (turned ctx p file k i sections s (turn_of i.kind)) (turned ctx q file k i sections s (turn_of i.kind))
    (turned_confirms ctx p q c file k i sections s (turn_of i.kind)))
    (λ d t. confirms_onward (walk ctx p file (k + 1) items d.sections t) (walk ctx q file (k + 1) items d.sections t) _ _
    (walk_confirms ctx p q c file (k + 1) items d.sections t) (λ toks u. refl))

-- room for one file more
one_more : (ctx : Context) (room : ℕ) → ProcessConfirms (file_items ctx room) (file_items ctx (suc room))
unfolding file_items
one_more ctx zero file s = walk_confirms ctx None (Some (file_items ctx zero)) tt file 0 (items_in file) [] s
one_more ctx (suc room) file s = walk_confirms ctx (Some (file_items ctx room)) (Some (file_items ctx (suc room))) (one_more ctx room) file 0 (items_in file) [] s

confirmed : {A : Type 0} (m n : Outcome A) (d : Did A) → Confirms m n → ◌≡◌ {A = Outcome A} m (Ok d) → ◌≡◌ {A = Outcome A} n (Ok d)
confirmed {A} m n d c e = let at : Confirms (Ok d) n = subst (λ (x : Outcome A). Confirms x n) e c in at

pub depth_is_a_limit : (ctx : Context) (room more : ℕ) (file : SourceFile) (s : State) (d : Did (List Token))
    → file_items ctx room file s ≡ Ok d → file_items ctx (room + more) file s ≡ Ok d
depth_is_a_limit ctx room zero file s d h =
    let e : room + zero ≡ room = omega arith in rw e h
depth_is_a_limit ctx room (suc more) file s d h =
    let e : room + suc more ≡ suc (room + more) = omega arith in
    rw e (confirmed (file_items ctx (room + more) file s) (file_items ctx (suc (room + more)) file s) d (one_more ctx (room + more) file s)
    (depth_is_a_limit ctx room more file s d h))
