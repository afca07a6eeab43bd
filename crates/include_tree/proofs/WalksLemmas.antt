-- The walk over files that hold what a source holds, one call at a time.
use Rattle.std.proofs.Common.{◌≡◌, ℕ, ◌+◌, ◌-◌, ◌<◌, ◌≤◌, Bool, true, false, List, [], ◌∷◌, drop, length, Option, Some, None, Result, Ok, Err, refl, sym, ◌∙◌, ap, subst, arith}
use Rattle.std.specs.Prelude.{IfSome, slice_get}
use Rattle.cs_base.specs.Answer.{Gives}
use Rattle.cs_base.specs.declared.positions.Pos.{Pos}
use Rattle.cs_base.specs.declared.ws_units.Standard.{Standard}
use Rattle.cs_base.specs.Units.{UnitValue}
use Rattle.source_files.specs.declared.pre_fault.PreFault.{PreFault}
use Rattle.unit_steps.specs.declared.progress.Progress.{Progress}
use Rattle.include_tree.specs.declared.item_steps.FileLine.{FileLine}
use Rattle.include_tree.specs.declared.item_steps.FileLine.TheVariants as line
use Rattle.include_tree.specs.declared.item_steps.IncludeLine.{IncludeLine}
use Rattle.source_files.specs.Files.{Source, Table, SourceFile}
use Rattle.source_files.specs.Faults.{Fault}
use Rattle.unit_steps.specs.Notes.{Entered, Exited, ReadOnce}
use Rattle.unit_steps.specs.Directives.{is_read_once}
use Rattle.unit_steps.specs.State.{Context, State}
use Rattle.include_tree.specs.Sections.{Section}
use Rattle.source_files.specs.Search.{Header, behind_of}
use Rattle.unit_steps.specs.Expanding.{most_toks}
use Rattle.include_tree.specs.Including.{Inner, open_header, entered, unless_once, included}
use Rattle.include_tree.specs.Walk.{ItemText, items_in, item_step, file_end, walk, file_items}
use Rattle.unit_steps.specs.Texts.{UnitTextValue}
use Rattle.source_files.specs.Sources.{source_at, unit_most}
use Rattle.include_tree.specs.GivenFiles.{unit_context, GivesFile}
use Rattle.source_files.specs.Answers.{fault_of}
use Rattle.unit_steps.specs.Keeping.{noted_in, put_after}
use Rattle.unit_steps.specs.Moments.{state_in}
use Rattle.include_tree.specs.Walking.{stepped_after, with_sections, inner_in, given_line, GivesItem}
use Rattle.unit_steps.proofs.KeepingLemmas.{put-nil}
use Rattle.include_tree.proofs.StayingLemmas.{some_all, some_three, some_at, source-number}
use Rattle.include_tree.proofs.WalkingLemmas.{fault_on}
use Rattle.include_tree.proofs.WalkedLemmas.{place_of, some-more, some-fault, walk-end, items-walk, included-fault, included-open, entered-fault, entered-done}

-- ---- what is known under a call's answers

gives-sections : (r : Result (Unit {0}) PreFault) (sections : List Section) (s : State) (k : UnitTextValue) (x : Result (State × UnitTextValue) Fault)
    (y : Result (List Section × State × UnitTextValue) Fault) → y ≡ with_sections sections x → Gives (λ _. (s, k)) fault_of r x → Gives (λ _. (sections, s, k)) fault_of r y
gives-sections (Ok u) sections s k x y is h = is ∙ ap (with_sections sections) h
gives-sections (Err e) sections s k x y is h = fault_on (fault_of e) x y h (λ f same. is ∙ ap (with_sections sections) same)

gives-along : (r : Result (Unit {0}) PreFault) (s : State) (k : UnitTextValue) (x y : Result (State × UnitTextValue) Fault) → y ≡ x
    → Gives (λ _. (s, k)) fault_of r x → Gives (λ _. (s, k)) fault_of r y
gives-along r s k x y is h = subst (λ (z : Result (State × UnitTextValue) Fault). Gives (λ _. (s, k)) fault_of r z) (sym is) h

-- ---- an item

-- an item that is no include line, or whose own part has a fault
pub item-told : (source : Source) (q : Option SourceFile) (unit : UnitValue) (toks most room k : ℕ) (sections more : List Section) (s t : State) (text new : UnitTextValue)
    (r : Result (Option FileLine) PreFault) (standard : Standard) → most ≡ unit_most toks → standard ≡ unit.standard
    → ((ctx : Context) (inner : Inner) → most_toks ctx ≡ most → ctx.unit.standard ≡ standard
    → IfSome q (λ file. IfSome (slice_get (items_in file) k) (λ i. GivesItem ctx inner file r more t new (stepped_after text (item_step ctx inner file k i sections s)))))
    → IfSome q (λ file. IfSome (slice_get (items_in file) k) (λ i.
    GivesItem (unit_context source unit toks) (inner_in (unit_context source unit toks) room) file r more t new
    (stepped_after text (item_step (unit_context source unit toks) (inner_in (unit_context source unit toks) room) file k i sections s))))
item-told source q unit toks most room k sections more s t text new r standard limit is h =
    h (unit_context source unit toks) (inner_in (unit_context source unit toks) room) (sym limit) (sym is)

gives-same : {A : Type 0} (r : Result (Unit {0}) PreFault) (v : A) (x y : Result A Fault) → y ≡ x → Gives (λ _. v) fault_of r x → Gives (λ _. v) fault_of r y
gives-same {A} r v x y is h = subst (λ (z : Result A Fault). Gives (λ _. v) fault_of r z) (sym is) h

item-of : (ctx : Context) (inner : Inner) (file : SourceFile) (z : Option ItemText) (k : ℕ) (sections more last : List Section) (s t u : State) (text new newer : UnitTextValue)
    (l : FileLine) (r : Result (Unit {0}) PreFault)
    → IfSome z (λ i. GivesItem ctx inner file (Ok (Some l)) more t new (stepped_after text (item_step ctx inner file k i sections s)))
    → Gives (λ _. (last, u, newer)) fault_of r (given_line ctx inner file l more t new)
    → IfSome z (λ i. Gives (λ _. (last, u, newer)) fault_of r (stepped_after text (item_step ctx inner file k i sections s)))
item-of ctx inner file None k sections more last s t u text new newer l r h g = tt
item-of ctx inner file (Some i) k sections more last s t u text new newer l r h g =
    gives-same r (last, u, newer) (given_line ctx inner file l more t new) (stepped_after text (item_step ctx inner file k i sections s)) h g

-- a line for which files were asked
pub item-included : (source : Source) (q : Option SourceFile) (unit : UnitValue) (toks most room k : ℕ) (sections more last : List Section) (s t u : State) (text new newer : UnitTextValue)
    (l : FileLine) (r : Result (Unit {0}) PreFault) (standard : Standard) → most ≡ unit_most toks → standard ≡ unit.standard
    → ((ctx : Context) (inner : Inner) → most_toks ctx ≡ most → ctx.unit.standard ≡ standard
    → IfSome q (λ file. IfSome (slice_get (items_in file) k) (λ i. GivesItem ctx inner file (Ok (Some l)) more t new (stepped_after text (item_step ctx inner file k i sections s)))))
    → IfSome q (λ file. Gives (λ _. (last, u, newer)) fault_of r
    (given_line (unit_context source unit toks) (inner_in (unit_context source unit toks) room) file l more t new))
    → IfSome q (λ file. IfSome (slice_get (items_in file) k) (λ i. Gives (λ _. (last, u, newer)) fault_of r
    (stepped_after text (item_step (unit_context source unit toks) (inner_in (unit_context source unit toks) room) file k i sections s))))
item-included source None unit toks most room k sections more last s t u text new newer l r standard limit is h g = tt
item-included source (Some file) unit toks most room k sections more last s t u text new newer l r standard limit is h g =
    item-of (unit_context source unit toks) (inner_in (unit_context source unit toks) room) file (slice_get (items_in file) k) k sections more last s t u text new newer l r
    (h (unit_context source unit toks) (inner_in (unit_context source unit toks) room) (sym limit) (sym is)) g

-- an include line whose file took its place
pub line-included : (ctx : Context) (inner : Inner) (q : Option SourceFile) (l : IncludeLine) (sections : List Section) (s u : State) (k new : UnitTextValue) (r : Result (Unit {0}) PreFault)
    → IfSome q (λ file. Gives (λ _. (u, new)) fault_of r (put_after k (included ctx inner file l.at l.next l.header s)))
    → IfSome q (λ file. Gives (λ _. (sections, u, new)) fault_of r (given_line ctx inner file (line.Include l) sections s k))
line-included ctx inner None l sections s u k new r h = tt
line-included ctx inner (Some file) l sections s u k new r h =
    let m : Result (State × UnitTextValue) Fault = put_after k (included ctx inner file l.at l.next l.header s) in
    gives-sections r sections u new m (with_sections sections m) refl h

-- ---- an include line

pub include-fault : (source : Source) (q : Option SourceFile) (unit : UnitValue) (toks room : ℕ) (at : Pos) (next : Bool) (h : Header) (s : State) (k : UnitTextValue) (e : PreFault) (table : Table)
    → 0 < room
    → IfSome q (λ file. (t : State) → t.table ≡ s.table → t.behind ≡ s.behind → GivesFile (Err e) (open_header (unit_context source unit toks) file at next h t) table t)
    → IfSome q (λ file. IfSome (fault_of e) (λ f.
    put_after k (included (unit_context source unit toks) (inner_in (unit_context source unit toks) room) file at next h s) ≡ Err f))
include-fault source None unit toks room at next h s k e table some g = tt
include-fault source (Some file) unit toks room at next h s k e table some g =
    fault_on (fault_of e) (open_header (unit_context source unit toks) file at next h s) (put_after k (included (unit_context source unit toks) (inner_in (unit_context source unit toks) room) file at next h s))
    (g s refl refl) (λ f is. included-fault (unit_context source unit toks) room file at next h s k f some is)

-- what the items of an included file give, in which a search for the next file of a name begins there
abbrev EntersSo : Context → ℕ → Pos → Option ℕ → State → State → UnitTextValue → UnitTextValue → Result (Unit {0}) PreFault → SourceFile → Type 0
EntersSo ctx room at behind t u k new r inner = Gives (λ _. (u, new)) fault_of r (put_after k (entered (unless_once at (file_items ctx (room - 1))) at behind inner t))

open-of : (ctx : Context) (room : ℕ) (file : SourceFile) (at : Pos) (next : Bool) (h : Header) (behind : Option ℕ) (s u : State) (k new : UnitTextValue) (table : Table) (n : ℕ) (r : Result (Unit {0}) PreFault) → 0 < room
    → GivesFile (Ok n) (open_header ctx file at next h s) table s
    → IfSome (source_at table n) (λ inner. behind ≡ place_of ctx file next h s inner)
    → IfSome (source_at table n) (EntersSo ctx room at behind (record s { table = table }) u k new r)
    → Gives (λ _. (u, new)) fault_of r (put_after k (included ctx (inner_in ctx room) file at next h s))
open-of ctx room file at next h behind s u k new table n r some g begins e =
    let t : State = record s { table = table } in
    let there : behind ≡ place_of ctx file next h s g.0 = subst (λ (o : Option SourceFile). IfSome o (λ inner. behind ≡ place_of ctx file next h s inner)) g.1 begins in
    let enters : EntersSo ctx room at behind t u k new r g.0 = subst (λ (o : Option SourceFile). IfSome o (EntersSo ctx room at behind t u k new r)) g.1 e in
    gives-along r u new (put_after k (entered (unless_once at (file_items ctx (room - 1))) at (place_of ctx file next h s g.0) g.0 t)) (put_after k (included ctx (inner_in ctx room) file at next h s))
    (included-open ctx room file at next h s k g.0 t some g.2)
    (subst (λ (b : Option ℕ). EntersSo ctx room at b t u k new r g.0) there enters)

pub include-open : (source : Source) (q q1 : Option SourceFile) (unit : UnitValue) (toks toks1 room : ℕ) (at : Pos) (next : Bool) (h : Header) (behind : Option ℕ) (s u : State) (k new : UnitTextValue) (table : Table) (n : ℕ)
    (r : Result (Unit {0}) PreFault) → 0 < room → toks1 ≡ toks → q1 ≡ q
    → IfSome q (λ file. (t : State) → t.table ≡ s.table → t.behind ≡ s.behind → GivesFile (Ok n) (open_header (unit_context source unit toks) file at next h t) table t)
    → IfSome q1 (λ file. IfSome (source_at table n) (λ inner. behind ≡ behind_of next h s.behind file.path unit inner.path))
    → IfSome (source_at table n) (EntersSo (unit_context source unit toks1) room at behind (record s { table = table }) u k new r)
    → IfSome q (λ file. Gives (λ _. (u, new)) fault_of r
    (put_after k (included (unit_context source unit toks) (inner_in (unit_context source unit toks) room) file at next h s)))
include-open source None q1 unit toks toks1 room at next h behind s u k new table n r some count same g begins e = tt
include-open source (Some file) q1 unit toks toks1 room at next h behind s u k new table n r some count same g begins e =
    open-of (unit_context source unit toks) room file at next h behind s u k new table n r some (g s refl refl)
    (subst (λ (o : Option SourceFile). IfSome o (λ f. IfSome (source_at table n) (λ inner. behind ≡ behind_of next h s.behind f.path unit inner.path))) same begins)
    (subst (λ (c : ℕ). IfSome (source_at table n) (EntersSo (unit_context source unit c) room at behind (record s { table = table }) u k new r)) count e)

-- ---- a file that is entered and left

module _ (unit : UnitValue) (toks room : ℕ) (table : Table) (n : ℕ) (at : Pos) (behind : Option ℕ) (p0 p1 : Progress)
    (enters : p1 ≡ record p0 { text = noted_in p0.text (Entered at n (length p0.text.toks) ∷ []) }) where
  -- the items of a file, in which a search for the next file of a name begins there
  abbrev inside : Source → SourceFile → Progress → UnitTextValue → Result (State × UnitTextValue) Fault
  inside source file p text = put_after text (unless_once at (file_items (unit_context source unit toks) room) file (record (state_in table p) { behind = behind }))

  abbrev around : Source → SourceFile → Result (State × UnitTextValue) Fault
  around source file = put_after p0.text (entered (unless_once at (file_items (unit_context source unit toks) room)) at behind file (state_in table p0))

  enter-of : (source : Source) (file : SourceFile) (x : Result (State × UnitTextValue) Fault) → inside source file p1 p1.text ≡ x
      → inside source file p0 (noted_in p0.text (Entered at n (length p0.text.toks) ∷ [])) ≡ x
  enter-of source file x h = subst (λ (p : Progress). inside source file p p.text ≡ x) enters h

  pub enter-done : (source : Source) (table2 : Table) (p2 p3 : Progress)
      → p3 ≡ record p2 { text = noted_in p2.text (Exited at n (length p2.text.toks) ∷ []); behind = p1.behind }
      → IfSome (source_at table n) (λ file. inside source file p1 p1.text ≡ Ok (state_in table2 p2, p2.text))
      → IfSome (source_at table n) (λ file. around source file ≡ Ok (state_in table2 p3, p3.text))
  enter-done source table2 p2 p3 leaves h =
      let last : UnitTextValue = noted_in p2.text (Exited at n (length p2.text.toks) ∷ []) in
      let same : p0.behind ≡ p1.behind = ap (λ (p : Progress). p.behind) (sym enters) in
      some_at (source_at table n) (λ file. inside source file p1 p1.text ≡ Ok (state_in table2 p2, p2.text)) (λ file. around source file ≡ Ok (state_in table2 p3, p3.text)) h
      (λ file is e. entered-done (unless_once at (file_items (unit_context source unit toks) room)) at behind file n (state_in table p0) (state_in table2 p2) p0.text p2.text (source-number table n file is)
      (enter-of source file (Ok (state_in table2 p2, p2.text)) e)
      ∙ ap (λ (b : Option ℕ). Ok (record (state_in table2 p2) { behind = b }, last)) same
      ∙ ap (λ (p : Progress). Ok (state_in table2 p, p.text)) (sym leaves))

  pub enter-fault : (source : Source) (found : Option Fault)
      → IfSome (source_at table n) (λ file. IfSome found (λ f. inside source file p1 p1.text ≡ Err f))
      → IfSome (source_at table n) (λ file. IfSome found (λ f. around source file ≡ Err f))
  enter-fault source found h =
      some_at (source_at table n) (λ file. IfSome found (λ f. inside source file p1 p1.text ≡ Err f)) (λ file. IfSome found (λ f. around source file ≡ Err f)) h
      (λ file is e. fault_on found (inside source file p1 p1.text) (around source file) e
      (λ f same. entered-fault (unless_once at (file_items (unit_context source unit toks) room)) at behind file n (state_in table p0) p0.text f (source-number table n file is) (enter-of source file (Err f) same)))

-- ---- a file that is read once

module _ (source : Source) (unit : UnitValue) (toks room n : ℕ) (at : Pos) (s t : State) (k k2 : UnitTextValue) where
  -- it was read
  pub once-passed : (q : Option SourceFile) → ((file : SourceFile) → q ≡ Some file → file.number ≡ n) → is_read_once n s ≡ true
      → t ≡ s → k2 ≡ noted_in k (ReadOnce true at n s.before ∷ [])
      → IfSome q (λ file. put_after k (unless_once at (file_items (unit_context source unit toks) room) file s) ≡ Ok (t, k2))
  once-passed None number is same noted = tt
  once-passed (Some file) number is same noted =
      rw (number file refl, is)
      (ap (λ (x : UnitTextValue). Ok (s, x)) (put-nil (noted_in k (ReadOnce true at n s.before ∷ [])) ∙ sym noted) ∙ ap (λ (u : State). Ok (u, k2)) (sym same))

  -- it was not
  pub once-read : (q : Option SourceFile) (r : Result (Unit {0}) PreFault) → ((file : SourceFile) → q ≡ Some file → file.number ≡ n) → is_read_once n s ≡ false
      → IfSome q (λ file. Gives (λ _. (t, k2)) fault_of r (put_after k (file_items (unit_context source unit toks) room file s)))
      → IfSome q (λ file. Gives (λ _. (t, k2)) fault_of r (put_after k (unless_once at (file_items (unit_context source unit toks) room) file s)))
  once-read None r number is h = tt
  once-read (Some file) r number is h =
      let same : is_read_once file.number s ≡ false = ap (λ (i : ℕ). is_read_once i s) (number file refl) ∙ is in
      rw same h

-- ---- the items of a file

module _ (source : Source) (q : Option SourceFile) (unit : UnitValue) (toks room : ℕ) (start : State) (before : UnitTextValue) where
  -- what the items of a file give all together, and from number k on
  abbrev pub all_of : SourceFile → Result (State × UnitTextValue) Fault
  all_of file = put_after before (file_items (unit_context source unit toks) room file start)

  abbrev pub rest_of : SourceFile → ℕ → List Section → State → UnitTextValue → Result (State × UnitTextValue) Fault
  rest_of file k sections s text =
      put_after text (walk (unit_context source unit toks) (inner_in (unit_context source unit toks) room) file k (drop k (items_in file)) sections s)

  abbrev pub item_of : SourceFile → ℕ → ℕ → ItemText → List Section → State → UnitTextValue → Result (List Section × State × UnitTextValue) Fault
  item_of file count k i sections s text =
      stepped_after text (item_step (unit_context source unit count) (inner_in (unit_context source unit count) room) file k i sections s)

  pub walk-starts : (sections : List Section) → sections ≡ [] → IfSome q (λ file. all_of file ≡ rest_of file 0 sections start before)
  walk-starts sections none =
      some_all q (λ file. all_of file ≡ rest_of file 0 sections start before)
      (λ file. ap (put_after before) (items-walk (unit_context source unit toks) room file start)
      ∙ ap (λ (xs : List Section). rest_of file 0 xs start before) (sym none))

  module _ (q1 : Option SourceFile) (toks1 n k : ℕ) (sections : List Section) (s : State) (text : UnitTextValue)
      (same : q1 ≡ q) (counted : toks1 ≡ toks) (count : IfSome q (λ file. n ≡ length (items_in file))) (within : k < n)
      (rest : IfSome q (λ file. all_of file ≡ rest_of file k sections s text)) where
    -- what an item gives, where the file and the count are the same as before
    item-here : (P : Result (List Section × State × UnitTextValue) Fault → Type 0)
        → IfSome q1 (λ file. IfSome (slice_get (items_in file) k) (λ i. P (item_of file toks1 k i sections s text)))
        → IfSome q (λ file. IfSome (slice_get (items_in file) k) (λ i. P (item_of file toks k i sections s text)))
    item-here P h =
        subst (λ (c : ℕ). IfSome q (λ file. IfSome (slice_get (items_in file) k) (λ i. P (item_of file c k i sections s text)))) counted
        (subst (λ (x : Option SourceFile). IfSome x (λ file. IfSome (slice_get (items_in file) k) (λ i. P (item_of file toks1 k i sections s text)))) same h)

    pub walk-goes : (more : List Section) (t : State) (new : UnitTextValue)
        → IfSome q1 (λ file. IfSome (slice_get (items_in file) k) (λ i. item_of file toks1 k i sections s text ≡ Ok (more, t, new)))
        → IfSome q (λ file. all_of file ≡ rest_of file (k + 1) more t new)
    walk-goes more t new h =
        some_three q (λ file. all_of file ≡ rest_of file k sections s text) (λ file. n ≡ length (items_in file))
        (λ file. IfSome (slice_get (items_in file) k) (λ i. item_of file toks k i sections s text ≡ Ok (more, t, new)))
        (λ file. all_of file ≡ rest_of file (k + 1) more t new) rest count
        (item-here (λ (x : Result (List Section × State × UnitTextValue) Fault). x ≡ Ok (more, t, new)) h)
        (λ file x c y. x ∙ some-more (unit_context source unit toks) (inner_in (unit_context source unit toks) room) file k (items_in file) sections s text more t new (omega (arith, c, within)) y)

    pub walk-faulted : (found : Option Fault)
        → IfSome q1 (λ file. IfSome (slice_get (items_in file) k) (λ i. IfSome found (λ f. item_of file toks1 k i sections s text ≡ Err f)))
        → IfSome q (λ file. IfSome found (λ f. all_of file ≡ Err f))
    walk-faulted found h =
        some_three q (λ file. all_of file ≡ rest_of file k sections s text) (λ file. n ≡ length (items_in file))
        (λ file. IfSome (slice_get (items_in file) k) (λ i. IfSome found (λ f. item_of file toks k i sections s text ≡ Err f)))
        (λ file. IfSome found (λ f. all_of file ≡ Err f)) rest count
        (item-here (λ (x : Result (List Section × State × UnitTextValue) Fault). IfSome found (λ f. x ≡ Err f)) h)
        (λ file x c y. fault_on found (rest_of file k sections s text) (all_of file)
        (some-fault (unit_context source unit toks) (inner_in (unit_context source unit toks) room) file k (items_in file) sections s text found (omega (arith, c, within)) y)
        (λ f is. x ∙ is))

  pub walk-ends : (q1 : Option SourceFile) (n k : ℕ) (sections : List Section) (s : State) (text : UnitTextValue) (r : Result (Unit {0}) PreFault) → q1 ≡ q
      → IfSome q (λ file. n ≡ length (items_in file)) → n ≤ k
      → IfSome q (λ file. all_of file ≡ rest_of file k sections s text)
      → IfSome q1 (λ file. (t : State) (x : UnitTextValue) → Gives (λ _. (t, x)) fault_of r (put_after x (file_end file sections t)))
      → IfSome q (λ file. Gives (λ _. (s, text)) fault_of r (all_of file))
  walk-ends q1 n k sections s text r same count past rest end =
      some_three q (λ file. all_of file ≡ rest_of file k sections s text) (λ file. n ≡ length (items_in file))
      (λ file. (t : State) (x : UnitTextValue) → Gives (λ _. (t, x)) fault_of r (put_after x (file_end file sections t))) (λ file. Gives (λ _. (s, text)) fault_of r (all_of file)) rest count
      (subst (λ (x : Option SourceFile). IfSome x (λ file. (t : State) (y : UnitTextValue) → Gives (λ _. (t, y)) fault_of r (put_after y (file_end file sections t)))) same end)
      (λ file x c y. gives-along r s text (put_after text (file_end file sections s)) (all_of file)
      (x ∙ walk-end (unit_context source unit toks) (inner_in (unit_context source unit toks) room) file k (items_in file) sections s text (omega (arith, c, past))) (y s text))
