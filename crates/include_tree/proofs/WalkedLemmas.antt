-- The walk over the items of files, one item at a time.
use Rattle.std.proofs.Common.{◌≡◌, ℕ, zero, suc, ◌+◌, ◌-◌, ◌<◌, ◌≤◌, Bool, List, [], ◌∷◌, ◌++◌, drop, length, Option, Some, None, Ok, Err, refl, sym, ◌∙◌, ap, subst, arith, append_assoc}
use Rattle.std.specs.Prelude.{IfSome, slice_get}
use Rattle.std.proofs.lemmas.List.{append-nil}
use Rattle.cs_base.specs.Token.{Token}
use Rattle.cs_base.specs.declared.positions.Pos.{Pos}
use Rattle.cs_base.proofs.ListLemmas.{drop-some}
use Rattle.source_files.specs.Files.{SourceFile}
use Rattle.source_files.specs.Faults.{Fault}
use Rattle.unit_steps.specs.Notes.{Note, Entered, Exited}
use Rattle.unit_steps.specs.State.{Context, State, Did, did, Outcome, only, noted, onward}
use Rattle.unit_steps.proofs.GoingLemmas.{done_same, err_same}
use Rattle.source_files.proofs.SearchedLemmas.{drop-past}
use Rattle.include_tree.specs.Sections.{Section}
use Rattle.source_files.specs.Search.{Header, behind_of}
use Rattle.include_tree.specs.Including.{Process, Inner, open_header, left_to, entered, unless_once, included}
use Rattle.include_tree.specs.Walk.{ItemText, items_in, Stepped, item_step, file_end, walk, file_items}
use Rattle.unit_steps.specs.Texts.{UnitTextValue}
use Rattle.unit_steps.specs.Keeping.{noted_in, put_in, put_after}
use Rattle.include_tree.specs.OpenSections.{innermost_of}
use Rattle.include_tree.specs.Walking.{stepped_after, inner_in}
use Rattle.unit_steps.proofs.KeepingLemmas.{noted_in-append, noted_in-nil, put-noted}
use Rattle.unit_steps.proofs.VisitLemmas.{unsaid-known as put-only}
use Rattle.include_tree.proofs.WalkingLemmas.{fault_on}

-- ---- one item behind another

pub get-some : {X : Type 0} (xs : List X) (k : ℕ) → k < length xs → (x : X) × (slice_get xs k ≡ Some x)
get-some [] k h = absurd (omega (arith, h))
get-some (x ∷ xs) zero h = (x, refl)
get-some (x ∷ xs) (suc k) h = get-some xs k (omega (arith, h))

put_behind : (k : UnitTextValue) (notes more : List Note) (toks out : List Token)
    → put_in (noted_in k (notes ++ (more ++ []))) (toks ++ out) ≡ put_in (noted_in (put_in (noted_in k notes) toks) more) out
put_behind k notes more toks out =
    ap (λ (ns : List Note). put_in (noted_in k (notes ++ ns)) (toks ++ out)) (append-nil more)
    ∙ ap (λ (t : UnitTextValue). put_in t (toks ++ out)) (noted_in-append k notes more)
    ∙ ap (λ (ts : List Token). record (noted_in (noted_in k notes) more) { toks = ts }) (sym (append_assoc k.toks toks out))

step_then : (k : UnitTextValue) (d : Did Stepped) (m : Outcome (List Token))
    → put_after k (noted d.notes (onward m (λ toks u. only (d.value.toks ++ toks) u))) ≡ put_after (put_in (noted_in k d.notes) d.value.toks) m
step_then k d (Ok w) = ap (λ (t : UnitTextValue). Ok (w.state, t)) (put_behind k d.notes w.notes d.value.toks w.value)
step_then k d (Err f) = refl

-- what follows an item
abbrev pub behind : (List Section → State → Outcome (List Token)) → Stepped → State → Outcome (List Token)
behind next d t = onward (next d.sections t) (λ toks u. only (d.toks ++ toks) u)

step-done : (k k2 : UnitTextValue) (m : Outcome Stepped) (next : List Section → State → Outcome (List Token)) (sections : List Section) (t : State)
    → stepped_after k m ≡ Ok (sections, t, k2) → put_after k (onward m (behind next)) ≡ put_after k2 (next sections t)
step-done k k2 (Ok d) next sections t h =
    step_then k d (next d.value.sections d.state)
    ∙ ap (λ (r : List Section × State × UnitTextValue). put_after r.2 (next r.0 r.1))
    (done_same (d.value.sections, d.state, put_in (noted_in k d.notes) d.value.toks) (sections, t, k2) h)
step-done k k2 (Err f) next sections t h = absurd (cc)

step-fault : (k : UnitTextValue) (m : Outcome Stepped) (next : List Section → State → Outcome (List Token)) (f : Fault)
    → stepped_after k m ≡ Err f → put_after k (onward m (behind next)) ≡ Err f
step-fault k (Ok d) next f h = absurd (cc)
step-fault k (Err g) next f h = ap (λ (x : Fault). Err x) (err_same {A = List Section × State × UnitTextValue} g f h)

module _ (ctx : Context) (inner : Inner) (file : SourceFile) (k : ℕ) (items : List ItemText) (sections : List Section) (s : State) (text : UnitTextValue) where
  pub walk-more : (i : ItemText) (more : List Section) (t : State) (new : UnitTextValue) → slice_get items k ≡ Some i
      → stepped_after text (item_step ctx inner file k i sections s) ≡ Ok (more, t, new)
      → put_after text (walk ctx inner file k (drop k items) sections s) ≡ put_after new (walk ctx inner file (k + 1) (drop (k + 1) items) more t)
  unfolding walk
  walk-more i more t new at h =
      ap (λ (is : List ItemText). put_after text (walk ctx inner file k is sections s)) (drop-some items k i at)
      ∙ step-done text new (item_step ctx inner file k i sections s) (walk ctx inner file (k + 1) (drop (k + 1) items)) more t h

  pub walk-fault : (i : ItemText) (f : Fault) → slice_get items k ≡ Some i → stepped_after text (item_step ctx inner file k i sections s) ≡ Err f
      → put_after text (walk ctx inner file k (drop k items) sections s) ≡ Err f
  unfolding walk
  walk-fault i f at h =
      ap (λ (is : List ItemText). put_after text (walk ctx inner file k is sections s)) (drop-some items k i at)
      ∙ step-fault text (item_step ctx inner file k i sections s) (walk ctx inner file (k + 1) (drop (k + 1) items)) f h

  pub walk-end : length items ≤ k → put_after text (walk ctx inner file k (drop k items) sections s) ≡ put_after text (file_end file sections s)
  unfolding walk
  walk-end past = ap (λ (is : List ItemText). put_after text (walk ctx inner file k is sections s)) (drop-past items k past)

pub some-more : (ctx : Context) (inner : Inner) (file : SourceFile) (k : ℕ) (items : List ItemText) (sections : List Section) (s : State) (text : UnitTextValue)
    (more : List Section) (t : State) (new : UnitTextValue) → k < length items
    → IfSome (slice_get items k) (λ i. stepped_after text (item_step ctx inner file k i sections s) ≡ Ok (more, t, new))
    → put_after text (walk ctx inner file k (drop k items) sections s) ≡ put_after new (walk ctx inner file (k + 1) (drop (k + 1) items) more t)
some-more ctx inner file k items sections s text more t new within h =
    let i : (x : ItemText) × (slice_get items k ≡ Some x) = get-some items k within in
    let step : stepped_after text (item_step ctx inner file k i.0 sections s) ≡ Ok (more, t, new) =
    subst (λ (o : Option ItemText). IfSome o (λ x. stepped_after text (item_step ctx inner file k x sections s) ≡ Ok (more, t, new))) i.1 h in
    walk-more ctx inner file k items sections s text i.0 more t new i.1 step

pub some-fault : (ctx : Context) (inner : Inner) (file : SourceFile) (k : ℕ) (items : List ItemText) (sections : List Section) (s : State) (text : UnitTextValue)
    (q : Option Fault) → k < length items
    → IfSome (slice_get items k) (λ i. IfSome q (λ f. stepped_after text (item_step ctx inner file k i sections s) ≡ Err f))
    → IfSome q (λ f. put_after text (walk ctx inner file k (drop k items) sections s) ≡ Err f)
some-fault ctx inner file k items sections s text q within h =
    let i : (x : ItemText) × (slice_get items k ≡ Some x) = get-some items k within in
    let step : IfSome q (λ f. stepped_after text (item_step ctx inner file k i.0 sections s) ≡ Err f) =
    subst (λ (o : Option ItemText). IfSome o (λ x. IfSome q (λ f. stepped_after text (item_step ctx inner file k x sections s) ≡ Err f))) i.1 h in
    fault_on q (stepped_after text (item_step ctx inner file k i.0 sections s)) _ step (λ f same. walk-fault ctx inner file k items sections s text i.0 f i.1 same)

-- the items of a file
pub items-walk : (ctx : Context) (room : ℕ) (file : SourceFile) (s : State) → file_items ctx room file s ≡ walk ctx (inner_in ctx room) file 0 (items_in file) [] s
unfolding file_items
items-walk ctx zero file s = refl
items-walk ctx (suc room) file s = refl

-- the end of a file
pub none-open : (sections : List Section) → ◌≡◌ {A = Option Section} None (innermost_of sections) → sections ≡ []
none-open [] h = refl
none-open (s ∷ sections) h = absurd (let none : ◌≡◌ {A = Option Section} None (Some s) = h in cc)

pub end-none : (text : UnitTextValue) (file : SourceFile) (sections : List Section) (s : State) → sections ≡ [] → put_after text (file_end file sections s) ≡ Ok (s, text)
end-none text file sections s is = ap (λ (xs : List Section). put_after text (file_end file xs s)) is ∙ put-only text s

-- ---- files that are included

-- where a search for the next file of a name begins in one
abbrev pub place_of : Context → SourceFile → Bool → Header → State → SourceFile → Option ℕ
place_of ctx file next h s inner = behind_of next h s.behind file.path ctx.unit inner.path

abbrev enters : Context → ℕ → SourceFile → Pos → Bool → Header → State → SourceFile → State → Outcome (List Token)
enters ctx room file at next h s inner t = entered (unless_once at (file_items ctx room)) at (place_of ctx file next h s inner) inner t

pub included-fault : (ctx : Context) (room : ℕ) (file : SourceFile) (at : Pos) (next : Bool) (h : Header) (s : State) (k : UnitTextValue) (f : Fault) → 0 < room
    → open_header ctx file at next h s ≡ Err f → put_after k (included ctx (inner_in ctx room) file at next h s) ≡ Err f
included-fault ctx zero file at next h s k f some is = absurd (omega (arith, some))
included-fault ctx (suc room) file at next h s k f some is = ap (λ (o : Outcome SourceFile). put_after k (onward o (enters ctx room file at next h s))) is

pub included-open : (ctx : Context) (room : ℕ) (file : SourceFile) (at : Pos) (next : Bool) (h : Header) (s : State) (k : UnitTextValue) (inner : SourceFile) (t : State) → 0 < room
    → open_header ctx file at next h s ≡ Ok (did inner [] t)
    → put_after k (included ctx (inner_in ctx room) file at next h s) ≡ put_after k (entered (unless_once at (file_items ctx (room - 1))) at (place_of ctx file next h s inner) inner t)
included-open ctx zero file at next h s k inner t some is = absurd (omega (arith, some))
included-open ctx (suc room) file at next h s k inner t some is =
    let n : suc room - 1 ≡ room = omega arith in
    rw n (ap (λ (o : Outcome SourceFile). put_after k (onward o (enters ctx room file at next h s))) is
    ∙ put-noted k [] (enters ctx room file at next h s inner t)
    ∙ ap (λ (x : UnitTextValue). put_after x (enters ctx room file at next h s inner t)) (noted_in-nil k))

entered-by : (k k2 : UnitTextValue) (note : Note) (last : State → Note) (behind : Option ℕ) (m : Outcome (List Token)) (t : State) → put_after (noted_in k (note ∷ [])) m ≡ Ok (t, k2)
    → put_after k (noted (note ∷ []) (left_to behind (onward m (λ toks u. Ok (did toks (last u ∷ []) u))))) ≡ Ok (record t { behind = behind }, noted_in k2 (last t ∷ []))
entered-by k k2 note last behind (Ok d) t h =
    let one = noted_in k (note ∷ []) in
    ap (λ (x : UnitTextValue). Ok (record d.state { behind = behind }, put_in x d.value))
    (noted_in-append k (note ∷ []) (d.notes ++ last d.state ∷ []) ∙ noted_in-append one d.notes (last d.state ∷ []))
    ∙ ap (λ (r : State × UnitTextValue). Ok (record r.0 { behind = behind }, noted_in r.1 (last r.0 ∷ []))) (done_same (d.state, put_in (noted_in one d.notes) d.value) (t, k2) h)
entered-by k k2 note last behind (Err f) t h = absurd (cc)

enters-fault : (k : UnitTextValue) (note : Note) (behind : Option ℕ) (m : Outcome (List Token)) (next : List Token → State → Outcome (List Token)) (f : Fault)
    → put_after (noted_in k (note ∷ [])) m ≡ Err f → put_after k (noted (note ∷ []) (left_to behind (onward m next))) ≡ Err f
enters-fault k note behind (Ok d) next f h = absurd (cc)
enters-fault k note behind (Err g) next f h = h

-- the fault of an included file
pub entered-fault : (process : Process) (at : Pos) (behind : Option ℕ) (file : SourceFile) (n : ℕ) (s : State) (k : UnitTextValue) (f : Fault) → file.number ≡ n
    → put_after (noted_in k (Entered at n s.before ∷ [])) (process file (record s { behind = behind })) ≡ Err f → put_after k (entered process at behind file s) ≡ Err f
entered-fault process at behind file n s k f number h =
    let m : Outcome (List Token) = process file (record s { behind = behind }) in
    ap (λ (m_ : ℕ). put_after k (noted (Entered at m_ s.before ∷ []) (left_to s.behind (onward m (λ toks u. Ok (did toks (Exited at m_ u.before ∷ []) u)))))) number
    ∙ enters-fault k (Entered at n s.before) s.behind m (λ toks u. Ok (did toks (Exited at n u.before ∷ []) u)) f h

-- the items of an included file, entered and left
pub entered-done : (process : Process) (at : Pos) (behind : Option ℕ) (file : SourceFile) (n : ℕ) (s t : State) (k k2 : UnitTextValue) → file.number ≡ n
    → put_after (noted_in k (Entered at n s.before ∷ [])) (process file (record s { behind = behind })) ≡ Ok (t, k2)
    → put_after k (entered process at behind file s) ≡ Ok (record t { behind = s.behind }, noted_in k2 (Exited at n t.before ∷ []))
entered-done process at behind file n s t k k2 number h =
    let m : Outcome (List Token) = process file (record s { behind = behind }) in
    ap (λ (m_ : ℕ). put_after k (noted (Entered at m_ s.before ∷ []) (left_to s.behind (onward m (λ toks u. Ok (did toks (Exited at m_ u.before ∷ []) u)))))) number
    ∙ entered-by k k2 (Entered at n s.before) (λ (u : State). Exited at n u.before) s.behind m t h
