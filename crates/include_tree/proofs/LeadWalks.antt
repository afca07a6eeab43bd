-- Include lines at the begin of the unit's own file, one at a time.
use Rattle.std.proofs.Common.{◌≡◌, ◌≤◌, ◌<◌, ◌-◌, ◌+◌, ℕ, length, false, List, [], ◌∷◌, ◌++◌, take, drop, slice_range, Option, None, Some, Result, Ok, Err, refl, sym, ◌∙◌, ap, subst, arith}
use Rattle.std.specs.Prelude.{IfSome, IsSome}
use Rattle.std.proofs.lemmas.List.{length-append, take_all}
use Rattle.std.proofs.lemmas.Option.{same_Some}
use Rattle.cs_base.specs.Token.{Token}
use Rattle.cs_base.specs.Units.{UnitValue}
use Rattle.cs_base.specs.declared.positions.Pos.{Pos}
use Rattle.source_files.specs.Files.{Source, Table, SourceFile}
use Rattle.source_files.specs.Faults.{Fault}
use Rattle.source_files.specs.Limits.{the_limits}
use Rattle.source_files.specs.Search.{behind_of}
use Rattle.source_files.specs.Sources.{source_at}
use Rattle.source_files.specs.Tables.{IsGrown}
use Rattle.source_files.proofs.TableLemmas.{grown_refl}
use Rattle.unit_steps.specs.declared.progress.Progress.{Progress}
use Rattle.unit_steps.specs.Directives.{is_read_once}
use Rattle.unit_steps.specs.Keeping.{no_text, noted_in, put_in, put_after}
use Rattle.unit_steps.specs.Moments.{state_in}
use Rattle.unit_steps.specs.Notes.{Reaches, Entered, Exited}
use Rattle.unit_steps.specs.Pieces.{mark_of, IsWithin, piece_of, joined}
use Rattle.unit_steps.specs.State.{Context, State, Did, did, Outcome}
use Rattle.unit_steps.specs.Texts.{UnitTextValue, text_of}
use Rattle.include_tree.specs.declared.leads.Lead.{Lead}
use Rattle.include_tree.specs.GivenFiles.{unit_context}
use Rattle.include_tree.specs.Including.{open_header, entered, unless_once, included}
use Rattle.include_tree.specs.Walk.{items_in, item_step, file_items}
use Rattle.include_tree.specs.Walking.{stepped_after, with_sections, inner_in}
use Rattle.include_tree.specs.Leads.{IsLead, rest_at}
use Rattle.include_tree.specs.Fronts.{Piece, placed, piece_text, reached_piece, left_piece, HasPiece, start_state, HasBegun}
use Rattle.include_tree.proofs.StayingLemmas.{some_at, some_is, source-number, source-grown}
use Rattle.include_tree.proofs.WalkingLemmas.{fault_on}
use Rattle.include_tree.proofs.WalkedLemmas.{place_of, included-open, entered-done, entered-fault, walk-more, walk-fault}
use Rattle.include_tree.proofs.FrontLemmas.{gives-always}
use Rattle.include_tree.proofs.MainLemmas.{lead-step, piece-events}

-- ---- what a walk gave

both_same : (a b : State × UnitTextValue) → ◌≡◌ {A = Result (State × UnitTextValue) Fault} (Ok a) (Ok b) → a ≡ b
both_same a b h = cc

put-inverse : (k : UnitTextValue) (m : Outcome (List Token)) (t : State) (k2 : UnitTextValue) → put_after k m ≡ Ok (t, k2)
    → (d : Did (List Token)) × (m ≡ Ok d) × (d.state ≡ t) × (put_in (noted_in k d.notes) d.value ≡ k2)
put-inverse k (Ok d) t k2 h =
    let same = both_same (d.state, put_in (noted_in k d.notes) d.value) (t, k2) h in
    (d, refl, ap (λ (r : State × UnitTextValue). r.0) same, ap (λ (r : State × UnitTextValue). r.1) same)
put-inverse k (Err f) t k2 h = absurd (cc)

-- ---- a piece at the end of a text

drop-front : {X : Type 0} (xs more : List X) → drop (length xs) (xs ++ more) ≡ more
drop-front [] more = refl
drop-front (x ∷ xs) more = drop-front xs more

range-end : {X : Type 0} (xs more : List X) → slice_range (xs ++ more) (length xs) (length (xs ++ more)) ≡ more
range-end {X = X} xs more =
    let whole : length (xs ++ more) ≡ length xs + length more = length-append xs more in
    let len : length (xs ++ more) - length xs ≡ length more = omega (arith, whole) in
    (λ i. take (len i) (drop-front xs more i)) ∙ take_all (length more) more (omega arith)

pub piece-end : (k more : UnitTextValue) → piece_of (mark_of k) (mark_of (joined k more)) (joined k more) ≡ more
piece-end k more = λ i.
    text_of (range-end k.toks more.toks i) (range-end k.links more.links i) (range-end k.pasted more.pasted i) (range-end k.stringized more.stringized i)
    (range-end k.header more.header i) (range-end k.answers more.answers i) (range-end k.reached more.reached i) (range-end k.events more.events i)

longer : {X : Type 0} (xs more : List X) → (length xs ≤ length (xs ++ more)) × (length (xs ++ more) ≤ length (xs ++ more))
longer xs more = (omega (arith, length-append xs more), omega arith)

end-within : (k more : UnitTextValue) → IsWithin (mark_of k) (mark_of (joined k more)) (joined k more)
end-within k more = record {
  toks = longer k.toks more.toks;
  links = longer k.links more.links;
  pasted = longer k.pasted more.pasted;
  stringized = longer k.stringized more.stringized;
  header = longer k.header more.header;
  answers = longer k.answers more.answers;
  reached = longer k.reached more.reached;
  events = longer k.events more.events;
}

-- what a walk put behind a text is a piece of it
pub walked-within : (file : SourceFile) (k : UnitTextValue) (m : Outcome (List Token)) (t : State) (k2 : UnitTextValue) → put_after k m ≡ Ok (t, k2) → IsWithin (mark_of k) (mark_of k2) k2
walked-within file k m t k2 h =
    let d = put-inverse k m t k2 h in
    let p : Piece = record { file = file; behind = None; toks = d.0.value; notes = d.0.notes; after = d.0.state } in
    subst (λ (x : UnitTextValue). IsWithin (mark_of k) (mark_of x) x) d.3 (end-within k (piece_text (length k.events) p))

-- ---- a line

module _ (source : Source) (earlier : ℕ) (u : UnitValue) (main : SourceFile) (table : Table) (k : ℕ) (l : Lead) (p0 : Progress) (file : SourceFile)
    (is : IsLead u table main k l) (there : source_at table l.number ≡ Some file) (number : file.number ≡ l.number) (place : p0.behind ≡ None)
    (other : is_read_once l.number (state_in table p0) ≡ false) where
  abbrev ctx : Context
  ctx = unit_context source u earlier

  abbrev s : State
  s = state_in table p0

  abbrev one : UnitTextValue
  one = noted_in p0.text (Reaches main.number k false s.before ∷ [])

  opened : open_header ctx main l.at false is.header s ≡ Ok (did file [] s)
  opened =
      let gives = is.opens.0 source earlier s refl place in
      let same : gives.0 ≡ file = same_Some gives.0 file (sym gives.1 ∙ there) in
      gives.2 ∙ ap (λ (f : SourceFile). Ok (did f [] s)) same

  begins : place_of ctx main false is.header s file ≡ l.behind
  begins =
      let found : l.behind ≡ behind_of false is.header None main.path u file.path =
      subst (λ (o : Option SourceFile). IfSome o (λ inner. l.behind ≡ behind_of false is.header None main.path u inner.path)) there is.opens.1 in
      ap (λ (b : Option ℕ). behind_of false is.header b main.path u file.path) place ∙ sym found

  goes : stepped_after p0.text (item_step ctx (inner_in ctx (the_limits.open_files - 1)) main k is.item [] s)
      ≡ with_sections [] (put_after one (entered (unless_once l.at (file_items ctx 198)) l.at l.behind file s))
  goes =
      let room : 0 < the_limits.open_files - 1 = omega arith in
      lead-step ctx (inner_in ctx (the_limits.open_files - 1)) main k is.item is.header s p0.text is.written
      ∙ ap (with_sections [])
      (ap (λ (a : Pos). put_after one (included ctx (inner_in ctx (the_limits.open_files - 1)) main a false is.header s)) is.place
      ∙ included-open ctx (the_limits.open_files - 1) main l.at false is.header s one file s room opened
      ∙ ap (λ (b : Option ℕ). put_after one (entered (unless_once l.at (file_items ctx 198)) l.at b file s)) begins)

  -- what the items of its file give
  abbrev walked : Result (State × UnitTextValue) Fault
  walked = put_after (reached_piece main.number k l p0.text) (file_items ctx 198 file (record s { behind = l.behind }))

  inside : put_after (reached_piece main.number k l p0.text) (unless_once l.at (file_items ctx 198) file (record s { behind = l.behind })) ≡ walked
  inside =
      let read : is_read_once file.number s ≡ false = ap (λ (n : ℕ). is_read_once n s) number ∙ other in
      rw read refl

  pub lead-done : (t : State) (k2 : UnitTextValue) → walked ≡ Ok (t, k2) → rest_at ctx main k s p0.text
      ≡ rest_at ctx main (k + 1) (record t { behind = None }) (noted_in k2 (Exited l.at l.number t.before ∷ []))
  lead-done t k2 h =
      walk-more ctx (inner_in ctx (the_limits.open_files - 1)) main k (items_in main) [] s p0.text is.item [] (record t { behind = None }) (noted_in k2 (Exited l.at l.number t.before ∷ [])) is.at
      (goes ∙ ap (with_sections []) (entered-done (unless_once l.at (file_items ctx 198)) l.at l.behind file l.number s t one k2 number (inside ∙ h))
      ∙ ap (λ (b : Option ℕ). Ok ([], record t { behind = b }, noted_in k2 (Exited l.at l.number t.before ∷ []))) place)

  pub lead-fault : (f : Fault) → walked ≡ Err f → rest_at ctx main k s p0.text ≡ Err f
  lead-fault f h =
      walk-fault ctx (inner_in ctx (the_limits.open_files - 1)) main k (items_in main) [] s p0.text is.item f is.at
      (goes ∙ ap (with_sections []) (entered-fault (unless_once l.at (file_items ctx 198)) l.at l.behind file l.number s one f number (inside ∙ h)))

  -- the piece that it gave
  pub lead-piece : (table2 : Table) (t : State) (k2 : UnitTextValue) → walked ≡ Ok (t, k2) → t.table ≡ table2 → t.before ≡ length k2.toks → source_at table2 l.number ≡ Some file
      → HasPiece u table2 l s p0.text (record t { behind = None }) (left_piece l k2) (piece_of (mark_of (reached_piece main.number k l p0.text)) (mark_of k2) k2)
  lead-piece table2 t k2 h at count kept =
      let before : UnitTextValue = reached_piece main.number k l p0.text in
      let d = put-inverse before (file_items ctx 198 file (record s { behind = l.behind })) t k2 h in
      let p : Piece = record { file = file; behind = l.behind; toks = d.0.value; notes = d.0.notes; after = d.0.state } in
      let text : k2 ≡ joined before (piece_text (length before.events) p) = sym d.3 in
      let events : length before.events ≡ length p0.text.events + 1 = grind (arith, length-append) in
      let toks : length k2.toks ≡ length p0.text.toks + length d.0.value = ap (λ (x : UnitTextValue). length x.toks) text ∙ length-append p0.text.toks d.0.value in
      let grown : IsGrown d.0.state.table table2 = subst (λ (x : Table). IsGrown d.0.state.table x) (ap (λ (x : State). x.table) d.2 ∙ at) (grown_refl d.0.state.table) in
      let counted : d.0.state.before ≡ s.before + length d.0.value = ap (λ (x : State). x.before) d.2 ∙ count ∙ toks in
      record {
        piece = p;
        is = record {
          file = ap (source_at table2) number ∙ kept;
          other = ap (λ (n : ℕ). is_read_once n s) number ∙ other;
          counted = counted;
          gives = gives-always source u earlier 198 file (record s { behind = l.behind }) d.0 table2 d.1 grown;
        };
        number = number;
        behind = refl;
        gives = ap (λ (x : UnitTextValue). piece_of (mark_of before) (mark_of x) x) text ∙ piece-end before (piece_text (length before.events) p)
            ∙ ap (λ (e : ℕ). piece_text e p) events;
        state = ap (λ (x : Table). record t { table = x; behind = None }) at ∙ ap (placed table2 None) (sym d.2);
        events = ap (λ (x : UnitTextValue). length (left_piece l x).events) text ∙ piece-events main.number k (length before.events) l p p0.text;
      }

-- ---- in the words of the program

module _ (u : UnitValue) (toks : ℕ) (table : Table) (main k : ℕ) (l : Lead) (p0 p1 p2 : Progress) (file : SourceFile)
    (lead : IfSome (source_at table main) (λ f. IsLead u table f k l)) (there : source_at table l.number ≡ Some file) (place : p0.behind ≡ None)
    (other : is_read_once l.number (state_in table p0) ≡ false)
    (reaches : p1 ≡ record p0 { text = noted_in p0.text (Reaches main k false (length p0.text.toks) ∷ []) })
    (enters : p2 ≡ record p1 { text = noted_in p1.text (Entered l.at l.number (length p1.text.toks) ∷ []) }) where
  abbrev in_it : Progress
  in_it = record p2 { behind = l.behind }

  in-it : in_it ≡ record p0 { text = reached_piece main k l p0.text; behind = l.behind }
  in-it =
      ap (λ (p : Progress). record p { behind = l.behind }) enters
      ∙ ap (λ (p : Progress). record p { text = noted_in p.text (Entered l.at l.number (length p.text.toks) ∷ []); behind = l.behind }) reaches

  -- what the items of the file give, from the state that the program has
  abbrev given : Source → Result (State × UnitTextValue) Fault
  given source = put_after p2.text (file_items (unit_context source u toks) 198 file (state_in table (record p2 { behind = l.behind })))

  given-is : (source : Source) (f : SourceFile) (x : Result (State × UnitTextValue) Fault) → f.number ≡ main → given source ≡ x
      → put_after (reached_piece f.number k l p0.text) (file_items (unit_context source u toks) 198 file (record (state_in table p0) { behind = l.behind })) ≡ x
  given-is source f x number h =
      ap (λ (n : ℕ). put_after (reached_piece n k l p0.text) (file_items (unit_context source u toks) 198 file (record (state_in table p0) { behind = l.behind }))) number
      ∙ subst (λ (p : Progress). put_after p.text (file_items (unit_context source u toks) 198 file (state_in table p)) ≡ x) in-it h

  pub line-done : (source : Source) (table2 : Table) (p4 p6 : Progress)
      → p6 ≡ record p4 { text = noted_in p4.text (Exited l.at l.number (length p4.text.toks) ∷ []); behind = None } → given source ≡ Ok (state_in table2 p4, p4.text)
      → IfSome (source_at table main) (λ f. rest_at (unit_context source u toks) f k (state_in table p0) p0.text ≡ rest_at (unit_context source u toks) f (k + 1) (state_in table2 p6) p6.text)
  line-done source table2 p4 p6 leaves h =
      some_at (source_at table main) (λ f. IsLead u table f k l)
      (λ f. rest_at (unit_context source u toks) f k (state_in table p0) p0.text ≡ rest_at (unit_context source u toks) f (k + 1) (state_in table2 p6) p6.text) lead
      (λ f is led. lead-done source toks u f table k l p0 file led there (source-number table l.number file there) place other (state_in table2 p4) p4.text
      (given-is source f (Ok (state_in table2 p4, p4.text)) (source-number table main f is) h)
      ∙ ap (λ (p : Progress). rest_at (unit_context source u toks) f (k + 1) (state_in table2 p) p.text) (sym leaves))

  pub line-fault : (source : Source) (found : Option Fault) → IfSome found (λ e. given source ≡ Err e)
      → IfSome (source_at table main) (λ f. IfSome found (λ e. rest_at (unit_context source u toks) f k (state_in table p0) p0.text ≡ Err e))
  line-fault source found h =
      some_at (source_at table main) (λ f. IsLead u table f k l) (λ f. IfSome found (λ e. rest_at (unit_context source u toks) f k (state_in table p0) p0.text ≡ Err e)) lead
      (λ f is led. fault_on found (given source) (rest_at (unit_context source u toks) f k (state_in table p0) p0.text) h
      (λ e same. lead-fault source toks u f table k l p0 file led there (source-number table l.number file there) place other e
      (given-is source f (Err e) (source-number table main f is) same)))

  pub line-piece : (source : Source) (f : SourceFile) (table2 : Table) (p4 p6 : Progress) → source_at table main ≡ Some f
      → p6 ≡ record p4 { text = noted_in p4.text (Exited l.at l.number (length p4.text.toks) ∷ []); behind = None } → given source ≡ Ok (state_in table2 p4, p4.text)
      → source_at table2 l.number ≡ Some file
      → HasPiece u table2 l (state_in table p0) p0.text (state_in table2 p6) p6.text (piece_of (mark_of p2.text) (mark_of p4.text) p4.text)
  line-piece source f table2 p4 p6 is leaves h kept =
      let led : IsLead u table f k l = subst (λ (o : Option SourceFile). IfSome o (λ g. IsLead u table g k l)) is lead in
      let number : f.number ≡ main = source-number table main f is in
      let has = lead-piece source toks u f table k l p0 file led there (source-number table l.number file there) place other table2 (state_in table2 p4) p4.text
      (given-is source f (Ok (state_in table2 p4, p4.text)) number h) refl refl kept in
      let text : reached_piece f.number k l p0.text ≡ p2.text = ap (λ (n : ℕ). reached_piece n k l p0.text) number ∙ ap (λ (p : Progress). p.text) (sym in-it) in
      subst (λ (p : Progress). HasPiece u table2 l (state_in table p0) p0.text (state_in table2 p) p.text (piece_of (mark_of p2.text) (mark_of p4.text) p4.text)) (sym leaves)
      (subst (λ (x : UnitTextValue). HasPiece u table2 l (state_in table p0) p0.text (record (state_in table2 p4) { behind = None }) (left_piece l p4.text) (piece_of (mark_of x) (mark_of p4.text) p4.text)) text has)

-- ---- the file of a line is there

pub lead-there : (u : UnitValue) (table : Table) (main k : ℕ) (l : Lead) (p : Progress) → IsSome (source_at table main) → IfSome (source_at table main) (λ f. IsLead u table f k l)
    → p.behind ≡ None → (file : SourceFile) × (source_at table l.number ≡ Some file)
lead-there u table main k l p kept lead place =
    let f = some_is (source_at table main) kept in
    let led : IsLead u table f.0 k l = subst (λ (o : Option SourceFile). IfSome o (λ g. IsLead u table g k l)) f.1 lead in
    let gives = led.opens.0 (λ name. None) 0 (state_in table p) refl place in
    (gives.0, gives.1)

pub at-file : (q : Option SourceFile) (file : SourceFile) (P : SourceFile → Type 0) → q ≡ Some file → IfSome q P → P file
at-file q file P is h = subst (λ (o : Option SourceFile). IfSome o P) is h

-- ---- the begin of a unit

pub begin-has : (source : Source) (u : UnitValue) (toks : ℕ) (t0 t : Table) (n : ℕ) (file : SourceFile) (p0 p1 : Progress) → source_at t0 n ≡ Some file → IsGrown t0 t
    → state_in t0 p0 ≡ record (start_state u.standard) { table = t0 } → p0.text ≡ no_text → p1.behind ≡ None
    → put_after p0.text (file_items (unit_context source u toks) 199 file (state_in t0 p0)) ≡ Ok (state_in t p1, p1.text)
    → HasBegun u t n (state_in t p1) p1.text
begin-has source u toks t0 t n file p0 p1 there grown start nothing place walked =
    let s : State = record (start_state u.standard) { table = t0 } in
    let from : put_after no_text (file_items (unit_context source u toks) 199 file s) ≡ Ok (state_in t p1, p1.text) =
    subst (λ (x : State). put_after no_text (file_items (unit_context source u toks) 199 file x) ≡ Ok (state_in t p1, p1.text)) start
    (subst (λ (x : UnitTextValue). put_after x (file_items (unit_context source u toks) 199 file (state_in t0 p0)) ≡ Ok (state_in t p1, p1.text)) nothing walked) in
    let d = put-inverse no_text (file_items (unit_context source u toks) 199 file s) (state_in t p1) p1.text from in
    let up : IsGrown d.0.state.table t = subst (λ (x : Table). IsGrown d.0.state.table x) (ap (λ (x : State). x.table) d.2) (grown_refl d.0.state.table) in
    let first : Piece = record { file = file; behind = None; toks = d.0.value; notes = d.0.notes; after = d.0.state } in
    record {
      first = first;
      begun = record {
        file = source-grown t0 t n file grown there;
        place = refl;
        gives = gives-always source u toks 199 file s d.0 t d.1 up;
      };
      state = ap (λ (b : Option ℕ). record (state_in t p1) { behind = b }) place ∙ ap (placed t None) (sym d.2);
      events = ap (λ (x : UnitTextValue). length x.events) (sym d.3);
    }
