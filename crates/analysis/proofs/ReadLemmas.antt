-- The file of each unit is opened, and stays so.
use Rattle.std.proofs.Common.{◌≡◌, ◌∙◌, ◌+◌, ◌-◌, ℕ, Bool, true, false, cond, is_some, List, [], ◌∷◌, Option, None, Some, Result, Ok, Err, refl, ap, sym, subst, inl, inr}
use Rattle.std.specs.Prelude.{All, nat_le}
use Rattle.std.specs.Str.{bytes_eq}
use Rattle.std.proofs.lemmas.Bool.{cases_Bool}
use Rattle.std.proofs.lemmas.List.Elements.{All-nil, All-cons, All-head, All-tail}
use Rattle.std.proofs.lemmas.Option.{none-some, same_Some}
use Rattle.cs_base.specs.declared.causes.Cause.TheVariants as cause
use Rattle.cs_base.specs.declared.positions.Place.{Place}
use Rattle.cs_base.specs.Token.{Token}
use Rattle.cs_base.specs.Units.{UnitValue, IsUnit, defines_of}
use Rattle.cs_base.proofs.FileMapLemmas.{bytes_eq-equal}
use Rattle.cs_base.proofs.AnswerLemmas.{map_err_ok as unmapped}
use Rattle.lexer.specs.FileText.{TextValue, LexFault, FileTooLarge, OpenComment, file_text}
use Rattle.include_tree.specs.Below.source_files.Faults.{Fault, fault, first_place}
use Rattle.include_tree.specs.Below.source_files.Files.{Source, SourceFile, Found, Lines, Absent, Unopened, Opened, Made, Table, Carried, nothing_carried, found_at, found_in, files_opened, number_of, numbered, asked, opened, defines_path}
use Rattle.include_tree.specs.Below.source_files.Limits.{Limits, the_limits}
use Rattle.include_tree.specs.Below.unit_steps.State.{Context, context, State, Outcome}
use Rattle.include_tree.specs.Below.source_files.Opening.{Reader, Opening, file_read, readable, are_too_many, first_opened, opened_as, opening}
use Rattle.include_tree.specs.OpeningStep.{with_opened, open_file}
use Rattle.include_tree.specs.PseudoFiles.{is_pseudo}
use Rattle.include_tree.specs.Unit.{pseudo_path, first_state, outer_file, main_file, unit_outcome}
use Rattle.include_tree.specs.Preprocessed.{Preprocessed, preprocessed, preprocessed_by}
use Rattle.include_tree.specs.Laws.{IfDone}
use Rattle.include_tree.specs.Walk.{file_items}
use Rattle.include_tree.proofs.DefinesLemmas.{with_defines_has}
use Rattle.include_tree.proofs.OutcomeLemmas.{onward_done}
use Rattle.include_tree.proofs.Below.source_files.SourcesLemmas.{found-opened}
use Rattle.include_tree.proofs.StayLemmas.{IsStable, Stays, open_file_stays}
use Rattle.include_tree.proofs.StayingWalk.{files_stay}
use Rattle.analysis.specs.Texts.{UnitFault, unit_fault, unit_with}
use Rattle.analysis.specs.Analysis.{UnitsValue, AnalysisValue, analysis_and, with_unit, unit_read, analysed_from}
use Rattle.analysis.proofs.CarryLemmas.{unit_real}
use Rattle.analysis.specs.Tables.{IsPseudoIfMade, MadeArePseudo, IsOpened, UnitFilesAreOpened}
use Rattle.analysis.proofs.MadeLemmas.{ok_holds, done_first, asked_made, made-push, outer_made, made_after}

-- ---- a table that grows

opened-push : (path other : List ℕ) (found : Found) (t : Table) → IsOpened path t → IsOpened path (numbered other found t)
unfolding found_at
opened-push path other found [] h = absurd (none-some _ h.1)
opened-push path other found (e ∷ t) h =
    let k : cond (bytes_eq path e.path) (Some e.found) (found_at path t) ≡ Some (Opened h.0) = h.1 in
    elim (cases_Bool (bytes_eq path e.path)) [
      | inl same ↦ (h.0, rw same (rw same at k))
      | inr differs ↦ let rest = opened-push path other found t (h.0, rw differs at k) in (rest.0, rw differs rest.1)
    ]

opened_asked : (path other : List ℕ) (bytes : Option (List ℕ)) (t : Table) (o : Option Found) → IsOpened path t
    → IsOpened path (cond (is_some o) t (numbered other (found_in bytes) t))
opened_asked path other bytes t None h = opened-push path other (found_in bytes) t h
opened_asked path other bytes t (Some f) h = h

opened_more : (path other bytes : List ℕ) (t : Table) → IsOpened path t → IsOpened path (opened other bytes t)
unfolding found_at opened
opened_more path other bytes [] h = h
opened_more path other bytes (e ∷ t) h =
    let k : cond (bytes_eq path e.path) (Some e.found) (found_at path t) ≡ Some (Opened h.0) = h.1 in
    elim (cases_Bool (bytes_eq other e.path)) [
      | inl there ↦
          let same_path : bytes_eq path other ≡ bytes_eq path e.path = ap (λ (p : List ℕ). bytes_eq path p) (bytes_eq-equal other e.path there) in
          elim (cases_Bool (bytes_eq path e.path)) [
            | inl same ↦ (bytes, rw there (rw (same_path ∙ same) refl))
            | inr differs ↦ (h.0, rw there (rw (same_path ∙ differs) (rw differs at k)))
          ]
      | inr apart ↦
          elim (cases_Bool (bytes_eq path e.path)) [
            | inl same ↦ (h.0, rw apart (rw same (rw same at k)))
            | inr differs ↦ let rest = opened_more path other bytes t (h.0, rw differs at k) in (rest.0, rw apart (rw differs rest.1))
          ]
    ]

opened_stable : (source : Source) (path : List ℕ) → IsStable source (IsOpened path)
opened_stable source path = record {
  asks = λ other t real h. opened_asked path other (source other) t (found_at other t) h;
  opens = λ other bytes t there h. opened_more path other bytes t h;
}

-- ---- a file that is opened

-- a path that stands for a made text is that of a pseudo file
made_at : (path bytes : List ℕ) (t : Table) → MadeArePseudo t → found_at path t ≡ Some (Made bytes) → is_pseudo path ≡ true
unfolding found_at
made_at path bytes [] made h = absurd (none-some _ h)
made_at path bytes (e ∷ t) made h =
    let k : cond (bytes_eq path e.path) (Some e.found) (found_at path t) ≡ Some (Made bytes) = h in
    elim (cases_Bool (bytes_eq path e.path)) [
      | inl same ↦
          let is : e.found ≡ Made bytes = same_Some e.found (Made bytes) (rw same at k) in
          let there : IsPseudoIfMade e.path (Made bytes) = subst (λ (f : Found). IsPseudoIfMade e.path f) is made.0 in
          subst (λ (p : List ℕ). is_pseudo p ≡ true) (sym (bytes_eq-equal path e.path same)) there
      | inr differs ↦ made_at path bytes t made.1 (rw differs at k)
    ]

OpensTo : List ℕ → Opening → Type 0
OpensTo path (Ok r) = IsOpened path r.1
OpensTo path (Err fault) = Unit {0}

err_opens : (path : List ℕ) (fault : Fault) → OpensTo path (Err fault)
unfolding OpensTo
err_opens path fault = tt

read_opens : (path : List ℕ) (place : Place) (number : ℕ) (table : Table) (r : Result TextValue LexFault) → IsOpened path table
    → OpensTo path (file_read place number path table r)
unfolding OpensTo
read_opens path place number table (Ok text) h = h
read_opens path place number table (Err FileTooLarge) h = tt
read_opens path place number table (Err (OpenComment at line column)) h = tt

test_opens : (path : List ℕ) (b : Bool) (fault : Fault) (r : Opening) → OpensTo path r → OpensTo path (cond b (Err fault) r)
unfolding OpensTo
test_opens path true fault r h = tt
test_opens path false fault r h = h

readable_opens : (reader : Reader) (place : Place) (path bytes : List ℕ) (table : Table) → IsOpened path table
    → OpensTo path (readable reader place path bytes table)
readable_opens reader place path bytes table h =
    read_opens path place (number_of path table) table (reader (number_of path table) bytes) h

first_opens : (limits : Limits) (reader : Reader) (place : Place) (path bytes : List ℕ) (table : Table) → found_at path table ≡ Some (Unopened bytes)
    → OpensTo path (first_opened limits reader place path bytes table)
first_opens limits reader place path bytes table is =
    test_opens path (nat_le limits.files (files_opened table)) (fault place cause.TooManyFiles)
    (cond (are_too_many limits reader path bytes table) (Err (fault place cause.TooManyBytes)) (readable reader place path bytes (opened path bytes table)))
    (test_opens path (are_too_many limits reader path bytes table) (fault place cause.TooManyBytes) (readable reader place path bytes (opened path bytes table))
    (readable_opens reader place path bytes (opened path bytes table) (bytes, found-opened path bytes (Unopened bytes) table is)))

as_opens : (limits : Limits) (reader : Reader) (place : Place) (path : List ℕ) (table : Table) (o : Option Found) → is_pseudo path ≡ false
    → MadeArePseudo table → found_at path table ≡ o → OpensTo path (opened_as limits reader place path table o)
as_opens limits reader place path table None real made is = err_opens path (fault place cause.MissingFile)
as_opens limits reader place path table (Some Lines) real made is = err_opens path (fault place cause.MissingFile)
as_opens limits reader place path table (Some Absent) real made is = err_opens path (fault place cause.MissingFile)
as_opens limits reader place path table (Some (Unopened bytes)) real made is = first_opens limits reader place path bytes table is
as_opens limits reader place path table (Some (Opened bytes)) real made is = readable_opens reader place path bytes table (bytes, is)
as_opens limits reader place path table (Some (Made bytes)) real made is =
    absurd (let e : true ≡ false = sym (made_at path bytes table made is) ∙ real in cc)

with_opens : (path : List ℕ) (s : State) (r : Opening) → OpensTo path r → IfDone (Stays {A = SourceFile} (IsOpened path)) (with_opened s r)
unfolding OpensTo
with_opens path s (Ok r) h = h
with_opens path s (Err fault) h = tt

file_opens : (ctx : Context) (place : Place) (path : List ℕ) (s : State) → is_pseudo path ≡ false → MadeArePseudo s.table
    → IfDone (Stays {A = SourceFile} (IsOpened path)) (open_file ctx place path s)
file_opens ctx place path s real made =
    with_opens path s (opening ctx.limits ctx.reader place path s.table)
    (as_opens ctx.limits ctx.reader place path s.table (found_at path s.table) real made refl)

outer_opens : (ctx : Context) (path : List ℕ) (s : State) → is_pseudo path ≡ false → MadeArePseudo s.table
    → IfDone (Stays {A = List Token} (IsOpened path)) (outer_file ctx path s)
outer_opens ctx path s real made =
    onward_done (Stays {A = SourceFile} (IsOpened path)) (Stays {A = List Token} (IsOpened path)) (open_file ctx (first_place path) path s) (file_items ctx (ctx.limits.open_files - 1))
    (file_opens ctx (first_place path) path s real made)
    (λ f t g. files_stay ctx (IsOpened path) (opened_stable ctx.source path) (ctx.limits.open_files - 1) f t g)

-- the file of a unit is opened
unit_opens : (limits : Limits) (reader : Reader) (source : Source) (number : ℕ) (unit : UnitValue) (before : Carried) → is_pseudo unit.path ≡ false
    → MadeArePseudo before.table → IfDone (Stays {A = List Token} (IsOpened unit.path)) (unit_outcome limits reader source number unit before)
unit_opens limits reader source number unit before real h =
    let ctx : Context = context source reader unit limits before.toks in
    let s : State = first_state limits number unit before.table in
    let first = with_defines_has MadeArePseudo number unit before.table h (made-push (defines_path number) (Made (defines_of unit)) before.table refl h) in
    let own : List ℕ = pseudo_path number unit before.table in
    onward_done (Stays {A = List Token} MadeArePseudo) (Stays {A = List Token} (IsOpened unit.path)) (outer_file ctx own s) _ (outer_made ctx own s first)
    (λ toks t g. onward_done (Stays {A = List Token} (IsOpened unit.path)) (Stays {A = List Token} (IsOpened unit.path)) (main_file ctx unit.path t) _
    (outer_opens ctx unit.path (record t { table = asked ctx.source unit.path t.table }) real (asked_made unit.path (ctx.source unit.path) t.table (found_at unit.path t.table) g))
    (λ more u f. f))

-- ---- and stays so

outer_keeps : (ctx : Context) (path other : List ℕ) (s : State) → IsOpened path s.table → IfDone (Stays {A = List Token} (IsOpened path)) (outer_file ctx other s)
outer_keeps ctx path other s h =
    onward_done (Stays {A = SourceFile} (IsOpened path)) (Stays {A = List Token} (IsOpened path)) (open_file ctx (first_place other) other s) (file_items ctx (ctx.limits.open_files - 1))
    (open_file_stays ctx (IsOpened path) (opened_stable ctx.source path) (first_place other) other s h)
    (λ f t g. files_stay ctx (IsOpened path) (opened_stable ctx.source path) (ctx.limits.open_files - 1) f t g)

unit_keeps : (path : List ℕ) (limits : Limits) (reader : Reader) (source : Source) (number : ℕ) (unit : UnitValue) (before : Carried)
    → IsOpened path before.table → IfDone (Stays {A = List Token} (IsOpened path)) (unit_outcome limits reader source number unit before)
unit_keeps path limits reader source number unit before h =
    let ctx : Context = context source reader unit limits before.toks in
    let s : State = first_state limits number unit before.table in
    let first = with_defines_has (IsOpened path) number unit before.table h (opened-push path (defines_path number) (Made (defines_of unit)) before.table h) in
    let own : List ℕ = pseudo_path number unit before.table in
    onward_done (Stays {A = List Token} (IsOpened path)) (Stays {A = List Token} (IsOpened path)) (outer_file ctx own s) _ (outer_keeps ctx path own s first)
    (λ toks t g. onward_done (Stays {A = List Token} (IsOpened path)) (Stays {A = List Token} (IsOpened path)) (main_file ctx unit.path t) _
    (outer_keeps ctx path unit.path (record t { table = asked ctx.source unit.path t.table }) (opened_asked path unit.path (ctx.source unit.path) t.table (found_at unit.path t.table) g))
    (λ more u f. f))

opened_by : (path : List ℕ) (earlier : ℕ) (o : Outcome (List Token)) (p : Preprocessed) → IfDone (Stays {A = List Token} (IsOpened path)) o
    → preprocessed_by earlier o ≡ Ok p → IsOpened path p.after.table
opened_by path earlier (Ok d) p h e = ok_holds {E = Fault} (λ (q : Preprocessed). IsOpened path q.after.table) _ p e h
opened_by path earlier (Err found) p h e = absurd cc

opened_here : (source : Source) (number : ℕ) (unit : UnitValue) (before : Carried) (p : Preprocessed) → is_pseudo unit.path ≡ false
    → MadeArePseudo before.table → preprocessed source number unit before ≡ Ok p → IsOpened unit.path p.after.table
unfolding preprocessed
opened_here source number unit before p real h e =
    opened_by unit.path before.toks (unit_outcome the_limits file_text source number unit before) p (unit_opens the_limits file_text source number unit before real h) e

opened_after : (path : List ℕ) (source : Source) (number : ℕ) (unit : UnitValue) (before : Carried) (p : Preprocessed) → IsOpened path before.table
    → preprocessed source number unit before ≡ Ok p → IsOpened path p.after.table
unfolding preprocessed
opened_after path source number unit before p h e =
    opened_by path before.toks (unit_outcome the_limits file_text source number unit before) p (unit_keeps path the_limits file_text source number unit before h) e

-- ---- units in order

-- the file of a unit is opened in a table
abbrev IsUnitOpened : Table → UnitValue → Type 0
IsUnitOpened table unit = IsOpened unit.path table

units_keep : (path : List ℕ) (source : Source) (number : ℕ) (units : List UnitValue) (before : Carried) (v : UnitsValue) → IsOpened path before.table
    → analysed_from source number units before ≡ Ok v → IsOpened path v.table
unfolding analysed_from
units_keep path source number [] before v h e = ok_holds {E = UnitFault} (λ (u : UnitsValue). IsOpened path u.table) _ v e h
units_keep path source number (unit ∷ units) before v h e =
    let p = done_first (unit_with source number unit before) _ v e in
    let u = done_first (unit_read unit.standard number unit.path p.0) _ v p.2 in
    let later = done_first (analysed_from source (number + 1) units p.0.after) _ v u.2 in
    let after = opened_after path source number unit before p.0 h (unmapped (preprocessed source number unit before) (unit_fault number) p.0 p.1) in
    let rest = units_keep path source (number + 1) units p.0.after later.0 after later.1 in
    ok_holds {E = UnitFault} (λ (w : UnitsValue). IsOpened path w.table) (with_unit u.0 later.0) v later.2 rest

units_open : (source : Source) (number : ℕ) (units : List UnitValue) (before : Carried) (v : UnitsValue) → All IsUnit units → MadeArePseudo before.table
    → analysed_from source number units before ≡ Ok v → All (IsUnitOpened v.table) units
unfolding analysed_from
units_open source number [] before v are h e = All-nil (IsUnitOpened v.table)
units_open source number (unit ∷ units) before v are h e =
    let p = done_first (unit_with source number unit before) _ v e in
    let u = done_first (unit_read unit.standard number unit.path p.0) _ v p.2 in
    let later = done_first (analysed_from source (number + 1) units p.0.after) _ v u.2 in
    let done = unmapped (preprocessed source number unit before) (unit_fault number) p.0 p.1 in
    let here = opened_here source number unit before p.0 (unit_real unit (All-head IsUnit unit units are)) h done in
    let rest = units_open source (number + 1) units p.0.after later.0 (All-tail IsUnit unit units are) (made_after source number unit before p.0 h done) later.1 in
    ok_holds {E = UnitFault} (λ (w : UnitsValue). All (IsUnitOpened w.table) (unit ∷ units)) (with_unit u.0 later.0) v later.2
    (All-cons (IsUnitOpened later.0.table) unit units (units_keep unit.path source (number + 1) units p.0.after later.0 here later.1) rest)

pub unit_files_opened : UnitFilesAreOpened
unit_files_opened source ws a is e =
    let all = done_first (analysed_from source 1 ws.units nothing_carried) _ a e in
    ok_holds {E = UnitFault} (λ (b : AnalysisValue). All (IsUnitOpened b.table) ws.units) (analysis_and ws all.0.units all.0.table) a all.2
    (units_open source 1 ws.units nothing_carried all.0 is.are_units (tt, tt) all.1)
