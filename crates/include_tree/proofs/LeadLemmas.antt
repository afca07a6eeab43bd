-- Files that are found with no path asked for.
use Rattle.std.proofs.Common.{◌≡◌, ℕ, ◌+◌, Bool, true, false, is_some, List, [], ◌∷◌, ◌++◌, length, Option, None, Some, Result, Ok, Err, refl, sym, ◌∙◌, ap, subst, arith}
use Rattle.std.specs.Prelude.{IfOk, IfSome, IsSome, slice_get, if◌then◌else◌}
use Rattle.std.specs.Option.{option_map, option_map_or, option_and_then}
use Rattle.std.proofs.lemmas.Option.{same_Some}
use Rattle.cs_base.specs.Units.{UnitValue}
use Rattle.cs_base.specs.declared.positions.Place.{Place}
use Rattle.cs_base.specs.declared.positions.Pos.{Pos}
use Rattle.source_files.specs.Below.lexer.FileText.{file_text}
use Rattle.source_files.specs.Faults.{place_in}
use Rattle.source_files.specs.Files.{Source, Found, Lines, Absent, Unopened, Opened, Made, Entry, entry, Table, SourceFile, source_file, found_at, number_of, number_at, is_absent, is_absent_at, absent_at}
use Rattle.source_files.specs.KeptFiles.{KeptValue, kept, kept_bytes, kept_in, kept_at}
use Rattle.source_files.specs.Limits.{the_limits}
use Rattle.source_files.specs.Opening.{opened_as, readable, file_read}
use Rattle.source_files.specs.Search.{Header, Searched, searched, search, search_on, candidates_of, behind_of}
use Rattle.source_files.specs.Sources.{source_at, source_kept, read_as, GivesOpening, opening_found}
use Rattle.source_files.proofs.KeptLemmas.{read-text}
use Rattle.source_files.proofs.SourcesLemmas.{entry-at}
use Rattle.include_tree.specs.declared.leads.Lead.{Lead}
use Rattle.include_tree.specs.Leads.{IsKnownFile, IsWritten, OpensLead, IsLead, AreLeads}
use Rattle.include_tree.specs.Walk.{ItemText, items_in}
use Rattle.include_tree.proofs.AgainTables.{known_asked}
use Rattle.include_tree.proofs.GivenLemmas.{header-asked}

-- ---- a path that has a number

number-found : (path : List ℕ) (t : Table) (n : ℕ) (o : Option Found) → found_at path t ≡ o → number_at path t ≡ Some n → (f : Found) × (found_at path t ≡ Some f) × (number_of path t ≡ n)
number-found path t n None is h =
    let none : ◌≡◌ {A = Option ℕ} None (Some n) = rw is at h in
    absurd (cc)
number-found path t n (Some f) is h =
    let some : ◌≡◌ {A = Option ℕ} (Some (number_of path t)) (Some n) = rw is at h in
    (f, is, same_Some (number_of path t) n some)

found-entry : (path : List ℕ) (t : Table) (f : Found) → found_at path t ≡ Some f → (e : Entry) × (slice_get t (number_of path t) ≡ Some e) × (e.path ≡ path) × (e.found ≡ f)
found-entry path t f h = (entry path f, entry-at path f t h, refl, refl)

kept-read : (n : ℕ) (path bytes : List ℕ) (k : KeptValue) (file : SourceFile) → option_map (kept n path) (Some bytes) ≡ Some k → source_kept k ≡ Some file
    → (file_text n bytes ≡ Ok file.text) × (file ≡ source_file n path file.text)
kept-read n path bytes k file is h =
    let same : kept n path bytes ≡ k = same_Some (kept n path bytes) k is in
    let read : read_as n path (file_text n bytes) ≡ Some file = subst (λ (x : KeptValue). source_kept x ≡ Some file) (sym same) h in
    let text : file_text n bytes ≡ Ok file.text = read-text n path (file_text n bytes) file read in
    (text, sym (same_Some (source_file n path file.text) file (let r : read_as n path (Ok file.text) ≡ Some file = rw text at read in r)))

-- the kept file of a path is opened, and the table stays
module _ (path : List ℕ) (t : Table) (n : ℕ) (k : KeptValue) (file : SourceFile) (at : kept_at t n ≡ Some k) (read : source_kept k ≡ Some file) where
  there : source_at t n ≡ Some file
  there = ap (option_and_then source_kept) at ∙ read

  opens : (place : Place) (e : Entry) (bytes : List ℕ) → e.path ≡ path → number_of path t ≡ n → option_map (kept n e.path) (Some bytes) ≡ Some k
      → GivesOpening (Ok n) (readable file_text place path bytes t) t
  opens place e bytes named number is =
      let both = kept-read n e.path bytes k file is read in
      let same : file ≡ source_file n path file.text = both.1 ∙ ap (λ (p : List ℕ). source_file n p file.text) named in (
        file,
        there,
        ap (λ (m : ℕ). file_read place m path t (file_text m bytes)) number ∙ ap (file_read place n path t) both.0
            ∙ ap (λ (f : SourceFile). Ok (f, t)) (sym same),
      )

  -- by what the path stands for
  opens-by : (place : Place) (e : Entry) (f : Found) → e.path ≡ path → number_of path t ≡ n → option_map (kept n e.path) (kept_bytes f) ≡ Some k
      → GivesOpening (Ok n) (opened_as the_limits file_text place path t (Some f)) t
  opens-by place e (Opened bytes) named number is = opens place e bytes named number is
  opens-by place e (Made bytes) named number is = opens place e bytes named number is
  opens-by place e (Unopened bytes) named number is = absurd (cc)
  opens-by place e Lines named number is = absurd (cc)
  opens-by place e Absent named number is = absurd (cc)

  search-by : (source : Source) (paths : List (List ℕ)) (e : Entry) (f : Found) → option_map (kept n e.path) (kept_bytes f) ≡ Some k
      → ◌≡◌ {A = Searched} (search_on path t (search source paths) (Some f)) (searched (Some path) t)
  search-by source paths e (Opened bytes) is = refl
  search-by source paths e (Made bytes) is = refl
  search-by source paths e (Unopened bytes) is = absurd (cc)
  search-by source paths e Lines is = absurd (cc)
  search-by source paths e Absent is = absurd (cc)

  pub kept-known : number_at path t ≡ Some n → (paths : List (List ℕ)) → IsKnownFile t (path ∷ paths) n
  unfolding search
  kept-known h = λ paths place source.
      let found = number-found path t n (found_at path t) refl h in
      let e = found-entry path t found.0 found.1 in
      let entry_at : kept_at t n ≡ option_map (kept n e.0.path) (kept_bytes found.0) =
      ap (λ (m : ℕ). option_and_then (kept_in n) (slice_get t m)) (sym found.2) ∙ ap (option_and_then (kept_in n)) e.1
      ∙ ap (λ (f : Found). option_map (kept n e.0.path) (kept_bytes f)) e.3 in
      let is : option_map (kept n e.0.path) (kept_bytes found.0) ≡ Some k = sym entry_at ∙ at in
      let once : search source (path ∷ paths) t ≡ searched (Some path) t =
      ap (λ (u : Table). search_on path u (search source paths) (found_at path u)) (known_asked source path t found.0 found.1)
      ∙ ap (search_on path t (search source paths)) found.1 ∙ search-by source paths e.0 found.0 is in
      subst (λ (x : Searched). GivesOpening (Ok n) (opening_found place x) t) (sym once)
      (subst (λ (o : Option Found). GivesOpening (Ok n) (opened_as the_limits file_text place path t o) t) (sym found.1)
      (opens-by place e.0 found.0 e.2 found.2 is))

-- a path where no file was
pub absent-known : (path : List ℕ) (t : Table) (n : ℕ) (paths : List (List ℕ)) → found_at path t ≡ Some Absent → IsKnownFile t paths n → IsKnownFile t (path ∷ paths) n
unfolding search
absent-known path t n paths absent h = λ place source.
    let goes : search source (path ∷ paths) t ≡ search source paths t =
    ap (λ (u : Table). search_on path u (search source paths) (found_at path u)) (known_asked source path t Absent absent)
    ∙ ap (search_on path t (search source paths)) absent in
    subst (λ (x : Searched). GivesOpening (Ok n) (opening_found place x) t) (sym goes) (h place source)

absent-by : (path : List ℕ) (t : Table) (f : Found) → is_absent f ≡ true → f ≡ Absent
absent-by path t Absent h = refl
absent-by path t Lines h = absurd (cc)
absent-by path t (Unopened bytes) h = absurd (cc)
absent-by path t (Opened bytes) h = absurd (cc)
absent-by path t (Made bytes) h = absurd (cc)

absent-tested : (b : Bool) (o : Option (List ℕ)) (p : List ℕ) → (if b then o else None) ≡ Some p → b ≡ true
absent-tested true o p h = refl
absent-tested false o p h = absurd (cc)

-- a number whose path is absent
pub absent-found : (path p : List ℕ) (t : Table) (n : ℕ) → number_at path t ≡ Some n → absent_at t n ≡ Some p → found_at path t ≡ Some Absent
absent-found path p t n h a =
    let found = number-found path t n (found_at path t) refl h in
    let e = found-entry path t found.0 found.1 in
    let at : slice_get t n ≡ Some e.0 = ap (slice_get t) (sym found.2) ∙ e.1 in
    let told : is_absent_at t n ≡ true = absent-tested (is_absent_at t n) (option_map (λ (x : Entry). x.path) (slice_get t n)) p a in
    let is : is_absent e.0.found ≡ true = ap (λ (o : Option Entry). option_map_or (λ (x : Entry). is_absent x.found) o false) (sym at) ∙ told in
    found.1 ∙ ap (λ (f : Found). Some f) (sym e.3 ∙ absent-by path t e.0.found is)

-- ---- the file of a header

pub lead-opens : (o : Option SourceFile) (t : Table) (unit : UnitValue) (at : Pos) (h : Header) (l : Lead) (paths : List (List ℕ)) (place : Place)
    → IfSome o (λ file. paths ≡ candidates_of false h None file.path unit) → IfSome o (λ file. place ≡ place_in file at) → IsKnownFile t paths l.number
    → IfSome o (λ file. IfSome (source_at t l.number) (λ inner. l.behind ≡ behind_of false h None file.path unit inner.path))
    → IfSome o (λ file. OpensLead unit t file at h l)
lead-opens None t unit at h l paths place asks stands known begins = tt
lead-opens (Some file) t unit at h l paths place asks stands known begins =
    (λ source earlier. header-asked (Ok l.number) t t source unit earlier (Some file) at false h None paths place asks stands (known place source), begins)

-- ---- leads, one behind the other

pub leads-push : (unit : UnitValue) (t : Table) (file : SourceFile) (k : ℕ) (leads : List Lead) (l : Lead) → AreLeads unit t file k leads → IsLead unit t file (k + length leads) l
    → AreLeads unit t file k (leads ++ l ∷ [])
leads-push unit t file k [] l h is = (subst (λ (n : ℕ). IsLead unit t file n l) (omega arith) is, tt)
leads-push unit t file k (d ∷ leads) l h is =
    (h.0, leads-push unit t file (k + 1) leads l h.1 (subst (λ (n : ℕ). IsLead unit t file n l) (omega arith) is))

pub some-none : (o : Option SourceFile) (unit : UnitValue) (t : Table) → IfSome o (λ file. AreLeads unit t file 0 [])
some-none None unit t = tt
some-none (Some file) unit t = tt

pub some-pushed : (o : Option SourceFile) (unit : UnitValue) (t : Table) (k : ℕ) (leads more : List Lead) (l : Lead) → more ≡ leads ++ l ∷ [] → length leads ≡ k
    → IfSome o (λ file. AreLeads unit t file 0 leads) → IfSome o (λ file. IsLead unit t file k l) → IfSome o (λ file. AreLeads unit t file 0 more)
some-pushed None unit t k leads more l is count h here = tt
some-pushed (Some file) unit t k leads more l is count h here =
    subst (λ (ls : List Lead). AreLeads unit t file 0 ls) (sym is) (leads-push unit t file 0 leads l h (subst (λ (n : ℕ). IsLead unit t file n l) (omega (arith, count)) here))

-- a file that is known is there
pub known-there : (t : Table) (paths : List (List ℕ)) (n : ℕ) → IsKnownFile t paths n → IsSome (source_at t n)
known-there t paths n h = let gives = h (record { path = []; line = 1; column = 1 }) (λ name. None) in ap is_some gives.1

pub lead-kept : (o : Option Lead) (lead : Lead) (P : Lead → Type 0) → IfSome o (λ l. l ≡ lead) → P lead → IfSome o P
lead-kept None lead P same h = tt
lead-kept (Some l) lead P same h = subst P (sym same) h

-- an item that is such a line
pub lead-found : {E : Type 0} (r : Result (Option Lead) E) (q kept : Option SourceFile) (u : UnitValue) (t : Table) (k : ℕ) (i : ItemText) (h : Header) → kept ≡ q
    → IfSome kept (λ source. Some i ≡ slice_get (items_in source) k) → IsWritten i h
    → IfOk r (λ o. IfSome o (λ l. (l.at ≡ i.at) × IfSome q (λ file. OpensLead u t file i.at h l)))
    → IfOk r (λ o. IfSome o (λ l. IfSome q (λ file. IsLead u t file k l)))
lead-found (Err e) q kept u t k i h same at written opens = tt
lead-found (Ok None) q kept u t k i h same at written opens = tt
lead-found (Ok (Some l)) None kept u t k i h same at written opens = tt
lead-found (Ok (Some l)) (Some file) kept u t k i h same at written opens =
    let here : Some i ≡ slice_get (items_in file) k = subst (λ (o : Option SourceFile). IfSome o (λ source. Some i ≡ slice_get (items_in source) k)) same at in
    record {
      item = i;
      header = h;
      at = sym here;
      place = sym opens.0;
      written = written;
      opens = subst (λ (a : Pos). OpensLead u t file a h l) (sym opens.0) opens.1;
    }
