-- No file that was found stays unopened: tables, searches and openings.
use Rattle.std.proofs.Common.{◌≡◌, ℕ, nat_le, Bool, true, false, cond, is_some, List, [], ◌∷◌, Option, None, Some, Result, Ok, Err, refl, sym, subst, inl, inr}
use Rattle.std.specs.Str.{bytes_eq}
use Rattle.std.proofs.lemmas.Bool.{cases_Bool}
use Rattle.std.proofs.lemmas.Option.{none-some, same_Some}
use Rattle.cs_base.specs.declared.causes.Cause.TheVariants.{TooManyFiles, TooManyBytes}
use Rattle.cs_base.specs.declared.positions.Place.{Place}
use Rattle.cs_base.specs.declared.positions.Pos.{Pos}
use Rattle.cs_base.proofs.FileMapLemmas.{bytes_eq-same}
use Rattle.analysis.specs.Below.lexer.FileText.{TextValue, LexFault, FileTooLarge, OpenComment}
use Rattle.analysis.specs.Below.source_files.Limits.{Limits}
use Rattle.analysis.specs.Below.source_files.Files.{Source, Found, Lines, Absent, Unopened, Opened, Made, Table, SourceFile, found_at, found_in, numbered, opened, asked, number_of, files_opened}
use Rattle.analysis.specs.Below.source_files.Faults.{Fault, fault, place_in}
use Rattle.analysis.specs.Below.source_files.Opening.{Reader, Opening, file_read, readable, first_opened, are_too_many, opened_as, opening}
use Rattle.analysis.specs.Below.source_files.Search.{Header, Searched, candidates_of, search, search_on}
use Rattle.analysis.specs.Below.unit_steps.State.{Context, State, only}
use Rattle.analysis.specs.Below.include_tree.OpeningStep.{with_opened, open_file}
use Rattle.analysis.specs.Below.include_tree.Including.{open_searched, open_header}
use Rattle.analysis.specs.Below.include_tree.Asking.{there, is_there}
use Rattle.analysis.specs.Below.include_tree.Laws.{IfDone}
use Rattle.analysis.proofs.Below.include_tree.OutcomeLemmas.{onward_done}
use Rattle.analysis.proofs.Below.include_tree.StayLemmas.{Stays}

-- a file that was found is open
abbrev pub IsSettled : Found → Type 0
IsSettled (Unopened bytes) = ⊥
IsSettled _ = Unit {0}

abbrev pub AreSettled : Table → Type 0
AreSettled [] = Unit {0}
AreSettled (e ∷ table) = IsSettled e.found × AreSettled table

abbrev pub Choose : Bool → Type 0 → Type 0 → Type 0
Choose true A B = A
Choose false A B = B

-- the same of all but the first entry of a path
unfoldable pub SettledBut : List ℕ → Table → Type 0
SettledBut path [] = Unit {0}
SettledBut path (e ∷ table) = Choose (bytes_eq path e.path) (AreSettled table) (IsSettled e.found × SettledBut path table)

-- ---- tables

pub settled_push : (path : List ℕ) (found : Found) (t : Table) → IsSettled found → AreSettled t → AreSettled (numbered path found t)
settled_push path found [] new h = (new, tt)
settled_push path found (e ∷ t) new h = (h.0, settled_push path found t new h.1)

pub but_all : (path : List ℕ) (t : Table) → AreSettled t → SettledBut path t
unfolding SettledBut
but_all path [] h = tt
but_all path (e ∷ t) h = elim (cases_Bool (bytes_eq path e.path)) [
  | inl same ↦ rw same h.1
  | inr other ↦ rw other (h.0, but_all path t h.1)
]

but_push : (path : List ℕ) (found : Found) (t : Table) → found_at path t ≡ None → AreSettled t → SettledBut path (numbered path found t)
unfolding SettledBut found_at
but_push path found [] none h = rw (bytes_eq-same path) tt
but_push path found (e ∷ t) none h = elim (cases_Bool (bytes_eq path e.path)) [
  | inl same ↦ absurd (none-some e.found (sym (rw same at none)))
  | inr other ↦ rw other (h.0, but_push path found t (rw other at none) h.1)
]

-- a path that was asked for
but_asked : (path : List ℕ) (bytes : Option (List ℕ)) (t : Table) (o : Option Found) → found_at path t ≡ o → AreSettled t
    → SettledBut path (cond (is_some o) t (numbered path (found_in bytes) t))
but_asked path bytes t None none h = but_push path (found_in bytes) t none h
but_asked path bytes t (Some found) there h = but_all path t h

pub asked_but : (source : Source) (path : List ℕ) (t : Table) → AreSettled t → SettledBut path (asked source path t)
asked_but source path t h = but_asked path (source path) t (found_at path t) refl h

-- all are settled, where what the path stands for is
all_from : (path : List ℕ) (t : Table) (found : Found) → found_at path t ≡ Some found → IsSettled found → SettledBut path t → AreSettled t
unfolding SettledBut found_at
all_from path [] found at is h = tt
all_from path (e ∷ t) found at is h = elim (cases_Bool (bytes_eq path e.path)) [
  | inl same ↦
      let here : e.found ≡ found = same_Some e.found found (rw same at at) in
      (subst IsSettled (sym here) is, rw same at h)
  | inr other ↦
      let rest : IsSettled e.found × SettledBut path t = rw other at h in
      (rest.0, all_from path t found (rw other at at) is rest.1)
]

all_nowhere : (path : List ℕ) (t : Table) → found_at path t ≡ None → SettledBut path t → AreSettled t
unfolding SettledBut found_at
all_nowhere path [] none h = tt
all_nowhere path (e ∷ t) none h = elim (cases_Bool (bytes_eq path e.path)) [
  | inl same ↦ absurd (none-some e.found (sym (rw same at none)))
  | inr other ↦
      let rest : IsSettled e.found × SettledBut path t = rw other at h in
      (rest.0, all_nowhere path t (rw other at none) rest.1)
]

-- a file that is opened
all_opened : (path bytes : List ℕ) (t : Table) → SettledBut path t → AreSettled (opened path bytes t)
unfolding SettledBut opened
all_opened path bytes [] h = tt
all_opened path bytes (e ∷ t) h = elim (cases_Bool (bytes_eq path e.path)) [
  | inl same ↦ let rest : AreSettled t = rw same at h in rw same (tt, rest)
  | inr other ↦
      let rest : IsSettled e.found × SettledBut path t = rw other at h in
      rw other (rest.0, all_opened path bytes t rest.1)
]

-- ---- searches

-- all are settled, but what the search ended with
abbrev pub SettledSearch : Option (List ℕ) → Table → Type 0
SettledSearch None t = AreSettled t
SettledSearch (Some path) t = SettledBut path t

search_on_settles : (path : List ℕ) (t : Table) (rest : Table → Searched) → ((u : Table) → AreSettled u → SettledSearch (rest u).path (rest u).table)
    → (o : Option Found) → found_at path t ≡ o → SettledBut path t → SettledSearch (search_on path t rest o).path (search_on path t rest o).table
search_on_settles path t rest k None at h = k t (all_nowhere path t at h)
search_on_settles path t rest k (Some Lines) at h = k t (all_from path t Lines at tt h)
search_on_settles path t rest k (Some Absent) at h = k t (all_from path t Absent at tt h)
search_on_settles path t rest k (Some (Unopened bytes)) at h = h
search_on_settles path t rest k (Some (Opened bytes)) at h = h
search_on_settles path t rest k (Some (Made bytes)) at h = h

search_settles : (source : Source) (paths : List (List ℕ)) (t : Table) → AreSettled t → SettledSearch (search source paths t).path (search source paths t).table
unfolding search
search_settles source [] t h = h
search_settles source (path ∷ paths) t h =
    search_on_settles path (asked source path t) (search source paths) (λ u g. search_settles source paths u g)
    (found_at path (asked source path t)) refl (asked_but source path t h)

-- ---- opening

abbrev OpensSettled : Opening → Type 0
OpensSettled (Ok r) = AreSettled r.1
OpensSettled (Err found) = Unit {0}

read_settles : (u : Table) (place : Place) (number : ℕ) (path : List ℕ) (r : Result TextValue LexFault) → AreSettled u
    → OpensSettled (file_read place number path u r)
read_settles u place number path (Ok text) h = h
read_settles u place number path (Err FileTooLarge) h = tt
read_settles u place number path (Err (OpenComment at line column)) h = tt

test_settles : (b : Bool) (found : Fault) (o : Opening) → OpensSettled o → OpensSettled (cond b (Err found) o)
test_settles true found o h = tt
test_settles false found o h = h

first_settles : (limits : Limits) (reader : Reader) (place : Place) (path bytes : List ℕ) (t : Table) → AreSettled (opened path bytes t)
    → OpensSettled (first_opened limits reader place path bytes t)
first_settles limits reader place path bytes t h =
    test_settles (nat_le limits.files (files_opened t)) (fault place TooManyFiles)
    (cond (are_too_many limits reader path bytes t) (Err (fault place TooManyBytes)) (readable reader place path bytes (opened path bytes t)))
    (test_settles (are_too_many limits reader path bytes t) (fault place TooManyBytes) (readable reader place path bytes (opened path bytes t))
    (read_settles (opened path bytes t) place (number_of path (opened path bytes t)) path
    (reader (number_of path (opened path bytes t)) bytes) h))

opened_settles : (limits : Limits) (reader : Reader) (place : Place) (path : List ℕ) (t : Table) (o : Option Found) → found_at path t ≡ o → SettledBut path t
    → OpensSettled (opened_as limits reader place path t o)
opened_settles limits reader place path t None at h = tt
opened_settles limits reader place path t (Some Lines) at h = tt
opened_settles limits reader place path t (Some Absent) at h = tt
opened_settles limits reader place path t (Some (Unopened bytes)) at h = first_settles limits reader place path bytes t (all_opened path bytes t h)
opened_settles limits reader place path t (Some (Opened bytes)) at h =
    read_settles t place (number_of path t) path (reader (number_of path t) bytes) (all_from path t (Opened bytes) at tt h)
opened_settles limits reader place path t (Some (Made bytes)) at h =
    read_settles t place (number_of path t) path (reader (number_of path t) bytes) (all_from path t (Made bytes) at tt h)

with_settles : (s : State) (o : Opening) → OpensSettled o → IfDone (Stays {A = SourceFile} AreSettled) (with_opened s o)
with_settles s (Ok r) h = h
with_settles s (Err found) h = tt

pub open_settles : (ctx : Context) (place : Place) (path : List ℕ) (s : State) → SettledBut path s.table
    → IfDone (Stays {A = SourceFile} AreSettled) (open_file ctx place path s)
open_settles ctx place path s h =
    with_settles s (opening ctx.limits ctx.reader place path s.table)
    (opened_settles ctx.limits ctx.reader place path s.table (found_at path s.table) refl h)

searched_settles : (ctx : Context) (file : SourceFile) (at : Pos) (s : State) (found : Searched) (o : Option (List ℕ)) → SettledSearch o found.table
    → IfDone (Stays {A = SourceFile} AreSettled) (open_searched ctx file at s found o)
searched_settles ctx file at s found None h = tt
searched_settles ctx file at s found (Some path) h = open_settles ctx (place_in file at) path (record s { table = found.table }) h

-- the file of a header
pub header_settles : (ctx : Context) (file : SourceFile) (at : Pos) (next : Bool) (header : Header) (s : State) → AreSettled s.table
    → IfDone (Stays {A = SourceFile} AreSettled) (open_header ctx file at next header s)
header_settles ctx file at next header s h =
    let paths = candidates_of next header s.behind file.path ctx.unit in
    let found : Searched = search ctx.source paths s.table in
    searched_settles ctx file at s found found.path (search_settles ctx.source paths s.table h)

-- whether the file of a header is there
there_settles : (ctx : Context) (file : SourceFile) (at : Pos) (s : State) (found : Searched) (o : Option (List ℕ)) → SettledSearch o found.table
    → IfDone (Stays {A = Bool} AreSettled) (there ctx file at s found o)
there_settles ctx file at s found None h = h
there_settles ctx file at s found (Some path) h =
    let t : State = record s { table = found.table } in
    onward_done (Stays {A = SourceFile} AreSettled) (Stays {A = Bool} AreSettled) (open_file ctx (place_in file at) path t) (λ f u. only true u)
    (open_settles ctx (place_in file at) path t h) (λ f u g. g)

pub is_there_settles : (ctx : Context) (file : SourceFile) (at : Pos) (next : Bool) (header : Header) (s : State) → AreSettled s.table
    → IfDone (Stays {A = Bool} AreSettled) (is_there ctx file at next header s)
is_there_settles ctx file at next header s h =
    let paths = candidates_of next header s.behind file.path ctx.unit in
    let found : Searched = search ctx.source paths s.table in
    there_settles ctx file at s found found.path (search_settles ctx.source paths s.table h)
