-- Searching and opening files: what becomes of the state.
use Rattle.std.proofs.Common.{◌≡◌, ℕ, nat_le, cond, Bool, true, false, List, [], ◌∷◌, Option, None, Some, Result, Ok, Err, refl, arith}
use Rattle.cs_base.specs.declared.causes.Cause.TheVariants.{TooManyFiles, TooManyBytes}
use Rattle.cs_base.specs.declared.positions.Place.{Place}
use Rattle.source_files.specs.Below.lexer.FileText.{TextValue, LexFault, FileTooLarge, OpenComment}
use Rattle.source_files.specs.Limits.{Limits}
use Rattle.source_files.specs.Files.{Source, Found, Lines, Absent, Unopened, Opened, Made, Table, SourceFile, found_at, opened, asked, number_of, files_opened}
use Rattle.source_files.specs.Faults.{Fault, fault}
use Rattle.unit_steps.specs.State.{Context, State}
use Rattle.source_files.specs.Opening.{Reader, Opening, file_read, readable, first_opened, are_too_many, opened_as, opening}
use Rattle.source_files.specs.Search.{Searched, search, search_on}
use Rattle.include_tree.specs.OpeningStep.{with_opened, open_file}
use Rattle.include_tree.specs.Laws.{IfDone, Leads}
use Rattle.source_files.specs.Tables.{Widens}
use Rattle.source_files.proofs.TableLemmas.{widens_refl, widens_trans, widens_asked, widens_opened}
use Rattle.include_tree.proofs.LeadsLemmas.{leads_by}

-- what a search makes of the table it is given
abbrev GoesWide : Source → (Table → Searched) → Type 0
GoesWide source rest = (t : Table) → Widens source t (rest t).table

search_on_wide : (source : Source) (path : List ℕ) (t : Table) (rest : Table → Searched) → GoesWide source rest → (o : Option Found)
    → Widens source t (search_on path t rest o).table
search_on_wide source path t rest h None = h t
search_on_wide source path t rest h (Some Absent) = h t
search_on_wide source path t rest h (Some Lines) = h t
search_on_wide source path t rest h (Some (Unopened bytes)) = widens_refl source t
search_on_wide source path t rest h (Some (Opened bytes)) = widens_refl source t
search_on_wide source path t rest h (Some (Made bytes)) = widens_refl source t

pub search_wide : (source : Source) (paths : List (List ℕ)) (t : Table) → Widens source t (search source paths t).table
unfolding search
search_wide source [] t = widens_refl source t
search_wide source (path ∷ paths) t =
    widens_trans source t (asked source path t)
    (search_on path (asked source path t) (search source paths) (found_at path (asked source path t))).table
    (widens_asked source path t)
    (search_on_wide source path (asked source path t) (search source paths) (search_wide source paths) (found_at path (asked source path t)))

-- ---- opening

-- a state behind a file, whatever the file
abbrev pub FileLeads : Context → State → SourceFile → State → Type 0
FileLeads ctx s file t = Leads ctx s 0 t

-- what opening makes of a table
abbrev OpensWide : Source → Table → Opening → Type 0
OpensWide source t (Ok r) = Widens source t r.1
OpensWide source t (Err found) = Unit {0}

file_read_wide : (source : Source) (t u : Table) (place : Place) (number : ℕ) (path : List ℕ) (r : Result TextValue LexFault)
    → Widens source t u → OpensWide source t (file_read place number path u r)
file_read_wide source t u place number path (Ok text) h = h
file_read_wide source t u place number path (Err FileTooLarge) h = tt
file_read_wide source t u place number path (Err (OpenComment at line column)) h = tt

test_wide : (source : Source) (t : Table) (b : Bool) (found : Fault) (o : Opening) → OpensWide source t o → OpensWide source t (cond b (Err found) o)
test_wide source t true found o h = tt
test_wide source t false found o h = h

first_opened_wide : (source : Source) (limits : Limits) (reader : Reader) (place : Place) (path bytes : List ℕ) (t : Table)
    → found_at path t ≡ Some (Unopened bytes) → OpensWide source t (first_opened limits reader place path bytes t)
first_opened_wide source limits reader place path bytes t h =
    test_wide source t (nat_le limits.files (files_opened t)) (fault place TooManyFiles)
    (cond (are_too_many limits reader path bytes t) (Err (fault place TooManyBytes)) (readable reader place path bytes (opened path bytes t)))
    (test_wide source t (are_too_many limits reader path bytes t) (fault place TooManyBytes) (readable reader place path bytes (opened path bytes t))
    (file_read_wide source t (opened path bytes t) place (number_of path (opened path bytes t)) path
    (reader (number_of path (opened path bytes t)) bytes) (widens_opened source path bytes t h)))

opened_as_wide : (source : Source) (limits : Limits) (reader : Reader) (place : Place) (path : List ℕ) (t : Table) (o : Option Found) → found_at path t ≡ o
    → OpensWide source t (opened_as limits reader place path t o)
opened_as_wide source limits reader place path t None h = tt
opened_as_wide source limits reader place path t (Some Lines) h = tt
opened_as_wide source limits reader place path t (Some Absent) h = tt
opened_as_wide source limits reader place path t (Some (Unopened bytes)) h = first_opened_wide source limits reader place path bytes t h
opened_as_wide source limits reader place path t (Some (Opened bytes)) h =
    file_read_wide source t t place (number_of path t) path (reader (number_of path t) bytes) (widens_refl source t)
opened_as_wide source limits reader place path t (Some (Made bytes)) h =
    file_read_wide source t t place (number_of path t) path (reader (number_of path t) bytes) (widens_refl source t)

with_opened_leads : (ctx : Context) (s : State) (o : Opening) → OpensWide ctx.source s.table o → IfDone (FileLeads ctx s) (with_opened s o)
with_opened_leads ctx s (Ok r) h = leads_by ctx s (record s { table = r.1 }) refl (omega arith) h
with_opened_leads ctx s (Err found) h = tt

pub open_file_leads : (ctx : Context) (place : Place) (path : List ℕ) (s : State) → IfDone (FileLeads ctx s) (open_file ctx place path s)
open_file_leads ctx place path s =
    with_opened_leads ctx s (opening ctx.limits ctx.reader place path s.table)
    (opened_as_wide ctx.source ctx.limits ctx.reader place path s.table (found_at path s.table) refl)
