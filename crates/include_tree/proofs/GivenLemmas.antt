-- Opened files as steps give them.
use Rattle.std.proofs.Common.{◌≡◌, ℕ, Bool, List, Option, None, Some, Result, Ok, Err, refl, sym, ap, subst}
use Rattle.std.specs.Prelude.{IfSome}
use Rattle.cs_base.specs.declared.positions.Place.{Place}
use Rattle.cs_base.specs.declared.positions.Pos.{Pos}
use Rattle.cs_base.specs.Units.{UnitValue}
use Rattle.source_files.specs.Below.lexer.FileText.{file_text}
use Rattle.source_files.specs.declared.pre_fault.PreFault.{PreFault}
use Rattle.source_files.specs.Limits.{the_limits}
use Rattle.source_files.specs.Files.{Table, SourceFile, Source}
use Rattle.source_files.specs.Faults.{Fault, place_in}
use Rattle.unit_steps.specs.State.{State, Outcome}
use Rattle.source_files.specs.Opening.{Opening, opening}
use Rattle.include_tree.specs.OpeningStep.{with_opened}
use Rattle.source_files.specs.Search.{Header, Searched, candidates_of, search}
use Rattle.include_tree.specs.Including.{open_searched, open_header}
use Rattle.source_files.specs.Answers.{fault_of}
use Rattle.source_files.specs.Sources.{GivesOpening, opening_searched, opening_found}
use Rattle.include_tree.specs.GivenFiles.{unit_context, GivesFile}

some-fault : (o : Option Fault) (m : Opening) (s : State) → IfSome o (λ f. ◌≡◌ {A = Opening} m (Err f)) → IfSome o (λ f. ◌≡◌ {A = Outcome SourceFile} (with_opened s m) (Err f))
some-fault None m s h = tt
some-fault (Some f) m s h = ap (with_opened s) h

-- the step of an opening
pub gives-file : (r : Result ℕ PreFault) (m : Opening) (v : Table) (s : State) → GivesOpening r m v → GivesFile r (with_opened s m) v s
gives-file (Ok number) m v s h = (h.0, h.1, ap (with_opened s) h.2)
gives-file (Err e) m v s h = some-fault (fault_of e) m s h

other-table : (s : State) (t : Table) (m : Opening) → with_opened (record s { table = t }) m ≡ with_opened s m
other-table s t (Ok r) = refl
other-table s t (Err f) = refl

searched-step : (source : Source) (unit : UnitValue) (earlier : ℕ) (file : SourceFile) (at : Pos) (s : State) (found : Searched) (o : Option (List ℕ))
    → open_searched (unit_context source unit earlier) file at s found o ≡ with_opened s (opening_searched (place_in file at) found o)
searched-step source unit earlier file at s found None = refl
searched-step source unit earlier file at s found (Some path) =
    other-table s found.table (opening the_limits file_text (place_in file at) path found.table)

-- the file of a header, by what the search for its paths opens
pub header-file : (r : Result ℕ PreFault) (t v : Table) (source : Source) (unit : UnitValue) (earlier : ℕ) (file : SourceFile) (at : Pos) (next : Bool) (h : Header) (s : State) → s.table ≡ t
    → GivesOpening r (opening_found (place_in file at) (search source (candidates_of next h s.behind file.path unit) t)) v
    → GivesFile r (open_header (unit_context source unit earlier) file at next h s) v s
header-file r t v source unit earlier file at next h s is gives =
    let paths = candidates_of next h s.behind file.path unit in
    rw (searched-step source unit earlier file at s (search source paths s.table) (search source paths s.table).path)
    (gives-file r _ v s (rw (← is) at gives))

-- the file of a header, by what an include line asks for
pub header-asked : (r : Result ℕ PreFault) (t v : Table) (source : Source) (unit : UnitValue) (earlier : ℕ) (o : Option SourceFile) (at : Pos) (next : Bool) (h : Header) (behind : Option ℕ) (paths : List (List ℕ)) (place : Place)
    → IfSome o (λ file. paths ≡ candidates_of next h behind file.path unit) → IfSome o (λ file. place ≡ place_in file at)
    → GivesOpening r (opening_found place (search source paths t)) v
    → IfSome o (λ file. (s : State) → s.table ≡ t → s.behind ≡ behind → GivesFile r (open_header (unit_context source unit earlier) file at next h s) v s)
header-asked r t v source unit earlier None at next h behind paths place asks stands gives = tt
header-asked r t v source unit earlier (Some file) at next h behind paths place asks stands gives = λ s is begins.
    header-file r t v source unit earlier file at next h s is
    (subst (λ (b : Option ℕ). GivesOpening r (opening_found (place_in file at) (search source (candidates_of next h b file.path unit) t)) v) (sym begins)
    (subst (λ (ps : List (List ℕ)). GivesOpening r (opening_found (place_in file at) (search source ps t)) v) asks
    (subst (λ (p : Place). GivesOpening r (opening_found p (search source paths t)) v) stands gives)))
