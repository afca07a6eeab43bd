-- No file that was found stays unopened where a workspace is analysed: so the files that an analysis keeps are all that it found.
use Rattle.std.proofs.Common.{◌≡◌, ℕ, ◌+◌, true, false, List, [], ◌∷◌, ◌++◌, Option, None, Some, Ok, Err, refl, sym, subst, ◌∙◌, inl, inr}
use Rattle.std.specs.List.{list_any}
use Rattle.std.specs.Str.{bytes_eq}
use Rattle.std.proofs.lemmas.Bool.{cases_Bool, or_parts, and_parts, not-true}
use Rattle.cs_base.specs.Outside.{FileMap, bytes_at}
use Rattle.cs_base.specs.Token.{Token}
use Rattle.cs_base.specs.Units.{UnitValue}
use Rattle.cs_base.proofs.FileMapLemmas.{bytes_eq-same, bytes_eq-equal}
use Rattle.cs_base.proofs.BoolLemmas.{or_right as or-true}
use Rattle.cs_base.proofs.ListLemmas.{bytes_eq-apart as turned}
use Rattle.cs_base.proofs.AnswerLemmas.{map_err_ok as unmapped}
use Rattle.analysis.specs.Below.lexer.FileText.{file_text}
use Rattle.ws_file.specs.Workspace.{WorkspaceValue}
use Rattle.analysis.specs.Below.source_files.Faults.{Fault}
use Rattle.analysis.specs.Below.source_files.Files.{Source, source_of, Found, Lines, Absent, Unopened, Opened, Made, Table, Carried, nothing_carried}
use Rattle.analysis.specs.Below.source_files.Limits.{the_limits}
use Rattle.analysis.specs.Below.source_files.KeptFiles.{kept_bytes}
use Rattle.analysis.specs.Below.source_files.Tables.{IsFound, AreFound, HasEachOnce, paths_in}
use Rattle.analysis.specs.Below.unit_steps.State.{Outcome}
use Rattle.analysis.specs.Below.include_tree.Laws.{IfDone}
use Rattle.analysis.specs.Below.include_tree.Preprocessed.{Preprocessed, preprocessed, preprocessed_by}
use Rattle.analysis.specs.Below.include_tree.Unit.{unit_outcome}
use Rattle.analysis.proofs.Below.include_tree.StayLemmas.{Stays}
use Rattle.analysis.specs.Analysis.{UnitsValue, AnalysisValue, analysis_and, with_unit, unit_read, analysed_from, analysis_of}
use Rattle.analysis.specs.Texts.{UnitFault, unit_fault, unit_with}
use Rattle.analysis.proofs.MadeLemmas.{ok_holds, done_first}
use Rattle.batch_run.proofs.SettledTables.{IsSettled, AreSettled}
use Rattle.batch_run.proofs.SettledWalk.{unit_settles}

-- ---- units in order

settled_by : (earlier : ℕ) (o : Outcome (List Token)) (p : Preprocessed) → IfDone (Stays {A = List Token} AreSettled) o
    → preprocessed_by earlier o ≡ Ok p → AreSettled p.after.table
settled_by earlier (Ok d) p h e = ok_holds {E = Fault} (λ (q : Preprocessed). AreSettled q.after.table) _ p e h
settled_by earlier (Err found) p h e = absurd (cc)

settled_after : (source : Source) (number : ℕ) (unit : UnitValue) (before : Carried) (p : Preprocessed) → AreSettled before.table
    → preprocessed source number unit before ≡ Ok p → AreSettled p.after.table
unfolding preprocessed
settled_after source number unit before p h e =
    settled_by before.toks (unit_outcome the_limits file_text source number unit before) p (unit_settles the_limits file_text source number unit before h) e

units_settle : (source : Source) (number : ℕ) (units : List UnitValue) (before : Carried) (v : UnitsValue) → AreSettled before.table
    → analysed_from source number units before ≡ Ok v → AreSettled v.table
unfolding analysed_from
units_settle source number [] before v h e = ok_holds {E = UnitFault} (λ (u : UnitsValue). AreSettled u.table) _ v e h
units_settle source number (unit ∷ units) before v h e =
    let p = done_first (unit_with source number unit before) _ v e in
    let u = done_first (unit_read unit.standard number unit.path p.0) _ v p.2 in
    let later = done_first (analysed_from source (number + 1) units p.0.after) _ v u.2 in
    let after = settled_after source number unit before p.0 h (unmapped (preprocessed source number unit before) (unit_fault number) p.0 p.1) in
    let rest = units_settle source (number + 1) units p.0.after later.0 after later.1 in
    ok_holds {E = UnitFault} (λ (w : UnitsValue). AreSettled w.table) (with_unit u.0 later.0) v later.2 rest

pub analysis_settles : (source : Source) (ws : WorkspaceValue) (a : AnalysisValue) → analysis_of source ws ≡ Ok a → AreSettled a.table
analysis_settles source ws a e =
    let all = done_first (analysed_from source 1 ws.units nothing_carried) _ a e in
    ok_holds {E = UnitFault} (λ (b : AnalysisValue). AreSettled b.table) (analysis_and ws all.0.units all.0.table) a all.2
    (units_settle source 1 ws.units nothing_carried all.0 (tt, tt) all.1)

-- ---- the files that are kept

-- the file of a path with these bytes, if it has some
abbrev pub file_of : List ℕ → Option (List ℕ) → FileMap
file_of path None = []
file_of path (Some bytes) = (path, bytes) ∷ []

-- the kept files of a table
abbrev pub kept_files : Table → FileMap
kept_files [] = []
kept_files (e ∷ table) = file_of e.path (kept_bytes e.found) ++ kept_files table

-- a path that is not that of the first file
other_front : (own path : List ℕ) (o : Option (List ℕ)) (rest : FileMap) → bytes_eq own path ≡ false
    → bytes_at path (file_of own o ++ rest) ≡ bytes_at path rest
other_front own path None rest apart = refl
other_front own path (Some bytes) rest apart = rw apart refl

-- a path that no entry has is not kept
not_kept : (path : List ℕ) (t : Table) → list_any (bytes_eq path) (paths_in t) ≡ false → bytes_at path (kept_files t) ≡ None
not_kept path [] h = refl
not_kept path (e ∷ t) h =
    other_front e.path path (kept_bytes e.found) (kept_files t) (turned path e.path ((or_parts (bytes_eq path e.path) (list_any (bytes_eq path) (paths_in t)) h).0))
    ∙ not_kept path t ((or_parts (bytes_eq path e.path) (list_any (bytes_eq path) (paths_in t)) h).1)

is_found_along : (source other : Source) (path : List ℕ) (found : Found) → other path ≡ source path → IsFound source path found → IsFound other path found
is_found_along source other path Lines same h = tt
is_found_along source other path Absent same h = same ∙ h
is_found_along source other path (Unopened bytes) same h = same ∙ h
is_found_along source other path (Opened bytes) same h = same ∙ h
is_found_along source other path (Made bytes) same h = tt

found_along : (source other : Source) (t : Table) → ((path : List ℕ) → list_any (bytes_eq path) (paths_in t) ≡ true → other path ≡ source path)
    → AreFound source t → AreFound other t
found_along source other [] same all = tt
found_along source other (e ∷ t) same all = (
  is_found_along source other e.path e.found (same e.path (rw (bytes_eq-same e.path) refl)) all.0,
  found_along source other t (λ path h. same path (or-true (bytes_eq path e.path) (list_any (bytes_eq path) (paths_in t)) h)) all.1,
)

-- the first entry
here_kept : (path : List ℕ) (found : Found) (t : Table) → IsSettled found → list_any (bytes_eq path) (paths_in t) ≡ false
    → IsFound (source_of (file_of path (kept_bytes found) ++ kept_files t)) path found
here_kept path Lines t settled apart = tt
here_kept path Absent t settled apart = not_kept path t apart
here_kept path (Unopened bytes) t settled apart = absurd settled
here_kept path (Opened bytes) t settled apart = rw (bytes_eq-same path) refl
here_kept path (Made bytes) t settled apart = tt

-- a path of a later entry is none of the first
later_apart : (own path : List ℕ) (t : Table) → list_any (bytes_eq own) (paths_in t) ≡ false → list_any (bytes_eq path) (paths_in t) ≡ true
    → bytes_eq own path ≡ false
later_apart own path t apart among = elim (cases_Bool (bytes_eq own path)) [
  | inl same ↦ absurd (
      let there : list_any (bytes_eq own) (paths_in t) ≡ true = subst (λ (p : List ℕ). list_any (bytes_eq p) (paths_in t) ≡ true) (sym (bytes_eq-equal own path same)) among in
      let wrong : true ≡ false = sym there ∙ apart in cc)
  | inr other ↦ other
]

-- what the kept files hold is what the table tells
pub kept_agree : (t : Table) → HasEachOnce t → AreSettled t → AreFound (source_of (kept_files t)) t
kept_agree [] once settled = tt
kept_agree (e ∷ t) once settled =
    let apart : list_any (bytes_eq e.path) (paths_in t) ≡ false = not-true _ ((and_parts _ _ once).0) in (
      here_kept e.path e.found t settled.0 apart,
      found_along (source_of (kept_files t)) (source_of (kept_files (e ∷ t))) t
          (λ path h. other_front e.path path (kept_bytes e.found) (kept_files t) (later_apart e.path path t apart h)) (kept_agree t ((and_parts _ _ once).1) settled.1),
    )
