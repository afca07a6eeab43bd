-- Paths that no kept file has, and that name no file then.
use Rattle.std.proofs.Common.{◌≡◌, ℕ, zero, suc, ◌+◌, ◌<◌, true, false, List, [], ◌∷◌, Option, None, Some, length, refl, subst, ⊎_elim, arith}
use Rattle.std.specs.Prelude.{slice_get}
use Rattle.std.specs.Option.{option_map, option_and_then}
use Rattle.std.specs.Str.{bytes_eq}
use Rattle.std.proofs.lemmas.Bool.{cases_Bool}
use Rattle.std.proofs.lemmas.Option.{slice_get_within}
use Rattle.analysis.specs.Below.source_files.Files.{Table, Entry}
use Rattle.analysis.specs.Below.source_files.KeptFiles.{kept, kept_bytes, kept_in, kept_at}
use Rattle.analysis.specs.Analysis.{AnalysisValue}
use Rattle.analysis.specs.Naming.{file_named, named_position}
use Rattle.query_report.specs.Paths.{has_path}

-- an entry of the path without a kept file of it has none
not_kept : (path own : List ℕ) (n : ℕ) (bytes : Option (List ℕ)) → bytes_eq path own ≡ true
    → has_path path (option_map (kept n own) bytes) ≡ false → option_map (kept n own) bytes ≡ None
not_kept path own n None same none = refl
not_kept path own n (Some bytes) same none = cc

-- the same among the entries from a number on
not_among : (path : List ℕ) (n : ℕ) (table : Table)
    → ((k : ℕ) (e : Entry) → slice_get table k ≡ Some e → has_path path (kept_in (n + k) e) ≡ false) → file_named path n table ≡ None
unfolding file_named
not_among path n [] none = refl
not_among path n (e ∷ table) none =
    ⊎_elim
    (λ (yes : bytes_eq path e.path ≡ true).
    let here : has_path path (kept_in n e) ≡ false = subst (λ m. has_path path (kept_in m e) ≡ false) (omega arith) (none zero e refl) in
    rw yes (not_kept path e.path n (kept_bytes e.found) yes here))
    (λ (no : bytes_eq path e.path ≡ false).
    rw no (not_among path (n + 1) table
    (λ k other at. subst (λ m. has_path path (kept_in m other) ≡ false) (omega arith) (none (suc k) other at))))
    (cases_Bool (bytes_eq path e.path))

-- no kept file has the path
pub not_named : (path : List ℕ) (table : Table) → ((k : ℕ) → k < length table → has_path path (kept_at table k) ≡ false)
    → file_named path 0 table ≡ None
not_named path table none =
    not_among path 0 table
    (λ k e at.
    let P : Option Entry → Type 0 = λ o. has_path path (option_and_then (kept_in k) o) ≡ false in
    subst (λ m. has_path path (kept_in m e) ≡ false) (omega arith) (subst P at (none k (slice_get_within table k e at))))

-- a path that names no file names no part
pub unnamed : (a : AnalysisValue) (path : List ℕ) (line column : ℕ) → file_named path 0 a.table ≡ None
    → named_position a path line column ≡ None
unfolding named_position
unnamed a path line column none = rw none refl
