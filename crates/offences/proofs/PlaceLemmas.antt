-- Paths of a table, each of which stands once, and the files that are kept by their numbers.
use Rattle.std.proofs.Common.{◌≡◌, ℕ, zero, suc, true, not, List, [], ◌∷◌, Option, Some, None, refl, sym, ap, ◌∙◌}
use Rattle.std.specs.Prelude.{slice_get}
use Rattle.std.specs.List.{list_any}
use Rattle.std.specs.Option.{option_map, option_and_then}
use Rattle.std.specs.Str.{bytes_eq}
use Rattle.std.proofs.lemmas.Bool.{and_parts}
use Rattle.std.proofs.lemmas.Option.{same_Some, none-some}
use Rattle.cs_base.proofs.FileMapLemmas.{bytes_eq-same}
use Rattle.cs_base.proofs.ListLemmas.{any_at as any_from}
use Rattle.analysis.specs.Below.line_shape.MacroLine.{are_distinct}
use Rattle.analysis.specs.Below.source_files.Files.{Entry, Table}
use Rattle.analysis.specs.Below.source_files.KeptFiles.{KeptValue, kept, kept_bytes, kept_in, kept_at}
use Rattle.analysis.specs.Below.source_files.Tables.{paths_in}
use Rattle.analysis.proofs.Below.source_files.KeptLemmas.{path_in as path_of_entry}

twice : (y : List ℕ) (ys : List (List ℕ)) (k : ℕ) (x : List ℕ) → are_distinct (y ∷ ys) ≡ true → y ≡ x → slice_get ys k ≡ Some x → ⊥
twice y ys k x distinct same at =
    let among : list_any (bytes_eq y) ys ≡ true = any_from (bytes_eq y) ys k x at (ap (bytes_eq y) (sym same) ∙ bytes_eq-same y) in
    let wrong : not true ≡ true = ap not (sym among) ∙ (and_parts (not (list_any (bytes_eq y) ys)) (are_distinct ys) distinct).0 in
    absurd (cc)

pub one_place : (names : List (List ℕ)) (i j : ℕ) (x : List ℕ) → are_distinct names ≡ true → slice_get names i ≡ Some x → slice_get names j ≡ Some x → i ≡ j
one_place [] i j x distinct e f = absurd (cc)
one_place (y ∷ ys) zero zero x distinct e f = refl
one_place (y ∷ ys) zero (suc j) x distinct e f = absurd (twice y ys j x distinct (same_Some y x e) f)
one_place (y ∷ ys) (suc i) zero x distinct e f = absurd (twice y ys i x distinct (same_Some y x f) e)
one_place (y ∷ ys) (suc i) (suc j) x distinct e f =
    ap suc (one_place ys i j x ((and_parts (not (list_any (bytes_eq y) ys)) (are_distinct ys) distinct).1) e f)

-- ---- entries of a table

-- a kept file has the path and the number of its entry
pub record IsOfEntry (n : ℕ) (e : Entry) (f : KeptValue) : Type 0 where
  pub path : f.path ≡ e.path
  pub number : f.number ≡ n

pub kept_by : (n : ℕ) (path : List ℕ) (o : Option (List ℕ)) (f : KeptValue) → option_map (kept n path) o ≡ Some f → (f.path ≡ path) × (f.number ≡ n)
kept_by n path None f h = absurd (none-some f h)
kept_by n path (Some bytes) f h =
    let same : kept n path bytes ≡ f = same_Some (kept n path bytes) f h in
    (sym (ap (λ (k : KeptValue). k.path) same), sym (ap (λ (k : KeptValue). k.number) same))

pub kept_of : (n : ℕ) (e : Entry) (f : KeptValue) → kept_in n e ≡ Some f → IsOfEntry n e f
kept_of n e f h = let r = kept_by n e.path (kept_bytes e.found) f h in record { path = r.0; number = r.1 }

-- a kept file of a table, and its entry
pub entry_by : (n : ℕ) (o : Option Entry) (f : KeptValue) → option_and_then (kept_in n) o ≡ Some f → (e : Entry) × (o ≡ Some e) × (kept_in n e ≡ Some f)
entry_by n None f h = absurd (none-some f h)
entry_by n (Some e) f h = (e, refl, h)

pub kept_there : (table : Table) (n : ℕ) (f : KeptValue) → kept_at table n ≡ Some f → slice_get (paths_in table) n ≡ Some f.path
kept_there table n f h =
    let r = entry_by n (slice_get table n) f h in
    let of = kept_of n r.0 f r.2 in
    path_of_entry table n r.0 r.1 ∙ ap (λ (p : List ℕ). Some p) (sym of.path)

-- ---- paths
