-- Sources that agree with a table.
use Rattle.std.proofs.Common.{◌≡◌, ℕ, true, false, not, List, [], ◌∷◌, Option, None, Some, refl, ◌∙◌, subst, inl, inr}
use Rattle.std.specs.List.{list_any}
use Rattle.std.specs.Str.{bytes_eq}
use Rattle.std.proofs.lemmas.Bool.{cases_Bool, and_parts, or_right}
use Rattle.cs_base.proofs.FileMapLemmas.{bytes_eq-same, bytes_eq-equal}
use Rattle.source_files.specs.Files.{Source, Found, Lines, Absent, Unopened, Opened, Made, Entry, Table, found_at}
use Rattle.source_files.specs.Tables.{paths_in, IsFound, AreFound, HasEachOnce}

-- ---- sources that hold the same

is_found-along : (source other : Source) (path : List ℕ) (found : Found) → other path ≡ source path → IsFound source path found → IsFound other path found
is_found-along source other path Lines same h = tt
is_found-along source other path Absent same h = same ∙ h
is_found-along source other path (Unopened bytes) same h = same ∙ h
is_found-along source other path (Opened bytes) same h = same ∙ h
is_found-along source other path (Made bytes) same h = tt

found-along : (source other : Source) (table : Table) → ((path : List ℕ) → list_any (bytes_eq path) (paths_in table) ≡ true → other path ≡ source path)
    → AreFound source table → AreFound other table
found-along source other [] same all = tt
found-along source other (e ∷ table) same all = (
  is_found-along source other e.path e.found (same e.path (rw (bytes_eq-same e.path) refl)) all.0,
  found-along source other table (λ path h. same path (or_right (bytes_eq path e.path) (list_any (bytes_eq path) (paths_in table)) h)) all.1,
)

-- ---- what a table tells, as a source

told_bytes : Option Found → Option (List ℕ)
told_bytes (Some (Unopened bytes)) = Some bytes
told_bytes (Some (Opened bytes)) = Some bytes
told_bytes _ = None

source_in : Table → Source
source_in table path = told_bytes (found_at path table)

told-here : (source : Source) (path : List ℕ) (found : Found) → source path ≡ told_bytes (Some found) → IsFound source path found
unfolding told_bytes
told-here source path Lines h = tt
told-here source path Absent h = h
told-here source path (Unopened bytes) h = h
told-here source path (Opened bytes) h = h
told-here source path (Made bytes) h = tt

-- a path behind the first entry is told of there
later-told : (e : Entry) (table : Table) → HasEachOnce (e ∷ table) → (path : List ℕ) → list_any (bytes_eq path) (paths_in table) ≡ true
    → source_in (e ∷ table) path ≡ source_in table path
unfolding source_in found_at
later-told e table once path among = elim (cases_Bool (bytes_eq path e.path)) [
  | inl same ↦ absurd (
      let is : path ≡ e.path = bytes_eq-equal path e.path same in
      let other : not (list_any (bytes_eq e.path) (paths_in table)) ≡ true = (and_parts _ _ once).0 in
      let there : list_any (bytes_eq e.path) (paths_in table) ≡ true = subst (λ (p : List ℕ). list_any (bytes_eq p) (paths_in table) ≡ true) is among in
      let wrong : false ≡ true = rw there at other in cc)
  | inr other ↦ rw other refl
]

first-told : (e : Entry) (table : Table) → source_in (e ∷ table) e.path ≡ told_bytes (Some e.found)
unfolding source_in found_at
first-told e table = rw (bytes_eq-same e.path) refl

table-source : (table : Table) → HasEachOnce table → AreFound (source_in table) table
table-source [] once = tt
table-source (e ∷ table) once = (
  told-here (source_in (e ∷ table)) e.path e.found (first-told e table),
  found-along (source_in table) (source_in (e ∷ table)) table (later-told e table once) (table-source table ((and_parts _ _ once).1)),
)

pub some_source : (table : Table) → HasEachOnce table → (source : Source) × AreFound source table
some_source table once = (source_in table, table-source table once)
