-- What the edited files hold is what the edited table tells.
use Rattle.std.proofs.Common.{◌≡◌, ℕ, suc, ◌+◌, List, [], ◌∷◌, Some, refl, ap, ◌∙◌, arith}
use Rattle.std.specs.Prelude.{slice_get}
use Rattle.std.specs.Option.{option_map}
use Rattle.source_files.specs.Files.{Source, Found, Lines, Absent, Unopened, Opened, Made, Entry, Table}
use Rattle.source_files.specs.Tables.{IsFound, AreFound}
use Rattle.edited_unit_laws.specs.EditedFiles.{EditedTablesAreFound}
use Rattle.analysis.specs.Changed.{Editing, edited_found, edited_from}

found-anew : (old new : Source) (edit : List ℕ → List ℕ) (path : List ℕ) (f : Found) → new path ≡ option_map edit (old path) → IsFound old path f → IsFound new path (edited_found edit f)
found-anew old new edit path Lines h is = tt
found-anew old new edit path Absent h is = h ∙ ap (option_map edit) is
found-anew old new edit path (Unopened bytes) h is = h ∙ ap (option_map edit) is
found-anew old new edit path (Opened bytes) h is = h ∙ ap (option_map edit) is
found-anew old new edit path (Made bytes) h is = tt

from-anew : (old new : Source) (edit : Editing) (n : ℕ) (t : Table) → ((k : ℕ) (e : Entry) → slice_get t k ≡ Some e → new e.path ≡ option_map (edit (n + k)) (old e.path))
    → AreFound old t → AreFound new (edited_from edit n t)
from-anew old new edit n [] h is = tt
from-anew old new edit n (e ∷ t) h is =
    let here : n + 0 ≡ n = omega arith in
    let first : new e.path ≡ option_map (edit n) (old e.path) = h 0 e refl ∙ ap (λ (m : ℕ). option_map (edit m) (old e.path)) here in (
      found-anew old new (edit n) e.path e.found first is.0,
      from-anew old new edit (suc n) t
          (λ k d at.
          let there : n + suc k ≡ suc n + k = omega arith in
          h (suc k) d at ∙ ap (λ (m : ℕ). option_map (edit m) (old d.path)) there)
          is.1,
    )

pub edited_tables_are_found : EditedTablesAreFound
edited_tables_are_found = λ c old new is holds.
    from-anew old new c.editing 0 c.files
    (λ k e at.
    let there : k ≡ 0 + k = omega arith in
    holds k e at ∙ ap (λ (m : ℕ). option_map (c.editing m) (old e.path)) there)
    is
