-- The paths of kept files, and the edit of a file with lists.
use Rattle.std.proofs.Common.{◌≡◌, ℕ, List, [], ◌∷◌, Some, length, refl}
use Rattle.std.specs.Prelude.{IsUtf8}
use Rattle.std.specs.Str.{is_utf8}
use Rattle.std.proofs.lemmas.Str.{IsUtf8-from_is_utf8}
use Rattle.cs_base.specs.Edit.{edit}
use Rattle.cs_base.proofs.ListLemmas.{passes_at}
use Rattle.analysis.specs.Below.source_files.Files.{Table}
use Rattle.analysis.specs.Below.source_files.KeptFiles.{KeptValue, kept_at}
use Rattle.analysis.specs.Below.source_files.Tables.{paths_in, AreText}
use Rattle.analysis.proofs.Below.source_files.KeptLemmas.{kept_path}
use Rattle.template_rules.specs.FileLists.{new_bytes, edit_for}

-- ---- paths

pub kept_text : (table : Table) (n : ℕ) (f : KeptValue) → AreText table → kept_at table n ≡ Some f → IsUtf8 f.path
kept_text table n f texts h = IsUtf8-from_is_utf8 f.path (passes_at is_utf8 (paths_in table) n f.path texts (kept_path table n n f h))

-- ---- the edit of a file with lists

pub edit_for-some : (order : List ℕ) (f : KeptValue) (lists : List (List ℕ)) → (lists ≡ [] → ⊥)
    → edit_for order f lists ≡ edit f.path (new_bytes order lists f) (length lists) ∷ []
edit_for-some order f [] some = absurd (some refl)
edit_for-some order f (l ∷ lists) some = refl

pub edit_for-none : (order : List ℕ) (f : KeptValue) (lists : List (List ℕ)) → lists ≡ [] → edit_for order f lists ≡ []
edit_for-none order f lists none = rw none refl
