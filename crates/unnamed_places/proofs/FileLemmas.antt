-- The file of a path, by its number.
use Rattle.std.proofs.Common.{◌≡◌, ℕ, ◌<◌, ◌≤◌, true, false, List, Option, Some, None, length, slice_get, refl, sym, ap, ◌∙◌, subst, arith}
use Rattle.std.specs.Prelude.{MatchOption}
use Rattle.std.specs.Option.{option_and_then, option_map_or}
use Rattle.std.specs.Str.{bytes_eq}
use Rattle.std.proofs.lemmas.Option.{none-some, slice_get_within}
use Rattle.cs_base.proofs.FileMapLemmas.{bytes_eq-equal, bytes_eq-same}
use Rattle.analysis.specs.Below.source_files.Files.{Entry}
use Rattle.analysis.specs.Below.source_files.KeptFiles.{KeptValue, kept_at, kept_in}
use Rattle.analysis.specs.Analysis.{AnalysisValue}
use Rattle.unnamed_places.specs.Unnamed.{has_path_at, IsFile}

module _ (a : AnalysisValue) (path : List ℕ) (n : ℕ) where
  there : (o found : Option KeptValue) → o ≡ kept_at a.table n → option_map_or (λ f. bytes_eq path f.path) o false ≡ true → found ≡ o
      → MatchOption found ((file : KeptValue) → IsFile a path file → ⊥) (IsFile a path)
  there None found at has is = absurd (cc)
  there (Some f) found at has is =
      subst (λ (o : Option KeptValue). MatchOption o ((file : KeptValue) → IsFile a path file → ⊥) (IsFile a path)) (sym is)
      (record { number = n; is_kept = sym at; own = sym (bytes_eq-equal path f.path has) })

  pub file_here : (found : Option KeptValue) → has_path_at a path n ≡ true → found ≡ kept_at a.table n
      → MatchOption found ((file : KeptValue) → IsFile a path file → ⊥) (IsFile a path)
  file_here found has is = there (kept_at a.table n) found refl has is

  within : (f : KeptValue) (o : Option Entry) → slice_get a.table n ≡ o → option_and_then (kept_in n) o ≡ Some f → n < length a.table
  within f None at kept = absurd (none-some f kept)
  within f (Some e) at kept = slice_get_within a.table n e at

-- no number has it
pub file_nowhere : (a : AnalysisValue) (path : List ℕ) (n : ℕ) → length a.table ≤ n → ((k : ℕ) → k < n → has_path_at a path k ≡ false)
    → (file : KeptValue) → IsFile a path file → ⊥
file_nowhere a path n past none file is =
    let below : is.number < length a.table = within a path is.number file (slice_get a.table is.number) refl is.is_kept in
    let here : has_path_at a path is.number ≡ true =
    ap (λ (o : Option KeptValue). option_map_or (λ f. bytes_eq path f.path) o false) is.is_kept
    ∙ ap (bytes_eq path) is.own ∙ bytes_eq-same path in
    let not_here = none is.number (omega (arith, below, past)) in
    cc
