-- What stays under a renaming, list by list.
use Rattle.std.proofs.Common.{◌≡◌, List, [], ◌∷◌, map, refl}
use Rattle.cs_base.specs.Token.{Token}
use Rattle.analysis.specs.Analysis.{UnitAnalysis}
use Rattle.analysis.specs.Changed.{renamed_token, renamed_unit_analysis}
use Rattle.analysis.proofs.TableLemmas.{paths-from}
use Rattle.renamed.specs.Staying.{RenamedTokensStay, EditedPathsStay, RenamedUnitsStay}

-- what is the same of each element is so of the list
map-stays : {X Y : Type 0} (f : X → Y) (g : X → X) → ((x : X) → f (g x) ≡ f x) → (xs : List X) → map f (map g xs) ≡ map f xs
map-stays f g same [] = refl
map-stays f g same (x ∷ xs) = rw (same x, map-stays f g same xs) refl

pub renamed_tokens_stay : RenamedTokensStay
renamed_tokens_stay = λ r k. record {
  kinds = map-stays (λ (t : Token). t.kind) (renamed_token r) (λ t. refl) k.toks;
  gaps = map-stays (λ (t : Token). t.gap) (renamed_token r) (λ t. refl) k.toks;
  lines = map-stays (λ (t : Token). t.line) (renamed_token r) (λ t. refl) k.toks;
  direct = map-stays (λ (t : Token). t.direct) (renamed_token r) (λ t. refl) k.toks;
}

pub edited_paths_stay : EditedPathsStay
edited_paths_stay = λ edit table. paths-from edit 0 table

pub renamed_units_stay : RenamedUnitsStay
renamed_units_stay = λ r edit a. record {
  trees = map-stays (λ (u : UnitAnalysis). u.tree) (renamed_unit_analysis r) (λ u. refl) a.units;
  bindings = map-stays (λ (u : UnitAnalysis). u.bound) (renamed_unit_analysis r) (λ u. refl) a.units;
}
