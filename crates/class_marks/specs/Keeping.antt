-- Lists that are gone through, of which some elements are taken.
use Rattle.std.specs.Prelude.{List, [], ◌∷◌}

-- The second list has those of the first of which the property holds, in their order.
pub data Keeps {X : Type 0} (P : X → Type 0) : List X → List X → Type 0 where
  nothing : Keeps P [] []
  taken : {x : X} {xs ys : List X} → P x → Keeps P xs ys → Keeps P (x ∷ xs) (x ∷ ys)
  skipped : {x : X} {xs ys : List X} → (P x → ⊥) → Keeps P xs ys → Keeps P (x ∷ xs) ys
