-- The least relation that some steps force: chains of steps.
use Rattle.std.specs.Prelude.{◌≡◌, Option, Some}

-- a chain of steps leads from the first to the second, each taken along or back
pub data Chain {A : Type 0} (R : A → A → Type 0) : A → A → Type 0 where
  here : {p : A} → Chain R p p
  along : {p q r : A} → R p q → Chain R q r → Chain R p r
  back : {p q r : A} → R q p → Chain R q r → Chain R p r

-- what has a label has an equal label exactly where a chain of steps leads
pub record Least {A : Type 0} {B : Type 0} (R : A → A → Type 0) (label : A → Option B) : Type 0 where
  pub holds : (p q : A) → R p q → label p ≡ label q
  pub least : (p q : A) (s : B) → label p ≡ Some s → label q ≡ Some s → Chain R p q
