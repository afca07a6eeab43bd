-- Lists in order.
use Rattle.std.specs.Prelude.{◌↔◌, List}
use Rattle.std.specs.List.{Contains}
use Rattle.std.specs.List.Sorted.{IsStrictlySortedBy}
use Rattle.std.specs.declared.cmp.Ordering.{Ordering}

-- The second list has the elements of the first, each once and in order.
pub record Orders {X : Type 0} (cmp : X → X → Ordering) (xs zs : List X) : Type 0 where
  pub ordered : IsStrictlySortedBy cmp zs
  pub same : (x : X) → Contains zs x ↔ Contains xs x
