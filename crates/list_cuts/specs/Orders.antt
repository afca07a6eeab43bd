-- Orders of the items of a list (this project's): the numbers from one on, each once, in whatever order.
use Rattle.std.specs.Prelude.{ℕ, ◌==◌, ◌&&◌, Bool, List, length}
use Rattle.std.specs.List.{list_any, list_all}
use Rattle.list_cuts.specs.Cuts.{numbers}

-- a number is among some
abbrev pub has_number : List ℕ → ℕ → Bool
has_number order k = list_any (λ o. o == k) order

-- there are n numbers, and each from 1 to n is among them; so each is there once, and no other is
abbrev pub is_order : ℕ → List ℕ → Bool
is_order n order = (length order == n) && list_all (has_number order) (numbers 1 n)
