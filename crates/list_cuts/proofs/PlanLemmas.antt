-- Lemmas that several crates cite.
use Rattle.std.proofs.Common.{List, length, true, ℕ, ◌≡◌}
use Rattle.std.proofs.lemmas.Bool.{and_parts, eqb-true}
use Rattle.std.specs.Prelude.{◌==◌}
use Rattle.std.specs.List.{list_all}
use Rattle.list_cuts.specs.Orders.{has_number, is_order}
use Rattle.list_cuts.specs.Cuts.{numbers}

pub is_of_length : (n : ℕ) (order : List ℕ) → is_order n order ≡ true → length order ≡ n
is_of_length n order is = eqb-true (length order) n (and_parts (length order == n) (list_all (has_number order) (numbers 1 n)) is).0
