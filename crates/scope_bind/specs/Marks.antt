-- Numbers of which it is known at once whether they are among others.
use Rattle.std.specs.Prelude.{ℕ, ◌≡◌, Bool, false, List, get_or}
use Rattle.c_types.specs.Declarations.{is_in}

-- each number has a mark where it is among the numbers
pub record AreMarked (numbers : List ℕ) (marks : List Bool) : Type 0 where
  pub told : (n : ℕ) → is_in numbers n ≡ get_or marks n false
