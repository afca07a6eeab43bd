-- What the steps of reading promise each other.
use Rattle.std.specs.Prelude.{ℕ, Bool, ◌==◌, not, List, map}
use Rattle.std.specs.Borrow.{Bor}
use Rattle.cs_base.specs.Units.{line_feed}

-- a byte that ends no line
abbrev pub is_no_feed : ℕ → Bool
is_no_feed b = not (b == line_feed)

-- words as texts
abbrev pub texts_of : List (Bor (List ℕ)) → List (List ℕ)
texts_of words = map (λ (word : Bor (List ℕ)). word.now) words
