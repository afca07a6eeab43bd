-- Lemmas that several crates cite.
use Rattle.std.proofs.Common.{List, [], refl, ℕ, ◌++◌, ◌∷◌, ◌≡◌}
use Rattle.reordered_text_laws.specs.Marks.{last_after}

pub last_is : (m : ℕ) (ms : List ℕ) (k : ℕ) → last_after m (ms ++ k ∷ []) ≡ k
last_is m [] k = refl
last_is m (x ∷ ms) k = last_is x ms k
