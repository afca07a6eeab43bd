-- Lemmas that several crates cite.
use Rattle.std.proofs.Common.{List, false, sym, true, ℕ, ◌∙◌, ◌≡◌}
use Rattle.include_tree.specs.PseudoFiles.{is_pseudo}

pub not_both : (path : List ℕ) → is_pseudo path ≡ true → is_pseudo path ≡ false → ⊥
not_both path made real = let e : true ≡ false = sym made ∙ real in cc
