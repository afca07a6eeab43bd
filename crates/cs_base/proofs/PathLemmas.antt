-- Normalising a path, component by component.
use Rattle.std.proofs.Common.{◌≡◌, ℕ, Bool, List, [], ◌∷◌, ◌++◌, refl, ap, sym}
use Rattle.std.specs.List.{join_with_byte}
use Rattle.std.proofs.lemmas.List.{append-nil}
use Rattle.std.proofs.lemmas.List.Sums.{fold-append}
use Rattle.cs_base.specs.Paths.{slash, after_component, kept_of}
use Rattle.cs_base.specs.Parts.{slashed}

pub kept_of-nil : (absolute : Bool) → kept_of absolute [] ≡ []
unfolding kept_of
kept_of-nil absolute = refl

pub kept_of-push : (absolute : Bool) (parts : List (List ℕ)) (part : List ℕ)
    → kept_of absolute (parts ++ part ∷ []) ≡ after_component absolute (kept_of absolute parts) part
unfolding kept_of
kept_of-push absolute parts part = fold-append (after_component absolute) [] parts (part ∷ [])

pub join_with_byte-slashed : (part : List ℕ) (parts : List (List ℕ))
    → join_with_byte slash (part ∷ parts) ≡ part ++ slashed parts
join_with_byte-slashed part [] = sym (append-nil part)
join_with_byte-slashed part (next ∷ parts) =
    ap (λ (text : List ℕ). part ++ slash ∷ text) (join_with_byte-slashed next parts)
