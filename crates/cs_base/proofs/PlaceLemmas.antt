-- Facts on places.
use Rattle.std.proofs.Common.{Bool, List, None, [], ap, arith, false, length, refl, slice_get, suc, true, zero, ℕ, ◌∙◌, ◌∷◌, ◌≡◌, ◌≤◌}
use Rattle.std.specs.Prelude.{cond}
use Rattle.cs_base.specs.declared.positions.Pos.{Pos}
use Rattle.cs_base.specs.declared.positions.Part.{Part}
use Rattle.cs_base.specs.Token.{Token}

pub pos_is : (p q : Pos) → p.file ≡ q.file → p.at ≡ q.at → p ≡ q
pos_is p q e f = λ i. record { file = e i; at = f i }

pub part_of_parts : (p q : Part) → p.start.file ≡ q.start.file → p.start.at ≡ q.start.at → p.len ≡ q.len → p ≡ q
part_of_parts p q e f g =
    ap (λ (n : ℕ). record { start = record { file = n; at = p.start.at }; len = p.len }) e
    ∙ ap (λ (n : ℕ). record { start = record { file = q.start.file; at = n }; len = p.len }) f
    ∙ ap (λ (n : ℕ). record { start = q.start; len = n }) g

pub nothing_at : (xs : List Token) (i : ℕ) → length xs ≤ i → slice_get xs i ≡ None
nothing_at [] i e = refl
nothing_at (x ∷ xs) zero e = absurd (omega (arith, e))
nothing_at (x ∷ xs) (suc i) e = nothing_at xs i (omega (arith, e))

pub if_nil : (b : Bool) (xs : List Pos) → (xs ≡ [] → ⊥) → cond b xs [] ≡ [] → b ≡ false
if_nil true xs some e = absurd (some e)
if_nil false xs some e = refl

pub none_left : (rest : List Part) → length rest ≡ 0 → rest ≡ []
none_left [] e = refl
none_left (m ∷ rest) e = absurd (omega (arith, e))
