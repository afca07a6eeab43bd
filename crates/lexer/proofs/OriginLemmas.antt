-- The origins of the characters of a token.
use Rattle.std.proofs.Common.{◌≡◌, ℕ, zero, suc, ◌+◌, true, List, [], ◌∷◌, length, map, Some, is_some, Option, refl, ap, arith, ◌∙◌, ◌<◌, ◌≤◌}
use Rattle.std.specs.List.{list_all, range_with_len}
use Rattle.std.specs.Prelude.{slice_get}
use Rattle.cs_base.specs.declared.positions.Pos.{Pos}
use Rattle.cs_base.specs.Spans.{origins_by, whole}
use Rattle.cs_base.proofs.OriginLemmas.{next_to, origins_by-whole}
use Rattle.lexer.specs.Places.{pos, origins_from}

pub length-origins : (file at n : ℕ) → length (origins_from file at n) ≡ n
length-origins file at zero = refl
length-origins file at (suc n) = ap suc (length-origins file (at + 1) n)

pub origins_from-traced : (file at n : ℕ) → list_all is_some (origins_from file at n) ≡ true
origins_from-traced file at zero = refl
origins_from-traced file at (suc n) = origins_from-traced file (at + 1) n

-- characters of a file, told one by one
each_next : (file at k n : ℕ) → map (next_to (pos file at)) (range_with_len k n) ≡ origins_from file (at + k) n
each_next file at k zero = refl
each_next file at k (suc n) =
    let on : at + k + 1 ≡ at + (k + 1) = omega arith in
    rw on (ap (λ (rest : List (Option Pos)). Some (pos file (at + k)) ∷ rest) (each_next file at (k + 1) n))

-- the one span of a file token tells the origins of its characters
pub origins_by-file : (file at n : ℕ) → origins_by n (whole n (pos file at) ∷ []) ≡ origins_from file at n
origins_by-file file at n =
    let from : at + 0 ≡ at = omega arith in
    origins_by-whole n (pos file at) ∙ rw from at (each_next file at 0 n)

-- and each has one
pub origins_by-traced : (file at n : ℕ) → list_all is_some (origins_by n (whole n (pos file at) ∷ [])) ≡ true
origins_by-traced file at n = rw (origins_by-file file at n) (origins_from-traced file at n)

pub first_origin : (file at n : ℕ) → 1 ≤ n → slice_get (origins_from file at n) 0 ≡ Some (Some (pos file at))
first_origin file at zero some = absurd (omega arith)
first_origin file at (suc n) some = refl

-- an origin of a file
pub origin_in : (file at n k : ℕ) → k < n → slice_get (origins_from file at n) k ≡ Some (Some (pos file (at + k)))
origin_in file at zero k less = absurd (omega arith)
origin_in file at (suc n) zero less = let same : at + 0 ≡ at = omega arith in rw same refl
origin_in file at (suc n) (suc k) less = let same : at + suc k ≡ at + 1 + k = omega arith in rw same (origin_in file (at + 1) n k (omega arith))
