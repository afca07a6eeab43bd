-- A search from the end of a list.
use Rattle.std.proofs.Common.{ℕ, zero, suc, ◌+◌, ◌<◌, ◌≡◌, Bool, true, false, cond, if◌then◌else◌, List, [], ◌∷◌, ◌++◌, reverse, take, length, Option, None, Some, refl, sym, ap, ◌∙◌, add-one, arith}
use Rattle.std.specs.Prelude.{find, slice_get}
use Rattle.std.specs.Option.{option_or}
use Rattle.std.proofs.lemmas.List.{reverse-append}
use Rattle.c_types.specs.declared.declarations.Declaration.{Declaration}
use Rattle.name_chains.specs.Latest.{tested}

pub take_one_more : (xs : List Declaration) (n : ℕ) (x : Declaration) → slice_get xs n ≡ Some x → take (suc n) xs ≡ take n xs ++ x ∷ []
take_one_more [] n x e = cc
take_one_more (y ∷ ys) zero x e = let s : y ≡ x = cc in ap (λ z. z ∷ []) s
take_one_more (y ∷ ys) (suc n) x e = ap (λ zs. y ∷ zs) (take_one_more ys n x e)

found_one : (test : Declaration → Bool) (b : Bool) (x : Declaration) (rest : Option Declaration)
    → cond b (Some x) rest ≡ option_or (if b then Some x else None) rest
found_one test true x rest = refl
found_one test false x rest = refl

-- among so many and one more, the last one is found if it passes
pub find_last : (test : Declaration → Bool) (xs : List Declaration) (n : ℕ) (x : Declaration) → slice_get xs n ≡ Some x
    → find test (reverse (take (suc n) xs)) ≡ option_or (tested test (slice_get xs n)) (find test (reverse (take n xs)))
find_last test xs n x e =
    ap (λ ys. find test (reverse ys)) (take_one_more xs n x e)
    ∙ (ap (find test) (reverse-append (take n xs) (x ∷ []))
    ∙ (found_one test (test x) x (find test (reverse (take n xs)))
    ∙ ap (λ o. option_or (tested test o) (find test (reverse (take n xs)))) (sym e)))

-- ---- The search, n being the last place that is not yet looked at

pub slice_get_some : (xs : List Declaration) (n : ℕ) → n < length xs → (x : Declaration) × (slice_get xs n ≡ Some x)
slice_get_some [] n l = absurd (omega arith)
slice_get_some (x ∷ xs) zero l = (x, refl)
slice_get_some (x ∷ xs) (suc n) l = slice_get_some xs n (omega arith)

pub find_step : (test : Declaration → Bool) (xs : List Declaration) (n : ℕ) → n < length xs
    → find test (reverse (take (n + 1) xs)) ≡ option_or (tested test (slice_get xs n)) (find test (reverse (take n xs)))
find_step test xs n l =
    let x = slice_get_some xs n l in
    ap (λ m. find test (reverse (take m xs))) (add-one n) ∙ find_last test xs n x.0 x.1
