-- Tokens that are alike, one by one, and units whose tokens are.
use Rattle.std.proofs.Common.{◌≡◌, ℕ, ◌+◌, ◌<◌, ◌≤◌, List, [], ◌∷◌, ◌++◌, length, map, take, get_or, Some, slice_get, refl, sym, ap, ◌∙◌}
use Rattle.std.proofs.lemmas.List.{map-append, take_more, take_all}
use Rattle.cs_base.specs.Token.{Token}
use Rattle.cs_base.proofs.ListLemmas.{next as taken-more}
use Rattle.macro_plan.specs.Kept.{plain, plains}

pub alike_next : (ts us : List Token) (k : ℕ) (t u : Token) → k < length ts → k < length us → t ≡ get_or ts k t → u ≡ get_or us k u
    → plains (take k ts) ≡ plains (take k us) → plain t ≡ plain u → plains (take (k + 1) ts) ≡ plains (take (k + 1) us)
alike_next ts us k t u lt lu at au so_far here =
    let more : take (k + 1) ts ≡ take k ts ++ t ∷ [] = take_more ts k t lt ∙ ap (λ (x : Token). take k ts ++ x ∷ []) (sym at) in
    let also : take (k + 1) us ≡ take k us ++ u ∷ [] = take_more us k u lu ∙ ap (λ (x : Token). take k us ++ x ∷ []) (sym au) in
    rw (more, also, map-append plain (take k ts) (t ∷ []), map-append plain (take k us) (u ∷ []), so_far, here) refl

pub alike_all : (ts us : List Token) (k : ℕ) → length ts ≤ k → length us ≤ k → plains (take k ts) ≡ plains (take k us) → plains ts ≡ plains us
alike_all ts us k past also so_far = sym (ap plains (take_all k ts past)) ∙ so_far ∙ ap plains (take_all k us also)

module _ {X Y A : Type 0} (f : X → A) (g : Y → A) where
  pub units_next : (xs : List X) (ys : List Y) (k : ℕ) (x : X) (y : Y) → slice_get xs k ≡ Some x → slice_get ys k ≡ Some y
      → map f (take k xs) ≡ map g (take k ys) → f x ≡ g y → map f (take (k + 1) xs) ≡ map g (take (k + 1) ys)
  units_next xs ys k x y at here so_far same =
      rw (taken-more xs k x at, taken-more ys k y here, map-append f (take k xs) (x ∷ []), map-append g (take k ys) (y ∷ []), so_far, same) refl

  pub units_all : (xs : List X) (ys : List Y) (k : ℕ) → length xs ≤ k → length ys ≤ k → map f (take k xs) ≡ map g (take k ys) → map f xs ≡ map g ys
  units_all xs ys k past also so_far = sym (ap (map f) (take_all k xs past)) ∙ so_far ∙ ap (map g) (take_all k ys also)
