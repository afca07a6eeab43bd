-- Lists that are put the other way round.
use Rattle.std.proofs.Common.{◌≡◌, Bool, true, false, ◌||◌, cond, List, [], ◌∷◌, ◌++◌, map, reverse, refl, sym, ap, ◌∙◌}
use Rattle.std.specs.Prelude.{filter}
use Rattle.std.specs.List.{list_any}
use Rattle.std.proofs.lemmas.List.Folds.{list_any-append}
use Rattle.std.proofs.lemmas.List.{reverse-append, reverse-reverse, map-append}

module _ {A : Type 0} (p : A → Bool) where
  filter_put : (b : Bool) (x : A) (xs ys : List A) → cond b (x ∷ (xs ++ ys)) (xs ++ ys) ≡ cond b (x ∷ xs) xs ++ ys
  filter_put true x xs ys = refl
  filter_put false x xs ys = refl

  pub filter_append : (xs ys : List A) → filter p (xs ++ ys) ≡ filter p xs ++ filter p ys
  filter_append [] ys = refl
  filter_append (x ∷ xs) ys = ap (λ zs. cond (p x) (x ∷ zs) zs) (filter_append xs ys) ∙ filter_put (p x) x (filter p xs) (filter p ys)

  reverse_put : (b : Bool) (x : A) (xs : List A) → reverse xs ++ cond b (x ∷ []) [] ≡ reverse (cond b (x ∷ xs) xs)
  reverse_put true x xs = sym (reverse-append (x ∷ []) xs)
  reverse_put false x xs = sym (reverse-append [] xs)

  pub filter_reversed : (xs : List A) → filter p (reverse xs) ≡ reverse (filter p xs)
  filter_reversed [] = refl
  filter_reversed (x ∷ xs) =
      ap (filter p) (reverse-append (x ∷ []) xs)
      ∙ (filter_append (reverse xs) (x ∷ [])
      ∙ (ap (λ ys. ys ++ filter p (x ∷ [])) (filter_reversed xs) ∙ reverse_put (p x) x (filter p xs)))

  -- the list, put the other way round twice
  pub filter_twice : (xs : List A) → reverse (filter p (reverse xs)) ≡ filter p xs
  filter_twice xs = ap reverse (filter_reversed xs) ∙ reverse-reverse (filter p xs)

  any_put : (b c : Bool) → (c || (b || false)) ≡ (b || c)
  any_put true true = refl
  any_put true false = refl
  any_put false true = refl
  any_put false false = refl

  pub any_reversed : (xs : List A) → list_any p (reverse xs) ≡ list_any p xs
  any_reversed [] = refl
  any_reversed (x ∷ xs) =
      ap (list_any p) (reverse-append (x ∷ []) xs)
      ∙ (list_any-append p (reverse xs) (x ∷ [])
      ∙ (ap (λ c. c || (p x || false)) (any_reversed xs) ∙ any_put (p x) (list_any p xs)))

module _ {A B : Type 0} (f : A → B) where
  pub map_reversed : (xs : List A) → map f (reverse xs) ≡ reverse (map f xs)
  map_reversed [] = refl
  map_reversed (x ∷ xs) =
      ap (map f) (reverse-append (x ∷ []) xs)
      ∙ (map-append f (reverse xs) (x ∷ [])
      ∙ (ap (λ ys. ys ++ f x ∷ []) (map_reversed xs) ∙ sym (reverse-append (f x ∷ []) (map f xs))))

  pub map_twice : (xs : List A) → reverse (map f (reverse xs)) ≡ map f xs
  map_twice xs = ap reverse (map_reversed xs) ∙ reverse-reverse (map f xs)
