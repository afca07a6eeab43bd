-- Declarations of a list that are kept as a body begins.
use Rattle.std.proofs.Common.{ℕ, zero, suc, ◌+◌, ◌<◌, ◌≡◌, List, [], ◌∷◌, ◌++◌, length, take, reverse, Option, None, Some, refl, sym, ap, ◌∙◌, add-one, arith, append_assoc}
use Rattle.std.specs.Prelude.{filter_map, slice_get}
use Rattle.std.specs.Option.{option_and_then, option_to_list}
use Rattle.std.specs.List.{cons_option}
use Rattle.std.proofs.lemmas.List.{append-nil, reverse-append}
use Rattle.std.proofs.lemmas.List.Elements.{filter_map-append}
use Rattle.cs_base.proofs.ListLemmas.{get-front}

cons_append : {B : Type 0} (o : Option B) (xs ys : List B) → cons_option o (xs ++ ys) ≡ cons_option o xs ++ ys
cons_append None xs ys = refl
cons_append (Some y) xs ys = refl

cons_alone : {B : Type 0} (o : Option B) → cons_option o [] ≡ option_to_list o
cons_alone None = refl
cons_alone (Some y) = refl

-- among one more
kept_more : {A B : Type 0} (f : A → Option B) (xs : List A) (n : ℕ) → n < length xs
    → filter_map f (take (suc n) xs) ≡ filter_map f (take n xs) ++ option_to_list (option_and_then f (slice_get xs n))
kept_more f [] n l = absurd (omega arith)
kept_more f (x ∷ xs) zero l = cons_alone (f x)
kept_more f (x ∷ xs) (suc n) l =
    ap (cons_option (f x)) (kept_more f xs n (omega arith))
    ∙ cons_append (f x) (filter_map f (take n xs)) (option_to_list (option_and_then f (slice_get xs n)))

reverse_cons : {B : Type 0} (o : Option B) (ys : List B) → reverse (cons_option o ys) ≡ reverse ys ++ cons_option o []
reverse_cons None ys = sym (append-nil (reverse ys))
reverse_cons (Some y) ys = reverse-append (y ∷ []) ys

kept_reversed : {A B : Type 0} (f : A → Option B) (xs : List A) → filter_map f (reverse xs) ≡ reverse (filter_map f xs)
kept_reversed f [] = refl
kept_reversed f (x ∷ xs) =
    ap (filter_map f) (reverse-append (x ∷ []) xs)
    ∙ (filter_map-append f (reverse xs) (x ∷ [])
    ∙ (ap (λ ys. ys ++ filter_map f (x ∷ [])) (kept_reversed f xs)
    ∙ sym (reverse_cons (f x) (filter_map f xs))))

-- ---- A list that is put behind its own front

-- one element more is asked, and put behind the list where it is kept
pub kept-step : {A : Type 0} (f : A → Option A) (xs ys zs : List A) (n : ℕ) (o : Option A) → n < length xs
    → ys ≡ xs ++ filter_map f (take n xs) → o ≡ option_and_then f (slice_get ys n) → zs ≡ ys ++ option_to_list o
    → zs ≡ xs ++ filter_map f (take (n + 1) xs)
kept-step f xs ys zs n o l kept found pushed =
    rw (add-one n)
    (pushed
    ∙ (ap (λ p. ys ++ option_to_list p) (found ∙ ap (option_and_then f) (ap (λ ws. slice_get ws n) kept ∙ get-front xs (filter_map f (take n xs)) n l))
    ∙ (ap (λ ws. ws ++ option_to_list (option_and_then f (slice_get xs n))) kept
    ∙ (append_assoc xs (filter_map f (take n xs)) (option_to_list (option_and_then f (slice_get xs n)))
    ∙ ap (λ ws. xs ++ ws) (sym (kept_more f xs n l))))))

-- seen the other way round
pub kept-seen : {A : Type 0} (f : A → Option A) (xs ys : List A) → ys ≡ xs ++ filter_map f xs
    → reverse ys ≡ filter_map f (reverse xs) ++ reverse xs
kept-seen f xs ys e =
    ap reverse e ∙ (reverse-append xs (filter_map f xs) ∙ ap (λ ws. ws ++ reverse xs) (sym (kept_reversed f xs)))
