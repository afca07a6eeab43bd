-- A join as a loop over what is left of its two lists.
use Rattle.std.proofs.Common.{◌≡◌, ℕ, ◌+◌, ◌-◌, ◌<◌, ◌≤◌, List, [], ◌∷◌, zero, suc, length, drop, refl, ap, sym, ◌∙◌, arith, subst, length-drop, Some}
use Rattle.std.specs.Prelude.{slice_get}
use Rattle.std.proofs.lemmas.List.{drop-drop}
use Rattle.std.proofs.lemmas.Option.{none-some, same_Some}
use Rattle.class_labels.specs.Labels.{Labels, spot, step, step_parts, joined, joined_parts, common, class_at}
use Rattle.class_labels.specs.Runs.{Runs}
use Rattle.class_labels.specs.Walk.{AtPlace}
use Rattle.class_labels.proofs.JoinFacts.{step_on, runs_tail, begins_own}

joined_nil : (xs : List ℕ) (t : Labels) → t ≡ joined 0 xs [] t
unfolding joined
joined_nil [] t = refl
joined_nil (x ∷ xs) t = refl

parts_nil : (xs : List ℕ) (t : Labels) → 0 ≡ joined_parts 0 xs [] t
unfolding joined_parts
parts_nil [] t = refl
parts_nil (x ∷ xs) t = refl

pub joined_end : (ys : List ℕ) (t : Labels) → joined 0 [] ys t ≡ t
unfolding joined
joined_end ys t = refl

pub parts_end : (ys : List ℕ) (t : Labels) → joined_parts 0 [] ys t ≡ 0
unfolding joined_parts
parts_end ys t = refl

-- what is skipped is dropped
pub joined_skip : (k : ℕ) (xs ys : List ℕ) (t : Labels) → joined k xs ys t ≡ joined 0 (drop k xs) (drop k ys) t
unfolding joined
joined_skip zero xs ys t = refl
joined_skip (suc k) [] ys t = refl
joined_skip (suc k) (x ∷ xs) [] t = joined_nil (drop k xs) t
joined_skip (suc k) (x ∷ xs) (y ∷ ys) t = joined_skip k xs ys t

pub parts_skip : (k : ℕ) (xs ys : List ℕ) (t : Labels) → joined_parts k xs ys t ≡ joined_parts 0 (drop k xs) (drop k ys) t
unfolding joined_parts
parts_skip zero xs ys t = refl
parts_skip (suc k) [] ys t = refl
parts_skip (suc k) (x ∷ xs) [] t = parts_nil (drop k xs) t
parts_skip (suc k) (x ∷ xs) (y ∷ ys) t = parts_skip k xs ys t

slice_get-drop : (k j : ℕ) (xs : List ℕ) → slice_get (drop k xs) j ≡ slice_get xs (k + j)
slice_get-drop zero j xs = ap (λ v. slice_get xs v) (let e : j ≡ 0 + j = omega arith in e)
slice_get-drop (suc k) j [] = refl
slice_get-drop (suc k) j (x ∷ xs) =
    let P : ℕ → Type 0 = λ v. slice_get (drop k xs) j ≡ slice_get (x ∷ xs) v in
    let e : suc (k + j) ≡ suc k + j = omega arith in
    subst P e (slice_get-drop k j xs)

pub drop_at : (k : ℕ) (xs : List ℕ) (x : ℕ) → slice_get xs k ≡ Some x → drop k xs ≡ x ∷ drop (k + 1) xs
drop_at k [] x at = absurd (none-some x at)
drop_at zero (y ∷ xs) x at = ap (λ v. v ∷ xs) (same_Some y x at)
drop_at (suc k) (y ∷ xs) x at =
    let P : ℕ → Type 0 = λ v. drop (suc k) (y ∷ xs) ≡ x ∷ drop v (y ∷ xs) in
    let e : suc (k + 1) ≡ suc k + 1 = omega arith in
    subst P e (drop_at k xs x at)

runs_drop : (Begins : ℕ → Type 0) (n k : ℕ) (xs : List ℕ) → Runs Begins n xs → Runs Begins n (drop k xs)
runs_drop Begins n zero xs runs = runs
runs_drop Begins n (suc k) [] runs = tt
runs_drop Begins n (suc k) (x ∷ xs) runs = runs_drop Begins n k xs (runs_tail Begins n x xs runs)

even_drop : (k : ℕ) (xs ys : List ℕ) → length xs ≡ length ys → length (drop k xs) ≡ length (drop k ys)
even_drop zero xs ys e = e
even_drop (suc k) [] [] e = refl
even_drop (suc k) [] (y ∷ ys) e = absurd (omega arith)
even_drop (suc k) (x ∷ xs) [] e = absurd (omega arith)
even_drop (suc k) (x ∷ xs) (y ∷ ys) e = even_drop k xs ys (omega arith)

pub place_skip : (Begins : ℕ → Type 0) (R : ℕ → ℕ → Type 0) (n k : ℕ) (xs ys : List ℕ) (t : Labels) → AtPlace Begins R n k xs ys t → AtPlace Begins R n 0 (drop k xs) (drop k ys) t
place_skip Begins R n k xs ys t h =
    let none : k + 0 ≡ k = omega arith in
    record {
      walk = h.walk;
      long = h.long;
      even = even_drop k xs ys h.even;
      first = runs_drop Begins n k xs h.first;
      second = runs_drop Begins n k ys h.second;
      linked = λ j p q least at_p at_q. h.linked (k + j) p q (omega arith) (sym (slice_get-drop k j xs) ∙ at_p) (sym (slice_get-drop k j ys) ∙ at_q);
      begins_x = λ z at. h.begins_x z (ap (λ v. slice_get xs v) (sym none) ∙ sym (slice_get-drop k 0 xs) ∙ at);
      begins_y = λ z at. h.begins_y z (ap (λ v. slice_get ys v) (sym none) ∙ sym (slice_get-drop k 0 ys) ∙ at);
    }

-- one step of the loop, over plain values
pub record Stepped (Begins : ℕ → Type 0) (R : ℕ → ℕ → Type 0) (n at l parts : ℕ) (xs ys : List ℕ) (t u : Labels) : Type 0 where
  pub place : AtPlace Begins R n 0 (drop (at + l) xs) (drop (at + l) ys) u
  pub rest : joined 0 (drop at xs) (drop at ys) t ≡ joined 0 (drop (at + l) xs) (drop (at + l) ys) u
  pub counts : joined_parts 0 (drop at xs) (drop at ys) t ≡ parts + joined_parts 0 (drop (at + l) xs) (drop (at + l) ys) u
  pub some : 0 < l
  pub within : at + l ≤ length xs

drop_further : (at l : ℕ) (xs : List ℕ) → 0 < l → drop (l - 1) (drop (at + 1) xs) ≡ drop (at + l) xs
drop_further at l xs some = drop-drop (l - 1) (at + 1) xs ∙ ap (λ v. drop v xs) (let e : (at + 1) + (l - 1) ≡ at + l = omega arith in e)

joined_once : (x y : ℕ) (xs ys : List ℕ) (t : Labels) → joined 0 (x ∷ xs) (y ∷ ys) t ≡ joined (common t (class_at t x) (class_at t y) - 1) xs ys (step (class_at t x) (class_at t y) t)
unfolding joined
joined_once x y xs ys t = refl

parts_once : (x y : ℕ) (xs ys : List ℕ) (t : Labels) → joined_parts 0 (x ∷ xs) (y ∷ ys) t ≡ step_parts (class_at t x) (class_at t y) t + joined_parts (common t (class_at t x) (class_at t y) - 1) xs ys (step (class_at t x) (class_at t y) t)
unfolding joined_parts
parts_once x y xs ys t = refl

-- the characters that come next begin parts
pub begins_first : (Begins : ℕ → Type 0) (R : ℕ → ℕ → Type 0) (n at x : ℕ) (xs ys : List ℕ) (t : Labels) → AtPlace Begins R n 0 (drop at xs) (drop at ys) t → slice_get xs at ≡ Some x → slice_get t.spots x ≡ Some (spot (class_at t x) 0)
begins_first Begins R n at x xs ys t place at_x =
    let none : at + 0 ≡ at = omega arith in
    begins_own t x (place.begins_x x (slice_get-drop at 0 xs ∙ ap (λ v. slice_get xs v) none ∙ at_x))

pub begins_second : (Begins : ℕ → Type 0) (R : ℕ → ℕ → Type 0) (n at y : ℕ) (xs ys : List ℕ) (t : Labels) → AtPlace Begins R n 0 (drop at xs) (drop at ys) t → slice_get ys at ≡ Some y → slice_get t.spots y ≡ Some (spot (class_at t y) 0)
begins_second Begins R n at y xs ys t place at_y =
    let none : at + 0 ≡ at = omega arith in
    begins_own t y (place.begins_y y (slice_get-drop at 0 ys ∙ ap (λ v. slice_get ys v) none ∙ at_y))

pub stepped : (Begins : ℕ → Type 0) (R : ℕ → ℕ → Type 0) (n at x y : ℕ) (xs ys : List ℕ) (t : Labels) → slice_get xs at ≡ Some x → slice_get ys at ≡ Some y
    → AtPlace Begins R n 0 (drop at xs) (drop at ys) t → at < length xs
    → Stepped Begins R n at (common t (class_at t x) (class_at t y)) (step_parts (class_at t x) (class_at t y) t) xs ys t (step (class_at t x) (class_at t y) t)
stepped Begins R n at x y xs ys t at_x at_y place below =
    let l = common t (class_at t x) (class_at t y) in
    let u = step (class_at t x) (class_at t y) t in
    let first = drop_at at xs x at_x in
    let second = drop_at at ys y at_y in
    let P : List ℕ → Type 0 = λ v. AtPlace Begins R n 0 v (drop at ys) t in
    let Q : List ℕ → Type 0 = λ v. AtPlace Begins R n 0 (x ∷ drop (at + 1) xs) v t in
    let here : AtPlace Begins R n 0 (x ∷ drop (at + 1) xs) (y ∷ drop (at + 1) ys) t = subst Q second (subst P first place) in
    let on = step_on Begins R n x y (drop (at + 1) xs) (drop (at + 1) ys) t here in
    let some : 0 < l = on.laws.some in
    let far_x = drop_further at l xs some in
    let far_y = drop_further at l ys some in
    let S : List ℕ → Type 0 = λ v. AtPlace Begins R n 0 v (drop (l - 1) (drop (at + 1) ys)) u in
    let T : List ℕ → Type 0 = λ v. AtPlace Begins R n 0 (drop (at + l) xs) v u in
    let left : length (drop at xs) ≡ length xs - at = length-drop at xs in
    let within : l ≤ length (x ∷ drop (at + 1) xs) = on.within in
    record {
      place = subst T far_y (subst S far_x (place_skip Begins R n (l - 1) (drop (at + 1) xs) (drop (at + 1) ys) u on.rest));
      rest = ap (λ v. joined 0 v (drop at ys) t) first ∙ ap (λ v. joined 0 (x ∷ drop (at + 1) xs) v t) second
          ∙ joined_once x y (drop (at + 1) xs) (drop (at + 1) ys) t ∙ joined_skip (l - 1) (drop (at + 1) xs) (drop (at + 1) ys) u
          ∙ ap (λ v. joined 0 v (drop (l - 1) (drop (at + 1) ys)) u) far_x ∙ ap (λ v. joined 0 (drop (at + l) xs) v u) far_y;
      counts = ap (λ v. joined_parts 0 v (drop at ys) t) first ∙ ap (λ v. joined_parts 0 (x ∷ drop (at + 1) xs) v t) second
          ∙ parts_once x y (drop (at + 1) xs) (drop (at + 1) ys) t
          ∙ ap (λ v. step_parts (class_at t x) (class_at t y) t + v) (parts_skip (l - 1) (drop (at + 1) xs) (drop (at + 1) ys) u
          ∙ ap (λ v. joined_parts 0 v (drop (l - 1) (drop (at + 1) ys)) u) far_x ∙ ap (λ v. joined_parts 0 (drop (at + l) xs) v u) far_y);
      some = some;
      within = let whole = ap length first in omega arith;
    }

-- a step of the loop, by what its calls answered
pub stepped_as : (Begins : ℕ → Type 0) (R : ℕ → ℕ → Type 0) (n at l l' parts : ℕ) (xs ys : List ℕ) (t u u' : Labels) → l' ≡ l → u' ≡ u → Stepped Begins R n at l parts xs ys t u → Stepped Begins R n at l' parts xs ys t u'
stepped_as Begins R n at l l' parts xs ys t u u' e f s =
    let P : ℕ → Type 0 = λ v. Stepped Begins R n at v parts xs ys t u in
    let Q : Labels → Type 0 = λ v. Stepped Begins R n at l' parts xs ys t v in
    subst Q (sym f) (subst P (sym e) s)
