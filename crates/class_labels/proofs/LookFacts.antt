-- Labels looked up after a map.
use Rattle.std.proofs.Common.{◌≡◌, ℕ, ◌<◌, List, [], ◌∷◌, zero, suc, length, map, refl, ap, sym, ◌∙◌, arith, Some, None}
use Rattle.std.specs.Prelude.{slice_get}
use Rattle.std.proofs.lemmas.Option.{none-some, same_Some}
use Rattle.cs_base.proofs.ListLemmas.{none_mapped as past_map}
use Rattle.class_labels.proofs.ListFacts.{now_at}

-- a place of a list holds something or lies past its end
pub data Look {A : Type 0} (xs : List A) (k : ℕ) : Type 0 where
  holds : (x : A) → slice_get xs k ≡ Some x → Look xs k
  past : slice_get xs k ≡ None → Look xs k

pub look : {A : Type 0} (xs : List A) (k : ℕ) → Look xs k
look [] k = past refl
look (x ∷ xs) zero = holds x refl
look (x ∷ xs) (suc k) = elim (look xs k) [ holds y e ↦ holds y e | past e ↦ past e ]

pub look_below : {A : Type 0} (xs : List A) (k : ℕ) → k < length xs → (x : A) × (slice_get xs k ≡ Some x)
look_below [] k h = absurd (omega arith)
look_below (x ∷ xs) zero h = (x, refl)
look_below (x ∷ xs) (suc k) h = look_below xs k (omega arith)

-- equal before, equal after
pub map_grows : {A B : Type 0} (f : A → B) (xs : List A) (p q : ℕ) → slice_get xs p ≡ slice_get xs q → slice_get (map f xs) p ≡ slice_get (map f xs) q
map_grows f xs p q e = elim (look xs p) [
  | holds x h ↦ now_at f xs p x h ∙ sym (now_at f xs q x (sym e ∙ h))
  | past h ↦ past_map f xs p h ∙ sym (past_map f xs q (sym e ∙ h))
]

-- equal after, equal before, where the map tells the elements of the list apart
pub map_back : {A B : Type 0} (f : A → B) (xs : List A) (p q : ℕ) → ((i j : ℕ) (x y : A) → slice_get xs i ≡ Some x → slice_get xs j ≡ Some y → f x ≡ f y → x ≡ y) → slice_get (map f xs) p ≡ slice_get (map f xs) q → slice_get xs p ≡ slice_get xs q
map_back f xs p q apart e = elim (look xs p) [
  | holds x h ↦ elim (look xs q) [
    | holds y g ↦ h ∙ ap Some (apart p q x y h g (same_Some (f x) (f y) (sym (now_at f xs p x h) ∙ e ∙ now_at f xs q y g))) ∙ sym g
    | past g ↦ absurd (none-some (f x) (sym (past_map f xs q g) ∙ sym e ∙ now_at f xs p x h))
  ]
  | past h ↦ elim (look xs q) [
    | holds y g ↦ absurd (none-some (f y) (sym (past_map f xs p h) ∙ e ∙ now_at f xs q y g))
    | past g ↦ h ∙ sym g
  ]
]
