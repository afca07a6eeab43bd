-- Labels written part by part.
use Rattle.std.proofs.Common.{◌≡◌, ℕ, ◌+◌, ◌-◌, ◌<◌, ◌≤◌, ◌⊎◌, List, [], ◌∷◌, zero, suc, length, map, get_or, set, refl, ap, sym, ◌∙◌, inl, inr, arith, subst, length-set, Some}
use Rattle.std.specs.Prelude.{slice_get}
use Rattle.std.proofs.lemmas.Option.{same_Some, none-some}
use Rattle.std.proofs.lemmas.Bool.{cases_eq, cases_lt}
use Rattle.cs_base.proofs.ListLemmas.{none_mapped as past_map}
use Rattle.class_labels.specs.declared.spots.Spot.{Spot}
use Rattle.class_labels.specs.Labels.{spot, moved}
use Rattle.class_labels.specs.Table.{In, IsClass}
use Rattle.class_labels.specs.Links.{members, with_part, with_parts}
use Rattle.class_labels.proofs.ListFacts.{now_at}
use Rattle.class_labels.proofs.MovedFacts.{moved_cases, moved_there}
use Rattle.class_labels.proofs.LookFacts.{look}
use Rattle.class_labels.proofs.LookFacts.Look.{holds, past}
use Rattle.class_labels.proofs.MemberFacts.{members_more}

pub with_part_none : (class x : ℕ) (spots : List Spot) → with_part class 0 x spots ≡ spots
unfolding with_part
with_part_none class x spots = refl

pub with_part_more : (class n x : ℕ) (spots : List Spot) → with_part class (n + 1) x spots ≡ set (with_part class n x spots) (x + n) (spot class n)
unfolding with_part
with_part_more class n x spots = let e : n + 1 ≡ suc n = omega arith in ap (λ v. with_part class v x spots) e

pub length-with_part : (class n x : ℕ) (spots : List Spot) → length (with_part class n x spots) ≡ length spots
unfolding with_part
length-with_part class zero x spots = refl
length-with_part class (suc n) x spots = length-set (with_part class n x spots) (x + n) (spot class n) ∙ length-with_part class n x spots

pub slice_get-set_same : {A : Type 0} (xs : List A) (i : ℕ) (x : A) → i < length xs → slice_get (set xs i x) i ≡ Some x
slice_get-set_same [] i x h = absurd (omega arith)
slice_get-set_same (y ∷ xs) zero x h = refl
slice_get-set_same (y ∷ xs) (suc i) x h = slice_get-set_same xs i x (omega arith)

pub slice_get-set_other : {A : Type 0} (xs : List A) (i j : ℕ) (x : A) → (j ≡ i → ⊥) → slice_get (set xs i x) j ≡ slice_get xs j
slice_get-set_other [] i j x h = refl
slice_get-set_other (y ∷ xs) zero zero x h = absurd (h refl)
slice_get-set_other (y ∷ xs) zero (suc j) x h = refl
slice_get-set_other (y ∷ xs) (suc i) zero x h = refl
slice_get-set_other (y ∷ xs) (suc i) (suc j) x h = slice_get-set_other xs i j x (λ e. h (ap (λ v. suc v) e))

-- inside the part, and elsewhere
pub with_part_inside : (class n x o : ℕ) (spots : List Spot) → x + n ≤ length spots → o < n → slice_get (with_part class n x spots) (x + o) ≡ Some (spot class o)
unfolding with_part
with_part_inside class zero x o spots fits less = absurd (omega arith)
with_part_inside class (suc n) x o spots fits less = elim (cases_eq o n) [
  | inl e ↦
      let P : ℕ → Type 0 = λ v. slice_get (set (with_part class n x spots) (x + n) (spot class n)) (x + v) ≡ Some (spot class v) in
      let long : length (with_part class n x spots) ≡ length spots = length-with_part class n x spots in
      subst P (sym e) (slice_get-set_same (with_part class n x spots) (x + n) (spot class n) (omega arith))
  | inr ne ↦ slice_get-set_other (with_part class n x spots) (x + n) (x + o) (spot class n) (λ e. ne (omega arith)) ∙ with_part_inside class n x o spots (omega arith) (omega arith)
]

pub with_part_elsewhere : (class n x j : ℕ) (spots : List Spot) → ((o : ℕ) → o < n → j ≡ x + o → ⊥) → slice_get (with_part class n x spots) j ≡ slice_get spots j
unfolding with_part
with_part_elsewhere class zero x j spots apart = refl
with_part_elsewhere class (suc n) x j spots apart =
    slice_get-set_other (with_part class n x spots) (x + n) j (spot class n) (apart n (omega arith)) ∙ with_part_elsewhere class n x j spots (λ o less. apart o (omega arith))

pub length-with_parts : (class shift n : ℕ) (xs : List ℕ) (spots : List Spot) → length (with_parts class shift n xs spots) ≡ length spots
unfolding with_parts
length-with_parts class shift n [] spots = refl
length-with_parts class shift n (x ∷ xs) spots = length-with_parts class shift n xs (with_part class n (x + shift) spots) ∙ length-with_part class n (x + shift) spots

pub with_parts_nil : (class shift n : ℕ) (spots : List Spot) → with_parts class shift n [] spots ≡ spots
unfolding with_parts
with_parts_nil class shift n spots = refl

-- one part on
pub with_parts_step : (class shift len left : ℕ) (nexts : List ℕ) (x : ℕ) (spots : List Spot) → 0 < left
    → with_parts class shift len (members left nexts x) spots ≡ with_parts class shift len (members (left - 1) nexts (get_or nexts x 0)) (with_part class len (x + shift) spots)
unfolding with_parts
with_parts_step class shift len left nexts x spots h = ap (λ v. with_parts class shift len v spots) (members_more left nexts x h)

-- a place that has its new label, or is still to be written
pub data Partly (shift n : ℕ) (xs : List ℕ) (now new : List Spot) (j : ℕ) : Type 0 where
  done : slice_get now j ≡ slice_get new j → Partly shift n xs now new j
  due : (x o : ℕ) → In x xs → o < n → x + shift + o ≡ j → Partly shift n xs now new j

inside_cases : (x n j : ℕ) → ((o : ℕ) × (o < n) × (j ≡ x + o)) ⊎ ((o : ℕ) → o < n → j ≡ x + o → ⊥)
inside_cases x n j = elim (cases_lt j x) [
  | inl before ↦ inr (λ o less e. omega arith)
  | inr behind ↦ elim (cases_lt j (x + n)) [
    | inl less ↦ inl (j - x, omega arith, omega arith)
    | inr most ↦ inr (λ o less e. omega arith)
  ]
]

same_slices : (xs ys : List Spot) → ((j : ℕ) → slice_get xs j ≡ slice_get ys j) → xs ≡ ys
same_slices [] [] h = refl
same_slices [] (y ∷ ys) h = absurd (none-some y (h 0))
same_slices (x ∷ xs) [] h = absurd (none-some x (sym (h 0)))
same_slices (x ∷ xs) (y ∷ ys) h = ap (λ v. v ∷ xs) (same_Some x y (h 0)) ∙ ap (λ v. y ∷ v) (same_slices xs ys (λ j. h (suc j)))

-- writing part by part reaches the new labels
pub with_parts_reaches : (class shift n : ℕ) (xs : List ℕ) (now new : List Spot)
    → ((x o : ℕ) → In x xs → o < n → slice_get new (x + shift + o) ≡ Some (spot class o))
    → ((x : ℕ) → In x xs → x + shift + n ≤ length now)
    → ((j : ℕ) → Partly shift n xs now new j)
    → with_parts class shift n xs now ≡ new
unfolding with_parts
with_parts_reaches class shift n [] now new whole fits partly = same_slices now new (λ j. elim (partly j) [ done e ↦ e | due x o i less e ↦ absurd i ])
with_parts_reaches class shift n (x ∷ xs) now new whole fits partly =
    let written = with_part class n (x + shift) now in
    let long : length written ≡ length now = length-with_part class n (x + shift) now in
    with_parts_reaches class shift n xs written new (λ y o i less. whole y o (inr i) less) (λ y i. let f : y + shift + n ≤ length now = fits y (inr i) in omega arith)
    (λ j. elim (inside_cases (x + shift) n j) [
      | inl at ↦
          let P : ℕ → Type 0 = λ v. slice_get written v ≡ slice_get new v in
          done (subst P (sym at.2) (with_part_inside class n (x + shift) at.0 now (fits x (inl refl)) at.1 ∙ sym (whole x at.0 (inl refl) at.1)))
      | inr apart ↦ elim (partly j) [
        | done e ↦ done (with_part_elsewhere class n (x + shift) j now apart ∙ e)
        | due y o i less e ↦ elim i [
          | inl f ↦ absurd (apart o less (let g : j ≡ x + shift + o = omega arith in g))
          | inr k ↦ due y o k less e
        ]
      ]
    ])

-- for a class, that is one move of all labels
pub with_parts-moved : (c k n l : ℕ) (xs : List ℕ) (spots : List Spot) → IsClass c l xs spots → k < l → ((x : ℕ) → In x xs → x + l ≤ length spots)
    → with_parts n k (l - k) xs spots ≡ map (moved c k n) spots
with_parts-moved c k n l xs spots class less fits =
    with_parts_reaches n k (l - k) xs spots (map (moved c k n) spots)
    (λ x o i near.
    let place : x + (k + o) ≡ x + k + o = omega arith in
    let P : ℕ → Type 0 = λ v. slice_get spots v ≡ Some (spot c (k + o)) in
    let was : slice_get spots (x + k + o) ≡ Some (spot c (k + o)) = subst P place (class.whole x (k + o) i (omega arith)) in
    let less : (k + o) - k ≡ o = omega arith in
    now_at (moved c k n) spots (x + k + o) (spot c (k + o)) was ∙ ap Some (moved_there c k n (k + o) (omega arith) ∙ ap (λ v. spot n v) less))
    (λ x i. let f : x + l ≤ length spots = fits x i in omega arith)
    (λ j. elim (look spots j) [
      | past none ↦ done (none ∙ sym (past_map (moved c k n) spots j none))
      | holds s at ↦ elim (moved_cases c k n s) [
        | inr g ↦ done (at ∙ ap Some (sym g.kept) ∙ sym (now_at (moved c k n) spots j s at))
        | inl g ↦
            let same : s ≡ spot c s.offset = λ i. record { class = g.of_class i; offset = s.offset } in
            let a = class.found j s.offset (at ∙ ap Some same) in
            let there = a.there in
            let inside = a.inside in
            let far = g.far in
            due a.start (s.offset - k) a.among (omega arith) (omega arith)
      ]
    ])
