-- A step of a join gives no more characters that began a part another number than it moves parts.
use Rattle.std.proofs.Common.{◌≡◌, ℕ, ◌+◌, ◌-◌, ◌<◌, ◌≤◌, eqb, not, List, [], ◌∷◌, zero, suc, length, map, refl, ap, sym, ◌∙◌, inl, inr, arith, subst, Some}
use Rattle.std.specs.Prelude.{slice_get, ◌&&◌}
use Rattle.std.proofs.lemmas.Bool.{cases_eq, cond-true, cond-false, and_left, and_right, and_from, eq-eqb, ne_eqb, not_from_true, not_from_false}
use Rattle.std.proofs.lemmas.Option.{same_Some}
use Rattle.class_labels.specs.declared.spots.Spot.{Spot}
use Rattle.class_labels.specs.Labels.{Labels, spot, moved, cut, united, leveled, merged, moved_parts, step, step_parts, joined, joined_parts, common, class_at, walk_at, length_at}
use Rattle.class_labels.specs.Table.{In, IsTable, AreClasses}
use Rattle.class_labels.specs.Walk.{AtPlace}
use Rattle.class_labels.specs.Weight.{changed, relabelled}
use Rattle.class_labels.proofs.Pigeons.{without, In-without, length-without-lt}
use Rattle.class_labels.proofs.MovedFacts.{moved_cases}
use Rattle.class_labels.proofs.LevelFacts.{level_cases, level_laws}
use Rattle.class_labels.proofs.LevelFacts.LevelCase.{second_longer, first_longer, level}
use Rattle.class_labels.proofs.MergeFacts.{merge_cases}
use Rattle.class_labels.proofs.MergeFacts.MergeCase.{one, into_second, into_first}
use Rattle.class_labels.proofs.StepFacts.{are_classes, level_classes, starts_of}
use Rattle.class_labels.proofs.JoinFacts.{step_on, begins_own}
use Rattle.class_labels.proofs.WeightFacts.{place_tail}

-- a character counts where it began a part and its number is another
pub data ChangeCase (s r : Spot) : Type 0 where
  counts : s.offset ≡ 0 → (s.class ≡ r.class → ⊥) → changed s r ≡ 1 → ChangeCase s r
  stays : (s.offset ≡ 0 → s.class ≡ r.class) → changed s r ≡ 0 → ChangeCase s r

pub change_cases : (s r : Spot) → ChangeCase s r
change_cases s r = elim (cases_eq s.offset 0) [
  | inl first ↦ elim (cases_eq s.class r.class) [
    | inl same ↦ stays (λ _. same) (cond-false (eqb s.offset 0 && not (eqb s.class r.class)) 1 0 (and_right (eqb s.offset 0) (not (eqb s.class r.class)) (not_from_true (eqb s.class r.class) (eq-eqb s.class r.class same))))
    | inr other ↦ counts first other (cond-true (eqb s.offset 0 && not (eqb s.class r.class)) 1 0 (and_from (eqb s.offset 0) (not (eqb s.class r.class)) (eq-eqb s.offset 0 first) (not_from_false (eqb s.class r.class) (ne_eqb s.class r.class other))))
  ]
  | inr inner ↦ stays (λ e. absurd (inner e)) (cond-false (eqb s.offset 0 && not (eqb s.class r.class)) 1 0 (and_left (eqb s.offset 0) (not (eqb s.class r.class)) (ne_eqb s.offset 0 inner)))
]

changed-through : (s r u : Spot) → (s.offset ≡ 0 → r.offset ≡ 0) → changed s u ≤ changed s r + changed r u
changed-through s r u keeps = elim (change_cases s u) [
  | stays _ none ↦ omega (arith, none)
  | counts first other one' ↦ elim (change_cases s r) [
    | counts _ _ two ↦ omega (arith, one', two)
    | stays same none ↦ elim (change_cases r u) [
      | counts _ _ two ↦ omega (arith, one', two)
      | stays also _ ↦ absurd (other (same first ∙ also (keeps first)))
    ]
  ]
]

-- beginnings of parts stay beginnings
abbrev pub KeepsStarts : List Spot → List Spot → Type 0
KeepsStarts xs ys = (k : ℕ) (s r : Spot) → slice_get xs k ≡ Some s → slice_get ys k ≡ Some r → s.offset ≡ 0 → r.offset ≡ 0

pub relabelled-through : (xs ys zs : List Spot) → length ys ≡ length xs → KeepsStarts xs ys → relabelled xs zs ≤ relabelled xs ys + relabelled ys zs
unfolding relabelled
relabelled-through [] ys zs long keeps = omega arith
relabelled-through (x ∷ xs) [] zs long keeps = absurd (omega arith)
relabelled-through (x ∷ xs) (y ∷ ys) [] long keeps = omega arith
relabelled-through (x ∷ xs) (y ∷ ys) (z ∷ zs) long keeps =
    let head = changed-through x y z (keeps 0 x y refl refl) in
    let rest = relabelled-through xs ys zs (omega arith) (λ k s r at_x at_y. keeps (suc k) s r at_x at_y) in
    omega arith

pub relabelled-same : (xs : List Spot) → relabelled xs xs ≡ 0
unfolding relabelled
relabelled-same [] = refl
relabelled-same (x ∷ xs) = elim (change_cases x x) [
  | counts _ other _ ↦ absurd (other refl)
  | stays _ none ↦ omega (arith, none, relabelled-same xs)
]

-- a cut moves no beginning
relabelled-far : (c k n : ℕ) (spots : List Spot) → 0 < k → relabelled spots (map (moved c k n) spots) ≡ 0
unfolding relabelled
relabelled-far c k n [] some = refl
relabelled-far c k n (s ∷ spots) some = elim (change_cases s (moved c k n s)) [
  | stays _ none ↦ omega (arith, none, relabelled-far c k n spots some)
  | counts first other _ ↦ elim (moved_cases c k n s) [
    | inl g ↦ let far = g.far in absurd (omega arith)
    | inr g ↦ absurd (other (ap (λ (u : Spot). u.class) (sym g.kept)))
  ]
]

-- a union moves no more beginnings than the class that is given up has parts
relabelled-class : (a b : ℕ) (spots : List Spot) (base : ℕ) (ys : List ℕ) → ((k : ℕ) (s : Spot) → slice_get spots k ≡ Some s → s.class ≡ b → s.offset ≡ 0 → In (base + k) ys) → relabelled spots (map (moved b 0 a) spots) ≤ length ys
unfolding relabelled
relabelled-class a b [] base ys found = omega arith
relabelled-class a b (s ∷ spots) base ys found = elim (change_cases s (moved b 0 a s)) [
  | stays _ none ↦
      let rest = relabelled-class a b spots (base + 1) ys (λ k r at class first.
      let P : ℕ → Type 0 = λ v. In v ys in
      let e : base + suc k ≡ base + 1 + k = omega arith in
      subst P e (found (suc k) r at class first)) in
      omega (arith, none)
  | counts first other one' ↦
      let class : s.class ≡ b = elim (moved_cases b 0 a s) [ inl g ↦ g.of_class | inr g ↦ absurd (other (ap (λ (u : Spot). u.class) (sym g.kept))) ] in
      let P : ℕ → Type 0 = λ v. In v ys in
      let none : base + 0 ≡ base = omega arith in
      let here : In base ys = subst P none (found 0 s refl class first) in
      let rest = relabelled-class a b spots (base + 1) (without base ys) (λ k r at class first.
      let e : base + suc k ≡ base + 1 + k = omega arith in
      In-without base (base + 1 + k) ys (subst P e (found (suc k) r at class first)) (λ f. omega arith)) in
      let fewer = length-without-lt base ys here in
      omega (arith, one')
]

pub relabelled-united : (a b : ℕ) (t : Labels) → IsTable t → b < length t.walks → relabelled t.spots (united a b t).spots ≤ length (walk_at t b)
unfolding united
relabelled-united a b t table known = relabelled-class a b t.spots 0 (walk_at t b) (λ k s at class first.
    let same : s ≡ spot b 0 = λ i. record { class = class i; offset = first i } in
    let start = starts_of t k b table (at ∙ ap Some same) in
    let P : ℕ → Type 0 = λ v. In v (walk_at t b) in
    let e : k ≡ 0 + k = omega arith in
    subst P e start.among)

pub relabelled-merged : (c d : ℕ) (t : Labels) → AreClasses c d t → relabelled t.spots (merged c d t).spots ≤ moved_parts c d t
relabelled-merged c d t h = elim (merge_cases c d t) [
  | one e is count ↦ let none = ap (λ (v : Labels). relabelled t.spots v.spots) is in omega (arith, none, relabelled-same t.spots)
  | into_second apart less is count ↦ let moves = ap (λ (v : Labels). relabelled t.spots v.spots) is in omega (arith, moves, count, relabelled-united d c t h.table h.first)
  | into_first apart most is count ↦ let moves = ap (λ (v : Labels). relabelled t.spots v.spots) is in omega (arith, moves, count, relabelled-united c d t h.table h.second)
]

cut_none : (c k : ℕ) (t : Labels) → 0 < k → relabelled t.spots (cut c k t).spots ≡ 0
unfolding cut
cut_none c k t some = relabelled-far c k (length t.walks) t.spots some

pub relabelled-leveled : (c d : ℕ) (t : Labels) → AreClasses c d t → relabelled t.spots (leveled c d t).spots ≡ 0
relabelled-leveled c d t h = elim (level_cases c d t) [
  | second_longer less is len ↦ ap (λ (v : Labels). relabelled t.spots v.spots) is ∙ cut_none d (length_at t c) t (h.table.some c h.first)
  | first_longer less is len ↦ ap (λ (v : Labels). relabelled t.spots v.spots) is ∙ cut_none c (length_at t d) t (h.table.some d h.second)
  | level same is len ↦ ap (λ (v : Labels). relabelled t.spots v.spots) is ∙ relabelled-same t.spots
]

pub relabelled-step : (c d : ℕ) (t : Labels) → AreClasses c d t → relabelled t.spots (step c d t).spots ≤ step_parts c d t
unfolding step step_parts
relabelled-step c d t h =
    let u = leveled c d t in
    let laws = level_laws c d t h in
    let known = laws.first in
    let through = relabelled-through t.spots u.spots (merged c d u).spots laws.as_long (λ k s r at_s at_r first.
    let same : s ≡ spot s.class 0 = λ i. record { class = s.class; offset = first i } in
    let l : 0 < common t c d = let some : 1 ≤ length_at u c = laws.table.some c (let m = laws.more in let f = h.first in omega arith) in omega arith in
    ap (λ (v : Spot). v.offset) (same_Some r (spot s.class 0) (sym at_r ∙ laws.near k s.class 0 l (at_s ∙ ap Some same)))) in
    omega (arith, through, relabelled-leveled c d t h, relabelled-merged c d u (level_classes c d t h))

pub relabelled-joined : (Begins : ℕ → Type 0) (R : ℕ → ℕ → Type 0) (n skip : ℕ) (xs ys : List ℕ) (t : Labels) → AtPlace Begins R n skip xs ys t → relabelled t.spots (joined skip xs ys t).spots ≤ joined_parts skip xs ys t
unfolding joined joined_parts
relabelled-joined Begins R n skip [] ys t h = omega (arith, relabelled-same t.spots)
relabelled-joined Begins R n skip (x ∷ xs) [] t h = omega (arith, relabelled-same t.spots)
relabelled-joined Begins R n (suc skip) (x ∷ xs) (y ∷ ys) t h = relabelled-joined Begins R n skip xs ys t (place_tail Begins R n skip x y xs ys t h)
relabelled-joined Begins R n zero (x ∷ xs) (y ∷ ys) t h =
    let c = class_at t x in
    let d = class_at t y in
    let u = step c d t in
    let on = step_on Begins R n x y xs ys t h in
    let at_x = begins_own t x (h.begins_x x refl) in
    let at_y = begins_own t y (h.begins_y y refl) in
    let first = relabelled-step c d t (are_classes c d x y t h.walk.table at_x at_y) in
    let rest = relabelled-joined Begins R n (common t c d - 1) xs ys u on.rest in
    let through = relabelled-through t.spots u.spots (joined (common t c d - 1) xs ys u).spots on.laws.as_long (λ k s r at_s at_r none.
    let same : s ≡ spot s.class 0 = λ i. record { class = s.class; offset = none i } in
    let b = on.laws.begins k s.class (at_s ∙ ap Some same) in
    ap (λ (v : Spot). v.offset) (same_Some r (spot b.0 0) (sym at_r ∙ b.1))) in
    omega arith
