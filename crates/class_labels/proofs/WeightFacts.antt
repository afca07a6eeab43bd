-- A step of a join adds at least as much weight as it moves parts.
use Rattle.std.specs.List.{sum_by}
use Rattle.std.proofs.Common.{◌≡◌, ℕ, ◌+◌, ◌-◌, ◌*◌, ◌/◌, ◌<◌, ◌≤◌, ltb, List, [], ◌∷◌, ◌++◌, zero, suc, length, map, get_or, set, refl, ap, sym, inl, inr, arith, subst, length-append, length-set}
use Rattle.std.proofs.Math.Nat.{mul-le-mul_left, mul-add, add-mul}
use Rattle.std.proofs.lemmas.List.Sums.{sum_by-set, sum_by_push, sum_by-cons}
use Rattle.std.proofs.lemmas.List.{get_or-set_other}
use Rattle.std.proofs.lemmas.Bool.{cases_lt, cond-true, cond-false, lt-ltb, le-ltb}
use Rattle.class_labels.specs.Labels.{Labels, added, cut, united, leveled, merged, moved_parts, step, step_parts, joined, joined_parts, common, class_at, walk_at, length_at}
use Rattle.class_labels.specs.Table.{AreClasses}
use Rattle.class_labels.specs.Walk.{AtPlace}
use Rattle.class_labels.specs.Weight.{digits_within, digits, weight_of, weight, part_count}
use Rattle.class_labels.proofs.LevelFacts.{level_cases}
use Rattle.class_labels.proofs.LevelFacts.LevelCase.{second_longer, first_longer, level}
use Rattle.class_labels.proofs.MergeFacts.{merge_cases}
use Rattle.class_labels.proofs.MergeFacts.MergeCase.{one, into_second, into_first}
use Rattle.class_labels.proofs.StepFacts.{are_classes, level_classes}
use Rattle.class_labels.proofs.JoinFacts.{step_on, begins_own, runs_tail}

pub digits_within-le : (m n a b : ℕ) → m ≤ n → a ≤ b → digits_within m a ≤ digits_within n b
unfolding digits_within
digits_within-le zero n a b h g = omega arith
digits_within-le (suc m) zero a b h g = absurd (omega arith)
digits_within-le (suc m) (suc n) a b h g = elim (cases_lt 0 a) [
  | inl some ↦
      let first = cond-true (ltb 0 a) (1 + digits_within m (a / 2)) 0 (lt-ltb 0 a some) in
      let second = cond-true (ltb 0 b) (1 + digits_within n (b / 2)) 0 (lt-ltb 0 b (omega arith)) in
      let rest : digits_within m (a / 2) ≤ digits_within n (b / 2) = digits_within-le m n (a / 2) (b / 2) (omega arith) (omega arith) in
      omega (arith, first, second)
  | inr none ↦
      let first = cond-false (ltb 0 a) (1 + digits_within m (a / 2)) 0 (le-ltb 0 a none) in
      omega (arith, first)
]

pub digits_double : (a n : ℕ) → 0 < a → a + a ≤ n → digits a + 1 ≤ digits n
unfolding digits_within
digits_double a zero some twice = absurd (omega arith)
digits_double a (suc n) some twice =
    let first = cond-true (ltb 0 (suc n)) (1 + digits_within n (suc n / 2)) 0 (lt-ltb 0 (suc n) (omega arith)) in
    let rest : digits_within a a ≤ digits_within n (suc n / 2) = digits_within-le a n a (suc n / 2) (omega arith) (omega arith) in
    omega (arith, first)

pub digits_some : (a : ℕ) → 0 < a → 0 < digits a
unfolding digits_within
digits_some zero h = absurd (omega arith)
digits_some (suc a) h = let first = cond-true (ltb 0 (suc a)) (1 + digits_within a (suc a / 2)) 0 (lt-ltb 0 (suc a) h) in omega (arith, first)

mul-more : (m n : ℕ) → m * (n + 1) ≡ m * n + m
mul-more m n = omega (arith, mul-add m n 1)

-- two classes, the first no larger
pub weight_of-sum : (a b : ℕ) → 0 < a → a ≤ b → weight_of a + weight_of b + a ≤ weight_of (a + b)
weight_of-sum a b some most =
    let d = digits (a + b) - 1 in
    let doubled = digits_double a (a + b) some (omega arith) in
    let grown : digits b ≤ digits (a + b) = digits_within-le b (a + b) b (a + b) (omega arith) (omega arith) in
    let own = digits_some a some in
    let first : a * (digits a - 1 + 1) ≤ a * d = mul-le-mul_left a (omega arith) in
    let second : b * (digits b - 1) ≤ b * d = mul-le-mul_left b (omega arith) in
    omega (arith, first, second, mul-more a (digits a - 1), add-mul a b d)

pub weight-united : (a b : ℕ) (t : Labels) → (a ≡ b → ⊥) → a < length t.walks → b < length t.walks
    → weight (united a b t) + (weight_of (length (walk_at t a)) + weight_of (length (walk_at t b))) ≡ weight t + weight_of (length (walk_at t a) + length (walk_at t b))
unfolding united weight digits_within
weight-united a b t apart kept lost =
    let f : List ℕ → ℕ = λ walk. weight_of (length walk) in
    let both = walk_at t a ++ walk_at t b in
    let once = set t.walks a both in
    let long : length once ≡ length t.walks = length-set t.walks a both in
    let first = sum_by-set f t.walks a both [] kept in
    let second = sum_by-set f once b [] [] (omega arith) in
    let other : get_or once b [] ≡ walk_at t b = get_or-set_other t.walks a b both [] (λ e. apart (sym e)) in
    let lost_weight : f (get_or once b []) ≡ weight_of (length (walk_at t b)) = ap f other in
    let sum : f both ≡ weight_of (length (walk_at t a) + length (walk_at t b)) = ap weight_of (length-append (walk_at t a) (walk_at t b)) in
    let none : f [] ≡ 0 = refl in
    omega (arith, first, second, lost_weight, sum, none)

pub weight-cut : (c k : ℕ) (t : Labels) → weight t ≤ weight (cut c k t)
unfolding cut weight
weight-cut c k t =
    let f : List ℕ → ℕ = λ walk. weight_of (length walk) in
    omega (arith, sum_by_push f t.walks (map (λ x. x + k) (walk_at t c)))

pub weight-leveled : (c d : ℕ) (t : Labels) → weight t ≤ weight (leveled c d t)
weight-leveled c d t = elim (level_cases c d t) [
  | second_longer less is len ↦ let P : Labels → Type 0 = λ v. weight t ≤ weight v in subst P (sym is) (weight-cut d (length_at t c) t)
  | first_longer less is len ↦ let P : Labels → Type 0 = λ v. weight t ≤ weight v in subst P (sym is) (weight-cut c (length_at t d) t)
  | level same is len ↦ let P : Labels → Type 0 = λ v. weight t ≤ weight v in subst P (sym is) (omega arith)
]

pub weight-merged : (c d : ℕ) (t : Labels) → AreClasses c d t → moved_parts c d t + weight t ≤ weight (merged c d t)
weight-merged c d t h =
    let P : ℕ → Labels → Type 0 = λ n v. n + weight t ≤ weight v in
    let Q : ℕ → Type 0 = λ n. n + weight t ≤ weight (merged c d t) in
    elim (merge_cases c d t) [
      | one e is count ↦ let w = ap weight is in omega arith
      | into_second apart less is count ↦
          let w = ap weight is in
          let sum = weight-united d c t (λ e. apart (sym e)) h.second h.first in
          let gain = weight_of-sum (length (walk_at t c)) (length (walk_at t d)) h.first_held (omega arith) in
          let turn : weight_of (length (walk_at t d) + length (walk_at t c)) ≡ weight_of (length (walk_at t c) + length (walk_at t d)) = ap weight_of (let e : length (walk_at t d) + length (walk_at t c) ≡ length (walk_at t c) + length (walk_at t d) = omega arith in e) in
          omega arith
      | into_first apart most is count ↦
          let w = ap weight is in
          let sum = weight-united c d t apart h.first h.second in
          let gain = weight_of-sum (length (walk_at t d)) (length (walk_at t c)) h.second_held most in
          let turn : weight_of (length (walk_at t d) + length (walk_at t c)) ≡ weight_of (length (walk_at t c) + length (walk_at t d)) = ap weight_of (let e : length (walk_at t d) + length (walk_at t c) ≡ length (walk_at t c) + length (walk_at t d) = omega arith in e) in
          omega arith
    ]

pub weight-step : (c d : ℕ) (t : Labels) → AreClasses c d t → step_parts c d t + weight t ≤ weight (step c d t)
unfolding step step_parts
weight-step c d t h =
    let first = weight-leveled c d t in
    let second = weight-merged c d (leveled c d t) (level_classes c d t h) in
    omega arith

-- one place on in both lists
pub place_tail : (Begins : ℕ → Type 0) (R : ℕ → ℕ → Type 0) (n skip x y : ℕ) (xs ys : List ℕ) (t : Labels) → AtPlace Begins R n (suc skip) (x ∷ xs) (y ∷ ys) t → AtPlace Begins R n skip xs ys t
place_tail Begins R n skip x y xs ys t h = record {
  walk = h.walk;
  long = h.long;
  even = let e = h.even in omega arith;
  first = runs_tail Begins n x xs h.first;
  second = runs_tail Begins n y ys h.second;
  linked = λ k p q least at_p at_q. h.linked (suc k) p q (omega arith) at_p at_q;
  begins_x = h.begins_x;
  begins_y = h.begins_y;
}

pub weight-joined : (Begins : ℕ → Type 0) (R : ℕ → ℕ → Type 0) (n skip : ℕ) (xs ys : List ℕ) (t : Labels) → AtPlace Begins R n skip xs ys t → joined_parts skip xs ys t + weight t ≤ weight (joined skip xs ys t)
unfolding joined joined_parts
weight-joined Begins R n skip [] ys t h = omega arith
weight-joined Begins R n skip (x ∷ xs) [] t h = omega arith
weight-joined Begins R n (suc skip) (x ∷ xs) (y ∷ ys) t h = weight-joined Begins R n skip xs ys t (place_tail Begins R n skip x y xs ys t h)
weight-joined Begins R n zero (x ∷ xs) (y ∷ ys) t h =
    let c = class_at t x in
    let d = class_at t y in
    let on = step_on Begins R n x y xs ys t h in
    let at_x = begins_own t x (h.begins_x x refl) in
    let at_y = begins_own t y (h.begins_y y refl) in
    let first = weight-step c d t (are_classes c d x y t h.walk.table at_x at_y) in
    let rest = weight-joined Begins R n (common t c d - 1) xs ys (step c d t) on.rest in
    omega arith

-- a part in a class of its own weighs nothing
pub weight-added : (n : ℕ) (t : Labels) → weight (added n t) ≡ weight t
unfolding added weight digits_within
weight-added n t =
    let f : List ℕ → ℕ = λ walk. weight_of (length walk) in
    let more = sum_by_push f t.walks (length t.spots ∷ []) in
    let none : f (length t.spots ∷ []) ≡ 0 = refl in
    omega arith

weight_most : (walks : List (List ℕ)) (n : ℕ) → sum_by (λ (walk : List ℕ). length walk) walks ≤ n → sum_by (λ (walk : List ℕ). weight_of (length walk)) walks ≤ sum_by (λ (walk : List ℕ). length walk) walks * digits n
weight_most [] n within = omega arith
weight_most (walk ∷ walks) n within =
    let l = length walk in
    let sum = sum_by-cons (λ (walk : List ℕ). length walk) walk walks in
    let weights = sum_by-cons (λ (walk : List ℕ). weight_of (length walk)) walk walks in
    let rest = weight_most walks n (omega arith) in
    let fewer : digits l ≤ digits n = digits_within-le l n l n (omega arith) (omega arith) in
    let own : l * (digits l - 1) ≤ l * digits n = mul-le-mul_left l (omega arith) in
    let split = add-mul l (sum_by (λ (walk : List ℕ). length walk) walks) (digits n) in
    let whole = ap (λ v. v * digits n) sum in
    omega arith

-- the weight of N parts is at most N times the binary digits of N
pub weight-most : (t : Labels) → weight t ≤ part_count t * digits (part_count t)
unfolding weight part_count
weight-most t = weight_most t.walks (sum_by (λ (walk : List ℕ). length walk) t.walks) (omega arith)
