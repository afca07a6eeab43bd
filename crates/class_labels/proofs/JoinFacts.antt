-- A whole join forces its two lists together, and nothing else.
use Rattle.std.proofs.Common.{◌≡◌, ℕ, ◌+◌, ◌-◌, ◌<◌, ◌≤◌, ◌⊎◌, List, [], ◌∷◌, zero, suc, length, refl, ap, sym, ◌∙◌, inl, inr, arith, subst, Some}
use Rattle.std.specs.Prelude.{slice_get}
use Rattle.std.proofs.lemmas.Bool.{cases_lt}
use Rattle.std.proofs.lemmas.Option.{none-some, same_Some, slice_get_within, get_or_from_slice_get}
use Rattle.class_labels.specs.declared.spots.Spot.{Spot}
use Rattle.class_labels.specs.Labels.{Labels, spot, step, joined, common, class_at, length_at}
use Rattle.class_labels.specs.Walk.{Walk, AtPlace}
use Rattle.class_labels.specs.Runs.{Follows, Runs}
use Rattle.class_labels.proofs.LookFacts.{look_below}
use Rattle.class_labels.proofs.LevelFacts.{Grows, common_facts}
use Rattle.class_labels.proofs.StepFacts.{starts_of, StepLaws, step_laws, PartNow, after_part}
use Rattle.class_labels.proofs.WalkFacts.{walk_step, PartRun, PartAt, part_run}

-- what a join ends with
pub record Walked (Begins : ℕ → Type 0) (R : ℕ → ℕ → Type 0) (skip : ℕ) (xs ys : List ℕ) (t u : Labels) : Type 0 where
  pub walk : Walk Begins R u
  pub as_long : length u.spots ≡ length t.spots
  pub grows : Grows t u
  pub begins : (p e : ℕ) → slice_get t.spots p ≡ Some (spot e 0) → (f : ℕ) × (slice_get u.spots p ≡ Some (spot f 0))
  pub pairs : (k p q : ℕ) → skip ≤ k → slice_get xs k ≡ Some p → slice_get ys k ≡ Some q → slice_get u.spots p ≡ slice_get u.spots q

pub runs_tail : (Begins : ℕ → Type 0) (n x : ℕ) (xs : List ℕ) → Runs Begins n (x ∷ xs) → Runs Begins n xs
runs_tail Begins n x [] runs = tt
runs_tail Begins n x (y ∷ ys) runs = (runs.1.0.held, runs.1.1)

pub class_at_is : (t : Labels) (x c o : ℕ) → slice_get t.spots x ≡ Some (spot c o) → class_at t x ≡ c
class_at_is t x c o at = ap (λ (s : Spot). s.class) (get_or_from_slice_get t.spots x (spot c o) (spot 0 0) at)

pub begins_own : (t : Labels) (x : ℕ) → (c : ℕ) × (slice_get t.spots x ≡ Some (spot c 0)) → slice_get t.spots x ≡ Some (spot (class_at t x) 0)
begins_own t x b = b.1 ∙ ap (λ v. Some (spot v 0)) (sym (class_at_is t x b.0 0 b.1))

-- a part in a table where tokens begin parts
part_in : (Begins : ℕ → Type 0) (R : ℕ → ℕ → Type 0) (n : ℕ) (t : Labels) (x c : ℕ) → Walk Begins R t → n ≡ length t.spots → slice_get t.spots x ≡ Some (spot c 0) → PartAt Begins n x (length_at t c)
part_in Begins R n t x c walk long at =
    let start = starts_of t x c walk.table at in
    let class = walk.table.classes c start.known in
    record {
      held = λ o less. let below : x + o < length t.spots = slice_get_within t.spots (x + o) (spot c o) (class.whole x o start.among less) in omega arith;
      closed = λ o some less begins. let none : o ≡ 0 = walk.opens (x + o) (spot c o) begins (class.whole x o start.among less) in omega arith;
    }

-- what follows a part begins one
start_next : (Begins : ℕ → Type 0) (R : ℕ → ℕ → Type 0) (n : ℕ) (t : Labels) (x l z : ℕ) → Walk Begins R t → n ≡ length t.spots → PartNow x l t → (z < n) × ((z ≡ x + l) ⊎ Begins z) → (e : ℕ) × (slice_get t.spots z ≡ Some (spot e 0))
start_next Begins R n t x l z walk long part next =
    let held : z < length t.spots = let h = next.0 in omega arith in
    let s = look_below t.spots z held in
    elim next.1 [
      | inl e ↦
          let P : ℕ → Type 0 = λ v. slice_get t.spots v ≡ Some s.0 in
          (s.0.class, s.1 ∙ ap Some (after_part t x l s.0 walk.table part (subst P e s.1)))
      | inr b ↦
          let none : s.0.offset ≡ 0 = walk.opens z s.0 b s.1 in
          let same : s.0 ≡ spot s.0.class 0 = λ i. record { class = s.0.class; offset = none i } in
          (s.0.class, s.1 ∙ ap Some same)
    ]

-- the pairs of a part
part_pairs : (R : ℕ → ℕ → Type 0) (x y l c d : ℕ) (xs ys : List ℕ) → l ≤ c → l ≤ d
    → ((k p : ℕ) → k < c - 1 → p ≡ 0 + suc k → slice_get xs k ≡ Some (x + p)) → ((k p : ℕ) → k < d - 1 → p ≡ 0 + suc k → slice_get ys k ≡ Some (y + p))
    → ((k p q : ℕ) → 0 ≤ k → slice_get (x ∷ xs) k ≡ Some p → slice_get (y ∷ ys) k ≡ Some q → R p q)
    → (o : ℕ) → o < l → R (x + o) (y + o)
part_pairs R x y l c d xs ys in_c in_d inside_x inside_y linked zero less = linked zero (x + 0) (y + 0) (omega arith) (ap Some (let e : x ≡ x + 0 = omega arith in e)) (ap Some (let e : y ≡ y + 0 = omega arith in e))
part_pairs R x y l c d xs ys in_c in_d inside_x inside_y linked (suc o) less =
    linked (suc o) (x + suc o) (y + suc o) (omega arith) (inside_x o (suc o) (omega arith) (omega arith)) (inside_y o (suc o) (omega arith) (omega arith))

-- the common part of one step, told by the place behind it
behind : (Begins : ℕ → Type 0) (n x l c : ℕ) (xs : List ℕ) → l ≤ c → 0 < l → PartRun Begins n x 0 (c - 1) c xs → PartAt Begins n x c → (z : ℕ) → slice_get xs (l - 1) ≡ Some z → (z < n) × ((z ≡ x + l) ⊎ Begins z)
behind Begins n x l c xs within some run part z at = elim (cases_lt l c) [
  | inl less ↦
      let there : z ≡ x + l = same_Some z (x + l) (sym at ∙ run.inside (l - 1) l (omega arith) (omega arith)) in
      let held : x + l < n = part.held l less in
      (omega arith, inl there)
  | inr most ↦
      let same : l ≡ c = omega arith in
      let P : ℕ → Type 0 = λ v. slice_get xs (v - 1) ≡ Some z in
      let next = run.next z (subst P same at) in
      (next.0, elim next.1 [ inl e ↦ inl (omega arith) | inr b ↦ inr b ])
]

-- one step on from a place
pub record StepOn (Begins : ℕ → Type 0) (R : ℕ → ℕ → Type 0) (n x y : ℕ) (xs ys : List ℕ) (t : Labels) : Type 0 where
  pub rest : AtPlace Begins R n (common t (class_at t x) (class_at t y) - 1) xs ys (step (class_at t x) (class_at t y) t)
  pub laws : StepLaws (class_at t x) (class_at t y) x y (common t (class_at t x) (class_at t y)) t (step (class_at t x) (class_at t y) t)
  pub within : common t (class_at t x) (class_at t y) ≤ length (x ∷ xs)
  pub inside : (k p q : ℕ) → k < common t (class_at t x) (class_at t y) → slice_get (x ∷ xs) k ≡ Some p → slice_get (y ∷ ys) k ≡ Some q → (p ≡ x + k) × (q ≡ y + k)

inside_pair : (x y l c d : ℕ) (xs ys : List ℕ) → l ≤ c → l ≤ d
    → ((k p : ℕ) → k < c - 1 → p ≡ 0 + suc k → slice_get xs k ≡ Some (x + p)) → ((k p : ℕ) → k < d - 1 → p ≡ 0 + suc k → slice_get ys k ≡ Some (y + p))
    → (k p q : ℕ) → k < l → slice_get (x ∷ xs) k ≡ Some p → slice_get (y ∷ ys) k ≡ Some q → (p ≡ x + k) × (q ≡ y + k)
inside_pair x y l c d xs ys in_c in_d inside_x inside_y zero p q less at_p at_q =
    let e : x ≡ p = same_Some x p at_p in
    let f : y ≡ q = same_Some y q at_q in
    (omega arith, omega arith)
inside_pair x y l c d xs ys in_c in_d inside_x inside_y (suc k) p q less at_p at_q =
    (same_Some p (x + suc k) (sym at_p ∙ inside_x k (suc k) (omega arith) (omega arith)), same_Some q (y + suc k) (sym at_q ∙ inside_y k (suc k) (omega arith) (omega arith)))

-- where one part is longer, the other list's next character begins a part
longer : (Begins : ℕ → Type 0) (R : ℕ → ℕ → Type 0) (n : ℕ) (t : Labels) (x y c d e l : ℕ) (xs ys : List ℕ) → Walk Begins R t → n ≡ length t.spots → length xs ≡ length ys
    → PartRun Begins n x 0 (c - 1) c xs → slice_get t.spots y ≡ Some (spot e 0) → length_at t e ≡ d → PartRun Begins n y 0 (d - 1) d ys → PartAt Begins n y d
    → l < c → l ≤ d → (l ≡ c) ⊎ (l ≡ d) → 0 < l
    → (z : ℕ) × (f : ℕ) × (slice_get xs (l - 1) ≡ Some (x + l)) × (slice_get ys (l - 1) ≡ Some z) × (slice_get t.spots z ≡ Some (spot f 0))
longer Begins R n t x y c d e l xs ys walk long even run_x at_y len run_y part_y less most is some =
    let same : l ≡ d = elim is [ inl f ↦ absurd (omega arith) | inr f ↦ f ] in
    let there : slice_get xs (l - 1) ≡ Some (x + l) = run_x.inside (l - 1) l (omega arith) (omega arith) in
    let below : l - 1 < length xs = slice_get_within xs (l - 1) (x + l) there in
    let z = look_below ys (l - 1) (omega arith) in
    let next = start_next Begins R n t y l z.0 walk long (record { class = e; at = at_y; len = len ∙ sym same }) (behind Begins n y l d ys most some run_y part_y z.0 z.1) in
    (z.0, next.0, there, z.1, next.1)

pub step_on : (Begins : ℕ → Type 0) (R : ℕ → ℕ → Type 0) (n x y : ℕ) (xs ys : List ℕ) (t : Labels) → AtPlace Begins R n 0 (x ∷ xs) (y ∷ ys) t → StepOn Begins R n x y xs ys t
step_on Begins R n x y xs ys t h =
    let c = class_at t x in
    let d = class_at t y in
    let l = common t c d in
    let u = step c d t in
    let at_x : slice_get t.spots x ≡ Some (spot c 0) = begins_own t x (h.begins_x x refl) in
    let at_y : slice_get t.spots y ≡ Some (spot d 0) = begins_own t y (h.begins_y y refl) in
    let facts = common_facts c d t in
    let in_c : l ≤ length_at t c = facts.in_first in
    let in_d : l ≤ length_at t d = facts.in_second in
    let laws = step_laws c d x y t h.walk.table at_x at_y in
    let some : 0 < l = laws.some in
    let even : length xs ≡ length ys = let e = h.even in omega arith in
    let part_x = part_in Begins R n t x c h.walk h.long at_x in
    let part_y = part_in Begins R n t y d h.walk h.long at_y in
    let run_at : (z m : ℕ) (zs : List ℕ) → Follows Begins n z zs → Follows Begins n (z + 0) zs = λ z m zs f.
    let P : ℕ → Type 0 = λ v. Follows Begins n v zs in let e : z ≡ z + 0 = omega arith in subst P e f in
    let run_x = part_run Begins n x (length_at t c) part_x xs 0 (length_at t c - 1) (omega arith) (run_at x 0 xs h.first.1) in
    let run_y = part_run Begins n y (length_at t d) part_y ys 0 (length_at t d - 1) (omega arith) (run_at y 0 ys h.second.1) in
    let back_one : suc (l - 1) ≡ l = omega arith in
    let next_x : l < length_at t c → (z : ℕ) × (e : ℕ) × R (x + l) z × (slice_get t.spots z ≡ Some (spot e 0)) = λ less.
    let z = longer Begins R n t x y (length_at t c) (length_at t d) d l xs ys h.walk h.long even run_x at_y refl run_y part_y less in_d facts.is some in
    (z.0, z.1, h.linked (suc (l - 1)) (x + l) z.0 (omega arith) z.2 z.3, z.4) in
    let next_y : l < length_at t d → (z : ℕ) × (e : ℕ) × R z (y + l) × (slice_get t.spots z ≡ Some (spot e 0)) = λ less.
    let z = longer Begins R n t y x (length_at t d) (length_at t c) c l ys xs h.walk h.long (sym even) run_y at_x refl run_x part_x less in_c (elim facts.is [ inl e ↦ inr e | inr e ↦ inl e ]) some in
    (z.0, z.1, h.linked (suc (l - 1)) z.0 (y + l) (omega arith) z.3 z.2, z.4) in
    let walk = walk_step Begins R t c d x y h.walk at_x at_y
    (part_pairs R x y l (length_at t c) (length_at t d) xs ys in_c in_d run_x.inside run_y.inside h.linked) next_x next_y in
    let long : n ≡ length u.spots = h.long ∙ sym laws.as_long in
    record {
      rest = record {
        walk = walk;
        long = long;
        even = even;
        first = runs_tail Begins n x xs h.first;
        second = runs_tail Begins n y ys h.second;
        linked = λ k p q least at_p at_q. h.linked (suc k) p q (omega arith) at_p at_q;
        begins_x = λ z at. start_next Begins R n u x l z walk long laws.first (behind Begins n x l (length_at t c) xs in_c some run_x part_x z at);
        begins_y = λ z at. start_next Begins R n u y l z walk long laws.second (behind Begins n y l (length_at t d) ys in_d some run_y part_y z at);
      };
      laws = laws;
      within = elim (cases_lt 1 l) [
        | inl more ↦
            let at : slice_get xs (l - 2) ≡ Some (x + (l - 1)) = run_x.inside (l - 2) (l - 1) (omega arith) (omega arith) in
            let below : l - 2 < length xs = slice_get_within xs (l - 2) (x + (l - 1)) at in
            omega arith
        | inr one ↦ omega arith
      ];
      inside = inside_pair x y l (length_at t c) (length_at t d) xs ys in_c in_d run_x.inside run_y.inside;
    }

past_first_pairs : (u : Labels) (x y l : ℕ) (xs ys : List ℕ)
    → ((k p q : ℕ) → k < l → slice_get (x ∷ xs) k ≡ Some p → slice_get (y ∷ ys) k ≡ Some q → slice_get u.spots p ≡ slice_get u.spots q)
    → ((k p q : ℕ) → l - 1 ≤ k → slice_get xs k ≡ Some p → slice_get ys k ≡ Some q → slice_get u.spots p ≡ slice_get u.spots q)
    → 0 < l → (k p q : ℕ) → slice_get (x ∷ xs) k ≡ Some p → slice_get (y ∷ ys) k ≡ Some q → slice_get u.spots p ≡ slice_get u.spots q
past_first_pairs u x y l xs ys early late some zero p q at_p at_q = early 0 p q some at_p at_q
past_first_pairs u x y l xs ys early late some (suc k) p q at_p at_q = elim (cases_lt (suc k) l) [
  | inl less ↦ early (suc k) p q less at_p at_q
  | inr most ↦ late k p q (omega arith) at_p at_q
]

later_pairs : (skip x y : ℕ) (xs ys : List ℕ) (u : Labels)
    → ((k p q : ℕ) → skip ≤ k → slice_get xs k ≡ Some p → slice_get ys k ≡ Some q → slice_get u.spots p ≡ slice_get u.spots q)
    → (k p q : ℕ) → suc skip ≤ k → slice_get (x ∷ xs) k ≡ Some p → slice_get (y ∷ ys) k ≡ Some q → slice_get u.spots p ≡ slice_get u.spots q
later_pairs skip x y xs ys u rest zero p q least at_p at_q = absurd (omega arith)
later_pairs skip x y xs ys u rest (suc k) p q least at_p at_q = rest k p q (omega arith) at_p at_q

pub walked : (Begins : ℕ → Type 0) (R : ℕ → ℕ → Type 0) (n skip : ℕ) (xs ys : List ℕ) (t : Labels) → AtPlace Begins R n skip xs ys t → Walked Begins R skip xs ys t (joined skip xs ys t)
unfolding joined
walked Begins R n skip [] ys t h = record {
  walk = h.walk;
  as_long = refl;
  grows = λ p q e. e;
  begins = λ p e at. (e, at);
  pairs = λ k p q least at_p at_q. absurd (none-some p at_p);
}
walked Begins R n skip (x ∷ xs) [] t h = absurd (let e = h.even in omega arith)
walked Begins R n (suc skip) (x ∷ xs) (y ∷ ys) t h =
    let rest = walked Begins R n skip xs ys t (record {
      walk = h.walk;
      long = h.long;
      even = let e = h.even in omega arith;
      first = runs_tail Begins n x xs h.first;
      second = runs_tail Begins n y ys h.second;
      linked = λ k p q least at_p at_q. h.linked (suc k) p q (omega arith) at_p at_q;
      begins_x = h.begins_x;
      begins_y = h.begins_y;
    }) in
    record {
      walk = rest.walk;
      as_long = rest.as_long;
      grows = rest.grows;
      begins = rest.begins;
      pairs = λ k p q least at_p at_q. later_pairs skip x y xs ys (joined skip xs ys t) rest.pairs k p q least at_p at_q;
    }
walked Begins R n zero (x ∷ xs) (y ∷ ys) t h =
    let c = class_at t x in
    let d = class_at t y in
    let l = common t c d in
    let u = step c d t in
    let on = step_on Begins R n x y xs ys t h in
    let rest = walked Begins R n (l - 1) xs ys u on.rest in
    let v = joined (l - 1) xs ys u in
    record {
      walk = rest.walk;
      as_long = rest.as_long ∙ on.laws.as_long;
      grows = λ p q e. rest.grows p q (on.laws.grows p q e);
      begins = λ p e at. let b = on.laws.begins p e at in rest.begins p b.0 b.1;
      pairs = λ k p q least at_p at_q. past_first_pairs v x y l xs ys
          (λ j p q less at_p at_q. let i = on.inside j p q less at_p at_q in
          let P : ℕ → Type 0 = λ w. slice_get v.spots w ≡ slice_get v.spots q in
          let Q : ℕ → Type 0 = λ w. slice_get v.spots (x + j) ≡ slice_get v.spots w in
          subst P (sym i.0) (subst Q (sym i.1) (rest.grows (x + j) (y + j) (on.laws.pairs j less))))
          rest.pairs on.laws.some k p q at_p at_q;
    }
