-- Another length for the parts of one class makes a table of a table.
use Rattle.std.proofs.Common.{◌≡◌, ℕ, ◌+◌, ◌-◌, ◌<◌, ◌≤◌, cond, eqb, List, [], ◌∷◌, ◌++◌, zero, suc, length, map, get_or, set, refl, ap, sym, ◌∙◌, inl, inr, arith, subst, length-append, length-set, Some}
use Rattle.std.specs.Prelude.{slice_get}
use Rattle.std.specs.List.{flat_map}
use Rattle.std.proofs.lemmas.Option.{none-some, same_Some, slice_get_within}
use Rattle.std.proofs.lemmas.List.{length-map, get_or-set_same, get_or-set_other}
use Rattle.std.proofs.lemmas.Bool.{cases_eq, cases_lt, cases_order, cond-true, cond-false, eq-eqb, ne_eqb}
use Rattle.cs_base.proofs.ListLemmas.{get-front as slice_get-append_left}
use Rattle.class_labels.specs.declared.spots.Spot.{Spot}
use Rattle.class_labels.specs.Labels.{Labels, spot, fresh_part, walk_at, length_at}
use Rattle.class_labels.specs.Table.{In, Distinct, IsClass, IsTable, inner, past_first}
use Rattle.class_labels.specs.Regrown.{piece, share, place, regrown}
use Rattle.class_labels.proofs.ListFacts.{In-map, In-map_cases}
use Rattle.class_labels.proofs.LookFacts.{look_below}
use Rattle.class_labels.proofs.FieldFacts.{get_or-map_any, member_at}
use Rattle.class_labels.proofs.AddFacts.{length-fresh_part, fresh_part-at, slice_get-append_right, inner-append, inner-fresh}
use Rattle.class_labels.proofs.CutFacts.{class_as, past_first-some}

-- what stands for one character
pub data PieceCase (c m : ℕ) (s : Spot) : Type 0 where
  first : s ≡ spot c 0 → piece c m s ≡ fresh_part c m → share c m s ≡ m → PieceCase c m s
  gone : s.class ≡ c → 0 < s.offset → piece c m s ≡ [] → share c m s ≡ 0 → PieceCase c m s
  itself : (s.class ≡ c → ⊥) → piece c m s ≡ s ∷ [] → share c m s ≡ 1 → PieceCase c m s

pub piece_cases : (c m : ℕ) (s : Spot) → PieceCase c m s
piece_cases c m s = elim (cases_eq s.class c) [
  | inr other ↦ itself other (cond-false (eqb s.class c) (cond (eqb s.offset 0) (fresh_part c m) []) (s ∷ []) (ne_eqb s.class c other)) (cond-false (eqb s.class c) (cond (eqb s.offset 0) m 0) 1 (ne_eqb s.class c other))
  | inl class ↦
      let inside = cond-true (eqb s.class c) (cond (eqb s.offset 0) (fresh_part c m) []) (s ∷ []) (eq-eqb s.class c class) in
      let many = cond-true (eqb s.class c) (cond (eqb s.offset 0) m 0) 1 (eq-eqb s.class c class) in
      elim (cases_eq s.offset 0) [
        | inl none ↦ first (λ i. record { class = class i; offset = none i }) (inside ∙ cond-true (eqb s.offset 0) (fresh_part c m) [] (eq-eqb s.offset 0 none)) (many ∙ cond-true (eqb s.offset 0) m 0 (eq-eqb s.offset 0 none))
        | inr some ↦ gone class (omega arith) (inside ∙ cond-false (eqb s.offset 0) (fresh_part c m) [] (ne_eqb s.offset 0 some)) (many ∙ cond-false (eqb s.offset 0) m 0 (ne_eqb s.offset 0 some))
      ]
]

pub length-piece : (c m : ℕ) (s : Spot) → length (piece c m s) ≡ share c m s
length-piece c m s = elim (piece_cases c m s) [
  | first e p n ↦ ap length p ∙ length-fresh_part c m ∙ sym n
  | gone class some p n ↦ ap length p ∙ sym n
  | itself other p n ↦ ap length p ∙ sym n
]

-- from a character to what stands for it
pub at_place : (c m : ℕ) (spots : List Spot) (i o : ℕ) (s : Spot) → slice_get spots i ≡ Some s → o < share c m s → slice_get (flat_map (piece c m) spots) (place c m spots i + o) ≡ slice_get (piece c m s) o
unfolding place
at_place c m [] i o s at less = absurd (none-some s at)
at_place c m (r ∷ spots) zero o s at less =
    let e : r ≡ s = same_Some r s at in
    let P : Spot → Type 0 = λ v. slice_get (piece c m v ++ flat_map (piece c m) spots) (0 + o) ≡ slice_get (piece c m s) o in
    let zero-o : 0 + o ≡ o = omega arith in
    subst P (sym e) (ap (λ k. slice_get (piece c m s ++ flat_map (piece c m) spots) k) zero-o
    ∙ slice_get-append_left (piece c m s) (flat_map (piece c m) spots) o (omega (arith, length-piece c m s)))
at_place c m (r ∷ spots) (suc i) o s at less =
    slice_get-append_right (piece c m r) (flat_map (piece c m) spots) (share c m r + place c m spots i + o) (place c m spots i + o) (omega (arith, length-piece c m r))
    ∙ at_place c m spots i o s at less

-- and back
pub record From (c m : ℕ) (spots : List Spot) (k : ℕ) (r : Spot) : Type 0 where
  pub number : ℕ
  pub was : Spot
  pub at : slice_get spots number ≡ Some was
  pub inside : ℕ
  pub less : inside < share c m was
  pub there : place c m spots number + inside ≡ k
  pub is : slice_get (piece c m was) inside ≡ Some r

pub from_of : (c m : ℕ) (spots : List Spot) (k : ℕ) (r : Spot) → slice_get (flat_map (piece c m) spots) k ≡ Some r → From c m spots k r
unfolding place
from_of c m [] k r at = absurd (none-some r at)
from_of c m (s ∷ spots) k r at = elim (cases_lt k (length (piece c m s))) [
  | inl less ↦ record {
    number = 0;
    was = s;
    at = refl;
    inside = k;
    less = omega (arith, length-piece c m s);
    there = omega arith;
    is = sym (slice_get-append_left (piece c m s) (flat_map (piece c m) spots) k less) ∙ at;
  }
  | inr most ↦
      let j = k - length (piece c m s) in
      let f = from_of c m spots j r (sym (slice_get-append_right (piece c m s) (flat_map (piece c m) spots) k j (omega arith)) ∙ at) in
      let there = f.there in
      record { number = suc f.number; was = f.was; at = f.at; inside = f.inside; less = f.less; there = omega (arith, length-piece c m s); is = f.is }
]

place_zero : (c m : ℕ) (spots : List Spot) (s : Spot) → share c m s + place c m spots 0 ≡ 0 + share c m s
unfolding place
place_zero c m spots s = omega arith

pub place_next : (c m : ℕ) (spots : List Spot) (i : ℕ) (s : Spot) → slice_get spots i ≡ Some s → place c m spots (suc i) ≡ place c m spots i + share c m s
unfolding place
place_next c m [] i s at = absurd (none-some s at)
place_next c m (r ∷ spots) zero s at = ap (λ v. share c m v + place c m spots 0) (same_Some r s at) ∙ place_zero c m spots s
place_next c m (r ∷ spots) (suc i) s at = let rest = place_next c m spots i s at in omega arith

pub place_grows : (c m : ℕ) (spots : List Spot) (i j : ℕ) → i ≤ j → j ≤ length spots → place c m spots i ≤ place c m spots j
place_grows c m spots i zero least within = let e : i ≡ 0 = omega arith in let f = ap (place c m spots) e in omega arith
place_grows c m spots i (suc j) least within = elim (cases_eq i (suc j)) [
  | inl e ↦ let f = ap (place c m spots) e in omega arith
  | inr ne ↦
      let rest = place_grows c m spots i j (omega arith) (omega arith) in
      let s = look_below spots j (omega arith) in
      let next = place_next c m spots j s.0 s.1 in
      omega arith
]

-- first characters of parts have different numbers
pub place_apart : (c m : ℕ) (spots : List Spot) (i j d e : ℕ) → 0 < m → i < j → slice_get spots i ≡ Some (spot d 0) → slice_get spots j ≡ Some (spot e 0) → place c m spots i < place c m spots j
place_apart c m spots i j d e some less at_i at_j =
    let within : j < length spots = slice_get_within spots j (spot e 0) at_j in
    let next = place_next c m spots i (spot d 0) at_i in
    let grows = place_grows c m spots (suc i) j (omega arith) (omega arith) in
    elim (piece_cases c m (spot d 0)) [
      | first f p n ↦ omega arith
      | gone class inner p n ↦ absurd (omega arith)
      | itself other p n ↦ omega arith
    ]

-- the characters of a part of another class stay together
pub place_along : (c m : ℕ) (spots : List Spot) (d l x : ℕ) → (d ≡ c → ⊥) → ((o : ℕ) → o < l → slice_get spots (x + o) ≡ Some (spot d o)) → (o : ℕ) → o < l → place c m spots (x + o) ≡ place c m spots x + o
place_along c m spots d l x apart whole zero less = ap (place c m spots) (let e : x + 0 ≡ x = omega arith in e) ∙ (let e : place c m spots x ≡ place c m spots x + 0 = omega arith in e)
place_along c m spots d l x apart whole (suc o) less =
    let rest = place_along c m spots d l x apart whole o (omega arith) in
    let next = place_next c m spots (x + o) (spot d o) (whole o (omega arith)) in
    let one : share c m (spot d o) ≡ 1 = elim (piece_cases c m (spot d o)) [
      | first e p n ↦ absurd (apart (ap (λ (v : Spot). v.class) e))
      | gone class some p n ↦ absurd (apart class)
      | itself other p n ↦ n
    ] in
    let step : x + suc o ≡ suc (x + o) = omega arith in
    let there = ap (place c m spots) step in
    omega arith

itself_is : (s : Spot) (k : ℕ) (r : Spot) → slice_get (s ∷ []) k ≡ Some r → s ≡ r
itself_is s zero r at = same_Some s r at
itself_is s (suc k) r at = absurd (none-some r at)

itself_class : (c : ℕ) (s : Spot) (k : ℕ) (r : Spot) → slice_get (s ∷ []) k ≡ Some r → s.class ≡ r.class
itself_class c s k r at = ap (λ (v : Spot). v.class) (itself_is s k r at)

-- the class whose parts get the other length
pub class_regrown : (c m l : ℕ) (walk : List ℕ) (spots : List Spot) → 0 < l → IsClass c l walk spots → IsClass c m (map (place c m spots) walk) (flat_map (piece c m) spots)
class_regrown c m l walk spots some class = record {
  whole = λ y o i less.
      let s = In-map_cases (place c m spots) y walk i in
      let none : s.source + 0 ≡ s.source = omega arith in
      let P : ℕ → Type 0 = λ v. slice_get spots v ≡ Some (spot c 0) in
      let at : slice_get spots s.source ≡ Some (spot c 0) = subst P none (class.whole s.source 0 s.among some) in
      elim (piece_cases c m (spot c 0)) [
        | first e p n ↦ ap (λ v. slice_get (flat_map (piece c m) spots) (v + o)) s.to ∙ at_place c m spots s.source o (spot c 0) at (omega arith) ∙ ap (λ v. slice_get v o) p ∙ fresh_part-at c m o less
        | gone class inner p n ↦ absurd (omega arith)
        | itself other p n ↦ absurd (other refl)
      ];
  found = λ k o at.
      let f = from_of c m spots k (spot c o) at in
      let less = f.less in
      let there = f.there in
      elim (piece_cases c m f.was) [
        | first e p n ↦
            let a = class.found f.number 0 (f.at ∙ ap Some e) in
            let a_there = a.there in
            let same : o ≡ f.inside = ap (λ (v : Spot). v.offset) (same_Some (spot c o) (spot c f.inside) (sym f.is ∙ ap (λ v. slice_get v f.inside) p ∙ fresh_part-at c m f.inside (omega arith))) in
            let start : a.start ≡ f.number = omega arith in
            let moved = ap (place c m spots) start in
            record { start = place c m spots a.start; among = In-map (place c m spots) a.start walk a.among; there = omega arith; inside = omega arith }
        | gone class' inner p n ↦ absurd (omega arith)
        | itself other p n ↦ absurd (other (itself_class c f.was f.inside (spot c o) (sym (ap (λ v. slice_get v f.inside) p) ∙ f.is)))
      ];
}

-- any other class
pub class_kept : (c m d l : ℕ) (walk : List ℕ) (spots : List Spot) → (d ≡ c → ⊥) → IsClass d l walk spots → IsClass d l (map (place c m spots) walk) (flat_map (piece c m) spots)
class_kept c m d l walk spots apart class = record {
  whole = λ y o i less.
      let s = In-map_cases (place c m spots) y walk i in
      let at = class.whole s.source o s.among less in
      let along = place_along c m spots d l s.source apart (λ p near. class.whole s.source p s.among near) o less in
      let to = s.to in
      let number : y + o ≡ place c m spots (s.source + o) + 0 = omega arith in
      elim (piece_cases c m (spot d o)) [
        | first e p n ↦ absurd (apart (ap (λ (v : Spot). v.class) e))
        | gone same some p n ↦ absurd (apart same)
        | itself other p n ↦ ap (λ v. slice_get (flat_map (piece c m) spots) v) number ∙ at_place c m spots (s.source + o) 0 (spot d o) at (omega arith) ∙ ap (λ v. slice_get v 0) p
      ];
  found = λ k o at.
      let f = from_of c m spots k (spot d o) at in
      let less = f.less in
      let there = f.there in
      elim (piece_cases c m f.was) [
        | first e p n ↦
            absurd (apart (ap (λ (v : Spot). v.class) (same_Some (spot d o) (spot c f.inside) (sym f.is ∙ ap (λ v. slice_get v f.inside) p ∙ fresh_part-at c m f.inside (omega arith)))))
        | gone class' inner p n ↦ absurd (omega arith)
        | itself other p n ↦
            let none : f.inside ≡ 0 = omega arith in
            let was : f.was ≡ spot d o = itself_is f.was f.inside (spot d o) (sym (ap (λ v. slice_get v f.inside) p) ∙ f.is) in
            let a = class.found f.number o (f.at ∙ ap Some was) in
            let a_there = a.there in
            let along = place_along c m spots d l a.start apart (λ p near. class.whole a.start p a.among near) o a.inside in
            let number = ap (place c m spots) a_there in
            record { start = place c m spots a.start; among = In-map (place c m spots) a.start walk a.among; there = omega arith; inside = a.inside }
      ];
}

-- no more characters past the first of their part than the growth
inner-regrown : (c m : ℕ) (spots : List Spot) → 0 < m → inner (flat_map (piece c m) spots) + length spots ≡ inner spots + length (flat_map (piece c m) spots)
inner-regrown c m [] some = refl
inner-regrown c m (s ∷ spots) some =
    let rest = inner-regrown c m spots some in
    let both = inner-append (piece c m s) (flat_map (piece c m) spots) in
    let long : length (piece c m s ++ flat_map (piece c m) spots) ≡ length (piece c m s) + length (flat_map (piece c m) spots) = length-append (piece c m s) (flat_map (piece c m) spots) in
    elim (piece_cases c m s) [
      | first e p n ↦
          let none : past_first s.offset ≡ 0 = ap (λ (v : Spot). past_first v.offset) e in
          omega (arith, ap inner p, ap length p, inner-fresh c m some, length-fresh_part c m)
      | gone class inner' p n ↦ omega (arith, ap inner p, ap length p, past_first-some s.offset inner')
      | itself other p n ↦ omega (arith, ap inner p, ap length p)
    ]

Distinct-map_in : (f : ℕ → ℕ) (xs : List ℕ) → Distinct xs → ((x y : ℕ) → In x xs → In y xs → f x ≡ f y → x ≡ y) → Distinct (map f xs)
Distinct-map_in f [] d same = tt
Distinct-map_in f (x ∷ xs) d same = (
  λ i.
      let s = In-map_cases f (f x) xs i in
      let e : x ≡ s.source = same x s.source (inl refl) (inr s.among) s.to in
      let P : ℕ → Type 0 = λ v. In v xs in
      d.0 (subst P (sym e) s.among),
  Distinct-map_in f xs d.1 (λ y z i j. same y z (inr i) (inr j)),
)

place_same : (c m : ℕ) (spots : List Spot) (i j d : ℕ) → 0 < m → slice_get spots i ≡ Some (spot d 0) → slice_get spots j ≡ Some (spot d 0) → place c m spots i ≡ place c m spots j → i ≡ j
place_same c m spots i j d some at_i at_j e = elim (cases_order i j) [
  | inl same ↦ same
  | inr other ↦ elim other [
    | inl less ↦ let apart = place_apart c m spots i j d d some less at_i at_j in absurd (omega arith)
    | inr more ↦ let apart = place_apart c m spots j i d d some more at_j at_i in absurd (omega arith)
  ]
]

pub walk-regrown : (c m : ℕ) (t : Labels) (d : ℕ) → walk_at (regrown c m t) d ≡ map (place c m t.spots) (walk_at t d)
unfolding regrown
walk-regrown c m t d = get_or-map_any (λ walk. map (place c m t.spots) walk) t.walks d []

pub IsTable-regrown : (c m : ℕ) (t : Labels) → 0 < m → c < length t.walks → IsTable t → IsTable (regrown c m t)
unfolding regrown
IsTable-regrown c m t some within table =
    let f : List ℕ → List ℕ = λ walk. map (place c m t.spots) walk in
    let many : length (map f t.walks) ≡ length t.walks = length-map t.walks f in
    let lengths_long : length (set t.lengths c m) ≡ length t.lengths = length-set t.lengths c m in
    let each = table.each in
    let own : get_or (set t.lengths c m) c 0 ≡ m = get_or-set_same t.lengths c m 0 (omega arith) in
    record {
      each = omega arith;
      some = λ d below. elim (cases_eq d c) [
        | inl e ↦ let same = ap (λ v. get_or (set t.lengths c m) v 0) e in omega arith
        | inr ne ↦ let same = get_or-set_other t.lengths c d m 0 ne in let s = table.some d (omega arith) in omega arith
      ];
      known = λ k r at.
          let g = from_of c m t.spots k r at in
          let was : g.was.class < length t.walks = table.known g.number g.was g.at in
          let less = g.less in
          elim (piece_cases c m g.was) [
            | first e p n ↦
                let is : r ≡ spot c g.inside = same_Some r (spot c g.inside) (sym g.is ∙ ap (λ v. slice_get v g.inside) p ∙ fresh_part-at c m g.inside (omega arith)) in
                let class : r.class ≡ c = ap (λ (v : Spot). v.class) is in omega arith
            | gone class inner' p n ↦ absurd (omega arith)
            | itself other p n ↦ let same : g.was.class ≡ r.class = itself_class c g.was g.inside r (sym (ap (λ v. slice_get v g.inside) p) ∙ g.is) in omega arith
          ];
      once = λ d below.
          let known : d < length t.walks = omega arith in
          let P : List ℕ → Type 0 = λ v. Distinct v in
          subst P (sym (walk-regrown c m t d)) (Distinct-map_in (place c m t.spots) (walk_at t d) (table.once d known)
          (λ x y i j e. place_same c m t.spots x y d some (member_at t d x table known i) (member_at t d y table known j) e));
      counted =
          let count = table.counted in
          let sum = inner-regrown c m t.spots some in
          omega arith;
      classes = λ d below.
          let known : d < length t.walks = omega arith in
          elim (cases_eq d c) [
            | inl e ↦ class_as d c _ m _ (map (place c m t.spots) (walk_at t c)) _ e (ap (λ v. get_or (set t.lengths c m) v 0) e ∙ own) (ap (λ v. walk_at (regrown c m t) v) e ∙ walk-regrown c m t c)
                (class_regrown c m (length_at t c) (walk_at t c) t.spots (table.some c within) (table.classes c within))
            | inr ne ↦ class_as d d _ (length_at t d) _ (map (place c m t.spots) (walk_at t d)) _ refl (get_or-set_other t.lengths c d m 0 ne) (walk-regrown c m t d)
                (class_kept c m d (length_at t d) (walk_at t d) t.spots ne (table.classes d known))
          ];
    }
