-- What a cut and a union make of one class.
use Rattle.std.proofs.Common.{◌≡◌, ℕ, ◌+◌, ◌-◌, ◌<◌, ◌≤◌, List, [], ◌++◌, map, ap, sym, ◌∙◌, inl, inr, arith, subst, Some}
use Rattle.std.specs.Prelude.{slice_get}
use Rattle.cs_base.proofs.NumberLemmas.{minus_none}
use Rattle.class_labels.specs.declared.spots.Spot.{Spot}
use Rattle.class_labels.specs.Labels.{spot, moved}
use Rattle.class_labels.specs.Table.{IsClass}
use Rattle.class_labels.proofs.ListFacts.{In-append_left, In-append_right, In-append_cases, In-map, In-map_cases, was_at, now_at}
use Rattle.class_labels.proofs.MovedFacts.{moved_cases, moved_there, moved_near, moved_other}

-- no character has the number
abbrev pub IsFresh : ℕ → List Spot → Type 0
IsFresh n spots = (k : ℕ) (s : Spot) → slice_get spots k ≡ Some s → s.class ≡ n → ⊥

class_of_same : (s : Spot) (c o : ℕ) → s ≡ spot c o → s.class ≡ c
class_of_same s c o e = ap (λ (u : Spot). u.class) e

offset_of_same : (s : Spot) (c o : ℕ) → s ≡ spot c o → s.offset ≡ o
offset_of_same s c o e = ap (λ (u : Spot). u.offset) e

at_same : (spots : List Spot) (k : ℕ) (s t : Spot) → slice_get spots k ≡ Some s → s ≡ t → slice_get spots k ≡ Some t
at_same spots k s t h e = h ∙ ap Some e

-- the first halves
pub class_first_half : (c n k l : ℕ) (xs : List ℕ) (spots : List Spot) → (c ≡ n → ⊥) → k ≤ l → IsClass c l xs spots → IsClass c k xs (map (moved c k n) spots)
class_first_half c n k l xs spots apart within class = record {
  whole = λ x o i near. now_at (moved c k n) spots (x + o) (spot c o) (class.whole x o i (omega arith)) ∙ ap Some (moved_near c k n o near);
  found = λ j o at. let w = was_at (moved c k n) spots j (spot c o) at in elim (moved_cases c k n w.was) [
    | inl g ↦ absurd (apart (class_of_same (spot c o) n (w.was.offset - k) (sym w.is ∙ g.to)))
    | inr s ↦
        let same : w.was ≡ spot c o = sym s.kept ∙ w.is in
        let near = s.apart (class_of_same w.was c o same) in
        let offset = offset_of_same w.was c o same in
        let a = class.found j o (at_same spots j w.was (spot c o) w.at same) in
        record { start = a.start; among = a.among; there = a.there; inside = omega arith }
  ];
}

-- the second halves
pub class_second_half : (c n k l : ℕ) (xs : List ℕ) (spots : List Spot) → IsFresh n spots → k ≤ l → IsClass c l xs spots → IsClass n (l - k) (map (λ x. x + k) xs) (map (moved c k n) spots)
class_second_half c n k l xs spots fresh within class = record {
  whole = λ y o i near.
      let s = In-map_cases (λ x. x + k) y xs i in
      let there : s.source + (k + o) ≡ y + o = let to = s.to in omega arith in
      let P : ℕ → Type 0 = λ z. slice_get spots z ≡ Some (spot c (k + o)) in
      let was : slice_get spots (y + o) ≡ Some (spot c (k + o)) = subst P there (class.whole s.source (k + o) s.among (omega arith)) in
      let less : (k + o) - k ≡ o = omega arith in
      now_at (moved c k n) spots (y + o) (spot c (k + o)) was ∙ ap Some (moved_there c k n (k + o) (omega arith) ∙ ap (λ v. spot n v) less);
  found = λ j o at. let w = was_at (moved c k n) spots j (spot n o) at in elim (moved_cases c k n w.was) [
    | inl g ↦
        let offset : w.was.offset - k ≡ o = offset_of_same (spot n (w.was.offset - k)) n o (sym g.to ∙ w.is) in
        let far = g.far in
        let same : w.was ≡ spot c w.was.offset = λ i. record { class = g.of_class i; offset = w.was.offset } in
        let a = class.found j w.was.offset (at_same spots j w.was (spot c w.was.offset) w.at same) in
        let there = a.there in
        let inside = a.inside in
        record { start = a.start + k; among = In-map (λ x. x + k) a.start xs a.among; there = omega arith; inside = omega arith }
    | inr s ↦ absurd (fresh j w.was w.at (class_of_same w.was n o (sym s.kept ∙ w.is)))
  ];
}

-- a class that no label leaves and none comes to
pub class_other : (c k n d l : ℕ) (xs : List ℕ) (spots : List Spot) → (d ≡ c → ⊥) → (d ≡ n → ⊥) → IsClass d l xs spots → IsClass d l xs (map (moved c k n) spots)
class_other c k n d l xs spots apart_c apart_n class = record {
  whole = λ x o i near. now_at (moved c k n) spots (x + o) (spot d o) (class.whole x o i near) ∙ ap Some (moved_other c k n d o apart_c);
  found = λ j o at. let w = was_at (moved c k n) spots j (spot d o) at in elim (moved_cases c k n w.was) [
    | inl g ↦ absurd (apart_n (class_of_same (spot d o) n (w.was.offset - k) (sym w.is ∙ g.to)))
    | inr s ↦ class.found j o (at_same spots j w.was (spot d o) w.at (sym s.kept ∙ w.is))
  ];
}

minus_zero : (p o : ℕ) → p - 0 ≡ o → p ≡ o
minus_zero p o e = omega arith

-- the class to which the parts of b go over
pub class_union : (a b l : ℕ) (xs ys : List ℕ) (spots : List Spot) → (a ≡ b → ⊥) → IsClass a l xs spots → IsClass b l ys spots → IsClass a l (xs ++ ys) (map (moved b 0 a) spots)
class_union a b l xs ys spots apart first second = record {
  whole = λ x o i near. elim (In-append_cases x xs ys i) [
    | inl j ↦ now_at (moved b 0 a) spots (x + o) (spot a o) (first.whole x o j near) ∙ ap Some (moved_other b 0 a a o apart)
    | inr j ↦ now_at (moved b 0 a) spots (x + o) (spot b o) (second.whole x o j near) ∙ ap Some (moved_there b 0 a o (omega arith) ∙ ap (λ v. spot a v) (minus_none o))
  ];
  found = λ j o at. let w = was_at (moved b 0 a) spots j (spot a o) at in elim (moved_cases b 0 a w.was) [
    | inl g ↦
        let offset : w.was.offset - 0 ≡ o = offset_of_same (spot a (w.was.offset - 0)) a o (sym g.to ∙ w.is) in
        let same : w.was ≡ spot b o = λ i. record { class = g.of_class i; offset = minus_zero w.was.offset o offset i } in
        let m = second.found j o (at_same spots j w.was (spot b o) w.at same) in
        record { start = m.start; among = In-append_right m.start xs ys m.among; there = m.there; inside = m.inside }
    | inr s ↦
        let m = first.found j o (at_same spots j w.was (spot a o) w.at (sym s.kept ∙ w.is)) in
        record { start = m.start; among = In-append_left m.start xs ys m.among; there = m.there; inside = m.inside }
  ];
}

-- the number that is given up
pub class_gone : (a b l : ℕ) (spots : List Spot) → (a ≡ b → ⊥) → IsClass b l [] (map (moved b 0 a) spots)
class_gone a b l spots apart = record {
  whole = λ x o i near. absurd i;
  found = λ j o at. let w = was_at (moved b 0 a) spots j (spot b o) at in elim (moved_cases b 0 a w.was) [
    | inl g ↦ absurd (apart (sym (class_of_same (spot b o) a (w.was.offset - 0) (sym w.is ∙ g.to))))
    | inr s ↦ let near : w.was.offset < 0 = s.apart (class_of_same w.was b o (sym s.kept ∙ w.is)) in absurd (omega arith)
  ];
}
