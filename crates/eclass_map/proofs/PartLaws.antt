-- The parts and classes of a table are those of the relation that its labels tell.
use Rattle.std.proofs.Common.{◌≡◌, ℕ, ◌+◌, ◌-◌, ◌<◌, ◌≤◌, true, cond, eqb, List, [], ◌∷◌, zero, suc, length, refl, ap, sym, ◌∙◌, inl, inr, arith, subst, Option, Some, None}
use Rattle.std.specs.Prelude.{slice_get, ◌&&◌}
use Rattle.std.specs.Option.{option_map, option_and_then}
use Rattle.std.proofs.lemmas.Option.{none-some, same_Some, slice_get_within, get_or_from_slice_get}
use Rattle.std.proofs.lemmas.Bool.{cases_Bool, cases_lt, cases_order, cond-true, cond-false, and_parts, and_from, eqb-true, eq-eqb}
use Rattle.cs_base.specs.declared.positions.Pos.{Pos}
use Rattle.cs_base.specs.declared.positions.Part.{Part}
use Rattle.cs_base.proofs.PlaceLemmas.{pos_is as same_pos}
use Rattle.std.proofs.lemmas.List.{get_or_past}
use Rattle.eclass_map.specs.declared.token_list.Added.{Added}
use Rattle.class_labels.specs.declared.spots.Spot.{Spot}
use Rattle.class_labels.specs.Labels.{Labels, spot, walk_at, length_at}
use Rattle.class_labels.specs.Table.{In, Distinct}
use Rattle.eclass_map.specs.Positions.{along, holds, index_at}
use Rattle.eclass_map.specs.ClassTable.{Table, label, IsPart, part_from, class_in, part_with, members_of, nowhere, IsHeld, IsAdded, HasParts}
use Rattle.eclass_map.specs.Kept.{IsKept}
use Rattle.class_labels.proofs.ListFacts.{was_at, now_at}
use Rattle.class_labels.proofs.LookFacts.{look_below}
use Rattle.class_labels.proofs.FieldFacts.{member_at}
use Rattle.class_labels.proofs.StepFacts.{starts_of}
use Rattle.class_labels.proofs.NextFacts.{In-slice_get}
use Rattle.eclass_map.proofs.LinkedFacts.{numbered, label_of, number_within}
use Rattle.eclass_map.proofs.TokenFacts.{holds_from, index_of_token, found_in, index_of_holder}
use Rattle.eclass_map.proofs.WholeFacts.{entry_of}
use Rattle.eclass_map.proofs.PartPlaces.{in_token, part_label, start_offset, start_begun, behind_label}

abbrev record_part : Pos → ℕ → Part
record_part p n = record { start = p; len = n }

-- the part that begins at a character labelled so
pub part_is : (t : Table) → IsKept t → (p : Pos) (c : ℕ) → label t p ≡ Some (spot c 0) → IsPart t (record { start = p; len = length_at t.labels c })
part_is t kept p c e =
    let n = numbered t p (spot c 0) e in
    let known = kept.table.known n.number (spot c 0) n.spot_at in
    record {
      start = start_begun t kept p c e;
      some = kept.table.some c known;
      goes_on = λ o some less.
          let l = part_label t kept p n.number c n.at n.spot_at o less in
          ((spot c o, l), λ start. let none : o ≡ 0 = start_offset t kept (along p o) (spot c o) start l in omega arith);
      ends = λ held.
          let none : held.0.offset ≡ 0 = behind_label t kept p n.number c held.0 n.at n.spot_at held.1 in
          let same : held.0 ≡ spot held.0.class 0 = λ i. record { class = held.0.class; offset = none i } in
          start_begun t kept (along p (length_at t.labels c)) held.0.class (held.1 ∙ ap Some same);
    }

-- the first character of the part of a character
pub part_first : (t : Table) → IsKept t → (p : Pos) (s : Spot) → label t p ≡ Some s → (s.offset ≤ p.at) × (label t (record { file = p.file; at = p.at - s.offset }) ≡ Some (spot s.class 0)) × (s.offset < length_at t.labels s.class)
part_first t kept p s e =
    let n = numbered t p s e in
    let w = in_token t kept p n.number s n.at n.spot_at in
    let known = kept.table.known n.number s n.spot_at in
    let class = kept.table.classes s.class known in
    let same : s ≡ spot s.class s.offset = λ i. record { class = s.class; offset = s.offset } in
    let a = class.found n.number s.offset (n.spot_at ∙ ap Some same) in
    let some : 1 ≤ length_at t.labels s.class = kept.table.some s.class known in
    let there = w.there in
    let offset = w.offset in
    let number = w.number in
    let inside = w.inside in
    let a_there = a.there in
    let d = w.depth - s.offset in
    let q : Pos = record { file = p.file; at = p.at - s.offset } in
    let position : along w.token.place.start d ≡ q = same_pos (along w.token.place.start d) q w.file (omega arith) in
    let P : Pos → Type 0 = λ z. index_at t.tokens z ≡ Some (w.token.first + d) in
    let own = subst P position (index_of_token t.tokens w.place w.token d kept.tokens w.at (omega arith)) in
    let place : a.start + 0 ≡ w.token.first + d = omega arith in
    (omega arith, label_of t q (w.token.first + d) own ∙ ap (λ z. slice_get t.labels.spots z) (sym place) ∙ class.whole a.start 0 a.among (omega arith), a.inside)

-- what a class number is told of
pub record ClassIn (t : Table) (part : Part) (c : ℕ) : Type 0 where
  pub at : label t part.start ≡ Some (spot c 0)
  pub len : length_at t.labels c ≡ part.len

class_cases : (labels : Labels) (n : ℕ) (o : Option Spot) (c : ℕ) → option_and_then (λ s. cond (eqb s.offset 0 && eqb (length_at labels s.class) n) (Some s.class) None) o ≡ Some c → (o ≡ Some (spot c 0)) × (length_at labels c ≡ n)
class_cases labels n None c e = absurd (none-some c e)
class_cases labels n (Some s) c e = elim (cases_Bool (eqb s.offset 0 && eqb (length_at labels s.class) n)) [
  | inl pass ↦
      let both = and_parts (eqb s.offset 0) (eqb (length_at labels s.class) n) pass in
      let class : s.class ≡ c = same_Some s.class c (sym (cond-true (eqb s.offset 0 && eqb (length_at labels s.class) n) (Some s.class) None pass) ∙ e) in
      let none = eqb-true s.offset 0 both.0 in
      (ap Some (λ i. record { class = class i; offset = none i }), ap (λ v. length_at labels v) (sym class) ∙ eqb-true (length_at labels s.class) n both.1)
  | inr fail ↦ absurd (none-some c (sym (cond-false (eqb s.offset 0 && eqb (length_at labels s.class) n) (Some s.class) None fail) ∙ e))
]

pub class_in_is : (t : Table) (part : Part) (c : ℕ) → class_in t part ≡ Some c → ClassIn t part c
class_in_is t part c e = let w = class_cases t.labels part.len (label t part.start) c e in record { at = w.0; len = w.1 }

pub class_in_from : (t : Table) (part : Part) (c : ℕ) → ClassIn t part c → class_in t part ≡ Some c
class_in_from t part c h =
    ap (λ o. option_and_then (λ s. cond (eqb s.offset 0 && eqb (length_at t.labels s.class) part.len) (Some s.class) None) o) h.at
    ∙ cond-true (eqb 0 0 && eqb (length_at t.labels c) part.len) (Some c) None (and_from (eqb 0 0) (eqb (length_at t.labels c) part.len) refl (eq-eqb (length_at t.labels c) part.len h.len))

pub In-place : (x : ℕ) (xs : List ℕ) → In x xs → (k : ℕ) × (slice_get xs k ≡ Some x)
In-place x [] i = absurd i
In-place x (y ∷ xs) i = elim i [ inl e ↦ (0, ap Some (sym e)) | inr j ↦ let k = In-place x xs j in (suc k.0, k.1) ]

distinct_place : (xs : List ℕ) (j k x : ℕ) → Distinct xs → slice_get xs j ≡ Some x → slice_get xs k ≡ Some x → j ≡ k
distinct_place [] j k x d at_j at_k = absurd (none-some x at_j)
distinct_place (y ∷ xs) zero zero x d at_j at_k = refl
distinct_place (y ∷ xs) zero (suc k) x d at_j at_k = let P : ℕ → Type 0 = λ v. In v xs in absurd (d.0 (subst P (sym (same_Some y x at_j)) (In-slice_get xs k x at_k)))
distinct_place (y ∷ xs) (suc j) zero x d at_j at_k = let P : ℕ → Type 0 = λ v. In v xs in absurd (d.0 (subst P (sym (same_Some y x at_k)) (In-slice_get xs j x at_j)))
distinct_place (y ∷ xs) (suc j) (suc k) x d at_j at_k = ap (λ v. suc v) (distinct_place xs j k x d.1 at_j at_k)

-- a member of a walk, by position
pub record MemberAt (t : Table) (c k : ℕ) (part : Part) : Type 0 where
  pub number : ℕ
  pub at : slice_get (walk_at t.labels c) k ≡ Some number
  pub position : slice_get t.places number ≡ Some part.start
  pub is : ClassIn t part c

pub walk_known : (t : Labels) (c k x : ℕ) → slice_get (walk_at t c) k ≡ Some x → c < length t.walks
walk_known t c k x at = elim (cases_lt c (length t.walks)) [
  | inl less ↦ less
  | inr most ↦
      let none : walk_at t c ≡ [] = get_or_past t.walks c [] most in
      absurd (none-some x (ap (λ v. slice_get v k) (sym none) ∙ at))
]

pub member_at_place : (t : Table) → IsKept t → (c k : ℕ) (part : Part) → slice_get (members_of t c) k ≡ Some part → MemberAt t c k part
member_at_place t kept c k part at =
    let w = was_at (part_with t c) (walk_at t.labels c) k part at in
    let known = walk_known t.labels c k w.was w.at in
    let there = member_at t.labels c w.was kept.table known (In-slice_get (walk_at t.labels c) k w.was w.at) in
    let within : w.was < length t.labels.spots = slice_get_within t.labels.spots w.was (spot c 0) there in
    let long = kept.long in
    let p = look_below t.places w.was (omega arith) in
    let start : p.0 ≡ part.start = sym (get_or_from_slice_get t.places w.was p.0 nowhere p.1) ∙ ap (λ (v : Part). v.start) w.is in
    let P : Pos → Type 0 = λ v. label t v ≡ Some (spot c 0) in
    record {
      number = w.was;
      at = w.at;
      position = p.1 ∙ ap Some start;
      is = record { at = subst P start (label_of t p.0 w.was (kept.numbered w.was p.0 p.1) ∙ there); len = ap (λ (v : Part). v.len) w.is };
    }

told_part : (t : Table) → IsKept t → (part : Part) (c : ℕ) → ClassIn t part c → IsPart t part
told_part t kept part c h =
    let P : Part → Type 0 = λ v. IsPart t v in
    let same : record_part part.start (length_at t.labels c) ≡ part = λ i. record { start = part.start; len = h.len i } in
    subst P same (part_is t kept part.start c h.at)

-- the class number of the part of a character
pub class_found : (t : Table) → IsKept t → (p : Pos) (s : Spot) (len : ℕ) → label t p ≡ Some s → length_at t.labels s.class ≡ len
    → class_in t (record { start = record { file = p.file; at = p.at - s.offset }; len = len }) ≡ Some s.class
class_found t kept p s len e same =
    let first = (part_first t kept p s e).1 in
    let long : eqb (length_at t.labels s.class) len ≡ true = eq-eqb (length_at t.labels s.class) len same in
    rw (first, long) refl

part_cases : (t : Table) → IsKept t → (p : Pos) (part : Part) (o : Option Spot) → label t p ≡ o → option_map (part_from t p) (label t p) ≡ Some part → IsPart t part × (holds part p ≡ true)
part_cases t kept p part None l e = absurd (none-some part (ap (λ v. option_map (part_from t p) v) (sym l) ∙ e))
part_cases t kept p part (Some s) l e =
    let is : part_from t p s ≡ part = same_Some (part_from t p s) part (ap (λ v. option_map (part_from t p) v) (sym l) ∙ e) in
    let f = part_first t kept p s l in
    let P : Part → Type 0 = λ v. IsPart t v × (holds v p ≡ true) in
    let from = f.0 in
    let less = f.2 in
    subst P is (
      part_is t kept (record { file = p.file; at = p.at - s.offset }) s.class f.1,
      holds_from (part_from t p s) p (record { file = refl; from = omega arith; less = omega arith }),
    )

-- a part runs just as far as the table says
each_part : (t : Table) → IsKept t → (part : Part) → IsPart t part → (c : ℕ) × (class_in t part ≡ Some c)
each_part t kept part is =
    let same = is.start.2 in
    let s = same.at in
    let none : s.offset ≡ 0 = start_offset t kept part.start s is.start same.first in
    let as_start : s ≡ spot s.class 0 = λ i. record { class = s.class; offset = none i } in
    let at : label t part.start ≡ Some (spot s.class 0) = same.first ∙ ap Some as_start in
    let own = part_is t kept part.start s.class at in
    let l = length_at t.labels s.class in
    let some : 0 < part.len = is.some in
    let own_some : 0 < l = own.some in
    let len : l ≡ part.len = elim (cases_order l part.len) [
      | inl e ↦ e
      | inr other ↦ elim other [
        | inl less ↦ let g = is.goes_on l own_some less in absurd (g.1 (own.ends g.0))
        | inr more ↦ let g = own.goes_on part.len some more in absurd (g.1 (is.ends g.0))
      ]
    ] in
    (s.class, class_in_from t part s.class (record { at = at; len = len }))

held_token : (t : Table) → IsKept t → (token : Part) (p : Pos) → IsAdded t token → holds token p ≡ true → IsHeld t p
held_token t kept token p added held =
    let e = entry_of t token added in
    let P : Part → Type 0 = λ v. holds v p ≡ true in
    let at = index_of_holder t.tokens e.index e.entry p kept.tokens e.at (subst P (sym e.is) held) in
    let s = look_below t.labels.spots (e.entry.first + (p.at - e.entry.place.start.at)) (number_within t kept p (e.entry.first + (p.at - e.entry.place.start.at)) at) in
    (s.0, label_of t p (e.entry.first + (p.at - e.entry.place.start.at)) at ∙ s.1)

lies_token : (t : Table) (p : Pos) → IsHeld t p → (token : Part) × IsAdded t token × (holds token p ≡ true)
lies_token t p held =
    let n = numbered t p held.0 held.1 in
    let f = found_in t.tokens p n.number n.at in
    (f.token.place, (f.place, now_at (λ (r : Added). r.place) t.tokens f.place f.token f.at), f.held)

pub has_parts : (t : Table) → IsKept t → HasParts t
has_parts t kept = record {
  held = held_token t kept;
  lies = lies_token t;
  parts = λ p part e. part_cases t kept p part (label t p) refl e;
  told = λ part c e. told_part t kept part c (class_in_is t part c e);
  each = λ part is. each_part t kept part is;
  spots = λ part c o e less.
      let g = class_in_is t part c e in
      let n = numbered t part.start (spot c 0) g.at in
      let len = g.len in
      part_label t kept part.start n.number c n.at n.spot_at o (omega arith);
  one_class = λ a b c e f.
      let g = class_in_is t a c e in
      let h = class_in_is t b c f in
      record { at = spot c 0; first = g.at; second = h.at };
  one_number = λ a b c d e f same.
      let g = class_in_is t a c e in
      let h = class_in_is t b d f in
      ap (λ (u : Spot). u.class) (same_Some (spot c 0) (spot d 0) (sym g.at ∙ same.first ∙ sym same.second ∙ h.at));
  walked = λ part c k at. class_in_from t part c (member_at_place t kept c k part at).is;
  member = λ part c e.
      let g = class_in_is t part c e in
      let n = numbered t part.start (spot c 0) g.at in
      let start = starts_of t.labels n.number c kept.table n.spot_at in
      let k = In-place n.number (walk_at t.labels c) start.among in
      let first = get_or_from_slice_get t.places n.number part.start nowhere (kept.placed part.start n.number n.at) in
      let same : part_with t c n.number ≡ part = λ i. record { start = first i; len = g.len i } in
      (k.0, now_at (part_with t c) (walk_at t.labels c) k.0 n.number k.1 ∙ ap Some same);
  once = λ part c j k at_j at_k.
      let g = member_at_place t kept c j part at_j in
      let h = member_at_place t kept c k part at_k in
      let same : g.number ≡ h.number = same_Some g.number h.number (sym (kept.numbered g.number part.start g.position) ∙ kept.numbered h.number part.start h.position) in
      let P : ℕ → Type 0 = λ v. slice_get (walk_at t.labels c) j ≡ Some v in
      distinct_place (walk_at t.labels c) j k h.number (kept.table.once c (walk_known t.labels c j g.number g.at)) (subst P same g.at) h.at;
}

-- where a part stands in the walk of its class, by number
pub member_index : (t : Table) → IsKept t → (part : Part) (c k i : ℕ) → slice_get (members_of t c) k ≡ Some part → index_at t.tokens part.start ≡ Some i → slice_get (walk_at t.labels c) k ≡ Some i
member_index t kept part c k i at index =
    let m = member_at_place t kept c k part at in
    m.at ∙ ap Some (same_Some m.number i (sym (kept.numbered m.number part.start m.position) ∙ index))

-- the class number of a part, by number
pub class_index : (t : Table) → IsKept t → (part : Part) (c i : ℕ) → class_in t part ≡ Some c → index_at t.tokens part.start ≡ Some i → slice_get t.labels.spots i ≡ Some (spot c 0)
class_index t kept part c i e index = sym (label_of t part.start i index) ∙ (class_in_is t part c e).at
