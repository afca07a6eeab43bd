-- A cut makes a table of a table.
use Rattle.std.proofs.Common.{◌≡◌, ℕ, ◌+◌, ◌-◌, ◌<◌, ◌≤◌, List, [], ◌∷◌, ◌++◌, zero, suc, length, map, get_or, set, refl, ap, sym, ◌∙◌, inl, inr, arith, subst, length-append, length-set, Some}
use Rattle.std.specs.Prelude.{slice_get}
use Rattle.std.proofs.lemmas.Option.{none-some, same_Some}
use Rattle.std.proofs.lemmas.Bool.{cases_eq}
use Rattle.std.proofs.lemmas.List.{length-map, get_or_append_left, get_or-set_same, get_or-set_other}
use Rattle.class_labels.specs.declared.spots.Spot.{Spot}
use Rattle.class_labels.specs.Labels.{Labels, spot, moved, cut, walk_at, length_at}
use Rattle.class_labels.specs.Table.{Distinct, IsClass, IsTable, IsCut, inner, past_first}
use Rattle.class_labels.proofs.ListFacts.{Distinct-map, In-get_or, was_at, get_or-append_last}
use Rattle.class_labels.proofs.MovedFacts.{moved_cases, moved_there}
use Rattle.class_labels.proofs.ClassFacts.{class_first_half, class_second_half, class_other, IsFresh}

pub past_first-le : (m n : ℕ) → m ≤ n → past_first m ≤ past_first n
past_first-le zero n h = omega arith
past_first-le (suc m) zero h = absurd (omega arith)
past_first-le (suc m) (suc n) h = omega arith

pub past_first-some : (n : ℕ) → 0 < n → past_first n ≡ 1
past_first-some zero h = absurd (omega arith)
past_first-some (suc n) h = refl

pub inner-map-le : (f : Spot → Spot) (spots : List Spot) → ((s : Spot) → past_first (f s).offset ≤ past_first s.offset) → inner (map f spots) ≤ inner spots
inner-map-le f [] h = omega arith
inner-map-le f (s ∷ spots) h = omega (arith, h s, inner-map-le f spots h)

pub inner-map-lt : (f : Spot → Spot) (spots : List Spot) (k : ℕ) (s : Spot) → ((s : Spot) → past_first (f s).offset ≤ past_first s.offset) → slice_get spots k ≡ Some s → past_first (f s).offset < past_first s.offset → inner (map f spots) < inner spots
inner-map-lt f [] k s h at less = absurd (none-some s at)
inner-map-lt f (r ∷ spots) zero s h at less =
    let e : r ≡ s = same_Some r s at in
    let P : Spot → Type 0 = λ u. past_first (f u).offset < past_first u.offset in
    let l : past_first (f r).offset < past_first r.offset = subst P (sym e) less in
    let rest : inner (map f spots) ≤ inner spots = inner-map-le f spots h in
    omega arith
inner-map-lt f (r ∷ spots) (suc k) s h at less =
    let l : past_first (f r).offset ≤ past_first r.offset = h r in
    let rest : inner (map f spots) < inner spots = inner-map-lt f spots k s h at less in
    omega arith

pub moved-past_first : (c k n : ℕ) (s : Spot) → past_first (moved c k n s).offset ≤ past_first s.offset
moved-past_first c k n s = elim (moved_cases c k n s) [
  | inl g ↦
      let P : Spot → Type 0 = λ u. past_first u.offset ≤ past_first s.offset in
      subst P (sym g.to) (past_first-le (s.offset - k) s.offset (omega arith))
  | inr g ↦
      let P : Spot → Type 0 = λ u. past_first u.offset ≤ past_first s.offset in
      subst P (sym g.kept) (omega arith)
]

-- a class of plain numbers, told as one whose numbers are equal to these
pub class_as : (d e l m : ℕ) (xs ys : List ℕ) (spots : List Spot) → d ≡ e → l ≡ m → xs ≡ ys → IsClass e m ys spots → IsClass d l xs spots
class_as d e l m xs ys spots p q r class =
    let P : ℕ → Type 0 = λ v. IsClass v m ys spots in
    let Q : ℕ → Type 0 = λ v. IsClass d v ys spots in
    let R : List ℕ → Type 0 = λ v. IsClass d l v spots in
    subst R (sym r) (subst Q (sym q) (subst P (sym p) class))

-- what stands at a number after a cut
pub data CutCase (c k : ℕ) (t : Labels) (d : ℕ) : Type 0 where
  fresh : d ≡ length t.walks → walk_at (cut c k t) d ≡ map (λ x. x + k) (walk_at t c) → length_at (cut c k t) d ≡ length_at t c - k → CutCase c k t d
  first : d ≡ c → walk_at (cut c k t) d ≡ walk_at t c → length_at (cut c k t) d ≡ k → CutCase c k t d
  other : d < length t.walks → (d ≡ c → ⊥) → walk_at (cut c k t) d ≡ walk_at t d → length_at (cut c k t) d ≡ length_at t d → CutCase c k t d

pub cut_cases : (c k : ℕ) (t : Labels) (d : ℕ) → length t.lengths ≡ length t.walks → c < length t.walks → d < length (cut c k t).walks → CutCase c k t d
unfolding cut
cut_cases c k t d each within below =
    let grown : length (t.walks ++ map (λ x. x + k) (walk_at t c) ∷ []) ≡ length t.walks + 1 = length-append t.walks (map (λ x. x + k) (walk_at t c) ∷ []) in
    let set_len : length (set t.lengths c k) ≡ length t.lengths = length-set t.lengths c k in
    elim (cases_eq d (length t.walks)) [
      | inl e ↦ fresh e
          (get_or-append_last t.walks (map (λ x. x + k) (walk_at t c)) [] d e)
          (get_or-append_last (set t.lengths c k) (length_at t c - k) 0 d (omega arith))
      | inr ne ↦
          let old : d < length t.walks = omega arith in
          let walk : walk_at (cut c k t) d ≡ walk_at t d = get_or_append_left t.walks (map (λ x. x + k) (walk_at t c) ∷ []) [] d old in
          let len : length_at (cut c k t) d ≡ get_or (set t.lengths c k) d 0 = get_or_append_left (set t.lengths c k) ((length_at t c - k) ∷ []) 0 d (omega arith) in
          elim (cases_eq d c) [
            | inl e ↦
                let P : ℕ → Type 0 = λ v. get_or (set t.lengths c k) v 0 ≡ k in
                first e (walk ∙ ap (λ v. walk_at t v) e) (len ∙ subst P (sym e) (get_or-set_same t.lengths c k 0 (omega arith)))
            | inr apart ↦ other old apart walk (len ∙ get_or-set_other t.lengths c d k 0 apart)
          ]
    ]

pub IsFresh-table : (t : Labels) → IsTable t → IsFresh (length t.walks) t.spots
IsFresh-table t table j s at e = let below : s.class < length t.walks = table.known j s at in omega arith

pub IsTable-cut : (c k : ℕ) (t : Labels) → IsCut c k t → IsTable (cut c k t)
unfolding cut
IsTable-cut c k t h =
    let n = length t.walks in
    let table = h.table in
    let l = length_at t c in
    let set_len : length (set t.lengths c k) ≡ length t.lengths = length-set t.lengths c k in
    let grown : length (t.walks ++ map (λ x. x + k) (walk_at t c) ∷ []) ≡ length t.walks + 1 = length-append t.walks (map (λ x. x + k) (walk_at t c) ∷ []) in
    let class = table.classes c h.within in
    let fresh_n = IsFresh-table t table in
    record {
      each =
          let both : length (set t.lengths c k ++ (l - k) ∷ []) ≡ length (set t.lengths c k) + 1 = length-append (set t.lengths c k) ((l - k) ∷ []) in
          let e = table.each in omega arith;
      some = λ d below. elim (cut_cases c k t d table.each h.within below) [
        | fresh e walk len ↦ let less = h.less in omega (arith, len)
        | first e walk len ↦ let some = h.some in omega (arith, len)
        | other old apart walk len ↦ let some = table.some d old in omega (arith, len)
      ];
      known = λ j s at. let w = was_at (moved c k n) t.spots j s at in
          let below : w.was.class < n = table.known j w.was w.at in
          elim (moved_cases c k n w.was) [
            | inl g ↦ let e : n ≡ s.class = ap (λ (u : Spot). u.class) (sym g.to ∙ w.is) in omega arith
            | inr g ↦ let e : w.was.class ≡ s.class = ap (λ (u : Spot). u.class) (sym g.kept ∙ w.is) in omega arith
          ];
      once = λ d below. let P : List ℕ → Type 0 = λ v. Distinct v in elim (cut_cases c k t d table.each h.within below) [
        | fresh e walk len ↦ subst P (sym walk) (Distinct-map (λ x. x + k) (λ x y f. omega arith) (walk_at t c) (table.once c h.within))
        | first e walk len ↦ subst P (sym walk) (table.once c h.within)
        | other old apart walk len ↦ subst P (sym walk) (table.once d old)
      ];
      counted =
          let x = get_or (walk_at t c) 0 0 in
          let at : slice_get t.spots (x + k) ≡ Some (spot c k) = class.whole x k (In-get_or (walk_at t c) 0 0 h.held) h.less in
          let to : moved c k n (spot c k) ≡ spot n (k - k) = moved_there c k n k (omega arith) in
          let P : Spot → Type 0 = λ u. past_first u.offset < past_first k in
          let Q : ℕ → Type 0 = λ v. past_first v < past_first k in
          let none : k - k ≡ 0 = omega arith in
          let one : 0 < past_first k = omega (arith, past_first-some k h.some) in
          let fewer : inner (map (moved c k n) t.spots) < inner t.spots =
          inner-map-lt (moved c k n) t.spots (x + k) (spot c k) (moved-past_first c k n) at (subst P (sym to) (subst Q (sym none) one)) in
          let count = table.counted in
          let as_long : length (map (moved c k n) t.spots) ≡ length t.spots = length-map t.spots (moved c k n) in
          omega arith;
      classes = λ d below. elim (cut_cases c k t d table.each h.within below) [
        | fresh e walk len ↦ class_as d n _ (l - k) _ (map (λ x. x + k) (walk_at t c)) _ e len walk (class_second_half c n k l (walk_at t c) t.spots fresh_n (let less = h.less in omega arith) class)
        | first e walk len ↦ class_as d c _ k _ (walk_at t c) _ e len walk (class_first_half c n k l (walk_at t c) t.spots (λ q. let w = h.within in omega arith) (let less = h.less in omega arith) class)
        | other old apart walk len ↦ class_as d d _ (length_at t d) _ (walk_at t d) _ refl len walk (class_other c k n d (length_at t d) (walk_at t d) t.spots apart (λ q. omega arith) (table.classes d old))
      ];
    }
