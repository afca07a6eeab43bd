-- The new number of a character by how many parts of the class begin before it.
use Rattle.std.proofs.Common.{◌≡◌, ℕ, ◌+◌, ◌-◌, ◌*◌, ◌<◌, ◌≤◌, cond, eqb, List, zero, suc, length, refl, ap, sym, ◌∙◌, inl, inr, arith, subst, Option, Some, None}
use Rattle.std.specs.Prelude.{slice_get}
use Rattle.std.proofs.lemmas.Option.{none-some, same_Some, slice_get_within, slice_get_past}
use Rattle.std.proofs.lemmas.Bool.{cases_eq, cases_lt, cond-true, cond-false, eq-eqb, ne_eqb}
use Rattle.class_labels.specs.declared.spots.Spot.{Spot}
use Rattle.class_labels.specs.Labels.{Labels, spot, walk_at, length_at}
use Rattle.class_labels.specs.Table.{In, Distinct, IsClass, IsTable}
use Rattle.class_labels.specs.Regrown.{place}
use Rattle.class_labels.proofs.LookFacts.{look_below}
use Rattle.class_labels.proofs.PlaceFacts.{place_none}
use Rattle.class_labels.proofs.RegrownFacts.{piece_cases, first, gone, itself, place_next}
use Rattle.class_labels.proofs.TallyFacts.{tally, tally_none, tally_each, below, below_yes, below_no, below_skip, below_next, mul_next}

-- how many characters of a part of class c that has begun are still to come
abbrev pub to_come : ℕ → ℕ → Option Spot → ℕ
to_come c l None = 0
to_come c l (Some s) = cond (eqb s.class c) (cond (eqb s.offset 0) 0 (l - s.offset)) 0

data ComeCase (c l : ℕ) (o : Option Spot) : Type 0 where
  none_come : to_come c l o ≡ 0 → ((p : ℕ) → o ≡ Some (spot c p) → 0 < p → ⊥) → ComeCase c l o
  some_come : (p : ℕ) → o ≡ Some (spot c p) → 0 < p → to_come c l o ≡ l - p → ComeCase c l o

come_cases : (c l : ℕ) (o : Option Spot) → ComeCase c l o
come_cases c l None = none_come refl (λ p e some. none-some (spot c p) e)
come_cases c l (Some s) = elim (cases_eq s.class c) [
  | inr ne ↦ none_come (cond-false (eqb s.class c) (cond (eqb s.offset 0) 0 (l - s.offset)) 0 (ne_eqb s.class c ne)) (λ p e some. ne (ap (λ (v : Spot). v.class) (same_Some s (spot c p) e)))
  | inl class ↦
      let inside = cond-true (eqb s.class c) (cond (eqb s.offset 0) 0 (l - s.offset)) 0 (eq-eqb s.class c class) in
      elim (cases_eq s.offset 0) [
        | inl none ↦ none_come (inside ∙ cond-true (eqb s.offset 0) 0 (l - s.offset) (eq-eqb s.offset 0 none)) (λ p e some. let f : s.offset ≡ p = ap (λ (v : Spot). v.offset) (same_Some s (spot c p) e) in omega arith)
        | inr ne ↦ some_come s.offset (ap Some (λ i. record { class = class i; offset = s.offset })) (omega arith) (inside ∙ cond-false (eqb s.offset 0) 0 (l - s.offset) (ne_eqb s.offset 0 ne))
      ]
]

-- nothing is to come where a part begins, or past the last character
pub come_first : (c l d : ℕ) (o : Option Spot) → o ≡ Some (spot d 0) → to_come c l o ≡ 0
come_first c l d o e = elim (come_cases c l o) [
  | none_come z h ↦ z
  | some_come p f some z ↦ let g : 0 ≡ p = ap (λ (v : Spot). v.offset) (same_Some (spot d 0) (spot c p) (sym e ∙ f)) in absurd (omega arith)
]

-- what the spots of class c are
pub record ClassWalk (c l : ℕ) (walk : List ℕ) (spots : List Spot) : Type 0 where
  pub some : 0 < l
  pub class : IsClass c l walk spots
  pub once : Distinct walk

-- the character before one that is not the first of its part
before_inner : (c l : ℕ) (walk : List ℕ) (spots : List Spot) (i p : ℕ) → ClassWalk c l walk spots → slice_get spots (suc i) ≡ Some (spot c p) → 0 < p → (slice_get spots i ≡ Some (spot c (p - 1))) × (p < l)
before_inner c l walk spots i p h at some =
    let a = h.class.found (suc i) p at in
    let there = a.there in
    let less = a.inside in
    let P : ℕ → Type 0 = λ v. slice_get spots v ≡ Some (spot c (p - 1)) in
    let e : a.start + (p - 1) ≡ i = omega arith in
    (subst P e (h.class.whole a.start (p - 1) a.among (omega arith)), less)

-- the character after one that is not the last of its part
after_inner : (c l : ℕ) (walk : List ℕ) (spots : List Spot) (i p : ℕ) → ClassWalk c l walk spots → slice_get spots i ≡ Some (spot c p) → p + 1 < l → slice_get spots (suc i) ≡ Some (spot c (p + 1))
after_inner c l walk spots i p h at more =
    let a = h.class.found i p at in
    let there = a.there in
    let P : ℕ → Type 0 = λ v. slice_get spots v ≡ Some (spot c (p + 1)) in
    let e : a.start + (p + 1) ≡ suc i = omega arith in
    subst P e (h.class.whole a.start (p + 1) a.among more)

inner_less : (c l : ℕ) (walk : List ℕ) (spots : List Spot) (i p : ℕ) → ClassWalk c l walk spots → slice_get spots i ≡ Some (spot c p) → p < l
inner_less c l walk spots i p h at = (h.class.found i p at).inside

-- how many are to come behind a character of the class
come_next : (c l : ℕ) (walk : List ℕ) (spots : List Spot) (i p : ℕ) → ClassWalk c l walk spots → slice_get spots i ≡ Some (spot c p) → to_come c l (slice_get spots (suc i)) + 1 + p ≡ l
come_next c l walk spots i p h at =
    let less = inner_less c l walk spots i p h at in
    elim (come_cases c l (slice_get spots (suc i))) [
      | some_come q at' some z ↦
          let b = before_inner c l walk spots i q h at' some in
          let b_less = b.1 in
          let e : p ≡ q - 1 = ap (λ (v : Spot). v.offset) (same_Some (spot c p) (spot c (q - 1)) (sym at ∙ b.0)) in
          omega arith
      | none_come z none ↦ elim (cases_lt (p + 1) l) [
        | inl more ↦ absurd (none (p + 1) (after_inner c l walk spots i p h at more) (omega arith))
        | inr most ↦ omega arith
      ]
    ]

-- none behind a character of another class
come_other : (c l : ℕ) (walk : List ℕ) (spots : List Spot) (i : ℕ) (s : Spot) → ClassWalk c l walk spots → slice_get spots i ≡ Some s → (s.class ≡ c → ⊥) → to_come c l (slice_get spots (suc i)) ≡ 0
come_other c l walk spots i s h at other = elim (come_cases c l (slice_get spots (suc i))) [
  | some_come q at' some z ↦ absurd (other (ap (λ (v : Spot). v.class) (same_Some s (spot c (q - 1)) (sym at ∙ (before_inner c l walk spots i q h at' some).0))))
  | none_come z none ↦ z
]

in_walk : (c l : ℕ) (walk : List ℕ) (spots : List Spot) (i : ℕ) → ClassWalk c l walk spots → slice_get spots i ≡ Some (spot c 0) → In i walk
in_walk c l walk spots i h at =
    let a = h.class.found i 0 at in
    let there = a.there in
    let P : ℕ → Type 0 = λ v. In v walk in
    let e : a.start ≡ i = omega arith in
    subst P e a.among

walk_first : (c l : ℕ) (walk : List ℕ) (spots : List Spot) (i : ℕ) → ClassWalk c l walk spots → In i walk → slice_get spots i ≡ Some (spot c 0)
walk_first c l walk spots i h k =
    let P : ℕ → Type 0 = λ v. slice_get spots v ≡ Some (spot c 0) in
    let e : i + 0 ≡ i = omega arith in
    subst P e (h.class.whole i 0 k h.some)

come_start : (c l : ℕ) (walk : List ℕ) (spots : List Spot) → ClassWalk c l walk spots → to_come c l (slice_get spots 0) ≡ 0
come_start c l walk spots h = elim (come_cases c l (slice_get spots 0)) [
  | some_come p at some z ↦ let a = h.class.found 0 p at in let there = a.there in absurd (omega arith)
  | none_come z none ↦ z
]

pub place_count : (c m l : ℕ) (walk : List ℕ) (spots : List Spot) → ClassWalk c l walk spots → (i : ℕ) → i ≤ length spots
    → place c m spots i + tally (below i) walk * l ≡ i + to_come c l (slice_get spots i) + tally (below i) walk * m
place_count c m l walk spots h zero within =
    let none = tally_none (below 0) walk (λ x i. below_no 0 x (omega arith)) in
    let old : tally (below 0) walk * l ≡ 0 * l = ap (λ v. v * l) none in
    let new : tally (below 0) walk * m ≡ 0 * m = ap (λ v. v * m) none in
    omega (arith, place_none c m spots, come_start c l walk spots h)
place_count c m l walk spots h (suc i) within =
    let rest = place_count c m l walk spots h i (omega arith) in
    let look = look_below spots i (omega arith) in
    let s = look.0 in
    let at = look.1 in
    let next = place_next c m spots i s at in
    let old = mul_next (tally (below i) walk) l in
    let new = mul_next (tally (below i) walk) m in
    elim (piece_cases c m s) [
      | first e p n ↦
          let here : slice_get spots i ≡ Some (spot c 0) = at ∙ ap Some e in
          let count = below_next i walk h.once (in_walk c l walk spots i h here) in
          let old_count : tally (below (suc i)) walk * l ≡ suc (tally (below i) walk) * l = ap (λ v. v * l) count in
          let new_count : tally (below (suc i)) walk * m ≡ suc (tally (below i) walk) * m = ap (λ v. v * m) count in
          let come = come_next c l walk spots i 0 h here in
          let now = come_first c l c (slice_get spots i) here in
          omega arith
      | gone class inner p n ↦
          let here : slice_get spots i ≡ Some (spot c s.offset) = at ∙ ap Some (λ j. record { class = class j; offset = s.offset }) in
          let count = below_skip i walk (λ k. let e : s.offset ≡ 0 = ap (λ (v : Spot). v.offset) (same_Some s (spot c 0) (sym at ∙ walk_first c l walk spots i h k)) in omega arith) in
          let old_count : tally (below (suc i)) walk * l ≡ tally (below i) walk * l = ap (λ v. v * l) count in
          let new_count : tally (below (suc i)) walk * m ≡ tally (below i) walk * m = ap (λ v. v * m) count in
          let come = come_next c l walk spots i s.offset h here in
          elim (come_cases c l (slice_get spots i)) [
            | some_come q at' some z ↦ let e : s.offset ≡ q = ap (λ (v : Spot). v.offset) (same_Some s (spot c q) (sym at ∙ at')) in omega arith
            | none_come z none ↦ absurd (none s.offset here inner)
          ]
      | itself other p n ↦
          let count = below_skip i walk (λ k. other (ap (λ (v : Spot). v.class) (same_Some s (spot c 0) (sym at ∙ walk_first c l walk spots i h k)))) in
          let old_count : tally (below (suc i)) walk * l ≡ tally (below i) walk * l = ap (λ v. v * l) count in
          let new_count : tally (below (suc i)) walk * m ≡ tally (below i) walk * m = ap (λ v. v * m) count in
          let come = come_other c l walk spots i s h at other in
          elim (come_cases c l (slice_get spots i)) [
            | some_come q at' some z ↦ absurd (other (ap (λ (v : Spot). v.class) (same_Some s (spot c q) (sym at ∙ at'))))
            | none_come z none ↦ omega arith
          ]
    ]

pub class_walk : (t : Labels) (c : ℕ) → IsTable t → c < length t.walks → ClassWalk c (length_at t c) (walk_at t c) t.spots
class_walk t c table known = record { some = table.some c known; class = table.classes c known; once = table.once c known }

-- where a part begins
pub place_at : (t : Labels) (c m d x : ℕ) → IsTable t → c < length t.walks → slice_get t.spots x ≡ Some (spot d 0) → place c m t.spots x + tally (below x) (walk_at t c) * length_at t c ≡ x + tally (below x) (walk_at t c) * m
place_at t c m d x table known at =
    let within : x < length t.spots = slice_get_within t.spots x (spot d 0) at in
    let count = place_count c m (length_at t c) (walk_at t c) t.spots (class_walk t c table known) x (omega arith) in
    let come = come_first c (length_at t c) d (slice_get t.spots x) at in
    omega arith

-- and behind the last character
pub place_end : (t : Labels) (c m : ℕ) → IsTable t → c < length t.walks → place c m t.spots (length t.spots) + length (walk_at t c) * length_at t c ≡ length t.spots + length (walk_at t c) * m
place_end t c m table known =
    let h = class_walk t c table known in
    let n = length t.spots in
    let count = place_count c m (length_at t c) (walk_at t c) t.spots h n (omega arith) in
    let come : to_come c (length_at t c) (slice_get t.spots n) ≡ 0 = ap (to_come c (length_at t c)) (slice_get_past t.spots n (omega arith)) in
    let all = tally_each (below n) (walk_at t c) (λ x i. below_yes n x (slice_get_within t.spots x (spot c 0) (walk_first c (length_at t c) (walk_at t c) t.spots x h i))) in
    let old : tally (below n) (walk_at t c) * length_at t c ≡ length (walk_at t c) * length_at t c = ap (λ v. v * length_at t c) all in
    let new : tally (below n) (walk_at t c) * m ≡ length (walk_at t c) * m = ap (λ v. v * m) all in
    omega arith
