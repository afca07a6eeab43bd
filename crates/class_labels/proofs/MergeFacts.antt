-- What becomes of the labels where two classes of equally long parts become one.
use Rattle.std.proofs.Common.{◌≡◌, ℕ, ◌-◌, ◌<◌, ◌≤◌, ◌⊎◌, cond, ltb, eqb, length, refl, ap, sym, ◌∙◌, inl, inr, arith, subst, Some}
use Rattle.std.specs.Prelude.{slice_get}
use Rattle.std.proofs.lemmas.Option.{same_Some}
use Rattle.std.proofs.lemmas.Bool.{cases_eq, cases_lt, cond-true, cond-false, lt-ltb, le-ltb, eq-eqb, ne_eqb}
use Rattle.std.proofs.lemmas.List.{length-map}
use Rattle.cs_base.proofs.NumberLemmas.{minus_none as minus_zero}
use Rattle.class_labels.specs.declared.spots.Spot.{Spot}
use Rattle.class_labels.specs.Labels.{Labels, spot, moved, united, merged, moved_parts, walk_at, length_at}
use Rattle.class_labels.specs.Table.{IsTable, IsUnion}
use Rattle.class_labels.proofs.ListFacts.{was_at, now_at}
use Rattle.class_labels.proofs.MovedFacts.{moved_cases, moved_other, moved_there}
use Rattle.class_labels.proofs.UnionFacts.{IsTable-united, length-united}
use Rattle.class_labels.proofs.LookFacts.{map_grows}
use Rattle.class_labels.proofs.LevelFacts.{Grows}

-- why two characters that are labelled alike after two classes became one are so: they were, or they stood
-- at one offset in parts of the two
pub data Alike (t : Labels) (c d p q : ℕ) : Type 0 where
  before : slice_get t.spots p ≡ slice_get t.spots q → Alike t c d p q
  across : (o : ℕ) → slice_get t.spots p ≡ Some (spot c o) → slice_get t.spots q ≡ Some (spot d o) → Alike t c d p q
  across_back : (o : ℕ) → slice_get t.spots p ≡ Some (spot d o) → slice_get t.spots q ≡ Some (spot c o) → Alike t c d p q

pub record MergeLaws (c d : ℕ) (t u : Labels) : Type 0 where
  pub table : IsTable u
  pub as_many : length u.walks ≡ length t.walks
  pub lengths : u.lengths ≡ t.lengths
  pub as_long : length u.spots ≡ length t.spots
  pub grows : Grows t u
  pub back : (p q : ℕ) (s : Spot) → slice_get u.spots p ≡ Some s → slice_get u.spots q ≡ Some s → Alike t c d p q
  pub pairs : (p q o : ℕ) → slice_get t.spots p ≡ Some (spot c o) → slice_get t.spots q ≡ Some (spot d o) → slice_get u.spots p ≡ slice_get u.spots q
  -- offsets stay, and a character of either class lies in one of the two
  pub offsets : (p : ℕ) (s : Spot) → slice_get t.spots p ≡ Some s → (r : Spot) × (slice_get u.spots p ≡ Some r) × (r.offset ≡ s.offset)
  pub offsets_back : (p : ℕ) (r : Spot) → slice_get u.spots p ≡ Some r → (s : Spot) × (slice_get t.spots p ≡ Some s) × (s.offset ≡ r.offset)
  pub of_first : (p o : ℕ) (r : Spot) → slice_get t.spots p ≡ Some (spot c o) → slice_get u.spots p ≡ Some r → (r.class ≡ c) ⊎ (r.class ≡ d)

moved_whole : (a b : ℕ) (s : Spot) → (s.class ≡ b) × (moved b 0 a s ≡ spot a s.offset) ⊎ ((s.class ≡ b → ⊥) × (moved b 0 a s ≡ s))
moved_whole a b s = elim (moved_cases b 0 a s) [
  | inl g ↦ inl (g.of_class, g.to ∙ ap (λ v. spot a v) (minus_zero s.offset))
  | inr g ↦ inr (λ e. let none : s.offset < 0 = g.apart e in omega arith, g.kept)
]

moved_whole-offset : (a b : ℕ) (s : Spot) → (moved b 0 a s).offset ≡ s.offset
moved_whole-offset a b s = elim (moved_whole a b s) [ inl g ↦ ap (λ (u : Spot). u.offset) g.1 | inr g ↦ ap (λ (u : Spot). u.offset) g.1 ]

as_spot : (s : Spot) (c : ℕ) → s.class ≡ c → s ≡ spot c s.offset
as_spot s c e = λ i. record { class = e i; offset = s.offset }

-- two labels that a union makes alike
union_alike : (a b : ℕ) (t : Labels) (p q : ℕ) (s r : Spot) → slice_get t.spots p ≡ Some s → slice_get t.spots q ≡ Some r → moved b 0 a s ≡ moved b 0 a r → Alike t a b p q
union_alike a b t p q s r at_p at_q e =
    let offsets : s.offset ≡ r.offset = sym (moved_whole-offset a b s) ∙ ap (λ (u : Spot). u.offset) e ∙ moved_whole-offset a b r in
    elim (moved_whole a b s) [
      | inl g ↦ elim (moved_whole a b r) [
        | inl h ↦ before (at_p ∙ ap Some (λ i. record { class = (g.0 ∙ sym h.0) i; offset = offsets i }) ∙ sym at_q)
        | inr h ↦
            let other : r.class ≡ a = ap (λ (u : Spot). u.class) (sym h.1 ∙ sym e ∙ g.1) in
            across_back s.offset (at_p ∙ ap Some (as_spot s b g.0)) (at_q ∙ ap Some (as_spot r a other ∙ ap (λ v. spot a v) (sym offsets)))
      ]
      | inr g ↦ elim (moved_whole a b r) [
        | inl h ↦
            let other : s.class ≡ a = ap (λ (u : Spot). u.class) (sym g.1 ∙ e ∙ h.1) in
            across s.offset (at_p ∙ ap Some (as_spot s a other)) (at_q ∙ ap Some (as_spot r b h.0 ∙ ap (λ v. spot b v) (sym offsets)))
        | inr h ↦ before (at_p ∙ ap Some (sym g.1 ∙ e ∙ h.1) ∙ sym at_q)
      ]
    ]

pub union_laws : (a b : ℕ) (t : Labels) → IsUnion a b t → MergeLaws a b t (united a b t)
unfolding united
union_laws a b t h =
    let f = moved b 0 a in
    record {
      table = IsTable-united a b t h;
      as_many = length-united a b t;
      lengths = refl;
      as_long = length-map t.spots f;
      grows = λ p q e. map_grows f t.spots p q e;
      back = λ p q s at_p at_q.
          let w = was_at f t.spots p s at_p in
          let v = was_at f t.spots q s at_q in
          union_alike a b t p q w.was v.was w.at v.at (w.is ∙ sym v.is);
      pairs = λ p q o at_p at_q.
          now_at f t.spots p (spot a o) at_p ∙ ap Some (moved_other b 0 a a o h.apart ∙ sym (moved_there b 0 a o (omega arith) ∙ ap (λ v. spot a v) (minus_zero o)))
          ∙ sym (now_at f t.spots q (spot b o) at_q);
      offsets = λ p s at. (f s, now_at f t.spots p s at, moved_whole-offset a b s);
      offsets_back = λ p r at. let w = was_at f t.spots p r at in (w.was, w.at, sym (moved_whole-offset a b w.was) ∙ ap (λ (u : Spot). u.offset) w.is);
      of_first = λ p o r at now.
          let same : r ≡ spot a o = same_Some r (spot a o) (sym now ∙ now_at f t.spots p (spot a o) at ∙ ap Some (moved_other b 0 a a o h.apart)) in
          inl (ap (λ (u : Spot). u.class) same);
    }

-- the second class is the one that is kept
turned : (a b : ℕ) (t u : Labels) → IsUnion a b t → MergeLaws a b t u → u ≡ united a b t → MergeLaws b a t u
unfolding united
turned a b t u h laws is = record {
  table = laws.table;
  as_many = laws.as_many;
  lengths = laws.lengths;
  as_long = laws.as_long;
  grows = laws.grows;
  back = λ p q s at_p at_q. elim (laws.back p q s at_p at_q) [
    | before e ↦ before e
    | across o e f ↦ across_back o e f
    | across_back o e f ↦ across o e f
  ];
  pairs = λ p q o at_p at_q. sym (laws.pairs q p o at_q at_p);
  offsets = laws.offsets;
  offsets_back = laws.offsets_back;
  of_first = λ p o r at now.
      let f = moved b 0 a in
      let P : Labels → Type 0 = λ v. slice_get v.spots p ≡ Some r in
      let there : slice_get (united a b t).spots p ≡ Some r = subst P is now in
      let same : r ≡ spot a (o - 0) = same_Some r (spot a (o - 0)) (sym there ∙ now_at f t.spots p (spot b o) at ∙ ap Some (moved_there b 0 a o (omega arith))) in
      inr (ap (λ (u : Spot). u.class) same);
}

-- how the three cases of `merged` compute
pub data MergeCase (c d : ℕ) (t : Labels) : Type 0 where
  one : c ≡ d → merged c d t ≡ t → moved_parts c d t ≡ 0 → MergeCase c d t
  into_second : (c ≡ d → ⊥) → length (walk_at t c) < length (walk_at t d) → merged c d t ≡ united d c t → moved_parts c d t ≡ length (walk_at t c) → MergeCase c d t
  into_first : (c ≡ d → ⊥) → length (walk_at t d) ≤ length (walk_at t c) → merged c d t ≡ united c d t → moved_parts c d t ≡ length (walk_at t d) → MergeCase c d t

pub merge_cases : (c d : ℕ) (t : Labels) → MergeCase c d t
merge_cases c d t =
    let m = length (walk_at t c) in
    let n = length (walk_at t d) in
    let inside : Labels = cond (ltb m n) (united d c t) (united c d t) in
    let count : ℕ = cond (ltb m n) m n in
    elim (cases_eq c d) [
      | inl e ↦ one e (cond-true (eqb c d) t inside (eq-eqb c d e)) (cond-true (eqb c d) 0 count (eq-eqb c d e))
      | inr apart ↦
          let is : merged c d t ≡ inside = cond-false (eqb c d) t inside (ne_eqb c d apart) in
          let counts : moved_parts c d t ≡ count = cond-false (eqb c d) 0 count (ne_eqb c d apart) in
          elim (cases_lt m n) [
            | inl less ↦ into_second apart less (is ∙ cond-true (ltb m n) (united d c t) (united c d t) (lt-ltb m n less)) (counts ∙ cond-true (ltb m n) m n (lt-ltb m n less))
            | inr most ↦ into_first apart most (is ∙ cond-false (ltb m n) (united d c t) (united c d t) (le-ltb m n most)) (counts ∙ cond-false (ltb m n) m n (le-ltb m n most))
          ]
    ]

pub merge_laws : (c d : ℕ) (t : Labels) → IsTable t → c < length t.walks → d < length t.walks → length_at t c ≡ length_at t d → MergeLaws c d t (merged c d t)
merge_laws c d t table first second level =
    let P : Labels → Type 0 = λ v. MergeLaws c d t v in
    elim (merge_cases c d t) [
      | one e is count ↦ subst P (sym is) (record {
        table = table;
        as_many = refl;
        lengths = refl;
        as_long = refl;
        grows = λ p q f. f;
        back = λ p q s at_p at_q. before (at_p ∙ sym at_q);
        pairs = λ p q o at_p at_q. at_p ∙ ap (λ v. Some (spot v o)) e ∙ sym at_q;
        offsets = λ p s at. (s, at, refl);
        offsets_back = λ p r at. (r, at, refl);
        of_first = λ p o r at now. inl (ap (λ (u : Spot). u.class) (same_Some r (spot c o) (sym now ∙ at)));
      })
      | into_second apart less is count ↦
          let asked : IsUnion d c t = record { table = table; kept = second; lost = first; apart = λ e. apart (sym e); level = sym level } in
          subst P (sym is) (turned d c t (united d c t) asked (union_laws d c t asked) refl)
      | into_first apart most is count ↦
          let asked : IsUnion c d t = record { table = table; kept = first; lost = second; apart = apart; level = level } in
          subst P (sym is) (union_laws c d t asked)
    ]
