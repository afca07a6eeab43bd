-- A union makes a table of a table.
use Rattle.std.proofs.Common.{◌≡◌, ℕ, ◌+◌, ◌<◌, ◌≤◌, List, [], ◌++◌, length, map, get_or, set, refl, ap, sym, ◌∙◌, inl, inr, arith, subst, length-set, Some}
use Rattle.std.specs.Prelude.{slice_get}
use Rattle.std.proofs.lemmas.Option.{same_Some}
use Rattle.std.proofs.lemmas.Bool.{cases_eq}
use Rattle.std.proofs.lemmas.List.{length-map, get_or-set_same, get_or-set_other}
use Rattle.class_labels.specs.declared.spots.Spot.{Spot}
use Rattle.class_labels.specs.Labels.{Labels, spot, moved, united, walk_at, length_at}
use Rattle.class_labels.specs.Table.{Distinct, IsTable, IsUnion, inner}
use Rattle.class_labels.proofs.ListFacts.{Distinct-append, was_at}
use Rattle.class_labels.proofs.MovedFacts.{moved_cases}
use Rattle.class_labels.proofs.ClassFacts.{class_union, class_gone, class_other}
use Rattle.class_labels.proofs.CutFacts.{class_as, inner-map-le, moved-past_first}

-- what stands at a number after a union
pub data UnionCase (a b : ℕ) (t : Labels) (d : ℕ) : Type 0 where
  gone : d ≡ b → walk_at (united a b t) d ≡ [] → UnionCase a b t d
  grown : d ≡ a → walk_at (united a b t) d ≡ walk_at t a ++ walk_at t b → UnionCase a b t d
  other : (d ≡ a → ⊥) → (d ≡ b → ⊥) → walk_at (united a b t) d ≡ walk_at t d → UnionCase a b t d

pub union_cases : (a b : ℕ) (t : Labels) (d : ℕ) → (a ≡ b → ⊥) → a < length t.walks → b < length t.walks → UnionCase a b t d
unfolding united
union_cases a b t d apart kept lost =
    let joined = walk_at t a ++ walk_at t b in
    let once = set t.walks a joined in
    let as_long : length once ≡ length t.walks = length-set t.walks a joined in
    elim (cases_eq d b) [
      | inl e ↦ let P : ℕ → Type 0 = λ v. get_or (set once b []) v [] ≡ [] in gone e (subst P (sym e) (get_or-set_same once b [] [] (omega arith)))
      | inr not_b ↦
          let second : walk_at (united a b t) d ≡ get_or once d [] = get_or-set_other once b d [] [] not_b in
          elim (cases_eq d a) [
            | inl e ↦ let P : ℕ → Type 0 = λ v. get_or once v [] ≡ joined in grown e (second ∙ subst P (sym e) (get_or-set_same t.walks a joined [] kept))
            | inr not_a ↦ other not_a not_b (second ∙ get_or-set_other t.walks a d joined [] not_a)
          ]
    ]

pub length-united : (a b : ℕ) (t : Labels) → length (united a b t).walks ≡ length t.walks
unfolding united
length-united a b t = length-set (set t.walks a (walk_at t a ++ walk_at t b)) b [] ∙ length-set t.walks a (walk_at t a ++ walk_at t b)

pub IsTable-united : (a b : ℕ) (t : Labels) → IsUnion a b t → IsTable (united a b t)
unfolding united
IsTable-united a b t h =
    let table = h.table in
    let as_many : length (united a b t).walks ≡ length t.walks = length-united a b t in
    let kept = h.kept in
    let lost = h.lost in
    let first = table.classes a kept in
    let second' = table.classes b lost in
    let second = class_as b b (length_at t a) (length_at t b) (walk_at t b) (walk_at t b) t.spots refl h.level refl second' in
    record {
      each = table.each ∙ sym as_many;
      some = λ d below. table.some d (omega arith);
      known = λ j s at. let w = was_at (moved b 0 a) t.spots j s at in
          let below : w.was.class < length t.walks = table.known j w.was w.at in
          elim (moved_cases b 0 a w.was) [
            | inl g ↦ let e : a ≡ s.class = ap (λ (u : Spot). u.class) (sym g.to ∙ w.is) in omega arith
            | inr g ↦ let e : w.was.class ≡ s.class = ap (λ (u : Spot). u.class) (sym g.kept ∙ w.is) in omega arith
          ];
      once = λ d below. let P : List ℕ → Type 0 = λ v. Distinct v in elim (union_cases a b t d h.apart kept lost) [
        | gone e walk ↦ subst P (sym walk) tt
        | grown e walk ↦ subst P (sym walk) (Distinct-append (walk_at t a) (walk_at t b) (table.once a kept) (table.once b lost) (λ x i j.
            let one : slice_get t.spots (x + 0) ≡ Some (spot a 0) = first.whole x 0 i (table.some a kept) in
            let two : slice_get t.spots (x + 0) ≡ Some (spot b 0) = second'.whole x 0 j (table.some b lost) in
            h.apart (ap (λ (u : Spot). u.class) (same_Some (spot a 0) (spot b 0) (sym one ∙ two)))))
        | other not_a not_b walk ↦ subst P (sym walk) (table.once d (omega arith))
      ];
      counted =
          let fewer : inner (map (moved b 0 a) t.spots) ≤ inner t.spots = inner-map-le (moved b 0 a) t.spots (moved-past_first b 0 a) in
          let count = table.counted in
          let as_long : length (map (moved b 0 a) t.spots) ≡ length t.spots = length-map t.spots (moved b 0 a) in
          omega arith;
      classes = λ d below. elim (union_cases a b t d h.apart kept lost) [
        | gone e walk ↦ class_as d b _ (length_at t b) _ [] _ e (ap (λ v. length_at t v) e) walk (class_gone a b (length_at t b) t.spots h.apart)
        | grown e walk ↦ class_as d a _ (length_at t a) _ (walk_at t a ++ walk_at t b) _ e (ap (λ v. length_at t v) e) walk (class_union a b (length_at t a) (walk_at t a) (walk_at t b) t.spots h.apart first second)
        | other not_a not_b walk ↦ class_as d d _ (length_at t d) _ (walk_at t d) _ refl refl walk (class_other b 0 a d (length_at t d) (walk_at t d) t.spots not_b not_a (table.classes d (omega arith)))
      ];
    }
