-- What one step of a join does to the labels.
use Rattle.std.proofs.Common.{◌≡◌, ℕ, ◌+◌, ◌-◌, ◌<◌, ◌≤◌, List, [], ◌∷◌, zero, suc, length, get_or, refl, ap, sym, ◌∙◌, inl, inr, arith, subst, Some}
use Rattle.std.specs.Prelude.{slice_get}
use Rattle.std.proofs.lemmas.Option.{same_Some}
use Rattle.class_labels.specs.declared.spots.Spot.{Spot}
use Rattle.class_labels.specs.Labels.{Labels, spot, step, merged, leveled, common, walk_at, length_at}
use Rattle.class_labels.specs.Table.{In, IsTable, AreClasses}
use Rattle.class_labels.proofs.LevelFacts.{Grows, level_laws}
use Rattle.class_labels.proofs.LevelFacts.BegunLevel.{before as was_before, in_first as level_first, in_second as level_second}
use Rattle.class_labels.proofs.MergeFacts.{merge_laws}
use Rattle.class_labels.proofs.MergeFacts.Alike.{before as alike_before, across as alike_across, across_back as alike_back}

-- a character that begins a part is in its class's walk
pub record Starts (t : Labels) (x c : ℕ) : Type 0 where
  pub known : c < length t.walks
  pub among : In x (walk_at t c)

pub starts_of : (t : Labels) (x c : ℕ) → IsTable t → slice_get t.spots x ≡ Some (spot c 0) → Starts t x c
starts_of t x c table at =
    let known : c < length t.walks = table.known x (spot c 0) at in
    let a = (table.classes c known).found x 0 at in
    let there : a.start ≡ x = let e = a.there in omega arith in
    let P : ℕ → Type 0 = λ v. In v (walk_at t c) in
    record { known = known; among = subst P there a.among }

pub held_from_In : (x : ℕ) (xs : List ℕ) → In x xs → 0 < length xs
held_from_In x [] h = absurd h
held_from_In x (y ∷ ys) h = omega arith

-- why two characters are labelled alike after a step
pub data AlikeNow (t : Labels) (x y l p q : ℕ) : Type 0 where
  before : slice_get t.spots p ≡ slice_get t.spots q → AlikeNow t x y l p q
  across : (o : ℕ) → o < l → slice_get t.spots p ≡ slice_get t.spots (x + o) → slice_get t.spots q ≡ slice_get t.spots (y + o) → AlikeNow t x y l p q
  across_back : (o : ℕ) → o < l → slice_get t.spots p ≡ slice_get t.spots (y + o) → slice_get t.spots q ≡ slice_get t.spots (x + o) → AlikeNow t x y l p q

-- why a character begins a part after a step
pub data BegunNow (t : Labels) (c d x y l p : ℕ) : Type 0 where
  before : (e : ℕ) → slice_get t.spots p ≡ Some (spot e 0) → BegunNow t c d x y l p
  in_first : l < length_at t c → slice_get t.spots p ≡ slice_get t.spots (x + l) → BegunNow t c d x y l p
  in_second : l < length_at t d → slice_get t.spots p ≡ slice_get t.spots (y + l) → BegunNow t c d x y l p

pub record PartNow (x l : ℕ) (u : Labels) : Type 0 where
  pub class : ℕ
  pub at : slice_get u.spots x ≡ Some (spot class 0)
  pub len : length_at u class ≡ l

pub record StepLaws (c d x y l : ℕ) (t u : Labels) : Type 0 where
  pub table : IsTable u
  pub as_long : length u.spots ≡ length t.spots
  pub grows : Grows t u
  pub pairs : (o : ℕ) → o < l → slice_get u.spots (x + o) ≡ slice_get u.spots (y + o)
  pub back : (p q : ℕ) (s : Spot) → slice_get u.spots p ≡ Some s → slice_get u.spots q ≡ Some s → AlikeNow t x y l p q
  pub begins : (p e : ℕ) → slice_get t.spots p ≡ Some (spot e 0) → (f : ℕ) × (slice_get u.spots p ≡ Some (spot f 0))
  pub begun : (p e : ℕ) → slice_get u.spots p ≡ Some (spot e 0) → BegunNow t c d x y l p
  pub first : PartNow x l u
  pub second : PartNow y l u
  pub some : 0 < l

add-none : (n : ℕ) → n + 0 ≡ n
add-none n = omega arith

pub are_classes : (c d x y : ℕ) (t : Labels) → IsTable t → slice_get t.spots x ≡ Some (spot c 0) → slice_get t.spots y ≡ Some (spot d 0) → AreClasses c d t
are_classes c d x y t table at_x at_y =
    let first = starts_of t x c table at_x in
    let second = starts_of t y d table at_y in
    record { table = table; first = first.known; second = second.known; first_held = held_from_In x (walk_at t c) first.among; second_held = held_from_In y (walk_at t d) second.among }

pub step_laws : (c d x y : ℕ) (t : Labels) → IsTable t → slice_get t.spots x ≡ Some (spot c 0) → slice_get t.spots y ≡ Some (spot d 0) → StepLaws c d x y (common t c d) t (step c d t)
unfolding step
step_laws c d x y t table at_x at_y =
    let l = common t c d in
    let u = leveled c d t in
    let w = merged c d u in
    let first = starts_of t x c table at_x in
    let second = starts_of t y d table at_y in
    let level = level_laws c d t (are_classes c d x y t table at_x at_y) in
    let more = level.more in
    let below_c : c < length u.walks = let k = first.known in omega arith in
    let below_d : d < length u.walks = let k = second.known in omega arith in
    let merge = merge_laws c d u level.table below_c below_d (level.first ∙ sym level.second) in
    let in_x : In x (walk_at u c) = let P : List ℕ → Type 0 = λ v. In x v in subst P (sym (level.walks c first.known)) first.among in
    let in_y : In y (walk_at u d) = let P : List ℕ → Type 0 = λ v. In y v in subst P (sym (level.walks d second.known)) second.among in
    let class_c = level.table.classes c below_c in
    let class_d = level.table.classes d below_d in
    let len_c : length_at u c ≡ l = level.first in
    let len_d : length_at u d ≡ l = level.second in
    let some : 0 < l = let s : 1 ≤ length_at u c = level.table.some c below_c in omega arith in
    let u_x : (o : ℕ) → o < l → slice_get u.spots (x + o) ≡ Some (spot c o) = λ o less. class_c.whole x o in_x (omega arith) in
    let u_y : (o : ℕ) → o < l → slice_get u.spots (y + o) ≡ Some (spot d o) = λ o less. class_d.whole y o in_y (omega arith) in
    let pairs : (o : ℕ) → o < l → slice_get w.spots (x + o) ≡ slice_get w.spots (y + o) = λ o less. merge.pairs (x + o) (y + o) o (u_x o less) (u_y o less) in
    let begins : (p e : ℕ) → slice_get t.spots p ≡ Some (spot e 0) → (f : ℕ) × (slice_get w.spots p ≡ Some (spot f 0)) = λ p e at.
    let m = merge.offsets p (spot e 0) (level.near p e 0 some at) in
    let same : m.0 ≡ spot m.0.class 0 = λ i. record { class = m.0.class; offset = m.2 i } in
    (m.0.class, m.1 ∙ ap Some same) in
    let now_x = begins x c at_x in
    let x_there : slice_get w.spots x ≡ slice_get w.spots y =
    let P : ℕ → ℕ → Type 0 = λ v z. slice_get w.spots v ≡ slice_get w.spots z in
    let e : slice_get w.spots (x + 0) ≡ slice_get w.spots (y + 0) = pairs 0 some in
    ap (λ v. slice_get w.spots v) (sym (add-none x)) ∙ e ∙ ap (λ v. slice_get w.spots v) (add-none y) in
    let u_x0 : slice_get u.spots x ≡ Some (spot c 0) = level.near x c 0 some at_x in
    let len_x : length_at w now_x.0 ≡ l = elim (merge.of_first x 0 (spot now_x.0 0) u_x0 now_x.1) [
      | inl e ↦ ap (λ v. length_at w v) e ∙ ap (λ v. get_or v c 0) merge.lengths ∙ len_c
      | inr e ↦ ap (λ v. length_at w v) e ∙ ap (λ v. get_or v d 0) merge.lengths ∙ len_d
    ] in
    record {
      table = merge.table;
      as_long = merge.as_long ∙ level.as_long;
      grows = λ p q e. merge.grows p q (level.grows p q e);
      pairs = pairs;
      back = λ p q s at_p at_q. elim (merge.back p q s at_p at_q) [
        | alike_before e ↦ before (level.back p q e)
        | alike_across o e f ↦
            let inside : o < length_at u c = (class_c.found p o e).inside in
            let less : o < l = omega arith in
            across o less (level.back p (x + o) (e ∙ sym (u_x o less))) (level.back q (y + o) (f ∙ sym (u_y o less)))
        | alike_back o e f ↦
            let inside : o < length_at u d = (class_d.found p o e).inside in
            let less : o < l = omega arith in
            across_back o less (level.back p (y + o) (e ∙ sym (u_y o less))) (level.back q (x + o) (f ∙ sym (u_x o less)))
      ];
      begins = begins;
      begun = λ p e at.
          let m = merge.offsets_back p (spot e 0) at in
          let same : m.0 ≡ spot m.0.class 0 = λ i. record { class = m.0.class; offset = m.2 i } in
          elim (level.begun p m.0.class (m.1 ∙ ap Some same)) [
            | was_before f was ↦ before f was
            | level_first less was ↦ in_first less (was ∙ sym ((table.classes c first.known).whole x l first.among less))
            | level_second less was ↦ in_second less (was ∙ sym ((table.classes d second.known).whole y l second.among less))
          ];
      first = record { class = now_x.0; at = now_x.1; len = len_x };
      second = record { class = now_x.0; at = sym x_there ∙ now_x.1; len = len_x };
      some = some;
    }

after_part_offset : (t : Labels) (x l f o : ℕ) → IsTable t → PartNow x l t → slice_get t.spots (x + l) ≡ Some (spot f o) → o ≡ 0
after_part_offset t x l f zero table part at = refl
after_part_offset t x l f (suc o) table part at =
    let start = starts_of t x part.class table part.at in
    let known : f < length t.walks = table.known (x + l) (spot f (suc o)) at in
    let class = table.classes part.class start.known in
    let some : 1 ≤ length_at t part.class = table.some part.class start.known in
    let len : length_at t part.class ≡ l = part.len in
    let other = table.classes f known in
    let a = other.found (x + l) (suc o) at in
    let there : a.start + suc o ≡ x + l = a.there in
    let inside : suc o < length_at t f = a.inside in
    let last : slice_get t.spots (x + (l - 1)) ≡ Some (spot part.class (l - 1)) = class.whole x (l - 1) start.among (omega arith) in
    let also : slice_get t.spots (a.start + o) ≡ Some (spot f o) = other.whole a.start o a.among (omega arith) in
    let place : a.start + o ≡ x + (l - 1) = omega arith in
    let P : ℕ → Type 0 = λ v. slice_get t.spots v ≡ Some (spot f o) in
    let same : spot part.class (l - 1) ≡ spot f o = same_Some (spot part.class (l - 1)) (spot f o) (sym last ∙ subst P place also) in
    let classes : part.class ≡ f = ap (λ (u : Spot). u.class) same in
    let offsets : l - 1 ≡ o = ap (λ (u : Spot). u.offset) same in
    let lengths : length_at t part.class ≡ length_at t f = ap (λ v. length_at t v) classes in
    absurd (omega arith)

-- what comes after a part begins one
pub after_part : (t : Labels) (x l : ℕ) (s : Spot) → IsTable t → PartNow x l t → slice_get t.spots (x + l) ≡ Some s → s ≡ spot s.class 0
after_part t x l s table part at =
    let none : s.offset ≡ 0 = after_part_offset t x l s.class s.offset table part at in
    λ i. record { class = s.class; offset = none i }

-- two classes made level still have parts, of one length
pub level_classes : (c d : ℕ) (t : Labels) → AreClasses c d t → AreClasses c d (leveled c d t)
level_classes c d t h =
    let level = level_laws c d t h in
    let more = level.more in
    let first = h.first in
    let second = h.second in
    record {
      table = level.table;
      first = omega arith;
      second = omega arith;
      first_held = let held = h.first_held in omega (arith, ap length (level.walks c first));
      second_held = let held = h.second_held in omega (arith, ap length (level.walks d second));
    }

pub level_even : (c d : ℕ) (t : Labels) → AreClasses c d t → length_at (leveled c d t) c ≡ length_at (leveled c d t) d
level_even c d t h = let level = level_laws c d t h in level.first ∙ sym level.second
