-- What becomes of the labels where the parts of two classes are made equally long.
use Rattle.std.proofs.Common.{◌≡◌, ℕ, ◌+◌, ◌-◌, ◌<◌, ◌≤◌, ◌⊎◌, [], ◌∷◌, cond, ltb, length, map, refl, ap, sym, ◌∙◌, inl, inr, arith, subst, length-append, Some}
use Rattle.std.specs.Prelude.{slice_get}
use Rattle.std.proofs.lemmas.Bool.{cases_lt, cond-true, cond-false, lt-ltb, le-ltb}
use Rattle.std.proofs.lemmas.List.{length-map}
use Rattle.class_labels.specs.declared.spots.Spot.{Spot}
use Rattle.class_labels.specs.Labels.{Labels, spot, moved, cut, leveled, common, walk_at, length_at}
use Rattle.class_labels.specs.Table.{IsTable, IsCut, AreClasses}
use Rattle.class_labels.proofs.ListFacts.{was_at, now_at}
use Rattle.class_labels.proofs.MovedFacts.{moved_cases, moved_apart, moved_other}
use Rattle.class_labels.proofs.CutFacts.{IsTable-cut, IsFresh-table, cut_cases}
use Rattle.class_labels.proofs.CutFacts.CutCase.{fresh, first, other}
use Rattle.class_labels.proofs.LookFacts.{map_grows, map_back}

-- equal labels stay equal
abbrev pub Grows : Labels → Labels → Type 0
Grows t u = (p q : ℕ) → slice_get t.spots p ≡ slice_get t.spots q → slice_get u.spots p ≡ slice_get u.spots q

-- a character that begins a part, and may not have begun one: where it was
pub data Begun (t : Labels) (c k p : ℕ) : Type 0 where
  before : (e : ℕ) → slice_get t.spots p ≡ Some (spot e 0) → Begun t c k p
  newly : slice_get t.spots p ≡ Some (spot c k) → Begun t c k p

-- a cut of class c at k, as its callers see it
pub record CutLaws (c k : ℕ) (t u : Labels) : Type 0 where
  pub table : IsTable u
  pub more : length u.walks ≡ length t.walks + 1
  pub first : length_at u c ≡ k
  pub others : (d : ℕ) → d < length t.walks → (d ≡ c → ⊥) → length_at u d ≡ length_at t d
  pub walks : (d : ℕ) → d < length t.walks → walk_at u d ≡ walk_at t d
  pub as_long : length u.spots ≡ length t.spots
  pub grows : Grows t u
  pub back : Grows u t
  pub near : (p e o : ℕ) → o < k → slice_get t.spots p ≡ Some (spot e o) → slice_get u.spots p ≡ Some (spot e o)
  pub elsewhere : (p e o : ℕ) → (e ≡ c → ⊥) → slice_get t.spots p ≡ Some (spot e o) → slice_get u.spots p ≡ Some (spot e o)
  pub begun : (p e : ℕ) → slice_get u.spots p ≡ Some (spot e 0) → Begun t c k p

moved_small : (c k n e o : ℕ) → o < k → moved c k n (spot e o) ≡ spot e o
moved_small c k n e o h = elim (moved_cases c k n (spot e o)) [
  | inl g ↦ let far : k ≤ o = g.far in absurd (omega arith)
  | inr g ↦ g.kept
]

pub cut_laws : (c k : ℕ) (t : Labels) → IsCut c k t → CutLaws c k t (cut c k t)
unfolding cut
cut_laws c k t h =
    let n = length t.walks in
    let table = h.table in
    let fresh_n = IsFresh-table t table in
    let more : length (cut c k t).walks ≡ n + 1 = length-append t.walks (map (λ x. x + k) (walk_at t c) ∷ []) in
    record {
      table = IsTable-cut c k t h;
      more = more;
      first = elim (cut_cases c k t c table.each h.within (let w = h.within in omega arith)) [
        | fresh e walk len ↦ absurd (let w = h.within in omega arith)
        | first e walk len ↦ len
        | other old apart walk len ↦ absurd (apart refl)
      ];
      others = λ d below apart. elim (cut_cases c k t d table.each h.within (omega arith)) [
        | fresh e walk len ↦ absurd (omega arith)
        | first e walk len ↦ absurd (apart e)
        | other old _ walk len ↦ len
      ];
      walks = λ d below. elim (cut_cases c k t d table.each h.within (omega arith)) [
        | fresh e walk len ↦ absurd (omega arith)
        | first e walk len ↦ walk ∙ ap (λ v. walk_at t v) (sym e)
        | other old _ walk len ↦ walk
      ];
      as_long = length-map t.spots (moved c k n);
      grows = λ p q e. map_grows (moved c k n) t.spots p q e;
      back = λ p q e. map_back (moved c k n) t.spots p q (λ i j x y at_i at_j same. moved_apart c k n x y (fresh_n i x at_i) (fresh_n j y at_j) same) e;
      near = λ p e o less at. now_at (moved c k n) t.spots p (spot e o) at ∙ ap Some (moved_small c k n e o less);
      elsewhere = λ p e o apart at. now_at (moved c k n) t.spots p (spot e o) at ∙ ap Some (moved_other c k n e o apart);
      begun = λ p e at. let w = was_at (moved c k n) t.spots p (spot e 0) at in elim (moved_cases c k n w.was) [
        | inl g ↦
            let left : w.was.offset - k ≡ 0 = ap (λ (u : Spot). u.offset) (sym g.to ∙ w.is) in
            let far = g.far in
            let there : w.was.offset ≡ k = omega arith in
            let same : w.was ≡ spot c k = λ i. record { class = g.of_class i; offset = there i } in
            newly (w.at ∙ ap Some same)
        | inr g ↦ before e (w.at ∙ ap Some (sym g.kept ∙ w.is))
      ];
    }

-- a character that begins a part after two classes were made level
pub data BegunLevel (t : Labels) (c d l p : ℕ) : Type 0 where
  before : (e : ℕ) → slice_get t.spots p ≡ Some (spot e 0) → BegunLevel t c d l p
  in_first : l < length_at t c → slice_get t.spots p ≡ Some (spot c l) → BegunLevel t c d l p
  in_second : l < length_at t d → slice_get t.spots p ≡ Some (spot d l) → BegunLevel t c d l p

pub record LevelLaws (c d l : ℕ) (t u : Labels) : Type 0 where
  pub table : IsTable u
  pub first : length_at u c ≡ l
  pub second : length_at u d ≡ l
  pub more : length t.walks ≤ length u.walks
  pub walks : (e : ℕ) → e < length t.walks → walk_at u e ≡ walk_at t e
  pub as_long : length u.spots ≡ length t.spots
  pub grows : Grows t u
  pub back : Grows u t
  pub near : (p e o : ℕ) → o < l → slice_get t.spots p ≡ Some (spot e o) → slice_get u.spots p ≡ Some (spot e o)
  pub begun : (p e : ℕ) → slice_get u.spots p ≡ Some (spot e 0) → BegunLevel t c d l p

-- how the three cases of `leveled` and `common` compute
pub data LevelCase (c d : ℕ) (t : Labels) : Type 0 where
  second_longer : length_at t c < length_at t d → leveled c d t ≡ cut d (length_at t c) t → common t c d ≡ length_at t c → LevelCase c d t
  first_longer : length_at t d < length_at t c → leveled c d t ≡ cut c (length_at t d) t → common t c d ≡ length_at t d → LevelCase c d t
  level : length_at t c ≡ length_at t d → leveled c d t ≡ t → common t c d ≡ length_at t d → LevelCase c d t

pub level_cases : (c d : ℕ) (t : Labels) → LevelCase c d t
level_cases c d t =
    let m = length_at t c in
    let n = length_at t d in
    let inside : Labels = cond (ltb n m) (cut c n t) t in
    elim (cases_lt m n) [
      | inl less ↦ second_longer less (cond-true (ltb m n) (cut d m t) inside (lt-ltb m n less)) (cond-true (ltb m n) m n (lt-ltb m n less))
      | inr most ↦
          let outer : leveled c d t ≡ inside = cond-false (ltb m n) (cut d m t) inside (le-ltb m n most) in
          let len : common t c d ≡ n = cond-false (ltb m n) m n (le-ltb m n most) in
          elim (cases_lt n m) [
            | inl less ↦ first_longer less (outer ∙ cond-true (ltb n m) (cut c n t) t (lt-ltb n m less)) len
            | inr least ↦ level (omega arith) (outer ∙ cond-false (ltb n m) (cut c n t) t (le-ltb n m least)) len
          ]
    ]

level_as : (c d l m : ℕ) (t u w : Labels) → u ≡ w → l ≡ m → LevelLaws c d m t w → LevelLaws c d l t u
level_as c d l m t u w e f laws =
    let P : Labels → Type 0 = λ v. LevelLaws c d m t v in
    let Q : ℕ → Type 0 = λ v. LevelLaws c d v t u in
    subst Q (sym f) (subst P (sym e) laws)

pub level_laws : (c d : ℕ) (t : Labels) → AreClasses c d t → LevelLaws c d (common t c d) t (leveled c d t)
level_laws c d t h = elim (level_cases c d t) [
  | second_longer less is len ↦
      let m = length_at t c in
      let apart : c ≡ d → ⊥ = λ e. let same : length_at t c ≡ length_at t d = ap (λ v. length_at t v) e in omega arith in
      let asked : IsCut d m t = record { table = h.table; within = h.second; some = h.table.some c h.first; less = less; held = h.second_held } in
      let laws = cut_laws d m t asked in
      level_as c d (common t c d) m t (leveled c d t) (cut d m t) is len (record {
        table = laws.table;
        first = laws.others c h.first apart;
        second = laws.first;
        more = let more = laws.more in omega arith;
        walks = laws.walks;
        as_long = laws.as_long;
        grows = laws.grows;
        back = laws.back;
        near = laws.near;
        begun = λ p e at. elim (laws.begun p e at) [ before f was ↦ before f was | newly was ↦ in_second less was ];
      })
  | first_longer less is len ↦
      let n = length_at t d in
      let apart : d ≡ c → ⊥ = λ e. let same : length_at t d ≡ length_at t c = ap (λ v. length_at t v) e in omega arith in
      let asked : IsCut c n t = record { table = h.table; within = h.first; some = h.table.some d h.second; less = less; held = h.first_held } in
      let laws = cut_laws c n t asked in
      level_as c d (common t c d) n t (leveled c d t) (cut c n t) is len (record {
        table = laws.table;
        first = laws.first;
        second = laws.others d h.second apart;
        more = let more = laws.more in omega arith;
        walks = laws.walks;
        as_long = laws.as_long;
        grows = laws.grows;
        back = laws.back;
        near = laws.near;
        begun = λ p e at. elim (laws.begun p e at) [ before f was ↦ before f was | newly was ↦ in_first less was ];
      })
  | level same is len ↦
      level_as c d (common t c d) (length_at t d) t (leveled c d t) t is len (record {
        table = h.table;
        first = same;
        second = refl;
        more = omega arith;
        walks = λ e below. refl;
        as_long = refl;
        grows = λ p q e. e;
        back = λ p q e. e;
        near = λ p e o less at. at;
        begun = λ p e at. before e at;
      })
]

-- the common length is that of one class, and at most that of each
pub record CommonFacts (c d : ℕ) (t : Labels) : Type 0 where
  pub in_first : common t c d ≤ length_at t c
  pub in_second : common t c d ≤ length_at t d
  pub is : (common t c d ≡ length_at t c) ⊎ (common t c d ≡ length_at t d)

pub common_facts : (c d : ℕ) (t : Labels) → CommonFacts c d t
common_facts c d t = elim (level_cases c d t) [
  | second_longer less is len ↦ record { in_first = omega (arith, len); in_second = omega (arith, len); is = inl len }
  | first_longer less is len ↦ record { in_first = omega (arith, len); in_second = omega (arith, len); is = inr len }
  | level same is len ↦ record { in_first = omega (arith, len, same); in_second = omega (arith, len); is = inr len }
]
