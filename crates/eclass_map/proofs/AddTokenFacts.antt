-- A table of classes with one token more.
use Rattle.std.proofs.Common.{◌≡◌, ℕ, ◌+◌, ◌-◌, ◌<◌, ◌≤◌, ◌^◌, ◌⊎◌, true, false, eqb, ltb, leb, ◌++◌, length, refl, ap, sym, ◌∙◌, inl, inr, arith, subst, length-append, Option, Some, None}
use Rattle.std.specs.Prelude.{slice_get, ◌&&◌}
use Rattle.std.specs.List.{insert}
use Rattle.std.proofs.lemmas.Option.{same_Some, slice_get_within}
use Rattle.std.proofs.lemmas.Bool.{cases_Bool, cases_eq, cases_lt, or_parts, and_cases, ltb-false, eqb-false, leb-false}
use Rattle.cs_base.specs.declared.positions.Pos.{Pos}
use Rattle.cs_base.specs.declared.positions.Part.{Part}
use Rattle.cs_base.proofs.ListLemmas.{get-front as slice_get-append_left}
use Rattle.eclass_map.specs.declared.token_list.Added.{Added}
use Rattle.class_labels.specs.declared.spots.Spot.{Spot}
use Rattle.class_labels.specs.Labels.{Labels, spot, added, fresh_part}
use Rattle.eclass_map.specs.Positions.{along, holds, index_at, Begins, begins_by, Before}
use Rattle.eclass_map.specs.ClassTable.{Table, IsHeld, IsFree, begun_count, fresh_places, with_token}
use Rattle.eclass_map.specs.Kept.{IsKept}
use Rattle.class_labels.proofs.LookFacts.{look_below}
use Rattle.class_labels.proofs.AddFacts.{IsTable-added, slice_get-append_right, length-fresh_part, fresh_part-at, added_at}
use Rattle.class_labels.proofs.AddFacts.AddedAt.{old as spot_old, new as spot_new}
use Rattle.eclass_map.proofs.TokenFacts.{holding, holds_from, begun, Halved, along_of, index_of_holder}
use Rattle.eclass_map.proofs.TokenFacts.Begun.{file_before, same_file}
use Rattle.eclass_map.proofs.LinkedFacts.{label_of, number_within, token_within}
use Rattle.eclass_map.proofs.InsertFacts.{inserted_at, inserted_own, inserted_other, index_insert_other, index_insert_own, length-fresh_places, fresh_places-at}
use Rattle.eclass_map.proofs.InsertFacts.InsertedAt.{before, own, behind}

-- what adding a token is given
pub record AddIn (part : Part) (t : Table) : Type 0 where
  pub kept : IsKept t
  pub some : 0 < part.len
  pub within : part.start.at + part.len < 2 ^ 32
  pub short : length t.places + part.len < 2 ^ 32
  pub free : IsFree t part
  pub count : begun_count t.tokens part.start ≤ length t.tokens
  pub halved : Halved t.tokens part.start (begun_count t.tokens part.start)

abbrev pub entry : Part → Table → Added
entry part t = record { place = part; first = length t.places }

-- no old token holds a character of the new one
pub free_none : (part : Part) (t : Table) → AddIn part t → (p : Pos) → holds part p ≡ true → (i : ℕ) → index_at t.tokens p ≡ Some i → ⊥
free_none part t h p held i at =
    let w = holding part p held in
    let s = look_below t.labels.spots i (number_within t h.kept p i at) in
    let P : Pos → Type 0 = λ v. IsHeld t v in
    h.free (p.at - part.start.at) w.less (subst P (sym (along_of part p w)) (s.0, label_of t p i at ∙ s.1))

none_or : (o : Option ℕ) → ((i : ℕ) → o ≡ Some i → ⊥) → o ≡ None
none_or None h = refl
none_or (Some i) h = absurd (h i refl)

pub index_none : (part : Part) (t : Table) → AddIn part t → (p : Pos) → holds part p ≡ true → index_at t.tokens p ≡ None
index_none part t h p held = none_or (index_at t.tokens p) (λ i at. free_none part t h p held i at)

less_from_ne : (m n : ℕ) → m ≤ n → (m ≡ n → ⊥) → m < n
less_from_ne m n most ne = omega arith

added_long : (l : ℕ) (labels : Labels) (n : ℕ) → n ≡ length labels.spots → n + l ≡ length (added l labels).spots
unfolding added
added_long l labels n e =
    let a : length (labels.spots ++ fresh_part (length labels.walks) l) ≡ length labels.spots + length (fresh_part (length labels.walks) l) = length-append labels.spots (fresh_part (length labels.walks) l) in
    omega (arith, length-fresh_part (length labels.walks) l)

pub added_spots : (l : ℕ) (labels : Labels) → (added l labels).spots ≡ labels.spots ++ fresh_part (length labels.walks) l
unfolding added
added_spots l labels = refl

-- an old token and the new one stand in order
before_new : (part : Part) (t : Table) → AddIn part t → (j : ℕ) (r : Added) → slice_get t.tokens j ≡ Some r → begins_by r part.start ≡ true → Before r.place part
before_new part t h j r at begins = elim (begun r part.start begins) [
  | file_before f ↦ inl f
  | same_file e least ↦ elim (cases_lt part.start.at (r.place.start.at + r.place.len)) [
    | inl less ↦
        let held : holds r.place part.start ≡ true = holds_from r.place part.start (record { file = e; from = least; less = omega arith }) in
        let own : holds part part.start ≡ true = holds_from part part.start (record { file = refl; from = omega arith; less = let s = h.some in omega arith }) in
        absurd (free_none part t h part.start own _ (index_of_holder t.tokens j r part.start h.kept.tokens at held))
    | inr most ↦ inr (e, most)
  ]
]

new_before : (part : Part) (t : Table) → AddIn part t → (j : ℕ) (r : Added) → slice_get t.tokens j ≡ Some r → begins_by r part.start ≡ false → Before part r.place
new_before part t h j r at begins =
    let q = r.place.start in
    let p = part.start in
    let both = or_parts (ltb q.file p.file) (eqb q.file p.file && leb q.at p.at) begins in
    let file : p.file ≤ q.file = ltb-false q.file p.file both.0 in
    elim (and_cases (eqb q.file p.file) (leb q.at p.at) both.1) [
      | inl other ↦ let ne = eqb-false q.file p.file other in inl (less_from_ne p.file q.file file (λ e. ne (sym e)))
      | inr later ↦
          let more : p.at < q.at = leb-false q.at p.at later in
          elim (cases_eq p.file q.file) [
            | inl e ↦ elim (cases_lt q.at (p.at + part.len)) [
              | inl less ↦
                  let own : holds part q ≡ true = holds_from part q (record { file = e; from = omega arith; less = omega arith }) in
                  let held : holds r.place q ≡ true = holds_from r.place q (record { file = refl; from = omega arith; less = let s = h.kept.tokens.some j r at in omega arith }) in
                  absurd (free_none part t h q own _ (index_of_holder t.tokens j r q h.kept.tokens at held))
              | inr most ↦ inr (e, most)
            ]
            | inr ne ↦ inl (less_from_ne p.file q.file file ne)
          ]
    ]

-- the ends of old tokens, the labels of all beginnings and the beginnings of all parts
old_end : (part : Part) (t : Table) → AddIn part t → (j : ℕ) (r : Added) → slice_get t.tokens j ≡ Some r
    → Begins (insert t.tokens (begun_count t.tokens part.start) (entry part t)) (length t.places)
    → ((i : ℕ) → Begins t.tokens i → Begins (insert t.tokens (begun_count t.tokens part.start) (entry part t)) i)
    → (r.first + r.place.len ≡ length (t.places ++ fresh_places part.start part.len)) ⊎ Begins (insert t.tokens (begun_count t.tokens part.start) (entry part t)) (r.first + r.place.len)
old_end part t h j r at own_begins old_begins =
    let B : ℕ → Type 0 = λ v. Begins (insert t.tokens (begun_count t.tokens part.start) (entry part t)) v in
    elim (h.kept.ends j r at) [ inl e ↦ inr (subst B (sym e) own_begins) | inr b ↦ inr (old_begins (r.first + r.place.len) b) ]

new_opens : (part : Part) (t : Table) → AddIn part t → (i : ℕ) (s : Spot) → Begins (insert t.tokens (begun_count t.tokens part.start) (entry part t)) i → slice_get (added part.len t.labels).spots i ≡ Some s → s.offset ≡ 0
new_opens part t h i s b at =
    let there : slice_get (t.labels.spots ++ fresh_part (length t.labels.walks) part.len) i ≡ Some s = ap (λ v. slice_get v i) (sym (added_spots part.len t.labels)) ∙ at in
    let long = h.kept.long in
    let r = b.1 in
    let first = b.3 in
    let old : (j : ℕ) → slice_get t.tokens j ≡ Some r → s.offset ≡ 0 = λ j r_at.
    let some : 0 < r.place.len = h.kept.tokens.some j r r_at in
    let fits : r.first + r.place.len ≤ length t.places = token_within t h.kept j r r_at in
    h.kept.opens i s (j, r, r_at, first) (sym (slice_get-append_left t.labels.spots (fresh_part (length t.labels.walks) part.len) i (omega arith)) ∙ there) in
    elim (inserted_at t.tokens (begun_count t.tokens part.start) (entry part t) b.0 r h.count b.2) [
      | before l r_at ↦ old b.0 r_at
      | own e f ↦
          let start : length t.places ≡ i = ap (λ (v : Added). v.first) f ∙ first in
          let o : ℕ = 0 in
          let is : Some s ≡ Some (spot (length t.labels.walks) 0) = sym there ∙ slice_get-append_right t.labels.spots (fresh_part (length t.labels.walks) part.len) i 0 (omega arith) ∙ fresh_part-at (length t.labels.walks) part.len 0 h.some in
          ap (λ (v : Spot). v.offset) (same_Some s (spot (length t.labels.walks) 0) is)
      | behind l least e r_at ↦ old l r_at
    ]

new_opened : (part : Part) (t : Table) → AddIn part t → (i c : ℕ) → slice_get (added part.len t.labels).spots i ≡ Some (spot c 0)
    → Begins (insert t.tokens (begun_count t.tokens part.start) (entry part t)) (length t.places)
    → ((i : ℕ) → Begins t.tokens i → Begins (insert t.tokens (begun_count t.tokens part.start) (entry part t)) i)
    → (j : ℕ) × Begins (insert t.tokens (begun_count t.tokens part.start) (entry part t)) j × (slice_get (added part.len t.labels).spots j ≡ Some (spot c 0))
new_opened part t h i c at own_begins old_begins =
    let fresh = fresh_part (length t.labels.walks) part.len in
    let there : slice_get (t.labels.spots ++ fresh) i ≡ Some (spot c 0) = ap (λ v. slice_get v i) (sym (added_spots part.len t.labels)) ∙ at in
    let long = h.kept.long in
    elim (added_at t.labels part.len i (spot c 0) there) [
      | spot_old was ↦
          let o = h.kept.opened i c was in
          (o.0, old_begins o.0 o.1, ap (λ v. slice_get v o.0) (added_spots part.len t.labels) ∙ slice_get-append_left t.labels.spots fresh o.0 (slice_get_within t.labels.spots o.0 (spot c 0) o.2) ∙ o.2)
      | spot_new o less place is ↦
          let none : 0 ≡ o = ap (λ (v : Spot). v.offset) is in
          let start : i ≡ length t.places = omega arith in
          (length t.places, own_begins, ap (λ v. slice_get (added part.len t.labels).spots v) (sym start) ∙ at)
    ]

pub IsKept-added : (part : Part) (t : Table) → AddIn part t → IsKept (with_token part t)
unfolding with_token
IsKept-added part t h =
    let kept = h.kept in
    let k = begun_count t.tokens part.start in
    let new = entry part t in
    let tokens = insert t.tokens k new in
    let n = length t.places in
    let fresh = fresh_places part.start part.len in
    let u = added part.len t.labels in
    let some = h.some in
    let within = h.within in
    let short = h.short in
    let long_fresh : length fresh ≡ part.len = length-fresh_places part.start part.len in
    let long : length (t.places ++ fresh) ≡ n + part.len = let a : length (t.places ++ fresh) ≡ n + length fresh = length-append t.places fresh in omega arith in
    let kept_long = kept.long in
    let own_begins : Begins tokens n = (k, new, inserted_own t.tokens k new h.count, refl) in
    let old_begins : (i : ℕ) → Begins t.tokens i → Begins tokens i = λ i b. let j = inserted_other t.tokens k new b.0 b.1 b.2 in (j.0, b.1, j.1, b.3) in
    record {
      table = IsTable-added part.len t.labels some kept.table;
      tokens = record {
        ordered = λ i j r s less at_i at_j. elim (inserted_at t.tokens k new i r h.count at_i) [
          | before l r_at ↦ elim (inserted_at t.tokens k new j s h.count at_j) [
            | before m s_at ↦ kept.tokens.ordered i j r s less r_at s_at
            | own e f ↦ let P : Added → Type 0 = λ v. Before r.place v.place in subst P f (before_new part t h i r r_at (h.halved.before i r l r_at))
            | behind m least e s_at ↦ kept.tokens.ordered i m r s (omega arith) r_at s_at
          ]
          | own e f ↦ elim (inserted_at t.tokens k new j s h.count at_j) [
            | before m s_at ↦ absurd (omega arith)
            | own g _ ↦ absurd (omega arith)
            | behind m least g s_at ↦ let P : Added → Type 0 = λ v. Before v.place s.place in subst P f (new_before part t h m s s_at (h.halved.behind m s least s_at))
          ]
          | behind l least e r_at ↦ elim (inserted_at t.tokens k new j s h.count at_j) [
            | before m s_at ↦ absurd (omega arith)
            | own g _ ↦ absurd (omega arith)
            | behind m _ g s_at ↦ kept.tokens.ordered l m r s (omega arith) r_at s_at
          ]
        ];
        some = λ j r at. elim (inserted_at t.tokens k new j r h.count at) [
          | before l there ↦ kept.tokens.some j r there
          | own e f ↦ let P : Added → Type 0 = λ v. 0 < v.place.len in subst P f some
          | behind l least e there ↦ kept.tokens.some l r there
        ];
        numbered = λ j r at. elim (inserted_at t.tokens k new j r h.count at) [
          | before l there ↦ kept.tokens.numbered j r there
          | own e f ↦ let P : Added → Type 0 = λ v. v.first + v.place.len < 2 ^ 32 in subst P f short
          | behind l least e there ↦ kept.tokens.numbered l r there
        ];
      };
      long = long ∙ added_long part.len t.labels n kept_long;
      short = omega arith;
      placed = λ p i at. elim (cases_Bool (holds part p)) [
        | inl held ↦
            let w = holding part p held in
            let i_is : i ≡ n + (p.at - part.start.at) = same_Some i (n + (p.at - part.start.at)) (sym at ∙ index_insert_own t.tokens k new p held (index_none part t h p held)) in
            slice_get-append_right t.places fresh i (p.at - part.start.at) i_is ∙ fresh_places-at part.start part.len (p.at - part.start.at) w.less ∙ ap Some (along_of part p w)
        | inr not_held ↦
            let there = kept.placed p i (sym (index_insert_other t.tokens k new p not_held) ∙ at) in
            slice_get-append_left t.places fresh i (slice_get_within t.places i p there) ∙ there
      ];
      numbered = λ i p at. elim (cases_lt i n) [
        | inl less ↦
            let there = kept.numbered i p (sym (slice_get-append_left t.places fresh i less) ∙ at) in
            elim (cases_Bool (holds part p)) [
              | inl held ↦ absurd (free_none part t h p held i there)
              | inr not_held ↦ index_insert_other t.tokens k new p not_held ∙ there
            ]
        | inr most ↦
            let o = i - n in
            let there : slice_get fresh o ≡ Some p = sym (slice_get-append_right t.places fresh i o (omega arith)) ∙ at in
            let below : o < length fresh = slice_get_within fresh o p there in
            let is : along part.start o ≡ p = same_Some (along part.start o) p (sym (fresh_places-at part.start part.len o (omega arith)) ∙ there) in
            let place : part.start.at + o ≡ p.at = ap (λ (v : Pos). v.at) is in
            let held : holds part p ≡ true = holds_from part p (record { file = ap (λ (v : Pos). v.file) is; from = omega arith; less = omega arith }) in
            index_insert_own t.tokens k new p held (index_none part t h p held) ∙ ap Some (let e : n + (p.at - part.start.at) ≡ i = omega arith in e)
      ];
      ends = λ j r at. elim (inserted_at t.tokens k new j r h.count at) [
        | before l there ↦ old_end part t h j r there own_begins old_begins
        | own e f ↦ let P : Added → Type 0 = λ v. v.first + v.place.len ≡ length (t.places ++ fresh) in inl (subst P f (sym long))
        | behind l least e there ↦ old_end part t h l r there own_begins old_begins
      ];
      fits = λ j r at. elim (inserted_at t.tokens k new j r h.count at) [
        | before l there ↦ kept.fits j r there
        | own e f ↦ let P : Added → Type 0 = λ v. v.place.start.at + v.place.len < 2 ^ 32 in subst P f within
        | behind l least e there ↦ kept.fits l r there
      ];
      opens = λ i s b at. new_opens part t h i s b at;
      opened = λ i c at. new_opened part t h i c at own_begins old_begins;
    }
