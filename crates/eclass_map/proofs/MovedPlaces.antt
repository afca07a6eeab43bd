-- Which characters stand before another, in its file and by number.
use Rattle.std.proofs.Common.{◌≡◌, ℕ, ◌+◌, ◌-◌, ◌<◌, ◌≤◌, ◌⊎◌, true, cond, eqb, ltb, List, suc, length, get_or, ap, sym, ◌∙◌, inl, inr, arith, subst, Some}
use Rattle.std.specs.Prelude.{slice_get, ◌&&◌}
use Rattle.std.proofs.lemmas.Option.{same_Some, get_or_from_slice_get}
use Rattle.std.proofs.lemmas.Bool.{cases_eq, cases_lt, cases_order, cond-true, cond-false, and_from, and_left, and_right, eq-eqb, ne_eqb, lt-ltb, le-ltb}
use Rattle.cs_base.specs.declared.positions.Pos.{Pos}
use Rattle.eclass_map.specs.declared.token_list.Added.{Added}
use Rattle.class_labels.specs.Labels.{walk_at}
use Rattle.eclass_map.specs.Positions.{along, end_of, holds}
use Rattle.eclass_map.specs.ClassTable.{Table, nowhere}
use Rattle.eclass_map.specs.Kept.{IsKept}
use Rattle.class_labels.specs.Table.{In}
use Rattle.eclass_map.specs.Resized.{members_before}
use Rattle.class_labels.proofs.LookFacts.{look_below}
use Rattle.eclass_map.proofs.TokenFacts.{holding, holds_along, begun_where_held, not_held_before, found_in, index_of_token}
use Rattle.class_labels.proofs.TallyFacts.{tally, tally_even, tally_same, tally_none, count_tally, below, below_yes, below_no}

-- 1 where character number w stands before a position, in its file
abbrev pub ahead : Table → Pos → ℕ → ℕ
ahead t p w = cond (eqb (get_or t.places w nowhere).file p.file && ltb (get_or t.places w nowhere).at p.at) 1 0

pub ahead_yes : (t : Table) (p q : Pos) (w : ℕ) → slice_get t.places w ≡ Some q → q.file ≡ p.file → q.at < p.at → ahead t p w ≡ 1
ahead_yes t p q w there file less =
    let e = get_or_from_slice_get t.places w q nowhere there in
    ap (λ (v : Pos). cond (eqb v.file p.file && ltb v.at p.at) 1 0) e
    ∙ cond-true (eqb q.file p.file && ltb q.at p.at) 1 0 (and_from (eqb q.file p.file) (ltb q.at p.at) (eq-eqb q.file p.file file) (lt-ltb q.at p.at less))

pub ahead_no : (t : Table) (p q : Pos) (w : ℕ) → slice_get t.places w ≡ Some q → (q.file ≡ p.file → p.at ≤ q.at) → ahead t p w ≡ 0
ahead_no t p q w there most =
    let e = get_or_from_slice_get t.places w q nowhere there in
    ap (λ (v : Pos). cond (eqb v.file p.file && ltb v.at p.at) 1 0) e
    ∙ cond-false (eqb q.file p.file && ltb q.at p.at) 1 0 (elim (cases_eq q.file p.file) [
      | inl same ↦ and_right (eqb q.file p.file) (ltb q.at p.at) (le-ltb q.at p.at (most same))
      | inr ne ↦ and_left (eqb q.file p.file) (ltb q.at p.at) (ne_eqb q.file p.file ne)
    ])

-- the position and the token of a character
pub record Holder (t : Table) (w : ℕ) : Type 0 where
  pub position : Pos
  pub there : slice_get t.places w ≡ Some position
  pub index : ℕ
  pub token : Added
  pub at : slice_get t.tokens index ≡ Some token
  pub held : holds token.place position ≡ true
  pub is : token.first + (position.at - token.place.start.at) ≡ w

pub holder : (t : Table) → IsKept t → (w : ℕ) → w < length t.labels.spots → Holder t w
holder t kept w less =
    let long = kept.long in
    let p = look_below t.places w (omega arith) in
    let f = found_in t.tokens p.0 w (kept.numbered w p.0 p.1) in
    record { position = p.0; there = p.1; index = f.place; token = f.token; at = f.at; held = f.held; is = f.is }

-- not a number of the token
abbrev Outside : Added → ℕ → Type 0
Outside r w = (w < r.first) ⊎ (r.first + r.place.len ≤ w)

outside : (t : Table) (kept : IsKept t) (k : ℕ) (r : Added) (w : ℕ) (h : Holder t w) → slice_get t.tokens k ≡ Some r → (h.index ≡ k → ⊥) → Outside r w
outside t kept k r w h at apart = elim (cases_lt w r.first) [
  | inl less ↦ inl less
  | inr most ↦ elim (cases_lt w (r.first + r.place.len)) [
    | inr past ↦ inr past
    | inl inside ↦
        let o = w - r.first in
        let p = along r.place.start o in
        let number : r.first + o ≡ w = omega arith in
        let here = kept.placed p w (index_of_token t.tokens k r o kept.tokens at (omega arith) ∙ ap Some number) in
        let same : p ≡ h.position = same_Some p h.position (sym here ∙ h.there) in
        let P : Pos → Type 0 = λ v. holds r.place v ≡ true in
        let held = subst P same (holds_along r.place o (omega arith)) in
        absurd (elim (cases_order h.index k) [
          | inl e ↦ apart e
          | inr other ↦ elim other [
            | inl less ↦ not_held_before h.token r h.position (kept.tokens.ordered h.index k h.token r less h.at at) (begun_where_held r h.position held) h.held
            | inr more ↦ not_held_before r h.token h.position (kept.tokens.ordered k h.index r h.token more at h.at) (begun_where_held h.token h.position h.held) held
          ]
        ])
  ]
]

-- where a character stands beside a token
pub data Side (t : Table) (k : ℕ) (r : Added) (w : ℕ) (h : Holder t w) : Type 0 where
  inside : (d : ℕ) → d < r.place.len → r.first + d ≡ w → h.position.file ≡ r.place.start.file → h.position.at ≡ r.place.start.at + d → Side t k r w h
  left : h.index < k → (h.position.file ≡ r.place.start.file → h.position.at < r.place.start.at) → (w < r.first) ⊎ (r.first + r.place.len ≤ w) → Side t k r w h
  right : k < h.index → (h.position.file ≡ r.place.start.file → r.place.start.at + r.place.len ≤ h.position.at) → (w < r.first) ⊎ (r.first + r.place.len ≤ w) → Side t k r w h

own_side : (t : Table) (k : ℕ) (r : Added) (w : ℕ) (h : Holder t w) → h.token ≡ r → Side t k r w h
own_side t k r w h e =
    let held = holding h.token.place h.position h.held in
    let file = held.file in
    let from = held.from in
    let less = held.less in
    let is = h.is in
    let first = ap (λ (v : Added). v.first) e in
    let at = ap (λ (v : Added). v.place.start.at) e in
    let len = ap (λ (v : Added). v.place.len) e in
    inside (h.position.at - r.place.start.at) (omega arith) (omega arith) (sym file ∙ ap (λ (v : Added). v.place.start.file) e) (omega arith)

pub side_of : (t : Table) → IsKept t → (k : ℕ) (r : Added) → slice_get t.tokens k ≡ Some r → (w : ℕ) (h : Holder t w) → Side t k r w h
side_of t kept k r at w h =
    let held = holding h.token.place h.position h.held in
    let file = held.file in
    let from = held.from in
    let less = held.less in
    elim (cases_order h.index k) [
      | inl e ↦ let P : ℕ → Type 0 = λ v. slice_get t.tokens v ≡ Some h.token in own_side t k r w h (same_Some h.token r (sym (subst P e h.at) ∙ at))
      | inr other ↦ elim other [
        | inl before ↦ left before (λ same. elim (kept.tokens.ordered h.index k h.token r before h.at at) [ inl f ↦ absurd (omega arith) | inr f ↦ let g = f.1 in omega arith ]) (outside t kept k r w h at (λ e. omega arith))
        | inr behind ↦ right behind (λ same. elim (kept.tokens.ordered k h.index r h.token behind at h.at) [ inl f ↦ absurd (omega arith) | inr f ↦ let g = f.1 in omega arith ]) (outside t kept k r w h at (λ e. omega arith))
      ]
    ]

below_outside : (r : Added) (w o : ℕ) → o ≤ r.place.len → (w < r.first) ⊎ (r.first + r.place.len ≤ w) → below r.first w ≡ below (r.first + o) w
below_outside r w o within (inl less) = below_yes r.first w less ∙ sym (below_yes (r.first + o) w (omega arith))
below_outside r w o within (inr past) = below_no r.first w (omega arith) ∙ sym (below_no (r.first + o) w (omega arith))

-- in a token what stands ahead grows as the numbers do
ahead_along : (t : Table) → IsKept t → (k : ℕ) (r : Added) → slice_get t.tokens k ≡ Some r → (o w : ℕ) → o ≤ r.place.len → w < length t.labels.spots
    → ahead t (along r.place.start o) w + below r.first w ≡ ahead t r.place.start w + below (r.first + o) w
ahead_along t kept k r at o w within less =
    let h = holder t kept w less in
    let p = along r.place.start o in
    elim (side_of t kept k r at w h) [
      | inside d near number file place ↦
          let none = ahead_no t r.place.start h.position w h.there (λ e. omega arith) in
          let zero = below_no r.first w (omega arith) in
          elim (cases_lt d o) [
            | inl before ↦ let one = ahead_yes t p h.position w h.there file (omega arith) in let also = below_yes (r.first + o) w (omega arith) in omega arith
            | inr behind ↦ let one = ahead_no t p h.position w h.there (λ e. omega arith) in let also = below_no (r.first + o) w (omega arith) in omega arith
          ]
      | left _ before out ↦
          let same = below_outside r w o within out in
          elim (cases_eq h.position.file r.place.start.file) [
            | inl file ↦ let near = before file in let one = ahead_yes t p h.position w h.there file (omega arith) in let also = ahead_yes t r.place.start h.position w h.there file near in omega arith
            | inr ne ↦ let one = ahead_no t p h.position w h.there (λ e. absurd (ne e)) in let also = ahead_no t r.place.start h.position w h.there (λ e. absurd (ne e)) in omega arith
          ]
      | right _ behind out ↦
          let same = below_outside r w o within out in
          let one = ahead_no t p h.position w h.there (λ e. let far = behind e in omega arith) in
          let also = ahead_no t r.place.start h.position w h.there (λ e. let far = behind e in omega arith) in
          omega arith
    ]

-- nothing stands in the gap behind a token
ahead_next : (t : Table) → IsKept t → (k : ℕ) (r s : Added) → slice_get t.tokens k ≡ Some r → slice_get t.tokens (suc k) ≡ Some s → r.place.start.file ≡ s.place.start.file → (w : ℕ) → w < length t.labels.spots
    → ahead t s.place.start w ≡ ahead t (end_of r.place) w
ahead_next t kept k r s at next file w less =
    let h = holder t kept w less in
    let gap : r.place.start.at + r.place.len ≤ s.place.start.at = elim (kept.tokens.ordered k (suc k) r s (omega arith) at next) [ inl f ↦ absurd (omega arith) | inr f ↦ let g = f.1 in omega arith ] in
    elim (side_of t kept k r at w h) [
      | inside d near number same place ↦ ahead_yes t s.place.start h.position w h.there (same ∙ file) (omega arith) ∙ sym (ahead_yes t (end_of r.place) h.position w h.there same (omega arith))
      | left _ before out ↦ elim (cases_eq h.position.file r.place.start.file) [
        | inl same ↦ let near = before same in ahead_yes t s.place.start h.position w h.there (same ∙ file) (omega arith) ∙ sym (ahead_yes t (end_of r.place) h.position w h.there same (omega arith))
        | inr ne ↦ ahead_no t s.place.start h.position w h.there (λ e. absurd (ne (e ∙ sym file))) ∙ sym (ahead_no t (end_of r.place) h.position w h.there (λ e. absurd (ne e)))
      ]
      | right after behind out ↦ elim (side_of t kept (suc k) s next w h) [
        | inside d near number same place ↦ ahead_no t s.place.start h.position w h.there (λ e. omega arith) ∙ sym (ahead_no t (end_of r.place) h.position w h.there (λ e. behind e))
        | left before _ _ ↦ absurd (omega arith)
        | right _ past _ ↦ ahead_no t s.place.start h.position w h.there (λ e. let far = past e in omega arith) ∙ sym (ahead_no t (end_of r.place) h.position w h.there (λ e. behind e))
      ]
    ]

-- nothing stands ahead of the first token of a file
ahead_first : (t : Table) → IsKept t → (k : ℕ) (s : Added) → slice_get t.tokens k ≡ Some s → ((j : ℕ) (u : Added) → j < k → slice_get t.tokens j ≡ Some u → u.place.start.file ≡ s.place.start.file → ⊥) → (w : ℕ) → w < length t.labels.spots
    → ahead t s.place.start w ≡ 0
ahead_first t kept k s at alone w less =
    let h = holder t kept w less in
    elim (side_of t kept k s at w h) [
      | inside d near number same place ↦ ahead_no t s.place.start h.position w h.there (λ e. omega arith)
      | left before _ _ ↦ ahead_no t s.place.start h.position w h.there (λ e. absurd (alone h.index h.token before h.at ((holding h.token.place h.position h.held).file ∙ e)))
      | right _ past _ ↦ ahead_no t s.place.start h.position w h.there (λ e. let far = past e in omega arith)
    ]

-- how many members of a class stand ahead
pub members_ahead : (c : ℕ) (t : Table) (p : Pos) → members_before c t p ≡ tally (ahead t p) (walk_at t.labels c)
members_ahead c t p = count_tally _ _ (walk_at t.labels c)

-- each number of the list is that of a character
abbrev pub AreCharacters : Table → List ℕ → Type 0
AreCharacters t xs = (w : ℕ) → In w xs → w < length t.labels.spots

pub tally_along : (t : Table) → IsKept t → (k : ℕ) (r : Added) → slice_get t.tokens k ≡ Some r → (o : ℕ) (xs : List ℕ) → o ≤ r.place.len → AreCharacters t xs
    → tally (ahead t (along r.place.start o)) xs + tally (below r.first) xs ≡ tally (ahead t r.place.start) xs + tally (below (r.first + o)) xs
tally_along t kept k r at o xs within are = tally_even (ahead t (along r.place.start o)) (below r.first) (ahead t r.place.start) (below (r.first + o)) xs (λ w i. ahead_along t kept k r at o w within (are w i))

pub tally_next : (t : Table) → IsKept t → (k : ℕ) (r s : Added) → slice_get t.tokens k ≡ Some r → slice_get t.tokens (suc k) ≡ Some s → r.place.start.file ≡ s.place.start.file → (xs : List ℕ) → AreCharacters t xs
    → tally (ahead t s.place.start) xs ≡ tally (ahead t (end_of r.place)) xs
tally_next t kept k r s at next file xs are = tally_same (ahead t s.place.start) (ahead t (end_of r.place)) xs (λ w i. ahead_next t kept k r s at next file w (are w i))

pub tally_first : (t : Table) → IsKept t → (k : ℕ) (s : Added) → slice_get t.tokens k ≡ Some s → ((j : ℕ) (u : Added) → j < k → slice_get t.tokens j ≡ Some u → u.place.start.file ≡ s.place.start.file → ⊥) → (xs : List ℕ) → AreCharacters t xs
    → tally (ahead t s.place.start) xs ≡ 0
tally_first t kept k s at alone xs are = tally_none (ahead t s.place.start) xs (λ w i. ahead_first t kept k s at alone w (are w i))
