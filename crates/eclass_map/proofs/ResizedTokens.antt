-- Where tokens and characters stand once each part of one class has another length.
use Rattle.std.proofs.Common.{◌≡◌, ℕ, ◌+◌, ◌-◌, ◌*◌, ◌<◌, ◌≤◌, eqb, List, [], ◌∷◌, zero, suc, length, get_or, refl, ap, sym, ◌∙◌, inl, inr, arith, subst, Some}
use Rattle.std.specs.Prelude.{slice_get}
use Rattle.std.proofs.lemmas.Option.{none-some, same_Some, slice_get_within, get_or_from_slice_get}
use Rattle.std.proofs.lemmas.Bool.{cases_eq, cond-true, cond-false, eq-eqb, ne_eqb}
use Rattle.cs_base.specs.declared.positions.Pos.{Pos}
use Rattle.eclass_map.specs.declared.token_list.Added.{Added}
use Rattle.class_labels.specs.Labels.{spot, walk_at, length_at}
use Rattle.eclass_map.specs.Positions.{along, end_of}
use Rattle.eclass_map.specs.ClassTable.{Table}
use Rattle.eclass_map.specs.Kept.{IsKept}
use Rattle.class_labels.specs.Regrown.{place, ArePlaces}
use Rattle.eclass_map.specs.Settled.{no_text, settled, settled_token}
use Rattle.eclass_map.specs.Resized.{members_before, moved_to}
use Rattle.class_labels.proofs.LookFacts.{look_below}
use Rattle.eclass_map.proofs.LinkedFacts.{token_within}
use Rattle.class_labels.proofs.RegrownFacts.{place_next, place_grows}
use Rattle.class_labels.proofs.RegrownRows.{share_first}
use Rattle.class_labels.proofs.TallyFacts.{tally, below, mul_even}
use Rattle.eclass_map.proofs.MovedPlaces.{ahead, members_ahead, tally_along, tally_next, tally_first}
use Rattle.eclass_map.proofs.PlaceEdges.{walk_characters, begins_spot, place_edge}

-- what another length of the parts of a class is given
pub record ResizeIn (c m : ℕ) (numbers : List ℕ) (t : Table) : Type 0 where
  pub kept : IsKept t
  pub some : 0 < m
  pub known : c < length t.labels.walks
  pub numbers_are : ArePlaces c m t.labels.spots numbers

pub new_number : (c m : ℕ) (numbers : List ℕ) (t : Table) → ResizeIn c m numbers t → (x : ℕ) → x ≤ length t.labels.spots → get_or numbers x 0 ≡ place c m t.labels.spots x
new_number c m numbers t h x within = get_or_from_slice_get numbers x (place c m t.labels.spots x) 0 (h.numbers_are.each x within)

-- the token at a place of the list, and where it stands afterwards
pub record Stands (c m : ℕ) (numbers : List ℕ) (t : Table) (k : ℕ) (r : Added) : Type 0 where
  pub now : Added
  pub at : slice_get (settled numbers no_text 0 t.tokens) k ≡ Some now
  pub first : now.first ≡ place c m t.labels.spots r.first
  pub file : now.place.start.file ≡ r.place.start.file
  pub len : now.place.len ≡ place c m t.labels.spots (r.first + r.place.len) - place c m t.labels.spots r.first
  pub moved : now.place.start.at + tally (ahead t r.place.start) (walk_at t.labels c) * length_at t.labels c ≡ r.place.start.at + tally (ahead t r.place.start) (walk_at t.labels c) * m

-- a character of a token that begins a part, or the end of the token
pub record Moves (c m : ℕ) (t : Table) (r now : Added) (o : ℕ) : Type 0 where
  pub grows : place c m t.labels.spots r.first ≤ place c m t.labels.spots (r.first + o)
  pub moved : now.place.start.at + (place c m t.labels.spots (r.first + o) - place c m t.labels.spots r.first) + tally (ahead t (along r.place.start o)) (walk_at t.labels c) * length_at t.labels c
      ≡ r.place.start.at + o + tally (ahead t (along r.place.start o)) (walk_at t.labels c) * m

pub moves : (c m : ℕ) (numbers : List ℕ) (t : Table) → ResizeIn c m numbers t → (k : ℕ) (r : Added) → slice_get t.tokens k ≡ Some r → (s : Stands c m numbers t k r) → (o : ℕ) → o ≤ r.place.len
    → place c m t.labels.spots (r.first + o) + tally (below (r.first + o)) (walk_at t.labels c) * length_at t.labels c ≡ r.first + o + tally (below (r.first + o)) (walk_at t.labels c) * m
    → Moves c m t r s.now o
moves c m numbers t h k r at s o within there =
    let spots = t.labels.spots in
    let walk = walk_at t.labels c in
    let l = length_at t.labels c in
    let fits = token_within t h.kept k r at in
    let long = h.kept.long in
    let begin = place_edge c m t h.kept h.known r.first (omega arith) (inr (k, r, at, refl)) in
    let even = tally_along t h.kept k r at o walk within (walk_characters t h.kept c h.known) in
    let p = along r.place.start o in
    let old = mul_even (tally (ahead t p) walk) (tally (below r.first) walk) (tally (ahead t r.place.start) walk) (tally (below (r.first + o)) walk) l even in
    let new = mul_even (tally (ahead t p) walk) (tally (below r.first) walk) (tally (ahead t r.place.start) walk) (tally (below (r.first + o)) walk) m even in
    let grows = place_grows c m spots r.first (r.first + o) (omega arith) (omega arith) in
    let moved = s.moved in
    record { grows = grows; moved = omega arith }

settled_zero : (numbers : List ℕ) (from : Pos) (to : ℕ) (rs : List Added) (r : Added) → slice_get rs 0 ≡ Some r → slice_get (settled numbers from to rs) 0 ≡ Some (settled_token numbers from to r)
unfolding settled
settled_zero numbers from to [] r at = absurd (none-some r at)
settled_zero numbers from to (u ∷ rs) r at = ap (λ v. Some (settled_token numbers from to v)) (same_Some u r at)

settled_next : (numbers : List ℕ) (from : Pos) (to : ℕ) (rs : List Added) (k : ℕ) (r s now : Added) → slice_get rs k ≡ Some r → slice_get rs (suc k) ≡ Some s → slice_get (settled numbers from to rs) k ≡ Some now
    → slice_get (settled numbers from to rs) (suc k) ≡ Some (settled_token numbers (end_of r.place) (end_of now.place).at s)
unfolding settled
settled_next numbers from to [] k r s now at next here = absurd (none-some r at)
settled_next numbers from to (u ∷ rs) zero r s now at next here =
    let e : u ≡ r = same_Some u r at in
    let f : settled_token numbers from to u ≡ now = same_Some (settled_token numbers from to u) now here in
    settled_zero numbers (end_of u.place) (end_of (settled_token numbers from to u).place).at rs s next
    ∙ ap (λ (v : Added). Some (settled_token numbers (end_of v.place) (end_of (settled_token numbers from to u).place).at s)) e
    ∙ ap (λ (v : Added). Some (settled_token numbers (end_of r.place) (end_of v.place).at s)) f
settled_next numbers from to (u ∷ rs) (suc k) r s now at next here = settled_next numbers (end_of u.place) (end_of (settled_token numbers from to u).place).at rs k r s now at next here

-- where a settled token is told to stand
stands_from : (c m : ℕ) (numbers : List ℕ) (t : Table) → ResizeIn c m numbers t → (k : ℕ) (r : Added) → slice_get t.tokens k ≡ Some r → (from : Pos) (to : ℕ) → slice_get (settled numbers no_text 0 t.tokens) k ≡ Some (settled_token numbers from to r)
    → (settled_token numbers from to r).place.start.at + tally (ahead t r.place.start) (walk_at t.labels c) * length_at t.labels c ≡ r.place.start.at + tally (ahead t r.place.start) (walk_at t.labels c) * m
    → Stands c m numbers t k r
stands_from c m numbers t h k r at from to here moved =
    let fits = token_within t h.kept k r at in
    let long = h.kept.long in
    let first = new_number c m numbers t h r.first (omega arith) in
    let end = new_number c m numbers t h (r.first + r.place.len) (omega arith) in
    record { now = settled_token numbers from to r; at = here; first = first; file = refl; len = omega arith; moved = moved }

stays_at : (numbers : List ℕ) (from : Pos) (to : ℕ) (r : Added) → (r.place.start.file ≡ from.file → ⊥) → (settled_token numbers from to r).place.start.at ≡ r.place.start.at
stays_at numbers from to r ne = cond-false (eqb r.place.start.file from.file) (to + (r.place.start.at - from.at)) r.place.start.at (ne_eqb r.place.start.file from.file ne)

goes_to : (numbers : List ℕ) (from : Pos) (to : ℕ) (r : Added) → r.place.start.file ≡ from.file → (settled_token numbers from to r).place.start.at ≡ to + (r.place.start.at - from.at)
goes_to numbers from to r e = cond-true (eqb r.place.start.file from.file) (to + (r.place.start.at - from.at)) r.place.start.at (eq-eqb r.place.start.file from.file e)

begins_at : (numbers : List ℕ) (r : Added) → (settled_token numbers no_text 0 r).place.start.at ≡ r.place.start.at
begins_at numbers r = elim (cases_eq r.place.start.file 0) [
  | inl e ↦ goes_to numbers no_text 0 r e ∙ (let f : 0 + (r.place.start.at - 0) ≡ r.place.start.at = omega arith in f)
  | inr ne ↦ stays_at numbers no_text 0 r ne
]

-- the first token of a file stays where it is
unmoved : (c m : ℕ) (numbers : List ℕ) (t : Table) → ResizeIn c m numbers t → (k : ℕ) (s : Added) → slice_get t.tokens k ≡ Some s → ((j : ℕ) (u : Added) → j < k → slice_get t.tokens j ≡ Some u → u.place.start.file ≡ s.place.start.file → ⊥)
    → (at : ℕ) → at ≡ s.place.start.at → at + tally (ahead t s.place.start) (walk_at t.labels c) * length_at t.labels c ≡ s.place.start.at + tally (ahead t s.place.start) (walk_at t.labels c) * m
unmoved c m numbers t h k s there alone at e =
    let walk = walk_at t.labels c in
    let none = tally_first t h.kept k s there alone walk (walk_characters t h.kept c h.known) in
    let old : tally (ahead t s.place.start) walk * length_at t.labels c ≡ 0 * length_at t.labels c = ap (λ v. v * length_at t.labels c) none in
    let new : tally (ahead t s.place.start) walk * m ≡ 0 * m = ap (λ v. v * m) none in
    omega arith

-- no token of the next file stands before its first token
alone_in_file : (t : Table) → IsKept t → (k : ℕ) (r s : Added) → slice_get t.tokens k ≡ Some r → slice_get t.tokens (suc k) ≡ Some s → (s.place.start.file ≡ r.place.start.file → ⊥)
    → (j : ℕ) (u : Added) → j < suc k → slice_get t.tokens j ≡ Some u → u.place.start.file ≡ s.place.start.file → ⊥
alone_in_file t kept k r s at next ne j u less u_at same = elim (cases_eq j k) [
  | inl e ↦
      let P : ℕ → Type 0 = λ v. slice_get t.tokens v ≡ Some u in
      let is : u ≡ r = same_Some u r (sym (subst P e u_at) ∙ at) in
      ne (sym same ∙ ap (λ (v : Added). v.place.start.file) is)
  | inr other ↦
      let step : r.place.start.file < s.place.start.file = elim (kept.tokens.ordered k (suc k) r s (omega arith) at next) [ inl f ↦ f | inr f ↦ absurd (ne (sym f.0)) ] in
      elim (kept.tokens.ordered j k u r (omega arith) u_at at) [ inl f ↦ omega arith | inr f ↦ let g = f.0 in omega arith ]
]

pub stands : (c m : ℕ) (numbers : List ℕ) (t : Table) → ResizeIn c m numbers t → (k : ℕ) (r : Added) → slice_get t.tokens k ≡ Some r → Stands c m numbers t k r
stands c m numbers t h zero r at =
    stands_from c m numbers t h zero r at no_text 0 (settled_zero numbers no_text 0 t.tokens r at)
    (unmoved c m numbers t h zero r at (λ j u less u_at same. absurd (omega arith)) _ (begins_at numbers r))
stands c m numbers t h (suc k) s next =
    let within : suc k < length t.tokens = slice_get_within t.tokens (suc k) s next in
    let look = look_below t.tokens k (omega arith) in
    let r = look.0 in
    let at = look.1 in
    let before = stands c m numbers t h k r at in
    let now = before.now in
    let here = settled_next numbers no_text 0 t.tokens k r s now at next before.at in
    let from = end_of r.place in
    let to = (end_of now.place).at in
    let fits = token_within t h.kept k r at in
    let long = h.kept.long in
    stands_from c m numbers t h (suc k) s next from to here (elim (cases_eq s.place.start.file r.place.start.file) [
      | inr ne ↦ unmoved c m numbers t h (suc k) s next (alone_in_file t h.kept k r s at next ne) _ (stays_at numbers from to s ne)
      | inl same ↦
          let walk = walk_at t.labels c in
          let edge = place_edge c m t h.kept h.known (r.first + r.place.len) (omega arith) (h.kept.ends k r at) in
          let end = moves c m numbers t h k r at before r.place.len (omega arith) edge in
          let moved = end.moved in
          let len = before.len in
          let even = tally_next t h.kept k r s at next (sym same) walk (walk_characters t h.kept c h.known) in
          let old : tally (ahead t s.place.start) walk * length_at t.labels c ≡ tally (ahead t (end_of r.place)) walk * length_at t.labels c = ap (λ v. v * length_at t.labels c) even in
          let new : tally (ahead t s.place.start) walk * m ≡ tally (ahead t (end_of r.place)) walk * m = ap (λ v. v * m) even in
          let goes = goes_to numbers from to s same in
          let gap : r.place.start.at + r.place.len ≤ s.place.start.at = elim (h.kept.tokens.ordered k (suc k) r s (omega arith) at next) [ inl f ↦ absurd (omega arith) | inr f ↦ let g = f.1 in omega arith ] in
          omega arith
    ])

-- where a character stands afterwards
pub moved_at : (c m : ℕ) (t : Table) (p : Pos) (n : ℕ) → n + tally (ahead t p) (walk_at t.labels c) * length_at t.labels c ≡ p.at + tally (ahead t p) (walk_at t.labels c) * m → moved_to c m t p ≡ record { file = p.file; at = n }
moved_at c m t p n e =
    let ahead_is = members_ahead c t p in
    let old : members_before c t p * length_at t.labels c ≡ tally (ahead t p) (walk_at t.labels c) * length_at t.labels c = ap (λ v. v * length_at t.labels c) ahead_is in
    let new : members_before c t p * m ≡ tally (ahead t p) (walk_at t.labels c) * m = ap (λ v. v * m) ahead_is in
    let at : p.at + members_before c t p * m - members_before c t p * length_at t.labels c ≡ n = omega arith in
    λ i. record { file = p.file; at = at i }

-- a token has characters afterwards
pub token_some : (c m : ℕ) (numbers : List ℕ) (t : Table) → ResizeIn c m numbers t → (k : ℕ) (r : Added) → slice_get t.tokens k ≡ Some r → place c m t.labels.spots r.first < place c m t.labels.spots (r.first + r.place.len)
token_some c m numbers t h k r at =
    let spots = t.labels.spots in
    let fits = token_within t h.kept k r at in
    let long = h.kept.long in
    let some = h.kept.tokens.some k r at in
    let b = begins_spot t h.kept r.first (k, r, at, refl) in
    let next = place_next c m spots r.first (spot b.0 0) b.1 in
    let share = share_first c m b.0 h.some in
    let grows = place_grows c m spots (suc r.first) (r.first + r.place.len) (omega arith) (omega arith) in
    omega arith
