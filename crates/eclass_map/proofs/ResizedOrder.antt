-- The tokens afterwards: in order, apart, and none too far on.
use Rattle.std.proofs.Common.{◌≡◌, ℕ, ◌+◌, ◌-◌, ◌*◌, ◌<◌, ◌≤◌, ◌^◌, true, List, [], ◌∷◌, zero, suc, length, refl, ap, sym, ◌∙◌, inl, inr, arith, subst, Some}
use Rattle.std.specs.Prelude.{slice_get}
use Rattle.std.proofs.lemmas.Option.{same_Some, slice_get_within}
use Rattle.std.proofs.lemmas.Bool.{cases_eq, cases_lt}
use Rattle.cs_base.specs.declared.positions.Pos.{Pos}
use Rattle.cs_base.specs.declared.positions.Part.{Part}
use Rattle.eclass_map.specs.declared.token_list.Added.{Added}
use Rattle.class_labels.specs.Labels.{walk_at, length_at}
use Rattle.eclass_map.specs.Positions.{along, end_of, holds, Before}
use Rattle.eclass_map.specs.ClassTable.{Table, IsAdded}
use Rattle.eclass_map.specs.Kept.{IsKept}
use Rattle.class_labels.specs.Regrown.{place}
use Rattle.eclass_map.specs.Settled.{no_text, settled, settled_token, AreNumbered, AreApart, Fits}
use Rattle.eclass_map.specs.Resized.{moved_to}
use Rattle.class_labels.proofs.LookFacts.{look_below}
use Rattle.class_labels.proofs.ListFacts.{now_at}
use Rattle.eclass_map.proofs.LinkedFacts.{token_within}
use Rattle.eclass_map.proofs.TokenFacts.{holds_along, begun_where_held, not_held_before, index_of_token}
use Rattle.class_labels.proofs.RegrownFacts.{place_grows}
use Rattle.class_labels.proofs.TallyFacts.{tally, below}
use Rattle.eclass_map.proofs.MovedPlaces.{ahead, tally_next}
use Rattle.eclass_map.proofs.PlaceEdges.{walk_characters, place_edge}
use Rattle.eclass_map.proofs.ResizedTokens.{ResizeIn, Stands, Moves, new_number, stands, moves, moved_at, token_some}

abbrev pub new_tokens : List ℕ → Table → List Added
new_tokens numbers t = settled numbers no_text 0 t.tokens

pub length-settled : (numbers : List ℕ) (from : Pos) (to : ℕ) (rs : List Added) → length (settled numbers from to rs) ≡ length rs
unfolding settled
length-settled numbers from to [] = refl
length-settled numbers from to (r ∷ rs) = ap (λ v. suc v) (length-settled numbers (end_of r.place) (end_of (settled_token numbers from to r).place).at rs)

-- the token that a token afterwards was
pub record Came (c m : ℕ) (numbers : List ℕ) (t : Table) (k : ℕ) (now : Added) : Type 0 where
  pub was : Added
  pub at : slice_get t.tokens k ≡ Some was
  pub first : now.first ≡ place c m t.labels.spots was.first
  pub file : now.place.start.file ≡ was.place.start.file
  pub grows : place c m t.labels.spots was.first < place c m t.labels.spots (was.first + was.place.len)
  pub len : now.place.len ≡ place c m t.labels.spots (was.first + was.place.len) - place c m t.labels.spots was.first
  pub begin : now.place.start.at + tally (ahead t was.place.start) (walk_at t.labels c) * length_at t.labels c ≡ was.place.start.at + tally (ahead t was.place.start) (walk_at t.labels c) * m
  pub end : now.place.start.at + now.place.len + tally (ahead t (end_of was.place)) (walk_at t.labels c) * length_at t.labels c
      ≡ was.place.start.at + was.place.len + tally (ahead t (end_of was.place)) (walk_at t.labels c) * m
  pub moves : (o : ℕ) → o ≤ was.place.len
      → place c m t.labels.spots (was.first + o) + tally (below (was.first + o)) (walk_at t.labels c) * length_at t.labels c ≡ was.first + o + tally (below (was.first + o)) (walk_at t.labels c) * m
      → Moves c m t was now o

pub goes_on : (c m : ℕ) (numbers : List ℕ) (t : Table) → ResizeIn c m numbers t → (k : ℕ) (r : Added) → slice_get t.tokens k ≡ Some r → (s : Stands c m numbers t k r) → Came c m numbers t k s.now
goes_on c m numbers t h k r at s =
    let fits = token_within t h.kept k r at in
    let long = h.kept.long in
    let edge = place_edge c m t h.kept h.known (r.first + r.place.len) (omega arith) (h.kept.ends k r at) in
    let end = moves c m numbers t h k r at s r.place.len (omega arith) edge in
    let moved = end.moved in
    let len = s.len in
    record { was = r; at = at; first = s.first; file = s.file; grows = token_some c m numbers t h k r at; len = s.len; begin = s.moved; end = omega arith; moves = λ o within there. moves c m numbers t h k r at s o within there }

pub came : (c m : ℕ) (numbers : List ℕ) (t : Table) → ResizeIn c m numbers t → (k : ℕ) (now : Added) → slice_get (new_tokens numbers t) k ≡ Some now → Came c m numbers t k now
came c m numbers t h k now there =
    let within : k < length (new_tokens numbers t) = slice_get_within (new_tokens numbers t) k now there in
    let many = length-settled numbers no_text 0 t.tokens in
    let r = look_below t.tokens k (omega arith) in
    let s = stands c m numbers t h k r.0 r.1 in
    let P : Added → Type 0 = λ v. Came c m numbers t k v in
    subst P (same_Some s.now now (sym s.at ∙ there)) (goes_on c m numbers t h k r.0 r.1 s)

-- where it ends
pub end_at : (c m : ℕ) (numbers : List ℕ) (t : Table) (k : ℕ) (now : Added) (w : Came c m numbers t k now) → (moved_to c m t (end_of w.was.place)).at ≡ now.place.start.at + now.place.len
end_at c m numbers t k now w = ap (λ (p : Pos). p.at) (moved_at c m t (end_of w.was.place) (now.place.start.at + now.place.len) w.end)

pub start_at : (c m : ℕ) (numbers : List ℕ) (t : Table) (k : ℕ) (now : Added) (w : Came c m numbers t k now) → (moved_to c m t w.was.place.start).at ≡ now.place.start.at
start_at c m numbers t k now w = ap (λ (p : Pos). p.at) (moved_at c m t w.was.place.start now.place.start.at w.begin)

adjacent : (c m : ℕ) (numbers : List ℕ) (t : Table) → ResizeIn c m numbers t → (k : ℕ) (now next : Added) → slice_get (new_tokens numbers t) k ≡ Some now → slice_get (new_tokens numbers t) (suc k) ≡ Some next → Before now.place next.place
adjacent c m numbers t h k now next at_now at_next =
    let a = came c m numbers t h k now at_now in
    let b = came c m numbers t h (suc k) next at_next in
    let r = a.was in
    let s = b.was in
    let a_file = a.file in
    let b_file = b.file in
    elim (h.kept.tokens.ordered k (suc k) r s (omega arith) a.at b.at) [
      | inl less ↦ inl (omega arith)
      | inr both ↦
          let walk = walk_at t.labels c in
          let even = tally_next t h.kept k r s a.at b.at both.0 walk (walk_characters t h.kept c h.known) in
          let old : tally (ahead t s.place.start) walk * length_at t.labels c ≡ tally (ahead t (end_of r.place)) walk * length_at t.labels c = ap (λ v. v * length_at t.labels c) even in
          let new : tally (ahead t s.place.start) walk * m ≡ tally (ahead t (end_of r.place)) walk * m = ap (λ v. v * m) even in
          let end = a.end in
          let begin = b.begin in
          let gap = both.1 in
          inr (a_file ∙ both.0 ∙ sym b_file, omega arith)
    ]

before_through : (a b c : Part) → Before a b → Before b c → Before a c
before_through a b c (inl f) (inl g) = inl (omega arith)
before_through a b c (inl f) (inr g) = let e = g.0 in inl (omega arith)
before_through a b c (inr f) (inl g) = let e = f.0 in inl (omega arith)
before_through a b c (inr f) (inr g) = let e = f.1 in let d = g.1 in inr (f.0 ∙ g.0, omega arith)

pub far_before : (c m : ℕ) (numbers : List ℕ) (t : Table) → ResizeIn c m numbers t → (j k : ℕ) (now next : Added) → k < j → slice_get (new_tokens numbers t) k ≡ Some now → slice_get (new_tokens numbers t) j ≡ Some next → Before now.place next.place
far_before c m numbers t h zero k now next less at_now at_next = absurd (omega arith)
far_before c m numbers t h (suc i) k now next less at_now at_next = elim (cases_eq k i) [
  | inl e ↦ let P : ℕ → Type 0 = λ v. slice_get (new_tokens numbers t) v ≡ Some now in adjacent c m numbers t h i now next (subst P e at_now) at_next
  | inr ne ↦
      let within : suc i < length (new_tokens numbers t) = slice_get_within (new_tokens numbers t) (suc i) next at_next in
      let mid = look_below (new_tokens numbers t) i (omega arith) in
      before_through now.place mid.0.place next.place (far_before c m numbers t h i k now mid.0 (omega arith) at_now mid.1) (adjacent c m numbers t h i mid.0 next mid.1 at_next)
]

-- the numbers of two tokens are apart
old_apart : (t : Table) → IsKept t → AreApart t.tokens
old_apart t kept i j r s less at_r at_s = elim (cases_lt s.first (r.first + r.place.len)) [
  | inr most ↦ inl most
  | inl over ↦ elim (cases_lt r.first (s.first + s.place.len)) [
    | inr most ↦ inr most
    | inl also ↦
        let both : (w : ℕ) → r.first ≤ w → w < r.first + r.place.len → s.first ≤ w → w < s.first + s.place.len → ⊥ = λ w from below also_from also_below.
        let p = along r.place.start (w - r.first) in
        let q = along s.place.start (w - s.first) in
        let p_number : r.first + (w - r.first) ≡ w = omega arith in
        let q_number : s.first + (w - s.first) ≡ w = omega arith in
        let p_at = kept.placed p w (index_of_token t.tokens i r (w - r.first) kept.tokens at_r (omega arith) ∙ ap Some p_number) in
        let q_at = kept.placed q w (index_of_token t.tokens j s (w - s.first) kept.tokens at_s (omega arith) ∙ ap Some q_number) in
        let same : q ≡ p = same_Some q p (sym q_at ∙ p_at) in
        let P : Pos → Type 0 = λ v. holds s.place v ≡ true in
        let held_s = subst P same (holds_along s.place (w - s.first) (omega arith)) in
        not_held_before r s p (kept.tokens.ordered i j r s less at_r at_s) (begun_where_held s p held_s) (holds_along r.place (w - r.first) (omega arith)) in
        absurd (elim (cases_lt r.first s.first) [
          | inl before ↦ let some = kept.tokens.some j s at_s in both s.first (omega arith) over (omega arith) (omega arith)
          | inr behind ↦ let some = kept.tokens.some i r at_r in both r.first (omega arith) (omega arith) behind also
        ])
  ]
]

pub are_apart : (c m : ℕ) (numbers : List ℕ) (t : Table) → ResizeIn c m numbers t → AreApart (new_tokens numbers t)
are_apart c m numbers t h i j now next less at_now at_next =
    let a = came c m numbers t h i now at_now in
    let b = came c m numbers t h j next at_next in
    let r = a.was in
    let s = b.was in
    let a_first = a.first in
    let a_len = a.len in
    let a_grows = a.grows in
    let b_first = b.first in
    let b_len = b.len in
    let b_grows = b.grows in
    let long = h.kept.long in
    let r_fits = token_within t h.kept i r a.at in
    let s_fits = token_within t h.kept j s b.at in
    elim (old_apart t h.kept i j r s less a.at b.at) [
      | inl e ↦ let grows = place_grows c m t.labels.spots (r.first + r.place.len) s.first e (omega arith) in inl (omega arith)
      | inr e ↦ let grows = place_grows c m t.labels.spots (s.first + s.place.len) r.first e (omega arith) in inr (omega arith)
    ]

-- the numbers of a token's characters are told
pub are_numbered : (c m : ℕ) (numbers : List ℕ) (t : Table) → ResizeIn c m numbers t → AreNumbered t.tokens numbers
are_numbered c m numbers t h = record {
  first = λ k r at. let fits = token_within t h.kept k r at in let long = h.kept.long in (place c m t.labels.spots r.first, h.numbers_are.each r.first (omega arith));
  ends = λ k r at. let fits = token_within t h.kept k r at in let long = h.kept.long in (place c m t.labels.spots (r.first + r.place.len), h.numbers_are.each (r.first + r.place.len) (omega arith));
  grows = λ k r at.
      let fits = token_within t h.kept k r at in
      let long = h.kept.long in
      let first = new_number c m numbers t h r.first (omega arith) in
      let end = new_number c m numbers t h (r.first + r.place.len) (omega arith) in
      let grows = place_grows c m t.labels.spots r.first (r.first + r.place.len) (omega arith) (omega arith) in
      omega arith;
}

-- no token ends too far on
pub new_fits : (c m : ℕ) (numbers : List ℕ) (t : Table) → ResizeIn c m numbers t → ((token : Part) → IsAdded t token → (moved_to c m t (end_of token)).at < 2 ^ 32) → Fits (new_tokens numbers t)
new_fits c m numbers t h within k now at =
    let w = came c m numbers t h k now at in
    let end = end_at c m numbers t k now w in
    let fits = within w.was.place (k, now_at (λ (r : Added). r.place) t.tokens k w.was w.at) in
    omega arith

-- and its numbers are those of characters
pub new_within : (c m : ℕ) (numbers : List ℕ) (t : Table) → ResizeIn c m numbers t → (k : ℕ) (now : Added) → slice_get (new_tokens numbers t) k ≡ Some now → now.first + now.place.len ≤ place c m t.labels.spots (length t.labels.spots)
new_within c m numbers t h k now at =
    let w = came c m numbers t h k now at in
    let r = w.was in
    let first = w.first in
    let len = w.len in
    let grows = w.grows in
    let fits = token_within t h.kept k r w.at in
    let long = h.kept.long in
    let most = place_grows c m t.labels.spots (r.first + r.place.len) (length t.labels.spots) (omega arith) (omega arith) in
    omega arith
