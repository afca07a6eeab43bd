-- Which added token holds a character.
use Rattle.std.proofs.Common.{◌≡◌, ℕ, ◌+◌, ◌-◌, ◌<◌, ◌≤◌, true, false, eqb, ltb, leb, List, [], ◌∷◌, zero, suc, refl, ap, sym, ◌∙◌, inl, inr, arith, subst, Some, None}
use Rattle.std.specs.Prelude.{slice_get, ◌&&◌}
use Rattle.std.proofs.lemmas.Option.{none-some, same_Some}
use Rattle.std.proofs.lemmas.Bool.{cases_Bool, cases_eq, cases_lt, cond-true, cond-false, and_parts, or_cases, eqb-true, ltb-true, leb-true, eq-eqb, lt-ltb, le-leb, and_from, or_left, or_right, both_ways, false_from_ne_true}
use Rattle.cs_base.specs.declared.positions.Pos.{Pos}
use Rattle.cs_base.specs.declared.positions.Part.{Part}
use Rattle.eclass_map.specs.declared.token_list.Added.{Added}
use Rattle.eclass_map.specs.Positions.{along, holds, index_at, begins_by, Before, AreTokens}

-- what a read past the end would give
abbrev pub no_added : Added
no_added = record { place = record { start = record { file = 0; at = 0 }; len = 0 }; first = 0 }

-- the test of holding, as facts
pub record Holding (part : Part) (p : Pos) : Type 0 where
  pub file : part.start.file ≡ p.file
  pub from : part.start.at ≤ p.at
  pub less : p.at - part.start.at < part.len

pub holding : (part : Part) (p : Pos) → holds part p ≡ true → Holding part p
holding part p e =
    let both = and_parts (eqb part.start.file p.file) (leb part.start.at p.at && ltb (p.at - part.start.at) part.len) e in
    let two = and_parts (leb part.start.at p.at) (ltb (p.at - part.start.at) part.len) both.1 in
    record { file = eqb-true part.start.file p.file both.0; from = leb-true part.start.at p.at two.0; less = ltb-true (p.at - part.start.at) part.len two.1 }

pub holds_from : (part : Part) (p : Pos) → Holding part p → holds part p ≡ true
holds_from part p h =
    and_from (eqb part.start.file p.file) (leb part.start.at p.at && ltb (p.at - part.start.at) part.len) (eq-eqb part.start.file p.file h.file)
    (and_from (leb part.start.at p.at) (ltb (p.at - part.start.at) part.len) (le-leb part.start.at p.at h.from) (lt-ltb (p.at - part.start.at) part.len h.less))

pub holds_along : (part : Part) (o : ℕ) → o < part.len → holds part (along part.start o) ≡ true
holds_along part o less = holds_from part (along part.start o) (record { file = refl; from = omega arith; less = omega arith })

-- begun, as facts
pub data Begun (r : Added) (p : Pos) : Type 0 where
  file_before : r.place.start.file < p.file → Begun r p
  same_file : r.place.start.file ≡ p.file → r.place.start.at ≤ p.at → Begun r p

pub begun : (r : Added) (p : Pos) → begins_by r p ≡ true → Begun r p
begun r p e = elim (or_cases (ltb r.place.start.file p.file) (eqb r.place.start.file p.file && leb r.place.start.at p.at) e) [
  | inl f ↦ file_before (ltb-true r.place.start.file p.file f)
  | inr f ↦ let both = and_parts (eqb r.place.start.file p.file) (leb r.place.start.at p.at) f in same_file (eqb-true r.place.start.file p.file both.0) (leb-true r.place.start.at p.at both.1)
]

pub begun_from : (r : Added) (p : Pos) → Begun r p → begins_by r p ≡ true
begun_from r p (file_before h) = or_left (ltb r.place.start.file p.file) (eqb r.place.start.file p.file && leb r.place.start.at p.at) (lt-ltb r.place.start.file p.file h)
begun_from r p (same_file e h) = or_right (ltb r.place.start.file p.file) (eqb r.place.start.file p.file && leb r.place.start.at p.at)
    (and_from (eqb r.place.start.file p.file) (leb r.place.start.at p.at) (eq-eqb r.place.start.file p.file e) (le-leb r.place.start.at p.at h))

-- what holds a character has begun by it
pub begun_where_held : (r : Added) (p : Pos) → holds r.place p ≡ true → begins_by r p ≡ true
begun_where_held r p e = let h = holding r.place p e in begun_from r p (same_file h.file h.from)

-- what comes before a token that has begun has begun
pub begun_before : (r s : Added) (p : Pos) → Before r.place s.place → begins_by s p ≡ true → begins_by r p ≡ true
begun_before r s p before e = begun_from r p (elim (begun s p e) [
  | file_before h ↦ elim before [ inl f ↦ file_before (omega arith) | inr f ↦ let g = f.0 in file_before (omega arith) ]
  | same_file g h ↦ elim before [ inl f ↦ file_before (omega arith) | inr f ↦ let k = f.0 in let l = f.1 in same_file (omega arith) (omega arith) ]
])

-- and does not hold the character
pub not_held_before : (r s : Added) (p : Pos) → Before r.place s.place → begins_by s p ≡ true → holds r.place p ≡ true → ⊥
not_held_before r s p before e held =
    let h = holding r.place p held in
    let file = h.file in
    let from = h.from in
    let less = h.less in
    elim (begun s p e) [
      | file_before g ↦ elim before [ inl f ↦ omega arith | inr f ↦ let k = f.0 in omega arith ]
      | same_file g l ↦ elim before [ inl f ↦ omega arith | inr f ↦ let k = f.0 in let m = f.1 in omega arith ]
    ]

-- no token holds the character
pub index_at_none : (tokens : List Added) (p : Pos) → ((k : ℕ) (r : Added) → slice_get tokens k ≡ Some r → holds r.place p ≡ true → ⊥) → index_at tokens p ≡ None
unfolding index_at
index_at_none [] p h = refl
index_at_none (r ∷ rs) p h =
    cond-false (holds r.place p) (Some (r.first + (p.at - r.place.start.at))) (index_at rs p) (false_from_ne_true (holds r.place p) (h 0 r refl))
    ∙ index_at_none rs p (λ k s at. h (suc k) s at)

-- the one that holds it
pub index_at_some : (tokens : List Added) (p : Pos) (k : ℕ) (r : Added) → slice_get tokens k ≡ Some r → holds r.place p ≡ true → ((j : ℕ) (s : Added) → j < k → slice_get tokens j ≡ Some s → holds s.place p ≡ true → ⊥)
    → index_at tokens p ≡ Some (r.first + (p.at - r.place.start.at))
unfolding index_at
index_at_some [] p k r at held others = absurd (none-some r at)
index_at_some (s ∷ rs) p zero r at held others =
    let e : s ≡ r = same_Some s r at in
    let P : Added → Type 0 = λ v. holds v.place p ≡ true in
    cond-true (holds s.place p) (Some (s.first + (p.at - s.place.start.at))) (index_at rs p) (subst P (sym e) held) ∙ ap (λ (v : Added). Some (v.first + (p.at - v.place.start.at))) e
index_at_some (s ∷ rs) p (suc k) r at held others =
    cond-false (holds s.place p) (Some (s.first + (p.at - s.place.start.at))) (index_at rs p) (false_from_ne_true (holds s.place p) (others 0 s (omega arith) refl))
    ∙ index_at_some rs p k r at held (λ j u less there. others (suc j) u (omega arith) there)

-- the token that a number comes from
pub record FoundIn (tokens : List Added) (p : Pos) (i : ℕ) : Type 0 where
  pub place : ℕ
  pub token : Added
  pub at : slice_get tokens place ≡ Some token
  pub held : holds token.place p ≡ true
  pub is : token.first + (p.at - token.place.start.at) ≡ i

pub found_in : (tokens : List Added) (p : Pos) (i : ℕ) → index_at tokens p ≡ Some i → FoundIn tokens p i
unfolding index_at
found_in [] p i e = absurd (none-some i e)
found_in (r ∷ rs) p i e = elim (cases_Bool (holds r.place p)) [
  | inl held ↦ record { place = 0; token = r; at = refl; held = held; is = same_Some (r.first + (p.at - r.place.start.at)) i (sym (cond-true (holds r.place p) (Some (r.first + (p.at - r.place.start.at))) (index_at rs p) held) ∙ e) }
  | inr not_held ↦
      let f = found_in rs p i (sym (cond-false (holds r.place p) (Some (r.first + (p.at - r.place.start.at))) (index_at rs p) not_held) ∙ e) in
      record { place = suc f.place; token = f.token; at = f.at; held = f.held; is = f.is }
]

-- in order, a token's own characters have its numbers
pub index_of_token : (tokens : List Added) (k : ℕ) (r : Added) (o : ℕ) → AreTokens tokens → slice_get tokens k ≡ Some r → o < r.place.len → index_at tokens (along r.place.start o) ≡ Some (r.first + o)
index_of_token tokens k r o are at less =
    let p = along r.place.start o in
    let held = holds_along r.place o less in
    let same : r.first + (p.at - r.place.start.at) ≡ r.first + o = omega arith in
    index_at_some tokens p k r at held (λ j s before there h. not_held_before s r p (are.ordered j k s r before there at) (begun_where_held r p held) h) ∙ ap Some same

-- a held character is so far along in its holder
pub along_of : (part : Part) (p : Pos) → Holding part p → along part.start (p.at - part.start.at) ≡ p
along_of part p h =
    let from = h.from in
    let at : part.start.at + (p.at - part.start.at) ≡ p.at = omega arith in
    λ i. record { file = h.file i; at = at i }

-- the number of a character that a token holds
pub index_of_holder : (tokens : List Added) (j : ℕ) (r : Added) (p : Pos) → AreTokens tokens → slice_get tokens j ≡ Some r → holds r.place p ≡ true → index_at tokens p ≡ Some (r.first + (p.at - r.place.start.at))
index_of_holder tokens j r p are at held =
    let w = holding r.place p held in
    let P : Pos → Type 0 = λ v. index_at tokens v ≡ Some (r.first + (p.at - r.place.start.at)) in
    subst P (along_of r.place p w) (index_of_token tokens j r (p.at - r.place.start.at) are at w.less)

-- what a search by halving found
pub record Halved (tokens : List Added) (p : Pos) (count : ℕ) : Type 0 where
  pub before : (k : ℕ) (r : Added) → k < count → slice_get tokens k ≡ Some r → begins_by r p ≡ true
  pub behind : (k : ℕ) (r : Added) → count ≤ k → slice_get tokens k ≡ Some r → begins_by r p ≡ false

pub found_none : (tokens : List Added) (p : Pos) (count : ℕ) → Halved tokens p count → count ≤ 0 → index_at tokens p ≡ None
found_none tokens p count h none = index_at_none tokens p (λ k r at held. both_ways (begins_by r p) (h.behind k r (omega arith) at) (begun_where_held r p held))

pub found_not : (tokens : List Added) (p : Pos) (count : ℕ) (r : Added) → AreTokens tokens → Halved tokens p count → 0 < count → slice_get tokens (count - 1) ≡ Some r → holds r.place p ≡ false → index_at tokens p ≡ None
found_not tokens p count r are h some at not_held = index_at_none tokens p (λ k s there held. elim (cases_lt k count) [
  | inl less ↦ elim (cases_eq k (count - 1)) [
    | inl e ↦
        let P : ℕ → Type 0 = λ v. slice_get tokens v ≡ Some s in
        let same : s ≡ r = same_Some s r (sym (subst P e there) ∙ at) in
        let Q : Added → Type 0 = λ v. holds v.place p ≡ true in
        both_ways (holds r.place p) not_held (subst Q same held)
    | inr ne ↦ not_held_before s r p (are.ordered k (count - 1) s r (omega arith) there at) (h.before (count - 1) r (omega arith) at) held
  ]
  | inr most ↦ both_ways (begins_by s p) (h.behind k s most there) (begun_where_held s p held)
])

pub found_here : (tokens : List Added) (p : Pos) (count : ℕ) (r : Added) → AreTokens tokens → Halved tokens p count → 0 < count → slice_get tokens (count - 1) ≡ Some r → holds r.place p ≡ true
    → index_at tokens p ≡ Some (r.first + (p.at - r.place.start.at))
found_here tokens p count r are h some at held = index_at_some tokens p (count - 1) r at held (λ j s before there other. not_held_before s r p (are.ordered j (count - 1) s r before there at) (begun_where_held r p held) other)

pub halve_down : (tokens : List Added) (p : Pos) (middle : ℕ) (r : Added) → AreTokens tokens → slice_get tokens middle ≡ Some r → begins_by r p ≡ false
    → (k : ℕ) (s : Added) → middle ≤ k → slice_get tokens k ≡ Some s → begins_by s p ≡ false
halve_down tokens p middle r are at no' k s least there = false_from_ne_true (begins_by s p) (λ begins. both_ways (begins_by r p) no' (elim (cases_eq k middle) [
  | inl e ↦
      let P : ℕ → Type 0 = λ v. slice_get tokens v ≡ Some s in
      let Q : Added → Type 0 = λ v. begins_by v p ≡ true in
      subst Q (same_Some s r (sym (subst P e there) ∙ at)) begins
  | inr ne ↦ begun_before r s p (are.ordered middle k r s (omega arith) at there) begins
]))
