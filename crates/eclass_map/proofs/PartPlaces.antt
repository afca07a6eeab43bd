-- Where the characters of a part stand in its token, and what begins a part.
use Rattle.std.proofs.Common.{◌≡◌, ℕ, ◌+◌, ◌-◌, ◌<◌, ◌≤◌, length, refl, ap, sym, ◌∙◌, inl, inr, arith, subst, Some}
use Rattle.std.specs.Prelude.{slice_get}
use Rattle.std.proofs.lemmas.Option.{same_Some, slice_get_within}
use Rattle.std.proofs.lemmas.Bool.{cases_lt, cases_order}
use Rattle.cs_base.specs.declared.positions.Pos.{Pos}
use Rattle.cs_base.specs.declared.positions.Part.{Part}
use Rattle.cs_base.proofs.PlaceLemmas.{pos_is as same_pos}
use Rattle.eclass_map.specs.declared.token_list.Added.{Added}
use Rattle.class_labels.specs.declared.spots.Spot.{Spot}
use Rattle.class_labels.specs.Labels.{spot, length_at}
use Rattle.eclass_map.specs.Positions.{along, index_at, Begins}
use Rattle.eclass_map.specs.ClassTable.{Table, label, IsStart}
use Rattle.eclass_map.specs.Kept.{IsKept}
use Rattle.class_labels.proofs.ListFacts.{now_at}
use Rattle.class_labels.proofs.StepFacts.{starts_of, after_part}
use Rattle.eclass_map.proofs.TokenFacts.{holding, found_in, index_of_token}
use Rattle.eclass_map.proofs.WholeFacts.{entry_of}
use Rattle.eclass_map.proofs.LinkedFacts.{numbered, label_of}

-- where a character stands in its token
pub record InToken (t : Table) (p : Pos) (i : ℕ) (s : Spot) : Type 0 where
  pub place : ℕ
  pub token : Added
  pub at : slice_get t.tokens place ≡ Some token
  pub file : token.place.start.file ≡ p.file
  pub depth : ℕ
  pub there : token.place.start.at + depth ≡ p.at
  pub number : token.first + depth ≡ i
  pub inside : depth < token.place.len
  -- its part begins no earlier than the token
  pub offset : s.offset ≤ depth

pub token_offset : (t : Table) → IsKept t → (k : ℕ) (r : Added) (d i : ℕ) (s : Spot) → slice_get t.tokens k ≡ Some r → r.first + d ≡ i → slice_get t.labels.spots i ≡ Some s → s.offset ≤ d
token_offset t kept k r d i s at number there = elim (cases_lt d s.offset) [
  | inr most ↦ most
  | inl less ↦
      let known = kept.table.known i s there in
      let class = kept.table.classes s.class known in
      let same : s ≡ spot s.class s.offset = λ i. record { class = s.class; offset = s.offset } in
      let a = class.found i s.offset (there ∙ ap Some same) in
      let m = s.offset - d in
      let inside = a.inside in
      let e = a.there in
      let place : a.start + m ≡ r.first = omega arith in
      let P : ℕ → Type 0 = λ v. slice_get t.labels.spots v ≡ Some (spot s.class m) in
      let begins : Begins t.tokens r.first = (k, r, at, refl) in
      let none : m ≡ 0 = kept.opens r.first (spot s.class m) begins (subst P place (class.whole a.start m a.among (omega arith))) in
      omega arith
]

pub in_token : (t : Table) → IsKept t → (p : Pos) (i : ℕ) (s : Spot) → index_at t.tokens p ≡ Some i → slice_get t.labels.spots i ≡ Some s → InToken t p i s
in_token t kept p i s at there =
    let f = found_in t.tokens p i at in
    let h = holding f.token.place p f.held in
    let from = h.from in
    record {
      place = f.place;
      token = f.token;
      at = f.at;
      file = h.file;
      depth = p.at - f.token.place.start.at;
      there = omega arith;
      number = f.is;
      inside = h.less;
      offset = token_offset t kept f.place f.token (p.at - f.token.place.start.at) i s f.at f.is there;
    }

-- how deep in its token each character of a part lies
pub part_depth : (t : Table) → IsKept t → (p : Pos) (i c k : ℕ) (r : Added) (d : ℕ) → slice_get t.labels.spots i ≡ Some (spot c 0) → slice_get t.tokens k ≡ Some r → r.first + d ≡ i → d < r.place.len
    → (o : ℕ) → o < length_at t.labels c → d + o < r.place.len
part_depth t kept p i c k r d there at number inside o less =
    let start = starts_of t.labels i c kept.table there in
    let class = kept.table.classes c start.known in
    let long = kept.long in
    elim (cases_lt (d + o) r.place.len) [
      | inl l ↦ l
      | inr most ↦
          let e = r.place.len - d in
          let behind = class.whole i e start.among (omega arith) in
          let place : i + e ≡ r.first + r.place.len = omega arith in
          elim (kept.ends k r at) [
            | inl end ↦ let within : i + e < length t.labels.spots = slice_get_within t.labels.spots (i + e) (spot c e) behind in absurd (omega arith)
            | inr begins ↦
                let P : ℕ → Type 0 = λ v. Begins t.tokens v in
                let none : e ≡ 0 = kept.opens (i + e) (spot c e) (subst P (sym place) begins) behind in
                absurd (omega arith)
          ]
    ]

-- the characters of a part, by position
pub record PartPlace (t : Table) (p : Pos) (i c o : ℕ) : Type 0 where
  pub index : index_at t.tokens (along p o) ≡ Some (i + o)
  pub is : slice_get t.labels.spots (i + o) ≡ Some (spot c o)

pub part_place : (t : Table) → IsKept t → (p : Pos) (i c : ℕ) → index_at t.tokens p ≡ Some i → slice_get t.labels.spots i ≡ Some (spot c 0) → (o : ℕ) → o < length_at t.labels c → PartPlace t p i c o
part_place t kept p i c at there o less =
    let w = in_token t kept p i (spot c 0) at there in
    let r = w.token in
    let d = w.depth in
    let start = starts_of t.labels i c kept.table there in
    let class = kept.table.classes c start.known in
    let number = w.number in
    let fits : d + o < r.place.len = part_depth t kept p i c w.place r d there w.at w.number w.inside o less in
    let file = w.file in
    let at_there = w.there in
    let position : along r.place.start (d + o) ≡ along p o = same_pos (along r.place.start (d + o)) (along p o) file (omega arith) in
    let P : Pos → Type 0 = λ v. index_at t.tokens v ≡ Some (r.first + (d + o)) in
    let same : r.first + (d + o) ≡ i + o = omega arith in
    record { index = subst P position (index_of_token t.tokens w.place r (d + o) kept.tokens w.at fits) ∙ ap Some same; is = class.whole i o start.among less }

pub part_label : (t : Table) → IsKept t → (p : Pos) (i c : ℕ) → index_at t.tokens p ≡ Some i → slice_get t.labels.spots i ≡ Some (spot c 0) → (o : ℕ) → o < length_at t.labels c → label t (along p o) ≡ Some (spot c o)
part_label t kept p i c at there o less = let w = part_place t kept p i c at there o less in label_of t (along p o) (i + o) w.index ∙ w.is

-- what begins a token begins a part
pub token_label : (t : Table) → IsKept t → (k : ℕ) (r : Added) (s : Spot) → slice_get t.tokens k ≡ Some r → label t r.place.start ≡ Some s → s.offset ≡ 0
token_label t kept k r s at e =
    let n = numbered t r.place.start s e in
    let start : along r.place.start 0 ≡ r.place.start = same_pos (along r.place.start 0) r.place.start refl (omega arith) in
    let P : Pos → Type 0 = λ v. index_at t.tokens v ≡ Some (r.first + 0) in
    let own = subst P start (index_of_token t.tokens k r 0 kept.tokens at (kept.tokens.some k r at)) in
    let first : n.number ≡ r.first = let f : n.number ≡ r.first + 0 = same_Some n.number (r.first + 0) (sym n.at ∙ own) in omega arith in
    kept.opens n.number s (k, r, at, sym first) n.spot_at

pub start_offset : (t : Table) → IsKept t → (p : Pos) (s : Spot) → IsStart t p → label t p ≡ Some s → s.offset ≡ 0
start_offset t kept p s start e =
    let token = start.1.0 in
    let entry = entry_of t token start.1.1 in
    let q_is : entry.entry.place.start ≡ start.0 = ap (λ (v : Part). v.start) entry.is ∙ start.1.2 in
    let same = start.2 in
    let none : same.at.offset ≡ 0 = token_label t kept entry.index entry.entry same.at entry.at (ap (λ v. label t v) q_is ∙ same.second) in
    ap (λ (u : Spot). u.offset) (same_Some s same.at (sym e ∙ same.first)) ∙ none

pub start_begun : (t : Table) → IsKept t → (p : Pos) (c : ℕ) → label t p ≡ Some (spot c 0) → IsStart t p
start_begun t kept p c e =
    let n = numbered t p (spot c 0) e in
    let o = kept.opened n.number c n.spot_at in
    let k = o.1.0 in
    let r = o.1.1 in
    let at = o.1.2 in
    let first = o.1.3 in
    let start : along r.place.start 0 ≡ r.place.start = same_pos (along r.place.start 0) r.place.start refl (omega arith) in
    let P : Pos → Type 0 = λ v. index_at t.tokens v ≡ Some (r.first + 0) in
    let own = subst P start (index_of_token t.tokens k r 0 kept.tokens at (kept.tokens.some k r at)) in
    let place : r.first + 0 ≡ o.0 = omega arith in
    let second : label t r.place.start ≡ Some (spot c 0) = label_of t r.place.start (r.first + 0) own ∙ ap (λ v. slice_get t.labels.spots v) place ∙ o.2 in
    (r.place.start, (r.place, (k, now_at (λ (v : Added). v.place) t.tokens k r at), refl), record { at = spot c 0; first = e; second = second })

-- another token that holds the character directly behind a token begins there
pub next_token : (t : Table) → IsKept t → (k j : ℕ) (r u : Added) (e : ℕ) → slice_get t.tokens k ≡ Some r → slice_get t.tokens j ≡ Some u → r.place.start.file ≡ u.place.start.file
    → u.place.start.at + e ≡ r.place.start.at + r.place.len → e < u.place.len → e ≡ 0
next_token t kept k j r u e at_k at_j file there inside = elim (cases_order k j) [
  | inl same ↦
      let P : ℕ → Type 0 = λ v. slice_get t.tokens v ≡ Some u in
      let f : r ≡ u = same_Some r u (sym at_k ∙ subst P (sym same) at_j) in
      let g : r.place.start.at ≡ u.place.start.at = ap (λ (v : Added). v.place.start.at) f in
      let h : r.place.len ≡ u.place.len = ap (λ (v : Added). v.place.len) f in
      absurd (omega arith)
  | inr rest ↦ elim rest [
    | inl less ↦ elim (kept.tokens.ordered k j r u less at_k at_j) [ inl f ↦ absurd (omega arith) | inr f ↦ let g = f.1 in omega arith ]
    | inr more ↦
        let some : 0 < r.place.len = kept.tokens.some k r at_k in
        elim (kept.tokens.ordered j k u r more at_j at_k) [ inl f ↦ absurd (omega arith) | inr f ↦ let g = f.1 in absurd (omega arith) ]
  ]
]

-- what lies behind a part, where anything does, begins one
pub behind_label : (t : Table) → IsKept t → (p : Pos) (i c : ℕ) (s : Spot) → index_at t.tokens p ≡ Some i → slice_get t.labels.spots i ≡ Some (spot c 0) → label t (along p (length_at t.labels c)) ≡ Some s → s.offset ≡ 0
behind_label t kept p i c s at there e =
    let l = length_at t.labels c in
    let q = along p l in
    let start = starts_of t.labels i c kept.table there in
    let some : 1 ≤ l = kept.table.some c start.known in
    let n = numbered t q s e in
    let w = in_token t kept p i (spot c 0) at there in
    let v = in_token t kept q n.number s n.at n.spot_at in
    let last : w.depth + (l - 1) < w.token.place.len = part_depth t kept p i c w.place w.token w.depth there w.at w.number w.inside (l - 1) (omega arith) in
    let w_there = w.there in
    let w_number = w.number in
    let v_there = v.there in
    let v_number = v.number in
    let w_file = w.file in
    let v_file = v.file in
    elim (cases_lt (w.depth + l) w.token.place.len) [
      | inl less ↦
          let position : along w.token.place.start (w.depth + l) ≡ q = same_pos (along w.token.place.start (w.depth + l)) q w_file (omega arith) in
          let P : Pos → Type 0 = λ z. index_at t.tokens z ≡ Some (w.token.first + (w.depth + l)) in
          let own = subst P position (index_of_token t.tokens w.place w.token (w.depth + l) kept.tokens w.at less) in
          let number : n.number ≡ i + l = let f : n.number ≡ w.token.first + (w.depth + l) = same_Some n.number (w.token.first + (w.depth + l)) (sym n.at ∙ own) in omega arith in
          let Q : ℕ → Type 0 = λ z. slice_get t.labels.spots z ≡ Some s in
          ap (λ (u : Spot). u.offset) (after_part t.labels i l s kept.table (record { class = c; at = there; len = refl }) (subst Q number n.spot_at))
      | inr most ↦
          let none : v.depth ≡ 0 = next_token t kept w.place v.place w.token v.token v.depth w.at v.at (w_file ∙ sym v_file) (omega arith) v.inside in
          kept.opens n.number s (v.place, v.token, v.at, (let f : v.token.first ≡ n.number = omega arith in f)) n.spot_at
    ]
