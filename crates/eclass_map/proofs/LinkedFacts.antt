-- A join of numbers, told of positions.
use Rattle.std.proofs.Common.{◌≡◌, ℕ, ◌+◌, ◌-◌, ◌<◌, ◌≤◌, List, length, refl, ap, sym, ◌∙◌, inl, inr, arith, subst, Option, Some, None}
use Rattle.std.specs.Prelude.{slice_get}
use Rattle.std.specs.Option.{option_and_then}
use Rattle.std.proofs.lemmas.List.{length-map}
use Rattle.std.proofs.lemmas.Option.{none-some, same_Some, slice_get_within}
use Rattle.cs_base.specs.declared.positions.Pos.{Pos}
use Rattle.cs_base.specs.Token.{Token, origin_at}
use Rattle.cs_base.proofs.OriginLemmas.{origin_cases}
use Rattle.eclass_map.specs.declared.token_list.Added.{Added}
use Rattle.class_labels.specs.declared.spots.Spot.{Spot}
use Rattle.class_labels.specs.Chain.{Chain, Least}
use Rattle.class_labels.specs.Chain.Chain.{here, along as step_along, back as step_back}
use Rattle.class_labels.specs.Labels.{Labels, spot}
use Rattle.eclass_map.specs.Positions.{along, index_at, number_of, numbers, Begins}
use Rattle.class_labels.specs.Runs.{BeginsAt}
use Rattle.class_labels.specs.Walk.{Forced, AtPlace}
use Rattle.eclass_map.specs.ClassTable.{Table, label, IsHeld, Same, IsLinked, SameOrLinked, AreWhole}
use Rattle.eclass_map.specs.Kept.{IsKept}
use Rattle.class_labels.proofs.ListFacts.{now_at, was_at}
use Rattle.class_labels.proofs.LookFacts.{look_below}
use Rattle.eclass_map.proofs.TokenFacts.{index_of_token}
use Rattle.class_labels.proofs.JoinFacts.{Walked}
use Rattle.eclass_map.proofs.WholeFacts.{each_held_at, number_of_origin, WholeNumbers, whole_numbers}

-- each token's numbers are those of characters
pub token_within : (t : Table) → IsKept t → (k : ℕ) (r : Added) → slice_get t.tokens k ≡ Some r → r.first + r.place.len ≤ length t.places
token_within t kept k r at =
    let some : 0 < r.place.len = kept.tokens.some k r at in
    let last = index_of_token t.tokens k r (r.place.len - 1) kept.tokens at (omega arith) in
    let p = along r.place.start (r.place.len - 1) in
    let within : r.first + (r.place.len - 1) < length t.places = slice_get_within t.places (r.first + (r.place.len - 1)) p (kept.placed p (r.first + (r.place.len - 1)) last) in
    omega arith

-- a labelled position has a number
pub record Numbered (t : Table) (p : Pos) (s : Spot) : Type 0 where
  pub number : ℕ
  pub at : index_at t.tokens p ≡ Some number
  pub spot_at : slice_get t.labels.spots number ≡ Some s

numbered_cases : (spots : List Spot) (o : Option ℕ) (s : Spot) → option_and_then (λ i. slice_get spots i) o ≡ Some s → (i : ℕ) × (o ≡ Some i) × (slice_get spots i ≡ Some s)
numbered_cases spots None s e = absurd (none-some s e)
numbered_cases spots (Some i) s e = (i, refl, e)

pub numbered : (t : Table) (p : Pos) (s : Spot) → label t p ≡ Some s → Numbered t p s
numbered t p s e = let n = numbered_cases t.labels.spots (index_at t.tokens p) s e in record { number = n.0; at = n.1; spot_at = n.2 }

pub label_of : (t : Table) (p : Pos) (i : ℕ) → index_at t.tokens p ≡ Some i → label t p ≡ slice_get t.labels.spots i
label_of t p i e = ap (λ o. option_and_then (λ i. slice_get t.labels.spots i) o) e

pub number_within : (t : Table) → IsKept t → (p : Pos) (i : ℕ) → index_at t.tokens p ≡ Some i → i < length t.labels.spots
number_within t kept p i e = let w : i < length t.places = slice_get_within t.places i p (kept.placed p i e) in let l = kept.long in omega arith

-- the position of a number
pub position_of : (t : Table) → IsKept t → (i : ℕ) → i < length t.labels.spots → (p : Pos) × (index_at t.tokens p ≡ Some i)
position_of t kept i below =
    let p = look_below t.places i (let l = kept.long in omega arith) in
    (p.0, kept.numbered i p.0 p.1)

-- what `join` is given
pub record JoinIn (t : Table) (x y : Token) : Type 0 where
  pub kept : IsKept t
  pub whole_x : AreWhole t x.origins
  pub whole_y : AreWhole t y.origins
  pub even : length x.origins ≡ length y.origins

abbrev pub numbers_in : Table → Token → List ℕ
numbers_in t x = numbers t.tokens x.origins

abbrev pub ForcedIn : Table → Token → Token → ℕ → ℕ → Type 0
ForcedIn t x y p q = Forced (numbers_in t x) (numbers_in t y) t.labels p q

begins_all : (t : Table) (kept : IsKept t) (x : Token) → WholeNumbers t x.origins → BeginsAt t.labels (numbers_in t x) 0
begins_all t kept x whole z at =
    let b = whole.first z at in
    let r = b.1 in
    let some = kept.tokens.some b.0 r b.2 in
    let within : r.first + r.place.len ≤ length t.places = token_within t kept b.0 r b.2 in
    let z_is : r.first ≡ z = b.3 in
    let l = kept.long in
    let s = look_below t.labels.spots z (omega arith) in
    let none : s.0.offset ≡ 0 = kept.opens z s.0 b s.1 in
    let same : s.0 ≡ spot s.0.class 0 = λ i. record { class = s.0.class; offset = none i } in
    (s.0.class, s.1 ∙ ap Some same)

pub join_place : (t : Table) (x y : Token) → JoinIn t x y → AtPlace (Begins t.tokens) (ForcedIn t x y) (length t.places) 0 (numbers_in t x) (numbers_in t y) t.labels
join_place t x y h =
    let whole_x = whole_numbers t h.kept (token_within t h.kept) x.origins h.whole_x in
    let whole_y = whole_numbers t h.kept (token_within t h.kept) y.origins h.whole_y in
    record {
      walk = record {
        table = h.kept.table;
        opens = h.kept.opens;
        least = λ p q s at_p at_q. step_along (inl (at_p ∙ sym at_q)) here;
        opened = λ i c at. let o = h.kept.opened i c at in (o.0, o.1, step_along (inl (at ∙ sym o.2)) here);
      };
      long = h.kept.long;
      even = length-map x.origins (number_of t.tokens) ∙ h.even ∙ sym (length-map y.origins (number_of t.tokens));
      first = whole_x.runs;
      second = whole_y.runs;
      linked = λ k p q least at_p at_q. inr (record { place = k; first = at_p; second = at_q });
      begins_x = begins_all t h.kept x whole_x;
      begins_y = begins_all t h.kept y whole_y;
    }

-- the table afterwards
abbrev pub with_labels : Table → Labels → Table
with_labels t u = record { tokens = t.tokens; places = t.places; labels = u }

-- characters that a join forces together are labelled alike by it
forced_holds : (t : Table) (x y : Token) (u : Labels) → Walked (Begins t.tokens) (ForcedIn t x y) 0 (numbers_in t x) (numbers_in t y) t.labels u → (i j : ℕ) → ForcedIn t x y i j → slice_get u.spots i ≡ slice_get u.spots j
forced_holds t x y u w i j h = elim h [ inl e ↦ w.grows i j e | inr pair ↦ w.pairs pair.place i j (omega arith) pair.first pair.second ]

chain_holds : (t : Table) (x y : Token) (u : Labels) → Walked (Begins t.tokens) (ForcedIn t x y) 0 (numbers_in t x) (numbers_in t y) t.labels u → (i j : ℕ) → Chain (ForcedIn t x y) i j → slice_get u.spots i ≡ slice_get u.spots j
chain_holds t x y u w i j here = refl
chain_holds t x y u w i j (step_along s c) = forced_holds t x y u w i _ s ∙ chain_holds t x y u w _ j c
chain_holds t x y u w i j (step_back s c) = sym (forced_holds t x y u w _ i s) ∙ chain_holds t x y u w _ j c

pub join_kept : (t : Table) (x y : Token) (u : Labels) → JoinIn t x y → Walked (Begins t.tokens) (ForcedIn t x y) 0 (numbers_in t x) (numbers_in t y) t.labels u → IsKept (with_labels t u)
join_kept t x y u h w = record {
  table = w.walk.table;
  tokens = h.kept.tokens;
  long = h.kept.long ∙ sym w.as_long;
  short = h.kept.short;
  placed = h.kept.placed;
  numbered = h.kept.numbered;
  ends = h.kept.ends;
  fits = h.kept.fits;
  opens = w.walk.opens;
  opened = λ i c at. let o = w.walk.opened i c at in (o.0, o.1, sym (chain_holds t x y u w i o.0 o.2) ∙ at);
}

-- one forced step, told of positions
pub record Raised (t : Table) (x y : Token) (p : Pos) (j : ℕ) : Type 0 where
  pub to : Pos
  pub at : index_at t.tokens to ≡ Some j
  pub step : SameOrLinked t x y p to

pub record Lowered (t : Table) (x y : Token) (p : Pos) (j : ℕ) : Type 0 where
  pub to : Pos
  pub at : index_at t.tokens to ≡ Some j
  pub step : SameOrLinked t x y to p

-- the position of an origin by its number
origin_of : (t : Table) (kept : IsKept t) (x : Token) (whole : WholeNumbers t x.origins) (k i : ℕ) (p : Pos) → slice_get (numbers_in t x) k ≡ Some i → index_at t.tokens p ≡ Some i → origin_at x k ≡ Some p
origin_of t kept x whole k i p at there =
    let w = was_at (number_of t.tokens) x.origins k i at in
    let h = each_held_at t.tokens x.origins k w.was whole.held w.at in
    let same : h.number ≡ i = sym (number_of_origin t.tokens w.was h) ∙ w.is in
    let P : ℕ → Type 0 = λ v. slice_get t.places v ≡ Some h.position in
    let position : h.position ≡ p = same_Some h.position p (sym (subst P same (kept.placed h.position h.number h.at)) ∙ kept.placed p i there) in
    ap (λ o. option_and_then (λ origin. origin) o) w.at ∙ h.is ∙ ap Some position

origin_there : (t : Table) (x : Token) (whole : WholeNumbers t x.origins) (k i : ℕ) → slice_get (numbers_in t x) k ≡ Some i → (p : Pos) × (index_at t.tokens p ≡ Some i)
origin_there t x whole k i at =
    let w = was_at (number_of t.tokens) x.origins k i at in
    let h = each_held_at t.tokens x.origins k w.was whole.held w.at in
    (h.position, h.at ∙ ap Some (sym (number_of_origin t.tokens w.was h) ∙ w.is))

same_numbers : (t : Table) (kept : IsKept t) (p q : Pos) (i j : ℕ) → index_at t.tokens p ≡ Some i → index_at t.tokens q ≡ Some j → slice_get t.labels.spots i ≡ slice_get t.labels.spots j → Same t p q
same_numbers t kept p q i j at_p at_q e =
    let s = look_below t.labels.spots i (number_within t kept p i at_p) in
    record { at = s.0; first = label_of t p i at_p ∙ s.1; second = label_of t q j at_q ∙ sym e ∙ s.1 }

alike_within : (t : Table) (kept : IsKept t) (p : Pos) (i j : ℕ) → index_at t.tokens p ≡ Some i → slice_get t.labels.spots i ≡ slice_get t.labels.spots j → j < length t.labels.spots
alike_within t kept p i j at e = let s = look_below t.labels.spots i (number_within t kept p i at) in slice_get_within t.labels.spots j s.0 (sym e ∙ s.1)

raise : (t : Table) (x y : Token) (h : JoinIn t x y) (p : Pos) (i j : ℕ) → index_at t.tokens p ≡ Some i → ForcedIn t x y i j → Raised t x y p j
raise t x y h p i j at forced = elim forced [
  | inl e ↦
      let q = position_of t h.kept j (alike_within t h.kept p i j at e) in
      record { to = q.0; at = q.1; step = inl (same_numbers t h.kept p q.0 i j at q.1 e) }
  | inr pair ↦
      let whole_x = whole_numbers t h.kept (token_within t h.kept) x.origins h.whole_x in
      let whole_y = whole_numbers t h.kept (token_within t h.kept) y.origins h.whole_y in
      let q = origin_there t y whole_y pair.place j pair.second in
      record { to = q.0; at = q.1; step = inr (record { place = pair.place; first = origin_of t h.kept x whole_x pair.place i p pair.first at; second = origin_of t h.kept y whole_y pair.place j q.0 pair.second q.1 }) }
]

lower : (t : Table) (x y : Token) (h : JoinIn t x y) (p : Pos) (i j : ℕ) → index_at t.tokens p ≡ Some i → ForcedIn t x y j i → Lowered t x y p j
lower t x y h p i j at forced = elim forced [
  | inl e ↦
      let q = position_of t h.kept j (alike_within t h.kept p i j at (sym e)) in
      record { to = q.0; at = q.1; step = inl (same_numbers t h.kept q.0 p j i q.1 at e) }
  | inr pair ↦
      let whole_x = whole_numbers t h.kept (token_within t h.kept) x.origins h.whole_x in
      let whole_y = whole_numbers t h.kept (token_within t h.kept) y.origins h.whole_y in
      let q = origin_there t x whole_x pair.place j pair.first in
      record { to = q.0; at = q.1; step = inr (record { place = pair.place; first = origin_of t h.kept x whole_x pair.place j q.0 pair.first q.1; second = origin_of t h.kept y whole_y pair.place i p pair.second at }) }
]

chain_up : (t : Table) (x y : Token) (h : JoinIn t x y) (p q : Pos) (i j : ℕ) → index_at t.tokens p ≡ Some i → index_at t.tokens q ≡ Some j → Chain (ForcedIn t x y) i j → Chain (SameOrLinked t x y) p q
chain_up t x y h p q i j at_p at_q here =
    let same : p ≡ q = same_Some p q (sym (h.kept.placed p i at_p) ∙ h.kept.placed q i at_q) in
    let P : Pos → Type 0 = λ v. Chain (SameOrLinked t x y) p v in
    subst P same here
chain_up t x y h p q i j at_p at_q (step_along s c) = let r = raise t x y h p i _ at_p s in step_along r.step (chain_up t x y h r.to q _ j r.at at_q c)
chain_up t x y h p q i j at_p at_q (step_back s c) = let r = lower t x y h p i _ at_p s in step_back r.step (chain_up t x y h r.to q _ j r.at at_q c)

-- an origin's place in its token
origin_some : (o : Option (Option Pos)) (p : Pos) → option_and_then (λ origin. origin) o ≡ Some p → o ≡ Some (Some p)
origin_some None p e = absurd (none-some p e)
origin_some (Some o) p e = ap Some e

linked_number : (t : Table) (x : Token) (whole : WholeNumbers t x.origins) (k : ℕ) (p : Pos) → origin_at x k ≡ Some p → (i : ℕ) × (index_at t.tokens p ≡ Some i) × (slice_get (numbers_in t x) k ≡ Some i)
linked_number t x whole k p e =
    let at = origin_cases x k p e in
    let h = each_held_at t.tokens x.origins k (Some p) whole.held at in
    let P : Pos → Type 0 = λ v. index_at t.tokens v ≡ Some h.number in
    (h.number, subst P (sym (same_Some p h.position h.is)) h.at, now_at (number_of t.tokens) x.origins k (Some p) at ∙ ap Some (number_of_origin t.tokens (Some p) h))

linked_holds : (t : Table) (x y : Token) (u : Labels) → Walked (Begins t.tokens) (ForcedIn t x y) 0 (numbers_in t x) (numbers_in t y) t.labels u → WholeNumbers t x.origins → WholeNumbers t y.origins
    → (p q : Pos) → IsLinked x y p q → label (with_labels t u) p ≡ label (with_labels t u) q
linked_holds t x y u w whole_x whole_y p q link =
    let v = with_labels t u in
    let n = linked_number t x whole_x link.place p link.first in
    let m = linked_number t y whole_y link.place q link.second in
    label_of v p n.0 n.1 ∙ w.pairs link.place n.0 m.0 (omega arith) n.2 m.2 ∙ sym (label_of v q m.0 m.1)

-- the relation that a join leaves is the least that the old one and the link force
pub join_least : (t : Table) (x y : Token) (u : Labels) → JoinIn t x y → Walked (Begins t.tokens) (ForcedIn t x y) 0 (numbers_in t x) (numbers_in t y) t.labels u → Least (SameOrLinked t x y) (label (with_labels t u))
join_least t x y u h w =
    let whole_x = whole_numbers t h.kept (token_within t h.kept) x.origins h.whole_x in
    let whole_y = whole_numbers t h.kept (token_within t h.kept) y.origins h.whole_y in
    let v = with_labels t u in
    record {
      holds = λ p q step. elim step [
        | inl same ↦
            let n = numbered t p same.at same.first in
            let m = numbered t q same.at same.second in
            label_of v p n.number n.at ∙ w.grows n.number m.number (n.spot_at ∙ sym m.spot_at) ∙ sym (label_of v q m.number m.at)
        | inr link ↦ linked_holds t x y u w whole_x whole_y p q link
      ];
      least = λ p q s at_p at_q.
          let n = numbered v p s at_p in
          let m = numbered v q s at_q in
          chain_up t x y h p q n.number m.number n.at m.at (w.walk.least n.number m.number s n.spot_at m.spot_at);
    }

-- what was held is held
pub held_after : (t : Table) (u : Labels) → IsKept t → length u.spots ≡ length t.labels.spots → (p : Pos) → IsHeld t p → IsHeld (with_labels t u) p
held_after t u kept long p held =
    let n = numbered t p held.0 held.1 in
    let below : n.number < length t.labels.spots = number_within t kept p n.number n.at in
    let s = look_below u.spots n.number (omega arith) in
    (s.0, label_of (with_labels t u) p n.number n.at ∙ s.1)

-- a linked character is held
pub linked_held : (t : Table) (x y : Token) → JoinIn t x y → (p q : Pos) → IsLinked x y p q → IsHeld t p
linked_held t x y h p q link =
    let whole_x = whole_numbers t h.kept (token_within t h.kept) x.origins h.whole_x in
    let n = linked_number t x whole_x link.place p link.first in
    let s = look_below t.labels.spots n.0 (number_within t h.kept p n.0 n.1) in
    (s.0, label_of t p n.0 n.1 ∙ s.1)
