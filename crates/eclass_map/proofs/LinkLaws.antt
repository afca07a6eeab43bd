-- After the joins of a list of links the table tells just what these force.
use Rattle.std.proofs.Common.{◌≡◌, ℕ, ◌+◌, ◌-◌, ◌<◌, true, List, [], ◌∷◌, ◌++◌, zero, suc, length, refl, ap, sym, ◌∙◌, inl, inr, arith, subst, Some, None}
use Rattle.std.specs.Prelude.{slice_get}
use Rattle.std.proofs.lemmas.Option.{none-some, same_Some, slice_get_within}
use Rattle.std.proofs.lemmas.Bool.{cases_lt}
use Rattle.cs_base.specs.declared.positions.Pos.{Pos}
use Rattle.cs_base.specs.declared.positions.Part.{Part}
use Rattle.cs_base.specs.Token.{Token}
use Rattle.cs_base.proofs.ListLemmas.{get-front as slice_get-append_left}
use Rattle.class_labels.specs.declared.spots.Spot.{Spot}
use Rattle.class_labels.specs.Chain.{Chain, Least}
use Rattle.class_labels.specs.Chain.Chain.{here, along as step_along, back as step_back}
use Rattle.class_labels.specs.Labels.{spot, no_labels}
use Rattle.eclass_map.specs.Positions.{along, holds, index_at}
use Rattle.eclass_map.specs.ClassTable.{Table, label, IsHeld, IsLinked, SameOrLinked, AddsToken, LinkedBy, AreLinks}
use Rattle.eclass_map.specs.Kept.{IsKept}
use Rattle.class_labels.proofs.AddFacts.{slice_get-append_right}
use Rattle.eclass_map.proofs.TokenFacts.{Holding, holding}
use Rattle.class_labels.proofs.WalkFacts.{then, turned}
use Rattle.eclass_map.proofs.LinkedFacts.{numbered, JoinIn, linked_held}
use Rattle.eclass_map.proofs.KeptFacts.{table_of}

-- an earlier link is one of the longer list
more_links : (links : List (Token × Token)) (x y : Token) (p q : Pos) → LinkedBy links p q → LinkedBy (links ++ (x, y) ∷ []) p q
more_links links x y p q by = record {
  place = by.place;
  first = by.first;
  second = by.second;
  at = slice_get-append_left links ((x, y) ∷ []) by.place (slice_get_within links by.place (by.first, by.second) by.at) ∙ by.at;
  link = by.link;
}

last_link : (links : List (Token × Token)) (x y : Token) (p q : Pos) → IsLinked x y p q → LinkedBy (links ++ (x, y) ∷ []) p q
last_link links x y p q link = record {
  place = length links;
  first = x;
  second = y;
  at = slice_get-append_right links ((x, y) ∷ []) (length links) 0 (omega arith);
  link = link;
}

chain_more : (links : List (Token × Token)) (x y : Token) (p q : Pos) → Chain (LinkedBy links) p q → Chain (LinkedBy (links ++ (x, y) ∷ [])) p q
chain_more links x y p q here = here
chain_more links x y p q (step_along s c) = step_along (more_links links x y p _ s) (chain_more links x y _ q c)
chain_more links x y p q (step_back s c) = step_back (more_links links x y _ p s) (chain_more links x y _ q c)

step_more : (old : Table) (links : List (Token × Token)) (x y : Token) → AreLinks links old → (p q : Pos) → SameOrLinked old x y p q → Chain (LinkedBy (links ++ (x, y) ∷ [])) p q
step_more old links x y are p q step = elim step [
  | inl same ↦ chain_more links x y p q (are.least p q same)
  | inr link ↦ step_along (last_link links x y p q link) here
]

chain_of_chains : (old : Table) (links : List (Token × Token)) (x y : Token) → AreLinks links old → (p q : Pos) → Chain (SameOrLinked old x y) p q → Chain (LinkedBy (links ++ (x, y) ∷ [])) p q
chain_of_chains old links x y are p q here = here
chain_of_chains old links x y are p q (step_along s c) = then (LinkedBy (links ++ (x, y) ∷ [])) p _ q (step_more old links x y are p _ s) (chain_of_chains old links x y are _ q c)
chain_of_chains old links x y are p q (step_back s c) = then (LinkedBy (links ++ (x, y) ∷ [])) p _ q (turned (LinkedBy (links ++ (x, y) ∷ [])) _ p (step_more old links x y are _ p s)) (chain_of_chains old links x y are _ q c)

-- which link of the longer list
pub data WhichLink (links : List (Token × Token)) (x y : Token) (p q : Pos) : Type 0 where
  earlier : LinkedBy links p q → WhichLink links x y p q
  newest : IsLinked x y p q → WhichLink links x y p q

abbrev pair : Token → Token → Token × Token
pair x y = (x, y)

only_link : (x y a b : Token) (o : ℕ) (p q : Pos) → slice_get (pair x y ∷ []) o ≡ Some (pair a b) → IsLinked a b p q → IsLinked x y p q
only_link x y a b zero p q at link =
    let e : pair x y ≡ pair a b = same_Some (pair x y) (pair a b) at in
    let P : Token × Token → Type 0 = λ v. IsLinked v.0 v.1 p q in
    subst P (sym e) link
only_link x y a b (suc o) p q at link = absurd (none-some (pair a b) at)

which_link : (links : List (Token × Token)) (x y : Token) (p q : Pos) → LinkedBy (links ++ (x, y) ∷ []) p q → WhichLink links x y p q
which_link links x y p q by = elim (cases_lt by.place (length links)) [
  | inl less ↦ earlier (record { place = by.place; first = by.first; second = by.second; at = sym (slice_get-append_left links ((x, y) ∷ []) by.place less) ∙ by.at; link = by.link })
  | inr most ↦
      let o = by.place - length links in
      let there : slice_get ((x, y) ∷ []) o ≡ Some (by.first, by.second) = sym (slice_get-append_right links ((x, y) ∷ []) by.place o (omega arith)) ∙ by.at in
      newest (only_link x y by.first by.second o p q there by.link)
]

pub links_join : (old new : Table) (links : List (Token × Token)) (x y : Token) → Least (SameOrLinked old x y) (label new) → ((p : Pos) → IsHeld old p → IsHeld new p) → ((p q : Pos) → IsLinked x y p q → IsHeld new p) → AreLinks links old → AreLinks (links ++ (x, y) ∷ []) new
links_join old new links x y least stays linked are = record {
  holds = λ p q by. elim (which_link links x y p q by) [
    | earlier e ↦
        let same = are.holds p q e in
        let held = stays p (same.at, same.first) in
        record { at = held.0; first = held.1; second = sym (least.holds p q (inl same)) ∙ held.1 }
    | newest link ↦
        let held = linked p q link in
        record { at = held.0; first = held.1; second = sym (least.holds p q (inr link)) ∙ held.1 }
  ];
  least = λ p q same. chain_of_chains old links x y are p q (least.least p q same.at same.first same.second);
}

-- a link of a token with itself forces nothing anew
pub links_own : (t : Table) (x : Token) (links : List (Token × Token)) → JoinIn t x x → AreLinks links t → AreLinks (links ++ (x, x) ∷ []) t
links_own t x links h are = record {
  holds = λ p q by. elim (which_link links x x p q by) [
    | earlier e ↦ are.holds p q e
    | newest link ↦
        let held = linked_held t x x h p q link in
        let same : p ≡ q = same_Some p q (sym link.first ∙ link.second) in
        record { at = held.0; first = held.1; second = ap (label t) (sym same) ∙ held.1 }
  ];
  least = λ p q same. chain_more links x x p q (are.least p q same);
}

in_part : (part : Part) (p : Pos) → Holding part p → (o : ℕ) × (o < part.len) × (along part.start o ≡ p)
in_part part p h =
    let from = h.from in
    let at : part.start.at + (p.at - part.start.at) ≡ p.at = omega arith in
    (p.at - part.start.at, h.less, λ i. record { file = h.file i; at = at i })

own_label : (part : Part) (old new : Table) → AddsToken part old new → (p : Pos) (s : Spot) → holds part p ≡ true → label new p ≡ Some s → (o : ℕ) × (along part.start o ≡ p) × (s ≡ spot (length old.labels.walks) o)
own_label part old new adds p s held e =
    let o = in_part part p (holding part p held) in
    (o.0, o.2, same_Some s (spot (length old.labels.walks) o.0) (sym e ∙ ap (λ v. label new v) (sym o.2) ∙ adds.alone o.0 o.1))

old_known : (old : Table) → IsKept old → (p : Pos) (s : Spot) → label old p ≡ Some s → s.class < length old.labels.walks
old_known old kept p s e = let n = numbered old p s e in kept.table.known n.number s n.spot_at

pub links_add : (part : Part) (old new : Table) (links : List (Token × Token)) → IsKept old → AddsToken part old new → AreLinks links old → AreLinks links new
links_add part old new links kept adds are = record {
  holds = λ p q by. let same = are.holds p q by in record { at = same.at; first = adds.stays p same.at same.first; second = adds.stays q same.at same.second };
  least = λ p q same.
      let s = same.at in
      elim (adds.rest p s same.first) [
        | inl old_p ↦ elim (adds.rest q s same.second) [
          | inl old_q ↦ are.least p q (record { at = s; first = old_p; second = old_q })
          | inr new_q ↦
              let own = own_label part old new adds q s new_q same.second in
              let class : s.class ≡ length old.labels.walks = ap (λ (v : Spot). v.class) own.2 in
              let known = old_known old kept p s old_p in
              absurd (omega arith)
        ]
        | inr new_p ↦
            let own_p = own_label part old new adds p s new_p same.first in
            elim (adds.rest q s same.second) [
              | inl old_q ↦
                  let class : s.class ≡ length old.labels.walks = ap (λ (v : Spot). v.class) own_p.2 in
                  let known = old_known old kept q s old_q in
                  absurd (omega arith)
              | inr new_q ↦
                  let own_q = own_label part old new adds q s new_q same.second in
                  let offsets : own_p.0 ≡ own_q.0 = ap (λ (v : Spot). v.offset) (sym own_p.2 ∙ own_q.2) in
                  let P : Pos → Type 0 = λ v. Chain (LinkedBy links) p v in
                  subst P (sym own_p.1 ∙ ap (λ o. along part.start o) offsets ∙ own_q.1) here
            ]
      ];
}

pub label_none : (p : Pos) → label (table_of [] [] no_labels) p ≡ None
unfolding index_at
label_none p = refl

pub links_empty : AreLinks [] (table_of [] [] no_labels)
links_empty = record {
  holds = λ p q by. absurd (none-some (by.first, by.second) by.at);
  least = λ p q same. absurd (none-some same.at (sym (label_none p) ∙ same.first));
}
