-- A set of positions, and marks at the slots of some, and one more.
use Rattle.std.proofs.Common.{◌≡◌, ℕ, zero, suc, ◌≢◌, Bool, true, false, cond, List, [], ◌∷◌, ◌++◌, set, get_or, inl, inr, refl, sym, ap, ◌∙◌}
use Rattle.std.specs.Prelude.{◌||◌, nat_eq}
use Rattle.std.proofs.lemmas.Bool.{and_parts, cases_Bool, cases_eq, eqb-true}
use Rattle.std.proofs.lemmas.List.{get_or-set_other}
use Rattle.std.proofs.lemmas.List.Folds.{list_any-append}
use Rattle.cs_base.specs.declared.positions.Pos.{Pos}
use Rattle.macro_rules.specs.Positions.{is_pos, has, slot_of, AreMet}

put_or : (put old : Bool) → cond put true old ≡ (old || (put || false))
put_or true true = refl
put_or true false = refl
put_or false true = refl
put_or false false = refl

pub set_push : (all : List Pos) (p : Pos) (old new : Pos → Bool) → ((q : Pos) → old q ≡ has all q) → ((q : Pos) → new q ≡ cond (is_pos p q) true (old q))
    → (q : Pos) → new q ≡ has (all ++ p ∷ []) q
set_push all p old new told put q =
    put q ∙ ap (cond (is_pos p q) true) (told q) ∙ put_or (is_pos p q) (has all q) ∙ sym (list_any-append (λ (r : Pos). is_pos r q) all (p ∷ []))

-- ---- marks

pub none_met : (marks : List Bool) → AreMet [] marks
none_met marks p is = absurd cc

put_true : (marks : List Bool) (i : ℕ) → get_or (set marks i true) i true ≡ true
put_true [] i = refl
put_true (m ∷ marks) zero = refl
put_true (m ∷ marks) (suc i) = put_true marks i

same_slot : (p q : Pos) → is_pos p q ≡ true → slot_of q ≡ slot_of p
same_slot p q is =
    let parts = and_parts (nat_eq p.file q.file) (nat_eq p.at q.at) is in
    let file : p.file ≡ q.file = eqb-true p.file q.file parts.0 in
    let at : p.at ≡ q.at = eqb-true p.at q.at parts.1 in
    rw (file, at) refl

either : (old put : Bool) → (old || (put || false)) ≡ true → put ≡ false → old ≡ true
either true put is none = refl
either false true is none = absurd cc
either false false is none = absurd cc

old_here : (all : List Pos) (p q : Pos) → has (all ++ p ∷ []) q ≡ true → is_pos p q ≡ false → has all q ≡ true
old_here all p q is none = either (has all q) (is_pos p q) (sym (list_any-append (λ (r : Pos). is_pos r q) all (p ∷ [])) ∙ is) none

apart_differs : (p q : Pos) → slot_of q ≢ slot_of p → is_pos p q ≡ false
apart_differs p q apart = elim (cases_Bool (is_pos p q)) [
  | inl same ↦ absurd (apart (same_slot p q same))
  | inr other ↦ other
]

pub met_push : (all : List Pos) (p : Pos) (marks : List Bool) → AreMet all marks → AreMet (all ++ p ∷ []) (set marks (slot_of p) true)
met_push all p marks met q is = elim (cases_eq (slot_of q) (slot_of p)) [
  | inl same ↦ ap (λ (i : ℕ). get_or (set marks (slot_of p) true) i true) same ∙ put_true marks (slot_of p)
  | inr apart ↦
      get_or-set_other marks (slot_of p) (slot_of q) true true apart ∙ met q (old_here all p q is (apart_differs p q apart))
]

pub not_met : (all : List Pos) (p : Pos) (marks : List Bool) → AreMet all marks → get_or marks (slot_of p) true ≡ false → false ≡ has all p
not_met all p marks met is = elim (cases_Bool (has all p)) [
  | inl has_it ↦ absurd (let e : true ≡ false = sym (met p has_it) ∙ is in cc)
  | inr none ↦ sym none
]
