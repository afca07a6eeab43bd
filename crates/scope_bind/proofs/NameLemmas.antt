-- Names, and a table of the place of each by its token.
use Rattle.std.proofs.Common.{ℕ, zero, suc, ◌+◌, ◌<◌, ◌≤◌, ◌≡◌, ◌≢◌, cond, List, [], ◌∷◌, ◌++◌, length, take, get_or, Some, Result, Ok, Err, OnOk, refl, sym, ap, subst, ◌∙◌, inl, inr, add-one, arith}
use Rattle.std.specs.Prelude.{find, slice_get, ◌==◌}
use Rattle.std.proofs.lemmas.Bool.{cases_eq, eq-eqb, ne_eqb, cond-true, cond-false}
use Rattle.std.proofs.lemmas.List.{reverse-append, length_push, length-take-le, take_more}
use Rattle.scope_bind.specs.declared.bound.Name.{Name}
use Rattle.scope_bind.specs.Names.{name_at, slot, ArePlaces}

-- ---- The names

name_at-more : (ns : List Name) (n : Name) (k : ℕ) → name_at (ns ++ n ∷ []) k ≡ cond (n.index == k) (Some n) (name_at ns k)
name_at-more ns n k = ap (find (λ m. m.index == k)) (reverse-append ns (n ∷ []))

slot-last : (ns : List Name) (n : Name) → slice_get (ns ++ n ∷ []) (length ns) ≡ Some n
slot-last [] n = refl
slot-last (m ∷ ns) n = slot-last ns n

slot-front : (ns : List Name) (n : Name) (p : ℕ) → p < length ns → slice_get (ns ++ n ∷ []) p ≡ slice_get ns p
slot-front [] n p l = absurd (omega arith)
slot-front (m ∷ ns) n zero l = refl
slot-front (m ∷ ns) n (suc p) l = slot-front ns n p (omega arith)

slot-kept : (ns : List Name) (n : Name) (q : ℕ) → q ≤ length ns → slot (ns ++ n ∷ []) q ≡ slot ns q
slot-kept ns n zero l = refl
slot-kept ns n (suc p) l = slot-front ns n p (omega arith)

-- ---- One name more

module _ (ns : List Name) (n : Name) (ps qs : List ℕ) (here : get_or qs n.index 0 ≡ length ns + 1) (a : ArePlaces ns ps) where
  told-same : (j : ℕ) → n.index ≡ j → get_or qs j 0 ≡ length ns + 1
  told-same j same = ap (λ i. get_or qs i 0) (sym same) ∙ here

  told-here : (j : ℕ) → n.index ≡ j → name_at (ns ++ n ∷ []) j ≡ slot (ns ++ n ∷ []) (get_or qs j 0)
  told-here j same =
      name_at-more ns n j
      ∙ (cond-true (n.index == j) (Some n) (name_at ns j) (eq-eqb n.index j same)
      ∙ (sym (slot-last ns n)
      ∙ ap (slot (ns ++ n ∷ [])) (sym (told-same j same ∙ add-one (length ns)))))

  told-other : (j : ℕ) → (n.index ≡ j → ⊥) → get_or qs j 0 ≡ get_or ps j 0 → name_at (ns ++ n ∷ []) j ≡ slot (ns ++ n ∷ []) (get_or qs j 0)
  told-other j apart other =
      name_at-more ns n j
      ∙ (cond-false (n.index == j) (Some n) (name_at ns j) (ne_eqb n.index j apart)
      ∙ (a.told j
      ∙ (sym (slot-kept ns n (get_or ps j 0) (a.within j))
      ∙ ap (slot (ns ++ n ∷ [])) (sym other))))

  within-here : (j : ℕ) → n.index ≡ j → get_or qs j 0 ≤ length (ns ++ n ∷ [])
  within-here j same = omega (arith, told-same j same, length_push ns n)

  within-other : (j : ℕ) → get_or qs j 0 ≡ get_or ps j 0 → get_or qs j 0 ≤ length (ns ++ n ∷ [])
  within-other j other = omega (arith, a.within j, other, length_push ns n)

  are-more : ((j : ℕ) → j ≢ n.index → get_or qs j 0 ≡ get_or ps j 0) → ArePlaces (ns ++ n ∷ []) qs
  are-more others = record {
    told = λ j. elim (cases_eq n.index j) [ inl same ↦ told-here j same | inr apart ↦ told-other j apart (others j (λ e. apart (sym e))) ];
    within = λ j. elim (cases_eq n.index j) [ inl same ↦ within-here j same | inr apart ↦ within-other j (others j (λ e. apart (sym e))) ];
  }

-- ---- Through the list

-- name number k is told at its token
pub told-more : (ns : List Name) (k : ℕ) (n : Name) (ps qs : List ℕ) → k < length ns → n ≡ get_or ns k n → get_or qs n.index 0 ≡ k + 1
    → ((j : ℕ) → j ≢ n.index → get_or qs j 0 ≡ get_or ps j 0) → ArePlaces (take k ns) ps → ArePlaces (take (k + 1) ns) qs
told-more ns k n ps qs l is here others a =
    let m : length (take k ns) ≡ k = length-take-le k ns (omega arith) in
    let t : take (k + 1) ns ≡ take k ns ++ n ∷ [] = take_more ns k n l ∙ ap (λ x. take k ns ++ x ∷ []) (sym is) in
    subst (λ xs. ArePlaces xs qs) (sym t) (are-more (take k ns) n ps qs (here ∙ ap (λ i. i + 1) (sym m)) a others)

pub ok_both : {T E : Type 0} (r : Result T E) (P Q R : Type 0) → (P → Q → R) → OnOk r P → OnOk r Q → OnOk r R
ok_both (Ok x) P Q R f p q = f p q
ok_both (Err e) P Q R f p q = tt
