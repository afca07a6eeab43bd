-- First occurrences of entities, found from the front on.
use Rattle.std.proofs.Common.{◌≡◌, ℕ, ◌+◌, ◌<◌, ◌≤◌, true, false, eqb, zero, suc, List, [], ◌∷◌, ◌++◌, length, get_or, drop, set, refl, sym, ap, ◌∙◌, subst, inl, inr, arith, Option, Some, None}
use Rattle.std.specs.Prelude.{slice_get, unwrap_or}
use Rattle.std.specs.Option.{option_map_or}
use Rattle.std.proofs.lemmas.Bool.{cases_eq, cases_lt, cond-true, cond-false, eq-eqb, eqb-true, false_from_ne_true}
use Rattle.std.proofs.lemmas.List.{drop_more, drop_all, get_or-set_same, get_or-set_other, length-set}
use Rattle.std.proofs.lemmas.Option.{none-some, slice_get-get_or}
use Rattle.cs_base.specs.Token.{Token}
use Rattle.linkage_join.specs.Linkage.{link_to}
use Rattle.gnu_bind.specs.Below.scope_bind.declared.bound.Name.{Name}
use Rattle.gnu_bind.specs.Below.scope_bind.Names.{entity_at}
use Rattle.analysis.specs.Firsts.{IsFirstOf, TellsFirst, TellFirsts}
use Rattle.analysis.specs.Joins.{link_of}
use Rattle.analysis.specs.Links.{is_bound_to, first_occurrence, occurrence_link, occurrence_links}

-- ---- whether a token is bound to an entity

bound_none : (names : List Name) (e k : ℕ) → entity_at names k ≡ None → is_bound_to names e k ≡ false
bound_none names e k h = ap (λ (v : Option ℕ). option_map_or (λ (d : ℕ). eqb d e) v false) h

pub bound_same : (names : List Name) (e k : ℕ) → entity_at names k ≡ Some e → is_bound_to names e k ≡ true
bound_same names e k h = ap (λ (v : Option ℕ). option_map_or (λ (d : ℕ). eqb d e) v false) h ∙ eq-eqb e e refl

bound_other : (names : List Name) (e d k : ℕ) → entity_at names k ≡ Some d → (e ≡ d → ⊥) → is_bound_to names e k ≡ false
bound_other names e d k h ne = ap (λ (v : Option ℕ). option_map_or (λ (d : ℕ). eqb d e) v false) h ∙ false_from_ne_true (eqb d e) (λ t. ne (sym (eqb-true d e t)))

-- ---- what is known of first occurrences

below_next : (names : List Name) (e k : ℕ) → ((i : ℕ) → i < k → is_bound_to names e i ≡ false) → is_bound_to names e k ≡ false → (i : ℕ) → i < k + 1 → is_bound_to names e i ≡ false
below_next names e k below here i less = elim (cases_lt i k) [
  | inl l ↦ below i l
  | inr m ↦ let same : k ≡ i = omega arith in let P : ℕ → Type 0 = λ v. is_bound_to names e v ≡ false in subst P same here
]

-- behind one token more, which is not bound to the entity
tells_more : (names : List Name) (e k : ℕ) (o : Option ℕ) → is_bound_to names e k ≡ false → TellsFirst names e k o → TellsFirst names e (k + 1) o
tells_more names e k None here h = below_next names e k h here
tells_more names e k (Some j) here h = let less = h.0 in (omega arith, h.1)

-- behind one token more, which is bound to it
tells_here : (names : List Name) (e k : ℕ) (o : Option ℕ) → is_bound_to names e k ≡ true → TellsFirst names e k o → TellsFirst names e (k + 1) (Some (unwrap_or o k))
tells_here names e k None here h = (omega arith, record { bound = here; before = h })
tells_here names e k (Some j) here h = let less = h.0 in (omega arith, h.1)

pub tell_skip : (names : List Name) (k : ℕ) (firsts : List (Option ℕ)) → entity_at names k ≡ None → TellFirsts names k firsts → TellFirsts names (k + 1) firsts
tell_skip names k firsts none h = λ e less. tells_more names e k (get_or firsts e None) (bound_none names e k none) (h e less)

pub tell_more : (names : List Name) (k entity first : ℕ) (firsts next : List (Option ℕ)) → entity_at names k ≡ Some entity → entity < length firsts → first ≡ unwrap_or (get_or firsts entity None) k
    → next ≡ set firsts entity (Some first) → TellFirsts names k firsts → TellFirsts names (k + 1) next
tell_more names k entity first firsts next at within is noted h = λ e less.
    let P : Option ℕ → Type 0 = λ v. TellsFirst names e (k + 1) v in
    let long : length next ≡ length firsts = ap length noted ∙ length-set firsts entity (Some first) in
    elim (cases_eq e entity) [
      | inl same ↦
          let Q : ℕ → Type 0 = λ v. TellsFirst names v (k + 1) (get_or next v None) in
          let told : get_or next entity None ≡ Some (unwrap_or (get_or firsts entity None) k) =
          ap (λ v. get_or v entity None) noted ∙ get_or-set_same firsts entity (Some first) None within ∙ ap Some is in
          let R : Option ℕ → Type 0 = λ v. TellsFirst names entity (k + 1) v in
          subst Q (sym same) (subst R (sym told) (tells_here names entity k (get_or firsts entity None) (bound_same names entity k at) (h entity within)))
      | inr ne ↦
          let told : get_or next e None ≡ get_or firsts e None = ap (λ v. get_or v e None) noted ∙ get_or-set_other firsts entity e (Some first) None ne in
          subst P (sym told) (tells_more names e k (get_or firsts e None) (bound_other names e entity k at ne) (h e (omega arith)))
    ]

first_in : (names : List Name) (e k : ℕ) (o : Option ℕ) → is_bound_to names e k ≡ true → TellsFirst names e k o → (unwrap_or o k ≤ k) × IsFirstOf names e (unwrap_or o k)
first_in names e k None here h = (omega arith, record { bound = here; before = h })
first_in names e k (Some j) here h = let less = h.0 in (omega arith, h.1)

-- the one that is noted is the first
pub is_first : (names : List Name) (k entity first : ℕ) (firsts : List (Option ℕ)) → entity_at names k ≡ Some entity → entity < length firsts → first ≡ unwrap_or (get_or firsts entity None) k
    → TellFirsts names k firsts → (first ≤ k) × IsFirstOf names entity first
is_first names k entity first firsts at within is h =
    let P : ℕ → Type 0 = λ v. (v ≤ k) × IsFirstOf names entity v in
    subst P (sym is) (first_in names entity k (get_or firsts entity None) (bound_same names entity k at) (h entity within))

-- ---- links with first occurrences

found_first : (names : List Name) (e b : ℕ) (toks : List Token) (j : ℕ) (t : Token) → slice_get toks j ≡ Some t → is_bound_to names e (b + j) ≡ true
    → ((i : ℕ) → i < j → is_bound_to names e (b + i) ≡ false) → first_occurrence names e b toks ≡ Some t
unfolding first_occurrence
found_first names e b [] j t at here before = absurd (none-some t at)
found_first names e b (u ∷ toks) zero t at here before =
    let same : b + 0 ≡ b = omega arith in
    let P : ℕ → Type 0 = λ v. is_bound_to names e v ≡ true in
    cond-true (is_bound_to names e b) (Some u) (first_occurrence names e (b + 1) toks) (subst P same here) ∙ at
found_first names e b (u ∷ toks) (suc j) t at here before =
    let same : b + 0 ≡ b = omega arith in
    let P : ℕ → Type 0 = λ v. is_bound_to names e v ≡ false in
    let Q : ℕ → Type 0 = λ v. is_bound_to names e v ≡ true in
    let next : b + suc j ≡ b + 1 + j = omega arith in
    cond-false (is_bound_to names e b) (Some u) (first_occurrence names e (b + 1) toks) (subst P same (before 0 (omega arith)))
    ∙ found_first names e (b + 1) toks j t at (subst Q next here) (λ i less. let e : b + suc i ≡ b + 1 + i = omega arith in subst P e (before (suc i) (omega arith)))

first_is : (names : List Name) (e : ℕ) (toks : List Token) (j : ℕ) (t : Token) → IsFirstOf names e j → slice_get toks j ≡ Some t → first_occurrence names e 0 toks ≡ Some t
first_is names e toks j t h at =
    let P : ℕ → Type 0 = λ v. is_bound_to names e v ≡ true in
    let Q : ℕ → Type 0 = λ v. is_bound_to names e v ≡ false in
    let same : j ≡ 0 + j = omega arith in
    found_first names e 0 toks j t at (subst P same h.bound) (λ i less. let e : i ≡ 0 + i = omega arith in subst Q e (h.before i less))

links_cons : (names : List Name) (toks : List Token) (k : ℕ) (t : Token) (rest : List Token) → occurrence_links names toks k (t ∷ rest) ≡ occurrence_link names toks t (entity_at names k) ++ occurrence_links names toks (k + 1) rest
unfolding occurrence_links
links_cons names toks k t rest = refl

links_nil : (names : List Name) (toks : List Token) (k : ℕ) → occurrence_links names toks k [] ≡ []
unfolding occurrence_links
links_nil names toks k = refl

any_of : {A : Type 0} (xs : List A) (k : ℕ) → k < length xs → A
any_of [] k less = absurd (omega arith)
any_of (x ∷ xs) k less = x

pub occurrences_skip : (names : List Name) (toks : List Token) (k : ℕ) → k < length toks → entity_at names k ≡ None → occurrence_links names toks k (drop k toks) ≡ occurrence_links names toks (k + 1) (drop (k + 1) toks)
occurrences_skip names toks k less none =
    let d = any_of toks k less in
    ap (occurrence_links names toks k) (drop_more toks k d less) ∙ links_cons names toks k (get_or toks k d) (drop (k + 1) toks)
    ∙ ap (λ v. occurrence_link names toks (get_or toks k d) v ++ occurrence_links names toks (k + 1) (drop (k + 1) toks)) none

pub occurrences_more : (names : List Name) (toks : List Token) (k entity j : ℕ) (t first : Token) → k < length toks → entity_at names k ≡ Some entity → IsFirstOf names entity j
    → t ≡ get_or toks k t → slice_get toks j ≡ Some first
    → occurrence_links names toks k (drop k toks) ≡ (link_of t first ∷ []) ++ occurrence_links names toks (k + 1) (drop (k + 1) toks)
occurrences_more names toks k entity j t first less at h is stands =
    let rest = occurrence_links names toks (k + 1) (drop (k + 1) toks) in
    ap (occurrence_links names toks k) (drop_more toks k t less ∙ ap (λ v. v ∷ drop (k + 1) toks) (sym is)) ∙ links_cons names toks k t (drop (k + 1) toks)
    ∙ ap (λ v. occurrence_link names toks t v ++ rest) at
    ∙ ap (λ v. link_to v t ++ rest) (first_is names entity toks j first h stands)

pub occurrences_end : (names : List Name) (toks : List Token) (k : ℕ) → length toks ≤ k → occurrence_links names toks k (drop k toks) ≡ []
occurrences_end names toks k past = ap (occurrence_links names toks k) (drop_all k toks past) ∙ links_nil names toks k

-- a token of the list by its number
pub stands_at : (toks : List Token) (j : ℕ) (t : Token) → j < length toks → t ≡ get_or toks j t → slice_get toks j ≡ Some t
stands_at toks j t less is = slice_get-get_or toks j t less ∙ ap Some (sym is)
