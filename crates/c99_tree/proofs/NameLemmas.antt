-- Names with numbers: what a look-up and a new name give.
use Rattle.std.proofs.Common.{ℕ, zero, suc, ◌<◌, ◌≤◌, ◌≡◌, Bool, false, not, List, [], ◌∷◌, ◌++◌, length, get_or, map, None, Some, position, refl, sym, ap, ◌∙◌, arith, length-append, nat_lt, true≢false, ◌⊎◌, inl, inr}
use Rattle.std.specs.List.{prefix_len, position_or_len, list_any}
use borrow.Author.Tests.{ltb-true, ltb-false}
use Rattle.std.specs.Str.{bytes_eq}
use Rattle.std.proofs.lemmas.Bool.{cases_Bool}
use Rattle.std.proofs.lemmas.List.Sums.{fails_before_first}
use Rattle.std.proofs.lemmas.List.Quantifiers.{position-Some}
use Rattle.std.proofs.Math.ListN.{get_or-append, length-map}
use Rattle.std.proofs.lemmas.List.{map-append}
use Rattle.std.proofs.Math.Seq.{get_or-append_seam}
use Rattle.cs_base.proofs.OptionLemmas.{None≢Some}
use Rattle.cs_base.proofs.FileMapLemmas.{bytes_eq-equal as same_spelling}
use Rattle.cs_base.proofs.ListLemmas.{spelled_same}
use Rattle.c99_tree.specs.NumberedNames.{Marks, marks_of, nth, IsNumbered, IsNumberOf}

below_or : (i n : ℕ) → (i < n) ⊎ (n ≤ i)
below_or i n = elim (cases_Bool (nat_lt i n)) [ inl below ↦ inl (ltb-true _ _ below) | inr past ↦ inr (ltb-false _ _ past) ]

module _ {K : Type 0} (spelling : K → List ℕ) (p : List ℕ → Bool) where
  prefix_len-map : (ks : List K) → prefix_len (λ k. p (spelling k)) ks ≡ prefix_len p (map spelling ks)
  prefix_len-map [] = refl
  prefix_len-map (k ∷ ks) = rw (prefix_len-map ks) refl

-- the keys are found by their spellings
pub position-map : {K : Type 0} (spelling : K → List ℕ) (p : List ℕ → Bool) (ks : List K)
    → position (λ k. p (spelling k)) ks ≡ position p (map spelling ks)
position-map spelling p ks = rw (← prefix_len-map spelling (λ n. not (p n)) ks) (rw length-map refl)

-- a name that is found has that number
pub IsNumberOf-found : (m : Marks) (name : List ℕ) (i : ℕ) → position (bytes_eq name) m.names ≡ Some i → IsNumberOf m m name i
IsNumberOf-found m name i found =
    let at = position-Some (bytes_eq name) m.names i [] found in
    record {
      within = at.0;
      spelled = sym (same_spelling _ _ at.1);
      grown = omega arith;
      names_stay = λ k h. refl;
      marks_stay = λ k. refl;
    }

-- a name that is not found stands nowhere
pub nowhere : (names : List (List ℕ)) (name : List ℕ) → position (bytes_eq name) names ≡ None
    → (k : ℕ) → k < length names → bytes_eq name (nth names k) ≡ false
nowhere names name none k within =
    elim (cases_Bool (nat_lt (position_or_len (bytes_eq name) names) (length names))) [
      | inl below ↦ absurd (None≢Some _ (sym (rw below at none)))
      | inr past ↦ fails_before_first (bytes_eq name) names k [] (omega (arith, ltb-false _ _ past))
    ]

-- so no key has its spelling
pub list_any-nowhere : {K : Type 0} (spelling : K → List ℕ) (p : List ℕ → Bool) (ks : List K)
    → ((k : ℕ) → k < length (map spelling ks) → p (nth (map spelling ks) k) ≡ false) → list_any (λ k. p (spelling k)) ks ≡ false
list_any-nowhere spelling p [] fails = refl
list_any-nowhere spelling p (x ∷ ks) fails =
    rw (fails 0 (omega arith)) (list_any-nowhere spelling p ks (λ k h. fails (suc k) (omega arith)))

pub get_or-push_default : (marks : List Bool) (d : Bool) (k : ℕ) → get_or (marks ++ d ∷ []) k d ≡ get_or marks k d
get_or-push_default [] d zero = refl
get_or-push_default [] d (suc k) = refl
get_or-push_default (m ∷ marks) d zero = refl
get_or-push_default (m ∷ marks) d (suc k) = get_or-push_default marks d k

module _ (m : Marks) (name : List ℕ) (numbered : IsNumbered m) (none : position (bytes_eq name) m.names ≡ None) where
  abbrev with_name : Marks
  with_name = marks_of (m.names ++ name ∷ []) (m.typedefs ++ false ∷ [])

  pub IsNumberOf-added : (number : ℕ) → number ≡ length m.names → IsNumberOf m with_name name number
  IsNumberOf-added number last = record {
    within = omega (arith, length-append m.names (name ∷ []));
    spelled = ap (nth (m.names ++ name ∷ [])) last ∙ get_or-append_seam m.names name [] [];
    grown = omega (arith, length-append m.names (name ∷ []));
    names_stay = λ k h. get_or-append m.names (name ∷ []) [] k h;
    marks_stay = λ k. get_or-push_default m.typedefs false k;
  }

  absent : (k : ℕ) → k < length m.names → nth m.names k ≡ name → ⊥
  absent k within same = true≢false (sym (spelled_same name _ (sym same)) ∙ nowhere m.names name none k within)

  old_name : (k : ℕ) → k < length m.names → nth (m.names ++ name ∷ []) k ≡ nth m.names k
  old_name k within = get_or-append m.names (name ∷ []) [] k within

  new_name : (k : ℕ) → length m.names ≤ k → k < length (m.names ++ name ∷ []) → k ≡ length m.names
  new_name k past within = omega (arith, length-append m.names (name ∷ []))

  apart : (i j : ℕ) → i < length (m.names ++ name ∷ []) → j < length (m.names ++ name ∷ [])
      → nth (m.names ++ name ∷ []) i ≡ nth (m.names ++ name ∷ []) j → i ≡ j
  apart i j within_i within_j same =
      elim (below_or i (length m.names)) [
        | inl old_i ↦ elim (below_or j (length m.names)) [
          | inl old_j ↦ numbered.once i j old_i old_j (sym (old_name i old_i) ∙ same ∙ old_name j old_j)
          | inr past ↦ absurd (absent i old_i (sym (old_name i old_i) ∙ same ∙ ap (nth (m.names ++ name ∷ [])) (new_name j past within_j) ∙ get_or-append_seam m.names name [] []))
        ]
        | inr past ↦ elim (below_or j (length m.names)) [
          | inl old_j ↦ absurd (absent j old_j (sym (old_name j old_j) ∙ sym same ∙ ap (nth (m.names ++ name ∷ [])) (new_name i past within_i) ∙ get_or-append_seam m.names name [] []))
          | inr past_j ↦ new_name i past within_i ∙ sym (new_name j past_j within_j)
        ]
      ]

  pub IsNumbered-added : IsNumbered with_name
  IsNumbered-added = record {
    each = omega (arith, numbered.each, length-append m.names (name ∷ []), length-append m.typedefs (false ∷ []));
    once = apart;
  }

-- the table with one key and one mark more
pub marks_of-push : {K : Type 0} (spelling : K → List ℕ) (old new : List K) (k : K) (marks marks' : List Bool)
    → new ≡ old ++ k ∷ [] → marks' ≡ marks ++ false ∷ []
    → marks_of (map spelling new) marks' ≡ marks_of (map spelling old ++ spelling k ∷ []) (marks ++ false ∷ [])
marks_of-push spelling old new k marks marks' keys more = rw (keys, more) (rw map-append refl)
