-- A list of tokens with one more, and the positions that it brings.
use Rattle.std.proofs.Common.{◌≡◌, ℕ, ◌+◌, ◌-◌, ◌<◌, ◌≤◌, true, false, cond, List, [], ◌∷◌, ◌++◌, zero, suc, length, refl, ap, sym, ◌∙◌, inl, inr, arith, subst, length-append, Some, None}
use Rattle.std.specs.Prelude.{slice_get}
use Rattle.std.specs.List.{insert}
use Rattle.std.proofs.lemmas.Option.{none-some, same_Some}
use Rattle.std.proofs.lemmas.Bool.{cases_Bool, cases_eq, cond-true, cond-false}
use Rattle.cs_base.specs.declared.positions.Pos.{Pos}
use Rattle.cs_base.proofs.ListLemmas.{get-front as slice_get-append_left}
use Rattle.eclass_map.specs.declared.token_list.Added.{Added}
use Rattle.eclass_map.specs.Positions.{along, holds, index_at, begins_by}
use Rattle.eclass_map.specs.ClassTable.{begun_count, fresh_places}
use Rattle.class_labels.proofs.AddFacts.{slice_get-append_right}
use Rattle.eclass_map.proofs.TokenFacts.{Halved}

-- what is in a list with one element more
pub data InsertedAt {A : Type 0} (xs : List A) (k : ℕ) (n : A) (j : ℕ) (r : A) : Type 0 where
  before : j < k → slice_get xs j ≡ Some r → InsertedAt xs k n j r
  own : j ≡ k → n ≡ r → InsertedAt xs k n j r
  behind : (i : ℕ) → k ≤ i → j ≡ suc i → slice_get xs i ≡ Some r → InsertedAt xs k n j r

pub inserted_at : {A : Type 0} (xs : List A) (k : ℕ) (n : A) (j : ℕ) (r : A) → k ≤ length xs → slice_get (insert xs k n) j ≡ Some r → InsertedAt xs k n j r
inserted_at xs zero n zero r within at = own refl (same_Some n r at)
inserted_at xs zero n (suc j) r within at = behind j (omega arith) refl at
inserted_at [] (suc k) n j r within at = absurd (omega arith)
inserted_at (x ∷ xs) (suc k) n zero r within at = before (omega arith) at
inserted_at (x ∷ xs) (suc k) n (suc j) r within at = elim (inserted_at xs k n j r (omega arith) at) [
  | before less there ↦ before (omega arith) there
  | own e f ↦ own (ap (λ v. suc v) e) f
  | behind i least e there ↦ behind (suc i) (omega arith) (ap (λ v. suc v) e) there
]

pub inserted_own : {A : Type 0} (xs : List A) (k : ℕ) (n : A) → k ≤ length xs → slice_get (insert xs k n) k ≡ Some n
inserted_own xs zero n within = refl
inserted_own [] (suc k) n within = absurd (omega arith)
inserted_own (x ∷ xs) (suc k) n within = inserted_own xs k n (omega arith)

pub inserted_other : {A : Type 0} (xs : List A) (k : ℕ) (n : A) (j : ℕ) (r : A) → slice_get xs j ≡ Some r → (i : ℕ) × (slice_get (insert xs k n) i ≡ Some r)
inserted_other xs zero n j r at = (suc j, at)
inserted_other [] (suc k) n j r at = absurd (none-some r at)
inserted_other (x ∷ xs) (suc k) n zero r at = (0, at)
inserted_other (x ∷ xs) (suc k) n (suc j) r at = let i = inserted_other xs k n j r at in (suc i.0, i.1)

-- the search through the longer list
pub index_insert_other : (xs : List Added) (k : ℕ) (n : Added) (p : Pos) → holds n.place p ≡ false → index_at (insert xs k n) p ≡ index_at xs p
unfolding index_at
index_insert_other xs zero n p not_held = cond-false (holds n.place p) (Some (n.first + (p.at - n.place.start.at))) (index_at xs p) not_held
index_insert_other [] (suc k) n p not_held = cond-false (holds n.place p) (Some (n.first + (p.at - n.place.start.at))) None not_held
index_insert_other (x ∷ xs) (suc k) n p not_held = ap (λ v. cond (holds x.place p) (Some (x.first + (p.at - x.place.start.at))) v) (index_insert_other xs k n p not_held)

pub index_insert_own : (xs : List Added) (k : ℕ) (n : Added) (p : Pos) → holds n.place p ≡ true → index_at xs p ≡ None → index_at (insert xs k n) p ≡ Some (n.first + (p.at - n.place.start.at))
unfolding index_at
index_insert_own xs zero n p held none = cond-true (holds n.place p) (Some (n.first + (p.at - n.place.start.at))) (index_at xs p) held
index_insert_own [] (suc k) n p held none = cond-true (holds n.place p) (Some (n.first + (p.at - n.place.start.at))) None held
index_insert_own (x ∷ xs) (suc k) n p held none = elim (cases_Bool (holds x.place p)) [
  | inl h ↦ absurd (none-some (x.first + (p.at - x.place.start.at)) (sym none ∙ cond-true (holds x.place p) (Some (x.first + (p.at - x.place.start.at))) (index_at xs p) h))
  | inr h ↦
      let rest : index_at xs p ≡ None = sym (cond-false (holds x.place p) (Some (x.first + (p.at - x.place.start.at))) (index_at xs p) h) ∙ none in
      cond-false (holds x.place p) (Some (x.first + (p.at - x.place.start.at))) (index_at (insert xs k n) p) h ∙ index_insert_own xs k n p held rest
]

-- the count of a search by halving
pub begun_count_is : (xs : List Added) (p : Pos) (k : ℕ) → k ≤ length xs → Halved xs p k → begun_count xs p ≡ k
begun_count_is [] p zero within h = refl
begun_count_is [] p (suc k) within h = absurd (omega arith)
begun_count_is (x ∷ xs) p zero within h = cond-false (begins_by x p) (1 + begun_count xs p) 0 (h.behind 0 x (omega arith) refl)
begun_count_is (x ∷ xs) p (suc k) within h =
    let rest = begun_count_is xs p k (omega arith) (record { before = λ j r less at. h.before (suc j) r (omega arith) at; behind = λ j r least at. h.behind (suc j) r (omega arith) at }) in
    cond-true (begins_by x p) (1 + begun_count xs p) 0 (h.before 0 x (omega arith) refl) ∙ (let e : 1 + begun_count xs p ≡ suc k = omega arith in e)

pub fresh_places_none : (p : Pos) → fresh_places p 0 ≡ []
unfolding fresh_places
fresh_places_none p = refl

pub fresh_places_more : (p : Pos) (n : ℕ) → fresh_places p (n + 1) ≡ fresh_places p n ++ along p n ∷ []
unfolding fresh_places
fresh_places_more p n = let e : n + 1 ≡ suc n = omega arith in ap (λ v. fresh_places p v) e

pub length-fresh_places : (p : Pos) (n : ℕ) → length (fresh_places p n) ≡ n
unfolding fresh_places
length-fresh_places p zero = refl
length-fresh_places p (suc n) =
    let a : length (fresh_places p n ++ along p n ∷ []) ≡ length (fresh_places p n) + 1 = length-append (fresh_places p n) (along p n ∷ []) in
    omega (arith, length-fresh_places p n)

pub fresh_places-at : (p : Pos) (n o : ℕ) → o < n → slice_get (fresh_places p n) o ≡ Some (along p o)
unfolding fresh_places
fresh_places-at p zero o h = absurd (omega arith)
fresh_places-at p (suc n) o h = elim (cases_eq o n) [
  | inl e ↦
      let P : ℕ → Type 0 = λ v. slice_get (fresh_places p n ++ along p n ∷ []) o ≡ Some (along p v) in
      subst P (sym e) (slice_get-append_right (fresh_places p n) (along p n ∷ []) o 0 (omega (arith, length-fresh_places p n)))
  | inr ne ↦ slice_get-append_left (fresh_places p n) (along p n ∷ []) o (omega (arith, length-fresh_places p n)) ∙ fresh_places-at p n o (omega arith)
]
