-- The table of open bodies, as bodies come into it.
use Rattle.std.proofs.Common.{◌≡◌, ℕ, ◌+◌, ◌-◌, ◌<◌, ◌≤◌, All, true, false, List, [], ◌∷◌, ◌++◌, Option, None, Some, if◌then◌else◌, refl, sym, ap, subst, ◌∙◌, inl, inr, arith}
use Rattle.std.specs.Prelude.{find, nat_lt, nat_le}
use Rattle.std.specs.Option.{option_map, option_or}
use Rattle.std.proofs.lemmas.Bool.{cases_Bool, cases_lt, le-ltb, leb-false, lt-leb, ltb-false}
use Rattle.std.proofs.lemmas.List.Elements.{All-push}
use Rattle.std.proofs.lemmas.List.Folds.{find-append}
use Rattle.analysis.specs.Below.c_types.declared.lists.Range.{Range}
use Rattle.calls_of.specs.Calls.{is_open_behind}
use Rattle.calls_of.specs.OpenBodies.{open_among, AreOpenIn, is_between, Opened}
use Rattle.calls_of.proofs.OwnerLemmas.{option_map-or}

-- ---- numbers between others

below : (a b : ℕ) → a < b → nat_lt a b ≡ true
below a b less = elim (cases_Bool (nat_lt a b)) [
  | inl holds ↦ holds
  | inr fails ↦ absurd (let past = ltb-false a b fails in omega arith)
]

none_between : (from end before : ℕ) → end ≤ from + 1 → is_between from end before ≡ false
none_between from end before low = elim (cases_lt from before) [
  | inl behind ↦ rw (below from before behind, le-ltb before end (omega arith)) refl
  | inr not_behind ↦ rw (le-ltb from before (omega arith)) refl
]

-- ---- one body

-- the numbers up to the last one, if there are any
pub opened-end : (name from to before : ℕ) (old new : List (Option ℕ)) → to + 1 ≤ before → before ≤ from + 1 + (to - from)
    → Opened name from before old new → Opened name from (to + 1) old new
opened-end name from to before old new past most opened = elim (cases_lt from to) [
  | inl some ↦
      let same : before ≡ to + 1 = omega arith in
      subst (λ (n : ℕ). Opened name from n old new) same opened
  | inr none ↦
      let low : before ≤ from + 1 = omega arith in
      λ k. opened k ∙ rw (none_between from before k low, none_between from (to + 1) k (omega arith)) refl
]

-- ---- all bodies

at_most : (a b : ℕ) → a ≤ b → nat_le a b ≡ true
at_most a b within = elim (cases_Bool (nat_le a b)) [
  | inl holds ↦ holds
  | inr fails ↦ absurd (let past = leb-false a b fails in omega arith)
]

between_is : (body : Range) (before : ℕ) → is_between body.from (body.to + 1) before ≡ is_open_behind before body
between_is body before = elim (cases_lt body.to before) [
  | inl past ↦ rw (le-ltb before (body.to + 1) (omega arith), lt-leb before body.to past) refl
  | inr within ↦ rw (below before (body.to + 1) (omega arith), at_most before body.to (omega arith)) refl
]

named-if : (body : Range) (before : ℕ)
    → option_map (λ (r : Range). r.name) (find (is_open_behind before) (body ∷ [])) ≡ (if is_between body.from (body.to + 1) before then Some body.name else None)
named-if body before = elim (cases_Bool (is_open_behind before body)) [
  | inl open_ ↦ rw (between_is body before, open_) refl
  | inr closed ↦ rw (between_is body before, closed) refl
]

pub open-more : (table new : List (Option ℕ)) (functions : List Range) (body : Range) → AreOpenIn table functions
    → Opened body.name body.from (body.to + 1) table new → AreOpenIn new (functions ++ body ∷ [])
open-more table new functions body told opened before =
    opened before
    ∙ ap (λ (o : Option ℕ). option_or o (if is_between body.from (body.to + 1) before then Some body.name else None)) (told before)
    ∙ ap (option_or (open_among functions before)) (sym (named-if body before))
    ∙ sym (option_map-or (λ (r : Range). r.name) (find (is_open_behind before) functions) (find (is_open_behind before) (body ∷ [])))
    ∙ ap (option_map (λ (r : Range). r.name)) (sym (find-append (is_open_behind before) functions (body ∷ [])))

-- ---- how many numbers there are

pub below-more : (xs ys : List Range) (x : Range) (n m : ℕ) → ys ≡ xs ++ x ∷ [] → All (λ r. r.to < n) xs → n ≤ m → x.to < m → All (λ r. r.to < m) ys
below-more xs ys x n m more so_far up here =
    let all : All (λ (r : Range). r.to < m) (xs ++ x ∷ []) =
    All-push (λ (r : Range). r.to < m) xs x (λ k d within. (let old = so_far k d within in omega arith)) here in
    subst (All (λ (r : Range). r.to < m)) (sym more) all
