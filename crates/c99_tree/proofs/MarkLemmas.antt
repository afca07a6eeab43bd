-- The steps of the table of names and the scopes that they make.
use Rattle.std.proofs.Common.{ℕ, ◌<◌, ◌≤◌, ◌≡◌, Bool, true, false, List, [], ◌∷◌, length, get_or, set, Option, Some, unwrap_or, if◌then◌else◌, ◌==◌, inl, inr, refl, sym, ap, ◌∙◌, arith}
use Rattle.std.specs.Str.{bytes_eq}
use Rattle.std.proofs.lemmas.Bool.{false_from_ne_true}
use Rattle.std.proofs.lemmas.Bool.Decides.{eqb_tells}
use Rattle.std.proofs.lemmas.List.{get_or-set_same, get_or-set_other}
use Rattle.cs_base.proofs.FileMapLemmas.{bytes_eq-equal as same_spelling}
use Rattle.cs_base.proofs.ListLemmas.{spelled_same}
use Rattle.c99_tree.specs.NumberedNames.{Marks, marks_of, nth, IsNumberOf}
use Rattle.c99_tree.specs.Names.{Declared, Scopes, declared, ended, latest, is_typedef}
use Rattle.c99_tree.specs.Marks.{scopes_of, mark_of, open_in, IsUndone, IsKept}
use Rattle.c99_tree.specs.declared.visible.Step.{Step}
use Rattle.c99_tree.specs.declared.visible.Step.TheVariants as step

-- ---- looking a name up

unwrap_or-if : (b t r : Bool) (o : Option Bool) → unwrap_or (if b then Some t else o) r ≡ (if b then t else unwrap_or o r)
unwrap_or-if true t r o = refl
unwrap_or-if false t r o = refl

is_typedef-declared : (scopes outer : Scopes) (scope : List Declared) (n name : List ℕ) (t : Bool) → scopes ≡ scope ∷ outer
    → is_typedef (declared scopes n t) name ≡ (if bytes_eq name n then t else is_typedef scopes name)
is_typedef-declared scopes outer scope n name t shape =
    rw shape (unwrap_or-if (bytes_eq name n) t (is_typedef outer name) (latest scope name))

-- the scopes that steps make are never none
some_scope : (names : List (List ℕ)) (steps : List Step) → (p : List Declared × Scopes) × (scopes_of names steps ≡ p.0 ∷ p.1)
some_scope names [] = (([], []), refl)
some_scope names (step.Scope ∷ older) = (([], scopes_of names older), refl)
some_scope names (step.Declared number before typedef ∷ older) =
    let r = some_scope names older in
    ((record { name = nth names number; typedef = typedef } ∷ r.0.0, r.0.1), ap (λ s. declared s (nth names number) typedef) r.1)

is_typedef-step : (names : List (List ℕ)) (older : List Step) (number : ℕ) (before typedef : Bool) (name : List ℕ)
    → is_typedef (scopes_of names (step.Declared number before typedef ∷ older)) name
    ≡ (if bytes_eq name (nth names number) then typedef else is_typedef (scopes_of names older) name)
is_typedef-step names older number before typedef name =
    let r = some_scope names older in
    is_typedef-declared (scopes_of names older) r.0.1 r.0.0 (nth names number) name typedef r.1

-- a name without a number is no typedef name
pub is_typedef-nowhere : (names : List (List ℕ)) (steps : List Step) (name : List ℕ) → IsUndone (length names) steps
    → ((k : ℕ) → k < length names → bytes_eq name (nth names k) ≡ false) → is_typedef (scopes_of names steps) name ≡ false
is_typedef-nowhere names [] name undone fails = refl
is_typedef-nowhere names (step.Scope ∷ older) name undone fails = is_typedef-nowhere names older name undone fails
is_typedef-nowhere names (step.Declared number before typedef ∷ older) name undone fails =
    is_typedef-step names older number before typedef name ∙ rw (fails number undone.0) (is_typedef-nowhere names older name undone.2 fails)

if_same : (b c t r : Bool) → (b ≡ c) → (if b then t else r) ≡ (if c then t else r)
if_same b c t r e = ap (λ x. if x then t else r) e

-- the name with a number has the mark of the number
pub is_typedef-number : (names : List (List ℕ)) (steps : List Step) (name : List ℕ) (i : ℕ) → IsUndone (length names) steps
    → i < length names → nth names i ≡ name
    → ((j : ℕ) → j < length names → nth names j ≡ nth names i → j ≡ i)
    → is_typedef (scopes_of names steps) name ≡ mark_of steps i
is_typedef-number names [] name i undone within spelled once = refl
is_typedef-number names (step.Scope ∷ older) name i undone within spelled once = is_typedef-number names older name i undone within spelled once
is_typedef-number names (step.Declared number before typedef ∷ older) name i undone within spelled once =
    is_typedef-step names older number before typedef name
    ∙ if_same _ _ typedef _ same_test
    ∙ ap (λ r. if number == i then typedef else r) (is_typedef-number names older name i undone.2 within spelled once)
  where
    same_test : bytes_eq name (nth names number) ≡ (number == i)
    same_test =
        elim (eqb_tells number i) [
          | inl same ↦ spelled_same _ _ (sym spelled ∙ ap (nth names) (sym same.1)) ∙ sym same.0
          | inr other ↦ false_from_ne_true _ (λ h. other.1 (once number undone.0 (sym (same_spelling _ _ h) ∙ sym spelled))) ∙ sym other.0
        ]

-- ---- more names

-- the steps make the same scopes where the names that they speak of stay
pub scopes_of-same : (a b : List (List ℕ)) (steps : List Step) → IsUndone (length a) steps
    → ((k : ℕ) → k < length a → nth b k ≡ nth a k) → scopes_of b steps ≡ scopes_of a steps
scopes_of-same a b [] undone stay = refl
scopes_of-same a b (step.Scope ∷ older) undone stay = ap (λ s. [] ∷ s) (scopes_of-same a b older undone stay)
scopes_of-same a b (step.Declared number before typedef ∷ older) undone stay =
    rw (stay number undone.0) (ap (λ s. declared s (nth a number) typedef) (scopes_of-same a b older undone.2 stay))

pub IsUndone-more : (m n : ℕ) (steps : List Step) → m ≤ n → IsUndone m steps → IsUndone n steps
IsUndone-more m n [] more undone = tt
IsUndone-more m n (step.Scope ∷ older) more undone = IsUndone-more m n older more undone
IsUndone-more m n (step.Declared number before typedef ∷ older) more undone =
    (omega (arith, undone.0), undone.1, IsUndone-more m n older more undone.2)

-- ---- scopes that end

abbrev pub outer_of : Scopes → Scopes
outer_of [] = []
outer_of (scope ∷ outer) = outer

pub outer_of-declared : (scopes : Scopes) (n : List ℕ) (t : Bool) → outer_of (declared scopes n t) ≡ outer_of scopes
outer_of-declared [] n t = refl
outer_of-declared (scope ∷ outer) n t = refl

ended-declared : (scopes : Scopes) (n : List ℕ) (t : Bool) → outer_of scopes ≡ ended scopes
    → outer_of (declared scopes n t) ≡ ended (declared scopes n t)
ended-declared [] n t e = refl
ended-declared (scope ∷ []) n t e = absurd (cc)
ended-declared (scope ∷ (next ∷ outer)) n t e = refl

ended-scope : (scopes outer : Scopes) (scope : List Declared) → scopes ≡ scope ∷ outer → scopes ≡ ended ([] ∷ scopes)
ended-scope scopes outer scope shape = rw shape refl

-- where a scope has begun, its end leaves the outer ones
pub outer_of-ended : (names : List (List ℕ)) (steps : List Step) → 1 ≤ open_in steps → outer_of (scopes_of names steps) ≡ ended (scopes_of names steps)
outer_of-ended names [] some = absurd (omega arith)
outer_of-ended names (step.Scope ∷ older) some = let r = some_scope names older in ended-scope _ _ _ r.1
outer_of-ended names (step.Declared number before typedef ∷ older) some =
    ended-declared (scopes_of names older) (nth names number) typedef (outer_of-ended names older some)

-- where none has begun, nothing ends
ended-outermost : (scopes : Scopes) (n : List ℕ) (t : Bool) → outer_of scopes ≡ [] → ended (declared scopes n t) ≡ declared scopes n t
ended-outermost [] n t e = refl
ended-outermost (scope ∷ []) n t e = refl
ended-outermost (scope ∷ (next ∷ outer)) n t e = absurd (cc)

outer_of-none : (names : List (List ℕ)) (steps : List Step) → open_in steps ≡ 0 → outer_of (scopes_of names steps) ≡ []
outer_of-none names [] none = refl
outer_of-none names (step.Scope ∷ older) none = absurd (omega arith)
outer_of-none names (step.Declared number before typedef ∷ older) none =
    outer_of-declared (scopes_of names older) _ _ ∙ outer_of-none names older none

pub ended-none : (names : List (List ℕ)) (steps : List Step) → open_in steps ≡ 0 → ended (scopes_of names steps) ≡ scopes_of names steps
ended-none names [] none = refl
ended-none names (step.Scope ∷ older) none = absurd (omega arith)
ended-none names (step.Declared number before typedef ∷ older) none =
    ended-outermost (scopes_of names older) _ _ (outer_of-none names older none)

pub open_in_le-length : (steps : List Step) → open_in steps ≤ length steps
open_in_le-length [] = omega arith
open_in_le-length (step.Scope ∷ older) = omega (arith, open_in_le-length older)
open_in_le-length (step.Declared number before typedef ∷ older) = omega (arith, open_in_le-length older)

-- ---- marks

-- the mark of one number is written
pub marked-set : (marks : List Bool) (i : ℕ) (t : Bool) (k : ℕ) → i < length marks
    → get_or (set marks i t) k false ≡ (if i == k then t else get_or marks k false)
marked-set marks i t k within =
    elim (eqb_tells i k) [
      | inl same ↦ rw same.0 (ap (λ j. get_or (set marks i t) j false) (sym same.1) ∙ get_or-set_same marks i t false within)
      | inr other ↦ rw other.0 (get_or-set_other marks i k t false (λ e. other.1 (sym e)))
    ]

if_undone : (i k : ℕ) (t r b : Bool) (mark : ℕ → Bool) → b ≡ mark i → r ≡ (if i == k then t else mark k) → (if i == k then b else r) ≡ mark k
if_undone i k t r b mark at_i at_k =
    elim (eqb_tells i k) [
      | inl same ↦ rw same.0 (at_i ∙ ap mark same.1)
      | inr other ↦ rw other.0 (let h = rw other.0 at at_k in h)
    ]

-- a mark that is put back
pub IsKept-undone : (marks : Marks) (older : List Step) (number : ℕ) (before typedef : Bool) (open_count : ℕ)
    → length marks.typedefs ≡ length marks.names → IsKept marks (step.Declared number before typedef ∷ older) open_count
    → IsKept (marks_of marks.names (set marks.typedefs number before)) older open_count
IsKept-undone marks older number before typedef open_count each kept = record {
  undone = kept.undone.2;
  marked = λ k.
      marked-set marks.typedefs number before k (omega (arith, each, kept.undone.0))
      ∙ if_undone number k typedef _ before (mark_of older) kept.undone.1 (kept.marked k);
  counted = kept.counted;
}

-- a name that is declared
pub IsKept-declared : (old new : Marks) (steps : List Step) (name : List ℕ) (number : ℕ) (typedef : Bool) (open_count : ℕ)
    → length new.typedefs ≡ length new.names → IsNumberOf old new name number → IsKept old steps open_count
    → IsKept (marks_of new.names (set new.typedefs number typedef)) (step.Declared number (get_or new.typedefs number false) typedef ∷ steps) open_count
IsKept-declared old new steps name number typedef open_count each numbered kept = record {
  undone = (numbered.within, numbered.marks_stay number ∙ kept.marked number, IsUndone-more _ _ steps numbered.grown kept.undone);
  marked = λ k.
      marked-set new.typedefs number typedef k (omega (arith, each, numbered.within))
      ∙ ap (λ r. if number == k then typedef else r) (numbered.marks_stay k ∙ kept.marked k);
  counted = kept.counted;
}

-- a name that has got a number and no declaration
pub IsKept-numbered : (old new : Marks) (steps : List Step) (name : List ℕ) (number : ℕ) (open_count : ℕ)
    → IsNumberOf old new name number → IsKept old steps open_count → IsKept new steps open_count
IsKept-numbered old new steps name number open_count numbered kept = record {
  undone = IsUndone-more _ _ steps numbered.grown kept.undone;
  marked = λ k. numbered.marks_stay k ∙ kept.marked k;
  counted = kept.counted;
}

-- the scopes with a name that is declared
pub scopes_of-declared : (old new marked : Marks) (steps all : List Step) (name : List ℕ) (number : ℕ) (before typedef : Bool)
    → marked.names ≡ new.names → all ≡ step.Declared number before typedef ∷ steps → IsNumberOf old new name number → IsUndone (length old.names) steps
    → scopes_of marked.names all ≡ declared (scopes_of old.names steps) name typedef
scopes_of-declared old new marked steps all name number before typedef same pushed numbered undone =
    ap (scopes_of marked.names) pushed
    ∙ ap (λ names. declared (scopes_of names steps) (nth names number) typedef) same
    ∙ ap (λ n. declared (scopes_of new.names steps) n typedef) numbered.spelled
    ∙ ap (λ s. declared s name typedef) (scopes_of-same old.names new.names steps undone numbered.names_stay)

-- what a loop over the steps of a scope that ends keeps
module _ (marks marked : Marks) (all older : List Step) (number : ℕ) (before typedef : Bool) (open_count : ℕ)
    (popped : all ≡ step.Declared number before typedef ∷ older)
    (written : marked ≡ marks_of marks.names (set marks.typedefs number before)) where
  pub IsKept-popped : length marks.typedefs ≡ length marks.names → IsKept marks all open_count → IsKept marked older open_count
  IsKept-popped each kept =
      let known : IsKept marks (step.Declared number before typedef ∷ older) open_count = rw popped at kept in
      rw written (IsKept-undone marks older number before typedef open_count each known)

  pub outer_of-popped : (goal : Scopes) → outer_of (scopes_of marks.names all) ≡ goal → outer_of (scopes_of marked.names older) ≡ goal
  outer_of-popped goal e =
      let known : outer_of (scopes_of marks.names (step.Declared number before typedef ∷ older)) ≡ goal = rw popped at e in
      ap (λ m. outer_of (scopes_of m.names older)) written ∙ sym (outer_of-declared (scopes_of marks.names older) _ typedef) ∙ known
