-- The functions that a class names, unit by unit.
use Rattle.std.proofs.Common.{◌≡◌, ℕ, zero, suc, ◌+◌, ◌<◌, ◌≤◌, Bool, true, false, List, [], ◌∷◌, ◌++◌, length, take, get_or, Option, Some, None, slice_get, refl, sym, ap, subst, ◌∙◌, ◌⊎◌, inl, inr, arith}
use Rattle.std.specs.Prelude.{◌==◌, ◌&&◌, ◌||◌, filter, map, not}
use Rattle.std.specs.List.{list_any}
use Rattle.std.proofs.Math.Bool.{or-false}
use Rattle.std.proofs.lemmas.Bool.{cases_Bool, or_parts, or_cases, and_parts, eq-eqb, eqb-true, eqb-false, ne_eqb}
use Rattle.std.proofs.lemmas.List.{length_push, take_all}
use Rattle.std.proofs.lemmas.List.Elements.{filter-append}
use Rattle.std.proofs.lemmas.List.Folds.{list_any_more, list_any-append}
use Rattle.cs_base.specs.declared.positions.Part.{Part}
use Rattle.cs_base.specs.Token.{Token}
use Rattle.analysis.specs.Below.scope_bind.declared.bound.Name.{Name}
use Rattle.analysis.specs.Analysis.{UnitAnalysis}
use Rattle.template_rules.specs.declared.unit_functions.UnitFunctions.{UnitFunctions}
use Rattle.offences.specs.Class.{ClassValue}
use Rattle.template_rules.specs.Functions.{is_named, is_function, has_function, AreFunctionsOf}
use Rattle.template_rules.specs.Units.{IsUnitAt, AreUnits, has_some}
use Rattle.template_rules.proofs.UnitLemmas.{units_any}

-- ---- one name more

-- an entity is among some
abbrev has : List ℕ → ℕ → Bool
has xs e = list_any (λ f. f == e) xs

or_no : (b : Bool) → (b || false) ≡ b
or_no true = refl
or_no false = refl

pub one_more : (xs ys : List ℕ) (entity e : ℕ) (named : Bool) → ys ≡ xs ++ entity ∷ [] → named ≡ true
    → has ys e ≡ (has xs e || ((entity == e) && named))
one_more xs ys entity e named made is =
    rw (made, is) (list_any-append (λ f. f == e) xs (entity ∷ []) ∙ ap (λ (b : Bool). has xs e || b) (last (entity == e)))
  where
    last : (b : Bool) → (b || false) ≡ (b && true)
    last true = refl
    last false = refl

pub one_other : (xs : List ℕ) (entity e : ℕ) (named : Bool) → named ≡ false → has xs e ≡ (has xs e || ((entity == e) && named))
one_other xs entity e named is = rw is (sym (ap (λ (b : Bool). has xs e || b) (none (entity == e)) ∙ or_no (has xs e)))
  where
    none : (b : Bool) → (b && false) ≡ false
    none true = refl
    none false = refl

pub one_there : (xs : List ℕ) (entity e : ℕ) (named : Bool) → has xs entity ≡ true → has xs e ≡ (has xs e || ((entity == e) && named))
one_there xs entity e named there = elim (cases_Bool (entity == e)) [
  | inl same ↦
      let is : entity ≡ e = eqb-true entity e same in
      let here : has xs e ≡ true = rw is at there in
      rw here refl
  | inr other ↦ rw other (sym (or_no (has xs e)))
]

-- the names so far, and one more
pub names_next : (p : Name → Bool) (names : List Name) (k : ℕ) (d : Name) (xs ys : List ℕ) → k < length names
    → ((e : ℕ) → has xs e ≡ list_any (λ (n : Name). (n.entity == e) && p n) (take k names))
    → ((e : ℕ) → has ys e ≡ (has xs e || (((get_or names k d).entity == e) && p (get_or names k d))))
    → (e : ℕ) → has ys e ≡ list_any (λ (n : Name). (n.entity == e) && p n) (take (k + 1) names)
names_next p names k d xs ys lt before step e =
    step e ∙ ap (λ (b : Bool). b || (((get_or names k d).entity == e) && p (get_or names k d))) (before e)
    ∙ sym (list_any_more (λ (n : Name). (n.entity == e) && p n) names k d lt)

pub names_all : (p : Name → Bool) (names : List Name) (k : ℕ) (xs : List ℕ) → length names ≤ k
    → ((e : ℕ) → has xs e ≡ list_any (λ (n : Name). (n.entity == e) && p n) (take k names))
    → (e : ℕ) → has xs e ≡ list_any (λ (n : Name). (n.entity == e) && p n) names
names_all p names k xs past before e = rw (← take_all k names past) (before e)

-- ---- units

-- The functions of the units before one.
pub record AreBefore (class : ClassValue) (fs : List UnitFunctions) (unit : ℕ) : Type 0 where
  pub many : length fs ≡ unit
  pub own : (k : ℕ) (f : UnitFunctions) → slice_get fs k ≡ Some f → f.class ≡ class
  pub each : (k : ℕ) (f : UnitFunctions) → slice_get fs k ≡ Some f → IsUnitAt class.analysis.value.units k f

-- an element once one more is behind the others: it is one of these, or the last
pushed : {X : Type 0} (xs : List X) (x y : X) (k : ℕ) → slice_get (xs ++ x ∷ []) k ≡ Some y
    → (slice_get xs k ≡ Some y) ⊎ ((k ≡ length xs) × (x ≡ y))
pushed [] x y zero at = inr (refl, cc)
pushed [] x y (suc k) at = absurd cc
pushed (z ∷ xs) x y zero at = inl at
pushed (z ∷ xs) x y (suc k) at = elim (pushed xs x y k at) [
  | inl before ↦ inl before
  | inr last ↦ inr (ap (λ (n : ℕ). suc n) last.0, last.1)
]

module _ (class : ClassValue) where
  pub before_none : AreBefore class [] 0
  before_none = record { many = refl; own = λ k f at. absurd cc; each = λ k f at. absurd cc }

  pub before_next : (fs gs : List UnitFunctions) (x : UnitFunctions) (unit : ℕ) → AreBefore class fs unit → x.class ≡ class
      → IsUnitAt class.analysis.value.units unit x → gs ≡ fs ++ x ∷ [] → AreBefore class gs (unit + 1)
  before_next fs gs x unit before mine here made = record {
    many = rw made (length_push fs x ∙ ap (λ (n : ℕ). n + 1) before.many);
    own = λ k f at. elim (pushed fs x f k (rw made at at)) [
      | inl there ↦ before.own k f there
      | inr last ↦ ap (λ (g : UnitFunctions). g.class) (sym last.1) ∙ mine
    ];
    each = λ k f at. elim (pushed fs x f k (rw made at at)) [
      | inl there ↦ before.each k f there
      | inr last ↦
          let is : unit ≡ k = sym (last.0 ∙ before.many) in
          subst (λ (n : ℕ). IsUnitAt class.analysis.value.units n f) is
          (subst (λ (g : UnitFunctions). IsUnitAt class.analysis.value.units unit g) last.1 here)
    ];
  }

  pub before_all : (fs : List UnitFunctions) (unit : ℕ) → AreBefore class fs unit → unit ≡ length class.analysis.value.units → AreUnits class fs
  before_all fs unit before all = record { many = before.many ∙ all; own = before.own; each = before.each }

-- ---- whether there is a function

none_named : (p : Name → Bool) (names : List Name) → ((e : ℕ) → list_any (λ (n : Name). (n.entity == e) && p n) names ≡ false) → list_any p names ≡ false
none_named p [] none = refl
none_named p (n ∷ names) none =
    let here = or_parts ((n.entity == n.entity) && p n) (list_any (λ (m : Name). (m.entity == n.entity) && p m) names) (none n.entity) in
    let same : (n.entity == n.entity) ≡ true = eq-eqb n.entity n.entity refl in
    let not_it : p n ≡ false = rw same at here.0 in
    rw not_it (none_named p names (λ e. (or_parts ((n.entity == e) && p n) (list_any (λ (m : Name). (m.entity == e) && p m) names) (none e)).1))

some_named : (p : Name → Bool) (names : List Name) (e : ℕ) → list_any (λ (n : Name). (n.entity == e) && p n) names ≡ true → list_any p names ≡ true
some_named p [] e some = absurd cc
some_named p (n ∷ names) e some =
    elim (or_cases ((n.entity == e) && p n) (list_any (λ (m : Name). (m.entity == e) && p m) names) some) [
      | inl here ↦ rw ((and_parts (n.entity == e) (p n) here).1) refl
      | inr later ↦ rw (some_named p names e later) (or_yes (p n))
    ]
  where
    or_yes : (b : Bool) → (b || true) ≡ true
    or_yes true = refl
    or_yes false = refl

some_function : (members : List Part) (toks : List Token) (names : List Name) (fs : List ℕ) → AreFunctionsOf members toks names fs
    → not (length fs == 0) ≡ list_any (is_named members toks) names
some_function members toks names [] are = sym (none_named (is_named members toks) names (λ e. sym (are e)))
some_function members toks names (f ∷ fs) are =
    let more : (length (f ∷ fs) == 0) ≡ false = ne_eqb (length (f ∷ fs)) 0 (λ e. omega (arith, e)) in
    let first : (f == f) ≡ true = eq-eqb f f refl in
    let there : has (f ∷ fs) f ≡ true = rw first refl in
    rw (more, some_named (is_named members toks) names f (sym (are f) ∙ there)) refl

pub some_functions : (class : ClassValue) (fs : List UnitFunctions) → AreUnits class fs
    → list_any has_some fs ≡ has_function class.members class.analysis.value
some_functions class fs are =
    units_any class fs are has_some (λ (u : UnitAnalysis). list_any (is_named class.members u.text.toks) u.bound.names)
    (λ u f own is. some_function f.class.members f.text.now.toks f.bound.now.names f.entities f.named ∙ rw (own, is.of_text, is.of_bound) refl)

-- ---- the lists of functions, of declarators and then of calls

pub all_named : {X Y : Type 0} (f : X → Y) (p : Y → Bool) (none one two : List X) (ds cs : List Y) → none ≡ [] → map f one ≡ map f none ++ filter p ds
    → map f two ≡ map f one ++ filter p cs → map f two ≡ filter p (ds ++ cs)
all_named f p none one two ds cs empty first second = rw (second, first, empty, filter-append p ds cs) refl
