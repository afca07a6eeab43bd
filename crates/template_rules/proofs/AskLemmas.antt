-- What is asked of all marks of a list at once.
use Rattle.std.proofs.Common.{◌≡◌, ℕ, Bool, true, false, List, [], ◌∷◌, Option, Some, None, slice_get, refl, sym, ap, ◌∙◌}
use Rattle.std.specs.Prelude.{◌-◌, ◌==◌, ◌&&◌}
use Rattle.std.specs.List.{list_all}
use Rattle.std.specs.Option.{option_map_or}
use Rattle.std.proofs.lemmas.Bool.{and_parts, eqb-true}
use Rattle.cs_base.specs.declared.positions.Part.{Part}
use Rattle.cs_base.specs.Token.{Token}
use Rattle.analysis.specs.Below.unit_steps.declared.events.Reached.{Reached}
use Rattle.c_types.specs.declared.lists.List.{List as NameList}
use Rattle.analysis.specs.Analysis.{UnitAnalysis, AnalysisValue}
use Rattle.template_rules.specs.declared.list_macros.Asked.{Asked}
use Rattle.template_rules.specs.declared.list_macros.Asked.TheVariants as asked
use Rattle.template_rules.specs.declared.unit_functions.UnitFunctions.{UnitFunctions}
use Rattle.template_rules.specs.Asking.{asks, is_of_run}
use Rattle.offences.specs.Class.{ClassValue}
use Rattle.template_rules.specs.Lists.{each_mark}
use Rattle.template_rules.specs.MacroOffences.{run_of, item_of, is_list_through, is_list_for, is_mark_everywhere}
use Rattle.template_rules.specs.Units.{AreUnits}
use Rattle.template_rules.proofs.UnitLemmas.{units_all}

-- ---- tests of all marks

all_yes : {X : Type 0} (xs : List X) → list_all (λ x. true) xs ≡ true
all_yes [] = refl
all_yes (x ∷ xs) = all_yes xs

and_swap : (a b c d : Bool) → ((a && b) && (c && d)) ≡ ((a && c) && (b && d))
and_swap true true c d = refl
and_swap true false true d = refl
and_swap true false false d = refl
and_swap false b c d = refl

all_and : (f g : ℕ → Bool) (ks : List ℕ) → list_all (λ k. f k && g k) ks ≡ (list_all f ks && list_all g ks)
all_and f g [] = refl
all_and f g (k ∷ ks) = rw (all_and f g ks) (and_swap (f k) (g k) (list_all f ks) (list_all g ks))

each_and : (f g : ℕ → Bool) (l : NameList) → each_mark (λ k. f k && g k) l ≡ (each_mark f l && each_mark g l)
each_and f g l =
    rw (
      all_and f g l.commas,
      and_swap (list_all f l.commas) (list_all g l.commas) (f l.close) (g l.close),
      and_swap (f l.begin) (g l.begin) (list_all f l.commas && f l.close) (list_all g l.commas && g l.close),
    )
    (and_swap (f l.name) (g l.name) (f l.begin && (list_all f l.commas && f l.close)) (g l.begin && (list_all g l.commas && g l.close)))

each_yes : (l : NameList) → each_mark (λ k. true) l ≡ true
each_yes l = rw (all_yes l.commas) refl

all_same : (test f g : ℕ → Bool) (ks : List ℕ) → list_all test ks ≡ true → ((k : ℕ) → test k ≡ true → f k ≡ g k) → list_all f ks ≡ list_all g ks
all_same test f g [] passes same = refl
all_same test f g (k ∷ ks) passes same =
    let p = and_parts (test k) (list_all test ks) passes in
    rw (same k p.0, all_same test f g ks p.1 same) refl

-- tests that are one wherever a third passes
pub each_same : (test f g : ℕ → Bool) (l : NameList) → each_mark test l ≡ true → ((k : ℕ) → test k ≡ true → f k ≡ g k) → each_mark f l ≡ each_mark g l
each_same test f g l passes same =
    let p = and_parts (test l.name) (test l.begin && (list_all test l.commas && test l.close)) passes in
    let q = and_parts (test l.begin) (list_all test l.commas && test l.close) p.1 in
    let r = and_parts (list_all test l.commas) (test l.close) q.1 in
    rw (same l.name p.0, same l.begin q.0, all_same test f g l.commas r.0 same, same l.close r.1) refl

-- ---- tests of the marks that are asked for

pub asks_yes : (a : Asked) (l : NameList) → asks a (λ k. true) l ≡ true
asks_yes (asked.Mark k) l = refl
asks_yes asked.All l = each_yes l

asks_and : (a : Asked) (f g : ℕ → Bool) (l : NameList) → asks a (λ k. f k && g k) l ≡ (asks a f l && asks a g l)
asks_and (asked.Mark k) f g l = refl
asks_and asked.All f g l = each_and f g l

-- all marks at each element, or all elements at each mark
pub asks_all : {X : Type 0} (a : Asked) (l : NameList) (p : ℕ → X → Bool) (xs : List X)
    → list_all (λ x. asks a (λ k. p k x) l) xs ≡ asks a (λ k. list_all (p k) xs) l
asks_all a l p [] = sym (asks_yes a l)
asks_all a l p (x ∷ xs) = rw (asks_all a l p xs) (sym (asks_and a (λ k. p k x) (λ k. list_all (p k) xs) l))

-- ---- marks of one run

module _ (members : List Part) (a : AnalysisValue) (toks : List Token) (reached : List Reached) (l : NameList) (number : ℕ)
    (of_run : each_mark (is_of_run reached number) l ≡ true) where
  everywhere : (o : Option Reached) → slice_get reached (number - 1) ≡ o
      → each_mark (is_mark_everywhere members a toks reached l) l ≡ each_mark (λ k. option_map_or (is_list_for members a toks l k) o false) l
  everywhere o at =
      each_same (is_of_run reached number) (is_mark_everywhere members a toks reached l) (λ k. option_map_or (is_list_for members a toks l k) o false) l of_run
      (λ k is. ap (λ (r : Option Reached). option_map_or (is_list_for members a toks l k) r false)
      (ap (λ (n : ℕ). slice_get reached (n - 1)) (eqb-true (run_of reached k) number is) ∙ at))

  pub everywhere_some : (r : Reached) → slice_get reached (number - 1) ≡ Some r
      → each_mark (λ k. is_list_for members a toks l k r) l ≡ each_mark (is_mark_everywhere members a toks reached l) l
  everywhere_some r at = sym (everywhere (Some r) at)

  pub everywhere_none : slice_get reached (number - 1) ≡ None → false ≡ each_mark (is_mark_everywhere members a toks reached l) l
  everywhere_none at = sym (everywhere None at)

-- ---- units

pub lists_for : (class : ClassValue) (fs : List UnitFunctions) → AreUnits class fs → (toks : List Token) (l : NameList) (a : Asked) (r : Reached)
    → list_all (λ (f : UnitFunctions). asks a (λ k. is_list_through f.class.members toks l k r f.text.now f.bound.now) l) fs
    ≡ asks a (λ k. is_list_for class.members class.analysis.value toks l k r) l
lists_for class fs are toks l a r =
    units_all class fs are (λ (f : UnitFunctions). asks a (λ k. is_list_through f.class.members toks l k r f.text.now f.bound.now) l)
    (λ (u : UnitAnalysis). asks a (λ k. is_list_through class.members toks l k r u.text u.bound) l)
    (λ u f own is. rw (own, is.of_text, is.of_bound) refl)
    ∙ asks_all a l (λ k (u : UnitAnalysis). is_list_through class.members toks l k r u.text u.bound) class.analysis.value.units
