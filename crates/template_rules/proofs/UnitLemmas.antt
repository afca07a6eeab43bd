-- What is asked of the units of an analysis with their functions is asked of its units.
use Rattle.std.proofs.Common.{◌≡◌, ℕ, suc, ◌<◌, ◌++◌, Bool, false, List, [], ◌∷◌, length, get_or, Option, Some, None, slice_get, refl, sym, ap, ◌∙◌, subst, inl, inr, arith}
use Rattle.std.specs.Prelude.{◌==◌}
use Rattle.std.specs.List.{flat_map, list_all, list_any}
use Rattle.std.specs.Option.{option_map_or}
use Rattle.std.proofs.lemmas.Option.{slice_get-get_or}
use Rattle.cs_base.specs.declared.positions.Part.{Part}
use Rattle.cs_base.specs.declared.positions.Pos.{Pos}
use Rattle.cs_base.specs.Token.{Token}
use Rattle.cs_base.specs.declared.causes.Cause.TheVariants as cause
use Rattle.cs_base.proofs.BoolLemmas.{and_no as and_none}
use Rattle.analysis.specs.Below.source_files.Files.{Table}
use Rattle.c_types.specs.declared.lists.List.{List as NameList}
use Rattle.c_types.specs.declared.parameters.ParameterList.{ParameterList}
use Rattle.c_types.specs.Parameters.{parameters_in}
use Rattle.analysis.specs.Analysis.{UnitAnalysis, AnalysisValue}
use Rattle.analysis.specs.Below.scope_bind.declared.bound.Name.{Name}
use Rattle.analysis.specs.Below.scope_bind.Bound.{Bound}
use Rattle.analysis.specs.Below.scope_bind.Names.{entity_at}
use Rattle.analysis.specs.Below.unit_steps.Texts.{UnitTextValue}
use Rattle.analysis.specs.Below.unit_steps.declared.events.Reached.{Reached}
use Rattle.offences.specs.declared.firsts.Offence.{Offence}
use Rattle.offences.specs.First.{standing, FirstThen}
use Rattle.template_rules.specs.declared.counting.Declarator.{Declarator}
use Rattle.template_rules.specs.declared.unit_functions.UnitFunctions.{UnitFunctions}
use Rattle.offences.specs.Class.{ClassValue}
use Rattle.template_rules.specs.FileLists.{unit_found}
use Rattle.template_rules.specs.Functions.{AreFunctionsOf, declares_function, is_function, names_function}
use Rattle.template_rules.specs.GnuOffences.{declared_text, unit_spellings}
use Rattle.template_rules.specs.Insides.{list_insides, unit_insides, unit_macro_names}
use Rattle.template_rules.specs.Lists.{declarator_of, declarators_in}
use Rattle.template_rules.specs.MacroOffences.{replaced_place, pasted_place}
use Rattle.template_rules.specs.Marks.{declarator_marks, call_marks, unit_marks}
use Rattle.template_rules.specs.NameOffences.{name_offences, unit_names}
use Rattle.template_rules.specs.Offences.{declarator_offences, call_offences, unit_lists}
use Rattle.template_rules.specs.ScopeOffences.{body_lists_in}
use Rattle.template_rules.specs.Units.{IsUnit, AreUnits, found_of}

-- ---- one unit

abbrev pub declarators_of : UnitFunctions → List Declarator
declarators_of f = flat_map (declarator_of f.class.members f.text.now.toks f.bound.now.names f.lists) f.bound.now.names

abbrev pub names_of : UnitFunctions → List Offence
names_of f =
    flat_map (name_offences f.class.members f.text.now.toks f.bound.now.names f.bound.now.calls f.lists) f.bound.now.names

abbrev pub marks_of : AnalysisValue → ℕ → UnitFunctions → List Offence
marks_of a count f =
    flat_map (declarator_marks f.class.members a count f.text.now.toks f.text.now.reached f.bound.now.names f.lists) f.bound.now.declarators
    ++ flat_map (call_marks f.class.members a count f.text.now.toks f.text.now.reached f.bound.now.names) f.bound.now.calls

abbrev pub macro_names_of : UnitFunctions → List Offence
macro_names_of f =
    standing cause.InMacro (flat_map (replaced_place f.class.members) f.text.now.events)
    ++ standing cause.InMacro (flat_map (pasted_place f.class.members) f.text.now.pasted)

abbrev pub insides_of : UnitFunctions → List Offence
insides_of f =
    flat_map (list_insides f.class.members f.text.now.toks f.text.now.events f.bound.now.names) f.bound.now.declarators
    ++ flat_map (list_insides f.class.members f.text.now.toks f.text.now.events f.bound.now.names) f.bound.now.calls

abbrev pub spellings_of : UnitFunctions → List (List ℕ)
spellings_of f = flat_map (declared_text f.class.members f.text.now.toks f.bound.now.names) f.bound.now.names

abbrev pub offences_at : ClassValue → List Pos → UnitFunctions → List Offence
offences_at class odds f =
    flat_map (declarator_offences class.members class.analysis.value odds f.text.now f.bound.now f.lists) f.bound.now.declarators
    ++ flat_map (call_offences class.members class.analysis.value odds f.text.now f.bound.now f.ends.items) f.bound.now.calls

-- the same of all elements gives the same of a list
flat_alike : {X A : Type 0} (f g : X → List A) → ((x : X) → f x ≡ g x) → (xs : List X) → flat_map f xs ≡ flat_map g xs
flat_alike f g same [] = refl
flat_alike f g same (x ∷ xs) = rw (same x, flat_alike f g same xs) refl

none_of : (h : ℕ → Bool) → ((e : ℕ) → h e ≡ false) → (o : Option ℕ) → option_map_or h o false ≡ false
none_of h bare None = refl
none_of h bare (Some e) = bare e

-- a unit without functions of the class: its parameter lists do not matter
module _ (members : List Part) (toks : List Token) (names : List Name) (entities : List ℕ) (own : AreFunctionsOf members toks names entities) (bare : entities ≡ []) where
  is_none : (e : ℕ) → is_function members toks names e ≡ false
  is_none e = sym (own e) ∙ ap (λ (es : List ℕ). list_any (λ f. f == e) es) bare

  names_none : (k : ℕ) → names_function members toks names k ≡ false
  names_none k = none_of (is_function members toks names) is_none (entity_at names k)

  declares_none : (n : Name) → declares_function members toks names n ≡ false
  declares_none n = and_none n.declares (is_function members toks names n.entity) (is_none n.entity)

  declarator_any : (p q : List ParameterList) (n : Name) → declarator_of members toks names p n ≡ declarator_of members toks names q n
  declarator_any p q n = rw (declares_none n) refl

  name_any : (calls : List NameList) (p q : List ParameterList) (n : Name)
      → name_offences members toks names calls p n ≡ name_offences members toks names calls q n
  name_any calls p q n = rw (declares_none n) refl

  marks_any : (a : AnalysisValue) (count : ℕ) (reached : List Reached) (p q : List ParameterList) (l : NameList)
      → declarator_marks members a count toks reached names p l ≡ declarator_marks members a count toks reached names q l
  marks_any a count reached p q l = rw (names_none l.name) refl

-- so it is with what stands at lists
module _ (members : List Part) (text : UnitTextValue) (bound : Bound) (entities : List ℕ) (own : AreFunctionsOf members text.toks bound.names entities) (bare : entities ≡ []) where
  declared_any : (a : AnalysisValue) (odds : List Pos) (p q : List ParameterList) (l : NameList)
      → declarator_offences members a odds text bound p l ≡ declarator_offences members a odds text bound q l
  declared_any a odds p q l = rw (names_none members text.toks bound.names entities own bare l.name) refl

  called_any : (a : AnalysisValue) (odds : List Pos) (p q : List ℕ) (l : NameList)
      → call_offences members a odds text bound p l ≡ call_offences members a odds text bound q l
  called_any a odds p q l = rw (names_none members text.toks bound.names entities own bare l.name) refl

module _ (class : ClassValue) (u : UnitAnalysis) (f : UnitFunctions) (own : f.class ≡ class) (is : IsUnit u f) where
  abbrev None_there : Type 0
  None_there = f.entities ≡ []

  -- the parameter lists are those of the tree, or do not matter
  by_lists : {X : Type 0} (h : List ParameterList → X) → (None_there → (p q : List ParameterList) → h p ≡ h q)
      → h f.lists ≡ h (parameters_in u.tree.under)
  by_lists h any =
      elim is.of_tree [
        | inl bare ↦ any bare f.lists (parameters_in u.tree.under)
        | inr some ↦ ap h some.0
      ]

  by_ends : {X : Type 0} (h : List ℕ → X) → (None_there → (p q : List ℕ) → h p ≡ h q) → h f.ends.items ≡ h (body_lists_in u.tree.under)
  by_ends h any =
      elim is.of_tree [
        | inl bare ↦ any bare f.ends.items (body_lists_in u.tree.under)
        | inr some ↦ ap h some.1
      ]

  pub declarators_told : declarators_of f ≡ declarators_in class.members u
  declarators_told =
      by_lists (λ p. flat_map (declarator_of f.class.members f.text.now.toks f.bound.now.names p) f.bound.now.names)
      (λ bare p q. flat_alike (declarator_of f.class.members f.text.now.toks f.bound.now.names p) (declarator_of f.class.members f.text.now.toks f.bound.now.names q)
      (declarator_any f.class.members f.text.now.toks f.bound.now.names f.entities f.named bare p q) f.bound.now.names)
      ∙ rw (own, is.of_text, is.of_bound) refl

  pub names_told : names_of f ≡ unit_names class.members u
  names_told =
      by_lists (λ p. flat_map (name_offences f.class.members f.text.now.toks f.bound.now.names f.bound.now.calls p) f.bound.now.names)
      (λ bare p q. flat_alike (name_offences f.class.members f.text.now.toks f.bound.now.names f.bound.now.calls p)
      (name_offences f.class.members f.text.now.toks f.bound.now.names f.bound.now.calls q)
      (name_any f.class.members f.text.now.toks f.bound.now.names f.entities f.named bare f.bound.now.calls p q) f.bound.now.names)
      ∙ rw (own, is.of_text, is.of_bound) refl

  pub marks_told : (a : AnalysisValue) (count : ℕ) → marks_of a count f ≡ unit_marks class.members a count u
  marks_told a count =
      by_lists (λ p. flat_map (declarator_marks f.class.members a count f.text.now.toks f.text.now.reached f.bound.now.names p) f.bound.now.declarators
      ++ flat_map (call_marks f.class.members a count f.text.now.toks f.text.now.reached f.bound.now.names) f.bound.now.calls)
      (λ bare p q. ap (λ (os : List Offence). os ++ flat_map (call_marks f.class.members a count f.text.now.toks f.text.now.reached f.bound.now.names) f.bound.now.calls)
      (flat_alike (declarator_marks f.class.members a count f.text.now.toks f.text.now.reached f.bound.now.names p)
      (declarator_marks f.class.members a count f.text.now.toks f.text.now.reached f.bound.now.names q)
      (marks_any f.class.members f.text.now.toks f.bound.now.names f.entities f.named bare a count f.text.now.reached p q) f.bound.now.declarators))
      ∙ rw (own, is.of_text, is.of_bound) refl

  pub macro_names_told : macro_names_of f ≡ unit_macro_names class.members u
  macro_names_told = rw (own, is.of_text) refl

  pub insides_told : insides_of f ≡ unit_insides class.members u
  insides_told = rw (own, is.of_text, is.of_bound) refl

  pub offences_told : (odds : List Pos) → offences_at class odds f ≡ unit_lists class.members class.analysis.value odds u
  offences_told odds =
      let named = subst (λ (c : ClassValue). AreFunctionsOf c.members f.text.now.toks f.bound.now.names f.entities) own f.named in
      let a = class.analysis.value in
      let calls : List ℕ → List Offence = λ ends. flat_map (call_offences class.members a odds f.text.now f.bound.now ends) f.bound.now.calls in
      let declared : List ParameterList → List Offence = λ p. flat_map (declarator_offences class.members a odds f.text.now f.bound.now p) f.bound.now.declarators in
      ap (λ (os : List Offence). os ++ calls f.ends.items)
      (by_lists declared (λ bare p q. flat_alike (declarator_offences class.members a odds f.text.now f.bound.now p) (declarator_offences class.members a odds f.text.now f.bound.now q)
      (declared_any class.members f.text.now f.bound.now f.entities named bare a odds p q) f.bound.now.declarators))
      ∙ (ap (λ (os : List Offence). declared (parameters_in u.tree.under) ++ os)
      (by_ends calls (λ bare p q. flat_alike (call_offences class.members a odds f.text.now f.bound.now p) (call_offences class.members a odds f.text.now f.bound.now q)
      (called_any class.members f.text.now f.bound.now f.entities named bare a odds p q) f.bound.now.calls))
      ∙ rw (is.of_text, is.of_bound) refl)

  pub spellings_told : spellings_of f ≡ unit_spellings class.members u
  spellings_told = rw (own, is.of_text, is.of_bound) refl

  pub found_told : found_of f ≡ unit_found class.members u
  found_told = rw (own, is.of_text, is.of_bound) refl

-- ---- all units

-- a unit with its functions, one of those of this list, and the unit that it is
abbrev Told : ClassValue → List UnitAnalysis → List UnitFunctions → Type 0
Told class us fs = (k : ℕ) (u : UnitAnalysis) (f : UnitFunctions) → slice_get us k ≡ Some u → slice_get fs k ≡ Some f
    → (f.class ≡ class) × IsUnit u f

told : (class : ClassValue) (fs : List UnitFunctions) → AreUnits class fs → Told class class.analysis.value.units fs
told class fs are k u f at_u at_f = (are.own k f at_f, are.each k f at_f u at_u)

module _ (class : ClassValue) where
  flat_map_told : {A : Type 0} (h : UnitFunctions → List A) (g : UnitAnalysis → List A)
      → ((u : UnitAnalysis) (f : UnitFunctions) → f.class ≡ class → IsUnit u f → h f ≡ g u)
      → (us : List UnitAnalysis) (fs : List UnitFunctions) → length fs ≡ length us → Told class us fs → flat_map h fs ≡ flat_map g us
  flat_map_told h g same [] [] many all = refl
  flat_map_told h g same [] (f ∷ fs) many all = absurd (omega (arith, many))
  flat_map_told h g same (u ∷ us) [] many all = absurd (omega (arith, many))
  flat_map_told h g same (u ∷ us) (f ∷ fs) many all =
      let here = all 0 u f refl refl in
      rw (same u f here.0 here.1, flat_map_told h g same us fs (omega (arith, many)) (λ k v e. all (suc k) v e)) refl

  list_all_told : (h : UnitFunctions → Bool) (g : UnitAnalysis → Bool)
      → ((u : UnitAnalysis) (f : UnitFunctions) → f.class ≡ class → IsUnit u f → h f ≡ g u)
      → (us : List UnitAnalysis) (fs : List UnitFunctions) → length fs ≡ length us → Told class us fs → list_all h fs ≡ list_all g us
  list_all_told h g same [] [] many all = refl
  list_all_told h g same [] (f ∷ fs) many all = absurd (omega (arith, many))
  list_all_told h g same (u ∷ us) [] many all = absurd (omega (arith, many))
  list_all_told h g same (u ∷ us) (f ∷ fs) many all =
      let here = all 0 u f refl refl in
      rw (same u f here.0 here.1, list_all_told h g same us fs (omega (arith, many)) (λ k v e. all (suc k) v e)) refl

  list_any_told : (h : UnitFunctions → Bool) (g : UnitAnalysis → Bool)
      → ((u : UnitAnalysis) (f : UnitFunctions) → f.class ≡ class → IsUnit u f → h f ≡ g u)
      → (us : List UnitAnalysis) (fs : List UnitFunctions) → length fs ≡ length us → Told class us fs → list_any h fs ≡ list_any g us
  list_any_told h g same [] [] many all = refl
  list_any_told h g same [] (f ∷ fs) many all = absurd (omega (arith, many))
  list_any_told h g same (u ∷ us) [] many all = absurd (omega (arith, many))
  list_any_told h g same (u ∷ us) (f ∷ fs) many all =
      let here = all 0 u f refl refl in
      rw (same u f here.0 here.1, list_any_told h g same us fs (omega (arith, many)) (λ k v e. all (suc k) v e)) refl

  module _ (fs : List UnitFunctions) (are : AreUnits class fs) where
    pub units_flat_map : {A : Type 0} (h : UnitFunctions → List A) (g : UnitAnalysis → List A)
        → ((u : UnitAnalysis) (f : UnitFunctions) → f.class ≡ class → IsUnit u f → h f ≡ g u)
        → flat_map h fs ≡ flat_map g class.analysis.value.units
    units_flat_map h g same = flat_map_told h g same class.analysis.value.units fs are.many (told class fs are)

    pub units_all : (h : UnitFunctions → Bool) (g : UnitAnalysis → Bool)
        → ((u : UnitAnalysis) (f : UnitFunctions) → f.class ≡ class → IsUnit u f → h f ≡ g u)
        → list_all h fs ≡ list_all g class.analysis.value.units
    units_all h g same = list_all_told h g same class.analysis.value.units fs are.many (told class fs are)

    pub units_any : (h : UnitFunctions → Bool) (g : UnitAnalysis → Bool)
        → ((u : UnitAnalysis) (f : UnitFunctions) → f.class ≡ class → IsUnit u f → h f ≡ g u)
        → list_any h fs ≡ list_any g class.analysis.value.units
    units_any h g same = list_any_told h g same class.analysis.value.units fs are.many (told class fs are)

    -- the first of the offences in all units
    pub units_first : (h : UnitFunctions → List Offence) (g : UnitAnalysis → List Offence)
        → ((u : UnitAnalysis) (f : UnitFunctions) → f.class ≡ class → IsUnit u f → h f ≡ g u)
        → (table : Table) (x y : Option Offence) → FirstThen table (flat_map h fs) x y → FirstThen table (flat_map g class.analysis.value.units) x y
    units_first h g same table x y is = subst (λ (os : List Offence). FirstThen table os x y) (units_flat_map h g same) is

    pub unit_own : (k : ℕ) (f : UnitFunctions) → k < length fs → f ≡ get_or fs k f → f.class ≡ class
    unit_own k f lt is = are.own k f (slice_get-get_or fs k f lt ∙ ap (λ (g : UnitFunctions). Some g) (sym is))
