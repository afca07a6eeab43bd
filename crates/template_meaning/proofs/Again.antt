-- In each processing of a run the lists of the functions are the same.
use Rattle.std.proofs.Common.{◌≡◌, ℕ, zero, suc, ◌+◌, ◌⊎◌, inl, inr, Bool, true, false, List, [], ◌∷◌, length, Option, None, Some, refl, ap, subst, ◌∙◌, arith}
use Rattle.std.specs.Prelude.{slice_get}
use Rattle.std.specs.List.{list_any, list_all}
use Rattle.std.specs.Option.{option_map_or}
use Rattle.std.proofs.lemmas.Bool.{false≢true, and_parts, or_cases}
use Rattle.std.proofs.lemmas.Option.{same_Some}
use Rattle.cs_base.specs.declared.positions.Part.{Part}
use Rattle.cs_base.specs.Token.{Token}
use Rattle.cs_base.proofs.ListLemmas.{below_length as within}
use Rattle.cs_base.proofs.BoolLemmas.{or_met as not_or}
use Rattle.c_types.specs.declared.lists.List.{List as NameList}
use Rattle.unit_steps.specs.declared.events.Reached.{Reached}
use Rattle.analysis.specs.Analysis.{UnitAnalysis, AnalysisValue}
use Rattle.edited_unit_laws.proofs.ListLemmas.{In}
use Rattle.list_cuts.specs.Cuts.{numbers}
use Rattle.template_rules.specs.Functions.{names_function}
use Rattle.template_rules.specs.Lists.{each_mark}
use Rattle.template_rules.specs.MacroOffences.{is_same_list, item_of, is_item, is_list_at, is_list_in, is_list_as, is_list_through, is_list_for, is_mark_everywhere}
use Rattle.template_meaning.specs.Again.{IsMarkOf, StandsAgain, StandsInEach, ListsStandInEach}
use Rattle.template_meaning.proofs.Clear.{units_are_clear, in_numbers}

all_pass : {X : Type 0} (test : X → Bool) (xs : List X) (x : X) (k : ℕ) → list_all test xs ≡ true → slice_get xs k ≡ Some x → test x ≡ true
all_pass test [] x k all at = absurd (cc)
all_pass test (y ∷ xs) x zero all at = subst (λ (z : _). test z ≡ true) (same_Some y x at) (and_parts (test y) (list_all test xs) all).0
all_pass test (y ∷ xs) x (suc k) all at = all_pass test xs x k (and_parts (test y) (list_all test xs) all).1 at

any_at : {X : Type 0} (test : X → Bool) (xs : List X) → list_any test xs ≡ true → (x : X) × (In x xs × (test x ≡ true))
any_at test [] h = absurd (false≢true h)
any_at test (x ∷ xs) h = elim (or_cases (test x) (list_any test xs) h) [
  | inl here ↦ (x, ((0, refl), here))
  | inr later ↦ let r = any_at test xs later in (r.0, ((suc r.1.0.0, r.1.0.1), r.1.1))
]

mark_passes : (test : ℕ → Bool) (l : NameList) (k : ℕ) → each_mark test l ≡ true → IsMarkOf l k → test k ≡ true
mark_passes test l k h (inl e) = ap test e ∙ (and_parts (test l.name) _ h).0
mark_passes test l k h (inr (inl e)) = ap test e ∙ (and_parts (test l.begin) _ (and_parts (test l.name) _ h).1).0
mark_passes test l k h (inr (inr (inl e))) =
    ap test e ∙ (and_parts (list_all test l.commas) (test l.close) (and_parts (test l.begin) _ (and_parts (test l.name) _ h).1).1).1
mark_passes test l k h (inr (inr (inr i))) =
    all_pass test l.commas k i.0 (and_parts (list_all test l.commas) (test l.close) (and_parts (test l.begin) _ (and_parts (test l.name) _ h).1).1).0 i.1

module _ (a : AnalysisValue) (members : List Part) (u : UnitAnalysis) (l : NameList) (k : ℕ) where
  abbrev toks : List Token
  toks = u.text.toks

  one_again : (v : UnitAnalysis) (number : ℕ) (m : NameList) → In m v.bound.declarators ⊎ In m v.bound.calls → is_list_at members toks l k v.text v.bound.names number m ≡ true
      → StandsAgain members u v l k number
  one_again v number m there h =
      let both = and_parts (is_same_list toks v.text.toks l m) _ h in
      let more = and_parts (names_function members v.text.toks v.bound.names m.name) _ both.1 in
      record { list = m; there = there; own = more.0; same = both.0; mark = more.1 }

  list_again : (v : UnitAnalysis) (number : ℕ) → is_list_in members toks l k v.text v.bound number ≡ true → StandsAgain members u v l k number
  list_again v number h =
      let at = is_list_at members toks l k v.text v.bound.names number in
      elim (or_cases (list_any at v.bound.declarators) (list_any at v.bound.calls) h) [
        | inl d ↦ let m = any_at at v.bound.declarators d in one_again v number m.0 (inl m.1.0) m.1.1
        | inr c ↦ let m = any_at at v.bound.calls c in one_again v number m.0 (inr m.1.0) m.1.1
      ]

  again_in : (item : Reached) → is_list_for members a toks l k item ≡ true → (v : UnitAnalysis) (j : ℕ) (r : Reached) → In v a.units → slice_get v.text.reached j ≡ Some r → is_item item r ≡ true
      → StandsAgain members u v l k (j + 1)
  again_in item h v j r i at same =
      let through = all_pass (λ (w : UnitAnalysis). is_list_through members toks l k item w.text w.bound) a.units v i.0 h i.1 in
      let n = in_numbers 0 (length v.text.reached) j (omega arith) (let w = within v.text.reached j r at in omega (arith, w)) in
      let here = all_pass (is_list_as members toks l k item v.text v.bound) (numbers 0 (length v.text.reached)) j n.0 through n.1 in
      list_again v (j + 1)
      (not_or (option_map_or (is_item item) (slice_get v.text.reached j) false) (is_list_in members toks l k v.text v.bound (j + 1)) here
      (ap (λ (o : Option Reached). option_map_or (is_item item) o false) at ∙ same))

  in_each : is_mark_everywhere members a toks u.text.reached l k ≡ true → StandsInEach a members u l k
  in_each h = by (item_of u.text.reached k) refl h
    where
      by : (o : Option Reached) → item_of u.text.reached k ≡ o → option_map_or (is_list_for members a toks l k) o false ≡ true → StandsInEach a members u l k
      by None e g = absurd (false≢true g)
      by (Some item) e g = record { item = item; is = e; again = again_in item g }

pub lists_stand_in_each : ListsStandInEach
lists_stand_in_each source ws a members order h u i l (inl j) own k mark =
    let clear = units_are_clear source ws a members order h u i in
    let d = clear.declarators l j own in
    let list = d.list in
    in_each a members u l k (mark_passes (is_mark_everywhere members a u.text.toks u.text.reached l) l k list.everywhere mark)
lists_stand_in_each source ws a members order h u i l (inr j) own k mark =
    let clear = units_are_clear source ws a members order h u i in
    let c = clear.calls l j own in
    let list = c.list in
    in_each a members u l k (mark_passes (is_mark_everywhere members a u.text.toks u.text.reached l) l k list.everywhere mark)
