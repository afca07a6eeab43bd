-- Identifiers of external linkage behind a new order: two of them denote one entity exactly where they did.
use Rattle.std.proofs.Common.{ℕ, ◌<◌, ◌≤◌, ◌≡◌, Bool, true, cond, if◌then◌else◌, ◌==◌, List, [], ◌∷◌, ◌++◌, length, map, reverse, Option, None, Some, refl, sym, ap, subst, ◌∙◌, inl, inr, arith}
use mathlib.Core.List.{reverse-cons}
use Rattle.std.specs.Prelude.{find, nat_lt, slice_get}
use Rattle.std.specs.List.{All}
use Rattle.std.specs.Option.{option_map, option_map_or, option_and_then}
use Rattle.std.proofs.lemmas.Bool.{cases_Bool, eqb-true, ltb-true, ltb-false}
use Rattle.std.proofs.lemmas.List.{length-map}
use Rattle.std.proofs.lemmas.List.Elements.{All-nil, All-head, All-tail, All-push, All-same}
use Rattle.std.proofs.lemmas.Option.{none-some, same_Some, slice_get_past, slice_get_cases, slice_get_within}
use Rattle.cs_base.specs.declared.positions.Part.{Part}
use Rattle.cs_base.specs.Token.{Token}
use Rattle.cs_base.specs.Units.{UnitValue}
use Rattle.c_types.specs.Declarations.{is_linkage, spelling_at}
use Rattle.c_types.specs.declared.entity.Linkage.{Linkage}
use Rattle.c_types.specs.declared.entity.Linkage.TheVariants.{External}
use Rattle.scope_bind.specs.declared.bound.Name.{Name}
use Rattle.scope_bind.specs.Names.{name_at, entity_at, linkage_at}
use Rattle.analysis.specs.Analysis.{UnitAnalysis, AnalysisValue}
use Rattle.analysis.specs.Changed.{ExternalName, external_name, external_if, external_at, is_one_entity}
use Rattle.list_cuts.specs.Cuts.{Cut, arranged}
use Rattle.list_cuts.proofs.CutLemmas.{arranged-map, length-arranged}
use Rattle.reordered_tree_laws.proofs.MovedPlaces.{moved-beyond, texts_spelled}
use Rattle.template_meaning.specs.Lists.{IsCut}
use Rattle.reordered.specs.Reordered.{unit_cut, moved_in, Plain, plain, IsReorderedUnit, moved_at, ExternalNamesMove}

-- ---- Names of a text

all_reversed : {X : Type 0} (P : X → Type 0) (xs : List X) → All P xs → All P (reverse xs)
all_reversed P [] h = All-nil P
all_reversed P (x ∷ xs) h =
    All-same P (reverse (x ∷ xs)) (reverse xs ++ x ∷ []) (reverse-cons x xs)
    (All-push P (reverse xs) x (all_reversed P xs (All-tail P x xs h)) (All-head P x xs h))

found_in : {X : Type 0} (P : X → Type 0) (p : X → Bool) (xs : List X) (x : X) → All P xs → find p xs ≡ Some x → P x × (p x ≡ true)
found_in P p [] x all e = absurd (none-some x e)
found_in P p (y ∷ ys) x all e = elim (cases_Bool (p y)) [
  | inl here ↦
      let same : y ≡ x = same_Some y x (sym (ap (λ b. cond b (Some y) (find p ys)) here) ∙ e) in
      (subst P same (All-head P y ys all), ap p (sym same) ∙ here)
  | inr other ↦ found_in P p ys x (All-tail P y ys all) (sym (ap (λ b. cond b (Some y) (find p ys)) other) ∙ e)
]

-- a name and its entity are among so many tokens
abbrev pub IsWithin : ℕ → Name → Type 0
IsWithin count n = (n.index < count) × (n.entity < count)

module _ (names : List Name) (count : ℕ) (all : All (IsWithin count) names) where
  entity_by : (k e : ℕ) (r : Option Name) → name_at names k ≡ r → option_map (λ (n : Name). n.entity) r ≡ Some e → (k < count) × (e < count)
  entity_by k e None at is = absurd (none-some e is)
  entity_by k e (Some n) at is =
      let f = found_in (IsWithin count) (λ (x : Name). x.index == k) (reverse names) n (all_reversed (IsWithin count) names all) at in
      (omega (arith, f.0.0, eqb-true n.index k f.1), omega (arith, f.0.1, same_Some n.entity e is))

  entity_within : (k e : ℕ) → entity_at names k ≡ Some e → (k < count) × (e < count)
  entity_within k e is = entity_by k e (name_at names k) refl is

  entity_beyond : (k : ℕ) → count ≤ k → entity_at names k ≡ None
  entity_beyond k far = by (entity_at names k) refl
    where
      by : (r : Option ℕ) → entity_at names k ≡ r → r ≡ None
      by None e = refl
      by (Some x) e = absurd (omega (arith, far, (entity_within k x e).0))

-- ---- A unit

-- token k of the unit, if it is an identifier of external linkage
abbrev named_outside : UnitValue → UnitAnalysis → ℕ → Option ExternalName
named_outside unit u k = option_and_then (external_if unit u k) (entity_at u.bound.names k)

module _ (members : List Part) (order : List ℕ) (u v : UnitAnalysis) (cut : IsCut members order u) (is : IsReorderedUnit members order u v)
    (within : All (IsWithin (length u.text.toks)) u.bound.names) (within2 : All (IsWithin (length v.text.toks)) v.bound.names) where
  abbrev c : Cut
  c = unit_cut members u

  abbrev n : ℕ
  n = length u.text.toks

  abbrev m : ℕ → ℕ
  m k = moved_in members order u k

  texts_arranged : map (λ (t : Token). t.text) v.text.toks ≡ arranged order c (map (λ (t : Token). t.text) u.text.toks)
  texts_arranged =
      sym (plain_texts v.text.toks)
      ∙ (ap (λ (ps : List Plain). map (λ (p : Plain). p.text) ps) is.tokens
      ∙ (sym (arranged-map (λ (p : Plain). p.text) order c (map plain u.text.toks)) ∙ ap (λ (xs : List (List ℕ)). arranged order c xs) (plain_texts u.text.toks)))
    where
      plain_texts : (toks : List Token) → map (λ (p : Plain). p.text) (map plain toks) ≡ map (λ (t : Token). t.text) toks
      plain_texts [] = refl
      plain_texts (t ∷ toks) = ap (λ (xs : List (List ℕ)). t.text ∷ xs) (plain_texts toks)

  spelled : (k : ℕ) → spelling_at v.text.toks (m k) ≡ spelling_at u.text.toks k
  spelled k = texts_spelled order c u.text.toks v.text.toks cut.order_is cut.each texts_arranged k

  pub as_many : length v.text.toks ≡ n
  as_many =
      sym (length-map v.text.toks (λ (t : Token). t.text))
      ∙ (ap (λ (xs : List (List ℕ)). length xs) texts_arranged
      ∙ (length-arranged (length order) order c (map (λ (t : Token). t.text) u.text.toks) cut.order_is cut.each ∙ length-map u.text.toks (λ (t : Token). t.text)))

  linked : (unit : UnitValue) (k e : ℕ) → e < n → external_if unit v (m k) (m e) ≡ external_if unit u k e
  linked unit k e less =
      ap (λ (l : Linkage). if is_linkage l External then Some (external_name unit.project (spelling_at v.text.toks (m k))) else None) (let names = is.names in names.linkages e less)
      ∙ ap (λ (w : List ℕ). if is_linkage (linkage_at u.bound.names e) External then Some (external_name unit.project w) else None) (spelled k)

  by_entity : (unit : UnitValue) (k : ℕ) → k < n → (r : Option ℕ) → entity_at u.bound.names k ≡ r
      → option_and_then (external_if unit v (m k)) (option_map m r) ≡ option_and_then (external_if unit u k) r
  by_entity unit k less None at = refl
  by_entity unit k less (Some e) at = linked unit k e (entity_within u.bound.names n within k e at).1

  pub unit_same : (unit : UnitValue) (k : ℕ) → named_outside unit v (m k) ≡ named_outside unit u k
  unit_same unit k = elim (cases_Bool (nat_lt k n)) [
    | inl inside ↦
        let less : k < n = ltb-true k n inside in
        ap (λ (r : Option ℕ). option_and_then (external_if unit v (m k)) r) (let names = is.names in names.entities k less)
        ∙ by_entity unit k less (entity_at u.bound.names k) refl
    | inr outside ↦
        let far : n ≤ k = ltb-false k n outside in
        let stays : m k ≡ k = moved-beyond n order c cut.order_is cut.each k far in
        ap (λ (j : ℕ). named_outside unit v j) stays
        ∙ (ap (λ (r : Option ℕ). option_and_then (external_if unit v k) r) (entity_beyond v.bound.names (length v.text.toks) within2 k (omega (arith, far, as_many)))
        ∙ sym (ap (λ (r : Option ℕ). option_and_then (external_if unit u k) r) (entity_beyond u.bound.names n within k far)))
  ]

-- ---- All units

-- the names of a unit stand in its text
abbrev pub IsNamed : UnitAnalysis → Type 0
IsNamed u = All (IsWithin (length u.text.toks)) u.bound.names

module _ (members : List Part) (order : List ℕ) (old new : AnalysisValue) (workspace : new.workspace ≡ old.workspace) (many : length new.units ≡ length old.units)
    (units : (n : ℕ) (u v : UnitAnalysis) → slice_get old.units n ≡ Some u → slice_get new.units n ≡ Some v → IsReorderedUnit members order u v)
    (cuts : (n : ℕ) (u : UnitAnalysis) → slice_get old.units n ≡ Some u → IsCut members order u)
    (named : (n : ℕ) (u : UnitAnalysis) → slice_get old.units n ≡ Some u → IsNamed u)
    (named2 : (n : ℕ) (v : UnitAnalysis) → slice_get new.units n ≡ Some v → IsNamed v) where
  abbrev there : ℕ → ℕ → ℕ
  there n k = moved_at members order old n k

  in_unit : (x : Option UnitValue) (k j : ℕ) (r s : Option UnitAnalysis)
      → ((unit : UnitValue) → option_and_then (λ v. named_outside unit v j) s ≡ option_and_then (λ u. named_outside unit u k) r)
      → option_and_then (λ unit. option_and_then (λ v. named_outside unit v j) s) x ≡ option_and_then (λ unit. option_and_then (λ u. named_outside unit u k) r) x
  in_unit None k j r s each = refl
  in_unit (Some unit) k j r s each = each unit

  none_behind : (n : ℕ) → slice_get old.units n ≡ None → slice_get new.units n ≡ None
  none_behind n at = slice_get_past new.units n (omega (arith, many, far n at))
    where
      far : (i : ℕ) → slice_get old.units i ≡ None → length old.units ≤ i
      far i e = elim ((slice_get_cases old.units i).1) [
        | inl some ↦ absurd (none-some some.0 (sym e ∙ some.2))
        | inr past ↦ past.0
      ]

  at_unit : (n k : ℕ) (unit : UnitValue) (r s : Option UnitAnalysis) → slice_get old.units n ≡ r → slice_get new.units n ≡ s
      → option_and_then (λ v. named_outside unit v (option_map_or (λ u. moved_in members order u k) r k)) s ≡ option_and_then (λ u. named_outside unit u k) r
  at_unit n k unit None s at at2 = ap (λ (z : Option UnitAnalysis). option_and_then (λ v. named_outside unit v k) z) (sym at2 ∙ none_behind n at)
  at_unit n k unit (Some u) None at at2 = absurd (elim ((slice_get_cases new.units n).1) [
    | inl some ↦ none-some some.0 (sym at2 ∙ some.2)
    | inr past ↦ omega (arith, past.0, many, slice_get_within old.units n u at)
  ])
  at_unit n k unit (Some u) (Some v) at at2 = unit_same members order u v (cuts n u at) (units n u v at at2) (named n u at) (named2 n v at2) unit k

  external_same : (n k : ℕ) → external_at new n (there n k) ≡ external_at old n k
  external_same n k =
      ap (λ (us : List UnitValue). option_and_then (λ unit. option_and_then (λ v. named_outside unit v (there n k)) (slice_get new.units n)) (slice_get us n)) (ap (λ w. w.units) workspace)
      ∙ in_unit (slice_get old.workspace.units n) k (there n k) (slice_get old.units n) (slice_get new.units n)
      (λ unit. at_unit n k unit (slice_get old.units n) (slice_get new.units n) refl refl)

  pub external_moved : ExternalNamesMove members order old new
  external_moved i j n k =
      ap (λ (x : Option ExternalName). is_one_entity x (external_at new n (there n k))) (external_same i j)
      ∙ ap (λ (y : Option ExternalName). is_one_entity (external_at old i j) y) (external_same n k)
