-- The table of the first tokens of external names: one token more, one unit more.
use Rattle.std.proofs.Common.{ℕ, ◌+◌, ◌<◌, ◌≤◌, ◌≡◌, Bool, ◌&&◌, cond, List, [], ◌∷◌, ◌++◌, length, min, get_or, drop, filter, Option, None, Some, refl, sym, ap, subst, ◌∙◌, inl, inr, if◌then◌else◌, arith}
use Rattle.std.specs.List.{flat_map}
use Rattle.std.specs.Option.{option_or}
use Rattle.std.specs.Str.{bytes_eq}
use Rattle.std.specs.Cmp.Lexicographic.{bytes_decides, nat_list_eq_equiv}
use Rattle.std.proofs.lemmas.Bool.{cases_Bool, cases_lt}
use Rattle.std.proofs.lemmas.Grind.{flat_map-append}
use Rattle.std.proofs.lemmas.List.{drop_more, drop_all}
use Rattle.std.proofs.lemmas.List.Elements.{filter-append}
use Rattle.std.proofs.lemmas.List.Folds.{find-append}
use Rattle.cs_base.specs.Token.{Token}
use Rattle.cs_base.specs.Units.{UnitValue}
use Rattle.cs_base.proofs.OptionLemmas.{option_or-None}
use Rattle.analysis.specs.Below.scope_bind.declared.bound.Name.{Name}
use Rattle.analysis.specs.Below.linkage_join.Linkage.{UnitValue as ExternalNames, first_spelled, names_of}
use Rattle.analysis.specs.Below.linkage_join.Firsts.{Table, with_names}
use Rattle.analysis.specs.Analysis.{UnitAnalysis}
use Rattle.analysis.specs.Links.{is_external_name, external_names_from, names_of_unit, names_of_units}
use Rattle.analysis.proofs.ExternalLemmas.{none_left}
use Rattle.analysis.proofs.Below.linkage_join.LinkageLemmas.{first_in_one as first-in-one}
use Rattle.calls_of.specs.Externals.{own_name, Adds, AddsUnits}
use Rattle.calls_of.proofs.OwnerLemmas.{option_or-assoc}

-- ---- tokens of a project

pub adds-none : (own : List ℕ) (old : Table) → Adds own [] old old
adds-none own old project text = elim (cases_Bool (bytes_eq project own)) [
  | inl same ↦ rw same (sym (option_or-None (old project text)))
  | inr other ↦ rw other (sym (option_or-None (old project text)))
]

pub adds-both : (own : List ℕ) (xs ys : List Token) (old mid new : Table) → Adds own xs old mid → Adds own ys mid new → Adds own (xs ++ ys) old new
adds-both own xs ys old mid new first later project text =
    later project text ∙ ap (λ (o : Option Token). option_or o (if bytes_eq project own then first_spelled text ys else None)) (first project text)
    ∙ elim (cases_Bool (bytes_eq project own)) [
      | inl same ↦ rw same (option_or-assoc (old project text) (first_spelled text xs) (first_spelled text ys)
          ∙ ap (option_or (old project text)) (sym (find-append (λ (v : Token). bytes_eq text v.text) xs ys)))
      | inr other ↦ rw other (option_or-None (option_or (old project text) None))
    ]

module _ (old new : Table) (own spelling : List ℕ) (t : Token) (spelled_so : spelling ≡ t.text) (absent : old own t.text ≡ None)
    (put : (project text : List ℕ) → new project text ≡ cond (bytes_eq own project && bytes_eq spelling text) (Some t) (old project text)) where
  put_text : (project text : List ℕ) → new project text ≡ cond (bytes_eq own project && bytes_eq t.text text) (Some t) (old project text)
  put_text project text =
      let P : List ℕ → Type 0 = λ s. new project text ≡ cond (bytes_eq own project && bytes_eq s text) (Some t) (old project text) in
      subst P spelled_so (put project text)

  at_key : (project text : List ℕ) → own ≡ project → t.text ≡ text → new project text ≡ with_names own (t ∷ []) old project text
  at_key project text same spelled =
      let P : List ℕ → Type 0 = λ p. new p t.text ≡ with_names own (t ∷ []) old p t.text in
      let Q : List ℕ → Type 0 = λ s. new project s ≡ with_names own (t ∷ []) old project s in
      subst Q spelled (subst P same (put_text own t.text ∙ rw (absent, nat_list_eq_equiv.refl own, nat_list_eq_equiv.refl t.text) refl))

  -- a token whose spelling had none
  pub adds-put : Adds own (t ∷ []) old new
  adds-put project text = elim (cases_Bool (bytes_eq own project)) [
    | inl same ↦ elim (cases_Bool (bytes_eq t.text text)) [
      | inl spelled ↦ at_key project text ((bytes_decides own project).0 same) ((bytes_decides t.text text).0 spelled)
      | inr apart ↦ put_text project text ∙ rw (nat_list_eq_equiv.symm project own, nat_list_eq_equiv.symm text t.text, same, apart) (sym (option_or-None (old project text)))
    ]
    | inr other ↦ put_text project text ∙ rw (nat_list_eq_equiv.symm project own, other) (sym (option_or-None (old project text)))
  ]

-- ---- tokens of a unit: those that are left come still

abbrev pub AddsTo : List ℕ → List Token → List Token → Table → Table → Type 0
AddsTo own rest all old now = (last : Table) → Adds own rest now last → Adds own all old last

names-cons : (names : List Name) (k : ℕ) (t : Token) (toks : List Token)
    → external_names_from names k (t ∷ toks) ≡ own_name names k t ++ external_names_from names (k + 1) toks
unfolding external_names_from
names-cons names k t toks = elim (cases_Bool (is_external_name names k)) [
  | inl own ↦ rw own refl
  | inr other ↦ rw other refl
]

pub adds-next : (own : List ℕ) (names : List Name) (toks : List Token) (k : ℕ) (t : Token) (all : List Token) (old mid new : Table) → k < length toks
    → t ≡ get_or toks k t
    → AddsTo own (external_names_from names k (drop k toks)) all old mid → Adds own (own_name names k t) mid new
    → AddsTo own (external_names_from names (k + 1) (drop (k + 1) toks)) all old new
adds-next own names toks k t all old mid new within is so_far here last later =
    let rest = external_names_from names (k + 1) (drop (k + 1) toks) in
    let more : external_names_from names k (drop k toks) ≡ own_name names k t ++ rest =
    ap (external_names_from names k) (drop_more toks k t within ∙ ap (λ (v : Token). v ∷ drop (k + 1) toks) (sym is))
    ∙ names-cons names k t (drop (k + 1) toks) in
    so_far last (rw more (adds-both own (own_name names k t) rest mid new last here later))

pub adds-all : (own : List ℕ) (names : List Name) (toks : List Token) (k : ℕ) (all : List Token) (old now : Table) → length toks ≤ k
    → AddsTo own (external_names_from names k (drop k toks)) all old now → Adds own all old now
unfolding external_names_from
adds-all own names toks k all old now past so_far =
    let none : external_names_from names k (drop k toks) ≡ [] = ap (external_names_from names k) (drop_all k toks past) in
    so_far now (rw none (adds-none own now))

-- ---- units

-- the names of one unit
pub adds-unit : (u : ExternalNames) (old new : Table) → Adds u.project u.names old new → AddsUnits (u ∷ []) old new
adds-unit u old new added project text =
    added project text ∙ ap (option_or (old project text)) (sym (first-in-one project text u))

units-none : (old : Table) → AddsUnits [] old old
units-none old project text = sym (option_or-None (old project text))

units-both : (us vs : List ExternalNames) (old mid new : Table) → AddsUnits us old mid → AddsUnits vs mid new → AddsUnits (us ++ vs) old new
units-both us vs old mid new first later project text =
    let test : ExternalNames → Bool = λ u. bytes_eq project u.project in
    let all : names_of project (us ++ vs) ≡ names_of project us ++ names_of project vs =
    ap (flat_map (λ (v : ExternalNames). v.names)) (filter-append test us vs)
    ∙ flat_map-append (λ (v : ExternalNames). v.names) (filter test us) (filter test vs) in
    later project text ∙ ap (λ (o : Option Token). option_or o (first_spelled text (names_of project vs))) (first project text)
    ∙ option_or-assoc (old project text) (first_spelled text (names_of project us)) (first_spelled text (names_of project vs))
    ∙ ap (option_or (old project text)) (sym (ap (first_spelled text) all ∙ find-append (λ (v : Token). bytes_eq text v.text) (names_of project us) (names_of project vs)))

-- those that are left come still
abbrev pub UnitsTo : List ExternalNames → List ExternalNames → Table → Table → Type 0
UnitsTo rest all old now = (last : Table) → AddsUnits rest now last → AddsUnits all old last

pub units-next : (units : List UnitValue) (us : List UnitAnalysis) (i : ℕ) (unit : UnitValue) (u : UnitAnalysis) (all : List ExternalNames) (old mid new : Table)
    → i < length units → i < length us → unit ≡ get_or units i unit → u ≡ get_or us i u
    → UnitsTo (names_of_units (drop i units) (drop i us)) all old mid
    → Adds unit.project (external_names_from u.bound.names 0 u.text.toks) mid new
    → UnitsTo (names_of_units (drop (i + 1) units) (drop (i + 1) us)) all old new
units-next units us i unit u all old mid new within also is at so_far here last later =
    let one = names_of_unit unit u in
    let same : get_or us i u ≡ u = sym at in
    let rest = names_of_units (drop (i + 1) units) (drop (i + 1) us) in
    let more : names_of_units (drop i units) (drop i us) ≡ one ∷ rest =
    ap (λ (v : List UnitValue). names_of_units v (drop i us)) (drop_more units i unit within ∙ ap (λ (v : UnitValue). v ∷ drop (i + 1) units) (sym is))
    ∙ ap (names_of_units (unit ∷ drop (i + 1) units)) (drop_more us i u also ∙ ap (λ (v : UnitAnalysis). v ∷ drop (i + 1) us) same) in
    so_far last (rw more (units-both (one ∷ []) rest mid new last (adds-unit one mid new here) later))

pub units-all : (units : List UnitValue) (us : List UnitAnalysis) (i : ℕ) (all : List ExternalNames) (old now : Table) → min (length units) (length us) ≤ i
    → UnitsTo (names_of_units (drop i units) (drop i us)) all old now → AddsUnits all old now
units-all units us i all old now past so_far =
    let none : names_of_units (drop i units) (drop i us) ≡ [] = elim (cases_lt i (length units)) [
      | inl l ↦ ap (λ v. names_of_units (drop i units) v) (drop_all i us (omega arith)) ∙ none_left (drop i units)
      | inr m ↦ ap (λ v. names_of_units v (drop i us)) (drop_all i units m)
    ] in
    so_far now (rw none (units-none now))
