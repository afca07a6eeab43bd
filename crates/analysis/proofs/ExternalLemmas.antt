-- The external names of units, token after token.
use Rattle.std.proofs.Common.{◌≡◌, ℕ, zero, suc, ◌+◌, ◌<◌, ◌≤◌, true, false, List, [], ◌∷◌, ◌++◌, length, get_or, drop, min, Option, None, Some, slice_get, refl, sym, ap, ◌∙◌, append_assoc, inl, inr, arith, cond}
use Rattle.std.specs.Option.{option_map_or}
use Rattle.std.proofs.lemmas.Bool.{cases_lt, cond-true, cond-false}
use Rattle.std.proofs.lemmas.Option.{slice_get_past}
use Rattle.std.proofs.lemmas.List.{drop_more, drop_all, append-nil}
use Rattle.cs_base.specs.Token.{Token}
use Rattle.cs_base.proofs.ListLemmas.{drop-some, drop_none, read_at}
use Rattle.cs_base.specs.Units.{UnitValue}
use Rattle.linkage_join.specs.Linkage.{UnitValue as ExternalNames}
use Rattle.gnu_bind.specs.Below.scope_bind.declared.bound.Name.{Name}
use Rattle.analysis.specs.Analysis.{UnitAnalysis}
use Rattle.analysis.specs.Links.{is_external_name, external_names_from, names_at as names_there_are, names_of_unit, names_of_units}

-- ---- the names of one unit

names_cons : (names : List Name) (k : ℕ) (t : Token) (toks : List Token) → external_names_from names k (t ∷ toks) ≡ cond (is_external_name names k) (t ∷ external_names_from names (k + 1) toks) (external_names_from names (k + 1) toks)
unfolding external_names_from
names_cons names k t toks = refl

names_nil : (names : List Name) (k : ℕ) → external_names_from names k [] ≡ []
unfolding external_names_from
names_nil names k = refl

names_at : (names : List Name) (toks : List Token) (k : ℕ) (t : Token) → k < length toks → external_names_from names k (drop k toks)
    ≡ cond (is_external_name names k) (get_or toks k t ∷ external_names_from names (k + 1) (drop (k + 1) toks)) (external_names_from names (k + 1) (drop (k + 1) toks))
names_at names toks k t less = ap (external_names_from names k) (drop_more toks k t less) ∙ names_cons names k (get_or toks k t) (drop (k + 1) toks)

any_of : {A : Type 0} (xs : List A) (k : ℕ) → k < length xs → A
any_of [] k less = absurd (omega arith)
any_of (x ∷ xs) k less = x

pub names_skip : (names : List Name) (toks : List Token) (k : ℕ) → k < length toks → is_external_name names k ≡ false
    → external_names_from names (k + 1) (drop (k + 1) toks) ≡ external_names_from names k (drop k toks)
names_skip names toks k less no' =
    let t = any_of toks k less in
    let rest = external_names_from names (k + 1) (drop (k + 1) toks) in
    sym (names_at names toks k t less ∙ cond-false (is_external_name names k) (get_or toks k t ∷ rest) rest no')

pub names_more : (names : List Name) (toks : List Token) (k : ℕ) (t copy : Token) (all now whole : List Token) → k < length toks → is_external_name names k ≡ true → t ≡ get_or toks k t → copy ≡ t → now ≡ all ++ copy ∷ []
    → all ++ external_names_from names k (drop k toks) ≡ whole → now ++ external_names_from names (k + 1) (drop (k + 1) toks) ≡ whole
names_more names toks k t copy all now whole less yes' is same e rest =
    let later = external_names_from names (k + 1) (drop (k + 1) toks) in
    ap (λ v. v ++ later) e ∙ append_assoc all (copy ∷ []) later
    ∙ ap (λ v. all ++ v) (ap (λ v. v ∷ later) (same ∙ is) ∙ sym (names_at names toks k t less ∙ cond-true (is_external_name names k) (get_or toks k t ∷ later) later yes'))
    ∙ rest

pub names_end : (names : List Name) (toks : List Token) (k : ℕ) (all whole : List Token) → length toks ≤ k → all ++ external_names_from names k (drop k toks) ≡ whole → all ≡ whole
names_end names toks k all whole past e = sym (append-nil all) ∙ ap (λ v. all ++ v) (sym (ap (external_names_from names k) (drop_all k toks past) ∙ names_nil names k)) ∙ e

-- ---- those of each unit

pub none_left : (units : List UnitValue) → names_of_units units [] ≡ []
none_left [] = refl
none_left (u ∷ units) = refl

pub of_units_end : (units : List UnitValue) (parts : List UnitAnalysis) (i : ℕ) (all whole : List ExternalNames) → min (length units) (length parts) ≤ i
    → all ++ names_of_units (drop i units) (drop i parts) ≡ whole → all ≡ whole
of_units_end units parts i all whole past e =
    let none : names_of_units (drop i units) (drop i parts) ≡ [] = elim (cases_lt i (length units)) [
      | inl l ↦ ap (λ v. names_of_units (drop i units) v) (drop_all i parts (omega arith)) ∙ none_left (drop i units)
      | inr m ↦ ap (λ v. names_of_units v (drop i parts)) (drop_all i units m)
    ] in
    sym (append-nil all) ∙ ap (λ v. all ++ v) (sym none) ∙ e

drop_past : {X : Type 0} (xs : List X) (k : ℕ) → slice_get xs k ≡ None → drop (suc k) xs ≡ []
drop_past [] k at = refl
drop_past {X = X} (x ∷ xs) zero at = absurd (let wrong : ◌≡◌ {A = Option X} (Some x) None = at in cc)
drop_past (x ∷ xs) (suc k) at = drop_past xs k at

names_next : (units : List UnitValue) (us : List UnitAnalysis) (k : ℕ) (u : UnitAnalysis) (o : Option UnitValue) → slice_get units k ≡ o → slice_get us k ≡ Some u
    → names_of_units (drop k units) (drop k us) ≡ option_map_or (λ unit. names_of_unit unit u ∷ []) o [] ++ names_of_units (drop (k + 1) units) (drop (k + 1) us)
names_next units us k u (Some unit) own at =
    ap (λ (vs : List UnitValue). names_of_units vs (drop k us)) (drop-some units k unit own) ∙ ap (names_of_units (unit ∷ drop (k + 1) units)) (drop-some us k u at)
names_next units us k u None own at =
    let on : k + 1 ≡ suc k = omega arith in
    let past : drop (k + 1) units ≡ [] = ap (λ (n : ℕ). drop n units) on ∙ drop_past units k own in
    ap (λ (vs : List UnitValue). names_of_units vs (drop k us)) (drop_none units k own) ∙ sym (ap (λ (vs : List UnitValue). names_of_units vs (drop (k + 1) us)) past)

pub names_there : (units : List UnitValue) (k : ℕ) (unit : UnitValue) (u : UnitAnalysis) → k < length units → unit ≡ get_or units k unit
    → names_of_unit unit u ∷ [] ≡ names_there_are units k u
names_there units k unit u less is = ap (λ (o : Option UnitValue). option_map_or (λ (v : UnitValue). names_of_unit v u ∷ []) o []) (sym (read_at units k unit less is))

pub names_past : (units : List UnitValue) (k : ℕ) (u : UnitAnalysis) (all : List ExternalNames) → length units ≤ k → all ≡ all ++ names_there_are units k u
names_past units k u all past =
    sym (append-nil all) ∙ ap (λ (o : Option UnitValue). all ++ option_map_or (λ (v : UnitValue). names_of_unit v u ∷ []) o []) (sym (slice_get_past units k past))

-- the names of one unit more
pub of_units_more : (units : List UnitValue) (us : List UnitAnalysis) (k : ℕ) (u : UnitAnalysis) (all now whole : List ExternalNames) → slice_get us k ≡ Some u
    → now ≡ all ++ names_there_are units k u → all ++ names_of_units (drop k units) (drop k us) ≡ whole → now ++ names_of_units (drop (k + 1) units) (drop (k + 1) us) ≡ whole
of_units_more units us k u all now whole at more rest =
    let later = names_of_units (drop (k + 1) units) (drop (k + 1) us) in
    ap (λ (ns : List ExternalNames). ns ++ later) more ∙ append_assoc all (names_there_are units k u) later
    ∙ ap (λ (ns : List ExternalNames). all ++ ns) (sym (names_next units us k u (slice_get units k) refl at)) ∙ rest
