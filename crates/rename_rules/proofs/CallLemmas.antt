-- Units in their projects, and the names that projects declare.
use Rattle.std.proofs.Common.{◌≡◌, ℕ, zero, suc, ◌+◌, ◌≤◌, ◌<◌, ◌||◌, get_or, Bool, true, false, List, [], ◌∷◌, ◌++◌, length, take, Option, Some, slice_get, inl, inr, refl, sym, ap, subst, ◌∙◌, append_assoc, append-nil}
use Rattle.std.specs.List.{flat_map, list_any}
use Rattle.std.specs.Option.{option_map_or}
use Rattle.std.specs.Str.{bytes_eq}
use Rattle.std.proofs.lemmas.Bool.{cases_Bool, and_parts, false≢true}
use Rattle.std.proofs.lemmas.Grind.{flat_map-append}
use Rattle.std.proofs.lemmas.List.{take_all}
use Rattle.std.proofs.lemmas.Option.{none-some, same_Some, slice_get-get_or, slice_get_past}
use Rattle.std.proofs.lemmas.Slice.Eq.{bytes_eq-Decides}
use Rattle.cs_base.specs.declared.causes.Cause.TheVariants as cause
use Rattle.cs_base.specs.declared.positions.Part.{Part}
use Rattle.cs_base.specs.Token.{Token}
use Rattle.cs_base.specs.Units.{UnitValue}
use Rattle.cs_base.proofs.BoolLemmas.{or_false}
use Rattle.cs_base.proofs.ListLemmas.{next}
use Rattle.analysis.specs.Below.source_files.Files.{Table}
use Rattle.analysis.specs.Below.scope_bind.declared.bound.Name.{Name}
use Rattle.analysis.specs.Analysis.{UnitAnalysis}
use Rattle.offences.specs.declared.firsts.Offence.{Offence}
use Rattle.offences.specs.First.{standing, FirstThen}
use Rattle.offences.proofs.FirstLemmas.{then_none}
use Rattle.rename_rules.specs.Undeclared.{ProjectName, ProjectUnit, call_place, call_places, declared_by, declared_in, is_declared, is_of, project_at, project_name, project_unit, project_units, undeclared_place, HaveNames}

-- ---- units in their projects

pub as_many : (units : List UnitValue) (us : List UnitAnalysis) → length (project_units units us) ≡ length us
as_many units [] = refl
as_many [] (u ∷ us) = ap (λ (n : ℕ). suc n) (as_many [] us)
as_many (unit ∷ units) (u ∷ us) = ap (λ (n : ℕ). suc n) (as_many units us)

pub unit_in_project : (units : List UnitValue) (us : List UnitAnalysis) (k : ℕ) (u : UnitAnalysis) → slice_get us k ≡ Some u
    → slice_get (project_units units us) k ≡ Some (project_unit (project_at units k) u)
unit_in_project units [] k u at = absurd (none-some u at)
unit_in_project [] (v ∷ us) zero u at = ap (λ (w : UnitAnalysis). Some (project_unit [] w)) (same_Some v u at)
unit_in_project [] (v ∷ us) (suc k) u at = unit_in_project [] us k u at
unit_in_project (unit ∷ units) (v ∷ us) zero u at = ap (λ (w : UnitAnalysis). Some (project_unit unit.project w)) (same_Some v u at)
unit_in_project (unit ∷ units) (v ∷ us) (suc k) u at = unit_in_project units us k u at

pub own_unit : (units : List UnitValue) (us : List UnitAnalysis) (k : ℕ) (p : ProjectUnit) → slice_get (project_units units us) k ≡ Some p → slice_get us k ≡ Some p.unit
own_unit units [] k p at = absurd (none-some p at)
own_unit [] (v ∷ us) zero p at = ap (λ (q : ProjectUnit). Some q.unit) (same_Some (project_unit [] v) p at)
own_unit [] (v ∷ us) (suc k) p at = own_unit [] us k p at
own_unit (unit ∷ units) (v ∷ us) zero p at = ap (λ (q : ProjectUnit). Some q.unit) (same_Some (project_unit unit.project v) p at)
own_unit (unit ∷ units) (v ∷ us) (suc k) p at = own_unit units us k p at

-- ---- names

any_both : {X : Type 0} (test : X → Bool) (xs ys : List X) → list_any test (xs ++ ys) ≡ (list_any test xs || list_any test ys)
any_both test [] ys = refl
any_both test (x ∷ xs) ys = elim (cases_Bool (test x)) [
  | inl first ↦ rw first refl
  | inr later ↦ rw later (any_both test xs ys)
]

pub have_none : (names : List ProjectName) → HaveNames names (names ++ [])
have_none names test = ap (list_any test) (sym (append-nil names))

pub have_past : {X : Type 0} (f : X → List ProjectName) (xs : List X) (k : ℕ) (names : List ProjectName) → length xs ≤ k → HaveNames names (names ++ option_map_or f (slice_get xs k) [])
have_past {X = X} f xs k names past = subst (λ (o : Option X). HaveNames names (names ++ option_map_or f o [])) (sym (slice_get_past xs k past)) (have_none names)

-- one list of names behind another
have_both : (a b c xs ys : List ProjectName) → HaveNames b (a ++ xs) → HaveNames c (b ++ ys) → HaveNames c (a ++ (xs ++ ys))
have_both a b c xs ys f g test =
    g test
    ∙ (any_both test b ys
    ∙ (ap (λ (x : Bool). x || list_any test ys) (f test) ∙ (sym (any_both test (a ++ xs) ys) ∙ ap (list_any test) (append_assoc a xs ys))))

same_name : (x : ProjectName) (project text : List ℕ) → is_of project text x ≡ true → x ≡ project_name project text
same_name x project text h =
    let both = and_parts (bytes_eq x.project project) (bytes_eq x.text text) h in
    ap (λ (p : List ℕ). project_name p x.text) ((bytes_eq-Decides x.project project).0 both.0) ∙ ap (project_name project) ((bytes_eq-Decides x.text text).0 both.1)

or_known : (a b : Bool) → (b ≡ true → a ≡ true) → a ≡ (a || b)
or_known true b h = refl
or_known false true h = h refl
or_known false false h = refl

known_again : (project text : List ℕ) (test : ProjectName → Bool) (names : List ProjectName) → is_declared names project text ≡ true → test (project_name project text) ≡ true
    → list_any test names ≡ true
known_again project text test [] e h = absurd (false≢true e)
known_again project text test (x ∷ names) e h = elim (cases_Bool (is_of project text x)) [
  | inl same ↦ let here : test x ≡ true = ap test (same_name x project text same) ∙ h in rw here refl
  | inr other ↦
      let rest : is_declared names project text ≡ true = rw other at e in
      elim (cases_Bool (test x)) [
        | inl first ↦ rw first refl
        | inr later ↦ rw later (known_again project text test names rest h)
      ]
]

-- what is known is so already
pub have_known : (names : List ProjectName) (project text : List ℕ) → is_declared names project text ≡ true → HaveNames names (names ++ project_name project text ∷ [])
have_known names project text known test =
    or_known (list_any test names) (test (project_name project text)) (known_again project text test names known)
    ∙ (ap (λ (b : Bool). list_any test names || b) (or_false (test (project_name project text))) ∙ sym (any_both test names (project_name project text ∷ [])))

-- those of one element more, and of all
pub have_next : {X : Type 0} (f : X → List ProjectName) (xs : List X) (k : ℕ) (x : X) (a b c : List ProjectName) → slice_get xs k ≡ Some x
    → HaveNames b (a ++ flat_map f (take k xs)) → HaveNames c (b ++ f x) → HaveNames c (a ++ flat_map f (take (k + 1) xs))
have_next f xs k x a b c at before here =
    let all : flat_map f (take (k + 1) xs) ≡ flat_map f (take k xs) ++ f x =
    ap (flat_map f) (next xs k x at) ∙ (flat_map-append f (take k xs) (x ∷ []) ∙ ap (λ (ys : List ProjectName). flat_map f (take k xs) ++ ys) (append-nil (f x))) in
    subst (λ (ys : List ProjectName). HaveNames c (a ++ ys)) (sym all) (have_both a b c (flat_map f (take k xs)) (f x) before here)

pub have_all : {X : Type 0} (f : X → List ProjectName) (xs : List X) (k : ℕ) (a b : List ProjectName) → length xs ≤ k
    → HaveNames b (a ++ flat_map f (take k xs)) → HaveNames b (a ++ flat_map f xs)
have_all {X = X} f xs k a b past is = subst (λ (ys : List X). HaveNames b (a ++ flat_map f ys)) (take_all k xs past) is

pub have_next_or : {X : Type 0} (f : X → List ProjectName) (xs : List X) (k : ℕ) (d : X) (a b c : List ProjectName) → k < length xs
    → HaveNames b (a ++ flat_map f (take k xs)) → HaveNames c (b ++ f (get_or xs k d)) → HaveNames c (a ++ flat_map f (take (k + 1) xs))
have_next_or f xs k d a b c less before here = have_next f xs k (get_or xs k d) a b c (slice_get-get_or xs k d less) before here

-- names that are the same declare the same
pub calls_same : (members : List Part) (known names : List ProjectName) (p : ProjectUnit) → HaveNames known names → call_places members known p ≡ call_places members names p
calls_same members known names p have =
    let same : is_declared known p.project ≡ is_declared names p.project = λ i text. have (is_of p.project text) i in
    ap (λ (f : List ℕ → Bool). flat_map (call_place members f p.unit.text.toks) p.unit.bound.names) same

-- the names of a unit, by what a walk has of it
pub declared_same : (members : List Part) (project : List ℕ) (u : UnitAnalysis) (names more : List Name) (toks : List Token) → toks ≡ u.text.toks → names ≡ u.bound.names
    → more ≡ u.bound.names → flat_map (declared_by members project names toks) more ≡ declared_in members (project_unit project u)
declared_same members project u names more toks t n m =
    ap (λ (ts : List Token). flat_map (declared_by members project names ts) more) t
    ∙ (ap (λ (ns : List Name). flat_map (declared_by members project ns u.text.toks) more) n ∙ ap (flat_map (declared_by members project u.bound.names u.text.toks)) m)

pub calls_told : (members : List Part) (known : List ProjectName) (project : List ℕ) (u : UnitAnalysis) (toks : List Token) (names : List Name) → toks ≡ u.text.toks → names ≡ u.bound.names
    → flat_map (call_place members (is_declared known project) toks) names ≡ call_places members known (project_unit project u)
calls_told members known project u toks names t n =
    ap (λ (ts : List Token). flat_map (call_place members (is_declared known project) ts) names) t
    ∙ ap (flat_map (call_place members (is_declared known project) u.text.toks)) n

-- ---- tokens by their numbers

pub no_call : (table : Table) (members : List Part) (known : List ℕ → Bool) (toks : List Token) (k : ℕ) (first : Option Offence) → length toks ≤ k
    → FirstThen table (standing cause.Undeclared (option_map_or (undeclared_place members known) (slice_get toks k) [])) first first
no_call table members known toks k first past =
    subst (λ (o : Option Token). FirstThen table (standing cause.Undeclared (option_map_or (undeclared_place members known) o [])) first first)
    (sym (slice_get_past toks k past)) (then_none table first)
