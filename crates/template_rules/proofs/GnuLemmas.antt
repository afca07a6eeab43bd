-- Units of GNU C, one after another, and what stands against a new order in them.
use Rattle.std.proofs.Common.{◌≡◌, ℕ, zero, suc, ◌+◌, ◌-◌, ◌<◌, ◌≤◌, Bool, true, false, List, [], ◌∷◌, ◌++◌, length, take, get_or, Option, None, Some, Result, Ok, Err, slice_get, refl, sym, ap, subst, inl, inr, ◌∙◌, arith}
use Rattle.std.specs.Borrow.{Bor}
use Rattle.std.specs.Prelude.{cond, filter, map, is_some, ◌==◌, ◌&&◌, ◌||◌, IfOk}
use Rattle.std.specs.List.{flat_map, list_any}
use Rattle.std.specs.Option.{option_map, option_map_or}
use Rattle.std.proofs.lemmas.Bool.{cases_Bool, false≢true}
use Rattle.std.proofs.lemmas.List.Folds.{list_any-append}
use Rattle.std.proofs.lemmas.Option.{none-some, same_Some, slice_get_past, slice_get-get_or, get_or_from_slice_get}
use Rattle.cs_base.specs.declared.causes.Cause.{Cause}
use Rattle.cs_base.specs.declared.positions.Part.{Part}
use Rattle.cs_base.specs.declared.positions.Pos.{Pos}
use Rattle.cs_base.specs.Token.{Token}
use Rattle.cs_base.specs.Units.{is_gnu}
use Rattle.analysis.specs.Below.source_files.Files.{Table}
use Rattle.analysis.specs.Below.scope_bind.declared.bound.Name.{Name}
use Rattle.analysis.specs.Below.scope_bind.Bound.{Bound}
use Rattle.analysis.specs.Below.scope_bind.Names.{entity_at}
use Rattle.c_types.specs.declared.lists.List.{List as NameList}
use Rattle.gnu_lists.specs.Lists.{Listed, listed_in}
use Rattle.analysis.specs.Analysis.{UnitAnalysis, AnalysisValue}
use Rattle.analysis.specs.GnuUnits.{begin_of, gnu_begin}
use Rattle.offences.specs.declared.firsts.Offence.{Offence}
use Rattle.offences.specs.First.{standing, FirstThen}
use Rattle.offences.proofs.FirstLemmas.{then_none}
use Rattle.template_rules.specs.Functions.{is_list_of, names_function, AreFunctionsOf}
use Rattle.offences.specs.Class.{ClassValue}
use Rattle.template_rules.specs.declared.unit_functions.UnitFunctions.{UnitFunctions}
use Rattle.template_rules.specs.Held.{begins_at, is_begun}
use Rattle.template_rules.specs.Units.{AreUnits, IsUnit, IsUnitAt}
use Rattle.template_rules.specs.GnuOffences.{brought_place, is_in_own, told_offences, gnu_unit, IsAgainstUnit}
use Rattle.template_rules.specs.ScopeOffences.{is_inside}
use Rattle.template_rules.proofs.FoundLemmas.{named_at}
use Rattle.template_rules.proofs.StepLemmas.{more_next}

-- a token past the last one was brought nowhere
pub no_brought : (table : Table) (c : Cause) (toks : List Token) (k : ℕ) (first : Option Offence) → length toks ≤ k
    → FirstThen table (standing c (brought_place toks k)) first first
no_brought table c toks k first past =
    subst (λ (o : Option Token). FirstThen table (standing c (option_map_or (λ (t : Token). t.at ∷ []) o [])) first first)
    (sym (slice_get_past toks k past)) (then_none table first)

-- where a test holds, the places stand, and else none
pub placed : (table : Table) (c : Cause) (test answer : Bool) (places : List Pos) (first now : Option Offence) → answer ≡ test
    → FirstThen table (standing c (cond answer places [])) first now → FirstThen table (standing c (cond test places [])) first now
placed table c test answer places first now same is =
    subst (λ (b : Bool). FirstThen table (standing c (cond b places [])) first now) same is

-- ---- lists of functions

-- lists that pass one test and then another
any_filtered : (p q : NameList → Bool) (ls : List NameList) → list_any q (filter p ls) ≡ list_any (λ (l : NameList). p l && q l) ls
any_filtered p q [] = refl
any_filtered p q (l ∷ ls) = elim (cases_Bool (p l)) [
  | inl is ↦ rw (is, any_filtered p q ls) refl
  | inr none ↦ rw (none, any_filtered p q ls) refl
]

any_mapped : {X : Type 0} (f : X → NameList) (q : NameList → Bool) (xs : List X) → list_any (λ (x : X). q (f x)) xs ≡ list_any q (map f xs)
any_mapped f q [] = refl
any_mapped f q (x ∷ xs) = ap (λ (b : Bool). q (f x) || b) (any_mapped f q xs)

any_begins : (q : ℕ → Bool) (f : Bor NameList → ℕ) (ls : List (Bor NameList)) → list_any (λ (l : Bor NameList). q (f l)) ls ≡ list_any q (map f ls)
any_begins q f [] = refl
any_begins q f (l ∷ ls) = ap (λ (b : Bool). q (f l) || b) (any_begins q f ls)

any_alike : (p q : NameList → Bool) (ls : List NameList) → ((l : NameList) → p l ≡ q l) → list_any p ls ≡ list_any q ls
any_alike p q [] same = refl
any_alike p q (l ∷ ls) same = rw (same l, any_alike p q ls same) refl

-- a token stands inside a list of the functions
pub in_own : (members : List Part) (toks : List Token) (names : List Name) (entities : List ℕ) (own : AreFunctionsOf members toks names entities)
    (found : List (Bor NameList)) (all : List NameList) (k : ℕ) → map (λ (l : Bor NameList). l.now) found ≡ filter (is_list_of names entities) all
    → list_any (λ (l : Bor NameList). is_inside l.now k) found ≡ list_any (is_in_own members toks names k) all
in_own members toks names entities own found all k gathered =
    any_mapped (λ (l : Bor NameList). l.now) (λ (l : NameList). is_inside l k) found
    ∙ (ap (λ (ls : List NameList). list_any (λ (l : NameList). is_inside l k) ls) gathered
    ∙ (any_filtered (is_list_of names entities) (λ (l : NameList). is_inside l k) all
    ∙ any_alike (λ (l : NameList). is_list_of names entities l && is_inside l k) (is_in_own members toks names k) all
    (λ l. ap (λ (b : Bool). b && is_inside l k) (named_at members toks names entities own (entity_at names l.name)))))

-- the lists of the functions in a unit begin where they are found
pub begins_told : (class : ClassValue) (u : UnitAnalysis) (f : UnitFunctions) → f.class ≡ class → IsUnit u f
    → (begins : List ℕ) → begins ≡ map (λ (l : Bor NameList). l.now.begin) f.found.items
    → (k : ℕ) → list_any (λ (b : ℕ). b == k) begins ≡ begins_at class.members u k
begins_told class u f own is begins are k =
    let toks = f.text.now.toks in
    let names = f.bound.now.names in
    let at : NameList → Bool = λ l. l.begin == k in
    ap (λ (bs : List ℕ). list_any (λ (b : ℕ). b == k) bs) are
    ∙ (sym (any_begins (λ (b : ℕ). b == k) (λ (l : Bor NameList). l.now.begin) f.found.items)
    ∙ (any_mapped (λ (l : Bor NameList). l.now) at f.found.items
    ∙ (ap (λ (ls : List NameList). list_any at ls) f.gathered
    ∙ (any_filtered (is_list_of names f.entities) at (f.bound.now.declarators ++ f.bound.now.calls)
    ∙ (any_alike (λ (l : NameList). is_list_of names f.entities l && at l) (λ (l : NameList). names_function f.class.members toks names l.name && at l)
    (f.bound.now.declarators ++ f.bound.now.calls)
    (λ l. ap (λ (b : Bool). b && at l) (named_at f.class.members toks names f.entities f.named (entity_at names l.name)))
    ∙ (list_any-append (λ (l : NameList). names_function f.class.members toks names l.name && at l) f.bound.now.declarators f.bound.now.calls
    ∙ rw (own, is.of_text, is.of_bound) refl))))))

-- ---- units

-- a unit with its functions
pub unit_is : (class : ClassValue) (fs : List UnitFunctions) → AreUnits class fs → (k : ℕ) (f : UnitFunctions) → k < length fs → f ≡ get_or fs k f
    → (f.class ≡ class) × IsUnitAt class.analysis.value.units k f
unit_is class fs are k f less is =
    let at : slice_get fs k ≡ Some f = slice_get-get_or fs k f less ∙ ap (λ (g : UnitFunctions). Some g) (sym is) in
    (are.own k f at, are.each k f at)

-- what holds of a value that a call gave
pub if_ok : {X E : Type 0} (r : Result X E) (P Q : X → Type 0) → ((x : X) → P x → Q x) → IfOk r P → IfOk r Q
if_ok (Ok x) P Q f h = f x h
if_ok (Err e) P Q f h = tt

begun_if : (g : Bool) (p : Pos) (at : Option Pos) → cond g (Some p) None ≡ at → is_some at ≡ g
begun_if true p None e = absurd (none-some p (sym e))
begun_if true p (Some q) e = refl
begun_if false p None e = refl
begun_if false p (Some q) e = absurd (none-some q e)

-- what a call gives of a unit
pub told : {X : Type 0} (f : UnitAnalysis → X) (o : Option UnitAnalysis) (u : UnitAnalysis) (x : X) → o ≡ Some u → option_map f o ≡ Some x → x ≡ f u
told f None u x is e = absurd (none-some u is)
told f (Some v) u x is e = sym (same_Some (f v) x e) ∙ ap f (same_Some v u is)

module _ (a : AnalysisValue) (members : List Part) (words : List (List ℕ)) (number : ℕ) (at : Option Pos)
    (is : option_map gnu_begin (slice_get a.units (number - 1)) ≡ Some at) where
  gnu_is : (u : UnitAnalysis) → slice_get a.units (number - 1) ≡ Some u → is_some at ≡ is_gnu u.standard
  gnu_is u here = begun_if (is_gnu u.standard) (begin_of u.text.toks) at (sym (told gnu_begin (slice_get a.units (number - 1)) u at here is))

  -- a unit that is not of GNU C
  pub not_against : (first : Option Offence) → is_some at ≡ false → IsAgainstUnit a members words number first first
  not_against first none u here =
      let other : is_gnu u.standard ≡ false = sym (gnu_is u here) ∙ none in
      subst (λ (b : Bool). FirstThen a.table (cond b (told_offences members words u.text.toks u.bound (listed_in u.text.toks u.tree.under)) []) first first)
      (sym other) (then_none a.table first)

  -- one that is
  pub against : (first now : Option Offence) (toks : List Token) (bound : Bound) (listed : Listed) → is_some at ≡ true
      → ((u : UnitAnalysis) → slice_get a.units (number - 1) ≡ Some u
      → (toks ≡ u.text.toks) × (bound ≡ u.bound) × (listed ≡ listed_in u.text.toks u.tree.under))
      → FirstThen a.table (told_offences members words toks bound listed) first now → IsAgainstUnit a members words number first now
  against first now toks bound listed some are then_ u here =
      let of = are u here in
      let gnu : is_gnu u.standard ≡ true = sym (gnu_is u here) ∙ some in
      let same : told_offences members words toks bound listed ≡ gnu_unit members words u =
      ap (λ (ts : List Token). told_offences members words ts bound listed) of.0
      ∙ (ap (λ (b : Bound). told_offences members words u.text.toks b listed) of.1
      ∙ (ap (told_offences members words u.text.toks u.bound) of.2
      ∙ ap (λ (b : Bool). cond b (told_offences members words u.text.toks u.bound (listed_in u.text.toks u.tree.under)) []) (sym gnu))) in
      subst (λ (os : List Offence). FirstThen a.table os first now) same then_

there : {X : Type 0} (xs : List X) (k : ℕ) → k < length xs → (x : X) × (slice_get xs k ≡ Some x)
there [] k less = absurd (omega (arith, less))
there (x ∷ xs) zero less = (x, refl)
there (x ∷ xs) (suc k) less = there xs k (omega (arith, less))

-- one unit more
pub against_next : (a : AnalysisValue) (members : List Part) (words : List (List ℕ)) (k : ℕ) (first before now : Option Offence) → k < length a.units
    → FirstThen a.table (flat_map (gnu_unit members words) (take k a.units)) first before → IsAgainstUnit a members words (k + 1) before now
    → FirstThen a.table (flat_map (gnu_unit members words) (take (k + 1) a.units)) first now
against_next a members words k first before now less so_far here =
    let u = there a.units k less in
    let same : k + 1 - 1 ≡ k = omega arith in
    more_next a.table (gnu_unit members words) a.units k u.0 first before now less (sym (get_or_from_slice_get a.units k u.0 u.0 u.1)) so_far
    (here u.0 (ap (slice_get a.units) same ∙ u.1))
