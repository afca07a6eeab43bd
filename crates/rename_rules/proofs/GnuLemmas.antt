-- Units of GNU C, one after another, and what stands against a renaming in them.
use Rattle.std.proofs.Common.{◌≡◌, ℕ, zero, suc, ◌+◌, ◌-◌, ◌<◌, ◌≤◌, ◌&&◌, ◌||◌, not, get_or, Bool, true, false, List, [], ◌∷◌, ◌++◌, length, take, Option, None, Some, slice_get, inl, inr, refl, sym, ap, subst, ◌∙◌, append_assoc, append-nil, arith}
use Rattle.std.specs.Prelude.{cond, is_some, is_none}
use Rattle.std.specs.List.{flat_map, list_any}
use Rattle.std.specs.Option.{option_map, option_map_or}
use Rattle.std.specs.Str.{bytes_eq}
use Rattle.std.proofs.lemmas.Bool.{cases_Bool, false≢true}
use Rattle.std.proofs.lemmas.Grind.{flat_map-append}
use Rattle.std.proofs.lemmas.List.{take_all}
use Rattle.std.proofs.lemmas.Option.{none-some, same_Some, slice_get-get_or, slice_get_past}
use Rattle.std.proofs.lemmas.Slice.Eq.{bytes_eq-Decides}
use Rattle.cs_base.specs.declared.causes.Cause.TheVariants as cause
use Rattle.cs_base.specs.declared.positions.Part.{Part}
use Rattle.cs_base.specs.declared.positions.Pos.{Pos}
use Rattle.cs_base.specs.Token.{Token}
use Rattle.cs_base.specs.Units.{is_gnu}
use Rattle.cs_base.proofs.BoolLemmas.{or_false}
use Rattle.cs_base.proofs.ListLemmas.{any_there, next}
use Rattle.analysis.specs.Below.source_files.Files.{Table}
use Rattle.analysis.specs.Below.scope_bind.declared.bound.Name.{Name}
use Rattle.analysis.specs.Below.scope_bind.Names.{entity_at}
use Rattle.gnu_lists.specs.declared.lists.Adjacent.{Adjacent}
use Rattle.gnu_lists.specs.Lists.{Listed, listed_in}
use Rattle.analysis.specs.Analysis.{UnitAnalysis, AnalysisValue}
use Rattle.analysis.specs.Changed.{Renaming}
use Rattle.analysis.specs.GnuUnits.{begin_of, gnu_begin}
use Rattle.analysis.proofs.OneUnitLemmas.{same_unit}
use Rattle.offences.specs.Respelling.{renaming_of}
use Rattle.offences.specs.declared.firsts.Offence.{Offence}
use Rattle.offences.specs.First.{standing, FirstThen}
use Rattle.offences.specs.Tokens.{holds_member, member_of}
use Rattle.offences.proofs.FirstLemmas.{then_none, then_both, then_all}
use Rattle.rename_rules.proofs.UnitLemmas.{unit_next}
use Rattle.rename_rules.proofs.QuietLemmas.{none_named}
use Rattle.rename_rules.specs.GnuOffences.{failing_by, failing_places, is_kept, has_gnu, word_place, is_named, joined, text_toks, text_place, told_offences, unit_offences, gnu_offences, symbols, symbols_in}
use Rattle.rename_rules.specs.GnuTexts.{symbol_in, word_place_in, at_place, text_place_in, told_in, may_be_named, AreQuiet, NoneIsFree, HaveTexts, AddTexts}
use Rattle.rename_rules.specs.GnuUnits.{AreTold, FailsIn, IsAgainstUnit}
use Rattle.rename_rules.specs.Undeclared.{ProjectName, ProjectUnit, call_places, declared, project_at, project_unit, project_units, HaveNames}
use Rattle.rename_rules.proofs.CallLemmas.{as_many, calls_same, own_unit, unit_in_project}
use Rattle.rename_rules.specs.Tokens.{start_of, starts_in}

-- ---- lists

pub there : {X : Type 0} (xs : List X) (k : ℕ) → k < length xs → (x : X) × (slice_get xs k ≡ Some x)
there [] k less = absurd (omega (arith, less))
there (x ∷ xs) zero less = (x, refl)
there (x ∷ xs) (suc k) less = there xs k (omega (arith, less))

any_append : {X : Type 0} (test : X → Bool) (xs ys : List X) → list_any test (xs ++ ys) ≡ (list_any test xs || list_any test ys)
any_append test [] ys = refl
any_append test (x ∷ xs) ys = elim (cases_Bool (test x)) [
  | inl first ↦ rw first refl
  | inr later ↦ rw later (any_append test xs ys)
]

pub none_more : {X : Type 0} (test : X → Bool) (xs : List X) (k : ℕ) (x : X) → slice_get xs k ≡ Some x → list_any test (take k xs) ≡ false → test x ≡ false
    → list_any test (take (k + 1) xs) ≡ false
none_more {X = X} test xs k x at before here =
    ap (list_any test) (next xs k x at) ∙ (any_append test (take k xs) (x ∷ []) ∙ (ap (λ (b : Bool). b || list_any test (x ∷ [])) before ∙ ap (λ (b : Bool). b || false) here))

no_elements : {X Y : Type 0} (f : X → List Y) (xs : List X) → ((k : ℕ) (x : X) → slice_get xs k ≡ Some x → f x ≡ []) → flat_map f xs ≡ []
no_elements f [] each = refl
no_elements {Y = Y} f (x ∷ xs) each = ap (λ (ys : List Y). ys ++ flat_map f xs) (each 0 x refl) ∙ no_elements f xs (λ k y at. each (suc k) y at)

none_there : {X : Type 0} (test : X → Bool) (xs : List X) → list_any test xs ≡ false → (k : ℕ) (x : X) → slice_get xs k ≡ Some x → test x ≡ false
none_there test xs none k x at = elim (cases_Bool (test x)) [
  | inl yes' ↦ absurd (false≢true (sym none ∙ any_there test xs k x at yes'))
  | inr no' ↦ no'
]

-- ---- what a call gives of a unit

pub told : {X : Type 0} (f : UnitAnalysis → X) (o : Option UnitAnalysis) (u : UnitAnalysis) (x : X) → o ≡ Some u → option_map f o ≡ Some x → x ≡ f u
told f None u x is e = absurd (none-some u is)
told f (Some v) u x is e = sym (same_Some (f v) x e) ∙ ap f (same_Some v u is)

begun_if : (g : Bool) (b p : Pos) → cond g (Some b) None ≡ Some p → (g ≡ true) × (b ≡ p)
begun_if true b p e = (refl, same_Some b p e)
begun_if false b p e = absurd (none-some p e)

pub begun : (u : UnitAnalysis) (p : Pos) → gnu_begin u ≡ Some p → (is_gnu u.standard ≡ true) × (begin_of u.text.toks ≡ p)
begun u p e = begun_if (is_gnu u.standard) (begin_of u.text.toks) p e

is_begun : (g : Bool) (b : Pos) → is_some (cond g (Some b) None) ≡ g
is_begun true b = refl
is_begun false b = refl

pub begins : (u : UnitAnalysis) → is_some (gnu_begin u) ≡ is_gnu u.standard
begins u = is_begun (is_gnu u.standard) (begin_of u.text.toks)

unbegun_if : (g : Bool) (b : Pos) → cond g (Some b) None ≡ None → g ≡ false
unbegun_if true b e = absurd (none-some b (sym e))
unbegun_if false b e = refl

pub unbegun : (u : UnitAnalysis) → gnu_begin u ≡ None → is_gnu u.standard ≡ false
unbegun u e = unbegun_if (is_gnu u.standard) (begin_of u.text.toks) e

pub told_gnu : (o : Option UnitAnalysis) (u : UnitAnalysis) (at : Option Pos) → o ≡ Some u → option_map gnu_begin o ≡ Some at → is_some at ≡ true → is_gnu u.standard ≡ true
told_gnu o u None is e some = absurd (false≢true some)
told_gnu o u (Some p) is e some = (begun u p (sym (told gnu_begin o u (Some p) is e))).0

-- ---- units

pub offences_next : {X : Type 0} (table : Table) (g : X → List Offence) (units : List X) (k : ℕ) (u : X) (a b c : Option Offence)
    → slice_get units k ≡ Some u → FirstThen table (flat_map g (take k units)) a b → FirstThen table (g u) b c → FirstThen table (flat_map g (take (k + 1) units)) a c
offences_next table g units k u a b c at before here =
    let all : flat_map g (take (k + 1) units) ≡ flat_map g (take k units) ++ g u =
    ap (flat_map g) (next units k u at) ∙ (flat_map-append g (take k units) (u ∷ []) ∙ ap (λ (os : List Offence). flat_map g (take k units) ++ os) (append-nil (g u))) in
    rw all (then_both table (flat_map g (take k units)) (g u) a b c before here)

pub offences_all : {X : Type 0} (table : Table) (g : X → List Offence) (units : List X) (k : ℕ) (a b : Option Offence) → length units ≤ k
    → FirstThen table (flat_map g (take k units)) a b → FirstThen table (flat_map g units) a b
offences_all {X = X} table g units k a b past is = subst (λ (us : List X). FirstThen table (flat_map g us) a b) (take_all k units past) is

module _ (a : AnalysisValue) (members : List Part) (name : List ℕ) where
  not_gnu : (olds : List (List ℕ)) (names : List ProjectName) (p : ProjectUnit) → is_gnu p.unit.standard ≡ false → unit_offences members name olds names p ≡ []
  not_gnu olds names p no' =
      ap (λ (b : Bool). cond b (standing cause.Undeclared (call_places members names p) ++ told_offences members name olds p.unit (listed_in p.unit.text.toks p.unit.tree.under)) []) no'

  pub no_gnu : has_gnu a ≡ false → gnu_offences a members name ≡ []
  unfolding has_gnu gnu_offences
  no_gnu none =
      no_elements (unit_offences members name (symbols a members) (declared a members)) (project_units a.workspace.units a.units) (λ k p at.
      not_gnu (symbols a members) (declared a members) p
      (none_there (λ (v : UnitAnalysis). is_gnu v.standard) a.units none k p.unit (own_unit a.workspace.units a.units k p at)))

  -- a unit that is not of GNU C
  pub unit_begun : (first : Option Offence) (olds : List Token) (known : List ProjectName) (unit : ℕ) (at : Option Pos)
      → option_map gnu_begin (slice_get a.units (unit - 1)) ≡ Some at → is_none at ≡ true → IsAgainstUnit a members name olds known unit first first
  unit_begun first olds known unit (Some p) e none u texts names is have have_names = absurd (false≢true none)
  unit_begun first olds known unit None e none u texts names is have have_names =
      subst (λ (os : List Offence). FirstThen a.table os first first)
      (sym (not_gnu texts names (project_unit (project_at a.workspace.units (unit - 1)) u)
      (unbegun u (sym (told gnu_begin (slice_get a.units (unit - 1)) u None is e))))) (then_none a.table first)

  -- ---- words and texts

  no_start : (t : Token) → holds_member members t ≡ false → starts_in members t ≡ []
  no_start t none = no_elements (start_of members) t.origins (λ k o at. by o (none_there (λ origin. is_some (member_of members origin)) t.origins none k o at))
    where
      by : (o : Option Pos) → is_some (member_of members o) ≡ false → start_of members o ≡ []
      by o no' = member_by (member_of members o) no'
        where
          member_by : (m : Option Part) → is_some m ≡ false → option_map_or (λ (n : Part). n.start ∷ []) m [] ≡ []
          member_by None e = refl
          member_by (Some m) e = absurd (false≢true (sym e))

  module _ (u : UnitAnalysis) (olds : List Token) (texts : List (List ℕ)) (have : HaveTexts olds texts) where
    text_same : (x : Adjacent) → text_place_in members name olds u.text.toks x ≡ text_place members name texts u x
    text_same x = ap (λ (b : Bool). cond b (at_place u.text.toks x.from) []) (have (is_named name (joined members name (text_toks u.text.toks x))))

    told_same : (listed : Listed) → told_in members name olds u.bound.names u.text.toks listed ≡ told_offences members name texts u listed
    told_same listed =
        ap (λ (f : Adjacent → List Pos). standing cause.Reserved (flat_map (word_place members u) listed.places) ++ standing cause.AssemblerText (flat_map f listed.texts))
        (λ i x. text_same x i)

    -- each token that holds a member denotes something, and no text has a name of the class
    quiet_word : NoneIsFree members u.bound.names u.text.toks → (k : ℕ) → word_place members u k ≡ []
    quiet_word none k = by (entity_at u.bound.names k) (slice_get u.text.toks k) (none k)
      where
        by : (e : Option ℕ) (o : Option Token) → option_map_or (λ (t : Token). is_none e && holds_member members t) o false ≡ false
            → cond (is_some e) [] (option_map_or (starts_in members) o []) ≡ []
        by (Some entity) o free = refl
        by None None free = refl
        by None (Some t) free = no_start t free

    quiet_text : may_be_named members name olds u.text.toks ≡ false → (x : Adjacent) → text_place members name texts u x ≡ []
    quiet_text none x = sym (text_same x) ∙ ap (λ (b : Bool). cond b (at_place u.text.toks x.from) []) (none_named members name u.text.toks olds none x)

    quiet_told : AreQuiet members name olds u.bound.names u.text.toks → (listed : Listed) → told_offences members name texts u listed ≡ []
    quiet_told are listed =
        ap (λ (ps : List Pos). standing cause.Reserved ps ++ standing cause.AssemblerText (flat_map (text_place members name texts u) listed.texts))
        (no_elements (word_place members u) listed.places (λ n k at. quiet_word are.0 k))
        ∙ ap (standing cause.AssemblerText) (no_elements (text_place members name texts u) listed.texts (λ n x at. quiet_text are.1 x))

  pub unit_quiet : (first : Option Offence) (olds toks : List Token) (names : List Name) (u : UnitAnalysis) → toks ≡ u.text.toks → names ≡ u.bound.names
      → AreQuiet members name olds names toks → AreTold a members name olds u first first
  unit_quiet first olds toks names u t n quiet texts have =
      let here : AreQuiet members name olds u.bound.names u.text.toks = subst (λ (ns : List Name). AreQuiet members name olds ns u.text.toks) n (subst (AreQuiet members name olds names) t quiet) in
      subst (λ (os : List Offence). FirstThen a.table os first first) (sym (quiet_told u olds texts have here (listed_in u.text.toks u.tree.under))) (then_none a.table first)

  pub unit_told : (first now : Option Offence) (olds toks : List Token) (names : List Name) (listed : Listed) (u : UnitAnalysis) → toks ≡ u.text.toks → names ≡ u.bound.names
      → listed ≡ listed_in u.text.toks u.tree.under → FirstThen a.table (told_in members name olds names toks listed) first now → AreTold a members name olds u first now
  unit_told first now olds toks names listed u t n l then_ texts have =
      let same : told_in members name olds names toks listed ≡ told_offences members name texts u (listed_in u.text.toks u.tree.under) =
      ap (λ (ts : List Token). told_in members name olds names ts listed) t
      ∙ (ap (λ (ns : List Name). told_in members name olds ns u.text.toks listed) n
      ∙ (ap (told_in members name olds u.bound.names u.text.toks) l ∙ told_same u olds texts have (listed_in u.text.toks u.tree.under))) in
      subst (λ (os : List Offence). FirstThen a.table os first now) same then_

  -- the calls of a unit of GNU C, and what its tree tells
  pub unit_against : (first calls now : Option Offence) (olds : List Token) (known : List ProjectName) (unit : ℕ) (u : UnitAnalysis)
      → slice_get a.units (unit - 1) ≡ Some u → is_gnu u.standard ≡ true
      → FirstThen a.table (standing cause.Undeclared (call_places members known (project_unit (project_at a.workspace.units (unit - 1)) u))) first calls
      → AreTold a members name olds u calls now → IsAgainstUnit a members name olds known unit first now
  unit_against first calls now olds known unit u at gnu at_calls told_ v texts names is have have_names =
      let one : u ≡ v = same_unit (slice_get a.units (unit - 1)) v u is at in
      let p = project_unit (project_at a.workspace.units (unit - 1)) u in
      let same : standing cause.Undeclared (call_places members known p) ≡ standing cause.Undeclared (call_places members names p) =
      ap (standing cause.Undeclared) (calls_same members known names p have_names) in
      let both : FirstThen a.table (standing cause.Undeclared (call_places members names p) ++ told_offences members name texts u (listed_in u.text.toks u.tree.under)) first now =
      then_both a.table (standing cause.Undeclared (call_places members names p)) (told_offences members name texts u (listed_in u.text.toks u.tree.under)) first calls now
      (subst (λ (os : List Offence). FirstThen a.table os first calls) same at_calls) (told_ texts have) in
      subst (λ (w : UnitAnalysis). FirstThen a.table (unit_offences members name texts names (project_unit (project_at a.workspace.units (unit - 1)) w)) first now) one
      (subst (λ (os : List Offence). FirstThen a.table os first now) (sym (in_gnu texts names p gnu)) both)
    where
      in_gnu : (olds : List (List ℕ)) (names : List ProjectName) (p : ProjectUnit) → is_gnu p.unit.standard ≡ true
          → unit_offences members name olds names p ≡ standing cause.Undeclared (call_places members names p) ++ told_offences members name olds p.unit (listed_in p.unit.text.toks p.unit.tree.under)
      in_gnu olds names p yes' =
          ap (λ (b : Bool). cond b (standing cause.Undeclared (call_places members names p) ++ told_offences members name olds p.unit (listed_in p.unit.text.toks p.unit.tree.under)) []) yes'

-- ---- old spellings

pub add_none : (toks : List Token) → AddTexts toks [] toks
add_none toks before have test = have test ∙ ap (list_any test) (sym (append-nil before))

pub add_both : (a b c : List Token) (xs ys : List (List ℕ)) → AddTexts a xs b → AddTexts b ys c → AddTexts a (xs ++ ys) c
add_both a b c xs ys f g before have test = g (before ++ xs) (f before have) test ∙ ap (list_any test) (append_assoc before xs ys)

or_known : (a b : Bool) → (b ≡ true → a ≡ true) → a ≡ (a || b)
or_known true b h = refl
or_known false true h = h refl
or_known false false h = refl

-- what is known is so already
pub add_known : (toks : List Token) (text : List ℕ) → list_any (λ (t : Token). bytes_eq t.text text) toks ≡ true → AddTexts toks (text ∷ []) toks
add_known toks text known before have test =
    or_known (list_any (λ (t : Token). test t.text) toks) (test text) (λ h. again toks known h)
    ∙ (ap (λ (b : Bool). b || test text) (have test) ∙ (ap (λ (b : Bool). list_any test before || b) (or_false (test text)) ∙ sym (any_append test before (text ∷ []))))
  where
    again : (ts : List Token) → list_any (λ (t : Token). bytes_eq t.text text) ts ≡ true → test text ≡ true → list_any (λ (t : Token). test t.text) ts ≡ true
    again [] e h = absurd (false≢true e)
    again (t ∷ ts) e h = elim (cases_Bool (bytes_eq t.text text)) [
      | inl same ↦ let here : test t.text ≡ true = ap test ((bytes_eq-Decides t.text text).0 same) ∙ h in rw here refl
      | inr other ↦
          let rest : list_any (λ (t : Token). bytes_eq t.text text) ts ≡ true = rw other at e in
          elim (cases_Bool (test t.text)) [
            | inl first ↦ rw first refl
            | inr later ↦ rw later (again ts rest h)
          ]
    ]

-- one more is so too
pub add_one : (toks new : List Token) (t : Token) (text : List ℕ) → t.text ≡ text → new ≡ toks ++ t ∷ [] → AddTexts toks (text ∷ []) new
add_one toks new t text same pushed before have test =
    ap (list_any (λ (u : Token). test u.text)) pushed
    ∙ (any_append (λ (u : Token). test u.text) toks (t ∷ [])
    ∙ (ap (λ (b : Bool). b || (test t.text || false)) (have test)
    ∙ (ap (λ (w : List ℕ). list_any test before || (test w || false)) same ∙ sym (any_append test before (text ∷ [])))))

-- names and units, one after another
pub names_next : {X : Type 0} (f : X → List (List ℕ)) (xs : List X) (k : ℕ) (x : X) (a b c : List Token) → slice_get xs k ≡ Some x
    → AddTexts a (flat_map f (take k xs)) b → AddTexts b (f x) c → AddTexts a (flat_map f (take (k + 1) xs)) c
names_next f xs k x a b c at before here =
    let all : flat_map f (take (k + 1) xs) ≡ flat_map f (take k xs) ++ f x =
    ap (flat_map f) (next xs k x at) ∙ (flat_map-append f (take k xs) (x ∷ []) ∙ ap (λ (ys : List (List ℕ)). flat_map f (take k xs) ++ ys) (append-nil (f x))) in
    subst (λ (ys : List (List ℕ)). AddTexts a ys c) (sym all) (add_both a b c (flat_map f (take k xs)) (f x) before here)

pub units_next : (f : UnitAnalysis → List (List ℕ)) (units : List UnitAnalysis) (k : ℕ) (u : UnitAnalysis) (b c : List Token) → slice_get units k ≡ Some u
    → HaveTexts b (flat_map f (take k units)) → AddTexts b (f u) c → HaveTexts c (flat_map f (take (k + 1) units))
units_next f units k u b c at before here =
    let all : flat_map f (take (k + 1) units) ≡ flat_map f (take k units) ++ f u =
    ap (flat_map f) (next units k u at) ∙ (flat_map-append f (take k units) (u ∷ []) ∙ ap (λ (ys : List (List ℕ)). flat_map f (take k units) ++ ys) (append-nil (f u))) in
    subst (λ (ys : List (List ℕ)). HaveTexts c ys) (sym all) (here (flat_map f (take k units)) before)

pub units_all : (f : UnitAnalysis → List (List ℕ)) (units : List UnitAnalysis) (k : ℕ) (b : List Token) → length units ≤ k
    → HaveTexts b (flat_map f (take k units)) → HaveTexts b (flat_map f units)
units_all f units k b past is = subst (λ (us : List UnitAnalysis). HaveTexts b (flat_map f us)) (take_all k units past) is

-- ---- tokens by their numbers

pub no_place : (table : Table) (toks : List Token) (k : ℕ) (first : Option Offence) → length toks ≤ k
    → FirstThen table (standing cause.AssemblerText (at_place toks k)) first first
no_place table toks k first past =
    subst (λ (o : Option Token). FirstThen table (standing cause.AssemblerText (option_map_or (λ (t : Token). t.at ∷ []) o [])) first first)
    (sym (slice_get_past toks k past)) (then_none table first)

pub no_word : (table : Table) (members : List Part) (names : List Name) (toks : List Token) (k : ℕ) (first : Option Offence) → length toks ≤ k
    → FirstThen table (standing cause.Reserved (word_place_in members names toks k)) first first
no_word table members names toks k first past =
    subst (λ (o : Option Token). FirstThen table (standing cause.Reserved (cond (is_some (entity_at names k)) [] (option_map_or (starts_in members) o []))) first first)
    (sym (slice_get_past toks k past)) (by (is_some (entity_at names k)))
  where
    by : (b : Bool) → FirstThen table (standing cause.Reserved (cond b [] [])) first first
    by true = then_none table first
    by false = then_none table first

-- ---- which units are of GNU C

begin_in : (o : Option UnitAnalysis) (at : Option Pos) → option_map gnu_begin o ≡ Some at → (u : UnitAnalysis) × (o ≡ Some u) × (gnu_begin u ≡ at)
begin_in None at e = absurd (none-some at e)
begin_in (Some u) at e = (u, refl, same_Some (gnu_begin u) at e)

module _ (a : AnalysisValue) (k : ℕ) (at : Option Pos) (e : option_map gnu_begin (slice_get a.units (k + 1 - 1)) ≡ Some at) where
  unit_here : (u : UnitAnalysis) × (slice_get a.units k ≡ Some u) × (gnu_begin u ≡ at)
  unit_here =
      let same : k + 1 - 1 ≡ k = omega arith in
      begin_in (slice_get a.units k) at (ap (λ (n : ℕ). option_map gnu_begin (slice_get a.units n)) (sym same) ∙ e)

  pub some_gnu : is_some at ≡ true → true ≡ has_gnu a
  unfolding has_gnu
  some_gnu is =
      let u = unit_here in
      let gnu : is_gnu (u.0).standard ≡ true = sym (begins u.0) ∙ (ap (λ (o : Option Pos). is_some o) u.2 ∙ is) in
      sym (any_there (λ (v : UnitAnalysis). is_gnu v.standard) a.units k u.0 u.1 gnu)

  pub still_none : is_some at ≡ false → list_any (λ (v : UnitAnalysis). is_gnu v.standard) (take k a.units) ≡ false
      → list_any (λ (v : UnitAnalysis). is_gnu v.standard) (take (k + 1) a.units) ≡ false
  still_none is before =
      let u = unit_here in
      none_more (λ (v : UnitAnalysis). is_gnu v.standard) a.units k u.0 u.1 before (sym (begins u.0) ∙ (ap (λ (o : Option Pos). is_some o) u.2 ∙ is))

pub none_is_gnu : (a : AnalysisValue) (k : ℕ) → length a.units ≤ k → list_any (λ (v : UnitAnalysis). is_gnu v.standard) (take k a.units) ≡ false → false ≡ has_gnu a
unfolding has_gnu
none_is_gnu a k past none = sym (ap (list_any (λ (v : UnitAnalysis). is_gnu v.standard)) (sym (take_all k a.units past)) ∙ none)

none_at : (o : Option Pos) → is_none o ≡ false → is_some o ≡ true
none_at None e = sym e
none_at (Some p) e = refl

-- a unit that begins somewhere as one of GNU C is one
pub is_one : (u : UnitAnalysis) (at : Option Pos) → at ≡ gnu_begin u → is_none at ≡ false → is_gnu u.standard ≡ true
is_one u at told_at is = sym (begins u) ∙ (ap (λ (o : Option Pos). is_some o) (sym told_at) ∙ none_at at is)

-- ---- texts

pub in_named : (members : List Part) (name : List ℕ) (olds toks : List Token) (x : Adjacent) (n text : List ℕ) (ts : List Token) (b : Bool)
    → n ≡ name → text ≡ joined members name ts → ts ≡ text_toks toks x → b ≡ list_any (λ (t : Token). is_named n text t.text) olds
    → text_place_in members name olds toks x ≡ cond b (at_place toks x.from) []
in_named members name olds toks x n text ts b names texts tokens e =
    let given : text ≡ joined members name (text_toks toks x) = texts ∙ ap (joined members name) tokens in
    let same : b ≡ list_any (λ (t : Token). is_named name (joined members name (text_toks toks x)) t.text) olds =
    e ∙ (ap (λ (w : List ℕ). list_any (λ (t : Token). is_named w text t.text) olds) names
    ∙ ap (λ (w : List ℕ). list_any (λ (t : Token). is_named name w t.text) olds) given) in
    ap (λ (c : Bool). cond c (at_place toks x.from) []) (sym same)

-- ---- units that are read and bound as before

kept_if : (gnu kept : Bool) (p : Pos) → kept ≡ true → cond (gnu && not kept) (p ∷ []) [] ≡ []
kept_if true true p e = refl
kept_if false true p e = refl
kept_if gnu false p e = absurd (false≢true e)

pub kept_quiet : (table : Table) (r : Renaming) (u : UnitAnalysis) (first : Option Offence) (b : Bool) → b ≡ is_kept r u → b ≡ true
    → FirstThen table (standing cause.Syntax (failing_by r u)) first first
kept_quiet table r u first b is yes' =
    subst (λ (ps : List Pos). FirstThen table (standing cause.Syntax ps) first first)
    (sym (kept_if (is_gnu u.standard) (is_kept r u) (begin_of u.text.toks) (sym is ∙ yes'))) (then_none table first)

pub no_failing : (a : AnalysisValue) (members : List Part) (name : List ℕ) → has_gnu a ≡ false → failing_places a members name ≡ []
unfolding has_gnu failing_places
no_failing a members name none =
    no_elements (failing_by (renaming_of a members name)) a.units (λ k u at.
    ap (λ (b : Bool). cond (b && not (is_kept (renaming_of a members name) u)) (begin_of u.text.toks ∷ []) [])
    (none_there (λ (v : UnitAnalysis). is_gnu v.standard) a.units none k u at))

-- ---- names by their numbers

pub names_next_or : {X : Type 0} (f : X → List (List ℕ)) (xs : List X) (k : ℕ) (d : X) (a b c : List Token) → k < length xs
    → AddTexts a (flat_map f (take k xs)) b → AddTexts b (f (get_or xs k d)) c → AddTexts a (flat_map f (take (k + 1) xs)) c
names_next_or f xs k d a b c less before here = names_next f xs k (get_or xs k d) a b c (slice_get-get_or xs k d less) before here

pub names_all : {X : Type 0} (f : X → List (List ℕ)) (xs : List X) (k : ℕ) (a b : List Token) → length xs ≤ k
    → AddTexts a (flat_map f (take k xs)) b → AddTexts a (flat_map f xs) b
names_all {X = X} f xs k a b past is = subst (λ (ys : List X). AddTexts a (flat_map f ys) b) (take_all k xs past) is

-- the spellings of a unit's names
pub symbols_same : (members : List Part) (u : UnitAnalysis) (names more : List Name) (toks : List Token) → toks ≡ u.text.toks → names ≡ u.bound.names → more ≡ u.bound.names
    → flat_map (symbol_in members names toks) more ≡ symbols_in members u
symbols_same members u names more toks t n m =
    ap (λ (ts : List Token). flat_map (symbol_in members names ts) more) t
    ∙ (ap (λ (ns : List Name). flat_map (symbol_in members ns u.text.toks) more) n ∙ ap (flat_map (symbol_in members u.bound.names u.text.toks)) m)

-- ---- one unit more

at_unit : (a : AnalysisValue) (k : ℕ) → k < length a.units → (u : UnitAnalysis) × (slice_get a.units k ≡ Some u) × (slice_get a.units (k + 1 - 1) ≡ Some u)
at_unit a k less =
    let u = there a.units k less in
    let same : k + 1 - 1 ≡ k = omega arith in
    (u.0, u.1, ap (slice_get a.units) same ∙ u.1)

pub against_next : (a : AnalysisValue) (members : List Part) (name : List ℕ) (olds : List Token) (known : List ProjectName) (k : ℕ) (first before now : Option Offence) → k < length a.units
    → HaveTexts olds (symbols a members) → HaveNames known (declared a members)
    → FirstThen a.table (flat_map (unit_offences members name (symbols a members) (declared a members)) (take k (project_units a.workspace.units a.units))) first before
    → IsAgainstUnit a members name olds known (k + 1) before now
    → FirstThen a.table (flat_map (unit_offences members name (symbols a members) (declared a members)) (take (k + 1) (project_units a.workspace.units a.units))) first now
against_next a members name olds known k first before now less have have_names so_far here =
    let u = at_unit a k less in
    let same : k + 1 - 1 ≡ k = omega arith in
    let of : List ℕ → List Offence = λ project. unit_offences members name (symbols a members) (declared a members) (project_unit project u.0) in
    offences_next a.table (unit_offences members name (symbols a members) (declared a members)) (project_units a.workspace.units a.units) k
    (project_unit (project_at a.workspace.units k) u.0) first before now (unit_in_project a.workspace.units a.units k u.0 u.1) so_far
    (subst (λ (j : ℕ). FirstThen a.table (of (project_at a.workspace.units j)) before now) same (here u.0 (symbols a members) (declared a members) u.2 have have_names))

pub against_all : (a : AnalysisValue) (g : ProjectUnit → List Offence) (k : ℕ) (first now : Option Offence) → length a.units ≤ k
    → FirstThen a.table (flat_map g (take k (project_units a.workspace.units a.units))) first now → FirstThen a.table (flat_map g (project_units a.workspace.units a.units)) first now
against_all a g k first now past so_far =
    offences_all a.table g (project_units a.workspace.units a.units) k first now (omega (arith, past, as_many a.workspace.units a.units)) so_far

pub failing_next : (a : AnalysisValue) (r : Renaming) (k : ℕ) (first before now : Option Offence) → k < length a.units
    → FirstThen a.table (standing cause.Syntax (flat_map (failing_by r) (take k a.units))) first before → FailsIn a r (k + 1) before now
    → FirstThen a.table (standing cause.Syntax (flat_map (failing_by r) (take (k + 1) a.units))) first now
failing_next a r k first before now less so_far here =
    let u = at_unit a k less in
    unit_next a.table cause.Syntax (failing_by r) a.units k u.0 first before now u.1 so_far (here u.0 u.2)

pub failing_all : (a : AnalysisValue) (members : List Part) (name : List ℕ) (r : Renaming) (k : ℕ) (first now : Option Offence) → length a.units ≤ k → r ≡ renaming_of a members name
    → FirstThen a.table (standing cause.Syntax (flat_map (failing_by r) (take k a.units))) first now → FirstThen a.table (standing cause.Syntax (failing_places a members name)) first now
unfolding failing_places
failing_all a members name r k first now past same so_far =
    then_all a.table cause.Syntax (failing_by (renaming_of a members name)) a.units k first now past
    (subst (λ (q : Renaming). FirstThen a.table (standing cause.Syntax (flat_map (failing_by q) (take k a.units))) first now) same so_far)
