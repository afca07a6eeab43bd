-- How often a token may be noted as a name, by its place in the tree: once at most.
use Rattle.std.proofs.Common.{ℕ, ◌+◌, ◌<◌, ◌≤◌, ◌≡◌, Bool, true, false, ◌&&◌, ◌||◌, if◌then◌else◌, ◌==◌, Option, None, Some, ◌⊎◌, inl, inr, refl, sym, ap, subst, ◌∙◌, arith}
use Rattle.std.specs.Prelude.{IfSome, nat_lt}
use Rattle.std.proofs.lemmas.Bool.{cases_Bool, cases_eq, ne_eqb, ltb-true, ltb-false, and_parts, false≢true}
use Rattle.cs_base.proofs.BoolLemmas.{bit_at_most}
use Rattle.cs_base.proofs.OptionLemmas.{some_if}
use Rattle.c99_tree.specs.Tree.{Forest, none, token, node}
use Rattle.c99_tree.specs.declared.production.Label.{Label}
use Rattle.c99_tree.specs.declared.production.Production.{Production}
use Rattle.c99_tree.specs.declared.production.Production.TheVariants.{ExtRest, InitDecl, Mdecl, Enumerator, Declarator, Direct, Param, Pdecl, Pdirect}
use Rattle.c99_tree.specs.contracts.production.ProductionPartialEq.TheImpl.{ghosts}
use Rattle.scope_bind.specs.Named.{Role, is_plain_role}
use Rattle.c_types.specs.Trees.{has_name, holds_name, name_below}
use Rattle.scope_bind.specs.Roles.{role_of}
use Rattle.tree_laws.specs.TreesOfTexts.{token_count, AreFrom, begins_with_token, has_form, have_forms}

-- ---- Counting

-- the number is this one
abbrev pub hit : ℕ → ℕ → ℕ
hit t x = if x == t then 1 else 0

abbrev pub hits : ℕ → Option ℕ → ℕ
hits t None = 0
hits t (Some x) = hit t x

pub hit_no : (t x : ℕ) → (x ≡ t → ⊥) → hit t x ≡ 0
hit_no t x e = ap (λ c. if c then 1 else 0) (ne_eqb x t e)

pub hit_at_most : (t x : ℕ) → hit t x ≤ 1
hit_at_most t x = bit_at_most (x == t)

-- ---- What may note a token

-- a token of the role
abbrev pub role_hit : Role → ℕ → ℕ → ℕ
role_hit r t i = if is_plain_role r then 0 else hit t i

abbrev pub declares : Production → Bool
declares ExtRest = true
declares InitDecl = true
declares Mdecl = true
declares _ = false

abbrev pub is_parameter : Production → Bool
is_parameter Param = true
is_parameter _ = false

-- a node of the first production in one of the second: what it declares once it is left
abbrev pub told_name : Production → Production → ℕ → Label → Forest → Option ℕ
told_name Declarator q first l under = if declares q then name_below l under else None
told_name Pdecl q first l under = if is_parameter q then name_below l under else None
told_name Enumerator q first l under = Some first
told_name _ q first l under = None

-- some children of a node, of which the first has this number
abbrev pub noted : ℕ → Label → ℕ → Forest → ℕ
noted t l k none = 0
noted t l k (token i rest) = role_hit (role_of l.production l.alternative k) t i + noted t l (k + 1) rest
noted t l k (node m first under rest) =
    hits t (told_name m.production l.production first m under) + (noted t m 0 under + noted t l (k + 1) rest)

-- ---- Tokens that stand elsewhere

-- the token is none of so many from j on
abbrev Outside : ℕ → ℕ → ℕ → Type 0
Outside t j n = j ≤ t → t < j + n → ⊥

pub role_case : (c : Bool) (t i : ℕ) → (i ≡ t → ⊥) → (if c then 0 else hit t i) ≡ 0
role_case true t i h = refl
role_case false t i h = hit_no t i h

role_no : (r : Role) (t i : ℕ) → (i ≡ t → ⊥) → role_hit r t i ≡ 0
role_no r t i h = role_case (is_plain_role r) t i h

pub role_most : (c : Bool) (t i : ℕ) → (if c then 0 else hit t i) ≤ 1
role_most true t i = omega arith
role_most false t i = hit_at_most t i

role_at_most : (r : Role) (t i : ℕ) → role_hit r t i ≤ 1
role_at_most r t i = role_most (is_plain_role r) t i

-- one of so many tokens from j on
abbrev pub Within : ℕ → ℕ → ℕ → Type 0
Within j n i = (j ≤ i) × (i < j + n)

if_within : (j n : ℕ) (c : Bool) (x y : Option ℕ) → IfSome x (Within j n) → IfSome y (Within j n) → IfSome (if c then x else y) (Within j n)
if_within j n true x y h k = h
if_within j n false x y h k = k

wider : (j n i m : ℕ) (o : Option ℕ) → IfSome o (Within i m) → j ≤ i → i + m ≤ j + n → IfSome o (Within j n)
wider j n i m None h below above = tt
wider j n i m (Some x) h below above = (omega (arith, h.0), omega (arith, h.1))

-- the name of a declarator stands below it
pub name_within : (l : Label) (f : Forest) (j : ℕ) → AreFrom j f → IfSome (name_below l f) (Within j (token_count f))
name_within l none j w = tt
name_within l (token i rest) j w =
    if_within j (token_count rest + 1) (has_name l) (Some i) (name_below l rest)
    (omega (arith, w.0), omega (arith, w.0))
    (wider j (token_count rest + 1) (j + 1) (token_count rest) (name_below l rest) (name_within l rest (j + 1) w.1) (omega arith) (omega arith))
name_within l (node m first under rest) j w =
    if_within j (token_count under + token_count rest) (holds_name m.production) (name_below m under) (name_below l rest)
    (wider j (token_count under + token_count rest) j (token_count under) (name_below m under) (name_within m under j w.1) (omega arith) (omega arith))
    (wider j (token_count under + token_count rest) (j + token_count under) (token_count rest) (name_below l rest)
    (name_within l rest (j + token_count under) w.2) (omega arith) (omega arith))

enumerator_within : (under : Forest) (j : ℕ) → begins_with_token under ≡ true → Within j (token_count under) j
enumerator_within none j form = absurd (false≢true form)
enumerator_within (token i rest) j form = (omega arith, omega arith)
enumerator_within (node l first under rest) j form = absurd (false≢true form)

pub told_within : (p q : Production) (m : Label) (under : Forest) (j : ℕ) → AreFrom j under → has_form p under ≡ true
    → IfSome (told_name p q j m under) (Within j (token_count under))
told_within Declarator q m under j w form = if_within j (token_count under) (declares q) (name_below m under) None (name_within m under j w) tt
told_within Pdecl q m under j w form = if_within j (token_count under) (is_parameter q) (name_below m under) None (name_within m under j w) tt
told_within Enumerator q m under j w form = enumerator_within under j form
told_within _ q m under j w form = tt

pub outside_no : (t j n : ℕ) (o : Option ℕ) → Outside t j n → IfSome o (Within j n) → hits t o ≡ 0
outside_no t j n None out h = refl
outside_no t j n (Some x) out h = hit_no t x (λ e. out (omega (arith, h.0, e)) (omega (arith, h.1, e)))

told_outside : (t : ℕ) (p q : Production) (first : ℕ) (m : Label) (under : Forest) (j : ℕ) → first ≡ j → AreFrom j under → has_form p under ≡ true
    → Outside t j (token_count under) → hits t (told_name p q first m under) ≡ 0
told_outside t p q first m under j e w form out =
    ap (λ x. hits t (told_name p q x m under)) e
    ∙ outside_no t j (token_count under) (told_name p q j m under) out (told_within p q m under j w form)

-- three facts of the forms of a node and of what follows
pub form_here : (p : Production) (under rest : Forest) → (has_form p under && (have_forms under && have_forms rest)) ≡ true → has_form p under ≡ true
form_here p under rest h = (and_parts (has_form p under) (have_forms under && have_forms rest) h).0

pub forms_under : (p : Production) (under rest : Forest) → (has_form p under && (have_forms under && have_forms rest)) ≡ true → have_forms under ≡ true
forms_under p under rest h = (and_parts (have_forms under) (have_forms rest) ((and_parts (has_form p under) (have_forms under && have_forms rest) h).1)).0

pub forms_behind : (p : Production) (under rest : Forest) → (has_form p under && (have_forms under && have_forms rest)) ≡ true → have_forms rest ≡ true
forms_behind p under rest h = (and_parts (have_forms under) (have_forms rest) ((and_parts (has_form p under) (have_forms under && have_forms rest) h).1)).1

noted_outside : (t j k : ℕ) (l : Label) (f : Forest) → AreFrom j f → have_forms f ≡ true → Outside t j (token_count f) → noted t l k f ≡ 0
noted_outside t j k l none w forms out = refl
noted_outside t j k l (token i rest) w forms out =
    let here : role_hit (role_of l.production l.alternative k) t i ≡ 0 =
    role_no (role_of l.production l.alternative k) t i (λ e. out (omega (arith, w.0, e)) (omega (arith, w.0, e))) in
    let behind : noted t l (k + 1) rest ≡ 0 = noted_outside t (j + 1) (k + 1) l rest w.1 forms (λ a b. out (omega arith) (omega arith)) in
    omega (arith, here, behind)
noted_outside t j k l (node m first under rest) w forms out =
    let told : hits t (told_name m.production l.production first m under) ≡ 0 =
    told_outside t m.production l.production first m under j w.0 w.1 (form_here m.production under rest forms) (λ a b. out a (omega arith)) in
    let below : noted t m 0 under ≡ 0 = noted_outside t j 0 m under w.1 (forms_under m.production under rest forms) (λ a b. out a (omega arith)) in
    let behind : noted t l (k + 1) rest ≡ 0 =
    noted_outside t (j + token_count under) (k + 1) l rest w.2 (forms_behind m.production under rest forms) (λ a b. out (omega arith) (omega arith)) in
    omega (arith, told, below, behind)

-- ---- A declarator's name is noted nowhere below it

-- the production of a node that has a name as its token
named_role : (p : Production) (a k : ℕ) → ((ghosts.eq p Direct && (a == 1)) || (ghosts.eq p Pdirect && (a == 1))) ≡ true → is_plain_role (role_of p a k) ≡ true
named_role Direct a k h = refl
named_role Pdirect a k h = refl
named_role _ a k h = absurd (false≢true h)

pub declares_none : (q : Production) (o : Option ℕ) → holds_name q ≡ true → (if declares q then o else None) ≡ None
declares_none Declarator o h = refl
declares_none Direct o h = refl
declares_none Pdecl o h = refl
declares_none Pdirect o h = refl
declares_none _ o h = absurd (false≢true h)

pub parameter_none : (q : Production) (o : Option ℕ) → holds_name q ≡ true → (if is_parameter q then o else None) ≡ None
parameter_none Declarator o h = refl
parameter_none Direct o h = refl
parameter_none Pdecl o h = refl
parameter_none Pdirect o h = refl
parameter_none _ o h = absurd (false≢true h)

-- a part of a declarator declares nothing
part_tells_none : (p q : Production) (first : ℕ) (m : Label) (under : Forest) → holds_name p ≡ true → holds_name q ≡ true
    → told_name p q first m under ≡ None
part_tells_none Declarator q first m under h k = declares_none q (name_below m under) k
part_tells_none Pdecl q first m under h k = parameter_none q (name_below m under) k
part_tells_none Direct q first m under h k = refl
part_tells_none Pdirect q first m under h k = refl
part_tells_none _ q first m under h k = absurd (false≢true h)

found_within : (t j n : ℕ) (o : Option ℕ) → o ≡ Some t → IfSome o (Within j n) → Within j n t
found_within t j n o e h = subst (λ (x : Option ℕ). IfSome x (Within j n)) e h

hidden_token : (t i k : ℕ) (l : Label) (rest : Forest) (c : Bool) → has_name l ≡ c → (if c then Some i else name_below l rest) ≡ Some t
    → ((i ≡ t) × (is_plain_role (role_of l.production l.alternative k) ≡ true)) ⊎ (name_below l rest ≡ Some t)
hidden_token t i k l rest true e h = inl (cc, named_role l.production l.alternative k e)
hidden_token t i k l rest false e h = inr h

hidden_node : (t : ℕ) (l m : Label) (under rest : Forest) (c : Bool) → holds_name m.production ≡ c
    → (if c then name_below m under else name_below l rest) ≡ Some t
    → ((holds_name m.production ≡ true) × (name_below m under ≡ Some t)) ⊎ (name_below l rest ≡ Some t)
hidden_node t l m under rest true e h = inl (e, h)
hidden_node t l m under rest false e h = inr h

pub hidden : (t j k : ℕ) (l : Label) (f : Forest) → AreFrom j f → have_forms f ≡ true → holds_name l.production ≡ true → name_below l f ≡ Some t
    → noted t l k f ≡ 0
hidden t j k l none w forms holds name = absurd cc
hidden t j k l (token i rest) w forms holds name = elim (hidden_token t i k l rest (has_name l) refl name) [
  | inl here ↦
      let behind : noted t l (k + 1) rest ≡ 0 = noted_outside t (j + 1) (k + 1) l rest w.1 forms (λ a b. absurd (omega (arith, here.0, w.0, a))) in
      let role : role_hit (role_of l.production l.alternative k) t i ≡ 0 = ap (λ c. if c then 0 else hit t i) here.1 in
      omega (arith, behind, role)
  | inr later ↦
      let within : Within (j + 1) (token_count rest) t = found_within t (j + 1) (token_count rest) (name_below l rest) later (name_within l rest (j + 1) w.1) in
      let behind : noted t l (k + 1) rest ≡ 0 = hidden t (j + 1) (k + 1) l rest w.1 forms holds later in
      let role : role_hit (role_of l.production l.alternative k) t i ≡ 0 =
      role_no (role_of l.production l.alternative k) t i (λ e. absurd (omega (arith, e, w.0, within.0))) in
      omega (arith, behind, role)
]
hidden t j k l (node m first under rest) w forms holds name = elim (hidden_node t l m under rest (holds_name m.production) refl name) [
  | inl here ↦
      let within : Within j (token_count under) t = found_within t j (token_count under) (name_below m under) here.1 (name_within m under j w.1) in
      let told : hits t (told_name m.production l.production first m under) ≡ 0 =
      ap (hits t) (part_tells_none m.production l.production first m under here.0 holds) in
      let below : noted t m 0 under ≡ 0 = hidden t j 0 m under w.1 (forms_under m.production under rest forms) here.0 here.1 in
      let behind : noted t l (k + 1) rest ≡ 0 =
      noted_outside t (j + token_count under) (k + 1) l rest w.2 (forms_behind m.production under rest forms) (λ a b. absurd (omega (arith, a, within.1))) in
      omega (arith, told, below, behind)
  | inr later ↦
      let within : Within (j + token_count under) (token_count rest) t =
      found_within t (j + token_count under) (token_count rest) (name_below l rest) later (name_within l rest (j + token_count under) w.2) in
      let told : hits t (told_name m.production l.production first m under) ≡ 0 =
      told_outside t m.production l.production first m under j w.0 w.1 (form_here m.production under rest forms) (λ a b. absurd (omega (arith, b, within.0))) in
      let below : noted t m 0 under ≡ 0 =
      noted_outside t j 0 m under w.1 (forms_under m.production under rest forms) (λ a b. absurd (omega (arith, b, within.0))) in
      let behind : noted t l (k + 1) rest ≡ 0 =
      hidden t (j + token_count under) (k + 1) l rest w.2 (forms_behind m.production under rest forms) holds later in
      omega (arith, told, below, behind)
]

-- ---- Once at most

enumerator_apart : (t j : ℕ) (m : Label) (under : Forest) → m.production ≡ Enumerator → j ≡ t → AreFrom j under → have_forms under ≡ true
    → begins_with_token under ≡ true → noted t m 0 under ≡ 0
enumerator_apart t j m none p e w forms begins = absurd (false≢true begins)
enumerator_apart t j m (token i rest) p e w forms begins =
    let behind : noted t m 1 rest ≡ 0 = noted_outside t (j + 1) 1 m rest w.1 forms (λ a b. absurd (omega (arith, a, e))) in
    let role : role_hit (role_of m.production m.alternative 0) t i ≡ 0 = ap (λ q. role_hit (role_of q m.alternative 0) t i) p in
    omega (arith, behind, role)
enumerator_apart t j m (node l first under rest) p e w forms begins = absurd (false≢true begins)

told_apart : (p q : Production) (t first j : ℕ) (m : Label) (under : Forest) → m.production ≡ p → first ≡ j → AreFrom j under → have_forms under ≡ true
    → has_form p under ≡ true → told_name p q first m under ≡ Some t → noted t m 0 under ≡ 0
told_apart Declarator q t first j m under p e w forms form told =
    hidden t j 0 m under w forms (ap holds_name p) (some_if (declares q) (name_below m under) t told)
told_apart Pdecl q t first j m under p e w forms form told =
    hidden t j 0 m under w forms (ap holds_name p) (some_if (is_parameter q) (name_below m under) t told)
told_apart Enumerator q t first j m under p e w forms form told =
    let same : first ≡ t = cc in enumerator_apart t j m under p (sym e ∙ same) w forms form
told_apart _ q t first j m under p e w forms form told = absurd cc

pub told_once : (t n : ℕ) (o : Option ℕ) → n ≤ 1 → (o ≡ Some t → n ≡ 0) → hits t o + n ≤ 1
told_once t n None most apart = omega (arith, most)
told_once t n (Some x) most apart = elim (cases_eq x t) [
  | inl same ↦ omega (arith, hit_at_most t x, apart (ap (λ y. Some y) same))
  | inr other ↦ omega (arith, hit_no t x other, most)
]

before_or_behind : (t n : ℕ) → (t < n) ⊎ (n ≤ t)
before_or_behind t n = elim (cases_Bool (nat_lt t n)) [ inl yes' ↦ inl (ltb-true t n yes') | inr no' ↦ inr (ltb-false t n no') ]

pub noted_once : (t j k : ℕ) (l : Label) (f : Forest) → AreFrom j f → have_forms f ≡ true → noted t l k f ≤ 1
noted_once t j k l none w forms = omega arith
noted_once t j k l (token i rest) w forms = elim (cases_eq i t) [
  | inl same ↦
      let behind : noted t l (k + 1) rest ≡ 0 = noted_outside t (j + 1) (k + 1) l rest w.1 forms (λ a b. absurd (omega (arith, a, w.0, same))) in
      omega (arith, behind, role_at_most (role_of l.production l.alternative k) t i)
  | inr other ↦ omega (arith, role_no (role_of l.production l.alternative k) t i other, noted_once t (j + 1) (k + 1) l rest w.1 forms)
]
noted_once t j k l (node m first under rest) w forms = elim (before_or_behind t (j + token_count under)) [
  | inl before ↦
      let behind : noted t l (k + 1) rest ≡ 0 =
      noted_outside t (j + token_count under) (k + 1) l rest w.2 (forms_behind m.production under rest forms) (λ a b. absurd (omega (arith, a, before))) in
      let both : hits t (told_name m.production l.production first m under) + noted t m 0 under ≤ 1 =
      told_once t (noted t m 0 under) (told_name m.production l.production first m under)
      (noted_once t j 0 m under w.1 (forms_under m.production under rest forms))
      (told_apart m.production l.production t first j m under refl w.0 w.1 (forms_under m.production under rest forms) (form_here m.production under rest forms)) in
      omega (arith, behind, both)
  | inr later ↦
      let told : hits t (told_name m.production l.production first m under) ≡ 0 =
      told_outside t m.production l.production first m under j w.0 w.1 (form_here m.production under rest forms) (λ a b. absurd (omega (arith, b, later))) in
      let below : noted t m 0 under ≡ 0 =
      noted_outside t j 0 m under w.1 (forms_under m.production under rest forms) (λ a b. absurd (omega (arith, b, later))) in
      let behind : noted t l (k + 1) rest ≤ 1 = noted_once t (j + token_count under) (k + 1) l rest w.2 (forms_behind m.production under rest forms) in
      omega (arith, told, below, behind)
]
