-- How often a token may be noted as a name by the walk over GNU C, by its place in the tree: once at most.
use Rattle.std.proofs.Common.{ℕ, ◌+◌, ◌<◌, ◌≤◌, ◌≡◌, Bool, true, false, ◌&&◌, ◌||◌, if◌then◌else◌, ◌==◌, Option, None, Some, ◌⊎◌, inl, inr, refl, sym, ap, subst, ◌∙◌, arith}
use Rattle.std.specs.Prelude.{IfSome, nat_lt}
use Rattle.std.proofs.lemmas.Bool.{false≢true, cases_Bool, cases_eq, ltb-true, ltb-false}
use Rattle.cs_base.proofs.OptionLemmas.{some_if}
use Rattle.c99_tree.specs.Tree.{Forest, none, token, node}
use Rattle.c99_tree.specs.declared.production.Label.{Label}
use Rattle.c99_tree.specs.declared.production.Production.{Production}
use Rattle.c99_tree.specs.declared.production.Production.TheVariants.{Enumerator, Declarator, Direct, Pdecl, Pdirect, AutoDecl}
use Rattle.c99_tree.specs.contracts.production.ProductionPartialEq.TheImpl.{ghosts}
use Rattle.gnu_bind.specs.Below.c_types.Trees.{has_name, holds_name, name_below, first_token}
use Rattle.gnu_bind.specs.declared.roles.GnuRole.{GnuRole}
use Rattle.gnu_bind.specs.Roles.{role_in}
use Rattle.gnu_bind.specs.Walk.{auto_name}
use Rattle.tree_laws.specs.TreesOfTexts.{token_count, AreFrom, begins_with_token, has_token, has_two_tokens, has_form, have_forms}
use Rattle.tree_laws.proofs.Noted.{hit, hits, declares, is_parameter, Within, name_within, told_within, form_here, forms_under, forms_behind, declares_none, outside_no, parameter_none, role_case, role_most, told_once}
use Rattle.gnu_tree_laws.specs.GnuPlaces.{is_plain_gnu}
use Rattle.gnu_tree_laws.proofs.GnuHeld.{gnu_told_name}

-- a token of the role
abbrev pub gnu_hit : GnuRole → ℕ → ℕ → ℕ
gnu_hit r t i = if is_plain_gnu r then 0 else hit t i

-- some children of a node, of which the first has this number
abbrev pub gnu_noted : ℕ → Label → ℕ → Forest → ℕ
gnu_noted t l k none = 0
gnu_noted t l k (token i rest) = gnu_hit (role_in l.production l.alternative k) t i + gnu_noted t l (k + 1) rest
gnu_noted t l k (node m first under rest) =
    hits t (gnu_told_name m.production l.production first m under) + (gnu_noted t m 0 under + gnu_noted t l (k + 1) rest)

-- the first token among some children stands below them
first_within : (f : Forest) (j d : ℕ) → AreFrom j f → has_token f ≡ true → Within j (token_count f) (first_token f d)
first_within none j d w h = absurd (false≢true h)
first_within (token i rest) j d w h = (omega (arith, w.0), omega (arith, w.0))
first_within (node l first under rest) j d w h =
    let r = first_within rest (j + token_count under) d w.2 h in
    (omega (arith, r.0), omega (arith, r.1))

-- .. and so does the name of `__auto_type`
auto_within : (under : Forest) (j : ℕ) → AreFrom j under → has_two_tokens under ≡ true → Within j (token_count under) (auto_name under)
auto_within none j w h = absurd (false≢true h)
auto_within (token i rest) j w h =
    let r = first_within rest (j + 1) 0 w.1 h in
    (omega (arith, r.0), omega (arith, r.1))
auto_within (node l first under rest) j w h = absurd (false≢true h)

pub gnu_told_within : (p q : Production) (m : Label) (under : Forest) (j : ℕ) → AreFrom j under → has_form p under ≡ true
    → IfSome (gnu_told_name p q j m under) (Within j (token_count under))
gnu_told_within AutoDecl q m under j w form = auto_within under j w form
gnu_told_within Declarator q m under j w form = told_within Declarator q m under j w form
gnu_told_within Pdecl q m under j w form = told_within Pdecl q m under j w form
gnu_told_within Enumerator q m under j w form = told_within Enumerator q m under j w form
gnu_told_within _ q m under j w form = tt

-- ---- Tokens that stand elsewhere

-- the token is none of so many from j on
abbrev Outside : ℕ → ℕ → ℕ → Type 0
Outside t j n = j ≤ t → t < j + n → ⊥

role_no : (r : GnuRole) (t i : ℕ) → (i ≡ t → ⊥) → gnu_hit r t i ≡ 0
role_no r t i h = role_case (is_plain_gnu r) t i h

role_at_most : (r : GnuRole) (t i : ℕ) → gnu_hit r t i ≤ 1
role_at_most r t i = role_most (is_plain_gnu r) t i

told_outside : (t : ℕ) (p q : Production) (first : ℕ) (m : Label) (under : Forest) (j : ℕ) → first ≡ j → AreFrom j under → has_form p under ≡ true
    → Outside t j (token_count under) → hits t (gnu_told_name p q first m under) ≡ 0
told_outside t p q first m under j e w form out =
    ap (λ x. hits t (gnu_told_name p q x m under)) e
    ∙ outside_no t j (token_count under) (gnu_told_name p q j m under) out (gnu_told_within p q m under j w form)

gnu_noted_outside : (t j k : ℕ) (l : Label) (f : Forest) → AreFrom j f → have_forms f ≡ true → Outside t j (token_count f) → gnu_noted t l k f ≡ 0
gnu_noted_outside t j k l none w forms out = refl
gnu_noted_outside t j k l (token i rest) w forms out =
    let here : gnu_hit (role_in l.production l.alternative k) t i ≡ 0 =
    role_no (role_in l.production l.alternative k) t i (λ e. out (omega (arith, w.0, e)) (omega (arith, w.0, e))) in
    let behind : gnu_noted t l (k + 1) rest ≡ 0 = gnu_noted_outside t (j + 1) (k + 1) l rest w.1 forms (λ a b. out (omega arith) (omega arith)) in
    omega (arith, here, behind)
gnu_noted_outside t j k l (node m first under rest) w forms out =
    let told : hits t (gnu_told_name m.production l.production first m under) ≡ 0 =
    told_outside t m.production l.production first m under j w.0 w.1 (form_here m.production under rest forms) (λ a b. out a (omega arith)) in
    let below : gnu_noted t m 0 under ≡ 0 = gnu_noted_outside t j 0 m under w.1 (forms_under m.production under rest forms) (λ a b. out a (omega arith)) in
    let behind : gnu_noted t l (k + 1) rest ≡ 0 =
    gnu_noted_outside t (j + token_count under) (k + 1) l rest w.2 (forms_behind m.production under rest forms) (λ a b. out (omega arith) (omega arith)) in
    omega (arith, told, below, behind)

-- ---- A declarator's name is noted nowhere below it

-- the production of a node that has a name as its token
named_role : (p : Production) (a k : ℕ) → ((ghosts.eq p Direct && (a == 1)) || (ghosts.eq p Pdirect && (a == 1))) ≡ true → is_plain_gnu (role_in p a k) ≡ true
named_role Direct a k h = refl
named_role Pdirect a k h = refl
named_role _ a k h = absurd (false≢true h)

-- a part of a declarator declares nothing
part_tells_none : (p q : Production) (first : ℕ) (m : Label) (under : Forest) → holds_name p ≡ true → holds_name q ≡ true
    → gnu_told_name p q first m under ≡ None
part_tells_none Declarator q first m under h k = declares_none q (name_below m under) k
part_tells_none Pdecl q first m under h k = parameter_none q (name_below m under) k
part_tells_none Direct q first m under h k = refl
part_tells_none Pdirect q first m under h k = refl
part_tells_none _ q first m under h k = absurd (false≢true h)

found_within : (t j n : ℕ) (o : Option ℕ) → o ≡ Some t → IfSome o (Within j n) → Within j n t
found_within t j n o e h = subst (λ (x : Option ℕ). IfSome x (Within j n)) e h

hidden_token : (t i k : ℕ) (l : Label) (rest : Forest) (c : Bool) → has_name l ≡ c → (if c then Some i else name_below l rest) ≡ Some t
    → ((i ≡ t) × (is_plain_gnu (role_in l.production l.alternative k) ≡ true)) ⊎ (name_below l rest ≡ Some t)
hidden_token t i k l rest true e h = inl (cc, named_role l.production l.alternative k e)
hidden_token t i k l rest false e h = inr h

hidden_node : (t : ℕ) (l m : Label) (under rest : Forest) (c : Bool) → holds_name m.production ≡ c
    → (if c then name_below m under else name_below l rest) ≡ Some t
    → ((holds_name m.production ≡ true) × (name_below m under ≡ Some t)) ⊎ (name_below l rest ≡ Some t)
hidden_node t l m under rest true e h = inl (e, h)
hidden_node t l m under rest false e h = inr h

pub hidden : (t j k : ℕ) (l : Label) (f : Forest) → AreFrom j f → have_forms f ≡ true → holds_name l.production ≡ true → name_below l f ≡ Some t
    → gnu_noted t l k f ≡ 0
hidden t j k l none w forms holds name = absurd cc
hidden t j k l (token i rest) w forms holds name = elim (hidden_token t i k l rest (has_name l) refl name) [
  | inl here ↦
      let behind : gnu_noted t l (k + 1) rest ≡ 0 = gnu_noted_outside t (j + 1) (k + 1) l rest w.1 forms (λ a b. absurd (omega (arith, here.0, w.0, a))) in
      let role : gnu_hit (role_in l.production l.alternative k) t i ≡ 0 = ap (λ c. if c then 0 else hit t i) here.1 in
      omega (arith, behind, role)
  | inr later ↦
      let within : Within (j + 1) (token_count rest) t = found_within t (j + 1) (token_count rest) (name_below l rest) later (name_within l rest (j + 1) w.1) in
      let behind : gnu_noted t l (k + 1) rest ≡ 0 = hidden t (j + 1) (k + 1) l rest w.1 forms holds later in
      let role : gnu_hit (role_in l.production l.alternative k) t i ≡ 0 =
      role_no (role_in l.production l.alternative k) t i (λ e. absurd (omega (arith, e, w.0, within.0))) in
      omega (arith, behind, role)
]
hidden t j k l (node m first under rest) w forms holds name = elim (hidden_node t l m under rest (holds_name m.production) refl name) [
  | inl here ↦
      let within : Within j (token_count under) t = found_within t j (token_count under) (name_below m under) here.1 (name_within m under j w.1) in
      let told : hits t (gnu_told_name m.production l.production first m under) ≡ 0 =
      ap (hits t) (part_tells_none m.production l.production first m under here.0 holds) in
      let below : gnu_noted t m 0 under ≡ 0 = hidden t j 0 m under w.1 (forms_under m.production under rest forms) here.0 here.1 in
      let behind : gnu_noted t l (k + 1) rest ≡ 0 =
      gnu_noted_outside t (j + token_count under) (k + 1) l rest w.2 (forms_behind m.production under rest forms) (λ a b. absurd (omega (arith, a, within.1))) in
      omega (arith, told, below, behind)
  | inr later ↦
      let within : Within (j + token_count under) (token_count rest) t =
      found_within t (j + token_count under) (token_count rest) (name_below l rest) later (name_within l rest (j + token_count under) w.2) in
      let told : hits t (gnu_told_name m.production l.production first m under) ≡ 0 =
      told_outside t m.production l.production first m under j w.0 w.1 (form_here m.production under rest forms) (λ a b. absurd (omega (arith, b, within.0))) in
      let below : gnu_noted t m 0 under ≡ 0 =
      gnu_noted_outside t j 0 m under w.1 (forms_under m.production under rest forms) (λ a b. absurd (omega (arith, b, within.0))) in
      let behind : gnu_noted t l (k + 1) rest ≡ 0 =
      hidden t (j + token_count under) (k + 1) l rest w.2 (forms_behind m.production under rest forms) holds later in
      omega (arith, told, below, behind)
]

-- ---- Once at most

enumerator_apart : (t j : ℕ) (m : Label) (under : Forest) → m.production ≡ Enumerator → j ≡ t → AreFrom j under → have_forms under ≡ true
    → begins_with_token under ≡ true → gnu_noted t m 0 under ≡ 0
enumerator_apart t j m none p e w forms begins = absurd (false≢true begins)
enumerator_apart t j m (token i rest) p e w forms begins =
    let behind : gnu_noted t m 1 rest ≡ 0 = gnu_noted_outside t (j + 1) 1 m rest w.1 forms (λ a b. absurd (omega (arith, a, e))) in
    let role : gnu_hit (role_in m.production m.alternative 0) t i ≡ 0 = ap (λ q. gnu_hit (role_in q m.alternative 0) t i) p in
    omega (arith, behind, role)
enumerator_apart t j m (node l first under rest) p e w forms begins = absurd (false≢true begins)

-- the tokens of `__auto_type` are bound by no role
auto_plain : (p : Production) (a k t i : ℕ) → p ≡ AutoDecl → gnu_hit (role_in p a k) t i ≡ 0
auto_plain p a k t i e = ap (λ q. gnu_hit (role_in q a k) t i) e

first_apart : (t j k : ℕ) (m : Label) (f : Forest) → m.production ≡ AutoDecl → AreFrom j f → have_forms f ≡ true → has_token f ≡ true
    → first_token f 0 ≡ t → gnu_noted t m k f ≡ 0
first_apart t j k m none p w forms h same = absurd (false≢true h)
first_apart t j k m (token i rest) p w forms h same =
    let behind : gnu_noted t m (k + 1) rest ≡ 0 = gnu_noted_outside t (j + 1) (k + 1) m rest w.1 forms (λ a b. absurd (omega (arith, a, w.0, same))) in
    omega (arith, behind, auto_plain m.production m.alternative k t i p)
first_apart t j k m (node l first under rest) p w forms h same =
    let within = first_within rest (j + token_count under) 0 w.2 h in
    let told : hits t (gnu_told_name l.production m.production first l under) ≡ 0 =
    told_outside t l.production m.production first l under j w.0 w.1 (form_here l.production under rest forms) (λ a b. absurd (omega (arith, b, within.0, same))) in
    let below : gnu_noted t l 0 under ≡ 0 =
    gnu_noted_outside t j 0 l under w.1 (forms_under l.production under rest forms) (λ a b. absurd (omega (arith, b, within.0, same))) in
    let behind : gnu_noted t m (k + 1) rest ≡ 0 =
    first_apart t (j + token_count under) (k + 1) m rest p w.2 (forms_behind l.production under rest forms) h same in
    omega (arith, told, below, behind)

auto_apart : (t j : ℕ) (m : Label) (under : Forest) → m.production ≡ AutoDecl → AreFrom j under → have_forms under ≡ true → has_two_tokens under ≡ true
    → auto_name under ≡ t → gnu_noted t m 0 under ≡ 0
auto_apart t j m none p w forms h same = absurd (false≢true h)
auto_apart t j m (token i rest) p w forms h same =
    let behind : gnu_noted t m 1 rest ≡ 0 = first_apart t (j + 1) 1 m rest p w.1 forms h same in
    omega (arith, behind, auto_plain m.production m.alternative 0 t i p)
auto_apart t j m (node l first under rest) p w forms h same = absurd (false≢true h)

told_apart : (p q : Production) (t first j : ℕ) (m : Label) (under : Forest) → m.production ≡ p → first ≡ j → AreFrom j under → have_forms under ≡ true
    → has_form p under ≡ true → gnu_told_name p q first m under ≡ Some t → gnu_noted t m 0 under ≡ 0
told_apart Declarator q t first j m under p e w forms form told =
    hidden t j 0 m under w forms (ap holds_name p) (some_if (declares q) (name_below m under) t told)
told_apart Pdecl q t first j m under p e w forms form told =
    hidden t j 0 m under w forms (ap holds_name p) (some_if (is_parameter q) (name_below m under) t told)
told_apart Enumerator q t first j m under p e w forms form told =
    let same : first ≡ t = cc in enumerator_apart t j m under p (sym e ∙ same) w forms form
told_apart AutoDecl q t first j m under p e w forms form told =
    let same : auto_name under ≡ t = cc in auto_apart t j m under p w forms form same
told_apart _ q t first j m under p e w forms form told = absurd cc

before_or_behind : (t n : ℕ) → (t < n) ⊎ (n ≤ t)
before_or_behind t n = elim (cases_Bool (nat_lt t n)) [ inl yes' ↦ inl (ltb-true t n yes') | inr no' ↦ inr (ltb-false t n no') ]

pub gnu_noted_once : (t j k : ℕ) (l : Label) (f : Forest) → AreFrom j f → have_forms f ≡ true → gnu_noted t l k f ≤ 1
gnu_noted_once t j k l none w forms = omega arith
gnu_noted_once t j k l (token i rest) w forms = elim (cases_eq i t) [
  | inl same ↦
      let behind : gnu_noted t l (k + 1) rest ≡ 0 = gnu_noted_outside t (j + 1) (k + 1) l rest w.1 forms (λ a b. absurd (omega (arith, a, w.0, same))) in
      omega (arith, behind, role_at_most (role_in l.production l.alternative k) t i)
  | inr other ↦ omega (arith, role_no (role_in l.production l.alternative k) t i other, gnu_noted_once t (j + 1) (k + 1) l rest w.1 forms)
]
gnu_noted_once t j k l (node m first under rest) w forms = elim (before_or_behind t (j + token_count under)) [
  | inl before ↦
      let behind : gnu_noted t l (k + 1) rest ≡ 0 =
      gnu_noted_outside t (j + token_count under) (k + 1) l rest w.2 (forms_behind m.production under rest forms) (λ a b. absurd (omega (arith, a, before))) in
      let both : hits t (gnu_told_name m.production l.production first m under) + gnu_noted t m 0 under ≤ 1 =
      told_once t (gnu_noted t m 0 under) (gnu_told_name m.production l.production first m under)
      (gnu_noted_once t j 0 m under w.1 (forms_under m.production under rest forms))
      (told_apart m.production l.production t first j m under refl w.0 w.1 (forms_under m.production under rest forms) (form_here m.production under rest forms)) in
      omega (arith, behind, both)
  | inr later ↦
      let told : hits t (gnu_told_name m.production l.production first m under) ≡ 0 =
      told_outside t m.production l.production first m under j w.0 w.1 (form_here m.production under rest forms) (λ a b. absurd (omega (arith, b, later))) in
      let below : gnu_noted t m 0 under ≡ 0 =
      gnu_noted_outside t j 0 m under w.1 (forms_under m.production under rest forms) (λ a b. absurd (omega (arith, b, later))) in
      let behind : gnu_noted t l (k + 1) rest ≤ 1 = gnu_noted_once t (j + token_count under) (k + 1) l rest w.2 (forms_behind m.production under rest forms) in
      omega (arith, told, below, behind)
]
