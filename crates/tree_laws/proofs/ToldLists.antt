-- Two parameters of one list are spelled differently, or the second is declared again; and a parameter with `typedef` is a slip.
use Rattle.std.proofs.Common.{ℕ, ◌+◌, ◌<◌, ◌≤◌, ◌≡◌, Bool, true, false, ◌&&◌, ◌||◌, not, if◌then◌else◌, ◌==◌, List, [], ◌∷◌, Option, None, Some, ◌⊎◌, inl, inr, refl, sym, ap, subst, ◌∙◌, arith}
use Rattle.std.specs.Prelude.{IfSome}
use Rattle.std.specs.Option.{option_map_or}
use Rattle.std.proofs.lemmas.Bool.{false≢true, cases_Bool, and_from, eq-eqb, le-ltb, lt-ltb}
use Rattle.cs_base.specs.Token.{Token}
use Rattle.c99_tree.specs.Tree.{Forest, none, token, node}
use Rattle.c99_tree.specs.declared.production.Label.{Label}
use Rattle.c99_tree.specs.declared.production.Production.{Production}
use Rattle.c99_tree.specs.declared.production.Production.TheVariants.{Suffix, Params, Param, Pdecl}
use Rattle.c99_tree.specs.contracts.production.ProductionPartialEq.TheImpl.{ghosts}
use Rattle.c_types.specs.declared.entity.EntityKind.TheVariants.{Typedef, Parameter}
use Rattle.c_types.specs.Types.{CType, adjusted}
use Rattle.c_types.specs.Trees.{is_node, is_list, name_below, last_token, declarator_type}
use Rattle.c_types.specs.Declarations.{Facts, is_live, is_typedef_name, is_space, alike, is_named}
use Rattle.name_chains.specs.Frames.{State}
use Rattle.name_chains.specs.Entering.{inner, scope_in, entered}
use Rattle.scope_bind.specs.Named.{Declaration, Declared, Body, Frame, Scope, ordinary}
use Rattle.scope_bind.specs.declared.bound.Name.{Name}
use Rattle.scope_bind.specs.Ordinary.{is_again, declared, plain_name, with_parameter}
use Rattle.scope_bind.specs.Walk.{passed, parameter_in, facts_after, left, walked}
use Rattle.tree_laws.specs.TreesOfTexts.{token_count, AreFrom}
use Rattle.tree_laws.proofs.Lookups.{In, none_passes}
use Rattle.tree_laws.specs.Told.{DeclaresAt, DeclaresAgain, IsSlip, parameter_name, name_in_list, with_name, IsOther, AreOthers}
use Rattle.tree_laws.proofs.Walking.{Places, facts_in_moved, facts_at_moved, facts_after_moved, walked_moved}
use Rattle.tree_laws.proofs.Grown.{Grown, grown_same, grown_then, walked_grown, passed_grown, entered_grown, left_grown}
use Rattle.tree_laws.proofs.Sorted.{Sorted, sorted_law}
use Rattle.tree_laws.proofs.Finish.{NoEntity, IsFinal, names, declares_at}
use Rattle.tree_laws.proofs.ToldSteps.{prior, new, new_in, own_told, again_told}

-- ---- Steps by their productions

parameter_at : (toks : List Token) (q : Production) (f : Frame) (m : Label) (under : Forest) (facts : Facts) → ghosts.eq q Param ≡ true
    → parameter_in toks q f m under facts ≡ with_parameter toks f under (name_below m under) facts
parameter_at toks Param f m under facts e = refl
parameter_at toks _ f m under facts e = absurd (false≢true e)

pub after_parameter : (toks : List Token) (p : Production) (first : ℕ) (f : Frame) (m : Label) (under : Forest) (body : Option Body) (facts : Facts) → ghosts.eq p Pdecl ≡ true
    → ghosts.eq f.label.production Param ≡ true → facts_after toks p first f m under body facts ≡ with_parameter toks f under (name_below m under) facts
after_parameter toks Pdecl first f m under body facts e h = parameter_at toks f.label.production f m under facts h
after_parameter toks _ first f m under body facts e h = absurd (false≢true e)

scope_param : (p : Production) (l : Label) (under : Forest) (around : Scope) → ghosts.eq p Param ≡ true → scope_in p l under around ≡ around
scope_param Param l under around e = refl
scope_param _ l under around e = absurd (false≢true e)

pub scope_params : (p : Production) (l : Label) (under : Forest) (around : Scope) → ghosts.eq p Params ≡ true → scope_in p l under around ≡ around
scope_params Params l under around e = refl
scope_params _ l under around e = absurd (false≢true e)

pub scope_list : (p : Production) (l : Label) (under : Forest) (around : Scope) → ghosts.eq p Suffix ≡ true → is_list l ≡ true → scope_in p l under around ≡ inner around (last_token under 0)
scope_list Suffix l under around e h = ap (λ c. if c then inner around (last_token under 0) else around) h
scope_list _ l under around e h = absurd (false≢true e)

-- the last token of some that stand in a range
last_in : (f : Forest) (a k lo hi : ℕ) → AreFrom a f → lo ≤ a → a + token_count f ≤ hi → (lo ≤ k) × (k < hi) → (lo ≤ last_token f k) × (last_token f k < hi)
last_in none a k lo hi w low high h = h
last_in (token i rest) a k lo hi w low high h = last_in rest (a + 1) i lo hi w.1 (omega (arith, low)) (omega (arith, high)) (omega (arith, w.0, low), omega (arith, w.0, high))
last_in (node m first under rest) a k lo hi w low high h =
    last_in rest (a + token_count under) (last_token under k) lo hi w.2 (omega (arith, low)) (omega (arith, high))
    (last_in under a k lo hi w.1 low (omega (arith, high)) h)

name_if : (c : Bool) (x y : Option ℕ) (lo hi : ℕ) → IfSome x (λ i. (lo ≤ i) × (i < hi)) → IfSome y (λ i. (lo ≤ i) × (i < hi)) → IfSome (if c then x else y) (λ i. (lo ≤ i) × (i < hi))
name_if true x y lo hi h k = h
name_if false x y lo hi h k = k

name_range : (l : Label) (f : Forest) (a lo hi : ℕ) → AreFrom a f → lo ≤ a → a + token_count f ≤ hi → IfSome (name_below l f) (λ i. (lo ≤ i) × (i < hi))
name_range l none a lo hi w low high = tt
name_range l (token i rest) a lo hi w low high =
    name_if _ (Some i) (name_below l rest) lo hi (omega (arith, w.0, low), omega (arith, w.0, high)) (name_range l rest (a + 1) lo hi w.1 (omega (arith, low)) (omega (arith, high)))
name_range l (node m first under rest) a lo hi w low high =
    name_if _ (name_below m under) (name_below l rest) lo hi (name_range m under a lo hi w.1 low (omega (arith, high)))
    (name_range l rest (a + token_count under) lo hi w.2 (omega (arith, low)) (omega (arith, high)))

module _ (toks : List Token) (F : Facts) (final : IsFinal F) where
  abbrev Ns : List Name
  Ns = names F final

  abbrev pub U : ℕ → Type 0
  U = NoEntity F.occurrences

  abbrev pub Stands : Facts → Type 0
  Stands f = Sorted U f.declared f.occurrences f.fault

  pub sorted_walked : (f : Forest) (s : State) → Places U f → Stands s.facts → Stands (walked toks f s).facts
  sorted_walked f s = walked_moved toks U (Sorted U) (sorted_law U) f s

  pub sorted_passed : (i : ℕ) (s : State) → Stands s.facts → Stands (passed toks i s).facts
  sorted_passed i s h = facts_at_moved toks U (Sorted U) (sorted_law U) i s.frame s.facts h _

  pub sorted_entered : (l : Label) (first : ℕ) (under : Forest) (s : State) → Stands s.facts → Stands (entered toks l first under s).facts
  sorted_entered l first under s h = facts_in_moved toks U (Sorted U) (sorted_law U) l.production first under s.frame s.facts h

  -- a node that is left
  pub sorted_left : (l : Label) (first : ℕ) (under rest : Forest) (s : State) → Places U (node l first under rest) → Stands s.facts
      → Stands (left toks l first under s (walked toks under (entered toks l first under s))).facts
  sorted_left l first under rest s w h =
      let inside : State = walked toks under (entered toks l first under s) in
      facts_after_moved toks U (Sorted U) (sorted_law U) l.production first s.frame l under inside.frame.body inside.facts w.0
      (sorted_walked under (entered toks l first under s) w.1 (sorted_entered l first under s h))

  -- ---- A parameter

  -- A name that is declared in this scope, up to this token.
  pub record StandsIn (scope : Scope) (at : ℕ) (f : Facts) (i : ℕ) : Type 0 where
    pub of : Declaration
    pub there : In of f.declared
    pub name : of.name_at ≡ i
    pub ordinary : is_space of.space ordinary ≡ true
    pub depth : of.depth ≡ scope.depth
    pub from : of.from ≤ at
    pub to : of.to ≡ scope.to

  abbrev pub AllStand : Scope → ℕ → Facts → List ℕ → Type 0
  AllStand scope at f [] = Unit {0}
  AllStand scope at f (i ∷ seen) = StandsIn scope at f i × AllStand scope at f seen

  stand_later : (scope : Scope) (at later : ℕ) (f g : Facts) (seen : List ℕ) → at ≤ later → Grown f g → AllStand scope at f seen → AllStand scope later g seen
  stand_later scope at later f g [] less a h = tt
  stand_later scope at later f g (i ∷ seen) less a h = (
    record {
      of = h.0.of;
      there = a.declared h.0.of h.0.there;
      name = h.0.name;
      ordinary = h.0.ordinary;
      depth = h.0.depth;
      from = omega (arith, h.0.from, less);
      to = h.0.to;
    },
    stand_later scope at later f g seen less a h.1,
  )

  module _ (scope : Scope) (j last : ℕ) (kind : _) (t : CType) (facts : Facts) (g : Grown (declared toks scope (plain_name toks j last kind t false) facts) F) (sorted : Stands facts) where
    abbrev n : Declared
    n = plain_name toks j last kind t false

    -- a name that is spelled so is declared before
    other_told : (at : ℕ) (i : ℕ) → at ≤ last → last < scope.to → StandsIn scope at facts i → (alike toks j i ≡ false) ⊎ DeclaresAgain Ns j
    other_told at i low high s = elim (cases_Bool (alike toks j i)) [
      | inl same ↦
          let test : Declaration → Bool = λ d. is_named toks ordinary j d && (is_live last d && (d.depth == scope.depth)) in
          let named : is_named toks ordinary j s.of ≡ true = and_from _ _ s.ordinary (subst (λ k. alike toks j k ≡ true) (sym s.name) same) in
          let live : is_live last s.of ≡ true =
          and_from _ _ (ap not (le-ltb last s.of.from (omega (arith, s.from, low)))) (lt-ltb last s.of.to (subst (λ k. last < k) (sym s.to) high)) in
          let passes : test s.of ≡ true = and_from _ _ named (and_from _ _ live (eq-eqb s.of.depth scope.depth s.depth)) in
          inr (by (prior toks F final scope n facts g) refl (λ e. false≢true (sym (none_passes test facts.declared s.of e s.there) ∙ passes)))
      | inr other ↦ inl other
    ]
      where
        by : (r : Option Declaration) → prior toks F final scope n facts g ≡ r → (r ≡ None → ⊥) → DeclaresAgain Ns j
        by None e there = absurd (there refl)
        by (Some x) e there = (again_told toks F final j last kind t scope facts g sorted x e).1

    all_other : (at : ℕ) (seen : List ℕ) → at ≤ last → last < scope.to → AllStand scope at facts seen → IsOther Ns toks seen j
    all_other at [] low high h = tt
    all_other at (i ∷ seen) low high h = (other_told at i low high h.0, all_other at seen low high h.1)

  -- a parameter whose name stands behind others of its scope
  parameter_other : (f : Frame) (under : Forest) (j at : ℕ) (facts : Facts) (seen : List ℕ) → Grown (with_parameter toks f under (Some j) facts) F → Stands facts → at ≤ last_token under j
      → last_token under j < f.scope.to → AllStand f.scope at facts seen → IsOther Ns toks seen j
  parameter_other f under j at facts seen g sorted low high h = by f.words.has_typedef g
    where
      t : CType
      t = declarator_type f.base under

      by : (c : Bool) → Grown (declared toks f.scope (if c then plain_name toks j (last_token under j) Typedef (declarator_type f.base under) false
          else plain_name toks j (last_token under j) Parameter (adjusted (declarator_type f.base under)) false) facts) F → IsOther Ns toks seen j
      by true g = all_other f.scope j (last_token under j) Typedef (declarator_type f.base under) facts g sorted at seen low high h
      by false g = all_other f.scope j (last_token under j) Parameter (adjusted (declarator_type f.base under)) facts g sorted at seen low high h

  -- .. and it stands in the scope then
  parameter_stands : (f : Frame) (under : Forest) (j at : ℕ) (facts : Facts) → last_token under j < at → StandsIn f.scope at (with_parameter toks f under (Some j) facts) j
  parameter_stands f under j at facts high = by f.words.has_typedef
    where
      by : (c : Bool) → StandsIn f.scope at (declared toks f.scope (if c then plain_name toks j (last_token under j) Typedef (declarator_type f.base under) false
          else plain_name toks j (last_token under j) Parameter (adjusted (declarator_type f.base under)) false) facts) j
      by true = record { of = _; there = inl refl; name = refl; ordinary = refl; depth = refl; from = omega (arith, high); to = refl }
      by false = record { of = _; there = inl refl; name = refl; ordinary = refl; depth = refl; from = omega (arith, high); to = refl }

  -- with `typedef` it is a slip
  module _ (j last : ℕ) (t : CType) (scope : Scope) (facts : Facts) (g : Grown (declared toks scope (plain_name toks j last Typedef t false) facts) F) (sorted : Stands facts) where
    own_slip : DeclaresAt Ns is_typedef_name j → IsSlip Ns j
    own_slip d = record { name = d.name; is = d.is; index = d.index; declares = d.declares; slip = ap (λ c. c || not (d.name.entity == d.name.index)) d.kind }

    either_slip : (c : Bool) (d : Bool) → d ≡ false → (c || not d) ≡ true
    either_slip true d e = refl
    either_slip false d e = ap not e

    again_slip : DeclaresAgain Ns j → IsSlip Ns j
    again_slip d = record { name = d.name; is = d.is; index = d.index; declares = d.declares; slip = either_slip (is_typedef_name d.name.kind) (d.name.entity == d.name.index) d.again }

    by_prior : (r : Option Declaration) → prior toks F final scope (plain_name toks j last Typedef t false) facts g ≡ r → IsSlip Ns j
    by_prior None at =
        own_slip (own_told toks F final j last Typedef t scope facts g is_typedef_name refl
        (ap (λ (r : Option Declaration). option_map_or (λ d. is_again (plain_name toks j last Typedef t false) d) r false) at))
    by_prior (Some x) at = again_slip (again_told toks F final j last Typedef t scope facts g sorted x at).1

    typedef_slip : IsSlip Ns j
    typedef_slip = by_prior (prior toks F final scope (plain_name toks j last Typedef t false) facts g) refl

  pub parameter_slip : (f : Frame) (under : Forest) (name : Option ℕ) (facts : Facts) → Grown (with_parameter toks f under name facts) F → Stands facts → f.words.has_typedef ≡ true
      → IfSome name (IsSlip Ns)
  parameter_slip f under None facts g sorted e = tt
  parameter_slip f under (Some j) facts g sorted e = by f.words.has_typedef e g
    where
      by : (c : Bool) → c ≡ true → Grown (declared toks f.scope (if c then plain_name toks j (last_token under j) Typedef (declarator_type f.base under) false
          else plain_name toks j (last_token under j) Parameter (adjusted (declarator_type f.base under)) false) facts) F → IsSlip Ns j
      by true e g = typedef_slip j (last_token under j) (declarator_type f.base under) f.scope facts g sorted
      by false e g = absurd (false≢true e)

  -- ---- The parameters of a list

  abbrev pub IsParam : State → Type 0
  IsParam s = ghosts.eq s.frame.label.production Param ≡ true

  -- the name of a parameter declares it
  parameter_declares : (f : Frame) (under : Forest) (name : Option ℕ) (facts : Facts) → Grown (with_parameter toks f under name facts) F → IfSome name (DeclaresAt Ns (λ k. true))
  parameter_declares f under None facts g = tt
  parameter_declares f under (Some j) facts g = by f.words.has_typedef g
    where
      by : (c : Bool) → Grown (declared toks f.scope (if c then plain_name toks j (last_token under j) Typedef (declarator_type f.base under) false
          else plain_name toks j (last_token under j) Parameter (adjusted (declarator_type f.base under)) false) facts) F → DeclaresAt Ns (λ k. true) j
      by true g =
          let n : Declared = plain_name toks j (last_token under j) Typedef (declarator_type f.base under) false in
          declares_at F final (new toks F final f.scope n facts g) (λ k. true) (new_in toks F final f.scope n facts g) refl refl
      by false g =
          let n : Declared = plain_name toks j (last_token under j) Parameter (adjusted (declarator_type f.base under)) false in
          declares_at F final (new toks F final f.scope n facts g) (λ k. true) (new_in toks F final f.scope n facts g) refl refl

  pub param_named : (f : Forest) (s : State) → IsParam s → Grown (walked toks f s).facts F → IfSome (parameter_name f) (DeclaresAt Ns (λ k. true))
  unfolding walked
  param_named none s is g = tt
  param_named (token i rest) s is g = param_named rest (passed toks i s) is g
  param_named (node m first under rest) s is g = by (is_node m Pdecl) refl (param_named rest after is g)
    where
      inside : State
      inside = walked toks under (entered toks m first under s)

      after : State
      after = left toks m first under s inside

      by : (c : Bool) → is_node m Pdecl ≡ c → IfSome (parameter_name rest) (DeclaresAt Ns (λ k. true)) → IfSome (if c then name_below m under else parameter_name rest) (DeclaresAt Ns (λ k. true))
      by true e more =
          let step : after.facts ≡ with_parameter toks s.frame under (name_below m under) inside.facts = after_parameter toks m.production first s.frame m under inside.frame.body inside.facts e is in
          parameter_declares s.frame under (name_below m under) inside.facts (subst (λ x. Grown x F) step (grown_then after.facts (walked toks rest after).facts F (walked_grown toks rest after) g))
      by false e more = more

  -- what a parameter declaration tells, and what stands behind it
  record ParamTold (scope : Scope) (seen : List ℕ) (at : ℕ) (name : Option ℕ) (f : Facts) : Type 0 where
    others : IfSome name (IsOther Ns toks seen)
    stand : AllStand scope at f (with_name name seen)

  -- once the declarator of one is read
  declarator_told : (scope : Scope) (under : Forest) (name : Option ℕ) (f : Frame) (facts : Facts) (seen : List ℕ) (a : ℕ) → f.scope ≡ scope → Stands facts
      → Grown (with_parameter toks f under name facts) F → AreFrom a under → a + token_count under ≤ scope.to → IfSome name (λ i. (a ≤ i) × (i < a + token_count under))
      → AllStand scope a facts seen → Grown facts (with_parameter toks f under name facts)
      → ParamTold scope seen (a + token_count under) name (with_parameter toks f under name facts)
  declarator_told scope under None f facts seen a same sorted g w high range h grown =
      record { others = tt; stand = stand_later scope a (a + token_count under) facts _ seen (omega arith) grown h }
  declarator_told scope under (Some j) f facts seen a same sorted g w high range h grown =
      let b : ℕ = a + token_count under in
      let last : (a ≤ last_token under j) × (last_token under j < b) = last_in under a j a b w (omega arith) (omega arith) range in
      let here : AllStand f.scope a facts seen = subst (λ sc. AllStand sc a facts seen) (sym same) h in
      let stands : StandsIn f.scope b (with_parameter toks f under (Some j) facts) j = parameter_stands f under j b facts last.1 in
      record {
        others = parameter_other f under j a facts seen g sorted last.0 (subst (λ sc. last_token under j < sc.to) (sym same) (omega (arith, last.1, high))) here;
        stand = (
          subst (λ sc. StandsIn sc b (with_parameter toks f under (Some j) facts) j) same stands,
          stand_later scope a b facts _ seen (omega arith) grown h,
        );
      }

  -- the children of a parameter declaration
  param_told : (scope : Scope) (f : Forest) (s : State) (seen : List ℕ) (a : ℕ) → IsParam s → s.frame.scope ≡ scope → Places U f → Stands s.facts → Grown (walked toks f s).facts F
      → AreFrom a f → a + token_count f ≤ scope.to → AllStand scope a s.facts seen → ParamTold scope seen (a + token_count f) (parameter_name f) (walked toks f s).facts
  unfolding walked
  param_told scope none s seen a is same places sorted g w high h = record { others = tt; stand = stand_later scope a (a + 0) s.facts s.facts seen (omega arith) (grown_same s.facts) h }
  param_told scope (token i rest) s seen a is same places sorted g w high h =
      let r = param_told scope rest (passed toks i s) seen (a + 1) is same places (sorted_passed i s sorted) g w.1 (omega (arith, high))
      (stand_later scope a (a + 1) s.facts (passed toks i s).facts seen (omega arith) (passed_grown toks i s) h) in
      let e : a + 1 + token_count rest ≡ a + (token_count rest + 1) = omega arith in
      subst (λ b. ParamTold scope seen b (parameter_name rest) (walked toks rest (passed toks i s)).facts) e r
  param_told scope (node m first under rest) s seen a is same places sorted g w high h =
      by (is_node m Pdecl) refl (λ _. param_told scope rest after seen (a + token_count under) is same places.2 sorted_after g w.2 (omega (arith, high)) still)
    where
      inside : State
      inside = walked toks under (entered toks m first under s)

      after : State
      after = left toks m first under s inside

      sorted_after : Stands after.facts
      sorted_after = sorted_left m first under rest s places sorted

      grown_inside : Grown s.facts inside.facts
      grown_inside = grown_then s.facts (entered toks m first under s).facts inside.facts (entered_grown toks m first under s) (walked_grown toks under (entered toks m first under s))

      still : AllStand scope (a + token_count under) after.facts seen
      still =
          stand_later scope a (a + token_count under) s.facts after.facts seen (omega arith)
          (grown_then s.facts inside.facts after.facts grown_inside (left_grown toks m first under s inside)) h

      name : Option ℕ
      name = name_below m under

      -- the declarator
      here : is_node m Pdecl ≡ true → ParamTold scope seen (a + token_count under) name after.facts
      here e =
          let step : after.facts ≡ with_parameter toks s.frame under name inside.facts = after_parameter toks m.production first s.frame m under inside.frame.body inside.facts e is in
          let told = declarator_told scope under name s.frame inside.facts seen a same
          (sorted_walked under (entered toks m first under s) places.1 (sorted_entered m first under s sorted))
          (subst (λ x. Grown x F) step (grown_then after.facts (walked toks rest after).facts F (walked_grown toks rest after) g))
          w.1 (omega (arith, high)) (name_range m under a a (a + token_count under) w.1 (omega arith) (omega arith))
          (stand_later scope a a s.facts inside.facts seen (omega arith) grown_inside h)
          (subst (λ x. Grown inside.facts x) step (left_grown toks m first under s inside)) in
          subst (λ x. ParamTold scope seen (a + token_count under) name x) (sym step) told

      by : (c : Bool) → is_node m Pdecl ≡ c → (Unit {0} → ParamTold scope seen (a + token_count under + token_count rest) (parameter_name rest) (walked toks rest after).facts)
          → ParamTold scope seen (a + (token_count under + token_count rest)) (if c then name_below m under else parameter_name rest) (walked toks rest after).facts
      by true e more =
          let told = here e in
          record {
            others = told.others;
            stand = stand_later scope (a + token_count under) (a + (token_count under + token_count rest)) after.facts (walked toks rest after).facts (with_name name seen) (omega arith)
                (walked_grown toks rest after) told.stand;
          }
      by false e more =
          let told = more tt in
          record {
            others = told.others;
            stand = stand_later scope (a + token_count under + token_count rest) (a + (token_count under + token_count rest)) _ _ (with_name (parameter_name rest) seen) (omega arith)
                (grown_same (walked toks rest after).facts) told.stand;
          }

  -- the children of a list
  pub list_walk : (scope : Scope) (f : Forest) (s : State) (seen : List ℕ) (a : ℕ) → s.frame.scope ≡ scope → Places U f → Stands s.facts → Grown (walked toks f s).facts F
      → AreFrom a f → a + token_count f ≤ scope.to → AllStand scope a s.facts seen → AreOthers Ns toks seen f
  unfolding walked
  list_walk scope none s seen a same places sorted g w high h = tt
  list_walk scope (token i rest) s seen a same places sorted g w high h =
      list_walk scope rest (passed toks i s) seen (a + 1) same places (sorted_passed i s sorted) g w.1 (omega (arith, high))
      (stand_later scope a (a + 1) s.facts (passed toks i s).facts seen (omega arith) (passed_grown toks i s) h)
  list_walk scope (node m first under rest) s seen a same places sorted g w high h =
      let told = by (is_node m Param) refl in (
        told.others,
        list_walk scope rest after (with_name (name_in_list m under) seen) (a + token_count under) same places.2 (sorted_left m first under rest s places sorted) g w.2
            (omega (arith, high)) told.stand,
      )
    where
      before : State
      before = entered toks m first under s

      inside : State
      inside = walked toks under before

      after : State
      after = left toks m first under s inside

      grown_after : Grown inside.facts after.facts
      grown_after = left_grown toks m first under s inside

      by : (c : Bool) → is_node m Param ≡ c → ParamTold scope seen (a + token_count under) (if c then parameter_name under else None) after.facts
      by true e =
          let told = param_told scope under before seen a e (scope_param m.production m under s.frame.scope e ∙ same) places.1 (sorted_entered m first under s sorted)
          (grown_then inside.facts after.facts F grown_after (grown_then after.facts (walked toks rest after).facts F (walked_grown toks rest after) g))
          w.1 (omega (arith, high)) (stand_later scope a a s.facts before.facts seen (omega arith) (entered_grown toks m first under s) h) in
          record {
            others = told.others;
            stand = stand_later scope (a + token_count under) (a + token_count under) inside.facts after.facts (with_name (parameter_name under) seen) (omega arith) grown_after told.stand;
          }
      by false e = record {
        others = tt;
        stand = stand_later scope a (a + token_count under) s.facts after.facts seen (omega arith)
            (grown_then s.facts before.facts after.facts (entered_grown toks m first under s) (grown_then before.facts inside.facts after.facts (walked_grown toks under before) grown_after)) h;
      }
