-- All nodes of a tree that is read have the forms that binding in a new order asks for.
use Rattle.std.proofs.Common.{◌≡◌, ℕ, zero, suc, ◌+◌, ◌⊎◌, inl, inr, Bool, true, false, ◌&&◌, ◌||◌, not, if◌then◌else◌, List, [], ◌∷◌, ◌++◌, length, Some, nat_lt, refl, sym, ap, subst, ◌∙◌, arith}
use Rattle.std.specs.Prelude.{◌==◌, slice_get}
use Rattle.std.proofs.lemmas.Bool.{cases_Bool, false≢true, and_parts, and_from, or_cases, eqb-true, eq-eqb, lt-ltb}
use Rattle.std.proofs.lemmas.Option.{same_Some}
use Rattle.cs_base.proofs.BoolLemmas.{not_true as not_is, or_right as or_by}
use Rattle.c99_grammar.specs.declared.dialects.Edition.{Edition}
use Rattle.c99_grammar.specs.declared.dialects.Edition.TheVariants.{C99, C11}
use Rattle.c99_tree.specs.Tree.{Forest, none, token, node, Node}
use Rattle.c99_tree.specs.declared.production.Label.{Label}
use Rattle.c99_tree.specs.declared.production.Production.{Production}
use Rattle.c99_tree.specs.declared.production.Production.TheVariants.{TranslationUnit, ExtRest, ExtTail, FunBody, Specs, MemRest, Declarator, Direct, Pointer, Suffix, Pdecl, Pdirect, TypeName, Adecl, Adirect, Add, Unary, Block, Statement, Sub}
use Rattle.c99_tree.specs.contracts.production.ProductionPartialEq.TheImpl.{ghosts}
use Rattle.c99_grammar.specs.declared.classes.Class.TheVariants.{LeftBrace, Semicolon}
use Rattle.c99_grammar.specs.Items.{part, act, ◌·◌, declare, again, tok, next, either, is, begins as begins_with, when, Alternative, plain}
use Rattle.c99_grammar.specs.Standard.{iso}
use Rattle.c_types.specs.Trees.{is_node, is_at, is_list, last_token, has_node}
use Rattle.name_chains.specs.Frames.{outermost}
use Rattle.name_chains.specs.Entering.{scope_in, inner, is_scoped}
use Rattle.scope_bind.specs.Named.{Scope}
use Rattle.tree_laws.specs.Shapes.{parts_all, has_no_body}
use Rattle.tree_laws.specs.TreesOfTexts.{begins_with_token}
use Rattle.reordered_tree_laws.specs.Premises.{is_items, is_bracketed, asks_sign, stands_in, declares_type, has_outer_list, is_fit_child, is_fit}
use Rattle.reordered_tree_laws.specs.Reordered.{is_among}
use Rattle.reordered_tree_laws.specs.Seen.{is_part, are_parts}
use Rattle.template_meaning.specs.Forms.{IsBracketed, BodyListIsOuter, HasOuterList, TreesHaveForms}
use Rattle.template_meaning.specs.Children.{Child, a_token, a_node, children, AreOfItem, EachNode, IsOfAlternative}
use Rattle.template_meaning.proofs.Children.{children_of_alternatives}
use Rattle.template_meaning.proofs.Fit.{signs, signs_behind, signs_of, rest_same, no_bodies, no_tails, type_nodes, declarator_nodes, inner_nodes, outer_nodes, body_nodes}
use Rattle.template_meaning.proofs.FitTable.{is_rest, is_outer, is_body, is_ext_tail, is_ext_rest, is_declarator, is_declarator_child, is_type_name, is_type_child, not_these, all_nodes, parts_nodes, operands_are}
use Rattle.template_meaning.proofs.Forms.{stands_alone}

-- ---- Declarators

child_part : (q : Production) (b : Bool) → is_declarator_child q ≡ true → (is_declarator q ≡ true → b ≡ true) → (ghosts.eq q Pointer || (ghosts.eq q Suffix || (is_part q && b))) ≡ true
child_part Pointer b h k = refl
child_part Suffix b h k = refl
child_part Declarator b h k = k refl
child_part Direct b h k = k refl
child_part Pdecl b h k = k refl
child_part Pdirect b h k = k refl
child_part Adecl b h k = k refl
child_part Adirect b h k = k refl
child_part _ b h k = absurd (false≢true h)

parts_fit : (s : Edition) (f : Forest) → EachNode (IsOfAlternative (iso s)) f → all_nodes is_declarator_child (children f) ≡ true → are_parts f ≡ true
parts_fit s none each h = refl
parts_fit s (token i rest) each h = parts_fit s rest each h
parts_fit s (node l first under rest) each h =
    let both_ = and_parts (is_declarator_child l.production) (all_nodes is_declarator_child (children rest)) h in
    and_from (is_node l Pointer || (is_node l Suffix || (is_part l.production && are_parts under))) (are_parts rest)
    (child_part l.production (are_parts under) both_.0 (λ e. parts_fit s under each.1 (declarator_nodes s l under each.0 e)))
    (parts_fit s rest each.2 both_.1)

-- a declarator, or the abstract one of a type name
declaring_part : (q : Production) → (ghosts.eq q Declarator || ghosts.eq q Pdecl) ≡ true → is_declarator q ≡ true
declaring_part Declarator h = refl
declaring_part Pdecl h = refl
declaring_part _ h = absurd (false≢true h)

abstract_part : (q : Production) → is_type_child q ≡ true → not (ghosts.eq q Specs) ≡ true → is_declarator q ≡ true
abstract_part Specs h k = absurd (false≢true k)
abstract_part Adecl h k = refl
abstract_part _ h k = absurd (false≢true h)

type_named : (q : Production) → ghosts.eq q TypeName ≡ true → is_type_name q ≡ true
type_named TypeName h = refl
type_named _ h = absurd (false≢true h)

-- ---- Where statements and bodies stand

-- in a scope: outside functions, or in one
abbrev IsDeep : ℕ → List Child → Type 0
IsDeep depth w = (((depth == 0) ≡ true) × (all_nodes is_outer w ≡ true)) ⊎ ((nat_lt 0 depth ≡ true) × (all_nodes has_no_body w ≡ true))

outer_stands : (q : Production) (depth : ℕ) → (depth == 0) ≡ true → is_outer q ≡ true → stands_in q depth ≡ true
outer_stands Statement depth e h = absurd (false≢true h)
outer_stands Sub depth e h = absurd (false≢true h)
outer_stands FunBody depth e h = e
outer_stands _ depth e h = refl

inner_stands : (q : Production) (depth : ℕ) → nat_lt 0 depth ≡ true → has_no_body q ≡ true → stands_in q depth ≡ true
inner_stands Statement depth e h = e
inner_stands Sub depth e h = e
inner_stands FunBody depth e h = absurd (false≢true h)
inner_stands _ depth e h = refl

head_stands : (q : Production) (w : List Child) (depth : ℕ) → IsDeep depth (a_node q ∷ w) → stands_in q depth ≡ true
head_stands q w depth (inl h) = outer_stands q depth h.0 (and_parts (is_outer q) (all_nodes is_outer w) h.1).0
head_stands q w depth (inr h) = inner_stands q depth h.0 (and_parts (has_no_body q) (all_nodes has_no_body w) h.1).0

tail_deep : (q : Production) (w : List Child) (depth : ℕ) → IsDeep depth (a_node q ∷ w) → IsDeep depth w
tail_deep q w depth (inl h) = inl (h.0, (and_parts (is_outer q) (all_nodes is_outer w) h.1).1)
tail_deep q w depth (inr h) = inr (h.0, (and_parts (has_no_body q) (all_nodes has_no_body w) h.1).1)

deeper : (depth : ℕ) → nat_lt 0 (depth + 1) ≡ true
deeper depth = lt-ltb 0 (depth + 1) (omega arith)

-- a scope is as deep, or deeper
scope_deep : (q : Production) (m : Label) (under : Forest) (scope : Scope) → nat_lt 0 scope.depth ≡ true → nat_lt 0 (scope_in q m under scope).depth ≡ true
scope_deep Block m under scope h = deeper scope.depth
scope_deep FunBody m under scope h = deeper scope.depth
scope_deep Sub m under scope h = deeper scope.depth
scope_deep Suffix m under scope h = by (is_list m)
  where
    by : (c : Bool) → nat_lt 0 (if c then inner scope (last_token under 0) else scope).depth ≡ true
    by true = deeper scope.depth
    by false = h
scope_deep Statement m under scope h = by (is_scoped m.alternative)
  where
    by : (c : Bool) → nat_lt 0 (if c then inner scope (last_token under 0 + 1) else scope).depth ≡ true
    by true = deeper scope.depth
    by false = h
scope_deep _ m under scope h = h

-- outside functions
scope_outer : (q : Production) (m : Label) (under : Forest) (scope : Scope) → (scope.depth == 0) ≡ true → is_outer q ≡ true → is_body q ≡ false
    → (((scope_in q m under scope).depth == 0) ≡ true) ⊎ ((nat_lt 0 (scope_in q m under scope).depth ≡ true) × (has_no_body q ≡ true))
scope_outer Block m under scope h o b = absurd (false≢true o)
scope_outer FunBody m under scope h o b = absurd (false≢true (sym b))
scope_outer Sub m under scope h o b = absurd (false≢true o)
scope_outer Statement m under scope h o b = absurd (false≢true o)
scope_outer Suffix m under scope h o b = by (is_list m)
  where
    by : (c : Bool) → (((if c then inner scope (last_token under 0) else scope).depth == 0) ≡ true) ⊎ ((nat_lt 0 (if c then inner scope (last_token under 0) else scope).depth ≡ true) × (true ≡ true))
    by true = inr (deeper scope.depth, refl)
    by false = inl h
scope_outer _ m under scope h o b = inl h

body_scope : (q : Production) (m : Label) (under : Forest) (scope : Scope) → is_body q ≡ true → nat_lt 0 (scope_in q m under scope).depth ≡ true
body_scope FunBody m under scope h = deeper scope.depth
body_scope _ m under scope h = absurd (false≢true h)

module _ (s : Edition) where
  -- the children of a node in its scope
  below_deep : (m : Label) (under : Forest) (scope : Scope) (w : List Child) → IsOfAlternative (iso s) m under → IsDeep scope.depth (a_node m.production ∷ w)
      → IsDeep (scope_in m.production m under scope).depth (children under)
  below_deep m under scope w x (inr h) =
      inr (scope_deep m.production m under scope h.0, inner_nodes s m under x (and_parts (has_no_body m.production) (all_nodes has_no_body w) h.1).0)
  below_deep m under scope w x (inl h) =
      let outer_ = (and_parts (is_outer m.production) (all_nodes is_outer w) h.1).0 in
      elim (cases_Bool (is_body m.production)) [
        | inl body_ ↦ inr (body_scope m.production m under scope body_, body_nodes s m under x body_)
        | inr other ↦ elim (scope_outer m.production m under scope h.0 outer_ other) [
          | inl same ↦ inl (same, outer_nodes s m under x other outer_)
          | inr more ↦ inr (more.0, inner_nodes s m under x more.1)
        ]
      ]

-- ---- Rest of members

lone_semicolon : (a : Alternative) → Some (plain (tok Semicolon)) ≡ Some a → (w : List Child) → AreOfItem a.body w → (v : List Child) × (w ≡ a_token ∷ v)
lone_semicolon a at w x =
    let same : plain (tok Semicolon) ≡ a = same_Some (plain (tok Semicolon)) a at in
    let own_ : AreOfItem (tok Semicolon) w = subst (λ (b : Alternative). AreOfItem b.body w) (sym same) x in
    ([], own_)

lone_rest : (s : Edition) (a : Alternative) → slice_get ((iso s).table MemRest) 0 ≡ Some a → (w : List Child) → AreOfItem a.body w → (v : List Child) × (w ≡ a_token ∷ v)
lone_rest C99 a at w x = absurd (cc)
lone_rest C11 a at w x = lone_semicolon a at w x

rest_named : (q : Production) → ghosts.eq q MemRest ≡ true → q ≡ MemRest
rest_named MemRest h = refl
rest_named _ h = absurd (false≢true h)

token_first : (f : Forest) (v : List Child) → children f ≡ a_token ∷ v → begins_with_token f ≡ true
token_first none v e = absurd (cc)
token_first (token i rest) v e = refl
token_first (node l first under rest) v e = absurd (cc)

pub rest_begins : (s : Edition) (m : Label) (under : Forest) → IsOfAlternative (iso s) m under → is_at m MemRest 1 ≡ true → begins_with_token under ≡ true
rest_begins s m under x at =
    let both_ = and_parts (is_node m MemRest) (m.alternative == 1) at in
    let named = rest_named m.production both_.0 in
    let number : x.number ≡ 0 = omega (arith, x.numbered, eqb-true m.alternative 1 both_.1) in
    let row : slice_get ((iso s).table MemRest) 0 ≡ Some x.alternative =
    sym (ap (λ (q : Production). slice_get ((iso s).table q) x.number) named ∙ ap (λ (n : ℕ). slice_get ((iso s).table MemRest) n) number) ∙ x.is_one in
    let first = lone_rest s x.alternative row (children under) x.own in
    token_first under first.0 first.1

-- ---- The rest of an external declaration

ext_named : (q : Production) → is_ext_rest q ≡ true → q ≡ ExtRest
ext_named ExtRest h = refl
ext_named _ h = absurd (false≢true h)

ext_untyped : (q : Production) → is_ext_rest q ≡ true → is_type_name q ≡ false
ext_untyped ExtRest h = refl
ext_untyped _ h = absurd (false≢true h)

-- what is known of a node
pub record NodeFits (s : Edition) (lists : ℕ → Bool) (l : Label) (under : Forest) : Type 0 where
  pub of : IsOfAlternative (iso s) l under
  pub bracketed : IsBracketed lists l under
  pub outer : is_ext_rest l.production ≡ true → BodyListIsOuter lists under

pub each_of_fits : (s : Edition) (lists : ℕ → Bool) (f : Forest) → EachNode (NodeFits s lists) f → EachNode (IsOfAlternative (iso s)) f
each_of_fits s lists none each = tt
each_of_fits s lists (token i rest) each = each_of_fits s lists rest each
each_of_fits s lists (node l first under rest) each = (let x = each.0 in x.of, each_of_fits s lists under each.1, each_of_fits s lists rest each.2)

pub body_same : (q : Production) → ghosts.eq q FunBody ≡ is_body q
body_same FunBody = refl
body_same _ = refl

-- where a child is a body there is one
body_there : (f : Forest) → all_nodes (not_these is_body) (children f) ≡ false → has_node FunBody f ≡ true
body_there none h = absurd (false≢true (sym h))
body_there (token i rest) h = body_there rest h
body_there (node l first under rest) h = elim (cases_Bool (is_body l.production)) [
  | inl e ↦ rw (body_same l.production ∙ e) refl
  | inr e ↦ or_by (is_node l FunBody) (has_node FunBody rest) (body_there rest (sym (ap (λ b. not b && all_nodes (not_these is_body) (children rest)) e) ∙ h))
]

or_from_not : (a b : Bool) → (a ≡ true → b ≡ true) → (not a || b) ≡ true
or_from_not true b f = f refl
or_from_not false b f = refl

module _ (s : Edition) (lists : ℕ → Bool) where
  -- a child of a node
  child_fits : (l : Label) (mine : Bool) (k : ℕ) (scope : Scope) (keeps : Bool) (m : Label) (under : Forest) (w : List Child)
      → signs l mine k (a_node m.production ∷ w) ≡ true → IsDeep scope.depth (a_node m.production ∷ w)
      → (is_body m.production ≡ true → keeps ≡ true) → (is_type_name l.production ≡ true → is_type_child m.production ≡ true)
      → NodeFits s lists m under → EachNode (NodeFits s lists) under → is_fit_child lists l mine k scope keeps m under ≡ true
  child_fits l mine k scope keeps m under w sign deep_ kept typed_ x each =
      and_from (mine || not (asks_sign l k m)) _
      (ap (λ b. mine || not ((is_at l Unary 1 || (is_node l Add && not (k == 0))) || b)) (rest_same m.production)
      ∙ (and_parts (mine || not ((is_at l Unary 1 || (is_node l Add && not (k == 0))) || is_rest m.production)) (signs l mine (k + 1) w) sign).0)
      (and_from (stands_in m.production scope.depth) _ (head_stands m.production w scope.depth deep_)
      (and_from (not (is_node m FunBody) || keeps) _ (or_from_not (is_node m FunBody) keeps (λ e. kept (sym (body_same m.production) ∙ e)))
      (and_from (not (declares_type l m) || are_parts under) _ (or_from_not (declares_type l m) (are_parts under) parts)
      (and_from (not (is_at m MemRest 1) || begins_with_token under) _ (or_from_not (is_at m MemRest 1) (begins_with_token under) (rest_begins s m under x.of))
      (or_from_not (is_among lists m under) (is_bracketed under) x.bracketed)))))
    where
      is_declaring : declares_type l m ≡ true → is_declarator m.production ≡ true
      is_declaring h = elim (or_cases (is_node m Declarator || is_node m Pdecl) (is_node l TypeName && not (is_node m Specs)) h) [
        | inl named ↦ declaring_part m.production named
        | inr type_ ↦
            let both_ = and_parts (is_node l TypeName) (not (is_node m Specs)) type_ in
            abstract_part m.production (typed_ (type_named l.production both_.0)) both_.1
      ]

      parts : declares_type l m ≡ true → are_parts under ≡ true
      parts h = parts_fit s under (each_of_fits s lists under each) (declarator_nodes s m under x.of (is_declaring h))

  -- ---- What stands below

  abbrev pub RestIs : List Child → Type 0
  RestIs w = (w ≡ a_token ∷ []) ⊎ (w ≡ a_node Declarator ∷ (a_node ExtTail ∷ []))

  no_body_here : (q : Production) → is_body q ≡ false → (keeps : Bool) → is_body q ≡ true → keeps ≡ true
  no_body_here q e keeps h = absurd (false≢true (sym e ∙ h))

  no_type_here : (q r : Production) → is_type_name q ≡ false → is_type_name q ≡ true → is_type_child r ≡ true
  no_type_here q r e h = absurd (false≢true (sym e ∙ h))

  pub rest_shape : (m : Label) (under : Forest) → IsOfAlternative (iso s) m under → m.production ≡ ExtRest → RestIs (children under)
  rest_shape m under x named = by x.number x.alternative (sym (ap (λ (q : Production). slice_get ((iso s).table q) x.number) named) ∙ x.is_one) x.own
    where
      two : AreOfItem (part Declarator · (act declare · (act again · part ExtTail))) (children under) → children under ≡ a_node Declarator ∷ (a_node ExtTail ∷ [])
      two (xs, ys, all, (q, first, stands), (xs1, ys1, all1, none1, (xs2, ys2, all2, none2, (r, last, ends)))) =
          let q_is = stands_alone Declarator q refl stands in
          let r_is = stands_alone ExtTail r refl ends in
          let behind : ys ≡ a_node r ∷ [] = all1 ∙ (ap (λ (w : List Child). w ++ ys1) none1 ∙ (all2 ∙ (ap (λ (w : List Child). w ++ ys2) none2 ∙ last))) in
          all ∙ (ap (λ (w : List Child). w ++ ys) first ∙ (ap (λ (w : List Child). a_node q ∷ w) behind
          ∙ (ap (λ (p : Production). a_node p ∷ (a_node r ∷ [])) q_is ∙ ap (λ (p : Production). a_node Declarator ∷ (a_node p ∷ [])) r_is)))

      by : (n : ℕ) (a : Alternative) → slice_get ((iso s).table ExtRest) n ≡ Some a → AreOfItem a.body (children under)
          → (children under ≡ a_token ∷ []) ⊎ (children under ≡ a_node Declarator ∷ (a_node ExtTail ∷ []))
      by zero a at y = let same = same_Some (plain (tok Semicolon)) a at in inl (subst (λ (b : Alternative). AreOfItem b.body (children under)) (sym same) y)
      by (suc zero) a at y =
          let same = same_Some (plain (part Declarator · (act declare · (act again · part ExtTail)))) a at in
          inr (two (subst (λ (b : Alternative). AreOfItem b.body (children under)) (sym same) y))
      by (suc (suc n)) a at y = absurd (cc)

  pub tail_shape : (t : Label) (under : Forest) → IsOfAlternative (iso s) t under → t.production ≡ ExtTail → all_nodes (not_these is_body) (children under) ≡ false
      → children under ≡ a_node FunBody ∷ []
  tail_shape t under x named some = by x.number x.alternative (sym (ap (λ (q : Production). slice_get ((iso s).table q) x.number) named) ∙ x.is_one) x.own
    where
      one_body : AreOfItem (part FunBody) (children under) → children under ≡ a_node FunBody ∷ []
      one_body (q, first, stands) = first ∙ ap (λ (p : Production). a_node p ∷ []) (stands_alone FunBody q refl stands)

      by : (n : ℕ) (a : Alternative) → slice_get ((iso s).table ExtTail) n ≡ Some a → AreOfItem a.body (children under) → children under ≡ a_node FunBody ∷ []
      by zero a at y =
          let same = same_Some (when (next (either (is (LeftBrace ∷ [])) (begins_with Specs))) (part FunBody)) a at in
          one_body (subst (λ (b : Alternative). AreOfItem b.body (children under)) (sym same) y)
      by (suc zero) a at y =
          let same = same_Some _ a at in
          let free : parts_all (not_these is_body) a.body ≡ true = sym (ap (λ (b : Alternative). parts_all (not_these is_body) b.body) same) in
          absurd (false≢true (sym some ∙ parts_nodes (not_these is_body) (operands_are (not_these is_body) refl) a.body free (children under) y))
      by (suc (suc n)) a at y = absurd (cc)

  mutual
    fit : (f : Forest) (l : Label) (mine : Bool) (k : ℕ) (scope : Scope) (keeps : Bool) → EachNode (NodeFits s lists) f → signs l mine k (children f) ≡ true → IsDeep scope.depth (children f)
        → (is_type_name l.production ≡ true → all_nodes is_type_child (children f) ≡ true) → all_nodes (not_these is_body) (children f) ≡ true
        → all_nodes (not_these is_ext_tail) (children f) ≡ true → is_fit lists l mine k scope keeps f ≡ true
    fit none l mine k scope keeps each sign deep_ types bodies tails = refl
    fit (token i rest) l mine k scope keeps each sign deep_ types bodies tails = fit rest l (not (is_items l)) (k + 1) scope keeps each sign deep_ types bodies tails
    fit (node m first under rest) l mine k scope keeps each sign deep_ types bodies tails =
        let x = each.0 in
        let b = and_parts (not (is_body m.production)) (all_nodes (not_these is_body) (children rest)) bodies in
        let t = and_parts (not (is_ext_tail m.production)) (all_nodes (not_these is_ext_tail) (children rest)) tails in
        let sg = and_parts (mine || not ((is_at l Unary 1 || (is_node l Add && not (k == 0))) || is_rest m.production)) (signs l mine (k + 1) (children rest)) sign in
        let inside = below_deep s m under scope (children rest) x.of deep_ in
        and_from (is_fit_child lists l mine k scope keeps m under) _
        (child_fits l mine k scope keeps m under (children rest) sign deep_ (no_body_here m.production (not_is (is_body m.production) b.0) keeps)
        (λ h. (and_parts (is_type_child m.production) (all_nodes is_type_child (children rest)) (types h)).0) x each.1)
        (and_from (is_fit lists m false 0 (scope_in m.production m under scope) keeps under) _
        (elim (cases_Bool (is_ext_rest m.production)) [
          | inl e ↦ fit_ext under m (scope_in m.production m under scope) keeps (rest_shape m under x.of (ext_named m.production e)) each.1 (signs_of s m under x.of) inside (x.outer e)
              (ext_untyped m.production e)
          | inr e ↦ fit under m false 0 (scope_in m.production m under scope) keeps each.1 (signs_of s m under x.of) inside (type_nodes s m under x.of)
              (no_bodies s m under x.of (not_is (is_ext_tail m.production) t.0)) (no_tails s m under x.of e)
        ])
        (fit rest l mine (k + 1) scope (if is_node m Declarator then has_outer_list lists false under else keeps) each.2 sg.1 (tail_deep m.production (children rest) scope.depth deep_)
        (λ h. (and_parts (is_type_child m.production) (all_nodes is_type_child (children rest)) (types h)).1) b.1 t.1))

    fit_ext : (f : Forest) (m : Label) (scope : Scope) (keeps : Bool) → RestIs (children f) → EachNode (NodeFits s lists) f → signs m false 0 (children f) ≡ true → IsDeep scope.depth (children f)
        → BodyListIsOuter lists f → is_type_name m.production ≡ false → is_fit lists m false 0 scope keeps f ≡ true
    fit_ext none m scope keeps shape each sign deep_ outer_ untyped = refl
    fit_ext (token i none) m scope keeps shape each sign deep_ outer_ untyped = refl
    fit_ext (token i (token j rest)) m scope keeps (inl e) each sign deep_ outer_ untyped = absurd (cc)
    fit_ext (token i (token j rest)) m scope keeps (inr e) each sign deep_ outer_ untyped = absurd (cc)
    fit_ext (token i (node d first under rest)) m scope keeps (inl e) each sign deep_ outer_ untyped = absurd (cc)
    fit_ext (token i (node d first under rest)) m scope keeps (inr e) each sign deep_ outer_ untyped = absurd (cc)
    fit_ext (node d first under none) m scope keeps (inl e) each sign deep_ outer_ untyped = absurd (cc)
    fit_ext (node d first under none) m scope keeps (inr e) each sign deep_ outer_ untyped = absurd (cc)
    fit_ext (node d first under (token j rest)) m scope keeps (inl e) each sign deep_ outer_ untyped = absurd (cc)
    fit_ext (node d first under (token j rest)) m scope keeps (inr e) each sign deep_ outer_ untyped = absurd (cc)
    fit_ext (node d first under (node t second tail (token j rest))) m scope keeps (inl e) each sign deep_ outer_ untyped = absurd (cc)
    fit_ext (node d first under (node t second tail (token j rest))) m scope keeps (inr e) each sign deep_ outer_ untyped = absurd (cc)
    fit_ext (node d first under (node t second tail (node o third list rest))) m scope keeps (inl e) each sign deep_ outer_ untyped = absurd (cc)
    fit_ext (node d first under (node t second tail (node o third list rest))) m scope keeps (inr e) each sign deep_ outer_ untyped = absurd (cc)
    fit_ext (node d first under (node t second tail none)) m scope keeps (inl e) each sign deep_ outer_ untyped = absurd (cc)
    fit_ext (node d first under (node t second tail none)) m scope keeps (inr e) each sign deep_ outer_ untyped =
        let d_is : d.production ≡ Declarator = cc in
        let t_is : t.production ≡ ExtTail = cc in
        let x = each.0 in
        let y = each.2.0 in
        let kept : Bool = if is_node d Declarator then has_outer_list lists false under else keeps in
        let sg = and_parts (not ((is_at m Unary 1 || (is_node m Add && not (0 == 0))) || is_rest d.production)) (signs m false 1 (a_node t.production ∷ [])) sign in
        let later = tail_deep d.production (a_node t.production ∷ []) scope.depth deep_ in
        let own_deep = below_deep s d under scope (a_node t.production ∷ []) x.of deep_ in
        let tail_inside = below_deep s t tail scope [] y.of later in
        and_from (is_fit_child lists m false 0 scope keeps d under) _
        (child_fits m false 0 scope keeps d under (a_node t.production ∷ []) sign deep_ (no_body_here d.production (ap is_body d_is) keeps) (no_type_here m.production d.production untyped) x each.1)
        (and_from (is_fit lists d false 0 (scope_in d.production d under scope) keeps under) _
        (fit under d false 0 (scope_in d.production d under scope) keeps each.1 (signs_of s d under x.of) own_deep (type_nodes s d under x.of)
        (no_bodies s d under x.of (ap is_ext_tail d_is)) (no_tails s d under x.of (ap is_ext_rest d_is)))
        (and_from (is_fit_child lists m false 1 scope kept t tail) _
        (child_fits m false 1 scope kept t tail [] sg.1 later (no_body_here t.production (ap is_body t_is) kept) (no_type_here m.production t.production untyped) y each.2.1)
        (and_from (is_fit lists t false 0 (scope_in t.production t tail scope) kept tail) true
        (elim (cases_Bool (all_nodes (not_these is_body) (children tail))) [
          | inl free ↦ fit tail t false 0 (scope_in t.production t tail scope) kept each.2.1 (signs_of s t tail y.of) tail_inside (type_nodes s t tail y.of) free
              (no_tails s t tail y.of (ap is_ext_rest t_is))
          | inr some ↦ fit_tail tail t (scope_in t.production t tail scope) kept
              (ap (λ (q : Production). if ghosts.eq q Declarator then has_outer_list lists false under else keeps) d_is ∙ outer_ (body_there tail some))
              (tail_shape t tail y.of t_is some) each.2.1 (signs_of s t tail y.of) tail_inside (ap is_type_name t_is)
        ])
        refl)))

    fit_tail : (f : Forest) (t : Label) (scope : Scope) (keeps : Bool) → keeps ≡ true → children f ≡ a_node FunBody ∷ [] → EachNode (NodeFits s lists) f → signs t false 0 (children f) ≡ true
        → IsDeep scope.depth (children f) → is_type_name t.production ≡ false → is_fit lists t false 0 scope keeps f ≡ true
    fit_tail none t scope keeps kept e each sign deep_ untyped = absurd (cc)
    fit_tail (token i rest) t scope keeps kept e each sign deep_ untyped = absurd (cc)
    fit_tail (node b first under (token j rest)) t scope keeps kept e each sign deep_ untyped = absurd (cc)
    fit_tail (node b first under (node d second list rest)) t scope keeps kept e each sign deep_ untyped = absurd (cc)
    fit_tail (node b first under none) t scope keeps kept e each sign deep_ untyped =
        let b_is : b.production ≡ FunBody = cc in
        let x = each.0 in
        and_from (is_fit_child lists t false 0 scope keeps b under) _
        (child_fits t false 0 scope keeps b under [] sign deep_ (λ h. kept) (no_type_here t.production b.production untyped) x each.1)
        (and_from (is_fit lists b false 0 (scope_in b.production b under scope) keeps under) true
        (fit under b false 0 (scope_in b.production b under scope) keeps each.1 (signs_of s b under x.of) (below_deep s b under scope [] x.of deep_) (type_nodes s b under x.of)
        (no_bodies s b under x.of (ap is_ext_tail b_is)) (no_tails s b under x.of (ap is_ext_rest b_is)))
        refl)

  pub tree_fits : (tree : Node) (scope : Scope) → tree.label.production ≡ TranslationUnit → scope.depth ≡ 0 → IsOfAlternative (iso s) tree.label tree.under
      → EachNode (NodeFits s lists) tree.under → is_fit lists (record { production = TranslationUnit; alternative = 1 }) true 0 scope true tree.under ≡ true
  tree_fits tree scope named flat x each =
      fit tree.under (record { production = TranslationUnit; alternative = 1 }) true 0 scope true each
      (signs_behind (record { production = TranslationUnit; alternative = 1 }) refl 0 (children tree.under))
      (inl (eq-eqb scope.depth 0 flat, outer_nodes s tree.label tree.under x (ap is_body named) (ap is_outer named)))
      (λ h. absurd (false≢true h)) (no_bodies s tree.label tree.under x (ap is_ext_tail named)) (no_tails s tree.label tree.under x (ap is_ext_rest named))

ext_is : (q : Production) → is_ext_rest q ≡ true → ghosts.eq q ExtRest ≡ true
ext_is ExtRest h = refl
ext_is _ h = absurd (false≢true h)

all_fit : (s : Edition) (lists : ℕ → Bool) (f : Forest) → EachNode (IsOfAlternative (iso s)) f → EachNode (IsBracketed lists) f → EachNode (HasOuterList lists) f
    → EachNode (NodeFits s lists) f
all_fit s lists none of brackets outers = tt
all_fit s lists (token i rest) of brackets outers = all_fit s lists rest of brackets outers
all_fit s lists (node l first under rest) of brackets outers = (
  record { of = of.0; bracketed = brackets.0; outer = λ e. outers.0 (ext_is l.production e) },
  all_fit s lists under of.1 brackets.1 outers.1,
  all_fit s lists rest of.2 brackets.2 outers.2,
)

pub trees_have_forms : TreesHaveForms
trees_have_forms s toks tree lists e brackets outers =
    let unit = children_of_alternatives s toks tree e in
    let whole = unit.1 in
    tree_fits s lists tree (outermost (length toks)).scope unit.0 refl whole.0 (all_fit s lists tree.under whole.1 brackets outers)
