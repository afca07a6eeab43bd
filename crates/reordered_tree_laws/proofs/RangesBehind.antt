-- Where the ranges end that a part like an item adds: not in front of the part, or with the scope around it.
use Rattle.std.proofs.Common.{ℕ, ◌+◌, ◌≤◌, ◌≡◌, Bool, true, false, ◌&&◌, ◌||◌, not, if◌then◌else◌, ◌==◌, List, [], ◌∷◌, Option, None, Some, ◌⊎◌, inl, inr, refl, sym, ap, subst, ◌∙◌, arith}
use Rattle.std.specs.Prelude.{◌%◌, is_some, nat_lt}
use Rattle.std.specs.List.{All}
use Rattle.std.specs.Option.{option_map_or}
use Rattle.std.proofs.lemmas.Bool.{false≢true, cases_Bool, and_parts, ltb-true, ltb-false}
use Rattle.std.proofs.lemmas.List.Elements.{All-cons, All-weaker, All-append}
use Rattle.cs_base.specs.Token.{Token}
use Rattle.cs_base.proofs.BoolLemmas.{both_true, not_true as not_false, or_other as or_false, or_met}
use Rattle.c99_tree.specs.Tree.{Forest, none, token, node}
use Rattle.c99_tree.specs.declared.production.Label.{Label}
use Rattle.c99_tree.specs.declared.production.Production.{Production}
use Rattle.c99_tree.specs.declared.production.Production.TheVariants.{ExtRest, InitDecl, FunBody, Main, Params, Primary, Post, Designator, SuRest, EnRest, Members, MemRest, Mdecl, Enumerators, Enumerator, Declarator, Param, Pdecl, Statement, Suffix, Block, Sub}
use Rattle.c_types.specs.declared.entity.EntityKind.TheVariants.{Typedef, Parameter, Enumerator as Constant}
use Rattle.c_types.specs.declared.declarations.Space.TheVariants.{Ordinary, Tags}
use Rattle.c_types.specs.Types.{CType, arithmetic, adjusted, is_unknown, target_of}
use Rattle.c_types.specs.Trees.{is_node, is_at, is_list, name_below, last_token, declarator_type}
use Rattle.c_types.specs.Tags.{number_in, renumbered, is_same_tag, tag_entity, is_declaring, tag_declaration, tag_named, prior_tag, with_tag, is_complete, is_sort, enumeration_used}
use Rattle.c_types.specs.Declarations.{Facts, has_linkage, with_fault, with_use, with_declaration, with_begun, visible, in_scope, anywhere, linked, is_mixed}
use Rattle.name_chains.specs.Frames.{State}
use Rattle.name_chains.specs.Entering.{inner, is_scoped, is_member, scope_in, facts_in, entered}
use Rattle.name_chains.specs.Members.{with_silent, member_declaration, unnamed_declaration, lifted, found_of, with_member, with_lifted, with_anonymous, member_at, member_used_as, member_used}
use Rattle.scope_bind.specs.Named.{Space, Cause, Declaration, Declared, Occurrence, Body, Frame, Scope, undeclared, redeclared, tag_redefined, mixed_linkage, designator_after_elision, ordinary, tags, members}
use Rattle.scope_bind.specs.Ordinary.{is_again, entity_of, is_listed, declaration_of, declared, used_as, used, is_func, plain_name, with_parameter}
use Rattle.scope_bind.specs.Roles.{role_if, role_of}
use Rattle.scope_bind.specs.Walk.{facts_at, passed, declared_in, parameter_in, facts_after, left, walked}
use Rattle.scope_bind.proofs.ScopeLemmas.{deeper}
use Rattle.tree_laws.specs.TreesOfTexts.{token_count, AreFrom, has_form, have_forms}
use Rattle.tree_laws.proofs.TokenEnds.{begins_some}
use Rattle.reordered_tree_laws.specs.Adding.{has_no_list, within_of, is_adding_token, is_adding_declarator, is_adding_node, is_adding, IsNamedIn, IsAddedIn}
use Rattle.reordered_tree_laws.specs.Ranges.{has_range}
use Rattle.reordered_tree_laws.proofs.OnlyAdding.{name_in, adds_after, adds_walk}
use Rattle.reordered_tree_laws.specs.Premises.{is_scope, is_quiet_child, is_quiet}
use Rattle.reordered_tree_laws.specs.Lasting.{tags_pass, IsLast}
use Rattle.reordered_tree_laws.proofs.Quiet.{noted_before, quiet_token, quiet_enter, quiet_after, list_ends, same_scope}
use Rattle.reordered_tree_laws.proofs.SiblingsApart.{last_low, list_deeper}

no_range : {X : Type 0} → false ≡ true → X
no_range e = absurd (false≢true e)

no_member : (s : Space) → has_range s ≡ true → is_member s ≡ false
no_member Ordinary e = refl
no_member Tags e = refl
no_member _ e = absurd (false≢true e)

-- ---- What a step adds

-- Of declarations in a scope may be said what is so of those that end with it and stand in it, and of all that have no range.
module _ (toks : List Token) (Good : Declaration → Type 0) (around : Scope)
    (plain : (d : Declaration) → (has_range d.space ≡ true → (d.to ≡ around.to) × (d.depth ≡ around.depth)) → Good d) where
  abbrev pub AllGood : Facts → Type 0
  AllGood f = All Good f.declared

  good_fault : (c : Bool) (cause : Cause) (i : ℕ) (f : Facts) → AllGood f → AllGood (with_fault c cause i f)
  good_fault true cause i f a = a
  good_fault false cause i f a = a

  good_used : (i : ℕ) (r : Option Declaration) (f : Facts) → AllGood f → AllGood (used_as toks i r f)
  good_used i None f a = a
  good_used i (Some d) f a = a

  good_either : (c : Bool) (f g : Facts) → AllGood f → AllGood g → AllGood (if c then f else g)
  good_either true f g a b = a
  good_either false f g a b = b

  good_tag_named : (fr : Frame) (i e u : ℕ) (f : Facts) (declares begins : Bool) → fr.scope ≡ around → AllGood f
      → AllGood (if declares then with_begun begins e (with_declaration (tag_declaration fr.scope i e (renumbered fr.found e)) f) else with_use i u f)
  good_tag_named fr i e u f false begins same a = a
  good_tag_named fr i e u f true false same a = All-cons Good (tag_declaration fr.scope i e (renumbered fr.found e)) f.declared
      (plain (tag_declaration fr.scope i e (renumbered fr.found e)) (λ r. (ap (λ (x : Scope). x.to) same, ap (λ (x : Scope). x.depth) same))) a
  good_tag_named fr i e u f true true same a = All-cons Good (tag_declaration fr.scope i e (renumbered fr.found e)) f.declared
      (plain (tag_declaration fr.scope i e (renumbered fr.found e)) (λ r. (ap (λ (x : Scope). x.to) same, ap (λ (x : Scope). x.depth) same))) a

  good_tag : (fr : Frame) (i : ℕ) (f : Facts) → fr.scope ≡ around → AllGood f → AllGood (with_tag toks fr i f)
  good_tag fr i f same a =
      let r : Option Declaration = prior_tag toks fr i f in
      let e : ℕ = tag_entity fr i f r in
      let wrong : Bool = option_map_or (λ d. not (is_same_tag fr f d)) r false in
      good_fault wrong tag_redefined i (tag_named fr i r e f)
      (good_tag_named fr i e (option_map_or (λ d. d.entity) r i) f (is_declaring fr r) fr.has_body same a)

  good_enumeration : (fr : Frame) (i : ℕ) (r : Option Declaration) (f : Facts) → AllGood f → AllGood (enumeration_used fr i r f)
  good_enumeration fr i None f a = a
  good_enumeration fr i (Some d) f a =
      good_fault (not (is_complete f d)) undeclared i (with_fault (not (is_sort d.ctype fr.found)) tag_redefined i f)
      (good_fault (not (is_sort d.ctype fr.found)) tag_redefined i f a)

  good_member_used : (i : ℕ) (r : Option Declaration) (f : Facts) → AllGood f → AllGood (member_used_as toks i r f)
  good_member_used i None f a = a
  good_member_used i (Some d) f a = a

  good_designated : (c : Bool) (t : CType) (i : ℕ) (f : Facts) → AllGood f
      → AllGood (if c then with_fault true designator_after_elision i f else member_used toks t i f)
  good_designated true t i f a = a
  good_designated false t i f a = good_member_used i (member_at toks t i f) f a

  good_member : (fr : Frame) (under : Forest) (name : Option ℕ) (f : Facts) → AllGood f → AllGood (with_member toks fr under name f)
  good_member fr under None f a = a
  good_member fr under (Some i) f a =
      let g : Facts = with_fault (is_some (anywhere toks (members fr.owner) i f)) redeclared i f in
      All-cons Good (member_declaration fr i (last_token under i) (declarator_type fr.base under)) g.declared
      (plain (member_declaration fr i (last_token under i) (declarator_type fr.base under)) no_range)
      (good_fault (is_some (anywhere toks (members fr.owner) i f)) redeclared i f a)

  good_lifted : (owner : ℕ) (ds : List Declaration) (f : Facts) → AllGood f → AllGood (with_lifted toks owner ds f)
  good_lifted owner [] f a = a
  good_lifted owner (d ∷ ds) f a =
      let wrong : Bool = is_some (anywhere toks (members owner) d.name_at f) in
      let f1 : Facts = with_fault wrong redeclared d.name_at f in
      good_lifted owner ds (with_silent (lifted owner d) f1) (All-cons Good (lifted owner d) f1.declared (plain (lifted owner d) no_range) (good_fault wrong redeclared d.name_at f a))

  good_anonymous : (fr : Frame) (i : ℕ) (f : Facts) (c : Bool) → AllGood f
      → AllGood (if c then with_silent (unnamed_declaration fr i) (with_lifted toks fr.owner (found_of (number_in fr.base) f) f) else f)
  good_anonymous fr i f false a = a
  good_anonymous fr i f true a =
      All-cons Good (unnamed_declaration fr i) (with_lifted toks fr.owner (found_of (number_in fr.base) f) f).declared (plain (unnamed_declaration fr i) no_range)
      (good_lifted fr.owner (found_of (number_in fr.base) f) f a)

  good_declared : (scope : Scope) (n : Declared) (f : Facts) → scope ≡ around → AllGood f → AllGood (declared toks scope n f)
  good_declared scope n f same a =
      let r : Option Declaration = in_scope toks ordinary scope.depth n.name_at n.last f in
      let mixed : Bool = has_linkage n.linkage && is_mixed toks n.linkage n.name_at f in
      let f1 : Facts = with_fault mixed mixed_linkage n.name_at f in
      let again : Bool = option_map_or (λ d. not (is_again n d)) r false in
      let f2 : Facts = with_fault again redeclared n.name_at f1 in
      let listed : Bool = n.listing && not (is_listed n r) in
      let f3 : Facts = with_fault listed undeclared n.name_at f2 in
      let d : Declaration = declaration_of scope n (entity_of n r (linked toks n.name_at f)) (n.listed || is_listed n r) in
      All-cons Good d f3.declared (plain d (λ r. (ap (λ (x : Scope). x.to) same, ap (λ (x : Scope). x.depth) same)))
      (good_fault listed undeclared n.name_at f2 (good_fault again redeclared n.name_at f1 (good_fault mixed mixed_linkage n.name_at f a)))

  good_parameter_by : (scope : Scope) (i last : ℕ) (t : CType) (f : Facts) (c : Bool) → scope ≡ around → AllGood f
      → AllGood (declared toks scope (if c then plain_name toks i last Typedef t false else plain_name toks i last Parameter (adjusted t) false) f)
  good_parameter_by scope i last t f true same a = good_declared scope (plain_name toks i last Typedef t false) f same a
  good_parameter_by scope i last t f false same a = good_declared scope (plain_name toks i last Parameter (adjusted t) false) f same a

  good_parameter : (fr : Frame) (under : Forest) (name : Option ℕ) (f : Facts) → fr.scope ≡ around → AllGood f → AllGood (with_parameter toks fr under name f)
  good_parameter fr under None f same a = a
  good_parameter fr under (Some i) f same a =
      good_parameter_by fr.scope i (last_token under i) (declarator_type fr.base under) f fr.words.has_typedef same a

  -- ---- A token

  good_token : (fr : Frame) (i : ℕ) (f : Facts) (p : Production) (x n : ℕ) → is_adding_token (λ j. true) p ≡ true → fr.scope ≡ around
      → AllGood f → AllGood (facts_at toks (role_of p x n) i fr f)
  good_token fr i f p x n adds same a = by p adds
    where
      primary : (c : Bool) → AllGood (facts_at toks (role_if c (role_of Primary 1 0)) i fr f)
      primary false = a
      primary true = good_either (is_func toks fr i) f (used toks i f) a (good_used i (visible toks ordinary i i f) f a)

      type_name : (c : Bool) → AllGood (facts_at toks (role_if c (role_of Main 4 0)) i fr f)
      type_name false = a
      type_name true = good_used i (visible toks ordinary i i f) f a

      tag : (c : Bool) → AllGood (facts_at toks (role_if c (role_of SuRest 1 0)) i fr f)
      tag true = good_tag fr i f same a
      tag false = a

      enumeration : (c : Bool) → AllGood (facts_at toks (role_if c (role_of EnRest 1 0)) i fr f)
      enumeration true =
          good_either fr.has_body (with_tag toks fr i f) (enumeration_used fr i (visible toks tags i i f) f) (good_tag fr i f same a)
          (good_enumeration fr i (visible toks tags i i f) f a)
      enumeration false = a

      named : (c : Bool) → AllGood (facts_at toks (role_if c (role_of Params 1 0)) i fr f)
      named true = good_declared fr.scope (plain_name toks i i Parameter arithmetic true) f same a
      named false = a

      member : (c d : Bool) → AllGood (facts_at toks (if c then role_of Post 3 1 else role_if d (role_of Post 4 1)) i fr f)
      member true d = good_member_used i (member_at toks fr.given i f) f a
      member false true = good_member_used i (member_at toks (target_of fr.given) i f) f a
      member false false = a

      designator : (c : Bool) → AllGood (facts_at toks (role_if c (role_of Designator 1 1)) i fr f)
      designator false = a
      designator true = good_designated (is_unknown fr.given) fr.given i f a

      by : (q : Production) → is_adding_token (λ j. true) q ≡ true → AllGood (facts_at toks (role_of q x n) i fr f)
      by Primary e = primary (x == 1)
      by Main e = type_name ((x == 4) && (n == 0))
      by SuRest e = tag ((x == 1) && (n == 0))
      by EnRest e = enumeration ((x == 1) && (n == 0))
      by Params e = named ((x == 1) && (n % 2 == 0))
      by Post e = member ((x == 3) && (n == 1)) ((x == 4) && (n == 1))
      by Designator e = designator ((x == 1) && (n == 1))
      by Statement e = absurd (false≢true e)
      by _ e = a

  -- ---- A node

  good_declarator : (p : Production) (within : Bool) (fr : Frame) (l : Label) (under : Forest) (f : Facts)
      → is_adding_declarator (λ i. true) p within l under ≡ true → AllGood f → AllGood (declared_in toks p fr l under f)
  good_declarator ExtRest within fr l under f e a = absurd (false≢true e)
  good_declarator InitDecl within fr l under f e a = absurd (false≢true e)
  good_declarator Mdecl within fr l under f e a = good_member fr under (name_below l under) f a
  good_declarator _ within fr l under f e a = a

  good_parameter_in : (p : Production) (fr : Frame) (l : Label) (under : Forest) (f : Facts) → fr.scope ≡ around → AllGood f → AllGood (parameter_in toks p fr l under f)
  good_parameter_in Param fr l under f same a = good_parameter fr under (name_below l under) f same a
  good_parameter_in _ fr l under f same a = a

  good_after : (p : Production) (within : Bool) (fr : Frame) (l : Label) (first : ℕ) (under : Forest) (body : Option Body) (f : Facts) → fr.scope ≡ around
      → is_adding_node (λ i. true) p fr.label within l under ≡ true → AllGood f → AllGood (facts_after toks p first fr l under body f)
  good_after Declarator within fr l first under body f same e a = good_declarator fr.label.production within fr l under f e a
  good_after Pdecl within fr l first under body f same e a = good_parameter_in fr.label.production fr l under f same a
  good_after Enumerator within fr l first under body f same e a =
      good_declared fr.scope (plain_name toks first (last_token under first) Constant arithmetic false) f same a
  good_after MemRest within fr l first under body f same e a = by (l.alternative == 1)
    where
      by : (b : Bool) → AllGood (if b then with_anonymous toks fr first f else f)
      by true = good_anonymous fr first f fr.words.anonymous a
      by false = a
  good_after Members within fr l first under body f same e a = a
  good_after Enumerators within fr l first under body f same e a = a
  good_after FunBody within fr l first under body f same e a = absurd (false≢true e)
  good_after _ within fr l first under body f same e a = a

  good_enter : (p : Production) (within : Bool) (first : ℕ) (l : Label) (under : Forest) (fr : Frame) (f : Facts) → is_adding_node (λ i. true) p fr.label within l under ≡ true
      → AllGood f → AllGood (facts_in p first under fr f)
  good_enter FunBody within first l under fr f e a = absurd (false≢true e)
  good_enter _ within first l under fr f e a = a

-- ---- The walk

-- a part with a token has its last token in it
last_from : (f : Forest) (lo k : ℕ) → AreFrom lo f → 1 ≤ token_count f → lo ≤ last_token f k
last_from none lo k w some = absurd (omega (arith, some))
last_from (token i rest) lo k w some = last_low rest (lo + 1) i lo w.1 (omega arith) (omega (arith, w.0))
last_from (node l first under rest) lo k w some = elim (cases_Bool (nat_lt 0 (token_count under))) [
  | inl e ↦ last_low rest (lo + token_count under) (last_token under k) lo w.2 (omega arith) (last_from under lo k w.1 (omega (arith, ltb-true 0 (token_count under) e)))
  | inr e ↦
      let none_here : token_count under ≤ 0 = ltb-false 0 (token_count under) e in
      let there : lo + token_count under ≤ last_token rest (last_token under k) =
      last_from rest (lo + token_count under) (last_token under k) w.2 (omega (arith, some, none_here)) in
      omega (arith, there)
]

-- a scope inside another one ends there, or not in front of its last token
scope_ends : (p : Production) (l : Label) (under : Forest) (scope : Scope) → ((scope_in p l under scope).to ≡ scope.to) ⊎ (last_token under 0 ≤ (scope_in p l under scope).to)
scope_ends Block l under scope = inr (omega arith)
scope_ends FunBody l under scope = inr (omega arith)
scope_ends Sub l under scope = inr (omega arith)
scope_ends Suffix l under scope = by (is_list l)
  where
    by : (c : Bool) → ((if c then inner scope (last_token under 0) else scope).to ≡ scope.to) ⊎ (last_token under 0 ≤ (if c then inner scope (last_token under 0) else scope).to)
    by true = inr (omega arith)
    by false = inl refl
scope_ends Statement l under scope = by (is_scoped l.alternative)
  where
    by : (c : Bool)
        → ((if c then inner scope (last_token under 0 + 1) else scope).to ≡ scope.to) ⊎ (last_token under 0 ≤ (if c then inner scope (last_token under 0 + 1) else scope).to)
    by true = inr (omega arith)
    by false = inl refl
scope_ends _ l under scope = inl refl

-- a declaration with a range was there before, or ends not in front of a token or with a scope, and stands so deep in scopes
abbrev Far : (Declaration → Type 0) → ℕ → ℕ → ℕ → Declaration → Type 0
Far P low deep end d = has_range d.space ≡ true → P d ⊎ (((low ≤ d.to) ⊎ (d.to ≡ end)) × (deep ≤ d.depth))

-- .. or it ends so in a scope inside this one, or may last in this one, with which it ends
abbrev pub Near : (Declaration → Type 0) → ℕ → (ℕ → Bool) → Scope → Declaration → Type 0
Near P low lasting around d =
    has_range d.space ≡ true → P d ⊎ (((low ≤ d.to) × (around.depth + 1 ≤ d.depth)) ⊎ (IsLast lasting around.depth d × (d.to ≡ around.to)))

-- a part without a token declares no name with a range
nothing_named : (G : Declaration → Type 0) (at hi : ℕ) (f g : Facts) → ((d : Declaration) → (has_range d.space ≡ true → ⊥) → G d) → hi ≤ at → IsAddedIn at hi f g → All G f.declared → All G g.declared
nothing_named G at hi f g free none_here a all =
    subst (λ (ds : List Declaration). All G ds) (sym a.front)
    (All-append G a.declared f.declared
    (All-weaker (IsNamedIn at hi) G (λ d x. free d (λ r. let n = x (no_member d.space r) in omega (arith, n.0.0, n.0.1, none_here))) a.declared a.names) all)

module _ (toks : List Token) (low deep : ℕ) where
  -- what stands in a scope is good outside it
  outside : (P : Declaration → Type 0) (end to last : ℕ) → (to ≡ end) ⊎ (last ≤ to) → low ≤ last → (ds : List Declaration)
      → All (Far (Far P low deep end) low deep to) ds → All (Far P low deep end) ds
  outside P end to last where_it high ds all = All-weaker (Far (Far P low deep end) low deep to) (Far P low deep end) (λ d x r. by d r (x r) where_it) ds all
    where
      by : (d : Declaration) → has_range d.space ≡ true → Far P low deep end d ⊎ (((low ≤ d.to) ⊎ (d.to ≡ to)) × (deep ≤ d.depth)) → (to ≡ end) ⊎ (last ≤ to)
          → P d ⊎ (((low ≤ d.to) ⊎ (d.to ≡ end)) × (deep ≤ d.depth))
      by d r (inl x) w = x r
      by d r (inr (inl x, y)) w = inr (inl x, y)
      by d r (inr (inr x, y)) (inl e) = inr (inr (x ∙ e), y)
      by d r (inr (inr x, y)) (inr e) = inr (inl (omega (arith, x, e, high)), y)

  far_walk : (f : Forest) (P : Declaration → Type 0) (within : Bool) (at : ℕ) (s : State) → low ≤ at → deep ≤ s.frame.scope.depth → AreFrom at f → have_forms f ≡ true
      → is_adding (λ i. true) within s.frame.label f ≡ true → All (Far P low deep s.frame.scope.to) s.facts.declared
      → All (Far P low deep s.frame.scope.to) (walked toks f s).facts.declared
  unfolding walked
  far_walk none P within at s high down w forms adds all = all
  far_walk (token i rest) P within at s high down w forms adds all =
      let l : Label = s.frame.label in
      let s1 : State = passed toks i s in
      let p = and_parts (is_adding_token (λ j. true) l.production) (is_adding (λ j. true) within l rest) adds in
      far_walk rest P within (at + 1) s1 (omega (arith, high)) down w.1 forms p.1
      (good_token toks (Far P low deep s.frame.scope.to) s.frame.scope (λ d x r. let e = x r in inr (inr e.0, omega (arith, e.1, down)))
      s.frame i s.facts l.production l.alternative s.frame.nth p.0 refl all)
  far_walk (node m first under rest) P within at s high down w forms adds all =
      let end : ℕ = s.frame.scope.to in
      let l : Label = s.frame.label in
      let behind : ℕ = at + token_count under in
      let fs = and_parts (has_form m.production under) (have_forms under && have_forms rest) forms in
      let gs = and_parts (have_forms under) (have_forms rest) fs.1 in
      let here : Bool = is_adding_node (λ i. true) m.production l within m under in
      let below : Bool = is_adding (λ i. true) (within_of m.production within) m under in
      let more : Bool = is_adding (λ i. true) within l rest in
      let p = and_parts here (has_no_list m under && (below && more)) adds in
      let p1 = and_parts (has_no_list m under) (below && more) p.1 in
      let p2 = and_parts below more p1.1 in
      let G : Declaration → Type 0 = Far P low deep end in
      let fresh : (d : Declaration) → (has_range d.space ≡ true → (d.to ≡ end) × (d.depth ≡ s.frame.scope.depth)) → G d =
      λ d x r. let e = x r in inr (inr e.0, omega (arith, e.1, down)) in
      let s1 : State = entered toks m first under s in
      let s2 : State = walked toks under s1 in
      let s3 : State = left toks m first under s s2 in
      let in1 : All G s1.facts.declared = good_enter toks G s.frame.scope fresh m.production within first m under s.frame s.facts p.0 all in
      let in2 : All G s2.facts.declared =
      elim (cases_Bool (nat_lt 0 (token_count under))) [
        | inl e ↦
            outside P end s1.frame.scope.to (last_token under 0) (scope_ends m.production m under s.frame.scope)
            (omega (arith, high, last_from under at 0 w.1 (omega (arith, ltb-true 0 (token_count under) e)))) s2.facts.declared
            (far_walk under G (within_of m.production within) at s1 high (omega (arith, down, deeper m.production m under s.frame.scope)) w.1 gs.0 p2.0
            (All-weaker G (Far G low deep s1.frame.scope.to) (λ d x r. inl x) s1.facts.declared in1))
        | inr e ↦
            nothing_named G at (at + token_count under) s1.facts s2.facts (λ d no r. absurd (no r)) (omega (arith, ltb-false 0 (token_count under) e))
            (adds_walk toks at (at + token_count under) under (within_of m.production within) at s1 w.1 (omega arith) (omega arith) gs.0 p2.0) in1
      ] in
      let in3 : All G s3.facts.declared =
      good_after toks G s.frame.scope fresh m.production within s.frame m first under s2.frame.body s2.facts refl p.0 in2 in
      far_walk rest P within behind s3 (omega (arith, high)) down w.2 gs.1 p2.1 in3

module _ (toks : List Token) (low : ℕ) (lasting barred : ℕ → Bool) where
  -- what stands in a list is near outside it
  listed_near : (P : Declaration → Type 0) (around inside : Scope) → low ≤ inside.to → inside.depth ≡ around.depth + 1 → (ds : List Declaration)
      → All (Far (Near P low lasting around) low inside.depth inside.to) ds → All (Near P low lasting around) ds
  listed_near P around inside high down ds all =
      All-weaker (Far (Near P low lasting around) low inside.depth inside.to) (Near P low lasting around) (λ d x r. by d r (x r)) ds all
    where
      by : (d : Declaration) → has_range d.space ≡ true → Near P low lasting around d ⊎ (((low ≤ d.to) ⊎ (d.to ≡ inside.to)) × (inside.depth ≤ d.depth))
          → P d ⊎ (((low ≤ d.to) × (around.depth + 1 ≤ d.depth)) ⊎ (IsLast lasting around.depth d × (d.to ≡ around.to)))
      by d r (inl x) = x r
      by d r (inr (inl x, y)) = inr (inl (x, omega (arith, y, down)))
      by d r (inr (inr x, y)) = inr (inl (omega (arith, x, high), omega (arith, y, down)))

  near_walk : (f : Forest) (P : Declaration → Type 0) (within : Bool) (at : ℕ) (s : State) → low ≤ at → AreFrom at f → have_forms f ≡ true
      → is_adding (λ i. true) within s.frame.label f ≡ true → is_quiet lasting s.frame.label f ≡ true → tags_pass barred s.frame.label s.frame.nth f ≡ true
      → All (λ (o : Occurrence). (o.declares && barred o.index) ≡ false) (walked toks f s).facts.occurrences
      → All (Near P low lasting s.frame.scope) s.facts.declared → All (Near P low lasting s.frame.scope) (walked toks f s).facts.declared
  unfolding walked
  near_walk none P within at s high w forms adds quiet tags fresh all = all
  near_walk (token i rest) P within at s high w forms adds quiet tags fresh all =
      let l : Label = s.frame.label in
      let s1 : State = passed toks i s in
      let G : Declaration → Type 0 = Near P low lasting s.frame.scope in
      let p = and_parts (is_adding_token (λ j. true) l.production) (is_adding (λ j. true) within l rest) adds in
      let q = and_parts (not (is_node l Params)) (is_quiet lasting l rest) quiet in
      let b = and_parts (not ((is_at l SuRest 1 || is_at l EnRest 1) && (s.frame.nth == 0)) || barred i) (tags_pass barred l (s.frame.nth + 1) rest) tags in
      let more : IsAddedIn (at + 1) (at + 1 + token_count rest) s1.facts (walked toks rest s1).facts =
      adds_walk toks (at + 1) (at + 1 + token_count rest) rest within (at + 1) s1 w.1 (omega arith) (omega arith) forms p.1 in
      let before = noted_before (at + 1) (at + 1 + token_count rest) (λ (o : Occurrence). (o.declares && barred o.index) ≡ false) s1.facts (walked toks rest s1).facts more fresh in
      near_walk rest P within (at + 1) s1 (omega (arith, high)) w.1 forms p.1 q.1 b.1 fresh
      (quiet_token toks G lasting barred s.frame.scope (λ d x r. inr (inr (x r))) s.frame i s.facts l.production l.alternative s.frame.nth p.0 q.0 b.0 before all)
  near_walk (node m first under rest) P within at s high w forms adds quiet tags fresh all =
      let l : Label = s.frame.label in
      let around : Scope = s.frame.scope in
      let behind : ℕ = at + token_count under in
      let fs = and_parts (has_form m.production under) (have_forms under && have_forms rest) forms in
      let gs = and_parts (have_forms under) (have_forms rest) fs.1 in
      let here : Bool = is_adding_node (λ i. true) m.production l within m under in
      let below : Bool = is_adding (λ i. true) (within_of m.production within) m under in
      let more : Bool = is_adding (λ i. true) within l rest in
      let p = and_parts here (has_no_list m under && (below && more)) adds in
      let p1 = and_parts (has_no_list m under) (below && more) p.1 in
      let p2 = and_parts below more p1.1 in
      let q = and_parts (is_quiet_child lasting l m under) ((is_list m || is_quiet lasting m under) && is_quiet lasting l rest) quiet in
      let q1 = and_parts (is_list m || is_quiet lasting m under) (is_quiet lasting l rest) q.1 in
      let c = and_parts (not (is_node m Enumerator)) (not (is_scope m.production) && (not (is_node l Param && is_node m Pdecl) || option_map_or lasting (name_below m under) true)) q.0 in
      let c1 = and_parts (not (is_scope m.production)) (not (is_node l Param && is_node m Pdecl) || option_map_or lasting (name_below m under) true) c.1 in
      let b = and_parts (tags_pass barred m 0 under) (tags_pass barred l (s.frame.nth + 1) rest) tags in
      let G : Declaration → Type 0 = Near P low lasting around in
      let s1 : State = entered toks m first under s in
      let s2 : State = walked toks under s1 in
      let s3 : State = left toks m first under s s2 in
      let F : Occurrence → Type 0 = λ (o : Occurrence). (o.declares && barred o.index) ≡ false in
      let later : IsAddedIn behind (behind + token_count rest) s3.facts (walked toks rest s3).facts =
      adds_walk toks behind (behind + token_count rest) rest within behind s3 w.2 (omega arith) (omega arith) gs.1 p2.1 in
      let fresh3 : All F s3.facts.occurrences = noted_before behind (behind + token_count rest) F s3.facts (walked toks rest s3).facts later fresh in
      let left_adds : IsAddedIn at behind s2.facts s3.facts =
      adds_after toks at behind m.production within s.frame m first under s2.frame.body s2.facts
      (λ i x. name_in m under at i at behind w.1 (omega arith) (omega arith) x) p.0 fs.0
      (λ begins. (omega (arith, w.0), omega (arith, w.0, begins_some under begins))) in
      let fresh2 : All F s2.facts.occurrences = noted_before at behind F s2.facts s3.facts left_adds fresh3 in
      let in1 : All G s1.facts.declared = quiet_enter toks G lasting barred around (λ d x r. inr (inr (x r))) m.production within first m under s.frame s.facts p.0 all in
      let in2 : All G s2.facts.declared =
      elim (cases_Bool (is_list m)) [
        | inl is ↦ elim (cases_Bool (nat_lt 0 (token_count under))) [
          | inl e ↦
              let inside : Scope = s1.frame.scope in
              let to : inside.to ≡ last_token under 0 = list_ends m.production m under around is is in
              listed_near P around inside (omega (arith, to, high, last_from under at 0 w.1 (omega (arith, ltb-true 0 (token_count under) e))))
              (list_deeper m.production m under around is is) s2.facts.declared
              (far_walk toks low inside.depth under G (within_of m.production within) at s1 high (omega arith) w.1 gs.0 p2.0
              (All-weaker G (Far G low inside.depth inside.to) (λ d x r. inl x) s1.facts.declared in1))
          | inr e ↦
              nothing_named G at (at + token_count under) s1.facts s2.facts (λ d no r. absurd (no r)) (omega (arith, ltb-false 0 (token_count under) e))
              (adds_walk toks at (at + token_count under) under (within_of m.production within) at s1 w.1 (omega arith) (omega arith) gs.0 p2.0) in1
        ]
        | inr free ↦
            let same : s1.frame.scope ≡ around = same_scope m.production m under around free (not_false (is_scope m.production) c1.0) in
            let inside : is_quiet lasting m under ≡ true = or_false (is_list m) (is_quiet lasting m under) q1.0 free in
            subst (λ (x : Scope). All (Near P low lasting x) s2.facts.declared) same
            (near_walk under P (within_of m.production within) at s1 high w.1 gs.0 p2.0 inside b.0 fresh2
            (subst (λ (x : Scope). All (Near P low lasting x) s1.facts.declared) (sym same) in1))
      ] in
      let out3 : All G s3.facts.declared =
      quiet_after toks G lasting barred around (λ d x r. inr (inr (x r))) m.production within s.frame m first under s2.frame.body s2.facts refl p.0 c.0
      (λ x y. or_met (is_node l Param && is_node m Pdecl) (option_map_or lasting (name_below m under) true) c1.1
      (both_true (is_node l Param) (is_node m Pdecl) y x)) in2 in
      near_walk rest P within behind s3 (omega (arith, high)) w.2 gs.1 p2.1 q1.1 b.1 fresh out3

-- Behind a part in which only some names can last and no tag is declared: each range that it has added ends in a scope inside
-- the one around it, not in front of the part, or is that of such a name, which ends with the scope around it.
pub ranges_end_behind : (old : Declaration → Bool) (lasting barred : ℕ → Bool) (toks : List Token) (f : Forest) (within : Bool) (lo : ℕ) (s : State) → AreFrom lo f
    → have_forms f ≡ true → is_adding (λ i. true) within s.frame.label f ≡ true → is_quiet lasting s.frame.label f ≡ true
    → tags_pass barred s.frame.label s.frame.nth f ≡ true → All (λ (o : Occurrence). (o.declares && barred o.index) ≡ false) (walked toks f s).facts.occurrences
    → All (λ d. old d ≡ true) s.facts.declared → All (Near (λ d. old d ≡ true) lo lasting s.frame.scope) (walked toks f s).facts.declared
ranges_end_behind old lasting barred toks f within lo s w forms adds quiet tags fresh all =
    near_walk toks lo lasting barred f (λ d. old d ≡ true) within lo s (omega arith) w forms adds quiet tags fresh
    (All-weaker (λ d. old d ≡ true) (Near (λ d. old d ≡ true) lo lasting s.frame.scope) (λ d x r. inl x) s.facts.declared all)
