-- A range that a part of a unit adds begins in it, and ends in it or with the scope around it.
use Rattle.std.proofs.Common.{ℕ, ◌+◌, ◌≤◌, ◌≡◌, Bool, true, false, ◌&&◌, ◌||◌, not, if◌then◌else◌, ◌==◌, List, [], ◌∷◌, Option, None, Some, ◌⊎◌, inl, inr, refl, ◌∙◌, arith}
use Rattle.std.specs.Prelude.{◌%◌, filter_map, is_some}
use Rattle.std.specs.List.{All, cons_option}
use Rattle.std.specs.Option.{option_map_or}
use Rattle.std.proofs.lemmas.Bool.{false≢true, and_parts}
use Rattle.std.proofs.lemmas.List.Elements.{All-nil, All-cons, All-weaker, All-append}
use Rattle.cs_base.specs.Token.{Token}
use Rattle.cs_base.proofs.OptionLemmas.{one_place as some_same}
use Rattle.c99_tree.specs.Tree.{Forest, none, token, node}
use Rattle.c99_tree.specs.declared.production.Label.{Label}
use Rattle.c99_tree.specs.declared.production.Production.{Production}
use Rattle.c99_tree.specs.declared.production.Production.TheVariants.{ExtRest, InitDecl, FunBody, Main, Params, Primary, Post, Designator, SuRest, EnRest, Members, MemRest, Mdecl, Enumerators, Enumerator, Declarator, Param, Pdecl, Statement, Block, Suffix, Sub}
use Rattle.c_types.specs.declared.entity.EntityKind.TheVariants.{Typedef, Parameter, Enumerator as Constant}
use Rattle.c_types.specs.Types.{CType, arithmetic, adjusted, is_unknown, target_of}
use Rattle.c_types.specs.Trees.{is_list, name_below, has_name, holds_name, last_token, declarator_type}
use Rattle.c_types.specs.Tags.{number_in, renumbered, is_same_tag, tag_entity, is_declaring, tag_declaration, tag_named, prior_tag, with_tag, is_complete, is_sort, enumeration_used}
use Rattle.c_types.specs.Declarations.{Facts, has_linkage, with_fault, with_use, with_declaration, with_begun, visible, in_scope, anywhere, linked, is_mixed}
use Rattle.name_chains.specs.Frames.{State}
use Rattle.name_chains.specs.Members.{with_silent, member_declaration, unnamed_declaration, lifted, found_of, with_member, with_lifted, with_anonymous, member_at, member_used_as, member_used}
use Rattle.name_chains.specs.Entering.{inner, is_scoped, is_member, scope_in, kept_here, with_kept, facts_in, entered}
use Rattle.scope_bind.specs.Named.{Cause, Declaration, Declared, Body, Frame, Scope, undeclared, redeclared, tag_redefined, mixed_linkage, designator_after_elision, ordinary, tags, members, labels}
use Rattle.scope_bind.specs.Ordinary.{is_again, entity_of, is_listed, declaration_of, declared, used_as, used, is_func, plain_name, with_parameter, new_object, with_object}
use Rattle.scope_bind.specs.Labels.{label_declaration, with_label, jump_to, with_jumps, with_labels}
use Rattle.scope_bind.specs.Roles.{role_if, role_of}
use Rattle.scope_bind.specs.Walk.{facts_at, passed, declared_in, parameter_in, facts_after, left, walked}
use Rattle.tree_laws.specs.TreesOfTexts.{token_count, AreFrom, begins_with_token, has_form, have_forms}
use Rattle.tree_laws.proofs.TokenEnds.{begins_some as begins_more}
use Rattle.reordered_tree_laws.specs.Ranges.{has_range, IsAdded, IsFine, RangesEndWithScopes}

-- ---- Tokens of a part

pub last_below : (f : Forest) (lo k bound : ℕ) → AreFrom lo f → lo + token_count f ≤ bound → k + 1 ≤ bound → last_token f k + 1 ≤ bound
last_below none lo k bound w within h = h
last_below (token i rest) lo k bound w within h =
    last_below rest (lo + 1) i bound w.1 (omega (arith, within)) (omega (arith, within, w.0))
last_below (node l first under rest) lo k bound w within h =
    last_below rest (lo + token_count under) (last_token under k) bound w.2 (omega (arith, within))
    (last_below under lo k bound w.1 (omega (arith, within)) h)

name_step : (c : Bool) (j i bound : ℕ) (r : Option ℕ) → (if c then Some j else r) ≡ Some i → j + 1 ≤ bound → (r ≡ Some i → i + 1 ≤ bound) → i + 1 ≤ bound
name_step true j i bound r e h rest = omega (arith, some_same j i e, h)
name_step false j i bound r e h rest = rest e

either_name : (c : Bool) (q r : Option ℕ) (i bound : ℕ) → (if c then q else r) ≡ Some i → (q ≡ Some i → i + 1 ≤ bound) → (r ≡ Some i → i + 1 ≤ bound) → i + 1 ≤ bound
either_name true q r i bound e f g = f e
either_name false q r i bound e f g = g e

name_within : (l : Label) (f : Forest) (lo i bound : ℕ) → AreFrom lo f → lo + token_count f ≤ bound → name_below l f ≡ Some i → i + 1 ≤ bound
name_within l none lo i bound w within e = absurd cc
name_within l (token j rest) lo i bound w within e =
    name_step (has_name l) j i bound (name_below l rest) e (omega (arith, within, w.0)) (name_within l rest (lo + 1) i bound w.1 (omega (arith, within)))
name_within l (node m first under rest) lo i bound w within e =
    either_name (holds_name m.production) (name_below m under) (name_below l rest) i bound e
    (name_within m under lo i bound w.1 (omega (arith, within)))
    (name_within l rest (lo + token_count under) i bound w.2 (omega (arith, within)))

no_range : {X : Type 0} → false ≡ true → X
no_range e = absurd (false≢true e)

-- ---- What is noted

module _ (toks : List Token) (P : Declaration → Type 0) (behind scope_end : ℕ) where
  abbrev Fine : Declaration → Type 0
  Fine d = IsFine P behind scope_end d

  abbrev AllFine : Facts → Type 0
  AllFine f = All Fine f.declared

  fine_fault : (c : Bool) (cause : Cause) (i : ℕ) (f : Facts) → AllFine f → AllFine (with_fault c cause i f)
  fine_fault true cause i f a = a
  fine_fault false cause i f a = a

  fine_begun : (c : Bool) (e : ℕ) (f : Facts) → AllFine f → AllFine (with_begun c e f)
  fine_begun true e f a = a
  fine_begun false e f a = a

  fine_used : (i : ℕ) (r : Option Declaration) (f : Facts) → AllFine f → AllFine (used_as toks i r f)
  fine_used i None f a = a
  fine_used i (Some d) f a = a

  fine_either : (c : Bool) (f g : Facts) → AllFine f → AllFine g → AllFine (if c then f else g)
  fine_either true f g a b = a
  fine_either false f g a b = b

  fine_declared : (scope : Scope) (n : Declared) (f : Facts) → scope.to ≡ scope_end → n.last + 1 ≤ behind → AllFine f → AllFine (declared toks scope n f)
  fine_declared scope n f same within a =
      let r : Option Declaration = in_scope toks ordinary scope.depth n.name_at n.last f in
      let mixed : Bool = has_linkage n.linkage && is_mixed toks n.linkage n.name_at f in
      let f1 : Facts = with_fault mixed mixed_linkage n.name_at f in
      let again : Bool = option_map_or (λ d. not (is_again n d)) r false in
      let f2 : Facts = with_fault again redeclared n.name_at f1 in
      let listed : Bool = n.listing && not (is_listed n r) in
      let f3 : Facts = with_fault listed undeclared n.name_at f2 in
      let d : Declaration = declaration_of scope n (entity_of n r (linked toks n.name_at f)) (n.listed || is_listed n r) in
      All-cons Fine d f3.declared (λ e. inr (record { begins = within; ends = inr same }))
      (fine_fault listed undeclared n.name_at f2 (fine_fault again redeclared n.name_at f1 (fine_fault mixed mixed_linkage n.name_at f a)))

  fine_parameter_by : (scope : Scope) (i last : ℕ) (t : CType) (f : Facts) (c : Bool) → scope.to ≡ scope_end → last + 1 ≤ behind → AllFine f
      → AllFine (declared toks scope (if c then plain_name toks i last Typedef t false else plain_name toks i last Parameter (adjusted t) false) f)
  fine_parameter_by scope i last t f true same within a = fine_declared scope (plain_name toks i last Typedef t false) f same within a
  fine_parameter_by scope i last t f false same within a = fine_declared scope (plain_name toks i last Parameter (adjusted t) false) f same within a

  fine_tag_named : (fr : Frame) (i e u : ℕ) (f : Facts) (declares : Bool) → fr.scope.to ≡ scope_end → i + 1 ≤ behind → AllFine f
      → AllFine (if declares then with_begun fr.has_body e (with_declaration (tag_declaration fr.scope i e (renumbered fr.found e)) f) else with_use i u f)
  fine_tag_named fr i e u f true same within a =
      let d : Declaration = tag_declaration fr.scope i e (renumbered fr.found e) in
      fine_begun fr.has_body e (with_declaration d f) (All-cons Fine d f.declared (λ e. inr (record { begins = within; ends = inr same })) a)
  fine_tag_named fr i e u f false same within a = a

  fine_tag : (fr : Frame) (i : ℕ) (f : Facts) → fr.scope.to ≡ scope_end → i + 1 ≤ behind → AllFine f → AllFine (with_tag toks fr i f)
  fine_tag fr i f same within a =
      let r : Option Declaration = prior_tag toks fr i f in
      let e : ℕ = tag_entity fr i f r in
      fine_fault (option_map_or (λ d. not (is_same_tag fr f d)) r false) tag_redefined i (tag_named fr i r e f)
      (fine_tag_named fr i e (option_map_or (λ d. d.entity) r i) f (is_declaring fr r) same within a)

  fine_enumeration : (fr : Frame) (i : ℕ) (r : Option Declaration) (f : Facts) → AllFine f → AllFine (enumeration_used fr i r f)
  fine_enumeration fr i None f a = a
  fine_enumeration fr i (Some d) f a =
      fine_fault (not (is_complete f d)) undeclared i (with_fault (not (is_sort d.ctype fr.found)) tag_redefined i f)
      (fine_fault (not (is_sort d.ctype fr.found)) tag_redefined i f a)

  fine_member_used : (i : ℕ) (r : Option Declaration) (f : Facts) → AllFine f → AllFine (member_used_as toks i r f)
  fine_member_used i None f a = a
  fine_member_used i (Some d) f a = a

  fine_designated : (c : Bool) (t : CType) (i : ℕ) (f : Facts) → AllFine f
      → AllFine (if c then with_fault true designator_after_elision i f else member_used toks t i f)
  fine_designated true t i f a = a
  fine_designated false t i f a = fine_member_used i (member_at toks t i f) f a

  fine_member : (fr : Frame) (under : Forest) (name : Option ℕ) (f : Facts) → AllFine f → AllFine (with_member toks fr under name f)
  fine_member fr under None f a = a
  fine_member fr under (Some i) f a =
      let g : Facts = with_fault (is_some (anywhere toks (members fr.owner) i f)) redeclared i f in
      All-cons Fine (member_declaration fr i (last_token under i) (declarator_type fr.base under)) g.declared no_range
      (fine_fault (is_some (anywhere toks (members fr.owner) i f)) redeclared i f a)

  fine_lifted : (owner : ℕ) (ds : List Declaration) (f : Facts) → AllFine f → AllFine (with_lifted toks owner ds f)
  fine_lifted owner [] f a = a
  fine_lifted owner (d ∷ ds) f a =
      let wrong : Bool = is_some (anywhere toks (members owner) d.name_at f) in
      let f1 : Facts = with_fault wrong redeclared d.name_at f in
      fine_lifted owner ds (with_silent (lifted owner d) f1) (All-cons Fine (lifted owner d) f1.declared no_range (fine_fault wrong redeclared d.name_at f a))

  fine_anonymous : (fr : Frame) (i : ℕ) (f : Facts) (c : Bool) → AllFine f
      → AllFine (if c then with_silent (unnamed_declaration fr i) (with_lifted toks fr.owner (found_of (number_in fr.base) f) f) else f)
  fine_anonymous fr i f false a = a
  fine_anonymous fr i f true a =
      All-cons Fine (unnamed_declaration fr i) (with_lifted toks fr.owner (found_of (number_in fr.base) f) f).declared no_range
      (fine_lifted fr.owner (found_of (number_in fr.base) f) f a)

  fine_label : (body : Option Body) (i : ℕ) (f : Facts) → AllFine f → AllFine (with_label toks body i f)
  fine_label None i f a = a
  fine_label (Some b) i f a =
      let g : Facts = with_fault (is_some (anywhere toks (labels b.from) i f)) redeclared i f in
      All-cons Fine (label_declaration b i) g.declared no_range (fine_fault (is_some (anywhere toks (labels b.from) i f)) redeclared i f a)

  fine_jump : (i : ℕ) (r : Option Declaration) (f : Facts) → AllFine f → AllFine (jump_to toks i r f)
  fine_jump i None f a = a
  fine_jump i (Some d) f a = a

  fine_jumps : (b : Body) (js : List ℕ) (f : Facts) → AllFine f → AllFine (with_jumps toks b js f)
  fine_jumps b [] f a = a
  fine_jumps b (i ∷ js) f a =
      fine_jumps b js (jump_to toks i (anywhere toks (labels b.from) i f) f) (fine_jump i (anywhere toks (labels b.from) i f) f a)

  fine_labels : (body : Option Body) (f : Facts) → AllFine f → AllFine (with_labels toks body f)
  fine_labels None f a = a
  fine_labels (Some b) f a = fine_jumps b f.jumps f a

  -- ---- A token

  fine_token : (fr : Frame) (i : ℕ) (f : Facts) (p : Production) (x n : ℕ) → fr.scope.to ≡ scope_end → i + 1 ≤ behind → AllFine f
      → AllFine (facts_at toks (role_of p x n) i fr f)
  fine_token fr i f p x n same within a = by p
    where
      primary : (c : Bool) → AllFine (facts_at toks (role_if c (role_of Primary 1 0)) i fr f)
      primary false = a
      primary true = fine_either (is_func toks fr i) f (used toks i f) a (fine_used i (visible toks ordinary i i f) f a)

      type_name : (c : Bool) → AllFine (facts_at toks (role_if c (role_of Main 4 0)) i fr f)
      type_name false = a
      type_name true = fine_used i (visible toks ordinary i i f) f a

      tag : (c : Bool) → AllFine (facts_at toks (role_if c (role_of SuRest 1 0)) i fr f)
      tag false = a
      tag true = fine_tag fr i f same within a

      enumeration_by : (c : Bool) → AllFine (if c then with_tag toks fr i f else enumeration_used fr i (visible toks tags i i f) f)
      enumeration_by true = fine_tag fr i f same within a
      enumeration_by false = fine_enumeration fr i (visible toks tags i i f) f a

      enumeration : (c : Bool) → AllFine (facts_at toks (role_if c (role_of EnRest 1 0)) i fr f)
      enumeration false = a
      enumeration true = enumeration_by fr.has_body

      listed : (c : Bool) → AllFine (facts_at toks (role_if c (role_of Params 1 0)) i fr f)
      listed false = a
      listed true = fine_declared fr.scope (plain_name toks i i Parameter arithmetic true) f same within a

      member : (c d : Bool) → AllFine (facts_at toks (if c then role_of Post 3 1 else role_if d (role_of Post 4 1)) i fr f)
      member true d = fine_member_used i (member_at toks fr.given i f) f a
      member false true = fine_member_used i (member_at toks (target_of fr.given) i f) f a
      member false false = a

      designator : (c : Bool) → AllFine (facts_at toks (role_if c (role_of Designator 1 1)) i fr f)
      designator false = a
      designator true = fine_designated (is_unknown fr.given) fr.given i f a

      label : (c d : Bool) → AllFine (facts_at toks (if c then role_of Statement 1 0 else role_if d (role_of Statement 10 1)) i fr f)
      label true d = fine_label fr.body i f a
      label false true = a
      label false false = a

      by : (p : Production) → AllFine (facts_at toks (role_of p x n) i fr f)
      by Primary = primary (x == 1)
      by Main = type_name ((x == 4) && (n == 0))
      by SuRest = tag ((x == 1) && (n == 0))
      by EnRest = enumeration ((x == 1) && (n == 0))
      by Params = listed ((x == 1) && (n % 2 == 0))
      by Post = member ((x == 3) && (n == 1)) ((x == 4) && (n == 1))
      by Designator = designator ((x == 1) && (n == 1))
      by Statement = label ((x == 1) && (n == 0)) ((x == 10) && (n == 1))
      by _ = a

  -- ---- A node

  kept_step : (list depth from to : ℕ) (d : Declaration) (c : Bool) (ds : List Declaration) → from ≤ behind → to ≤ behind → All Fine ds
      → All Fine (cons_option (if c then Some (record d { from = from; to = to }) else None) ds)
  kept_step list depth from to d true ds h k a = All-cons Fine (record d { from = from; to = to }) ds (λ e. inr (record { begins = h; ends = inl k })) a
  kept_step list depth from to d false ds h k a = a

  kept_fine : (list depth from to : ℕ) (ds : List Declaration) → from ≤ behind → to ≤ behind → All Fine (filter_map (kept_here list depth from to) ds)
  kept_fine list depth from to [] h k = All-nil Fine
  kept_fine list depth from to (d ∷ ds) h k =
      kept_step list depth from to d ((d.to == list) && ((d.depth == depth) && not (is_member d.space))) (filter_map (kept_here list depth from to) ds) h k
      (kept_fine list depth from to ds h k)

  fine_kept : (kept : Option ℕ) (depth from to : ℕ) (f : Facts) → from ≤ behind → to ≤ behind → AllFine f → AllFine (with_kept kept depth from to f)
  fine_kept None depth from to f h k a = a
  fine_kept (Some list) depth from to f h k a =
      All-append Fine (filter_map (kept_here list depth from to) f.declared) f.declared (kept_fine list depth from to f.declared h k) a

  fine_enter : (p : Production) (first : ℕ) (under : Forest) (fr : Frame) (f : Facts) → first ≤ behind → last_token under 0 ≤ behind → AllFine f
      → AllFine (facts_in p first under fr f)
  fine_enter FunBody first under fr f h k a = fine_kept fr.kept (fr.scope.depth + 1) first (last_token under 0) (record f { jumps = [] }) h k a
  fine_enter _ first under fr f h k a = a

  -- the last token of a declarator is one of this part
  abbrev Reaches : Forest → Option ℕ → Type 0
  Reaches under None = Unit {0}
  Reaches under (Some i) = last_token under i + 1 ≤ behind

  fine_object : (fr : Frame) (under : Forest) (name : Option ℕ) (f : Facts) → fr.scope.to ≡ scope_end → Reaches under name → AllFine f → AllFine (with_object toks fr under name f)
  fine_object fr under None f same within a = a
  fine_object fr under (Some i) f same within a =
      fine_declared fr.scope (new_object toks fr i (last_token under i) (declarator_type fr.base under) f) f same within a

  fine_parameter : (fr : Frame) (under : Forest) (name : Option ℕ) (f : Facts) → fr.scope.to ≡ scope_end → Reaches under name → AllFine f
      → AllFine (with_parameter toks fr under name f)
  fine_parameter fr under None f same within a = a
  fine_parameter fr under (Some i) f same within a =
      fine_parameter_by fr.scope i (last_token under i) (declarator_type fr.base under) f fr.words.has_typedef same within a

  fine_declarator : (p : Production) (fr : Frame) (l : Label) (under : Forest) (f : Facts) → fr.scope.to ≡ scope_end → Reaches under (name_below l under) → AllFine f
      → AllFine (declared_in toks p fr l under f)
  fine_declarator ExtRest fr l under f same within a = fine_object fr under (name_below l under) f same within a
  fine_declarator InitDecl fr l under f same within a = fine_object fr under (name_below l under) f same within a
  fine_declarator Mdecl fr l under f same within a = fine_member fr under (name_below l under) f a
  fine_declarator _ fr l under f same within a = a

  fine_parameter_in : (p : Production) (fr : Frame) (l : Label) (under : Forest) (f : Facts) → fr.scope.to ≡ scope_end → Reaches under (name_below l under) → AllFine f
      → AllFine (parameter_in toks p fr l under f)
  fine_parameter_in Param fr l under f same within a = fine_parameter fr under (name_below l under) f same within a
  fine_parameter_in _ fr l under f same within a = a

  fine_after : (p : Production) (fr : Frame) (l : Label) (first : ℕ) (under : Forest) (body : Option Body) (f : Facts) → fr.scope.to ≡ scope_end
      → Reaches under (name_below l under) → (has_form p under ≡ true) → (begins_with_token under ≡ true → last_token under first + 1 ≤ behind) → AllFine f
      → AllFine (facts_after toks p first fr l under body f)
  fine_after Declarator fr l first under body f same within form begins a = fine_declarator fr.label.production fr l under f same within a
  fine_after Pdecl fr l first under body f same within form begins a = fine_parameter_in fr.label.production fr l under f same within a
  fine_after Enumerator fr l first under body f same within form begins a =
      fine_declared fr.scope (plain_name toks first (last_token under first) Constant arithmetic false) f same (begins form) a
  fine_after MemRest fr l first under body f same within form begins a = by (l.alternative == 1)
    where
      by : (c : Bool) → AllFine (if c then with_anonymous toks fr first f else f)
      by true = fine_anonymous fr first f fr.words.anonymous a
      by false = a
  fine_after Members fr l first under body f same within form begins a = a
  fine_after Enumerators fr l first under body f same within form begins a = a
  fine_after FunBody fr l first under body f same within form begins a = fine_labels body f a
  fine_after _ fr l first under body f same within form begins a = a

-- ---- The walk

later : (P : Declaration → Type 0) (h k scope_end : ℕ) (ds : List Declaration) → h ≤ k → All (IsFine P h scope_end) ds → All (IsFine P k scope_end) ds
later P h k scope_end ds le all = All-weaker (IsFine P h scope_end) (IsFine P k scope_end) one ds all
  where
    ends : (d : Declaration) → (d.to ≤ h) ⊎ (d.to ≡ scope_end) → (d.to ≤ k) ⊎ (d.to ≡ scope_end)
    ends d (inl e) = inl (omega (arith, e, le))
    ends d (inr e) = inr e

    by : (d : Declaration) → P d ⊎ IsAdded h scope_end d → P d ⊎ IsAdded k scope_end d
    by d (inl p) = inl p
    by d (inr x) = inr (record { begins = omega (arith, x.begins, le); ends = ends d x.ends })

    one : (d : Declaration) → IsFine P h scope_end d → IsFine P k scope_end d
    one d f r = by d (f r)

-- the scope of a node ends in it, or is the one around it
scope_bound : (p : Production) (l : Label) (under : Forest) (scope : Scope) (behind : ℕ) → last_token under 0 + 1 ≤ behind
    → ((scope_in p l under scope).to ≤ behind) ⊎ ((scope_in p l under scope).to ≡ scope.to)
scope_bound Block l under scope behind h = inl (omega (arith, h))
scope_bound FunBody l under scope behind h = inl (omega (arith, h))
scope_bound Suffix l under scope behind h = by (is_list l)
  where
    by : (c : Bool) → ((if c then inner scope (last_token under 0) else scope).to ≤ behind) ⊎ ((if c then inner scope (last_token under 0) else scope).to ≡ scope.to)
    by true = inl (omega (arith, h))
    by false = inr refl
scope_bound Sub l under scope behind h = inl h
scope_bound Statement l under scope behind h = by (is_scoped l.alternative)
  where
    by : (c : Bool) → ((if c then inner scope (last_token under 0 + 1) else scope).to ≤ behind) ⊎ ((if c then inner scope (last_token under 0 + 1) else scope).to ≡ scope.to)
    by true = inl h
    by false = inr refl
scope_bound _ l under scope behind h = inr refl

-- what is fine inside a node is fine around it
outside : (P : Declaration → Type 0) (behind within scope_end : ℕ) (ds : List Declaration) → (within ≤ behind) ⊎ (within ≡ scope_end)
    → All (IsFine (IsFine P behind scope_end) behind within) ds → All (IsFine P behind scope_end) ds
outside P behind within scope_end ds bound all = All-weaker (IsFine (IsFine P behind scope_end) behind within) (IsFine P behind scope_end) one ds all
  where
    ends : (d : Declaration) → (within ≤ behind) ⊎ (within ≡ scope_end) → (d.to ≤ behind) ⊎ (d.to ≡ within) → (d.to ≤ behind) ⊎ (d.to ≡ scope_end)
    ends d b (inl e) = inl e
    ends d (inl b) (inr e) = inl (omega (arith, b, e))
    ends d (inr b) (inr e) = inr (e ∙ b)

    by : (d : Declaration) → has_range d.space ≡ true → IsFine P behind scope_end d ⊎ IsAdded behind within d → P d ⊎ IsAdded behind scope_end d
    by d r (inl f) = f r
    by d r (inr x) = inr (record { begins = x.begins; ends = ends d bound x.ends })

    one : (d : Declaration) → IsFine (IsFine P behind scope_end) behind within d → IsFine P behind scope_end d
    one d f r = by d r (f r)

reaches : (toks : List Token) (P : Declaration → Type 0) (l : Label) (under : Forest) (lo behind scope_end : ℕ) → AreFrom lo under → lo + token_count under ≤ behind
    → (name : Option ℕ) → name_below l under ≡ name → Reaches toks P behind scope_end under name
reaches toks P l under lo behind scope_end w within None e = tt
reaches toks P l under lo behind scope_end w within (Some i) e = last_below under lo i behind w within (name_within l under lo i behind w within e)

module _ (toks : List Token) where
  pub fine_walk : (f : Forest) (P : Declaration → Type 0) (lo : ℕ) (s : State) → 1 ≤ lo → AreFrom lo f → have_forms f ≡ true
      → All (IsFine P lo s.frame.scope.to) s.facts.declared → All (IsFine P (lo + token_count f) s.frame.scope.to) (walked toks f s).facts.declared
  unfolding walked
  fine_walk none P lo s one w forms all = later P lo (lo + 0) s.frame.scope.to s.facts.declared (omega arith) all
  fine_walk (token i rest) P lo s one w forms all =
      let end : ℕ = s.frame.scope.to in
      let s1 : State = passed toks i s in
      let here : All (IsFine P (lo + 1) end) s1.facts.declared =
      fine_token toks P (lo + 1) end s.frame i s.facts s.frame.label.production s.frame.label.alternative s.frame.nth refl (omega (arith, w.0))
      (later P lo (lo + 1) end s.facts.declared (omega arith) all) in
      later P (lo + 1 + token_count rest) (lo + (token_count rest + 1)) end (walked toks rest s1).facts.declared (omega arith)
      (fine_walk rest P (lo + 1) s1 (omega (arith, one)) w.1 forms here)
  fine_walk (node l first under rest) P lo s one w forms all =
      let end : ℕ = s.frame.scope.to in
      let behind : ℕ = lo + token_count under in
      let p = and_parts (has_form l.production under) (have_forms under && have_forms rest) forms in
      let q = and_parts (have_forms under) (have_forms rest) p.1 in
      let s1 : State = entered toks l first under s in
      let s2 : State = walked toks under s1 in
      let s3 : State = left toks l first under s s2 in
      let last : last_token under 0 + 1 ≤ behind = last_below under lo 0 behind w.1 (omega arith) (omega (arith, one)) in
      let in1 : All (IsFine P behind end) s1.facts.declared =
      fine_enter toks P behind end l.production first under s.frame s.facts (omega (arith, w.0)) (omega (arith, last))
      (later P lo behind end s.facts.declared (omega arith) all) in
      let in1' : All (IsFine (IsFine P behind end) lo s1.frame.scope.to) s1.facts.declared =
      All-weaker (IsFine P behind end) (IsFine (IsFine P behind end) lo s1.frame.scope.to) (λ d x r. inl x) s1.facts.declared in1 in
      let in2 : All (IsFine (IsFine P behind end) behind s1.frame.scope.to) s2.facts.declared =
      fine_walk under (IsFine P behind end) lo s1 one w.1 q.0 in1' in
      let out2 : All (IsFine P behind end) s2.facts.declared =
      outside P behind s1.frame.scope.to end s2.facts.declared (scope_bound l.production l under s.frame.scope behind last) in2 in
      let out3 : All (IsFine P behind end) s3.facts.declared =
      fine_after toks P behind end l.production s.frame l first under s2.frame.body s2.facts refl
      (reaches toks P l under lo behind end w.1 (omega arith) (name_below l under) refl) p.0
      (λ begins. last_below under lo first behind w.1 (omega arith) (omega (arith, w.0, begins_more under begins))) out2 in
      later P (behind + token_count rest) (lo + (token_count under + token_count rest)) end (walked toks rest s3).facts.declared (omega arith)
      (fine_walk rest P behind s3 (omega (arith, one)) w.2 q.1 out3)

pub ranges_end_with_scopes : RangesEndWithScopes
ranges_end_with_scopes old toks f lo s one w forms all =
    fine_walk toks f (λ d. old d ≡ true) lo s one w forms
    (All-weaker (λ d. old d ≡ true) (IsFine (λ d. old d ≡ true) lo s.frame.scope.to) (λ d x r. inl x) s.facts.declared all)
