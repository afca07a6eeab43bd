-- What lasts behind a part of a unit in whose lists parameters are named: these names alone.
use Rattle.std.proofs.Common.{ℕ, ◌+◌, ◌≤◌, ◌≡◌, Bool, true, false, ◌&&◌, ◌||◌, not, if◌then◌else◌, ◌==◌, List, [], ◌∷◌, ◌++◌, Option, None, Some, ◌⊎◌, inl, inr, refl, sym, ap, subst, ◌∙◌, arith}
use Rattle.std.specs.Prelude.{is_some}
use Rattle.std.specs.List.{All}
use Rattle.std.specs.Option.{option_map_or}
use Rattle.std.proofs.lemmas.Bool.{false≢true, cases_Bool, and_parts}
use Rattle.std.proofs.lemmas.List.Elements.{All-cons, All-weaker, All-head, All-tail}
use Rattle.cs_base.specs.Token.{Token}
use Rattle.cs_base.proofs.BoolLemmas.{both_true, not_true as not_false, or_other as or_false, or_met}
use Rattle.c99_tree.specs.Tree.{Forest, none, token, node}
use Rattle.c99_tree.specs.declared.production.Label.{Label}
use Rattle.c99_tree.specs.declared.production.Production.{Production}
use Rattle.c99_tree.specs.declared.production.Production.TheVariants.{ExtRest, InitDecl, FunBody, Main, Params, Primary, Post, Designator, SuRest, EnRest, Members, MemRest, Mdecl, Enumerators, Enumerator, Declarator, Param, Pdecl, Statement, Suffix, Block, Sub}
use Rattle.c99_tree.specs.contracts.production.ProductionPartialEq.TheImpl.{ghosts}
use Rattle.c_types.specs.declared.entity.EntityKind.TheVariants.{Typedef, Parameter}
use Rattle.c_types.specs.Types.{CType, adjusted, is_unknown, target_of}
use Rattle.c_types.specs.Trees.{is_node, is_at, is_list, name_below, last_token, declarator_type}
use Rattle.c_types.specs.Tags.{number_in, renumbered, is_same_tag, tag_entity, is_declaring, tag_declaration, tag_named, prior_tag, with_tag, is_complete, is_sort, enumeration_used}
use Rattle.c_types.specs.Declarations.{Facts, has_linkage, with_fault, with_use, with_declaration, with_begun, visible, in_scope, anywhere, linked, is_mixed}
use Rattle.name_chains.specs.Frames.{State}
use Rattle.name_chains.specs.Entering.{inner, scope_in, facts_in, entered}
use Rattle.name_chains.specs.Members.{with_silent, member_declaration, unnamed_declaration, lifted, found_of, with_member, with_lifted, with_anonymous, member_at, member_used_as, member_used}
use Rattle.scope_bind.specs.Named.{Cause, Declaration, Declared, Occurrence, Body, Frame, Scope, undeclared, redeclared, tag_redefined, mixed_linkage, designator_after_elision, ordinary, tags, members}
use Rattle.scope_bind.specs.Ordinary.{is_again, entity_of, is_listed, declaration_of, declared, used_as, used, is_func, plain_name, with_parameter}
use Rattle.scope_bind.specs.Roles.{role_if, role_of}
use Rattle.scope_bind.specs.Walk.{facts_at, passed, declared_in, parameter_in, facts_after, left, walked}
use Rattle.tree_laws.specs.TreesOfTexts.{token_count, AreFrom, has_form, have_forms}
use Rattle.tree_laws.proofs.TokenEnds.{begins_some}
use Rattle.reordered_tree_laws.specs.Adding.{has_no_list, within_of, is_adding_token, is_adding_declarator, is_adding_node, is_adding, IsAddedIn}
use Rattle.reordered_tree_laws.specs.Ranges.{has_range, IsAdded, IsFine}
use Rattle.reordered_tree_laws.specs.Premises.{is_scope, is_quiet_child, is_quiet}
use Rattle.reordered_tree_laws.specs.Lasting.{tags_pass, IsLast, IsQuiet, NamesLast}
use Rattle.reordered_tree_laws.proofs.OnlyAdding.{name_in, adds_after, adds_walk}
use Rattle.reordered_tree_laws.proofs.Ranges.{last_below, fine_walk}

no_range : {X : Type 0} → false ≡ true → X
no_range e = absurd (false≢true e)

-- what is so of what is noted behind is so of what was noted before
pub noted_before : (lo hi : ℕ) (P : Occurrence → Type 0) (f g : Facts) → IsAddedIn lo hi f g → All P g.occurrences → All P f.occurrences
noted_before lo hi P f g a all =
    let whole : All P (a.occurrences ++ f.occurrences) = subst (λ (os : List Occurrence). All P os) a.noted all in
    back a.occurrences whole
  where
    back : (os : List Occurrence) → All P (os ++ f.occurrences) → All P f.occurrences
    back [] h = h
    back (o ∷ os) h = back os (All-tail P o (os ++ f.occurrences) h)

-- Of declarations in a scope may be said what is so of those that may last in it, and of all that have no range.
module _ (toks : List Token) (Quiet : Declaration → Type 0) (lasting barred : ℕ → Bool) (around : Scope)
    (plain : (d : Declaration) → (has_range d.space ≡ true → IsLast lasting around.depth d × (d.to ≡ around.to)) → Quiet d) where
  abbrev AllQuiet : Facts → Type 0
  AllQuiet f = All Quiet f.declared

  abbrev Fresh : Occurrence → Type 0
  Fresh o = (o.declares && barred o.index) ≡ false

  quiet_fault : (c : Bool) (cause : Cause) (i : ℕ) (f : Facts) → AllQuiet f → AllQuiet (with_fault c cause i f)
  quiet_fault true cause i f a = a
  quiet_fault false cause i f a = a

  quiet_used : (i : ℕ) (r : Option Declaration) (f : Facts) → AllQuiet f → AllQuiet (used_as toks i r f)
  quiet_used i None f a = a
  quiet_used i (Some d) f a = a

  quiet_either : (c : Bool) (f g : Facts) → AllQuiet f → AllQuiet g → AllQuiet (if c then f else g)
  quiet_either true f g a b = a
  quiet_either false f g a b = b

  -- a tag that is barred is not declared
  quiet_tag_named : (fr : Frame) (i e u : ℕ) (f : Facts) (declares : Bool) (c : Bool) (cause : Cause) → barred i ≡ true
      → All Fresh (with_fault c cause i (if declares then with_begun fr.has_body e (with_declaration (tag_declaration fr.scope i e (renumbered fr.found e)) f) else with_use i u f)).occurrences
      → AllQuiet f → AllQuiet (if declares then with_begun fr.has_body e (with_declaration (tag_declaration fr.scope i e (renumbered fr.found e)) f) else with_use i u f)
  quiet_tag_named fr i e u f false c cause bar fresh a = a
  quiet_tag_named fr i e u f true c cause bar fresh a =
      let d : Declaration = tag_declaration fr.scope i e (renumbered fr.found e) in
      absurd (false≢true (sym (head fr.has_body c fresh) ∙ bar))
    where
      head : (begins wrong : Bool)
          → All Fresh (with_fault wrong cause i (with_begun begins e (with_declaration (tag_declaration fr.scope i e (renumbered fr.found e)) f))).occurrences → barred i ≡ false
      head true true h = All-head Fresh (record { index = i; entity = e; declares = true }) f.occurrences h
      head true false h = All-head Fresh (record { index = i; entity = e; declares = true }) f.occurrences h
      head false true h = All-head Fresh (record { index = i; entity = e; declares = true }) f.occurrences h
      head false false h = All-head Fresh (record { index = i; entity = e; declares = true }) f.occurrences h

  quiet_tag : (fr : Frame) (i : ℕ) (f : Facts) → barred i ≡ true → All Fresh (with_tag toks fr i f).occurrences → AllQuiet f → AllQuiet (with_tag toks fr i f)
  quiet_tag fr i f bar fresh a =
      let r : Option Declaration = prior_tag toks fr i f in
      let e : ℕ = tag_entity fr i f r in
      let wrong : Bool = option_map_or (λ d. not (is_same_tag fr f d)) r false in
      quiet_fault wrong tag_redefined i (tag_named fr i r e f)
      (quiet_tag_named fr i e (option_map_or (λ d. d.entity) r i) f (is_declaring fr r) wrong tag_redefined bar fresh a)

  quiet_enumeration : (fr : Frame) (i : ℕ) (r : Option Declaration) (f : Facts) → AllQuiet f → AllQuiet (enumeration_used fr i r f)
  quiet_enumeration fr i None f a = a
  quiet_enumeration fr i (Some d) f a =
      quiet_fault (not (is_complete f d)) undeclared i (with_fault (not (is_sort d.ctype fr.found)) tag_redefined i f)
      (quiet_fault (not (is_sort d.ctype fr.found)) tag_redefined i f a)

  quiet_member_used : (i : ℕ) (r : Option Declaration) (f : Facts) → AllQuiet f → AllQuiet (member_used_as toks i r f)
  quiet_member_used i None f a = a
  quiet_member_used i (Some d) f a = a

  quiet_designated : (c : Bool) (t : CType) (i : ℕ) (f : Facts) → AllQuiet f
      → AllQuiet (if c then with_fault true designator_after_elision i f else member_used toks t i f)
  quiet_designated true t i f a = a
  quiet_designated false t i f a = quiet_member_used i (member_at toks t i f) f a

  quiet_member : (fr : Frame) (under : Forest) (name : Option ℕ) (f : Facts) → AllQuiet f → AllQuiet (with_member toks fr under name f)
  quiet_member fr under None f a = a
  quiet_member fr under (Some i) f a =
      let g : Facts = with_fault (is_some (anywhere toks (members fr.owner) i f)) redeclared i f in
      All-cons Quiet (member_declaration fr i (last_token under i) (declarator_type fr.base under)) g.declared
      (plain (member_declaration fr i (last_token under i) (declarator_type fr.base under)) no_range)
      (quiet_fault (is_some (anywhere toks (members fr.owner) i f)) redeclared i f a)

  quiet_lifted : (owner : ℕ) (ds : List Declaration) (f : Facts) → AllQuiet f → AllQuiet (with_lifted toks owner ds f)
  quiet_lifted owner [] f a = a
  quiet_lifted owner (d ∷ ds) f a =
      let wrong : Bool = is_some (anywhere toks (members owner) d.name_at f) in
      let f1 : Facts = with_fault wrong redeclared d.name_at f in
      quiet_lifted owner ds (with_silent (lifted owner d) f1) (All-cons Quiet (lifted owner d) f1.declared (plain (lifted owner d) no_range) (quiet_fault wrong redeclared d.name_at f a))

  quiet_anonymous : (fr : Frame) (i : ℕ) (f : Facts) (c : Bool) → AllQuiet f
      → AllQuiet (if c then with_silent (unnamed_declaration fr i) (with_lifted toks fr.owner (found_of (number_in fr.base) f) f) else f)
  quiet_anonymous fr i f false a = a
  quiet_anonymous fr i f true a =
      All-cons Quiet (unnamed_declaration fr i) (with_lifted toks fr.owner (found_of (number_in fr.base) f) f).declared (plain (unnamed_declaration fr i) no_range)
      (quiet_lifted fr.owner (found_of (number_in fr.base) f) f a)

  quiet_declared : (scope : Scope) (n : Declared) (f : Facts) → scope ≡ around → lasting n.name_at ≡ true → AllQuiet f → AllQuiet (declared toks scope n f)
  quiet_declared scope n f same last a =
      let r : Option Declaration = in_scope toks ordinary scope.depth n.name_at n.last f in
      let mixed : Bool = has_linkage n.linkage && is_mixed toks n.linkage n.name_at f in
      let f1 : Facts = with_fault mixed mixed_linkage n.name_at f in
      let again : Bool = option_map_or (λ d. not (is_again n d)) r false in
      let f2 : Facts = with_fault again redeclared n.name_at f1 in
      let listed : Bool = n.listing && not (is_listed n r) in
      let f3 : Facts = with_fault listed undeclared n.name_at f2 in
      let d : Declaration = declaration_of scope n (entity_of n r (linked toks n.name_at f)) (n.listed || is_listed n r) in
      All-cons Quiet d f3.declared (plain d (λ e. (record { space = refl; name = last; depth = ap (λ (x : Scope). x.depth) same }, ap (λ (x : Scope). x.to) same)))
      (quiet_fault listed undeclared n.name_at f2 (quiet_fault again redeclared n.name_at f1 (quiet_fault mixed mixed_linkage n.name_at f a)))

  quiet_parameter_by : (scope : Scope) (i last : ℕ) (t : CType) (f : Facts) (c : Bool) → scope ≡ around → lasting i ≡ true → AllQuiet f
      → AllQuiet (declared toks scope (if c then plain_name toks i last Typedef t false else plain_name toks i last Parameter (adjusted t) false) f)
  quiet_parameter_by scope i last t f true same lasts a = quiet_declared scope (plain_name toks i last Typedef t false) f same lasts a
  quiet_parameter_by scope i last t f false same lasts a = quiet_declared scope (plain_name toks i last Parameter (adjusted t) false) f same lasts a

  quiet_parameter : (fr : Frame) (under : Forest) (name : Option ℕ) (f : Facts) → fr.scope ≡ around → option_map_or lasting name true ≡ true → AllQuiet f
      → AllQuiet (with_parameter toks fr under name f)
  quiet_parameter fr under None f same lasts a = a
  quiet_parameter fr under (Some i) f same lasts a =
      quiet_parameter_by fr.scope i (last_token under i) (declarator_type fr.base under) f fr.words.has_typedef same lasts a

  -- ---- A token

  pub quiet_token : (fr : Frame) (i : ℕ) (f : Facts) (p : Production) (x n : ℕ) → is_adding_token (λ j. true) p ≡ true → not (ghosts.eq p Params) ≡ true
      → (not (((ghosts.eq p SuRest && (x == 1)) || (ghosts.eq p EnRest && (x == 1))) && (n == 0)) || barred i) ≡ true
      → All Fresh (facts_at toks (role_of p x n) i fr f).occurrences → AllQuiet f → AllQuiet (facts_at toks (role_of p x n) i fr f)
  quiet_token fr i f p x n adds lists bar fresh a = by p adds lists bar fresh
    where
      primary : (c : Bool) → AllQuiet (facts_at toks (role_if c (role_of Primary 1 0)) i fr f)
      primary false = a
      primary true = quiet_either (is_func toks fr i) f (used toks i f) a (quiet_used i (visible toks ordinary i i f) f a)

      type_name : (c : Bool) → AllQuiet (facts_at toks (role_if c (role_of Main 4 0)) i fr f)
      type_name false = a
      type_name true = quiet_used i (visible toks ordinary i i f) f a

      tag : (c d : Bool) → (not ((c || false) && d) || barred i) ≡ true → All Fresh (facts_at toks (role_if (c && d) (role_of SuRest 1 0)) i fr f).occurrences
          → AllQuiet (facts_at toks (role_if (c && d) (role_of SuRest 1 0)) i fr f)
      tag true true b h = quiet_tag fr i f b h a
      tag true false b h = a
      tag false d b h = a

      enumeration_by : (c : Bool) → barred i ≡ true → All Fresh (if c then with_tag toks fr i f else enumeration_used fr i (visible toks tags i i f) f).occurrences
          → AllQuiet (if c then with_tag toks fr i f else enumeration_used fr i (visible toks tags i i f) f)
      enumeration_by true b h = quiet_tag fr i f b h a
      enumeration_by false b h = quiet_enumeration fr i (visible toks tags i i f) f a

      enumeration : (c d : Bool) → (not ((false || c) && d) || barred i) ≡ true → All Fresh (facts_at toks (role_if (c && d) (role_of EnRest 1 0)) i fr f).occurrences
          → AllQuiet (facts_at toks (role_if (c && d) (role_of EnRest 1 0)) i fr f)
      enumeration true true b h = enumeration_by fr.has_body b h
      enumeration true false b h = a
      enumeration false d b h = a

      member : (c d : Bool) → AllQuiet (facts_at toks (if c then role_of Post 3 1 else role_if d (role_of Post 4 1)) i fr f)
      member true d = quiet_member_used i (member_at toks fr.given i f) f a
      member false true = quiet_member_used i (member_at toks (target_of fr.given) i f) f a
      member false false = a

      designator : (c : Bool) → AllQuiet (facts_at toks (role_if c (role_of Designator 1 1)) i fr f)
      designator false = a
      designator true = quiet_designated (is_unknown fr.given) fr.given i f a

      by : (q : Production) → is_adding_token (λ j. true) q ≡ true → not (ghosts.eq q Params) ≡ true
          → (not (((ghosts.eq q SuRest && (x == 1)) || (ghosts.eq q EnRest && (x == 1))) && (n == 0)) || barred i) ≡ true
          → All Fresh (facts_at toks (role_of q x n) i fr f).occurrences → AllQuiet (facts_at toks (role_of q x n) i fr f)
      by Primary e l b h = primary (x == 1)
      by Main e l b h = type_name ((x == 4) && (n == 0))
      by SuRest e l b h = tag (x == 1) (n == 0) b h
      by EnRest e l b h = enumeration (x == 1) (n == 0) b h
      by Params e l b h = absurd (false≢true l)
      by Post e l b h = member ((x == 3) && (n == 1)) ((x == 4) && (n == 1))
      by Designator e l b h = designator ((x == 1) && (n == 1))
      by Statement e l b h = absurd (false≢true e)
      by _ e l b h = a

  -- ---- A node

  quiet_declarator : (p : Production) (within : Bool) (fr : Frame) (l : Label) (under : Forest) (f : Facts)
      → is_adding_declarator (λ i. true) p within l under ≡ true → AllQuiet f → AllQuiet (declared_in toks p fr l under f)
  quiet_declarator ExtRest within fr l under f e a = absurd (false≢true e)
  quiet_declarator InitDecl within fr l under f e a = absurd (false≢true e)
  quiet_declarator Mdecl within fr l under f e a = quiet_member fr under (name_below l under) f a
  quiet_declarator _ within fr l under f e a = a

  quiet_parameter_in : (p : Production) (fr : Frame) (l : Label) (under : Forest) (f : Facts) → fr.scope ≡ around
      → (ghosts.eq p Param ≡ true → option_map_or lasting (name_below l under) true ≡ true) → AllQuiet f → AllQuiet (parameter_in toks p fr l under f)
  quiet_parameter_in Param fr l under f same lasts a = quiet_parameter fr under (name_below l under) f same (lasts refl) a
  quiet_parameter_in _ fr l under f same lasts a = a

  pub quiet_after : (p : Production) (within : Bool) (fr : Frame) (l : Label) (first : ℕ) (under : Forest) (body : Option Body) (f : Facts) → fr.scope ≡ around
      → is_adding_node (λ i. true) p fr.label within l under ≡ true → not (ghosts.eq p Enumerator) ≡ true
      → (ghosts.eq p Pdecl ≡ true → ghosts.eq fr.label.production Param ≡ true → option_map_or lasting (name_below l under) true ≡ true)
      → AllQuiet f → AllQuiet (facts_after toks p first fr l under body f)
  quiet_after Declarator within fr l first under body f same e c lasts a = quiet_declarator fr.label.production within fr l under f e a
  quiet_after Pdecl within fr l first under body f same e c lasts a = quiet_parameter_in fr.label.production fr l under f same (lasts refl) a
  quiet_after Enumerator within fr l first under body f same e c lasts a = absurd (false≢true c)
  quiet_after MemRest within fr l first under body f same e c lasts a = by (l.alternative == 1)
    where
      by : (b : Bool) → AllQuiet (if b then with_anonymous toks fr first f else f)
      by true = quiet_anonymous fr first f fr.words.anonymous a
      by false = a
  quiet_after Members within fr l first under body f same e c lasts a = a
  quiet_after Enumerators within fr l first under body f same e c lasts a = a
  quiet_after FunBody within fr l first under body f same e c lasts a = absurd (false≢true e)
  quiet_after _ within fr l first under body f same e c lasts a = a

  pub quiet_enter : (p : Production) (within : Bool) (first : ℕ) (l : Label) (under : Forest) (fr : Frame) (f : Facts) → is_adding_node (λ i. true) p fr.label within l under ≡ true
      → AllQuiet f → AllQuiet (facts_in p first under fr f)
  quiet_enter FunBody within first l under fr f e a = absurd (false≢true e)
  quiet_enter _ within first l under fr f e a = a

-- ---- The walk

further_one : (P : Declaration → Type 0) (lasting : ℕ → Bool) (depth h k : ℕ) (d : Declaration) → h ≤ k → IsQuiet P lasting depth h d → IsQuiet P lasting depth k d
further_one P lasting depth h k d le f r = by (f r)
  where
    by : P d ⊎ ((d.to ≤ h) ⊎ IsLast lasting depth d) → P d ⊎ ((d.to ≤ k) ⊎ IsLast lasting depth d)
    by (inl p) = inl p
    by (inr (inl e)) = inr (inl (omega (arith, e, le)))
    by (inr (inr x)) = inr (inr x)

further_quiet : (P : Declaration → Type 0) (lasting : ℕ → Bool) (depth h k : ℕ) (ds : List Declaration) → h ≤ k → All (IsQuiet P lasting depth h) ds
    → All (IsQuiet P lasting depth k) ds
further_quiet P lasting depth h k ds le all =
    All-weaker (IsQuiet P lasting depth h) (IsQuiet P lasting depth k) (λ d x. further_one P lasting depth h k d le x) ds all

-- the parentheses of a list end what stands in them
ended : (P : Declaration → Type 0) (lasting : ℕ → Bool) (depth behind to : ℕ) (ds : List Declaration) → to ≤ behind
    → All (IsFine (IsQuiet P lasting depth behind) behind to) ds → All (IsQuiet P lasting depth behind) ds
ended P lasting depth behind to ds le all = All-weaker (IsFine (IsQuiet P lasting depth behind) behind to) (IsQuiet P lasting depth behind) one ds all
  where
    ends : (d : Declaration) → (d.to ≤ behind) ⊎ (d.to ≡ to) → d.to ≤ behind
    ends d (inl e) = e
    ends d (inr e) = omega (arith, e, le)

    by : (d : Declaration) → has_range d.space ≡ true → IsQuiet P lasting depth behind d ⊎ IsAdded behind to d → P d ⊎ ((d.to ≤ behind) ⊎ IsLast lasting depth d)
    by d r (inl f) = f r
    by d r (inr x) = inr (inl (ends d x.ends))

    one : (d : Declaration) → IsFine (IsQuiet P lasting depth behind) behind to d → IsQuiet P lasting depth behind d
    one d f r = by d r (f r)

pub list_ends : (p : Production) (l : Label) (under : Forest) (scope : Scope) → is_list l ≡ true → (ghosts.eq p Suffix && (l.alternative == 2)) ≡ true
    → (scope_in p l under scope).to ≡ last_token under 0
list_ends Suffix l under scope e h = ap (λ (c : Bool). (if c then inner scope (last_token under 0) else scope).to) e
list_ends _ l under scope e h = absurd (false≢true h)

pub same_scope : (p : Production) (l : Label) (under : Forest) (scope : Scope) → is_list l ≡ false → is_scope p ≡ false → scope_in p l under scope ≡ scope
same_scope Block l under scope e h = absurd (false≢true (sym h))
same_scope FunBody l under scope e h = absurd (false≢true (sym h))
same_scope Sub l under scope e h = absurd (false≢true (sym h))
same_scope Statement l under scope e h = absurd (false≢true (sym h))
same_scope Suffix l under scope e h = ap (λ (c : Bool). if c then inner scope (last_token under 0) else scope) e
same_scope _ l under scope e h = refl

module _ (toks : List Token) (lasting barred : ℕ → Bool) where
  quiet_walk : (f : Forest) (P : Declaration → Type 0) (within : Bool) (lo : ℕ) (s : State) → 1 ≤ lo → AreFrom lo f → have_forms f ≡ true
      → is_adding (λ i. true) within s.frame.label f ≡ true → is_quiet lasting s.frame.label f ≡ true → tags_pass barred s.frame.label s.frame.nth f ≡ true
      → All (λ (o : Occurrence). (o.declares && barred o.index) ≡ false) (walked toks f s).facts.occurrences
      → All (IsQuiet P lasting s.frame.scope.depth lo) s.facts.declared
      → All (IsQuiet P lasting s.frame.scope.depth (lo + token_count f)) (walked toks f s).facts.declared
  unfolding walked
  quiet_walk none P within lo s one w forms adds quiet tags fresh all = further_quiet P lasting s.frame.scope.depth lo (lo + 0) s.facts.declared (omega arith) all
  quiet_walk (token i rest) P within lo s one w forms adds quiet tags fresh all =
      let depth : ℕ = s.frame.scope.depth in
      let l : Label = s.frame.label in
      let s1 : State = passed toks i s in
      let p = and_parts (is_adding_token (λ j. true) l.production) (is_adding (λ j. true) within l rest) adds in
      let q = and_parts (not (is_node l Params)) (is_quiet lasting l rest) quiet in
      let b = and_parts (not ((is_at l SuRest 1 || is_at l EnRest 1) && (s.frame.nth == 0)) || barred i) (tags_pass barred l (s.frame.nth + 1) rest) tags in
      let more : IsAddedIn (lo + 1) (lo + 1 + token_count rest) s1.facts (walked toks rest s1).facts =
      adds_walk toks (lo + 1) (lo + 1 + token_count rest) rest within (lo + 1) s1 w.1 (omega arith) (omega arith) forms p.1 in
      let before = noted_before (lo + 1) (lo + 1 + token_count rest) (λ (o : Occurrence). (o.declares && barred o.index) ≡ false) s1.facts (walked toks rest s1).facts more fresh in
      let here : All (IsQuiet P lasting depth (lo + 1)) s1.facts.declared =
      quiet_token toks (IsQuiet P lasting depth (lo + 1)) lasting barred s.frame.scope (λ d x r. inr (inr ((x r).0))) s.frame i s.facts l.production l.alternative s.frame.nth p.0 q.0 b.0 before
      (further_quiet P lasting depth lo (lo + 1) s.facts.declared (omega arith) all) in
      further_quiet P lasting depth (lo + 1 + token_count rest) (lo + (token_count rest + 1)) (walked toks rest s1).facts.declared (omega arith)
      (quiet_walk rest P within (lo + 1) s1 (omega (arith, one)) w.1 forms p.1 q.1 b.1 fresh here)
  quiet_walk (node m first under rest) P within lo s one w forms adds quiet tags fresh all =
      let depth : ℕ = s.frame.scope.depth in
      let l : Label = s.frame.label in
      let behind : ℕ = lo + token_count under in
      let fs = and_parts (has_form m.production under) (have_forms under && have_forms rest) forms in
      let gs = and_parts (have_forms under) (have_forms rest) fs.1 in
      let here : Bool = is_adding_node (λ i. true) m.production l within m under in
      let below : Bool = is_adding (λ i. true) (within_of m.production within) m under in
      let more : Bool = is_adding (λ i. true) within l rest in
      let p = and_parts here (has_no_list m under && (below && more)) adds in
      let p1 = and_parts (has_no_list m under) (below && more) p.1 in
      let p2 = and_parts below more p1.1 in
      let q = and_parts (is_quiet_child lasting l m under) ((is_list m || is_quiet lasting m under) && is_quiet lasting l rest) quiet in
      let q1 = and_parts (is_list m || is_quiet lasting m under) (is_quiet lasting l rest) q.1 in
      let c = and_parts (not (is_node m Enumerator)) (not (is_scope m.production) && (not (is_node l Param && is_node m Pdecl) || option_map_or lasting (name_below m under) true)) q.0 in
      let c1 = and_parts (not (is_scope m.production)) (not (is_node l Param && is_node m Pdecl) || option_map_or lasting (name_below m under) true) c.1 in
      let b = and_parts (tags_pass barred m 0 under) (tags_pass barred l (s.frame.nth + 1) rest) tags in
      let s1 : State = entered toks m first under s in
      let s2 : State = walked toks under s1 in
      let s3 : State = left toks m first under s s2 in
      let F : Occurrence → Type 0 = λ (o : Occurrence). (o.declares && barred o.index) ≡ false in
      let later : IsAddedIn behind (behind + token_count rest) s3.facts (walked toks rest s3).facts =
      adds_walk toks behind (behind + token_count rest) rest within behind s3 w.2 (omega arith) (omega arith) gs.1 p2.1 in
      let fresh3 : All F s3.facts.occurrences = noted_before behind (behind + token_count rest) F s3.facts (walked toks rest s3).facts later fresh in
      let left_adds : IsAddedIn lo behind s2.facts s3.facts =
      adds_after toks lo behind m.production within s.frame m first under s2.frame.body s2.facts
      (λ i x. name_in m under lo i lo behind w.1 (omega arith) (omega arith) x) p.0 fs.0
      (λ begins. (omega (arith, w.0), omega (arith, w.0, begins_some under begins))) in
      let fresh2 : All F s2.facts.occurrences = noted_before lo behind F s2.facts s3.facts left_adds fresh3 in
      let in1 : All (IsQuiet P lasting depth lo) s1.facts.declared =
      quiet_enter toks (IsQuiet P lasting depth lo) lasting barred s.frame.scope (λ d x r. inr (inr ((x r).0))) m.production within first m under s.frame s.facts p.0 all in
      let in2 : All (IsQuiet P lasting depth behind) s2.facts.declared =
      elim (cases_Bool (is_list m)) [
        | inl is ↦
            let in1' : All (IsFine (IsQuiet P lasting depth behind) lo s1.frame.scope.to) s1.facts.declared =
            All-weaker (IsQuiet P lasting depth lo) (IsFine (IsQuiet P lasting depth behind) lo s1.frame.scope.to)
            (λ d x r. inl (further_one P lasting depth lo behind d (omega arith) x)) s1.facts.declared in1 in
            let to : s1.frame.scope.to ≡ last_token under 0 = list_ends m.production m under s.frame.scope is is in
            ended P lasting depth behind s1.frame.scope.to s2.facts.declared
            (omega (arith, to, last_below under lo 0 behind w.1 (omega arith) (omega (arith, one))))
            (fine_walk toks under (IsQuiet P lasting depth behind) lo s1 one w.1 gs.0 in1')
        | inr free ↦
            let same : s1.frame.scope.depth ≡ depth = ap (λ (x : Scope). x.depth) (same_scope m.production m under s.frame.scope free (not_false (is_scope m.production) c1.0)) in
            let inside : is_quiet lasting m under ≡ true = or_false (is_list m) (is_quiet lasting m under) q1.0 free in
            subst (λ (n : ℕ). All (IsQuiet P lasting n behind) s2.facts.declared) same
            (quiet_walk under P (within_of m.production within) lo s1 one w.1 gs.0 p2.0 inside b.0 fresh2
            (subst (λ (n : ℕ). All (IsQuiet P lasting n lo) s1.facts.declared) (sym same) in1))
      ] in
      let out3 : All (IsQuiet P lasting depth behind) s3.facts.declared =
      quiet_after toks (IsQuiet P lasting depth behind) lasting barred s.frame.scope (λ d x r. inr (inr ((x r).0))) m.production within s.frame m first under s2.frame.body s2.facts refl p.0 c.0
      (λ x y. or_met (is_node l Param && is_node m Pdecl) (option_map_or lasting (name_below m under) true) c1.1
      (both_true (is_node l Param) (is_node m Pdecl) y x)) in2 in
      further_quiet P lasting depth (behind + token_count rest) (lo + (token_count under + token_count rest)) (walked toks rest s3).facts.declared (omega arith)
      (quiet_walk rest P within behind s3 (omega (arith, one)) w.2 gs.1 p2.1 q1.1 b.1 fresh out3)

pub names_last : NamesLast
names_last old lasting barred toks f within lo s one w forms adds quiet tags fresh all =
    quiet_walk toks lasting barred f (λ d. old d ≡ true) within lo s one w forms adds quiet tags fresh
    (All-weaker (λ d. old d ≡ true) (IsQuiet (λ d. old d ≡ true) lasting s.frame.scope.depth lo) (λ d x r. inl x) s.facts.declared all)
