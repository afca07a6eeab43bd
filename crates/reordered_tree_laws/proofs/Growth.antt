-- What is noted stays so to the end of the unit, and so does a fault; and each member is declared as one.
use Rattle.std.proofs.Common.{ℕ, ◌+◌, ◌≡◌, Bool, true, false, ◌&&◌, ◌||◌, not, if◌then◌else◌, ◌==◌, List, [], ◌∷◌, ◌++◌, reverse, cond, Option, None, Some, refl, sym, subst, ◌∙◌}
use Rattle.std.specs.Prelude.{◌%◌, filter, filter_map, is_some}
use Rattle.std.specs.List.{All, cons_option}
use Rattle.std.specs.Option.{option_map_or}
use mathlib.Core.List.{reverse-cons}
use Rattle.std.proofs.lemmas.Bool.{false≢true}
use Rattle.std.proofs.lemmas.List.Elements.{All-nil, All-cons, All-head, All-tail, All-append, All-push, All-same}
use Rattle.cs_base.specs.Token.{Token}
use Rattle.c99_tree.specs.Tree.{Forest, none, token, node}
use Rattle.c99_tree.specs.declared.production.Label.{Label}
use Rattle.c99_tree.specs.declared.production.Production.{Production}
use Rattle.c99_tree.specs.declared.production.Production.TheVariants.{ExtRest, InitDecl, FunBody, Main, Params, Primary, Post, Designator, SuRest, EnRest, Members, MemRest, Mdecl, Enumerators, Enumerator, Declarator, Param, Pdecl, Statement}
use Rattle.c_types.specs.declared.entity.EntityKind.TheVariants.{Member, Enumerator as Constant, Parameter, Typedef}
use Rattle.c_types.specs.declared.entity.Linkage.TheVariants.{Absent}
use Rattle.c_types.specs.declared.declarations.Space.TheVariants.{Ordinary, Tags, Members as OfMembers, Inner, Unnamed, Labels}
use Rattle.c_types.specs.Faults.{first_fault, comes_first}
use Rattle.c_types.specs.Types.{CType, arithmetic, adjusted, is_unknown, target_of}
use Rattle.c_types.specs.Trees.{name_below, last_token, declarator_type}
use Rattle.c_types.specs.Tags.{number_in, renumbered, is_same_tag, tag_entity, is_declaring, tag_declaration, tag_named, prior_tag, with_tag, is_complete, is_sort, enumeration_used}
use Rattle.c_types.specs.Declarations.{Facts, has_linkage, is_space, with_fault, with_use, with_declaration, with_begun, visible, in_scope, anywhere, linked, is_mixed}
use Rattle.name_chains.specs.Frames.{State}
use Rattle.name_chains.specs.Entering.{is_member, kept_here, with_kept, facts_in, entered}
use Rattle.name_chains.specs.Members.{with_silent, member_declaration, is_found_in, unnamed_declaration, lifted, found_of, with_member, with_lifted, with_anonymous, member_at, member_used_as, member_used}
use Rattle.scope_bind.specs.Named.{Cause, Fault, Space, Declaration, Declared, Occurrence, Body, Frame, Scope, undeclared, redeclared, tag_redefined, mixed_linkage, no_member, no_label, designator_after_elision, ordinary, tags, members, labels}
use Rattle.scope_bind.specs.Ordinary.{is_again, entity_of, is_listed, declaration_of, declared, used_as, used, is_func, plain_name, with_parameter, new_object, with_object}
use Rattle.scope_bind.specs.Labels.{label_declaration, with_label, jump_to, with_jumps, with_labels}
use Rattle.scope_bind.specs.Roles.{role_if, role_of}
use Rattle.scope_bind.specs.Walk.{facts_at, passed, declared_in, parameter_in, facts_after, left, walked}
use Rattle.reordered_tree_laws.specs.Going.{IsToldMember}

reversed_all : {X : Type 0} (P : X → Type 0) (xs : List X) → All P xs → All P (reverse xs)
reversed_all P [] h = All-nil P
reversed_all P (x ∷ xs) h =
    All-same P (reverse (x ∷ xs)) (reverse xs ++ x ∷ []) (reverse-cons x xs)
    (All-push P (reverse xs) x (reversed_all P xs (All-tail P x xs h)) (All-head P x xs h))

found_member : (n : ℕ) (s : Space) → is_space s (members n) ≡ true → is_member s ≡ true
found_member n Ordinary e = absurd (false≢true e)
found_member n Tags e = absurd (false≢true e)
found_member n (OfMembers k) e = refl
found_member n (Inner k) e = refl
found_member n (Unnamed k) e = absurd (false≢true e)
found_member n (Labels k) e = absurd (false≢true e)

module _ (toks : List Token) (P : Occurrence → Type 0) where
  -- of what is noted later all passes only where all that was noted before does, a fault stays, and members stay told
  pub record Grows (f g : Facts) : Type 0 where
    pub earlier : All P g.occurrences → All P f.occurrences
    pub clean : g.fault ≡ None → f.fault ≡ None
    pub members : All IsToldMember f.declared → All IsToldMember g.declared

  pub grows_none : (f : Facts) → Grows f f
  grows_none f = record { earlier = λ a. a; clean = λ e. e; members = λ a. a }

  pub grows_then : (f g h : Facts) → Grows f g → Grows g h → Grows f h
  grows_then f g h k w = record { earlier = λ a. k.earlier (w.earlier a); clean = λ e. k.clean (w.clean e); members = λ a. w.members (k.members a) }

  fault_by : (c : Bool) (x y : Fault) → (if c then Some x else Some y) ≡ None → ⊥
  fault_by true x y e = cc
  fault_by false x y e = cc

  fault_none : (o : Option Fault) (x : Fault) → first_fault o x ≡ None → o ≡ None
  fault_none None x e = refl
  fault_none (Some y) x e = absurd (fault_by (comes_first x y) x y e)

  grows_fault : (c : Bool) (cause : Cause) (i : ℕ) (f : Facts) → Grows f (with_fault c cause i f)
  grows_fault true cause i f = record { earlier = λ a. a; clean = λ e. fault_none f.fault (record { cause = cause; index = i }) e; members = λ a. a }
  grows_fault false cause i f = grows_none f

  grows_use : (i e : ℕ) (f : Facts) → Grows f (with_use i e f)
  grows_use i e f = record { earlier = λ a. All-tail P (record { index = i; entity = e; declares = false }) f.occurrences a; clean = λ e. e; members = λ a. a }

  grows_silent : (d : Declaration) (f : Facts) → IsToldMember d → Grows f (with_silent d f)
  grows_silent d f t = record { earlier = λ a. a; clean = λ e. e; members = λ a. All-cons IsToldMember d f.declared t a }

  grows_declaration : (d : Declaration) (f : Facts) → IsToldMember d → Grows f (with_declaration d f)
  grows_declaration d f t = record {
    earlier = λ a. All-tail P (record { index = d.name_at; entity = d.entity; declares = true }) f.occurrences a;
    clean = λ e. e;
    members = λ a. All-cons IsToldMember d f.declared t a;
  }

  grows_begun : (c : Bool) (e : ℕ) (f : Facts) → Grows f (with_begun c e f)
  grows_begun true e f = record { earlier = λ a. a; clean = λ e. e; members = λ a. a }
  grows_begun false e f = grows_none f

  grows_either : (c : Bool) (f g h : Facts) → Grows f g → Grows f h → Grows f (if c then g else h)
  grows_either true f g h k w = k
  grows_either false f g h k w = w

  grows_used : (i : ℕ) (r : Option Declaration) (f : Facts) → Grows f (used_as toks i r f)
  grows_used i None f = grows_fault true undeclared i f
  grows_used i (Some d) f = grows_use i d.entity f

  no_member_told : {X : Type 0} → false ≡ true → X
  no_member_told e = absurd (false≢true e)

  grows_declared : (scope : Scope) (n : Declared) (f : Facts) → Grows f (declared toks scope n f)
  grows_declared scope n f =
      let r : Option Declaration = in_scope toks ordinary scope.depth n.name_at n.last f in
      let mixed : Bool = has_linkage n.linkage && is_mixed toks n.linkage n.name_at f in
      let f1 : Facts = with_fault mixed mixed_linkage n.name_at f in
      let again : Bool = option_map_or (λ d. not (is_again n d)) r false in
      let f2 : Facts = with_fault again redeclared n.name_at f1 in
      let listed : Bool = n.listing && not (is_listed n r) in
      let f3 : Facts = with_fault listed undeclared n.name_at f2 in
      let d : Declaration = declaration_of scope n (entity_of n r (linked toks n.name_at f)) (n.listed || is_listed n r) in
      grows_then f f1 (with_declaration d f3) (grows_fault mixed mixed_linkage n.name_at f)
      (grows_then f1 f2 (with_declaration d f3) (grows_fault again redeclared n.name_at f1)
      (grows_then f2 f3 (with_declaration d f3) (grows_fault listed undeclared n.name_at f2) (grows_declaration d f3 (λ e. no_member_told e))))

  grows_object : (fr : Frame) (under : Forest) (name : Option ℕ) (f : Facts) → Grows f (with_object toks fr under name f)
  grows_object fr under None f = grows_none f
  grows_object fr under (Some i) f = grows_declared fr.scope (new_object toks fr i (last_token under i) (declarator_type fr.base under) f) f

  grows_parameter_by : (scope : Scope) (i last : ℕ) (t : CType) (f : Facts) (c : Bool)
      → Grows f (declared toks scope (if c then plain_name toks i last Typedef t false else plain_name toks i last Parameter (adjusted t) false) f)
  grows_parameter_by scope i last t f true = grows_declared scope (plain_name toks i last Typedef t false) f
  grows_parameter_by scope i last t f false = grows_declared scope (plain_name toks i last Parameter (adjusted t) false) f

  grows_parameter : (fr : Frame) (under : Forest) (name : Option ℕ) (f : Facts) → Grows f (with_parameter toks fr under name f)
  grows_parameter fr under None f = grows_none f
  grows_parameter fr under (Some i) f = grows_parameter_by fr.scope i (last_token under i) (declarator_type fr.base under) f fr.words.has_typedef

  -- ---- Tags

  grows_tag_named : (fr : Frame) (i e u : ℕ) (f : Facts) (declares : Bool)
      → Grows f (if declares then with_begun fr.has_body e (with_declaration (tag_declaration fr.scope i e (renumbered fr.found e)) f) else with_use i u f)
  grows_tag_named fr i e u f true =
      let d : Declaration = tag_declaration fr.scope i e (renumbered fr.found e) in
      grows_then f (with_declaration d f) (with_begun fr.has_body e (with_declaration d f)) (grows_declaration d f (λ w. no_member_told w)) (grows_begun fr.has_body e (with_declaration d f))
  grows_tag_named fr i e u f false = grows_use i u f

  grows_tag : (fr : Frame) (i : ℕ) (f : Facts) → Grows f (with_tag toks fr i f)
  grows_tag fr i f =
      let r : Option Declaration = prior_tag toks fr i f in
      let e : ℕ = tag_entity fr i f r in
      let wrong : Bool = option_map_or (λ d. not (is_same_tag fr f d)) r false in
      grows_then f (tag_named fr i r e f) (with_fault wrong tag_redefined i (tag_named fr i r e f))
      (grows_tag_named fr i e (option_map_or (λ d. d.entity) r i) f (is_declaring fr r)) (grows_fault wrong tag_redefined i (tag_named fr i r e f))

  grows_enumeration : (fr : Frame) (i : ℕ) (r : Option Declaration) (f : Facts) → Grows f (enumeration_used fr i r f)
  grows_enumeration fr i None f = grows_fault true undeclared i f
  grows_enumeration fr i (Some d) f =
      let f1 : Facts = with_fault (not (is_sort d.ctype fr.found)) tag_redefined i f in
      let f2 : Facts = with_fault (not (is_complete f d)) undeclared i f1 in
      grows_then f f1 (with_use i d.entity f2) (grows_fault (not (is_sort d.ctype fr.found)) tag_redefined i f)
      (grows_then f1 f2 (with_use i d.entity f2) (grows_fault (not (is_complete f d)) undeclared i f1) (grows_use i d.entity f2))

  -- ---- Members and labels

  grows_member_used : (i : ℕ) (r : Option Declaration) (f : Facts) → Grows f (member_used_as toks i r f)
  grows_member_used i None f = grows_fault true no_member i f
  grows_member_used i (Some d) f = grows_use i d.entity f

  grows_designated : (c : Bool) (t : CType) (i : ℕ) (f : Facts) → Grows f (if c then with_fault true designator_after_elision i f else member_used toks t i f)
  grows_designated true t i f = grows_fault true designator_after_elision i f
  grows_designated false t i f = grows_member_used i (member_at toks t i f) f

  grows_once : (d : Declaration) (c : Bool) (i : ℕ) (f : Facts) → IsToldMember d → Grows f (with_declaration d (with_fault c redeclared i f))
  grows_once d c i f t =
      grows_then f (with_fault c redeclared i f) (with_declaration d (with_fault c redeclared i f)) (grows_fault c redeclared i f)
      (grows_declaration d (with_fault c redeclared i f) t)

  grows_member : (fr : Frame) (under : Forest) (name : Option ℕ) (f : Facts) → Grows f (with_member toks fr under name f)
  grows_member fr under None f = grows_none f
  grows_member fr under (Some i) f =
      grows_once (member_declaration fr i (last_token under i) (declarator_type fr.base under)) (is_some (anywhere toks (members fr.owner) i f)) i f (λ e. (refl, refl))

  grows_lifted : (owner : ℕ) (ds : List Declaration) (f : Facts) → All (λ (d : Declaration). (d.kind ≡ Member) × (d.linkage ≡ Absent)) ds → Grows f (with_lifted toks owner ds f)
  grows_lifted owner [] f all = grows_none f
  grows_lifted owner (d ∷ ds) f all =
      let wrong : Bool = is_some (anywhere toks (members owner) d.name_at f) in
      let f1 : Facts = with_fault wrong redeclared d.name_at f in
      let T : Declaration → Type 0 = λ (x : Declaration). (x.kind ≡ Member) × (x.linkage ≡ Absent) in
      let h : T d = All-head T d ds all in
      grows_then f f1 (with_lifted toks owner ds (with_silent (lifted owner d) f1)) (grows_fault wrong redeclared d.name_at f)
      (grows_then f1 (with_silent (lifted owner d) f1) (with_lifted toks owner ds (with_silent (lifted owner d) f1)) (grows_silent (lifted owner d) f1 (λ e. h))
      (grows_lifted owner ds (with_silent (lifted owner d) f1) (All-tail T d ds all)))

  -- what is found in a structure is told so
  found_told : (n : ℕ) (ds : List Declaration) → All IsToldMember ds → All (λ (d : Declaration). (d.kind ≡ Member) × (d.linkage ≡ Absent)) (filter (is_found_in n) ds)
  found_told n [] a = All-nil (λ (d : Declaration). (d.kind ≡ Member) × (d.linkage ≡ Absent))
  found_told n (d ∷ ds) a = by (is_found_in n d) (λ e. All-head IsToldMember d ds a (found_member n d.space e)) (found_told n ds (All-tail IsToldMember d ds a))
    where
      by : (c : Bool) → (c ≡ true → (d.kind ≡ Member) × (d.linkage ≡ Absent)) → All (λ (x : Declaration). (x.kind ≡ Member) × (x.linkage ≡ Absent)) (filter (is_found_in n) ds)
          → All (λ (x : Declaration). (x.kind ≡ Member) × (x.linkage ≡ Absent)) (cond c (d ∷ filter (is_found_in n) ds) (filter (is_found_in n) ds))
      by true f rest = All-cons (λ (x : Declaration). (x.kind ≡ Member) × (x.linkage ≡ Absent)) d (filter (is_found_in n) ds) (f refl) rest
      by false f rest = rest

  -- names of an anonymous member are not noted anew
  lifted_earlier : (owner : ℕ) (ds : List Declaration) (f : Facts) → (with_lifted toks owner ds f).occurrences ≡ f.occurrences
  lifted_earlier owner [] f = refl
  lifted_earlier owner (d ∷ ds) f =
      lifted_earlier owner ds (with_silent (lifted owner d) (with_fault (is_some (anywhere toks (members owner) d.name_at f)) redeclared d.name_at f))
      ∙ by (is_some (anywhere toks (members owner) d.name_at f))
    where
      by : (c : Bool) → (with_fault c redeclared d.name_at f).occurrences ≡ f.occurrences
      by true = refl
      by false = refl

  lifted_clean : (owner : ℕ) (ds : List Declaration) (f : Facts) → (with_lifted toks owner ds f).fault ≡ None → f.fault ≡ None
  lifted_clean owner [] f e = e
  lifted_clean owner (d ∷ ds) f e =
      let wrong : Bool = is_some (anywhere toks (members owner) d.name_at f) in
      let f1 : Facts = with_fault wrong redeclared d.name_at f in
      (grows_fault wrong redeclared d.name_at f).clean (lifted_clean owner ds (with_silent (lifted owner d) f1) e)

  grows_anonymous : (fr : Frame) (i : ℕ) (f : Facts) (c : Bool)
      → Grows f (if c then with_silent (unnamed_declaration fr i) (with_lifted toks fr.owner (found_of (number_in fr.base) f) f) else f)
  grows_anonymous fr i f false = grows_none f
  grows_anonymous fr i f true =
      let n : ℕ = number_in fr.base in
      let f1 : Facts = with_lifted toks fr.owner (found_of n f) f in
      let T : Declaration → Type 0 = λ (x : Declaration). (x.kind ≡ Member) × (x.linkage ≡ Absent) in
      record {
        earlier = λ a. subst (λ (os : List Occurrence). All P os) (lifted_earlier fr.owner (found_of n f) f) a;
        clean = λ e. lifted_clean fr.owner (found_of n f) f e;
        members = λ a.
            All-cons IsToldMember (unnamed_declaration fr i) f1.declared (λ e. (refl, refl))
            ((grows_lifted fr.owner (found_of n f) f (reversed_all T (filter (is_found_in n) f.declared) (found_told n f.declared a))).members a);
      }

  grows_label : (body : Option Body) (i : ℕ) (f : Facts) → Grows f (with_label toks body i f)
  grows_label None i f = grows_none f
  grows_label (Some b) i f = grows_once (label_declaration b i) (is_some (anywhere toks (labels b.from) i f)) i f (λ e. no_member_told e)

  grows_jump : (i : ℕ) (r : Option Declaration) (f : Facts) → Grows f (jump_to toks i r f)
  grows_jump i None f = grows_fault true no_label i f
  grows_jump i (Some d) f = grows_use i d.entity f

  grows_jumps : (b : Body) (js : List ℕ) (f : Facts) → Grows f (with_jumps toks b js f)
  grows_jumps b [] f = grows_none f
  grows_jumps b (i ∷ js) f =
      let f1 : Facts = jump_to toks i (anywhere toks (labels b.from) i f) f in
      grows_then f f1 (with_jumps toks b js f1) (grows_jump i (anywhere toks (labels b.from) i f) f) (grows_jumps b js f1)

  grows_labels : (body : Option Body) (f : Facts) → Grows f (with_labels toks body f)
  grows_labels None f = grows_none f
  grows_labels (Some b) f = grows_jumps b f.jumps f

  -- ---- A token

  grows_token : (fr : Frame) (i : ℕ) (f : Facts) (p : Production) (x n : ℕ) → Grows f (facts_at toks (role_of p x n) i fr f)
  grows_token fr i f p x n = by p
    where
      primary : (c : Bool) → Grows f (facts_at toks (role_if c (role_of Primary 1 0)) i fr f)
      primary false = grows_none f
      primary true = grows_either (is_func toks fr i) f f (used toks i f) (grows_none f) (grows_used i (visible toks ordinary i i f) f)

      type_name : (c : Bool) → Grows f (facts_at toks (role_if c (role_of Main 4 0)) i fr f)
      type_name false = grows_none f
      type_name true = grows_used i (visible toks ordinary i i f) f

      tag : (c : Bool) → Grows f (facts_at toks (role_if c (role_of SuRest 1 0)) i fr f)
      tag false = grows_none f
      tag true = grows_tag fr i f

      enumeration : (c : Bool) → Grows f (facts_at toks (role_if c (role_of EnRest 1 0)) i fr f)
      enumeration false = grows_none f
      enumeration true =
          grows_either fr.has_body f (with_tag toks fr i f) (enumeration_used fr i (visible toks tags i i f) f) (grows_tag fr i f)
          (grows_enumeration fr i (visible toks tags i i f) f)

      listed : (c : Bool) → Grows f (facts_at toks (role_if c (role_of Params 1 0)) i fr f)
      listed false = grows_none f
      listed true = grows_declared fr.scope (plain_name toks i i Parameter arithmetic true) f

      pointed : (c : Bool) → Grows f (facts_at toks (role_if c (role_of Post 4 1)) i fr f)
      pointed false = grows_none f
      pointed true = grows_member_used i (member_at toks (target_of fr.given) i f) f

      member : (c d : Bool) → Grows f (facts_at toks (if c then role_of Post 3 1 else role_if d (role_of Post 4 1)) i fr f)
      member false d = pointed d
      member true d = grows_member_used i (member_at toks fr.given i f) f

      designator : (c : Bool) → Grows f (facts_at toks (role_if c (role_of Designator 1 1)) i fr f)
      designator false = grows_none f
      designator true = grows_designated (is_unknown fr.given) fr.given i f

      label : (c d : Bool) → Grows f (facts_at toks (if c then role_of Statement 1 0 else role_if d (role_of Statement 10 1)) i fr f)
      label true d = grows_label fr.body i f
      label false true = record { earlier = λ a. a; clean = λ e. e; members = λ a. a }
      label false false = grows_none f

      by : (q : Production) → Grows f (facts_at toks (role_of q x n) i fr f)
      by Primary = primary (x == 1)
      by Main = type_name ((x == 4) && (n == 0))
      by SuRest = tag ((x == 1) && (n == 0))
      by EnRest = enumeration ((x == 1) && (n == 0))
      by Params = listed ((x == 1) && (n % 2 == 0))
      by Post = member ((x == 3) && (n == 1)) ((x == 4) && (n == 1))
      by Designator = designator ((x == 1) && (n == 1))
      by Statement = label ((x == 1) && (n == 0)) ((x == 10) && (n == 1))
      by _ = grows_none f

  -- ---- A node is entered

  kept_step : (from to : ℕ) (d : Declaration) (c : Bool) (ds : List Declaration) → IsToldMember d → All IsToldMember ds
      → All IsToldMember (cons_option (if c then Some (record d { from = from; to = to }) else None) ds)
  kept_step from to d true ds h a = All-cons IsToldMember (record d { from = from; to = to }) ds h a
  kept_step from to d false ds h a = a

  kept_told : (list depth from to : ℕ) (ds : List Declaration) → All IsToldMember ds → All IsToldMember (filter_map (kept_here list depth from to) ds)
  kept_told list depth from to [] h = All-nil IsToldMember
  kept_told list depth from to (d ∷ ds) h =
      kept_step from to d ((d.to == list) && ((d.depth == depth) && not (is_member d.space))) (filter_map (kept_here list depth from to) ds)
      (All-head IsToldMember d ds h) (kept_told list depth from to ds (All-tail IsToldMember d ds h))

  grows_kept : (kept : Option ℕ) (depth from to : ℕ) (f g : Facts) → g.occurrences ≡ f.occurrences → g.declared ≡ f.declared
      → g.fault ≡ f.fault → Grows f (with_kept kept depth from to g)
  grows_kept None depth from to f g e h w = record {
    earlier = λ a. subst (λ (os : List Occurrence). All P os) e a;
    clean = λ x. sym w ∙ x;
    members = λ a. subst (λ (ds : List Declaration). All IsToldMember ds) (sym h) a;
  }
  grows_kept (Some list) depth from to f g e h w = record {
    earlier = λ a. subst (λ (os : List Occurrence). All P os) e a;
    clean = λ x. sym w ∙ x;
    members = λ a.
        let b : All IsToldMember g.declared = subst (λ (ds : List Declaration). All IsToldMember ds) (sym h) a in
        All-append IsToldMember (filter_map (kept_here list depth from to) g.declared) g.declared (kept_told list depth from to g.declared b) b;
  }

  grows_enter : (p : Production) (first : ℕ) (under : Forest) (fr : Frame) (f : Facts) → Grows f (facts_in p first under fr f)
  grows_enter FunBody first under fr f = grows_kept fr.kept (fr.scope.depth + 1) first (last_token under 0) f (record f { jumps = [] }) refl refl refl
  grows_enter _ first under fr f = grows_none f

  -- ---- A node is left

  grows_declarator : (p : Production) (fr : Frame) (l : Label) (under : Forest) (f : Facts) → Grows f (declared_in toks p fr l under f)
  grows_declarator ExtRest fr l under f = grows_object fr under (name_below l under) f
  grows_declarator InitDecl fr l under f = grows_object fr under (name_below l under) f
  grows_declarator Mdecl fr l under f = grows_member fr under (name_below l under) f
  grows_declarator _ fr l under f = grows_none f

  grows_parameter_in : (p : Production) (fr : Frame) (l : Label) (under : Forest) (f : Facts) → Grows f (parameter_in toks p fr l under f)
  grows_parameter_in Param fr l under f = grows_parameter fr under (name_below l under) f
  grows_parameter_in _ fr l under f = grows_none f

  grows_after : (p : Production) (fr : Frame) (l : Label) (first : ℕ) (under : Forest) (body : Option Body) (f : Facts) → Grows f (facts_after toks p first fr l under body f)
  grows_after Declarator fr l first under body f = grows_declarator fr.label.production fr l under f
  grows_after Pdecl fr l first under body f = grows_parameter_in fr.label.production fr l under f
  grows_after Enumerator fr l first under body f = grows_declared fr.scope (plain_name toks first (last_token under first) Constant arithmetic false) f
  grows_after MemRest fr l first under body f = by (l.alternative == 1)
    where
      by : (c : Bool) → Grows f (if c then with_anonymous toks fr first f else f)
      by true = grows_anonymous fr first f fr.words.anonymous
      by false = grows_none f
  grows_after Members fr l first under body f = record { earlier = λ a. a; clean = λ e. e; members = λ a. a }
  grows_after Enumerators fr l first under body f = record { earlier = λ a. a; clean = λ e. e; members = λ a. a }
  grows_after FunBody fr l first under body f = grows_labels body f
  grows_after _ fr l first under body f = grows_none f

  -- ---- The walk

  pub passed_grows : (i : ℕ) (s : State) → Grows s.facts (passed toks i s).facts
  passed_grows i s = grows_token s.frame i s.facts s.frame.label.production s.frame.label.alternative s.frame.nth

  pub entered_grows : (l : Label) (first : ℕ) (under : Forest) (s : State) → Grows s.facts (entered toks l first under s).facts
  entered_grows l first under s = grows_enter l.production first under s.frame s.facts

  pub left_grows : (l : Label) (first : ℕ) (under : Forest) (s s' : State) → Grows s'.facts (left toks l first under s s').facts
  left_grows l first under s s' = grows_after l.production s.frame l first under s'.frame.body s'.facts

  pub walked_grows : (f : Forest) (s : State) → Grows s.facts (walked toks f s).facts
  unfolding walked
  walked_grows none s = grows_none s.facts
  walked_grows (token i rest) s =
      grows_then s.facts (passed toks i s).facts (walked toks rest (passed toks i s)).facts (passed_grows i s) (walked_grows rest (passed toks i s))
  walked_grows (node l first under rest) s =
      let s1 : State = entered toks l first under s in
      let s2 : State = walked toks under s1 in
      let s3 : State = left toks l first under s s2 in
      grows_then s.facts s1.facts (walked toks rest s3).facts (entered_grows l first under s)
      (grows_then s1.facts s2.facts (walked toks rest s3).facts (walked_grows under s1)
      (grows_then s2.facts s3.facts (walked toks rest s3).facts (left_grows l first under s s2) (walked_grows rest s3)))
