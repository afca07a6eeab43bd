-- A part of a unit none of whose tokens stands beside makes known nothing that does.
use Rattle.std.proofs.Common.{ℕ, zero, suc, ◌+◌, ◌≡◌, Bool, true, false, ◌&&◌, ◌||◌, not, cond, if◌then◌else◌, ◌==◌, List, [], ◌∷◌, ◌++◌, reverse, Option, None, Some, refl, ap, subst}
use mathlib.Core.List.{reverse-cons}
use Rattle.std.specs.Prelude.{IfSome, ◌%◌, codes, find, filter, filter_map, is_some, slice_get}
use Rattle.std.specs.List.{All, cons_option}
use Rattle.std.specs.Option.{option_map_or}
use Rattle.std.specs.Str.{bytes_eq}
use Rattle.std.proofs.lemmas.Bool.{and_parts}
use Rattle.std.proofs.lemmas.List.Elements.{All-nil, All-cons, All-head, All-tail, All-append, All-push, All-same, All-filter}
use Rattle.cs_base.specs.Token.{Token}
use Rattle.cs_base.proofs.BoolLemmas.{not_true as not_false}
use Rattle.c99_tree.specs.Tree.{Forest, none, token, node}
use Rattle.c99_tree.specs.declared.production.Label.{Label}
use Rattle.c99_tree.specs.declared.production.Production.{Production}
use Rattle.c99_tree.specs.declared.production.Production.TheVariants.{ExtRest, ExtTail, InitDecl, FunBody, Main, Specs, Params, Primary, Post, Designator, SuRest, EnRest, Members, MemRest, Mdecl, Enumerators, Enumerator, Declarator, Param, Pdecl, Statement, Init, InitItem, CastRest, SizeLit}
use Rattle.c_types.specs.declared.entity.EntityKind.TheVariants.{Typedef, Parameter, Enumerator as Constant}
use Rattle.c_types.specs.declared.frames.Position.{Position}
use Rattle.c_types.specs.declared.frames.Position.TheVariants.{Numbered, Lost, Beyond}
use Rattle.c_types.specs.Types.{CType, arithmetic, array, adjusted, structure, union, called, inner_of, is_array, is_unknown, unknown, target_of}
use Rattle.c_types.specs.Trees.{is_node, name_below, last_token, declarator_type, has_name, holds_name}
use Rattle.c_types.specs.Tags.{number_in, renumbered, is_same_tag, tag_entity, is_declaring, tag_declaration, tag_named, is_prior_tag, prior_tag, with_tag, tag_type, is_complete, is_sort, enumeration_used}
use Rattle.c_types.specs.Declarations.{Facts, has_linkage, with_fault, with_use, with_declaration, with_begun, visible, in_scope, anywhere, linked, is_mixed, is_named, is_live, looked_up, spelling_at}
use Rattle.name_chains.specs.Frames.{State}
use Rattle.name_chains.specs.Places.{is_member_of}
use Rattle.name_chains.specs.Initializers.{member_place, is_union_base, next_member, is_lost, next_place}
use Rattle.name_chains.specs.Entering.{is_member, owner_in, given_in, kept_here, with_kept, facts_in, found_in, entered}
use Rattle.name_chains.specs.Members.{with_silent, member_declaration, is_known, members_of, is_found_in, unnamed_declaration, lifted, found_of, with_member, with_lifted, with_anonymous, member_at, member_used_as, member_used, member_type}
use Rattle.scope_bind.specs.Named.{Cause, Space, Declaration, Declared, Body, Frame, Scope, Role, undeclared, redeclared, tag_redefined, mixed_linkage, designator_after_elision, ordinary, tags, members, labels}
use Rattle.scope_bind.specs.Ordinary.{is_again, linked_entity, entity_of, is_listed, declaration_of, declared, used_as, used, used_type, is_func, plain_name, with_parameter, new_object, with_object}
use Rattle.scope_bind.specs.Labels.{label_declaration, with_label, jump_to, with_jumps, with_labels}
use Rattle.scope_bind.specs.Roles.{role_if, role_of}
use Rattle.scope_bind.specs.Walk.{facts_at, found_at, passed, declared_in, parameter_in, facts_after, left, walked}
use Rattle.reordered_tree_laws.specs.Beside.{IsOwn, IsOwnFrame}
use Rattle.reordered_tree_laws.specs.Owned.{is_clear, IsOwnName, IsOwnState, PartsStayOwn}
use Rattle.reordered_tree_laws.proofs.OwnTypes.{own_if, own_adjusted, own_called, own_declarator, own_renumbered, own_after}

found_all : {X : Type 0} (P : X → Type 0) (q : X → Bool) (xs : List X) → All P xs → IfSome (find q xs) P
found_all P q [] h = tt
found_all P q (x ∷ xs) h = by (q x) (found_all P q xs (All-tail P x xs h))
  where
    by : (c : Bool) → IfSome (find q xs) P → IfSome (cond c (Some x) (find q xs)) P
    by true rest = All-head P x xs h
    by false rest = rest

reversed_all : {X : Type 0} (P : X → Type 0) (xs : List X) → All P xs → All P (reverse xs)
reversed_all P [] h = All-nil P
reversed_all P (x ∷ xs) h =
    All-same P (reverse (x ∷ xs)) (reverse xs ++ x ∷ []) (reverse-cons x xs)
    (All-push P (reverse xs) x (reversed_all P xs (All-tail P x xs h)) (All-head P x xs h))

all_at : {X : Type 0} (P : X → Type 0) (xs : List X) (n : ℕ) → All P xs → IfSome (slice_get xs n) P
all_at P [] n h = tt
all_at P (x ∷ xs) zero h = All-head P x xs h
all_at P (x ∷ xs) (suc n) h = all_at P xs n (All-tail P x xs h)

module _ (toks : List Token) (foreign : ℕ → Bool) (zero_own : foreign 0 ≡ false) where
  abbrev Own : Declaration → Type 0
  Own d = IsOwnName foreign d

  abbrev AllOwn : Facts → Type 0
  AllOwn f = All Own f.declared

  abbrev Mine : ℕ → Type 0
  Mine i = foreign i ≡ false

  abbrev Kind : CType → Type 0
  Kind t = IsOwn foreign t

  number_if : (c : Bool) (x y : ℕ) → Mine x → Mine y → Mine (if c then x else y)
  number_if true x y h k = h
  number_if false x y h k = k

  type_found : (r : Option Declaration) (other : CType) → Kind other → IfSome r Own → Kind (option_map_or (λ d. d.ctype) r other)
  type_found None other o h = o
  type_found (Some d) other o h = h.ctype

  some_if : (c : Bool) (r : Option Declaration) → IfSome r Own → IfSome (if c then r else None) Own
  some_if true r h = h
  some_if false r h = tt

  looked_all : (space : Space) (i : ℕ) (test : Declaration → Bool) (f : Facts) → AllOwn f → IfSome (looked_up toks space i test f) Own
  looked_all space i test f a = found_all Own (λ d. is_named toks space i d && test d) f.declared a

  -- ---- What is noted

  own_fault : (c : Bool) (cause : Cause) (i : ℕ) (f : Facts) → AllOwn f → AllOwn (with_fault c cause i f)
  own_fault true cause i f a = a
  own_fault false cause i f a = a

  own_begun : (c : Bool) (e : ℕ) (f : Facts) → AllOwn f → AllOwn (with_begun c e f)
  own_begun true e f a = a
  own_begun false e f a = a

  own_either : (c : Bool) (f g : Facts) → AllOwn f → AllOwn g → AllOwn (if c then f else g)
  own_either true f g a b = a
  own_either false f g a b = b

  own_used : (i : ℕ) (r : Option Declaration) (f : Facts) → AllOwn f → AllOwn (used_as toks i r f)
  own_used i None f a = a
  own_used i (Some d) f a = a

  own_used_type : (i : ℕ) (f : Facts) → AllOwn f → Kind (used_type toks i f)
  own_used_type i f a = type_found (visible toks ordinary i i f) arithmetic zero_own (looked_all ordinary i (is_live i) f a)

  linked_own : (n : Declared) (l : Option Declaration) → Mine n.name_at → IfSome l Own → Mine (linked_entity n l)
  linked_own n None o h = o
  linked_own n (Some d) o h = number_if (has_linkage n.linkage) d.entity n.name_at h.entity o

  entity_own : (n : Declared) (r l : Option Declaration) → Mine n.name_at → IfSome r Own → IfSome l Own → Mine (entity_of n r l)
  entity_own n None l o h k = linked_own n l o k
  entity_own n (Some d) l o h k = number_if (is_again n d) d.entity (linked_entity n l) h.entity (linked_own n l o k)

  own_declared : (scope : Scope) (n : Declared) (f : Facts) → Mine n.name_at → Kind n.ctype → AllOwn f → AllOwn (declared toks scope n f)
  own_declared scope n f o t a =
      let r : Option Declaration = in_scope toks ordinary scope.depth n.name_at n.last f in
      let l : Option Declaration = linked toks n.name_at f in
      let mixed : Bool = has_linkage n.linkage && is_mixed toks n.linkage n.name_at f in
      let f1 : Facts = with_fault mixed mixed_linkage n.name_at f in
      let again : Bool = option_map_or (λ d. not (is_again n d)) r false in
      let f2 : Facts = with_fault again redeclared n.name_at f1 in
      let listed : Bool = n.listing && not (is_listed n r) in
      let f3 : Facts = with_fault listed undeclared n.name_at f2 in
      let d : Declaration = declaration_of scope n (entity_of n r l) (n.listed || is_listed n r) in
      All-cons Own d f3.declared
      (record {
        ctype = t;
        entity = entity_own n r l o (looked_all ordinary n.name_at (λ d. is_live n.last d && (d.depth == scope.depth)) f a)
            (looked_all ordinary n.name_at (λ d. has_linkage d.linkage) f a);
        name = o;
        space = zero_own;
      })
      (own_fault listed undeclared n.name_at f2 (own_fault again redeclared n.name_at f1 (own_fault mixed mixed_linkage n.name_at f a)))

  own_parameter_by : (scope : Scope) (i last : ℕ) (t : CType) (f : Facts) (c : Bool) → Mine i → Kind t → AllOwn f
      → AllOwn (declared toks scope (if c then plain_name toks i last Typedef t false else plain_name toks i last Parameter (adjusted t) false) f)
  own_parameter_by scope i last t f true o k a = own_declared scope (plain_name toks i last Typedef t false) f o k a
  own_parameter_by scope i last t f false o k a = own_declared scope (plain_name toks i last Parameter (adjusted t) false) f o (own_adjusted foreign zero_own t k) a

  -- ---- Tags

  tag_entity_own : (fr : Frame) (i : ℕ) (f : Facts) (r : Option Declaration) → Mine i → IfSome r Own → Mine (tag_entity fr i f r)
  tag_entity_own fr i f None o h = o
  tag_entity_own fr i f (Some d) o h = number_if (is_same_tag fr f d) d.entity i h.entity o

  own_tag_named : (fr : Frame) (i e u : ℕ) (f : Facts) (declares : Bool) → Mine i → Mine e → Kind fr.found → AllOwn f
      → AllOwn (if declares then with_begun fr.has_body e (with_declaration (tag_declaration fr.scope i e (renumbered fr.found e)) f) else with_use i u f)
  own_tag_named fr i e u f true o p k a =
      let d : Declaration = tag_declaration fr.scope i e (renumbered fr.found e) in
      own_begun fr.has_body e (with_declaration d f)
      (All-cons Own d f.declared (record { ctype = own_renumbered foreign zero_own fr.found e k p; entity = p; name = o; space = zero_own }) a)
  own_tag_named fr i e u f false o p k a = a

  own_tag : (fr : Frame) (i : ℕ) (f : Facts) → Mine i → Kind fr.found → AllOwn f → AllOwn (with_tag toks fr i f)
  own_tag fr i f o k a =
      let r : Option Declaration = prior_tag toks fr i f in
      let e : ℕ = tag_entity fr i f r in
      own_fault (option_map_or (λ d. not (is_same_tag fr f d)) r false) tag_redefined i (tag_named fr i r e f)
      (own_tag_named fr i e (option_map_or (λ d. d.entity) r i) f (is_declaring fr r) o (tag_entity_own fr i f r o (looked_all tags i (is_prior_tag fr i) f a)) k a)

  own_tag_type : (fr : Frame) (i : ℕ) (f : Facts) → Mine i → Kind fr.found → AllOwn f → Kind (tag_type toks fr i f)
  own_tag_type fr i f o k a =
      own_renumbered foreign zero_own fr.found (tag_entity fr i f (prior_tag toks fr i f)) k
      (tag_entity_own fr i f (prior_tag toks fr i f) o (looked_all tags i (is_prior_tag fr i) f a))

  own_enumeration : (fr : Frame) (i : ℕ) (r : Option Declaration) (f : Facts) → AllOwn f → AllOwn (enumeration_used fr i r f)
  own_enumeration fr i None f a = a
  own_enumeration fr i (Some d) f a =
      own_fault (not (is_complete f d)) undeclared i (with_fault (not (is_sort d.ctype fr.found)) tag_redefined i f)
      (own_fault (not (is_sort d.ctype fr.found)) tag_redefined i f a)

  -- ---- Members and labels

  own_member_used : (i : ℕ) (r : Option Declaration) (f : Facts) → AllOwn f → AllOwn (member_used_as toks i r f)
  own_member_used i None f a = a
  own_member_used i (Some d) f a = a

  own_member_type : (t : CType) (i : ℕ) (other : CType) (f : Facts) → Kind other → AllOwn f → Kind (member_type toks t i other f)
  own_member_type t i other f o a =
      type_found (member_at toks t i f) other o
      (some_if (is_known t f) (anywhere toks (members (number_in t)) i f) (looked_all (members (number_in t)) i (λ d. true) f a))

  own_designated : (c : Bool) (t : CType) (i : ℕ) (f : Facts) → AllOwn f → AllOwn (if c then with_fault true designator_after_elision i f else member_used toks t i f)
  own_designated true t i f a = a
  own_designated false t i f a = own_member_used i (member_at toks t i f) f a

  own_once : (d : Declaration) (c : Bool) (i : ℕ) (f : Facts) → Own d → AllOwn f → AllOwn (with_declaration d (with_fault c redeclared i f))
  own_once d c i f o a = All-cons Own d (with_fault c redeclared i f).declared o (own_fault c redeclared i f a)

  own_lifted : (owner : ℕ) (ds : List Declaration) (f : Facts) → Mine owner → All Own ds → AllOwn f → AllOwn (with_lifted toks owner ds f)
  own_lifted owner [] f o all a = a
  own_lifted owner (d ∷ ds) f o all a =
      let wrong : Bool = is_some (anywhere toks (members owner) d.name_at f) in
      let f1 : Facts = with_fault wrong redeclared d.name_at f in
      let h : Own d = All-head Own d ds all in
      own_lifted owner ds (with_silent (lifted owner d) f1) o (All-tail Own d ds all)
      (All-cons Own (lifted owner d) f1.declared (record { ctype = h.ctype; entity = h.entity; name = h.name; space = o }) (own_fault wrong redeclared d.name_at f a))

  own_anonymous : (fr : Frame) (i : ℕ) (f : Facts) (c : Bool) → IsOwnFrame foreign fr → Mine i → AllOwn f
      → AllOwn (if c then with_silent (unnamed_declaration fr i) (with_lifted toks fr.owner (found_of (number_in fr.base) f) f) else f)
  own_anonymous fr i f false o w a = a
  own_anonymous fr i f true o w a =
      All-cons Own (unnamed_declaration fr i) (with_lifted toks fr.owner (found_of (number_in fr.base) f) f).declared
      (record { ctype = o.base; entity = w; name = w; space = o.owner })
      (own_lifted fr.owner (found_of (number_in fr.base) f) f o.owner
      (reversed_all Own (filter (is_found_in (number_in fr.base)) f.declared) (All-filter (is_found_in (number_in fr.base)) Own f.declared a)) a)

  own_label : (body : Option Body) (i : ℕ) (f : Facts) → Mine i → AllOwn f → AllOwn (with_label toks body i f)
  own_label None i f w a = a
  own_label (Some b) i f w a =
      own_once (label_declaration b i) (is_some (anywhere toks (labels b.from) i f)) i f (record { ctype = zero_own; entity = w; name = w; space = zero_own }) a

  own_jump : (i : ℕ) (r : Option Declaration) (f : Facts) → AllOwn f → AllOwn (jump_to toks i r f)
  own_jump i None f a = a
  own_jump i (Some d) f a = a

  own_jumps : (b : Body) (js : List ℕ) (f : Facts) → AllOwn f → AllOwn (with_jumps toks b js f)
  own_jumps b [] f a = a
  own_jumps b (i ∷ js) f a =
      own_jumps b js (jump_to toks i (anywhere toks (labels b.from) i f) f) (own_jump i (anywhere toks (labels b.from) i f) f a)

  own_labels : (body : Option Body) (f : Facts) → AllOwn f → AllOwn (with_labels toks body f)
  own_labels None f a = a
  own_labels (Some b) f a = own_jumps b f.jumps f a

  -- ---- Places in brace lists

  own_place : (t : CType) (n : ℕ) (f : Facts) → AllOwn f → Kind (member_place t n f)
  own_place t n f a =
      own_if foreign zero_own (is_known t f) (option_map_or (λ d. d.ctype) (slice_get (members_of (number_in t) f) n) arithmetic) arithmetic
      (type_found (slice_get (members_of (number_in t) f) n) arithmetic zero_own
      (all_at Own (members_of (number_in t) f) n
      (reversed_all Own (filter (is_member_of (number_in t)) f.declared) (All-filter (is_member_of (number_in t)) Own f.declared a)))) zero_own

  own_next_member : (t : CType) (at : Position) (f : Facts) → AllOwn f → Kind (next_member t at f)
  own_next_member t Lost f a = zero_own
  own_next_member t (Numbered n) f a =
      own_if foreign zero_own (is_union_base t.base && not (n == 0)) arithmetic (member_place t n f) zero_own (own_place t n f a)
  own_next_member t Beyond f a = zero_own

  own_next : (t : CType) (at : Position) (f : Facts) → Kind t → AllOwn f → Kind (next_place t at f)
  own_next t at f k a =
      own_if foreign zero_own (is_unknown t || is_lost at) unknown (if is_array t then inner_of t else next_member t at f) zero_own
      (own_if foreign zero_own (is_array t) (inner_of t) (next_member t at f) k (own_next_member t at f a))

  -- ---- A token

  record TokenOwn (r : Role) (i : ℕ) (fr : Frame) (f : Facts) : Type 0 where
    facts : AllOwn (facts_at toks r i fr f)
    found : Kind (found_at toks r i fr f)

  own_token : (fr : Frame) (i : ℕ) (f : Facts) (p : Production) (x n : ℕ) → IsOwnFrame foreign fr → Mine i → AllOwn f → TokenOwn (role_of p x n) i fr f
  own_token fr i f p x n o w a = by p
    where
      plain : TokenOwn (role_if false (role_of Primary 1 0)) i fr f
      plain = record { facts = a; found = o.found }

      primary : (c : Bool) → TokenOwn (role_if c (role_of Primary 1 0)) i fr f
      primary false = plain
      primary true = record {
        facts = own_either (is_func toks fr i) f (used toks i f) a (own_used i (visible toks ordinary i i f) f a);
        found = own_if foreign zero_own (is_func toks fr i) (array arithmetic) (used_type toks i f) zero_own (own_used_type i f a);
      }

      type_name : (c : Bool) → TokenOwn (role_if c (role_of Main 4 0)) i fr f
      type_name false = plain
      type_name true = record { facts = own_used i (visible toks ordinary i i f) f a; found = own_used_type i f a }

      tag : (c : Bool) → TokenOwn (role_if c (role_of SuRest 1 0)) i fr f
      tag false = plain
      tag true = record { facts = own_tag fr i f w o.found a; found = own_tag_type fr i f w o.found a }

      enumeration : (c : Bool) → TokenOwn (role_if c (role_of EnRest 1 0)) i fr f
      enumeration false = plain
      enumeration true = record {
        facts = own_either fr.has_body (with_tag toks fr i f) (enumeration_used fr i (visible toks tags i i f) f) (own_tag fr i f w o.found a)
            (own_enumeration fr i (visible toks tags i i f) f a);
        found = own_if foreign zero_own fr.has_body (tag_type toks fr i f) fr.found (own_tag_type fr i f w o.found a) o.found;
      }

      listed : (c : Bool) → TokenOwn (role_if c (role_of Params 1 0)) i fr f
      listed false = plain
      listed true = record { facts = own_declared fr.scope (plain_name toks i i Parameter arithmetic true) f w zero_own a; found = o.found }

      pointed : (c : Bool) → TokenOwn (role_if c (role_of Post 4 1)) i fr f
      pointed false = plain
      pointed true = record {
        facts = own_member_used i (member_at toks (target_of fr.given) i f) f a;
        found = own_member_type (target_of fr.given) i arithmetic f zero_own a;
      }

      member : (c d : Bool) → TokenOwn (if c then role_of Post 3 1 else role_if d (role_of Post 4 1)) i fr f
      member false d = pointed d
      member true d = record {
        facts = own_member_used i (member_at toks fr.given i f) f a;
        found = own_member_type fr.given i arithmetic f zero_own a;
      }

      designator : (c : Bool) → TokenOwn (role_if c (role_of Designator 1 1)) i fr f
      designator false = plain
      designator true = record {
        facts = own_designated (is_unknown fr.given) fr.given i f a;
        found = own_if foreign zero_own (is_unknown fr.given) unknown (member_type toks fr.given i unknown f) zero_own
            (own_member_type fr.given i unknown f zero_own a);
      }

      label : (c d : Bool) → TokenOwn (if c then role_of Statement 1 0 else role_if d (role_of Statement 10 1)) i fr f
      label true d = record { facts = own_label fr.body i f w a; found = o.found }
      label false true = record { facts = a; found = o.found }
      label false false = record { facts = a; found = o.found }

      by : (q : Production) → TokenOwn (role_of q x n) i fr f
      by Primary = primary (x == 1)
      by Main = type_name ((x == 4) && (n == 0))
      by SuRest = tag ((x == 1) && (n == 0))
      by EnRest = enumeration ((x == 1) && (n == 0))
      by Params = listed ((x == 1) && (n % 2 == 0))
      by Post = member ((x == 3) && (n == 1)) ((x == 4) && (n == 1))
      by Designator = designator ((x == 1) && (n == 1))
      by Statement = label ((x == 1) && (n == 0)) ((x == 10) && (n == 1))
      by _ = plain

  -- ---- A node is entered

  kept_step : (list depth from to : ℕ) (d : Declaration) (c : Bool) (ds : List Declaration) → Own d → All Own ds
      → All Own (cons_option (if c then Some (record d { from = from; to = to }) else None) ds)
  kept_step list depth from to d true ds h a =
      All-cons Own (record d { from = from; to = to }) ds (record { ctype = h.ctype; entity = h.entity; name = h.name; space = h.space }) a
  kept_step list depth from to d false ds h a = a

  kept_own : (list depth from to : ℕ) (ds : List Declaration) → All Own ds → All Own (filter_map (kept_here list depth from to) ds)
  kept_own list depth from to [] h = All-nil Own
  kept_own list depth from to (d ∷ ds) h =
      kept_step list depth from to d ((d.to == list) && ((d.depth == depth) && not (is_member d.space))) (filter_map (kept_here list depth from to) ds)
      (All-head Own d ds h) (kept_own list depth from to ds (All-tail Own d ds h))

  own_kept : (kept : Option ℕ) (depth from to : ℕ) (f : Facts) → AllOwn f → AllOwn (with_kept kept depth from to f)
  own_kept None depth from to f a = a
  own_kept (Some list) depth from to f a =
      All-append Own (filter_map (kept_here list depth from to) f.declared) f.declared (kept_own list depth from to f.declared a) a

  own_enter : (p : Production) (first : ℕ) (under : Forest) (fr : Frame) (f : Facts) → AllOwn f → AllOwn (facts_in p first under fr f)
  own_enter FunBody first under fr f a = own_kept fr.kept (fr.scope.depth + 1) first (last_token under 0) (record f { jumps = [] }) a
  own_enter _ first under fr f a = a

  found_own : (p : Production) (l : Label) (fr : Frame) (f : Facts) → IsOwnFrame foreign fr → AllOwn f → Kind (found_in toks p l fr f)
  found_own ExtTail l fr f o a = o.found
  found_own CastRest l fr f o a = o.found
  found_own SizeLit l fr f o a = o.found
  found_own Post l fr f o a = own_if foreign zero_own (l.alternative == 2) (called fr.found) fr.found (own_called foreign zero_own fr.found o.found) o.found
  found_own InitItem l fr f o a =
      own_if foreign zero_own (l.alternative == 1) fr.given (next_place fr.given fr.position f) o.given (own_next fr.given fr.position f o.given a)
  found_own Designator l fr f o a =
      own_if foreign zero_own (is_unknown fr.found) unknown (if is_array fr.found then inner_of fr.found else arithmetic) zero_own
      (own_if foreign zero_own (is_array fr.found) (inner_of fr.found) arithmetic o.found zero_own)
  found_own SuRest l fr f o a =
      own_if foreign zero_own (bytes_eq (spelling_at toks fr.token) (codes "union")) (union fr.token) (structure fr.token) o.token o.token
  found_own EnRest l fr f o a = o.token
  found_own Primary l fr f o a = own_if foreign zero_own (l.alternative == 4) (array arithmetic) arithmetic zero_own zero_own
  found_own _ l fr f o a = zero_own

  given_own : (p : Production) (fr : Frame) → IsOwnFrame foreign fr → Kind (given_in p fr)
  given_own ExtTail fr o = o.found
  given_own Init fr o = o.found
  given_own Designator fr o = o.found
  given_own CastRest fr o = o.found
  given_own SizeLit fr o = o.found
  given_own Post fr o = o.found
  given_own _ fr o = o.given

  owner_own : (p : Production) (fr : Frame) → IsOwnFrame foreign fr → Mine (owner_in p fr)
  owner_own Members fr o = o.found
  owner_own _ fr o = o.owner

  -- ---- A node is left

  name_own : (l : Label) (f : Forest) (i : ℕ) → is_clear foreign f ≡ true → name_below l f ≡ Some i → Mine i
  name_own l none i e h = absurd cc
  name_own l (token j rest) i e h =
      let p = and_parts (not (foreign j)) (is_clear foreign rest) e in
      by (has_name l) h (name_own l rest i p.1)
    where
      by : (c : Bool) → (if c then Some j else name_below l rest) ≡ Some i → (name_below l rest ≡ Some i → Mine i) → Mine i
      by true g rest_own = subst (λ (k : ℕ). Mine k) (ap (λ r. option_map_or (λ x. x) r 0) g) (not_false (foreign j) ((and_parts (not (foreign j)) (is_clear foreign rest) e).0))
      by false g rest_own = rest_own g
  name_own l (node m first under rest) i e h =
      let p = and_parts (not (foreign first)) (is_clear foreign under && is_clear foreign rest) e in
      let q = and_parts (is_clear foreign under) (is_clear foreign rest) p.1 in
      by (holds_name m.production) h (name_own m under i q.0) (name_own l rest i q.1)
    where
      by : (c : Bool) → (if c then name_below m under else name_below l rest) ≡ Some i → (name_below m under ≡ Some i → Mine i) → (name_below l rest ≡ Some i → Mine i) → Mine i
      by true g here later = here g
      by false g here later = later g

  abbrev OwnName : Option ℕ → Type 0
  OwnName name = (i : ℕ) → name ≡ Some i → Mine i

  own_object : (fr : Frame) (under : Forest) (name : Option ℕ) (f : Facts) → OwnName name → IsOwnFrame foreign fr → AllOwn f → AllOwn (with_object toks fr under name f)
  own_object fr under None f w o a = a
  own_object fr under (Some i) f w o a =
      let t : CType = declarator_type fr.base under in
      own_declared fr.scope (new_object toks fr i (last_token under i) t f) f (w i refl)
      (own_if foreign zero_own (fr.listing && not (fr.words.has_typedef)) (adjusted t) t (own_adjusted foreign zero_own t (own_declarator foreign zero_own fr.base under o.base))
      (own_declarator foreign zero_own fr.base under o.base)) a

  own_parameter : (fr : Frame) (under : Forest) (name : Option ℕ) (f : Facts) → OwnName name → IsOwnFrame foreign fr → AllOwn f → AllOwn (with_parameter toks fr under name f)
  own_parameter fr under None f w o a = a
  own_parameter fr under (Some i) f w o a =
      own_parameter_by fr.scope i (last_token under i) (declarator_type fr.base under) f fr.words.has_typedef (w i refl) (own_declarator foreign zero_own fr.base under o.base) a

  own_member : (fr : Frame) (under : Forest) (name : Option ℕ) (f : Facts) → OwnName name → IsOwnFrame foreign fr → AllOwn f → AllOwn (with_member toks fr under name f)
  own_member fr under None f w o a = a
  own_member fr under (Some i) f w o a =
      own_once (member_declaration fr i (last_token under i) (declarator_type fr.base under)) (is_some (anywhere toks (members fr.owner) i f)) i f
      (record { ctype = own_declarator foreign zero_own fr.base under o.base; entity = w i refl; name = w i refl; space = o.owner }) a

  own_declarator_in : (p : Production) (fr : Frame) (l : Label) (under : Forest) (f : Facts) → OwnName (name_below l under) → IsOwnFrame foreign fr → AllOwn f
      → AllOwn (declared_in toks p fr l under f)
  own_declarator_in ExtRest fr l under f w o a = own_object fr under (name_below l under) f w o a
  own_declarator_in InitDecl fr l under f w o a = own_object fr under (name_below l under) f w o a
  own_declarator_in Mdecl fr l under f w o a = own_member fr under (name_below l under) f w o a
  own_declarator_in _ fr l under f w o a = a

  own_parameter_in : (p : Production) (fr : Frame) (l : Label) (under : Forest) (f : Facts) → OwnName (name_below l under) → IsOwnFrame foreign fr → AllOwn f
      → AllOwn (parameter_in toks p fr l under f)
  own_parameter_in Param fr l under f w o a = own_parameter fr under (name_below l under) f w o a
  own_parameter_in _ fr l under f w o a = a

  own_leave : (p : Production) (fr : Frame) (l : Label) (first : ℕ) (under : Forest) (body : Option Body) (f : Facts) → OwnName (name_below l under) → Mine first
      → IsOwnFrame foreign fr → AllOwn f → AllOwn (facts_after toks p first fr l under body f)
  own_leave Declarator fr l first under body f w h o a = own_declarator_in fr.label.production fr l under f w o a
  own_leave Pdecl fr l first under body f w h o a = own_parameter_in fr.label.production fr l under f w o a
  own_leave Enumerator fr l first under body f w h o a =
      own_declared fr.scope (plain_name toks first (last_token under first) Constant arithmetic false) f h zero_own a
  own_leave MemRest fr l first under body f w h o a = by (l.alternative == 1)
    where
      by : (c : Bool) → AllOwn (if c then with_anonymous toks fr first f else f)
      by true = own_anonymous fr first f fr.words.anonymous o h a
      by false = a
  own_leave Members fr l first under body f w h o a = a
  own_leave Enumerators fr l first under body f w h o a = a
  own_leave FunBody fr l first under body f w h o a = own_labels body f a
  own_leave _ fr l first under body f w h o a = a

  -- ---- The walk

  pub passed_own : (i : ℕ) (s : State) → Mine i → IsOwnState foreign s → IsOwnState foreign (passed toks i s)
  passed_own i s w k =
      let t : TokenOwn (role_of s.frame.label.production s.frame.label.alternative s.frame.nth) i s.frame s.facts =
      own_token s.frame i s.facts s.frame.label.production s.frame.label.alternative s.frame.nth k.frame w k.declared in
      record {
        declared = t.facts;
        frame = record { base = k.frame.base; given = k.frame.given; found = t.found; token = w; owner = k.frame.owner };
      }

  pub entered_own : (l : Label) (first : ℕ) (under : Forest) (s : State) → IsOwnState foreign s → IsOwnState foreign (entered toks l first under s)
  entered_own l first under s k = record {
    declared = own_enter l.production first under s.frame s.facts k.declared;
    frame = record {
      base = k.frame.base;
      given = given_own l.production s.frame k.frame;
      found = found_own l.production l s.frame s.facts k.frame k.declared;
      token = k.frame.token;
      owner = owner_own l.production s.frame k.frame;
    };
  }

  pub left_own : (l : Label) (first : ℕ) (under : Forest) (s s' : State) → Mine first → ((i : ℕ) → name_below l under ≡ Some i → Mine i)
      → IsOwnState foreign s → IsOwnState foreign s' → IsOwnState foreign (left toks l first under s s')
  left_own l first under s s' w e k k' = record {
    declared = own_leave l.production s.frame l first under s'.frame.body s'.facts e w k.frame k'.declared;
    frame = record {
      base = own_if foreign zero_own (is_node l Specs) s'.frame.found s.frame.base k'.frame.found k.frame.base;
      given = k.frame.given;
      found = own_after foreign zero_own toks s.frame l under s'.frame k.frame k'.frame.found s.frame.label.production;
      token = k.frame.token;
      owner = k.frame.owner;
    };
  }

  pub own_walk : (f : Forest) (s : State) → is_clear foreign f ≡ true → IsOwnState foreign s → IsOwnState foreign (walked toks f s)
  unfolding walked
  own_walk none s e k = k
  own_walk (token i rest) s e k =
      let p = and_parts (not (foreign i)) (is_clear foreign rest) e in
      own_walk rest (passed toks i s) p.1 (passed_own i s (not_false (foreign i) p.0) k)
  own_walk (node l first under rest) s e k =
      let p = and_parts (not (foreign first)) (is_clear foreign under && is_clear foreign rest) e in
      let q = and_parts (is_clear foreign under) (is_clear foreign rest) p.1 in
      let s1 : State = entered toks l first under s in
      own_walk rest (left toks l first under s (walked toks under s1)) q.1
      (left_own l first under s (walked toks under s1) (not_false (foreign first) p.0) (λ i h. name_own l under i q.0 h) k (own_walk under s1 q.0 (entered_own l first under s k)))

pub parts_stay_own : PartsStayOwn
parts_stay_own toks foreign f s zero_own e k = own_walk toks foreign zero_own f s e k
