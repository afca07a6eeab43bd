-- The steps of the walk, whatever stands beside: a token, a node that is entered, and one that is left.
use Rattle.std.proofs.Common.{ℕ, ◌+◌, ◌≡◌, Bool, true, false, ◌&&◌, if◌then◌else◌, ◌==◌, ◌%◌, List, Option, refl, ap, ◌∙◌}
use Rattle.std.specs.Prelude.{codes}
use Rattle.std.proofs.lemmas.Bool.{false≢true}
use Rattle.cs_base.specs.Token.{Token}
use Rattle.c99_tree.specs.Tree.{Forest}
use Rattle.c99_tree.specs.declared.production.Label.{Label}
use Rattle.c99_tree.specs.declared.production.Production.{Production}
use Rattle.c99_tree.specs.declared.production.Production.TheVariants.{ExtRest, ExtTail, Main, Params, Statement, FunBody, InitDecl, Specs, Members, MemRest, Mdecl, SuRest, EnRest, Enumerators, Enumerator, Declarator, Param, Pdecl, Init, InitItem, Designator, CastRest, SizeLit, Primary, Post}
use Rattle.c_types.specs.declared.entity.EntityKind.TheVariants.{Parameter, Enumerator as Constant}
use Rattle.c_types.specs.Types.{arithmetic, array, structure, union, called, inner_of, is_array, is_unknown, unknown, target_of}
use Rattle.c_types.specs.Trees.{is_node, name_below, last_token}
use Rattle.c_types.specs.Tags.{number_in, tag_type}
use Rattle.c_types.specs.Declarations.{Facts, spelling_at}
use Rattle.name_chains.specs.Frames.{State, state}
use Rattle.name_chains.specs.Members.{with_anonymous}
use Rattle.name_chains.specs.Initializers.{next_place}
use Rattle.name_chains.specs.Entering.{owner_in, given_in, facts_in, found_in, frame_in, entered}
use Rattle.scope_bind.specs.Named.{Declaration, Occurrence, Body, Frame, Role}
use Rattle.scope_bind.specs.Ordinary.{is_func, used_type}
use Rattle.scope_bind.specs.Roles.{role_if, role_of}
use Rattle.scope_bind.specs.Walk.{facts_at, found_at, position_at, passed_as, declared_in, parameter_in, facts_after, frame_after}
use Rattle.std.specs.Str.{bytes_eq}
use Rattle.reordered_tree_laws.specs.Beside.{is_free_tag, is_free_use, is_free_name, is_free_token, is_free_node, is_free_parameter, is_free_declarator, IsOwn, IsOwnFrame, AreBeside, StandBeside}
use Rattle.reordered_tree_laws.proofs.Beside.{complete_beside, jump_beside}
use Rattle.reordered_tree_laws.proofs.OwnTypes.{own_if, own_target, own_called, own_after}
use Rattle.reordered_tree_laws.proofs.BesideNames.{free_tag, free_use, used_beside, type_beside, used_type_own, named_beside, named_type_beside, free_name, declared_beside, parameter_beside, tag_beside, tag_type_beside, tag_type_own, enumeration_beside, enumeration_type_beside}
use Rattle.reordered_tree_laws.proofs.BesideMembers.{label_beside, member_beside, member_used_beside, member_type_same, member_type_own, next_same, next_own, designated_beside, designated_type_same, designated_type_own, designated_position_same, anonymous_beside}

module _ (toks : List Token) (foreign : ℕ → Bool) (zero_own : foreign 0 ≡ false) (ds es : List Declaration) (bs cs : List Occurrence) where
  abbrev Next : Facts → Facts → Type 0
  Next f g = AreBeside foreign ds es bs cs f g

  module _ (fr : Frame) (o : IsOwnFrame foreign fr) (f g : Facts) (k : Next f g) where
    -- ---- A token

    record TokenBeside (r : Role) (i : ℕ) : Type 0 where
      facts : Next (facts_at toks r i fr f) (facts_at toks r i fr g)
      found : found_at toks r i fr g ≡ found_at toks r i fr f
      position : position_at toks r i fr g ≡ position_at toks r i fr f
      owned : IsOwn foreign (found_at toks r i fr f)

    type_own_if : (i : ℕ) (c : Bool) → IsOwn foreign (used_type toks i f) → IsOwn foreign (if c then array arithmetic else used_type toks i f)
    type_own_if i c h = own_if foreign zero_own c (array arithmetic) (used_type toks i f) zero_own h

    plain_beside : (i : ℕ) → TokenBeside (role_if false (role_of Primary 1 0)) i
    plain_beside i = record { facts = k; found = refl; position = refl; owned = o.found }

    primary_beside : (i : ℕ) (c : Bool) → (if c then is_free_use foreign toks ds i else true) ≡ true → (if c then is_free_use foreign toks es i else true) ≡ true
        → TokenBeside (role_if c (role_of Primary 1 0)) i
    primary_beside i false p q = plain_beside i
    primary_beside i true p q =
        let u = free_use toks foreign zero_own ds es bs cs f g k i p q in
        record {
          facts = named_beside toks foreign zero_own ds es bs cs f g k i (is_func toks fr i) u;
          found = named_type_beside toks foreign zero_own ds es bs cs f g k i (is_func toks fr i) u;
          position = refl;
          owned = type_own_if i (is_func toks fr i) (used_type_own toks foreign zero_own ds es bs cs f g k i u);
        }

    type_name_beside : (i : ℕ) (c : Bool) → (if c then is_free_use foreign toks ds i else true) ≡ true → (if c then is_free_use foreign toks es i else true) ≡ true
        → TokenBeside (role_if c (role_of Main 4 0)) i
    type_name_beside i false p q = plain_beside i
    type_name_beside i true p q =
        let u = free_use toks foreign zero_own ds es bs cs f g k i p q in
        record {
          facts = used_beside toks foreign zero_own ds es bs cs f g k i u;
          found = type_beside toks foreign zero_own ds es bs cs f g k i u;
          position = refl;
          owned = used_type_own toks foreign zero_own ds es bs cs f g k i u;
        }

    listed_beside : (i : ℕ) (c : Bool) → (if c then is_free_name foreign toks ds fr.scope i i else true) ≡ true
        → (if c then is_free_name foreign toks es fr.scope i i else true) ≡ true → TokenBeside (role_if c (role_of Params 1 0)) i
    listed_beside i false p q = plain_beside i
    listed_beside i true p q =
        let free = free_name toks foreign zero_own ds es bs cs f g k fr.scope i i p q in
        record {
          facts = declared_beside toks foreign zero_own ds es bs cs f g k fr.scope i i Parameter arithmetic true free.0 free.1 zero_own;
          found = refl;
          position = refl;
          owned = o.found;
        }

    tags_beside : (i : ℕ) → foreign i ≡ false → (c : Bool) → (if c then is_free_tag foreign toks ds i else true) ≡ true
        → (if c then is_free_tag foreign toks es i else true) ≡ true → TokenBeside (role_if c (role_of SuRest 1 0)) i
    tags_beside i mine false p q = plain_beside i
    tags_beside i mine true p q = record {
      facts = tag_beside toks foreign zero_own ds es bs cs f g k fr o i mine (free_tag toks foreign zero_own ds es bs cs f g k i p q);
      found = tag_type_beside toks foreign zero_own ds es bs cs f g k fr o i mine (free_tag toks foreign zero_own ds es bs cs f g k i p q);
      position = refl;
      owned = tag_type_own toks foreign zero_own ds es bs cs f g k fr o i mine (free_tag toks foreign zero_own ds es bs cs f g k i p q);
    }

    enumeration_tags_beside : (i : ℕ) → foreign i ≡ false → (c : Bool) → (if c then is_free_tag foreign toks ds i else true) ≡ true
        → (if c then is_free_tag foreign toks es i else true) ≡ true → TokenBeside (role_if c (role_of EnRest 1 0)) i
    enumeration_tags_beside i mine false p q = plain_beside i
    enumeration_tags_beside i mine true p q = record {
      facts = enumeration_beside toks foreign zero_own ds es bs cs f g k fr o i mine (free_tag toks foreign zero_own ds es bs cs f g k i p q) fr.has_body;
      found = enumeration_type_beside toks foreign zero_own ds es bs cs f g k fr o i mine (free_tag toks foreign zero_own ds es bs cs f g k i p q) fr.has_body;
      position = refl;
      owned = own_if foreign zero_own fr.has_body (tag_type toks fr i f) fr.found (tag_type_own toks foreign zero_own ds es bs cs f g k fr o i mine (free_tag toks foreign zero_own ds es bs cs f g k i p q)) o.found;
    }

    pointed_beside : (i : ℕ) (c : Bool) → TokenBeside (role_if c (role_of Post 4 1)) i
    pointed_beside i false = plain_beside i
    pointed_beside i true =
        let t = own_target foreign zero_own fr.given o.given in
        record {
          facts = member_used_beside toks foreign zero_own ds es bs cs f g k (target_of fr.given) t i;
          found = member_type_same toks foreign zero_own ds es bs cs f g k (target_of fr.given) t i arithmetic;
          position = refl;
          owned = member_type_own toks foreign zero_own ds es bs cs f g k (target_of fr.given) t i arithmetic zero_own;
        }

    members_beside : (i : ℕ) (c d : Bool) → TokenBeside (if c then role_of Post 3 1 else role_if d (role_of Post 4 1)) i
    members_beside i false d = pointed_beside i d
    members_beside i true d = record {
      facts = member_used_beside toks foreign zero_own ds es bs cs f g k fr.given o.given i;
      found = member_type_same toks foreign zero_own ds es bs cs f g k fr.given o.given i arithmetic;
      position = refl;
      owned = member_type_own toks foreign zero_own ds es bs cs f g k fr.given o.given i arithmetic zero_own;
    }

    designators_beside : (i : ℕ) (c : Bool) → TokenBeside (role_if c (role_of Designator 1 1)) i
    designators_beside i false = plain_beside i
    designators_beside i true = record {
      facts = designated_beside toks foreign zero_own ds es bs cs f g k fr.given o.given i (is_unknown fr.given);
      found = designated_type_same toks foreign zero_own ds es bs cs f g k fr.given o.given i;
      position = designated_position_same toks foreign zero_own ds es bs cs f g k fr.given o.given i fr.position;
      owned = designated_type_own toks foreign zero_own ds es bs cs f g k fr.given o.given i;
    }

    jumps_beside : (i : ℕ) (c : Bool) → TokenBeside (role_if c (role_of Statement 10 1)) i
    jumps_beside i false = plain_beside i
    jumps_beside i true = record { facts = jump_beside foreign ds es bs cs i f g k; found = refl; position = refl; owned = o.found }

    labels_beside : (i : ℕ) → foreign i ≡ false → (c d : Bool) → TokenBeside (if c then role_of Statement 1 0 else role_if d (role_of Statement 10 1)) i
    labels_beside i mine false d = jumps_beside i d
    labels_beside i mine true d = record {
      facts = label_beside toks foreign zero_own ds es bs cs f g k fr.body i mine;
      found = refl;
      position = refl;
      owned = o.found;
    }

    token_beside : (i : ℕ) → foreign i ≡ false → (p : Production) (a n : ℕ) → is_free_token foreign toks ds p a n fr.scope i ≡ true
        → is_free_token foreign toks es p a n fr.scope i ≡ true → TokenBeside (role_of p a n) i
    token_beside i mine Primary a n d e = primary_beside i (a == 1) d e
    token_beside i mine Main a n d e = type_name_beside i ((a == 4) && (n == 0)) d e
    token_beside i mine SuRest a n d e = tags_beside i mine ((a == 1) && (n == 0)) d e
    token_beside i mine EnRest a n d e = enumeration_tags_beside i mine ((a == 1) && (n == 0)) d e
    token_beside i mine Params a n d e = listed_beside i ((a == 1) && (n % 2 == 0)) d e
    token_beside i mine Post a n d e = members_beside i ((a == 3) && (n == 1)) ((a == 4) && (n == 1))
    token_beside i mine Designator a n d e = designators_beside i ((a == 1) && (n == 1))
    token_beside i mine Statement a n d e = labels_beside i mine ((a == 1) && (n == 0)) ((a == 10) && (n == 1))
    token_beside i mine _ a n d e = plain_beside i

    abbrev Stand : State → State → Type 0
    Stand s t = StandBeside foreign ds es bs cs s t

    pub passed_beside : (i : ℕ) (p : Production) (a n : ℕ) → foreign i ≡ false → is_free_token foreign toks ds p a n fr.scope i ≡ true
        → is_free_token foreign toks es p a n fr.scope i ≡ true → Stand (passed_as toks (role_of p a n) i (state f fr)) (passed_as toks (role_of p a n) i (state g fr))
    passed_beside i p a n mine d e =
        let r : Role = role_of p a n in
        let b : TokenBeside r i = token_beside i mine p a n d e in
        record {
          facts = b.facts;
          frame = ap (λ x. record fr { nth = fr.nth + 1; token = i; found = x; position = position_at toks r i fr g }) b.found
              ∙ ap (λ x. record fr { nth = fr.nth + 1; token = i; found = found_at toks r i fr f; position = x }) b.position;
          owned = record { base = o.base; given = o.given; found = b.owned; token = mine; owner = o.owner };
        }

    -- ---- A node is entered

    facts_in_beside : (p q : Production) (l : Label) (first : ℕ) (under : Forest) → is_free_node foreign toks ds p q l first under fr.scope ≡ true
        → Next (facts_in p first under fr f) (facts_in p first under fr g)
    facts_in_beside FunBody q l first under e = absurd (false≢true e)
    facts_in_beside _ q l first under e = k

    found_in_same : (p : Production) (l : Label) → found_in toks p l fr g ≡ found_in toks p l fr f
    found_in_same InitItem l =
        ap (λ x. if l.alternative == 1 then fr.given else x) (next_same toks foreign zero_own ds es bs cs f g k fr.given o.given fr.position)
    found_in_same _ l = refl

    found_in_own : (p : Production) (l : Label) → IsOwn foreign (found_in toks p l fr f)
    found_in_own ExtTail l = o.found
    found_in_own CastRest l = o.found
    found_in_own SizeLit l = o.found
    found_in_own Post l = own_if foreign zero_own (l.alternative == 2) (called fr.found) fr.found (own_called foreign zero_own fr.found o.found) o.found
    found_in_own InitItem l =
        own_if foreign zero_own (l.alternative == 1) fr.given (next_place fr.given fr.position f) o.given
        (next_own toks foreign zero_own ds es bs cs f g k fr.given o.given fr.position)
    found_in_own Designator l =
        own_if foreign zero_own (is_unknown fr.found) unknown (if is_array fr.found then inner_of fr.found else arithmetic) zero_own
        (own_if foreign zero_own (is_array fr.found) (inner_of fr.found) arithmetic o.found zero_own)
    found_in_own SuRest l = own_if foreign zero_own (bytes_eq (spelling_at toks fr.token) (codes "union")) (union fr.token) (structure fr.token) o.token o.token
    found_in_own EnRest l = o.token
    found_in_own Primary l = own_if foreign zero_own (l.alternative == 4) (array arithmetic) arithmetic zero_own zero_own
    found_in_own _ l = zero_own

    given_own : (p : Production) → IsOwn foreign (given_in p fr)
    given_own ExtTail = o.found
    given_own Init = o.found
    given_own Designator = o.found
    given_own CastRest = o.found
    given_own SizeLit = o.found
    given_own Post = o.found
    given_own _ = o.given

    owner_own : (p : Production) → foreign (owner_in p fr) ≡ false
    owner_own Members = o.found
    owner_own _ = o.owner

    pub entered_beside : (q : Production) (l : Label) (first : ℕ) (under : Forest) → is_free_node foreign toks ds l.production q l first under fr.scope ≡ true
        → Stand (entered toks l first under (state f fr)) (entered toks l first under (state g fr))
    entered_beside q l first under e = record {
      facts = facts_in_beside l.production q l first under e;
      frame = ap (λ x. record (frame_in toks l under fr f) { found = x }) (found_in_same l.production l);
      owned = record {
        base = o.base;
        given = given_own l.production;
        found = found_in_own l.production l;
        token = o.token;
        owner = owner_own l.production;
      };
    }

    -- ---- A node is left

    declared_in_beside : (p : Production) (l : Label) (under : Forest) → is_free_declarator foreign toks ds p l under ≡ true
        → Next (declared_in toks p fr l under f) (declared_in toks p fr l under g)
    declared_in_beside ExtRest l under e = absurd (false≢true e)
    declared_in_beside InitDecl l under e = absurd (false≢true e)
    declared_in_beside Mdecl l under e = member_beside toks foreign zero_own ds es bs cs f g k fr under (name_below l under) o e
    declared_in_beside _ l under e = k

    parameter_in_beside : (p : Production) (l : Label) (under : Forest) → is_free_parameter foreign toks ds p l under fr.scope ≡ true
        → is_free_parameter foreign toks es p l under fr.scope ≡ true → Next (parameter_in toks p fr l under f) (parameter_in toks p fr l under g)
    parameter_in_beside Param l under d e = parameter_beside toks foreign zero_own ds es bs cs f g k fr under (name_below l under) o d e
    parameter_in_beside _ l under d e = k

    pub after_beside : (p : Production) (l : Label) (first : ℕ) (under : Forest) (body : Option Body) → foreign first ≡ false
        → is_free_node foreign toks ds p fr.label.production l first under fr.scope ≡ true
        → is_free_node foreign toks es p fr.label.production l first under fr.scope ≡ true
        → Next (facts_after toks p first fr l under body f) (facts_after toks p first fr l under body g)
    after_beside Declarator l first under body mine d e = declared_in_beside fr.label.production l under d
    after_beside Pdecl l first under body mine d e = parameter_in_beside fr.label.production l under d e
    after_beside Enumerator l first under body mine d e =
        let free = free_name toks foreign zero_own ds es bs cs f g k fr.scope first (last_token under first) d e in
        declared_beside toks foreign zero_own ds es bs cs f g k fr.scope first (last_token under first) Constant arithmetic false free.0 free.1 zero_own
    after_beside MemRest l first under body mine d e = by (l.alternative == 1)
      where
        by : (c : Bool) → Next (if c then with_anonymous toks fr first f else f) (if c then with_anonymous toks fr first g else g)
        by true = anonymous_beside toks foreign zero_own ds es bs cs fr first o mine f g k fr.words.anonymous
        by false = k
    after_beside Members l first under body mine d e = complete_beside foreign ds es bs cs (number_in fr.found) f g k
    after_beside Enumerators l first under body mine d e = complete_beside foreign ds es bs cs (number_in fr.found) f g k
    after_beside FunBody l first under body mine d e = absurd (false≢true d)
    after_beside _ l first under body mine d e = k

  pub frame_own : (fr : Frame) (o : IsOwnFrame foreign fr) (l : Label) (under : Forest) (child : Frame) → IsOwnFrame foreign child → IsOwnFrame foreign (frame_after toks fr l under child)
  frame_own fr o l under child c = record {
    base = own_if foreign zero_own (is_node l Specs) child.found fr.base c.found o.base;
    given = o.given;
    found = own_after foreign zero_own toks fr l under child o c.found fr.label.production;
    token = o.token;
    owner = o.owner;
  }
