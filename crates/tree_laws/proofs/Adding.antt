-- How often a token is noted as a name: what each step of binding adds.
use Rattle.std.proofs.Common.{ℕ, ◌+◌, ◌≤◌, ◌≡◌, Bool, true, false, ◌&&◌, ◌||◌, not, if◌then◌else◌, List, [], ◌∷◌, Option, None, Some, refl, subst, arith}
use Rattle.std.specs.Prelude.{is_some}
use Rattle.std.specs.Option.{option_map_or}
use Rattle.cs_base.specs.Token.{Token}
use Rattle.c99_tree.specs.Tree.{Forest}
use Rattle.c_types.specs.declared.entity.EntityKind.TheVariants.{Typedef, Parameter}
use Rattle.scope_bind.specs.Named.{Cause, undeclared, no_member, no_label, redeclared, tag_redefined, mixed_linkage, designator_after_elision, ordinary, tags, members, labels, Declaration, Occurrence, Declared, Body, Frame, Scope}
use Rattle.c_types.specs.Types.{CType, adjusted, is_unknown}
use Rattle.c_types.specs.Trees.{last_token, declarator_type}
use Rattle.c_types.specs.Declarations.{Facts, has_linkage, with_fault, with_occurrence, with_declaration, with_begun, visible, in_scope, linked, is_mixed, anywhere}
use Rattle.scope_bind.specs.Ordinary.{is_again, entity_of, is_listed, declaration_of, declared, used_as, used, plain_name, new_object, with_object, with_parameter}
use Rattle.c_types.specs.Tags.{number_in, is_same_tag, tag_entity, is_declaring, tag_declaration, renumbered, prior_tag, tag_named, is_complete, is_sort, enumeration_used, with_tag, with_enumeration}
use Rattle.name_chains.specs.Members.{member_declaration, lifted, found_of, unnamed_declaration, with_silent, with_lifted, with_anonymous, member_at, member_used_as, member_used, with_member}
use Rattle.scope_bind.specs.Labels.{label_declaration, with_label, jump_to}
use Rattle.name_chains.specs.Initializers.{designated_facts}
use Rattle.tree_laws.proofs.Noted.{hit, hits}

-- how often the token is among the names
abbrev pub count_in : ℕ → List Occurrence → ℕ
count_in t [] = 0
count_in t (o ∷ os) = hit t o.index + count_in t os

-- the new facts note the token so many times more at most; the `goto`s are the same
pub record Adds (t m : ℕ) (old new : Facts) : Type 0 where
  pub names : count_in t new.occurrences ≤ count_in t old.occurrences + m
  pub jumps : new.jumps ≡ old.jumps

pub adds_none : (t m : ℕ) (facts : Facts) → Adds t m facts facts
adds_none t m facts = record { names = omega arith; jumps = refl }

-- a fault before or behind notes nothing
behind_fault : (t m : ℕ) (c : Bool) (cause : Cause) (i : ℕ) (facts new : Facts) → Adds t m (with_fault c cause i facts) new → Adds t m facts new
behind_fault t m true cause i facts new a = record { names = a.names; jumps = a.jumps }
behind_fault t m false cause i facts new a = a

before_fault : (t m : ℕ) (c : Bool) (cause : Cause) (i : ℕ) (facts new : Facts) → Adds t m facts new → Adds t m facts (with_fault c cause i new)
before_fault t m true cause i facts new a = record { names = a.names; jumps = a.jumps }
before_fault t m false cause i facts new a = a

fault_alone : (t m : ℕ) (c : Bool) (cause : Cause) (i : ℕ) (facts : Facts) → Adds t m facts (with_fault c cause i facts)
fault_alone t m c cause i facts = before_fault t m c cause i facts facts (adds_none t m facts)

occurrence_adds : (t i e : ℕ) (d : Bool) (facts : Facts) → Adds t (hit t i) facts (with_occurrence i e d facts)
occurrence_adds t i e d facts = record { names = omega arith; jumps = refl }

declaration_adds : (t : ℕ) (d : Declaration) (facts : Facts) → Adds t (hit t d.name_at) facts (with_declaration d facts)
declaration_adds t d facts = record { names = omega arith; jumps = refl }

before_begun : (t m : ℕ) (c : Bool) (e : ℕ) (facts new : Facts) → Adds t m facts new → Adds t m facts (with_begun c e new)
before_begun t m true e facts new a = record { names = a.names; jumps = a.jumps }
before_begun t m false e facts new a = a

pub either_adds : (t m : ℕ) (c : Bool) (facts a b : Facts) → Adds t m facts a → Adds t m facts b → Adds t m facts (if c then a else b)
either_adds t m true facts a b h k = h
either_adds t m false facts a b h k = k

module _ (toks : List Token) (t : ℕ) where
  -- ---- Ordinary identifiers

  pub declared_adds : (scope : Scope) (n : Declared) (facts : Facts) → Adds t (hit t n.name_at) facts (declared toks scope n facts)
  declared_adds scope n facts =
      let prior : Option Declaration = in_scope toks ordinary scope.depth n.name_at n.last facts in
      let d : Declaration = declaration_of scope n (entity_of n prior (linked toks n.name_at facts)) (n.listed || is_listed n prior) in
      let mixed : Bool = has_linkage n.linkage && is_mixed toks n.linkage n.name_at facts in
      let again : Bool = option_map_or (λ e. not (is_again n e)) prior false in
      let listed : Bool = n.listing && not (is_listed n prior) in
      let third : Facts = with_fault mixed mixed_linkage n.name_at facts in
      let second : Facts = with_fault again redeclared n.name_at third in
      let first : Facts = with_fault listed undeclared n.name_at second in
      behind_fault t (hit t n.name_at) mixed mixed_linkage n.name_at facts (with_declaration d first)
      (behind_fault t (hit t n.name_at) again redeclared n.name_at third (with_declaration d first)
      (behind_fault t (hit t n.name_at) listed undeclared n.name_at second (with_declaration d first) (declaration_adds t d first)))

  used_as_adds : (i : ℕ) (r : Option Declaration) (facts : Facts) → Adds t (hit t i) facts (used_as toks i r facts)
  used_as_adds i None facts = fault_alone t (hit t i) true undeclared i facts
  used_as_adds i (Some d) facts = occurrence_adds t i d.entity false facts

  pub used_adds : (i : ℕ) (facts : Facts) → Adds t (hit t i) facts (used toks i facts)
  used_adds i facts = used_as_adds i (visible toks ordinary i i facts) facts

  pub object_adds : (f : Frame) (under : Forest) (name : Option ℕ) (facts : Facts) → Adds t (hits t name) facts (with_object toks f under name facts)
  object_adds f under None facts = adds_none t 0 facts
  object_adds f under (Some i) facts = declared_adds f.scope (new_object toks f i (last_token under i) (declarator_type f.base under) facts) facts

  parameter_case : (c : Bool) (f : Frame) (i : ℕ) (x y : Declared) (facts : Facts) → x.name_at ≡ i → y.name_at ≡ i
      → Adds t (hit t i) facts (declared toks f.scope (if c then x else y) facts)
  parameter_case true f i x y facts p q = subst (λ j. Adds t (hit t j) facts (declared toks f.scope x facts)) p (declared_adds f.scope x facts)
  parameter_case false f i x y facts p q = subst (λ j. Adds t (hit t j) facts (declared toks f.scope y facts)) q (declared_adds f.scope y facts)

  pub parameter_adds : (f : Frame) (under : Forest) (name : Option ℕ) (facts : Facts) → Adds t (hits t name) facts (with_parameter toks f under name facts)
  parameter_adds f under None facts = adds_none t 0 facts
  parameter_adds f under (Some i) facts =
      let u : CType = declarator_type f.base under in
      parameter_case f.words.has_typedef f i (plain_name toks i (last_token under i) Typedef u false)
      (plain_name toks i (last_token under i) Parameter (adjusted u) false) facts refl refl

  -- ---- Tags

  tag_named_adds : (f : Frame) (i : ℕ) (r : Option Declaration) (entity : ℕ) (facts : Facts) → Adds t (hit t i) facts (tag_named f i r entity facts)
  tag_named_adds f i r entity facts =
      let d : Declaration = tag_declaration f.scope i entity (renumbered f.found entity) in
      either_adds t (hit t i) (is_declaring f r) facts (with_begun f.has_body entity (with_declaration d facts)) (with_occurrence i (option_map_or (λ e. e.entity) r i) false facts)
      (before_begun t (hit t i) f.has_body entity facts (with_declaration d facts) (declaration_adds t d facts))
      (occurrence_adds t i (option_map_or (λ e. e.entity) r i) false facts)

  pub tag_adds : (f : Frame) (i : ℕ) (facts : Facts) → Adds t (hit t i) facts (with_tag toks f i facts)
  tag_adds f i facts =
      let prior : Option Declaration = prior_tag toks f i facts in
      let named : Facts = tag_named f i prior (tag_entity f i facts prior) facts in
      before_fault t (hit t i) (option_map_or (λ d. not (is_same_tag f facts d)) prior false) tag_redefined i facts named
      (tag_named_adds f i prior (tag_entity f i facts prior) facts)

  enumeration_used_adds : (f : Frame) (i : ℕ) (r : Option Declaration) (facts : Facts) → Adds t (hit t i) facts (enumeration_used f i r facts)
  enumeration_used_adds f i None facts = fault_alone t (hit t i) true undeclared i facts
  enumeration_used_adds f i (Some d) facts =
      let sorts : Facts = with_fault (not (is_sort d.ctype f.found)) tag_redefined i facts in
      let all : Facts = with_fault (not (is_complete facts d)) undeclared i sorts in
      behind_fault t (hit t i) (not (is_sort d.ctype f.found)) tag_redefined i facts (with_occurrence i d.entity false all)
      (behind_fault t (hit t i) (not (is_complete facts d)) undeclared i sorts (with_occurrence i d.entity false all) (occurrence_adds t i d.entity false all))

  pub enumeration_adds : (f : Frame) (i : ℕ) (facts : Facts) → Adds t (hit t i) facts (with_enumeration toks f i facts)
  enumeration_adds f i facts =
      either_adds t (hit t i) f.has_body facts (with_tag toks f i facts) (enumeration_used f i (visible toks tags i i facts) facts)
      (tag_adds f i facts) (enumeration_used_adds f i (visible toks tags i i facts) facts)

  -- ---- Members

  lifted_adds : (owner : ℕ) (ds : List Declaration) (facts : Facts) → Adds t 0 facts (with_lifted toks owner ds facts)
  lifted_adds owner [] facts = adds_none t 0 facts
  lifted_adds owner (d ∷ later) facts =
      let twice : Bool = is_some (anywhere toks (members owner) d.name_at facts) in
      let next : Facts = with_silent (lifted owner d) (with_fault twice redeclared d.name_at facts) in
      let a : Adds t 0 next (with_lifted toks owner later next) = lifted_adds owner later next in
      behind_fault t 0 twice redeclared d.name_at facts (with_lifted toks owner later next) (record { names = a.names; jumps = a.jumps })

  -- an anonymous member
  pub anonymous_adds : (f : Frame) (i : ℕ) (facts : Facts) → Adds t 0 facts (with_anonymous toks f i facts)
  anonymous_adds f i facts =
      let all : Facts = with_lifted toks f.owner (found_of (number_in f.base) facts) facts in
      let a : Adds t 0 facts all = lifted_adds f.owner (found_of (number_in f.base) facts) facts in
      either_adds t 0 f.words.anonymous facts (with_silent (unnamed_declaration f i) all) facts (record { names = a.names; jumps = a.jumps }) (adds_none t 0 facts)

  pub member_adds : (f : Frame) (under : Forest) (name : Option ℕ) (facts : Facts) → Adds t (hits t name) facts (with_member toks f under name facts)
  member_adds f under None facts = adds_none t 0 facts
  member_adds f under (Some i) facts =
      let twice : Bool = is_some (anywhere toks (members f.owner) i facts) in
      let d : Declaration = member_declaration f i (last_token under i) (declarator_type f.base under) in
      behind_fault t (hit t i) twice redeclared i facts (with_declaration d (with_fault twice redeclared i facts))
      (declaration_adds t d (with_fault twice redeclared i facts))

  member_used_as_adds : (i : ℕ) (r : Option Declaration) (facts : Facts) → Adds t (hit t i) facts (member_used_as toks i r facts)
  member_used_as_adds i None facts = fault_alone t (hit t i) true no_member i facts
  member_used_as_adds i (Some d) facts = occurrence_adds t i d.entity false facts

  pub member_used_adds : (u : CType) (i : ℕ) (facts : Facts) → Adds t (hit t i) facts (member_used toks u i facts)
  member_used_adds u i facts = member_used_as_adds i (member_at toks u i facts) facts

  pub designated_adds : (u : CType) (i : ℕ) (facts : Facts) → Adds t (hit t i) facts (designated_facts toks u i facts)
  designated_adds u i facts =
      either_adds t (hit t i) (is_unknown u) facts (with_fault true designator_after_elision i facts) (member_used toks u i facts)
      (fault_alone t (hit t i) true designator_after_elision i facts) (member_used_adds u i facts)

  -- ---- Labels

  pub label_adds : (body : Option Body) (i : ℕ) (facts : Facts) → Adds t (hit t i) facts (with_label toks body i facts)
  label_adds None i facts = adds_none t (hit t i) facts
  label_adds (Some b) i facts =
      let twice : Bool = is_some (anywhere toks (labels b.from) i facts) in
      behind_fault t (hit t i) twice redeclared i facts (with_declaration (label_declaration b i) (with_fault twice redeclared i facts))
      (declaration_adds t (label_declaration b i) (with_fault twice redeclared i facts))

  pub jump_to_adds : (i : ℕ) (r : Option Declaration) (facts : Facts) → Adds t (hit t i) facts (jump_to toks i r facts)
  jump_to_adds i None facts = fault_alone t (hit t i) true no_label i facts
  jump_to_adds i (Some d) facts = occurrence_adds t i d.entity false facts
