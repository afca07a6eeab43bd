-- The relation holds once names, tags, members and labels are declared and used.
use Rattle.std.proofs.Common.{ℕ, Bool, true, false, ◌&&◌, ◌||◌, not, if◌then◌else◌, ◌==◌, List, [], ◌∷◌, ◌++◌, Option, None, Some, inl, inr, refl, sym, subst}
use Rattle.std.specs.Prelude.{IfSome, is_some, filter}
use Rattle.std.specs.List.{All}
use Rattle.std.proofs.lemmas.List.Elements.{All-head, All-tail}
use Rattle.std.proofs.lemmas.Bool.{false≢true}
use Rattle.std.specs.Option.{option_map_or}
use Rattle.cs_base.specs.Token.{Token}
use Rattle.c99_tree.specs.Tree.{Forest}
use Rattle.c_types.specs.declared.entity.EntityKind.TheVariants.{Typedef, Parameter}
use Rattle.scope_bind.specs.Named.{undeclared, no_member, no_label, redeclared, tag_redefined, mixed_linkage, designator_after_elision, ordinary, tags, members, labels, Declaration, Occurrence, Declared, Body, Frame, Scope}
use Rattle.c_types.specs.Types.{CType, adjusted, is_unknown}
use Rattle.c_types.specs.Trees.{last_token, declarator_type}
use Rattle.c_types.specs.Declarations.{Facts, has_linkage, with_fault, with_use, is_live, visible, in_scope, linked, is_mixed, anywhere}
use Rattle.scope_bind.specs.Ordinary.{is_again, linked_entity, entity_of, is_listed, declaration_of, declared_faults, declared, used_as, used, plain_name, new_object, new_parameter, with_object, with_parameter}
use Rattle.c_types.specs.Tags.{number_in, is_same_tag, tag_entity, is_declaring, tag_declaration, renumbered, is_prior_tag, prior_tag, tag_named, is_complete, is_sort, enumeration_used, with_tag, with_enumeration}
use Rattle.name_chains.specs.Members.{member_declaration, is_found_in, lifted, found_of, unnamed_declaration, with_silent, with_lifted, with_anonymous, is_known, member_at, member_used_as, member_used, with_member}
use Rattle.scope_bind.specs.Labels.{label_declaration, with_label, jump_to, with_jumps, with_labels}
use Rattle.name_chains.specs.Initializers.{designated_facts}
use Rattle.tree_laws.proofs.Unnamed.{found_named}
use Rattle.tree_laws.proofs.InLists.{In, all_reversed, all_filtered}
use Rattle.tree_laws.proofs.Holding.{name_noted, GoesOn, Named, Holds, noted_still, fault_held, occurrence_held, declaration_held, silent_held, begun_held, looked_up_held}

-- one fact of what is found follows from another
found_on : (A B : Declaration → Type 0) (r : Option Declaration) → ((d : Declaration) → A d → B d) → IfSome r A → IfSome r B
found_on A B None on h = tt
found_on A B (Some d) on h = on d h

chosen : (P : ℕ → Type 0) (c : Bool) (x y : ℕ) → P x → P y → P (if c then x else y)
chosen P true x y h k = h
chosen P false x y h k = k

module _ (toks : List Token) (S : ℕ → Type 0) (R : List Occurrence → ℕ → ℕ → Type 0) (law : GoesOn toks S R) where
  -- what relates a token to the entity of what it denotes, once it is noted as a name of it
  abbrev IsNoted : ℕ → Bool → Facts → ℕ → Type 0
  IsNoted i declares facts e = R (name_noted i e declares ∷ facts.occurrences) i e

  noted_found : (i : ℕ) (declares : Bool) (facts : Facts) (r : Option Declaration) → IfSome r (λ d. R facts.occurrences i d.entity)
      → IfSome r (λ d. IsNoted i declares facts d.entity)
  noted_found i declares facts r h =
      found_on (λ d. R facts.occurrences i d.entity) (λ d. IsNoted i declares facts d.entity) r
      (λ d. law.more (name_noted i d.entity declares) facts.occurrences i d.entity) h

  noted_itself : (i : ℕ) (declares : Bool) (facts : Facts) → S i → IsNoted i declares facts i
  noted_itself i declares facts s = law.itself facts.occurrences i declares s

  use_held : (i : ℕ) (d : Declaration) (facts : Facts) → R facts.occurrences i d.entity → Holds S R facts → Holds S R (with_use i d.entity facts)
  use_held i d facts r h = occurrence_held S R law.more i d.entity false facts (law.more (name_noted i d.entity false) facts.occurrences i d.entity r) h

  -- ---- Ordinary identifiers

  module _ (P : ℕ → Type 0) where
    linked_held : (n : Declared) (l : Option Declaration) → P n.name_at → IfSome l (λ d. P d.entity) → P (linked_entity n l)
    linked_held n None s k = s
    linked_held n (Some d) s k = chosen P (has_linkage n.linkage) d.entity n.name_at k s

    entity_held : (n : Declared) (r l : Option Declaration) → P n.name_at → IfSome r (λ d. P d.entity) → IfSome l (λ d. P d.entity) → P (entity_of n r l)
    entity_held n None l s h k = linked_held n l s k
    entity_held n (Some d) l s h k = chosen P (is_again n d) d.entity (linked_entity n l) h (linked_held n l s k)

    tag_entity_held : (f : Frame) (i : ℕ) (facts : Facts) (r : Option Declaration) → P i → IfSome r (λ d. P d.entity) → P (tag_entity f i facts r)
    tag_entity_held f i facts None s k = s
    tag_entity_held f i facts (Some d) s k = chosen P (is_same_tag f facts d) d.entity i k s

    used_tag_held : (i : ℕ) (r : Option Declaration) → P i → IfSome r (λ d. P d.entity) → P (option_map_or (λ d. d.entity) r i)
    used_tag_held i None s k = s
    used_tag_held i (Some d) s k = k

  -- faults of a declaration change nothing that is noted
  faults_still : (P : List Occurrence → Type 0) (n : Declared) (r : Option Declaration) (facts : Facts) → P facts.occurrences
      → P (declared_faults toks n r facts).occurrences
  faults_still P n r facts h =
      let mixed : Bool = has_linkage n.linkage && is_mixed toks n.linkage n.name_at facts in
      let again : Bool = option_map_or (λ d. not (is_again n d)) r false in
      let third : Facts = with_fault mixed mixed_linkage n.name_at facts in
      let second : Facts = with_fault again redeclared n.name_at third in
      noted_still P (n.listing && not (is_listed n r)) undeclared n.name_at second
      (noted_still P again redeclared n.name_at third (noted_still P mixed mixed_linkage n.name_at facts h))

  faults_held : (n : Declared) (r : Option Declaration) (facts : Facts) → S n.name_at → Holds S R facts → Holds S R (declared_faults toks n r facts)
  faults_held n r facts s h =
      let mixed : Bool = has_linkage n.linkage && is_mixed toks n.linkage n.name_at facts in
      let again : Bool = option_map_or (λ d. not (is_again n d)) r false in
      let third : Facts = with_fault mixed mixed_linkage n.name_at facts in
      let second : Facts = with_fault again redeclared n.name_at third in
      fault_held S R (n.listing && not (is_listed n r)) undeclared n.name_at second s
      (fault_held S R again redeclared n.name_at third s (fault_held S R mixed mixed_linkage n.name_at facts s h))

  pub declared_held : (scope : Scope) (n : Declared) (facts : Facts) → S n.name_at → Holds S R facts → Holds S R (declared toks scope n facts)
  declared_held scope n facts s h =
      let i : ℕ = n.name_at in
      let prior : Option Declaration = in_scope toks ordinary scope.depth i n.last facts in
      let link : Option Declaration = linked toks i facts in
      let entity : ℕ = entity_of n prior link in
      let noted : IsNoted i true facts entity =
      entity_held (IsNoted i true facts) n prior link (noted_itself i true facts s)
      (noted_found i true facts prior (looked_up_held toks S R law ordinary i (λ d. is_live n.last d && (d.depth == scope.depth)) facts s h))
      (noted_found i true facts link (looked_up_held toks S R law ordinary i (λ d. has_linkage d.linkage) facts s h)) in
      declaration_held S R law.more (declaration_of scope n entity (n.listed || is_listed n prior)) (declared_faults toks n prior facts) s
      (faults_still (λ os. R (name_noted i entity true ∷ os) i entity) n prior facts noted)
      (faults_held n prior facts s h)

  used_as_held : (i : ℕ) (r : Option Declaration) (facts : Facts) → S i → IfSome r (λ d. R facts.occurrences i d.entity) → Holds S R facts
      → Holds S R (used_as toks i r facts)
  used_as_held i None facts s r h = fault_held S R true undeclared i facts s h
  used_as_held i (Some d) facts s r h = use_held i d facts r h

  pub used_held : (i : ℕ) (facts : Facts) → S i → Holds S R facts → Holds S R (used toks i facts)
  used_held i facts s h = used_as_held i (visible toks ordinary i i facts) facts s (looked_up_held toks S R law ordinary i (is_live i) facts s h) h

  pub object_held : (f : Frame) (under : Forest) (name : Option ℕ) (facts : Facts) → IfSome name S → Holds S R facts → Holds S R (with_object toks f under name facts)
  object_held f under None facts s h = h
  object_held f under (Some i) facts s h =
      declared_held f.scope (new_object toks f i (last_token under i) (declarator_type f.base under) facts) facts s h

  named_so : (c : Bool) (m n : Declared) → S m.name_at → S n.name_at → S (if c then m else n).name_at
  named_so true m n s t = s
  named_so false m n s t = t

  pub parameter_held : (f : Frame) (under : Forest) (name : Option ℕ) (facts : Facts) → IfSome name S → Holds S R facts
      → Holds S R (with_parameter toks f under name facts)
  parameter_held f under None facts s h = h
  parameter_held f under (Some i) facts s h =
      let t : CType = declarator_type f.base under in
      declared_held f.scope (new_parameter toks f i (last_token under i) t) facts
      (named_so f.words.has_typedef (plain_name toks i (last_token under i) Typedef t false) (plain_name toks i (last_token under i) Parameter (adjusted t) false) s s) h

  -- ---- Tags

  pub tag_named_case : (c : Bool) (facts yes' no' : Facts) → Holds S R yes' → Holds S R no' → Holds S R (if c then yes' else no')
  tag_named_case true facts yes' no' h k = h
  tag_named_case false facts yes' no' h k = k

  tag_named_held : (f : Frame) (i : ℕ) (r : Option Declaration) (entity : ℕ) (facts : Facts) → S i → IfSome r (λ d. R facts.occurrences i d.entity)
      → IsNoted i true facts entity → Holds S R facts → Holds S R (tag_named f i r entity facts)
  tag_named_held f i r entity facts s k e h =
      tag_named_case (is_declaring f r) facts _ _
      (begun_held S R f.has_body entity _ (declaration_held S R law.more (tag_declaration f.scope i entity (renumbered f.found entity)) facts s e h))
      (occurrence_held S R law.more i (option_map_or (λ d. d.entity) r i) false facts
      (used_tag_held (IsNoted i false facts) i r (noted_itself i false facts s) (noted_found i false facts r k)) h)

  pub tag_held : (f : Frame) (i : ℕ) (facts : Facts) → S i → Holds S R facts → Holds S R (with_tag toks f i facts)
  tag_held f i facts s h =
      let prior : Option Declaration = prior_tag toks f i facts in
      let k : IfSome prior (λ d. R facts.occurrences i d.entity) = looked_up_held toks S R law tags i (is_prior_tag f i) facts s h in
      let noted : IsNoted i true facts (tag_entity f i facts prior) =
      tag_entity_held (IsNoted i true facts) f i facts prior (noted_itself i true facts s) (noted_found i true facts prior k) in
      fault_held S R (option_map_or (λ d. not (is_same_tag f facts d)) prior false) tag_redefined i (tag_named f i prior (tag_entity f i facts prior) facts) s
      (tag_named_held f i prior (tag_entity f i facts prior) facts s k noted h)

  enumeration_used_held : (f : Frame) (i : ℕ) (r : Option Declaration) (facts : Facts) → S i → IfSome r (λ d. R facts.occurrences i d.entity) → Holds S R facts
      → Holds S R (enumeration_used f i r facts)
  enumeration_used_held f i None facts s k h = fault_held S R true undeclared i facts s h
  enumeration_used_held f i (Some d) facts s k h =
      let other : Bool = not (is_sort d.ctype f.found) in
      let open_ : Bool = not (is_complete facts d) in
      let sorts : Facts = with_fault other tag_redefined i facts in
      let P : List Occurrence → Type 0 = λ os. R os i d.entity in
      use_held i d (with_fault open_ undeclared i sorts)
      (noted_still P open_ undeclared i sorts (noted_still P other tag_redefined i facts k))
      (fault_held S R open_ undeclared i sorts s (fault_held S R other tag_redefined i facts s h))

  pub enumeration_held : (f : Frame) (i : ℕ) (facts : Facts) → S i → Holds S R facts → Holds S R (with_enumeration toks f i facts)
  enumeration_held f i facts s h =
      tag_named_case f.has_body facts _ _ (tag_held f i facts s h)
      (enumeration_used_held f i (visible toks tags i i facts) facts s (looked_up_held toks S R law tags i (is_live i) facts s h) h)

  -- ---- Members

  pub member_declared_held : (f : Frame) (under : Forest) (name : Option ℕ) (facts : Facts) → IfSome name S → Holds S R facts
      → Holds S R (with_member toks f under name facts)
  member_declared_held f under None facts s h = h
  member_declared_held f under (Some i) facts s h =
      let twice : Bool = is_some (anywhere toks (members f.owner) i facts) in
      declaration_held S R law.more (member_declaration f i (last_token under i) (declarator_type f.base under)) (with_fault twice redeclared i facts) s
      (noted_itself i true (with_fault twice redeclared i facts) s)
      (fault_held S R twice redeclared i facts s h)

  -- names of an anonymous member, each of which is one of a member already
  lifted_held : (owner : ℕ) (ds : List Declaration) (facts : Facts) → All (Named S R facts.occurrences) ds → Holds S R facts
      → Holds S R (with_lifted toks owner ds facts)
  lifted_held owner [] facts all h = h
  lifted_held owner (d ∷ later) facts all h =
      let twice : Bool = is_some (anywhere toks (members owner) d.name_at facts) in
      let first : Facts = with_fault twice redeclared d.name_at facts in
      let n : Named S R facts.occurrences d = All-head (Named S R facts.occurrences) d later all in
      lifted_held owner later (with_silent (lifted owner d) first)
      (noted_still (λ os. All (Named S R os) later) twice redeclared d.name_at facts (All-tail (Named S R facts.occurrences) d later all))
      (silent_held S R (lifted owner d) first (λ _. noted_still (λ os. Named S R os d) twice redeclared d.name_at facts n)
      (fault_held S R twice redeclared d.name_at facts n.0 h))

  found_each : (number : ℕ) (facts : Facts) → Holds S R facts → All (Named S R facts.occurrences) (found_of number facts)
  found_each number facts h =
      all_reversed (Named S R facts.occurrences) (filter (is_found_in number) facts.declared)
      (all_filtered (Named S R facts.occurrences) (is_found_in number) facts.declared
      (λ d w p. h.declared d w (found_named d.space (members number) p)))

  pub anonymous_held : (f : Frame) (i : ℕ) (facts : Facts) → Holds S R facts → Holds S R (with_anonymous toks f i facts)
  anonymous_held f i facts h =
      tag_named_case f.words.anonymous facts _ _
      (silent_held S R (unnamed_declaration f i) (with_lifted toks f.owner (found_of (number_in f.base) facts) facts) (λ u. absurd (false≢true (sym u)))
      (lifted_held f.owner (found_of (number_in f.base) facts) facts (found_each (number_in f.base) facts h) h))
      h

  member_case : (P : Declaration → Type 0) (c : Bool) (r : Option Declaration) → IfSome r P → IfSome (if c then r else None) P
  member_case P true r k = k
  member_case P false r k = tt

  member_used_as_held : (i : ℕ) (r : Option Declaration) (facts : Facts) → S i → IfSome r (λ d. R facts.occurrences i d.entity) → Holds S R facts
      → Holds S R (member_used_as toks i r facts)
  member_used_as_held i None facts s r h = fault_held S R true no_member i facts s h
  member_used_as_held i (Some d) facts s r h = use_held i d facts r h

  pub member_used_held : (t : CType) (i : ℕ) (facts : Facts) → S i → Holds S R facts → Holds S R (member_used toks t i facts)
  member_used_held t i facts s h =
      member_used_as_held i (member_at toks t i facts) facts s
      (member_case (λ d. R facts.occurrences i d.entity) (is_known t facts) (anywhere toks (members (number_in t)) i facts)
      (looked_up_held toks S R law (members (number_in t)) i (λ d. true) facts s h)) h

  pub designated_held : (t : CType) (i : ℕ) (facts : Facts) → S i → Holds S R facts → Holds S R (designated_facts toks t i facts)
  designated_held t i facts s h =
      tag_named_case (is_unknown t) facts _ _ (fault_held S R true designator_after_elision i facts s h) (member_used_held t i facts s h)

  -- ---- Labels

  pub label_held : (body : Option Body) (i : ℕ) (facts : Facts) → S i → Holds S R facts → Holds S R (with_label toks body i facts)
  label_held None i facts s h = h
  label_held (Some b) i facts s h =
      let twice : Bool = is_some (anywhere toks (labels b.from) i facts) in
      declaration_held S R law.more (label_declaration b i) (with_fault twice redeclared i facts) s
      (noted_itself i true (with_fault twice redeclared i facts) s) (fault_held S R twice redeclared i facts s h)

  jump_to_held : (i : ℕ) (r : Option Declaration) (facts : Facts) → S i → IfSome r (λ d. R facts.occurrences i d.entity) → Holds S R facts → Holds S R (jump_to toks i r facts)
  jump_to_held i None facts s r h = fault_held S R true no_label i facts s h
  jump_to_held i (Some d) facts s r h = use_held i d facts r h

  jumps_held : (b : Body) (jumps : List ℕ) (facts : Facts) → ((j : ℕ) → In j jumps → S j) → Holds S R facts → Holds S R (with_jumps toks b jumps facts)
  jumps_held b [] facts s h = h
  jumps_held b (i ∷ later) facts s h =
      let r : Option Declaration = anywhere toks (labels b.from) i facts in
      jumps_held b later (jump_to toks i r facts) (λ j w. s j (inr w))
      (jump_to_held i r facts (s i (inl refl)) (looked_up_held toks S R law (labels b.from) i (λ d. true) facts (s i (inl refl)) h) h)

  pub labels_held : (body : Option Body) (facts : Facts) → Holds S R facts → Holds S R (with_labels toks body facts)
  labels_held None facts h = h
  labels_held (Some b) facts h = jumps_held b facts.jumps facts h.jumps h

  -- a `goto`
  pub jump_more : (i j : ℕ) (jumps : List ℕ) → S i → ((k : ℕ) → In k jumps → S k) → In j (jumps ++ i ∷ []) → S j
  jump_more i j [] s h (inl same) = subst S same s
  jump_more i j [] s h (inr w) = absurd w
  jump_more i j (k ∷ jumps) s h (inl same) = h j (inl same)
  jump_more i j (k ∷ jumps) s h (inr w) = jump_more i j jumps s (λ m v. h m (inr v)) w
