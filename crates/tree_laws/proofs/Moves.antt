-- What stays true while the binder walks: what does so with each thing that is noted does so with each step.
use Rattle.std.proofs.Common.{ℕ, ◌≡◌, Bool, true, false, ◌&&◌, ◌||◌, not, if◌then◌else◌, ◌==◌, List, [], ◌∷◌, ◌++◌, Option, None, Some, ◌⊎◌, inl, inr, refl, sym, subst}
use Rattle.std.specs.Prelude.{IfSome, filter, filter_map, reverse, is_some}
use Rattle.std.specs.List.{cons_option}
use Rattle.std.specs.Option.{option_map_or}
use Rattle.std.proofs.lemmas.Bool.{and_parts}
use mathlib.Core.List.{reverse-cons}
use Rattle.cs_base.specs.Token.{Token}
use Rattle.c99_tree.specs.Tree.{Forest}
use Rattle.c_types.specs.declared.entity.EntityKind.{EntityKind}
use Rattle.c_types.specs.declared.entity.EntityKind.TheVariants.{Object, Function, Typedef, Parameter, Tag, Member, Label}
use Rattle.c_types.specs.declared.declarations.Space.TheVariants.{Ordinary, Tags, Members, Inner, Unnamed, Labels}
use Rattle.c_types.specs.Faults.{first_fault}
use Rattle.c_types.specs.Types.{CType, adjusted, is_unknown, is_function}
use Rattle.c_types.specs.Trees.{last_token, declarator_type}
use Rattle.c_types.specs.Tags.{number_in, renumbered, is_same_tag, tag_entity, is_declaring, tag_declaration, is_prior_tag, tag_named, prior_tag, with_tag, is_complete, is_sort, enumeration_used, with_enumeration}
use Rattle.c_types.specs.Declarations.{is_space, Facts, has_linkage, is_live, with_fault, with_use, with_begun, is_named, looked_up, visible, in_scope, anywhere, linked, is_mixed}
use Rattle.name_chains.specs.Entering.{is_member, kept_here, with_kept}
use Rattle.name_chains.specs.Members.{member_declaration, is_found_in, lifted, found_of, unnamed_declaration, with_silent, with_lifted, with_anonymous, member_at, member_used_as, member_used, with_member}
use Rattle.name_chains.specs.Initializers.{designated_facts}
use Rattle.scope_bind.specs.Named.{Cause, Fault, Space, Declaration, Occurrence, Declared, Body, Frame, Scope, undeclared, redeclared, no_label, no_member, tag_redefined, mixed_linkage, designator_after_elision, ordinary, tags, members, labels}
use Rattle.scope_bind.specs.Labels.{label_declaration, with_label, jump_to, with_jumps, with_labels}
use Rattle.scope_bind.specs.Ordinary.{is_again, linked_entity, entity_of, is_listed, declaration_of, declared_faults, declared, used_as, used, plain_name, new_kind, new_object, new_parameter, with_object, with_parameter}
use Rattle.tree_laws.proofs.Lookups.{In, found_in, found_passes}
use Rattle.tree_laws.proofs.Unnamed.{is_unnamed, found_named}

-- ---- Name spaces and kinds

-- a number for the name space of each kind: ordinary identifiers, tags, members, labels (6.2.3)
abbrev pub sort_of : EntityKind → ℕ
sort_of Tag = 1
sort_of Member = 2
sort_of Label = 3
sort_of _ = 0

abbrev pub space_sort : Space → ℕ
space_sort Ordinary = 0
space_sort Tags = 1
space_sort (Members n) = 2
space_sort (Inner n) = 2
space_sort (Unnamed n) = 2
space_sort (Labels n) = 3

-- what is found where a name space is asked for is of it
pub found_sort : (s t : Space) → is_space s t ≡ true → space_sort s ≡ space_sort t
found_sort Ordinary Ordinary e = refl
found_sort Ordinary Tags e = absurd cc
found_sort Ordinary (Members m) e = absurd cc
found_sort Ordinary (Inner m) e = absurd cc
found_sort Ordinary (Unnamed m) e = absurd cc
found_sort Ordinary (Labels m) e = absurd cc
found_sort Tags Ordinary e = absurd cc
found_sort Tags Tags e = refl
found_sort Tags (Members m) e = absurd cc
found_sort Tags (Inner m) e = absurd cc
found_sort Tags (Unnamed m) e = absurd cc
found_sort Tags (Labels m) e = absurd cc
found_sort (Members n) Ordinary e = absurd cc
found_sort (Members n) Tags e = absurd cc
found_sort (Members n) (Members m) e = refl
found_sort (Members n) (Inner m) e = absurd cc
found_sort (Members n) (Unnamed m) e = absurd cc
found_sort (Members n) (Labels m) e = absurd cc
found_sort (Inner n) Ordinary e = absurd cc
found_sort (Inner n) Tags e = absurd cc
found_sort (Inner n) (Members m) e = refl
found_sort (Inner n) (Inner m) e = absurd cc
found_sort (Inner n) (Unnamed m) e = absurd cc
found_sort (Inner n) (Labels m) e = absurd cc
found_sort (Unnamed n) Ordinary e = absurd cc
found_sort (Unnamed n) Tags e = absurd cc
found_sort (Unnamed n) (Members m) e = absurd cc
found_sort (Unnamed n) (Inner m) e = absurd cc
found_sort (Unnamed n) (Unnamed m) e = absurd cc
found_sort (Unnamed n) (Labels m) e = absurd cc
found_sort (Labels n) Ordinary e = absurd cc
found_sort (Labels n) Tags e = absurd cc
found_sort (Labels n) (Members m) e = absurd cc
found_sort (Labels n) (Inner m) e = absurd cc
found_sort (Labels n) (Unnamed m) e = absurd cc
found_sort (Labels n) (Labels m) e = refl

-- ---- What is noted

abbrev pub name_noted : ℕ → ℕ → Bool → Occurrence
name_noted i e declares = record { index = i; entity = e; declares = declares }

-- A declaration of these is found in a name space.
pub record IsFound (number : ℕ) (ds : List Declaration) (d : Declaration) : Type 0 where
  pub there : In d ds
  pub named : is_unnamed d.space ≡ false
  pub sort : space_sort d.space ≡ number

-- Behind these declarations a new one: of a kind for its name space, and of an entity of its own, or that of an earlier one of
-- the name space.
pub record IsNew (ds : List Declaration) (d : Declaration) : Type 0 where
  pub kind : space_sort d.space ≡ sort_of d.kind
  pub named : is_unnamed d.space ≡ false
  pub entity : (d.entity ≡ d.name_at) ⊎ ((x : Declaration) × IsFound (space_sort d.space) ds x × (x.entity ≡ d.entity))

-- the same declaration, perhaps with another range or as the name of an anonymous member
pub record IsCopy (d e : Declaration) : Type 0 where
  pub sort : space_sort e.space ≡ space_sort d.space
  pub first : is_unnamed d.space ≡ false
  pub named : is_unnamed e.space ≡ false
  pub kind : e.kind ≡ d.kind
  pub name : e.name_at ≡ d.name_at
  pub entity : e.entity ≡ d.entity

-- What stays true of declarations, of occurrences and of the fault, whatever is noted; the place of an anonymous member is one
-- of these tokens.
pub record StaysTrue (U : ℕ → Type 0) (P : List Declaration → List Occurrence → Option Fault → Type 0) : Type 0 where
  pub fault : (ds : List Declaration) (os : List Occurrence) (o : Option Fault) (x : Fault) → P ds os o → P ds os (first_fault o x)
  pub use' : (ds : List Declaration) (os : List Occurrence) (o : Option Fault) (i e : ℕ) → P ds os o → P ds (name_noted i e false ∷ os) o
  pub declare : (ds : List Declaration) (os : List Occurrence) (o : Option Fault) (d : Declaration) → IsNew ds d → P ds os o
      → P (d ∷ ds) (name_noted d.name_at d.entity true ∷ os) o
  pub again : (ds : List Declaration) (os : List Occurrence) (o : Option Fault) (d e : Declaration) → In d ds → IsCopy d e → P ds os o → P (e ∷ ds) os o
  pub unnamed : (ds : List Declaration) (os : List Occurrence) (o : Option Fault) (d : Declaration) → is_unnamed d.space ≡ true → U d.name_at → P ds os o
      → P (d ∷ ds) os o

-- what a fault changes
pub declared_still : (Q : List Declaration → Type 0) (c : Bool) (cause : Cause) (i : ℕ) (facts : Facts) → Q facts.declared → Q (with_fault c cause i facts).declared
declared_still Q true cause i facts h = h
declared_still Q false cause i facts h = h

pub found_is : (toks : List Token) (space : Space) (i : ℕ) (test : Declaration → Bool) (facts : Facts) (r : Option Declaration) → looked_up toks space i test facts ≡ r
    → IfSome r (IsFound (space_sort space) facts.declared)
found_is toks space i test facts None e = tt
found_is toks space i test facts (Some d) e =
    let passes = found_passes (λ d. is_named toks space i d && test d) facts.declared d e in
    let named = (and_parts (is_named toks space i d) (test d) passes).0 in
    let so : is_space d.space space ≡ true = (and_parts (is_space d.space space) _ named).0 in
    record {
      there = found_in (λ d. is_named toks space i d && test d) facts.declared d e;
      named = found_named d.space space so;
      sort = found_sort d.space space so;
    }

-- ---- Entities

module _ (ds : List Declaration) (sort : ℕ) where
  -- an entity of its own, or that of a declaration found
  abbrev pub IsEntity : ℕ → ℕ → Type 0
  IsEntity i e = (e ≡ i) ⊎ ((x : Declaration) × IsFound sort ds x × (x.entity ≡ e))

  entity_if : (c : Bool) (i x y : ℕ) → IsEntity i x → IsEntity i y → IsEntity i (if c then x else y)
  entity_if true i x y h k = h
  entity_if false i x y h k = k

  of_linked : (n : Declared) (l : Option Declaration) → IfSome l (IsFound sort ds) → IsEntity n.name_at (linked_entity n l)
  of_linked n None k = inl refl
  of_linked n (Some d) k = entity_if (has_linkage n.linkage) n.name_at d.entity n.name_at (inr (d, k, refl)) (inl refl)

  pub of_entity : (n : Declared) (r l : Option Declaration) → IfSome r (IsFound sort ds) → IfSome l (IsFound sort ds) → IsEntity n.name_at (entity_of n r l)
  of_entity n None l h k = of_linked n l k
  of_entity n (Some d) l h k = entity_if (is_again n d) n.name_at d.entity (linked_entity n l) (inr (d, h, refl)) (of_linked n l k)

  pub of_tag : (f : Frame) (i : ℕ) (facts : Facts) (r : Option Declaration) → IfSome r (IsFound sort ds) → IsEntity i (tag_entity f i facts r)
  of_tag f i facts None h = inl refl
  of_tag f i facts (Some d) h = entity_if (is_same_tag f facts d) i d.entity i (inr (d, h, refl)) (inl refl)

-- ---- Steps

module _ (toks : List Token) (U : ℕ → Type 0) (P : List Declaration → List Occurrence → Option Fault → Type 0) (law : StaysTrue U P) where
  abbrev pub At : Facts → Type 0
  At facts = P facts.declared facts.occurrences facts.fault

  pub fault_moved : (c : Bool) (cause : Cause) (i : ℕ) (facts : Facts) → At facts → At (with_fault c cause i facts)
  fault_moved true cause i facts h = law.fault facts.declared facts.occurrences facts.fault (record { cause = cause; index = i }) h
  fault_moved false cause i facts h = h

  pub either_moved : (c : Bool) (f g : Facts) → At f → At g → At (if c then f else g)
  either_moved true f g h k = h
  either_moved false f g h k = k

  use_moved : (i e : ℕ) (facts : Facts) → At facts → At (with_use i e facts)
  use_moved i e facts h = law.use' facts.declared facts.occurrences facts.fault i e h

  -- ---- Ordinary identifiers

  faults_declared : (Q : List Declaration → Type 0) (n : Declared) (r : Option Declaration) (facts : Facts) → Q facts.declared → Q (declared_faults toks n r facts).declared
  faults_declared Q n r facts h =
      let mixed : Bool = has_linkage n.linkage && is_mixed toks n.linkage n.name_at facts in
      let again : Bool = option_map_or (λ d. not (is_again n d)) r false in
      let third : Facts = with_fault mixed mixed_linkage n.name_at facts in
      let second : Facts = with_fault again redeclared n.name_at third in
      declared_still Q (n.listing && not (is_listed n r)) undeclared n.name_at second
      (declared_still Q again redeclared n.name_at third (declared_still Q mixed mixed_linkage n.name_at facts h))

  faults_moved : (n : Declared) (r : Option Declaration) (facts : Facts) → At facts → At (declared_faults toks n r facts)
  faults_moved n r facts h =
      let mixed : Bool = has_linkage n.linkage && is_mixed toks n.linkage n.name_at facts in
      let again : Bool = option_map_or (λ d. not (is_again n d)) r false in
      let third : Facts = with_fault mixed mixed_linkage n.name_at facts in
      let second : Facts = with_fault again redeclared n.name_at third in
      fault_moved (n.listing && not (is_listed n r)) undeclared n.name_at second
      (fault_moved again redeclared n.name_at third (fault_moved mixed mixed_linkage n.name_at facts h))

  pub declared_moved : (scope : Scope) (n : Declared) (facts : Facts) → sort_of n.kind ≡ 0 → At facts → At (declared toks scope n facts)
  declared_moved scope n facts e h =
      let i : ℕ = n.name_at in
      let prior : Option Declaration = in_scope toks ordinary scope.depth i n.last facts in
      let link : Option Declaration = linked toks i facts in
      let d : Declaration = declaration_of scope n (entity_of n prior link) (n.listed || is_listed n prior) in
      let before : Facts = declared_faults toks n prior facts in
      let new : IsNew facts.declared d = record {
        kind = sym e;
        named = refl;
        entity = of_entity facts.declared 0 n prior link
            (found_is toks ordinary i (λ d. is_live n.last d && (d.depth == scope.depth)) facts prior refl)
            (found_is toks ordinary i (λ d. has_linkage d.linkage) facts link refl);
      } in
      law.declare before.declared before.occurrences before.fault d (faults_declared (λ ds. IsNew ds d) n prior facts new) (faults_moved n prior facts h)

  used_as_moved : (i : ℕ) (r : Option Declaration) (facts : Facts) → At facts → At (used_as toks i r facts)
  used_as_moved i None facts h = fault_moved true undeclared i facts h
  used_as_moved i (Some d) facts h = use_moved i d.entity facts h

  pub used_moved : (i : ℕ) (facts : Facts) → At facts → At (used toks i facts)
  used_moved i facts h = used_as_moved i (visible toks ordinary i i facts) facts h

  kind_if : (c : Bool) (x y : EntityKind) → sort_of x ≡ 0 → sort_of y ≡ 0 → sort_of (if c then x else y) ≡ 0
  kind_if true x y e f = e
  kind_if false x y e f = f

  pub object_sort : (f : Frame) (t : CType) → sort_of (new_kind toks f t) ≡ 0
  object_sort f t =
      kind_if f.words.has_typedef Typedef (if f.listing then Parameter else (if is_function t then Function else Object)) refl
      (kind_if f.listing Parameter (if is_function t then Function else Object) refl (kind_if (is_function t) Function Object refl refl))

  pub object_moved : (f : Frame) (under : Forest) (name : Option ℕ) (facts : Facts) → At facts → At (with_object toks f under name facts)
  object_moved f under None facts h = h
  object_moved f under (Some i) facts h =
      let t : CType = declarator_type f.base under in
      declared_moved f.scope (new_object toks f i (last_token under i) t facts) facts (object_sort f t) h

  parameter_if : (c : Bool) (x y : Declared) → sort_of x.kind ≡ 0 → sort_of y.kind ≡ 0 → sort_of (if c then x else y).kind ≡ 0
  parameter_if true x y e f = e
  parameter_if false x y e f = f

  pub parameter_moved : (f : Frame) (under : Forest) (name : Option ℕ) (facts : Facts) → At facts → At (with_parameter toks f under name facts)
  parameter_moved f under None facts h = h
  parameter_moved f under (Some i) facts h =
      let t : CType = declarator_type f.base under in
      declared_moved f.scope (new_parameter toks f i (last_token under i) t) facts
      (parameter_if f.words.has_typedef (plain_name toks i (last_token under i) Typedef t false) (plain_name toks i (last_token under i) Parameter (adjusted t) false) refl refl) h

  -- ---- Tags

  begun_moved : (c : Bool) (e : ℕ) (facts : Facts) → At facts → At (with_begun c e facts)
  begun_moved true e facts h = h
  begun_moved false e facts h = h

  tag_named_moved : (f : Frame) (i : ℕ) (r : Option Declaration) (entity : ℕ) (facts : Facts) → IsEntity facts.declared 1 i entity → At facts
      → At (tag_named f i r entity facts)
  tag_named_moved f i r entity facts e h =
      let d : Declaration = tag_declaration f.scope i entity (renumbered f.found entity) in
      either_moved (is_declaring f r) _ _
      (begun_moved f.has_body entity _ (law.declare facts.declared facts.occurrences facts.fault d (record { kind = refl; named = refl; entity = e }) h))
      (use_moved i (option_map_or (λ x. x.entity) r i) facts h)

  pub tag_moved : (f : Frame) (i : ℕ) (facts : Facts) → At facts → At (with_tag toks f i facts)
  tag_moved f i facts h =
      let prior : Option Declaration = prior_tag toks f i facts in
      fault_moved (option_map_or (λ d. not (is_same_tag f facts d)) prior false) tag_redefined i (tag_named f i prior (tag_entity f i facts prior) facts)
      (tag_named_moved f i prior (tag_entity f i facts prior) facts
      (of_tag facts.declared 1 f i facts prior (found_is toks tags i (is_prior_tag f i) facts prior refl)) h)

  enumeration_used_moved : (f : Frame) (i : ℕ) (r : Option Declaration) (facts : Facts) → At facts → At (enumeration_used f i r facts)
  enumeration_used_moved f i None facts h = fault_moved true undeclared i facts h
  enumeration_used_moved f i (Some d) facts h =
      let sorts : Facts = with_fault (not (is_sort d.ctype f.found)) tag_redefined i facts in
      use_moved i d.entity (with_fault (not (is_complete facts d)) undeclared i sorts)
      (fault_moved (not (is_complete facts d)) undeclared i sorts (fault_moved (not (is_sort d.ctype f.found)) tag_redefined i facts h))

  pub enumeration_moved : (f : Frame) (i : ℕ) (facts : Facts) → At facts → At (with_enumeration toks f i facts)
  enumeration_moved f i facts h =
      either_moved f.has_body (with_tag toks f i facts) _ (tag_moved f i facts h) (enumeration_used_moved f i (visible toks tags i i facts) facts h)

  -- ---- Members

  pub member_moved : (f : Frame) (under : Forest) (name : Option ℕ) (facts : Facts) → At facts → At (with_member toks f under name facts)
  member_moved f under None facts h = h
  member_moved f under (Some i) facts h =
      let twice : Bool = is_some (anywhere toks (members f.owner) i facts) in
      let before : Facts = with_fault twice redeclared i facts in
      law.declare before.declared before.occurrences before.fault (member_declaration f i (last_token under i) (declarator_type f.base under))
      (record { kind = refl; named = refl; entity = inl refl }) (fault_moved twice redeclared i facts h)

  -- each of these is a declaration that names a member
  abbrev AreMembers : List Declaration → List Declaration → Type 0
  AreMembers ds later = (d : Declaration) → In d later → IsFound 2 ds d

  in_more : (x y : Declaration) (ds : List Declaration) → IsFound 2 ds x → IsFound 2 (y ∷ ds) x
  in_more x y ds m = record { there = inr m.there; named = m.named; sort = m.sort }

  lifted_moved : (owner : ℕ) (later : List Declaration) (facts : Facts) → AreMembers facts.declared later → At facts → At (with_lifted toks owner later facts)
  lifted_moved owner [] facts m h = h
  lifted_moved owner (d ∷ later) facts m h =
      let twice : Bool = is_some (anywhere toks (members owner) d.name_at facts) in
      let first : Facts = with_fault twice redeclared d.name_at facts in
      let all : AreMembers first.declared (d ∷ later) = declared_still (λ ds. AreMembers ds (d ∷ later)) twice redeclared d.name_at facts m in
      let own : IsFound 2 first.declared d = all d (inl refl) in
      lifted_moved owner later (with_silent (lifted owner d) first) (λ x w. in_more x (lifted owner d) first.declared (all x (inr w)))
      (law.again first.declared first.occurrences first.fault d (lifted owner d) own.there
      (record { sort = sym own.sort; first = own.named; named = refl; kind = refl; name = refl; entity = refl })
      (fault_moved twice redeclared d.name_at facts h))

  filtered_step : (p : Declaration → Bool) (x d : Declaration) (ds more : List Declaration) (c : Bool) → p d ≡ c → In x (if c then d ∷ more else more)
      → (In x more → In x ds × (p x ≡ true)) → In x (d ∷ ds) × (p x ≡ true)
  filtered_step p x d ds more true e (inl same) rest = (inl same, subst (λ y. p y ≡ true) same e)
  filtered_step p x d ds more true e (inr v) rest = let k = rest v in (inr k.0, k.1)
  filtered_step p x d ds more false e v rest = let k = rest v in (inr k.0, k.1)

  in_filtered : (p : Declaration → Bool) (x : Declaration) (ds : List Declaration) → In x (filter p ds) → In x ds × (p x ≡ true)
  in_filtered p x [] w = absurd w
  in_filtered p x (d ∷ ds) w = filtered_step p x d ds (filter p ds) (p d) refl w (in_filtered p x ds)

  in_last : (x y : Declaration) (ds : List Declaration) → In x (ds ++ y ∷ []) → In x ds ⊎ (y ≡ x)
  in_last x y [] (inl same) = inr same
  in_last x y [] (inr w) = absurd w
  in_last x y (d ∷ ds) (inl same) = inl (inl same)
  in_last x y (d ∷ ds) (inr w) = elim (in_last x y ds w) [ inl v ↦ inl (inr v) | inr same ↦ inr same ]

  in_reversed : (x : Declaration) (ds : List Declaration) → In x (reverse ds) → In x ds
  in_reversed x [] w = w
  in_reversed x (d ∷ ds) w =
      elim (in_last x d (reverse ds) (subst (In x) (reverse-cons d ds) w)) [ inl v ↦ inr (in_reversed x ds v) | inr same ↦ inl same ]

  found_each : (number : ℕ) (facts : Facts) → AreMembers facts.declared (found_of number facts)
  found_each number facts d w =
      let k = in_filtered (is_found_in number) d facts.declared (in_reversed d (filter (is_found_in number) facts.declared) w) in
      record { there = k.0; named = found_named d.space (members number) k.1; sort = found_sort d.space (members number) k.1 }

  pub anonymous_moved : (f : Frame) (i : ℕ) (facts : Facts) → U i → At facts → At (with_anonymous toks f i facts)
  anonymous_moved f i facts u h =
      let all : Facts = with_lifted toks f.owner (found_of (number_in f.base) facts) facts in
      either_moved f.words.anonymous (with_silent (unnamed_declaration f i) all) facts
      (law.unnamed all.declared all.occurrences all.fault (unnamed_declaration f i) refl u
      (lifted_moved f.owner (found_of (number_in f.base) facts) facts (found_each (number_in f.base) facts) h)) h

  member_used_as_moved : (i : ℕ) (r : Option Declaration) (facts : Facts) → At facts → At (member_used_as toks i r facts)
  member_used_as_moved i None facts h = fault_moved true no_member i facts h
  member_used_as_moved i (Some d) facts h = use_moved i d.entity facts h

  pub member_used_moved : (t : CType) (i : ℕ) (facts : Facts) → At facts → At (member_used toks t i facts)
  member_used_moved t i facts h = member_used_as_moved i (member_at toks t i facts) facts h

  pub designated_moved : (t : CType) (i : ℕ) (facts : Facts) → At facts → At (designated_facts toks t i facts)
  designated_moved t i facts h =
      either_moved (is_unknown t) _ _ (fault_moved true designator_after_elision i facts h) (member_used_moved t i facts h)

  -- ---- Labels

  pub label_moved : (body : Option Body) (i : ℕ) (facts : Facts) → At facts → At (with_label toks body i facts)
  label_moved None i facts h = h
  label_moved (Some b) i facts h =
      let twice : Bool = is_some (anywhere toks (labels b.from) i facts) in
      let before : Facts = with_fault twice redeclared i facts in
      law.declare before.declared before.occurrences before.fault (label_declaration b i) (record { kind = refl; named = refl; entity = inl refl })
      (fault_moved twice redeclared i facts h)

  jump_to_moved : (i : ℕ) (r : Option Declaration) (facts : Facts) → At facts → At (jump_to toks i r facts)
  jump_to_moved i None facts h = fault_moved true no_label i facts h
  jump_to_moved i (Some d) facts h = use_moved i d.entity facts h

  jumps_moved : (b : Body) (jumps : List ℕ) (facts : Facts) → At facts → At (with_jumps toks b jumps facts)
  jumps_moved b [] facts h = h
  jumps_moved b (i ∷ later) facts h =
      let r : Option Declaration = anywhere toks (labels b.from) i facts in
      jumps_moved b later (jump_to toks i r facts) (jump_to_moved i r facts h)

  pub labels_moved : (body : Option Body) (facts : Facts) → At facts → At (with_labels toks body facts)
  labels_moved None facts h = h
  labels_moved (Some b) facts h = jumps_moved b facts.jumps facts h

  -- ---- Second ranges

  named_member : (s : Space) → is_member s ≡ false → is_unnamed s ≡ false
  named_member Ordinary e = refl
  named_member Tags e = refl
  named_member (Members n) e = refl
  named_member (Inner n) e = refl
  named_member (Unnamed n) e = absurd cc
  named_member (Labels n) e = refl

  not_so : (c : Bool) → not c ≡ true → c ≡ false
  not_so true e = absurd cc
  not_so false e = refl

  in_behind : (x : Declaration) (ds es : List Declaration) → In x es → In x (ds ++ es)
  in_behind x [] es w = w
  in_behind x (d ∷ ds) es w = inr (in_behind x ds es w)

  module _ (list depth from to : ℕ) (os : List Occurrence) (o : Option Fault) (all : List Declaration) where
    copy_step : (c : Bool) (d : Declaration) (more : List Declaration) → (c ≡ true → is_unnamed d.space ≡ false) → In d (more ++ all) → P (more ++ all) os o
        → P (cons_option (if c then Some (record d { from = from; to = to }) else None) more ++ all) os o
    copy_step true d more named w h =
        let n : is_unnamed d.space ≡ false = named refl in
        law.again (more ++ all) os o d (record d { from = from; to = to }) w (record { sort = refl; first = n; named = n; kind = refl; name = refl; entity = refl }) h
    copy_step false d more named w h = h

    is_named_copy : (d : Declaration) → ((d.to == list) && ((d.depth == depth) && not (is_member d.space))) ≡ true → is_unnamed d.space ≡ false
    is_named_copy d e = named_member d.space (not_so (is_member d.space) (and_parts (d.depth == depth) _ (and_parts (d.to == list) _ e).1).1)

    copies_moved : (ds : List Declaration) → ((d : Declaration) → In d ds → In d all) → P all os o → P (filter_map (kept_here list depth from to) ds ++ all) os o
    copies_moved [] into h = h
    copies_moved (d ∷ ds) into h =
        let more : List Declaration = filter_map (kept_here list depth from to) ds in
        copy_step ((d.to == list) && ((d.depth == depth) && not (is_member d.space))) d more (is_named_copy d) (in_behind d more all (into d (inl refl)))
        (copies_moved ds (λ x w. into x (inr w)) h)

  pub kept_moved : (list : Option ℕ) (depth from to : ℕ) (facts : Facts) → At facts → At (with_kept list depth from to facts)
  kept_moved None depth from to facts h = h
  kept_moved (Some list) depth from to facts h = copies_moved list depth from to facts.occurrences facts.fault facts.declared facts.declared (λ d w. w) h
