-- What each step that notes an identifier tells of it, where nothing is wrong at the end.
use Rattle.std.proofs.Common.{ℕ, ◌≡◌, Bool, true, false, ◌&&◌, ◌||◌, not, if◌then◌else◌, ◌==◌, List, ◌∷◌, Option, None, Some, ◌⊎◌, inl, inr, refl, sym, ap, subst, ◌∙◌}
use Rattle.std.specs.Prelude.{IfSome}
use Rattle.std.specs.Option.{option_map_or}
use Rattle.std.proofs.lemmas.Bool.{false≢true, and_parts, ne_eqb}
use Rattle.cs_base.specs.Token.{Token}
use Rattle.c99_tree.specs.Tree.{Forest}
use Rattle.c_types.specs.declared.entity.EntityKind.{EntityKind}
use Rattle.c_types.specs.declared.entity.EntityKind.TheVariants.{Enumerator}
use Rattle.c_types.specs.Types.{CType, arithmetic}
use Rattle.c_types.specs.Trees.{last_token, declarator_type}
use Rattle.c_types.specs.Tags.{renumbered, is_same_tag, tag_entity, is_declaring, tag_declaration, tag_named, prior_tag, with_tag, enumeration_used, with_enumeration}
use Rattle.c_types.specs.Declarations.{Facts, has_linkage, is_live, is_typedef_name, with_fault, with_use, with_begun, with_declaration, visible, in_scope, linked, is_mixed}
use Rattle.scope_bind.specs.declared.bound.Name.{Name}
use Rattle.scope_bind.specs.Named.{Cause, Declaration, Occurrence, Declared, Frame, Scope, undeclared, redeclared, mixed_linkage, tag_redefined, ordinary, tags}
use Rattle.scope_bind.specs.Ordinary.{is_again, entity_of, is_listed, declaration_of, declared_faults, declared, used_as, used, is_func, named_facts, plain_name, new_object, with_object, with_enumerator}
use Rattle.scope_bind.proofs.ScopeLemmas.{fault_some as not_clean}
use Rattle.tree_laws.proofs.Lookups.{In}
use Rattle.tree_laws.specs.Told.{is_ordinary, is_constant, DeclaresAt, UsesAt, DeclaresAgain, TagAt}
use Rattle.tree_laws.proofs.Moves.{name_noted, IsFound, found_is, fault_moved}
use Rattle.tree_laws.proofs.Grown.{Grown, IsLater, grown_same, grown_then, grown_in, later_law}
use Rattle.tree_laws.proofs.Sorted.{NoTwice, no_twice_behind, IsSorted, Sorted}
use Rattle.tree_laws.proofs.Finish.{sort_ordinary, NoEntity, IsFinal, names, is_name, kind_of, kind_is, kind_sort, noted_as, declared_in, declares_at, uses_at, tag_declared, tag_used}

-- a fault before, and one behind
pub fault_grown : (toks : List Token) (c : Bool) (cause : Cause) (i : ℕ) (f : Facts) → Grown f (with_fault c cause i f)
fault_grown toks c cause i f =
    fault_moved toks (λ j. Unit {0}) (IsLater f.declared f.occurrences f.fault) (later_law f.declared f.occurrences f.fault) c cause i f (grown_same f)

no_fault_here : (c : Bool) (cause : Cause) (i : ℕ) (f : Facts) → (with_fault c cause i f).fault ≡ None → c ≡ false
no_fault_here true cause i f e = absurd (not_clean f.fault _ e)
no_fault_here false cause i f e = refl

module _ (toks : List Token) (F : Facts) (final : IsFinal F) where
  abbrev Ns : List Name
  Ns = names F final

  -- ---- Uses

  use_grown : (i : ℕ) (r : Option Declaration) (facts : Facts) → IfSome r (IsFound 0 facts.declared) → Grown (used_as toks i r facts) F → UsesAt Ns i
  use_grown i None facts w g = absurd (not_clean facts.fault _ (g.clean final.clean))
  use_grown i (Some d) facts w g =
      uses_at F final i d (grown_in (used_as toks i (Some d) facts) F g (name_noted i d.entity false) (inl refl)) (g.declared d w.there) w.named w.sort

  pub used_told : (i : ℕ) (facts : Facts) → Grown (used toks i facts) F → UsesAt Ns i
  used_told i facts g =
      use_grown i (visible toks ordinary i i facts) facts (found_is toks ordinary i (is_live i) facts (visible toks ordinary i i facts) refl) g

  pub named_told : (f : Frame) (i : ℕ) (facts : Facts) → Grown (named_facts toks f i facts) F → (is_func toks f i ≡ true) ⊎ UsesAt Ns i
  named_told f i facts g = by (is_func toks f i) g
    where
      by : (c : Bool) → Grown (if c then facts else used toks i facts) F → (c ≡ true) ⊎ UsesAt Ns i
      by true g = inl refl
      by false g = inr (used_told i facts g)

  -- ---- Tags

  declaring_none : (f : Frame) (r : Option Declaration) → is_declaring f r ≡ false → f.has_body ≡ false
  declaring_none f None e = absurd (false≢true (sym e))
  declaring_none f (Some d) e = by f.has_body f.alone e
    where
      by : (c d : Bool) → (c || d) ≡ false → c ≡ false
      by true d e = e
      by false d e = refl

  begun_grown : (c : Bool) (e : ℕ) (d : Declaration) (facts : Facts) → Grown (with_begun c e (with_declaration d facts)) F → In d F.declared
  begun_grown true e d facts g = g.declared d (inl refl)
  begun_grown false e d facts g = g.declared d (inl refl)

  tag_named_told : (f : Frame) (i : ℕ) (r : Option Declaration) (entity : ℕ) (facts : Facts) → Grown (tag_named f i r entity facts) F → TagAt Ns f.has_body i
  tag_named_told f i r entity facts g = by (is_declaring f r) refl g
    where
      by : (c : Bool) → is_declaring f r ≡ c
          → Grown (if c then with_begun f.has_body entity (with_declaration (tag_declaration f.scope i entity (renumbered f.found entity)) facts) else with_use i (option_map_or (λ x. x.entity) r i) facts) F
          → TagAt Ns f.has_body i
      by true e g = tag_declared F final (tag_declaration f.scope i entity (renumbered f.found entity)) f.has_body (begun_grown f.has_body entity (tag_declaration f.scope i entity (renumbered f.found entity)) facts g) refl refl
      by false e g =
          let v : ℕ = option_map_or (λ (x : Declaration). x.entity) r i in
          tag_used F final i v f.has_body (grown_in (with_use i v facts) F g (name_noted i v false) (inl refl)) (declaring_none f r e)

  pub tag_told : (f : Frame) (i : ℕ) (facts : Facts) → Grown (with_tag toks f i facts) F → TagAt Ns f.has_body i
  tag_told f i facts g =
      let prior : Option Declaration = prior_tag toks f i facts in
      let here : Facts = tag_named f i prior (tag_entity f i facts prior) facts in
      tag_named_told f i prior (tag_entity f i facts prior) facts
      (grown_then here (with_fault (option_map_or (λ d. not (is_same_tag f facts d)) prior false) tag_redefined i here) F
      (fault_grown toks (option_map_or (λ d. not (is_same_tag f facts d)) prior false) tag_redefined i here) g)

  enumeration_used_told : (f : Frame) (i : ℕ) (r : Option Declaration) (facts : Facts) → f.has_body ≡ false → Grown (enumeration_used f i r facts) F → TagAt Ns f.has_body i
  enumeration_used_told f i None facts e g = absurd (not_clean facts.fault _ (g.clean final.clean))
  enumeration_used_told f i (Some d) facts e g =
      tag_used F final i d.entity f.has_body (grown_in (enumeration_used f i (Some d) facts) F g (name_noted i d.entity false) (inl refl)) e

  pub enumeration_told : (f : Frame) (i : ℕ) (facts : Facts) → Grown (with_enumeration toks f i facts) F → TagAt Ns f.has_body i
  enumeration_told f i facts g = by f.has_body refl g
    where
      by : (c : Bool) → f.has_body ≡ c → Grown (if c then with_tag toks f i facts else enumeration_used f i (visible toks tags i i facts) facts) F → TagAt Ns f.has_body i
      by true e g = tag_told f i facts g
      by false e g = enumeration_used_told f i (visible toks tags i i facts) facts e g

  -- ---- Declarations of ordinary identifiers

  module _ (scope : Scope) (n : Declared) (facts : Facts) (g : Grown (declared toks scope n facts) F) where
    abbrev pub prior : Option Declaration
    prior = in_scope toks ordinary scope.depth n.name_at n.last facts

    abbrev pub link : Option Declaration
    link = linked toks n.name_at facts

    abbrev pub new : Declaration
    new = declaration_of scope n (entity_of n prior link) (n.listed || is_listed n prior)

    pub new_in : In new F.declared
    new_in = g.declared new (inl refl)

    -- what stands in the scope is of the same entity
    pub again_is : option_map_or (λ d. not (is_again n d)) prior false ≡ false
    again_is =
        let mixed : Bool = has_linkage n.linkage && is_mixed toks n.linkage n.name_at facts in
        let again : Bool = option_map_or (λ d. not (is_again n d)) prior false in
        let third : Facts = with_fault mixed mixed_linkage n.name_at facts in
        let second : Facts = with_fault again redeclared n.name_at third in
        let listed : Bool = n.listing && not (is_listed n prior) in
        let clean : (with_fault listed undeclared n.name_at second).fault ≡ None = g.clean final.clean in
        no_fault_here again redeclared n.name_at third ((fault_grown toks listed undeclared n.name_at second).clean clean)

    -- what is found stands there
    pub prior_found : IfSome prior (IsFound 0 facts.declared)
    prior_found = found_is toks ordinary n.name_at (λ d. is_live n.last d && (d.depth == scope.depth)) facts prior refl

    faults_noted : (Q : List Occurrence → Type 0) → Q facts.occurrences → Q (declared_faults toks n prior facts).occurrences
    faults_noted Q h =
        let mixed : Bool = has_linkage n.linkage && is_mixed toks n.linkage n.name_at facts in
        let again : Bool = option_map_or (λ d. not (is_again n d)) prior false in
        let third : Facts = with_fault mixed mixed_linkage n.name_at facts in
        let second : Facts = with_fault again redeclared n.name_at third in
        still (n.listing && not (is_listed n prior)) undeclared n.name_at second (still again redeclared n.name_at third (still mixed mixed_linkage n.name_at facts h))
      where
        still : (c : Bool) (cause : Cause) (i : ℕ) (f : Facts) → Q f.occurrences → Q (with_fault c cause i f).occurrences
        still true cause i f h = h
        still false cause i f h = h

    -- an entity that was declared before is not this token
    pub other_entity : Sorted (NoEntity F.occurrences) facts.declared facts.occurrences facts.fault → (x : Declaration) → IsFound 0 facts.declared x → (x.entity == n.name_at) ≡ false
    other_entity sorted x found =
        let once : NoTwice (declared toks scope n facts).occurrences = no_twice_behind g.more _ (subst NoTwice g.noted final.once) in
        let before : NoTwice (name_noted n.name_at new.entity true ∷ facts.occurrences) =
        faults_turned (λ os. NoTwice (name_noted n.name_at new.entity true ∷ os)) once in
        let s : IsSorted (NoEntity F.occurrences) facts.declared facts.occurrences = sorted before.1 in
        let y = s.entities x found.there found.named in
        ne_eqb x.entity n.name_at (λ e. before.0 (name_noted y.0.name_at y.0.entity true) (s.noted y.0 y.1.there y.1.named) (y.2 ∙ e))
      where
        faults_turned : (Q : List Occurrence → Type 0) → Q (declared_faults toks n prior facts).occurrences → Q facts.occurrences
        faults_turned Q h = faults_noted (λ os. Q os → Q facts.occurrences) (λ k. k) h

  pub object_told : (f : Frame) (under : Forest) (name : Option ℕ) (facts : Facts) → Grown (with_object toks f under name facts) F → IfSome name (DeclaresAt Ns is_ordinary)
  object_told f under None facts g = tt
  object_told f under (Some i) facts g =
      let t : CType = declarator_type f.base under in
      let n : Declared = new_object toks f i (last_token under i) t facts in
      let d : Declaration = new f.scope n facts g in
      declares_at F final d is_ordinary (new_in f.scope n facts g) refl
      (sort_ordinary (kind_of F final d.entity) (kind_sort F final (noted_as F final d) d (declared_in F final d (new_in f.scope n facts g) refl) (new_in f.scope n facts g) refl refl))

  -- ---- Names without linkage

  module _ (i last : ℕ) (kind : EntityKind) (t : CType) (scope : Scope) (facts : Facts) (g : Grown (declared toks scope (plain_name toks i last kind t false) facts) F) where
    abbrev n : Declared
    n = plain_name toks i last kind t false

    entity_none : (r l : Option Declaration) → option_map_or (λ d. is_again n d) r false ≡ false → entity_of n r l ≡ i
    entity_none None None e = refl
    entity_none None (Some d) e = refl
    entity_none (Some d) None e = ap (λ c. if c then d.entity else i) e
    entity_none (Some d) (Some x) e = ap (λ c. if c then d.entity else i) e

    -- it is an entity of its own, of its kind
    pub own_told : (is_kind : EntityKind → Bool) → is_kind kind ≡ true → option_map_or (λ d. is_again n d) (prior scope n facts g) false ≡ false → DeclaresAt Ns is_kind i
    own_told is_kind so e =
        let d : Declaration = new scope n facts g in
        let v = new_in scope n facts g in
        let own : d.entity ≡ i = entity_none (prior scope n facts g) (link scope n facts g) e in
        declares_at F final d is_kind v refl
        (ap is_kind (kind_is F final (noted_as F final d) d (declared_in F final d v refl) v refl (sym own)) ∙ so)

    -- or it is a typedef name that was declared before
    pub again_told : Sorted (NoEntity F.occurrences) facts.declared facts.occurrences facts.fault → (x : Declaration) → prior scope n facts g ≡ Some x
        → (is_typedef_name kind ≡ true) × DeclaresAgain Ns i
    again_told sorted x at =
        let d : Declaration = new scope n facts g in
        let v = new_in scope n facts g in
        let o = noted_as F final d in
        let again : is_again n x ≡ true = not_not (is_again n x) (sym (ap (λ (r : Option Declaration). option_map_or (λ y. not (is_again n y)) r false) at) ∙ again_is scope n facts g) in
        let found : IsFound 0 facts.declared x = subst (λ (r : Option Declaration). IfSome r (IsFound 0 facts.declared)) at (prior_found scope n facts g) in
        let entity : d.entity ≡ x.entity = ap (λ (r : Option Declaration). entity_of n r (link scope n facts g)) at ∙ ap (λ c. if c then x.entity else entity_of n None (link scope n facts g)) again in (
          (and_parts (is_typedef_name kind) (is_typedef_name x.kind) again).0,
          record {
            name = _;
            is = is_name F final o (declared_in F final d v refl);
            index = refl;
            declares = refl;
            again = ap (λ e. e == i) entity ∙ other_entity scope n facts g sorted x found;
          },
        )
      where
        not_not : (c : Bool) → not c ≡ false → c ≡ true
        not_not true e = refl
        not_not false e = absurd (false≢true (sym e))

  pub no_again : (kind : EntityKind) (i last : ℕ) (t : CType) (r : Option Declaration) → is_typedef_name kind ≡ false → option_map_or (λ d. is_again (plain_name toks i last kind t false) d) r false ≡ false
  no_again kind i last t None e = refl
  no_again kind i last t (Some d) e = ap (λ c. c && is_typedef_name d.kind) e

  pub enumerator_told : (f : Frame) (i last : ℕ) (facts : Facts) → Grown (with_enumerator toks f i last facts) F → DeclaresAt Ns is_constant i
  enumerator_told f i last facts g =
      own_told i last Enumerator arithmetic f.scope facts g is_constant refl
      (no_again Enumerator i last arithmetic (prior f.scope (plain_name toks i last Enumerator arithmetic false) facts g) refl)
