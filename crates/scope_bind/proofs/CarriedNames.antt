-- Ordinary identifiers and tags go along with the tokens.
use Rattle.std.proofs.Common.{ℕ, ◌+◌, ◌≡◌, Bool, true, false, ◌&&◌, ◌||◌, not, if◌then◌else◌, ◌==◌, List, Option, None, Some, refl, sym, ap, ◌∙◌}
use Rattle.std.specs.Prelude.{codes}
use Rattle.std.specs.Option.{option_map, option_map_or}
use Rattle.std.specs.Str.{bytes_eq}
use Rattle.cs_base.specs.Token.{Token}
use Rattle.c_types.specs.declared.entity.EntityKind.TheVariants.{Typedef, Parameter}
use Rattle.c_types.specs.declared.entity.Linkage.{Linkage}
use Rattle.c_types.specs.declared.entity.Linkage.TheVariants.{Absent}
use Rattle.c_types.specs.Types.{CType, arithmetic, array, adjusted, is_function}
use Rattle.c_types.specs.Tags.{renumbered, is_sort, is_same_tag, tag_entity, is_declaring, tag_declaration, tag_named, is_prior_tag, with_tag_after, prior_tag, with_tag, tag_type}
use Rattle.c_types.specs.Declarations.{Facts, is_in, has_linkage, is_mixed, linked, in_scope, visible, spelling_at, with_fault, with_use, with_declaration, with_begun}
use Rattle.scope_bind.specs.Named.{Declaration, Declared, Body, Frame, Scope, undeclared, redeclared, tag_redefined, mixed_linkage, ordinary, tags}
use Rattle.scope_bind.specs.Linkage.{prior_linkage, follows_prior, own_linkage, linkage_of}
use Rattle.scope_bind.specs.Ordinary.{is_again, linked_entity, entity_of, is_listed, declaration_of, declared_faults, declared_after, declared, used_as, used, used_type, is_func, named_facts, named_type, new_type, new_linkage, new_object, plain_name}
use Rattle.scope_bind.specs.Moved.{moved_type, moved_body}
use Rattle.scope_bind.proofs.MovedSpaces.{same_ordinary, same_tags}
use Rattle.scope_bind.proofs.MovedTypes.{type_if, sort_same, adjusted_moved, renumbered_moved}
use Rattle.scope_bind.specs.Carried.{carried, carried_facts, carried_frame, AreCarried}
use Rattle.scope_bind.proofs.CarriedFacts.{facts_if, index_if, fault_when, fault_along, in_along, begun_along, live_along, looked_along, visible_along, scope_along, linked_along, mixed_along, word_along}

-- ---- Linkage

prior_along : (m : ℕ → ℕ) (r : Option Declaration) → prior_linkage (option_map (carried m) r) ≡ prior_linkage r
prior_along m None = refl
prior_along m (Some d) = refl

pub linkage_along : (m : ℕ → ℕ) (depth : ℕ) (fn : Bool) (f : Frame) (r : Option Declaration)
    → linkage_of depth fn f.words (option_map (carried m) r) ≡ linkage_of depth fn f.words r
linkage_along m depth fn f r = ap (λ l. if follows_prior depth fn f.words then l else own_linkage depth f.words) (prior_along m r)

-- ---- Names

abbrev pub carried_scope : (ℕ → ℕ) → Scope → Scope
carried_scope m s = record { depth = s.depth; to = m s.to }

abbrev pub carried_name : (ℕ → ℕ) → Declared → Declared
carried_name m n = record {
  name_at = m n.name_at;
  last = m n.last;
  kind = n.kind;
  ctype = moved_type m n.ctype;
  linkage = n.linkage;
  listing = n.listing;
  listed = n.listed;
}

module _ (m : ℕ → ℕ) (h : ℕ) (a b : List Token) (law : AreCarried m h a b) where
  abbrev C : Declaration → Declaration
  C d = carried m d

  abbrev F : Facts → Facts
  F f = carried_facts m f

  abbrev Fr : Frame → Frame
  Fr f = carried_frame m f

  abbrev T : CType → CType
  T t = moved_type m t

  -- the token behind it is the one behind it there
  abbrev pub Next : ℕ → Type 0
  Next i = m (i + 1) ≡ m i + 1

  linked_entity_along : (n : Declared) (r : Option Declaration) → linked_entity (carried_name m n) (option_map C r) ≡ m (linked_entity n r)
  linked_entity_along n None = refl
  linked_entity_along n (Some d) = index_if m h a b law (has_linkage n.linkage) d.entity n.name_at

  entity_along : (n : Declared) (r l : Option Declaration) → entity_of (carried_name m n) (option_map C r) (option_map C l) ≡ m (entity_of n r l)
  entity_along n None l = linked_entity_along n l
  entity_along n (Some d) l =
      ap (λ e. if is_again n d then m d.entity else e) (linked_entity_along n l) ∙ index_if m h a b law (is_again n d) d.entity (linked_entity n l)

  listed_along : (n : Declared) (r : Option Declaration) → is_listed (carried_name m n) (option_map C r) ≡ is_listed n r
  listed_along n None = refl
  listed_along n (Some d) = refl

  again_along : (n : Declared) (r : Option Declaration) → option_map_or (λ d. not (is_again (carried_name m n) d)) (option_map C r) false ≡ option_map_or (λ d. not (is_again n d)) r false
  again_along n None = refl
  again_along n (Some d) = refl

  declaration_along : (s : Scope) (n : Declared) (e : ℕ) (c : Bool) → Next n.last → declaration_of (carried_scope m s) (carried_name m n) (m e) c ≡ C (declaration_of s n e c)
  declaration_along s n e c behind = ap (λ (k : ℕ). record (C (declaration_of s n e c)) { from = k }) (sym behind)

  faults_along : (n : Declared) (r : Option Declaration) (f : Facts) → declared_faults b (carried_name m n) (option_map C r) (F f) ≡ F (declared_faults a n r f)
  faults_along n r f =
      let mixed : Bool = has_linkage n.linkage && is_mixed a n.linkage n.name_at f in
      let f1 : Facts = with_fault mixed mixed_linkage n.name_at f in
      let anew : Bool = option_map_or (λ d. not (is_again n d)) r false in
      let f2 : Facts = with_fault anew redeclared n.name_at f1 in
      fault_when m h a b law _ (n.listing && not (is_listed n r)) undeclared n.name_at f2 _ (ap (λ c. n.listing && not c) (listed_along n r))
      (fault_when m h a b law _ anew redeclared n.name_at f1 _ (again_along n r)
      (fault_when m h a b law _ mixed mixed_linkage n.name_at f _ (ap (λ c. has_linkage n.linkage && c) (mixed_along m h a b law n.linkage n.name_at f)) refl))

  after_along : (s : Scope) (n : Declared) (r : Option Declaration) (f : Facts) → Next n.last
      → declared_after b (carried_scope m s) (carried_name m n) (option_map C r) (F f) ≡ F (declared_after a s n r f)
  after_along s n r f behind =
      let l : Option Declaration = linked a n.name_at f in
      ap (λ o. with_declaration (declaration_of (carried_scope m s) (carried_name m n) (entity_of (carried_name m n) (option_map C r) o)
      (n.listed || is_listed (carried_name m n) (option_map C r))) (declared_faults b (carried_name m n) (option_map C r) (F f))) (linked_along m h a b law n.name_at f)
      ∙ (ap (λ e. with_declaration (declaration_of (carried_scope m s) (carried_name m n) e (n.listed || is_listed (carried_name m n) (option_map C r)))
      (declared_faults b (carried_name m n) (option_map C r) (F f))) (entity_along n r l)
      ∙ (ap (λ c. with_declaration (declaration_of (carried_scope m s) (carried_name m n) (m (entity_of n r l)) (n.listed || c))
      (declared_faults b (carried_name m n) (option_map C r) (F f))) (listed_along n r)
      ∙ (ap (λ d. with_declaration d (declared_faults b (carried_name m n) (option_map C r) (F f)))
      (declaration_along s n (entity_of n r l) (n.listed || is_listed n r) behind)
      ∙ ap (λ g. with_declaration (C (declaration_of s n (entity_of n r l) (n.listed || is_listed n r))) g) (faults_along n r f))))

  pub declared_along : (s : Scope) (n : Declared) (f : Facts) → Next n.last → declared b (carried_scope m s) (carried_name m n) (F f) ≡ F (declared a s n f)
  declared_along s n f behind =
      ap (λ r. declared_after b (carried_scope m s) (carried_name m n) r (F f)) (scope_along m h a b law s.depth n.name_at n.last f)
      ∙ after_along s n (in_scope a ordinary s.depth n.name_at n.last f) f behind

  -- ---- Uses

  used_as_along : (i : ℕ) (r : Option Declaration) (f : Facts) → used_as b (m i) (option_map C r) (F f) ≡ F (used_as a i r f)
  used_as_along i None f = fault_along m h a b law true undeclared i f
  used_as_along i (Some d) f = refl

  pub used_along : (i : ℕ) (f : Facts) → used b (m i) (F f) ≡ F (used a i f)
  used_along i f =
      ap (λ r. used_as b (m i) r (F f)) (visible_along m h a b law ordinary ordinary (same_ordinary m a b law.texts) i i f)
      ∙ used_as_along i (visible a ordinary i i f) f

  pub type_found : (r : Option Declaration) (t : CType) → option_map_or (λ d. d.ctype) (option_map C r) (T t) ≡ T (option_map_or (λ d. d.ctype) r t)
  type_found None t = refl
  type_found (Some d) t = refl

  pub used_type_along : (i : ℕ) (f : Facts) → used_type b (m i) (F f) ≡ T (used_type a i f)
  used_type_along i f =
      ap (λ r. option_map_or (λ d. d.ctype) r arithmetic) (visible_along m h a b law ordinary ordinary (same_ordinary m a b law.texts) i i f)
      ∙ type_found (visible a ordinary i i f) arithmetic

  pub body_there : (o : Option Body) → option_map_or (λ b. true) (option_map (moved_body m) o) false ≡ option_map_or (λ b. true) o false
  body_there None = refl
  body_there (Some x) = refl

  pub func_along : (f : Frame) (i : ℕ) → is_func b (Fr f) (m i) ≡ is_func a f i
  func_along f i =
      ap (λ c. (c && not f.listing) && bytes_eq (spelling_at b (m i)) (codes "__func__")) (body_there f.body)
      ∙ ap (λ c. (option_map_or (λ b. true) f.body false && not f.listing) && c) (word_along m h a b law i (codes "__func__"))

  pub named_along : (f : Frame) (i : ℕ) (facts : Facts) → named_facts b (Fr f) (m i) (F facts) ≡ F (named_facts a f i facts)
  named_along f i facts =
      ap (λ c. if c then F facts else used b (m i) (F facts)) (func_along f i)
      ∙ facts_if m h a b law (is_func a f i) facts (F facts) (used a i facts) (used b (m i) (F facts)) refl (used_along i facts)

  pub named_type_along : (f : Frame) (i : ℕ) (facts : Facts) → named_type b (Fr f) (m i) (F facts) ≡ T (named_type a f i facts)
  named_type_along f i facts =
      ap (λ c. if c then array arithmetic else used_type b (m i) (F facts)) (func_along f i)
      ∙ type_if m (is_func a f i) (array arithmetic) (used_type a i facts) (array arithmetic) (used_type b (m i) (F facts)) refl (used_type_along i facts)

  -- ---- Declarations

  new_linkage_along : (f : Frame) (i last : ℕ) (t : CType) (facts : Facts) → new_linkage b (Fr f) (m i) (m last) (T t) (F facts) ≡ new_linkage a f i last t facts
  new_linkage_along f i last t facts =
      ap (λ l. if f.words.has_typedef || f.listing then Absent else l)
      (ap (linkage_of f.scope.depth (is_function t) f.words) (visible_along m h a b law ordinary ordinary (same_ordinary m a b law.texts) i last facts)
      ∙ linkage_along m f.scope.depth (is_function t) f (visible a ordinary i last facts))

  new_type_along : (f : Frame) (t : CType) → new_type b (Fr f) (T t) ≡ T (new_type a f t)
  new_type_along f t = type_if m (f.listing && not (f.words.has_typedef)) (adjusted t) t (adjusted (T t)) (T t) (adjusted_moved m t) refl

  new_object_along : (f : Frame) (i last : ℕ) (t : CType) (facts : Facts) → new_object b (Fr f) (m i) (m last) (T t) (F facts) ≡ carried_name m (new_object a f i last t facts)
  new_object_along f i last t facts =
      ap (λ (l : Linkage). record (new_object b (Fr f) (m i) (m last) (T t) (F facts)) { linkage = l }) (new_linkage_along f i last t facts)
      ∙ ap (λ (x : CType). record (carried_name m (new_object a f i last t facts)) { ctype = x }) (new_type_along f t)

  pub object_along : (f : Frame) (i last : ℕ) (t : CType) (facts : Facts) → Next last
      → declared b (carried_scope m f.scope) (new_object b (Fr f) (m i) (m last) (T t) (F facts)) (F facts) ≡ F (declared a f.scope (new_object a f i last t facts) facts)
  object_along f i last t facts behind =
      ap (λ n. declared b (carried_scope m f.scope) n (F facts)) (new_object_along f i last t facts)
      ∙ declared_along f.scope (new_object a f i last t facts) facts behind

  parameter_if : (c : Bool) (i last : ℕ) (t : CType)
      → (if c then plain_name b (m i) (m last) Typedef (T t) false else plain_name b (m i) (m last) Parameter (adjusted (T t)) false)
      ≡ carried_name m (if c then plain_name a i last Typedef t false else plain_name a i last Parameter (adjusted t) false)
  parameter_if true i last t = refl
  parameter_if false i last t = ap (λ x. plain_name b (m i) (m last) Parameter x false) (adjusted_moved m t)

  pub parameter_along : (f : Frame) (i last : ℕ) (t : CType) (facts : Facts) → Next last
      → declared b (carried_scope m f.scope) (if f.words.has_typedef then plain_name b (m i) (m last) Typedef (T t) false else plain_name b (m i) (m last) Parameter (adjusted (T t)) false) (F facts)
      ≡ F (declared a f.scope (if f.words.has_typedef then plain_name a i last Typedef t false else plain_name a i last Parameter (adjusted t) false) facts)
  parameter_along f i last t facts behind =
      ap (λ n. declared b (carried_scope m f.scope) n (F facts)) (parameter_if f.words.has_typedef i last t)
      ∙ by f.words.has_typedef
    where
      by : (c : Bool) → declared b (carried_scope m f.scope) (carried_name m (if c then plain_name a i last Typedef t false else plain_name a i last Parameter (adjusted t) false)) (F facts)
          ≡ F (declared a f.scope (if c then plain_name a i last Typedef t false else plain_name a i last Parameter (adjusted t) false) facts)
      by true = declared_along f.scope (plain_name a i last Typedef t false) facts behind
      by false = declared_along f.scope (plain_name a i last Parameter (adjusted t) false) facts behind

  -- ---- Tags

  same_tag_along : (f : Frame) (facts : Facts) (d : Declaration) → is_same_tag (Fr f) (F facts) (C d) ≡ is_same_tag f facts d
  same_tag_along f facts d =
      ap (λ c. c && not (f.has_body && is_in (F facts).begun (m d.entity))) (sort_same m d.ctype f.found)
      ∙ ap (λ c. is_sort d.ctype f.found && not (f.has_body && c)) (in_along m h a b law facts.begun d.entity)

  tag_entity_along : (f : Frame) (i : ℕ) (facts : Facts) (r : Option Declaration) → tag_entity (Fr f) (m i) (F facts) (option_map C r) ≡ m (tag_entity f i facts r)
  tag_entity_along f i facts None = refl
  tag_entity_along f i facts (Some d) =
      ap (λ c. if c then m d.entity else m i) (same_tag_along f facts d) ∙ index_if m h a b law (is_same_tag f facts d) d.entity i

  declaring_along : (f : Frame) (r : Option Declaration) → is_declaring (Fr f) (option_map C r) ≡ is_declaring f r
  declaring_along f None = refl
  declaring_along f (Some d) = refl

  entity_found : (r : Option Declaration) (i : ℕ) → option_map_or (λ d. d.entity) (option_map C r) (m i) ≡ m (option_map_or (λ d. d.entity) r i)
  entity_found None i = refl
  entity_found (Some d) i = refl

  tag_declaration_along : (s : Scope) (i e : ℕ) (t : CType) → Next i → tag_declaration (carried_scope m s) (m i) (m e) (T t) ≡ C (tag_declaration s i e t)
  tag_declaration_along s i e t behind = ap (λ (k : ℕ). record (C (tag_declaration s i e t)) { from = k }) (sym behind)

  tag_named_along : (f : Frame) (i : ℕ) (r : Option Declaration) (e : ℕ) (facts : Facts) → Next i
      → tag_named (Fr f) (m i) (option_map C r) (m e) (F facts) ≡ F (tag_named f i r e facts)
  tag_named_along f i r e facts behind =
      ap (λ c. if c then with_begun f.has_body (m e) (with_declaration (tag_declaration (carried_scope m f.scope) (m i) (m e) (renumbered (T f.found) (m e))) (F facts))
      else with_use (m i) (option_map_or (λ d. d.entity) (option_map C r) (m i)) (F facts)) (declaring_along f r)
      ∙ facts_if m h a b law (is_declaring f r)
      (with_begun f.has_body e (with_declaration (tag_declaration f.scope i e (renumbered f.found e)) facts))
      (with_begun f.has_body (m e) (with_declaration (tag_declaration (carried_scope m f.scope) (m i) (m e) (renumbered (T f.found) (m e))) (F facts)))
      (with_use i (option_map_or (λ d. d.entity) r i) facts) (with_use (m i) (option_map_or (λ d. d.entity) (option_map C r) (m i)) (F facts))
      (ap (λ t. with_begun f.has_body (m e) (with_declaration (tag_declaration (carried_scope m f.scope) (m i) (m e) t) (F facts))) (renumbered_moved m f.found e)
      ∙ (ap (λ d. with_begun f.has_body (m e) (with_declaration d (F facts))) (tag_declaration_along f.scope i e (renumbered f.found e) behind)
      ∙ begun_along m h a b law f.has_body e (with_declaration (tag_declaration f.scope i e (renumbered f.found e)) facts)))
      (ap (λ k. with_use (m i) k (F facts)) (entity_found r i))

  wrong_tag_along : (f : Frame) (facts : Facts) (r : Option Declaration)
      → option_map_or (λ d. not (is_same_tag (Fr f) (F facts) d)) (option_map C r) false ≡ option_map_or (λ d. not (is_same_tag f facts d)) r false
  wrong_tag_along f facts None = refl
  wrong_tag_along f facts (Some d) = ap not (same_tag_along f facts d)

  tag_after_along : (f : Frame) (i : ℕ) (r : Option Declaration) (facts : Facts) → Next i
      → with_tag_after (Fr f) (m i) (option_map C r) (F facts) ≡ F (with_tag_after f i r facts)
  tag_after_along f i r facts behind =
      fault_when m h a b law _ (option_map_or (λ d. not (is_same_tag f facts d)) r false) tag_redefined i (tag_named f i r (tag_entity f i facts r) facts) _
      (wrong_tag_along f facts r)
      (ap (λ e. tag_named (Fr f) (m i) (option_map C r) e (F facts)) (tag_entity_along f i facts r) ∙ tag_named_along f i r (tag_entity f i facts r) facts behind)

  prior_tag_along : (f : Frame) (i : ℕ) (facts : Facts) → prior_tag b (Fr f) (m i) (F facts) ≡ option_map C (prior_tag a f i facts)
  prior_tag_along f i facts =
      looked_along m h a b law tags tags (same_tags m a b law.texts) i (is_prior_tag (Fr f) (m i)) (is_prior_tag f i)
      (λ d. ap (λ c. c && (not (f.has_body || f.alone) || (d.depth == f.scope.depth))) (live_along m h a b law i d)) facts

  pub tag_along : (f : Frame) (i : ℕ) (facts : Facts) → Next i → with_tag b (Fr f) (m i) (F facts) ≡ F (with_tag a f i facts)
  tag_along f i facts behind =
      ap (λ r. with_tag_after (Fr f) (m i) r (F facts)) (prior_tag_along f i facts) ∙ tag_after_along f i (prior_tag a f i facts) facts behind

  pub tag_type_along : (f : Frame) (i : ℕ) (facts : Facts) → tag_type b (Fr f) (m i) (F facts) ≡ T (tag_type a f i facts)
  tag_type_along f i facts =
      ap (λ r. renumbered (T f.found) (tag_entity (Fr f) (m i) (F facts) r)) (prior_tag_along f i facts)
      ∙ (ap (renumbered (T f.found)) (tag_entity_along f i facts (prior_tag a f i facts)) ∙ renumbered_moved m f.found (tag_entity f i facts (prior_tag a f i facts)))
