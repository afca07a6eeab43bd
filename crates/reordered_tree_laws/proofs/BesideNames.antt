-- Names that are used and declared, and tags, whatever stands beside.
use Rattle.std.proofs.Common.{ℕ, ◌≡◌, Bool, true, false, ◌&&◌, ◌||◌, not, if◌then◌else◌, ◌==◌, List, Option, None, Some, refl, sym, ap, subst, ◌∙◌}
use Rattle.std.specs.Prelude.{IfSome}
use Rattle.std.specs.List.{list_any}
use Rattle.std.specs.Option.{option_map_or}
use Rattle.std.proofs.lemmas.Bool.{and_from, and_parts}
use Rattle.cs_base.specs.Token.{Token}
use Rattle.cs_base.proofs.BoolLemmas.{not_true as not_false}
use Rattle.c99_tree.specs.Tree.{Forest}
use Rattle.c_types.specs.declared.entity.EntityKind.{EntityKind}
use Rattle.c_types.specs.declared.entity.EntityKind.TheVariants.{Typedef, Parameter}
use Rattle.c_types.specs.Types.{CType, arithmetic, array, adjusted}
use Rattle.c_types.specs.Trees.{last_token, declarator_type}
use Rattle.c_types.specs.Tags.{number_in, renumbered, is_same_tag, tag_entity, is_declaring, tag_declaration, tag_named, is_prior_tag, with_tag_after, prior_tag, with_tag, tag_type, is_complete, is_sort, enumeration_used}
use Rattle.c_types.specs.Declarations.{Facts, is_live, is_named, with_fault, with_use, with_declaration, with_begun, visible, in_scope, linked}
use Rattle.scope_bind.specs.Named.{Declaration, Declared, Occurrence, Frame, Scope, undeclared, redeclared, tag_redefined, ordinary, tags}
use Rattle.scope_bind.specs.Ordinary.{is_again, linked_entity, entity_of, declaration_of, declared, used_as, used, used_type, plain_name, with_parameter}
use Rattle.tree_laws.proofs.Lookups.{any_same}
use Rattle.reordered_tree_laws.specs.Beside.{is_free_tag, is_free_use, is_free_name, IsOwn, IsOwnDeclaration, IsOwnFrame, AreBeside}
use Rattle.reordered_tree_laws.proofs.Beside.{IsUnasked, found_same, found_own, fault_beside, occurrence_beside, declaration_beside, begun_beside}
use Rattle.reordered_tree_laws.proofs.OwnTypes.{own_adjusted, own_declarator, own_renumbered}

module _ (toks : List Token) (foreign : ℕ → Bool) (zero_own : foreign 0 ≡ false) (ds es : List Declaration) (bs cs : List Occurrence) where
  abbrev Next : Facts → Facts → Type 0
  Next f g = AreBeside foreign ds es bs cs f g

  abbrev Hidden : (Declaration → Bool) → Type 0
  Hidden q = IsUnasked foreign ds es bs cs q

  pub type_own : (r : Option Declaration) (other : CType) → IsOwn foreign other → IfSome r (IsOwnDeclaration foreign)
      → IsOwn foreign (option_map_or (λ d. d.ctype) r other)
  type_own None other o h = o
  type_own (Some d) other o h = h.ctype

  entity_own : (c : Bool) (x y : ℕ) → foreign x ≡ false → foreign y ≡ false → foreign (if c then x else y) ≡ false
  entity_own true x y h k = h
  entity_own false x y h k = k

  module _ (f g : Facts) (k : Next f g) where
    -- ---- Uses

    abbrev use_of : ℕ → Declaration → Bool
    use_of i d = is_named toks ordinary i d && is_live i d

    pub free_use : (i : ℕ) → is_free_use foreign toks ds i ≡ true → is_free_use foreign toks es i ≡ true → Hidden (use_of i)
    free_use i p q = record { first = not_false (list_any (use_of i) ds) p; second = not_false (list_any (use_of i) es) q }

    used_by : (i : ℕ) (r : Option Declaration) → Next (used_as toks i r f) (used_as toks i r g)
    used_by i None = fault_beside foreign ds es bs cs true undeclared i f g k
    used_by i (Some d) = occurrence_beside foreign ds es bs cs i d.entity false f g k

    pub used_beside : (i : ℕ) → Hidden (use_of i) → Next (used toks i f) (used toks i g)
    used_beside i u =
        subst (λ r. Next (used toks i f) (used_as toks i r g)) (sym (found_same foreign ds es bs cs f g k (use_of i) u)) (used_by i (visible toks ordinary i i f))

    pub type_beside : (i : ℕ) → Hidden (use_of i) → used_type toks i g ≡ used_type toks i f
    type_beside i u = ap (λ r. option_map_or (λ d. d.ctype) r arithmetic) (found_same foreign ds es bs cs f g k (use_of i) u)

    pub used_type_own : (i : ℕ) → Hidden (use_of i) → IsOwn foreign (used_type toks i f)
    used_type_own i u = type_own (visible toks ordinary i i f) arithmetic zero_own (found_own foreign ds es bs cs f g k (use_of i) u)

    pub named_beside : (i : ℕ) (c : Bool) → Hidden (use_of i) → Next (if c then f else used toks i f) (if c then g else used toks i g)
    named_beside i true u = k
    named_beside i false u = used_beside i u

    pub named_type_beside : (i : ℕ) (c : Bool) → Hidden (use_of i)
        → (if c then array arithmetic else used_type toks i g) ≡ (if c then array arithmetic else used_type toks i f)
    named_type_beside i true u = refl
    named_type_beside i false u = type_beside i u

    -- ---- Declarations

    abbrev scope_of : ℕ → ℕ → Scope → Declaration → Bool
    scope_of i last scope d = is_named toks ordinary i d && (is_live last d && (d.depth == scope.depth))

    pub free_name : (scope : Scope) (i last : ℕ) → is_free_name foreign toks ds scope i last ≡ true → is_free_name foreign toks es scope i last ≡ true
        → (foreign i ≡ false) × Hidden (scope_of i last scope)
    free_name scope i last p q =
        let p' = and_parts (not (foreign i)) (not (list_any (scope_of i last scope) ds)) p in
        let q' = and_parts (not (foreign i)) (not (list_any (scope_of i last scope) es)) q in (
          not_false (foreign i) p'.0,
          record { first = not_false (list_any (scope_of i last scope) ds) p'.1; second = not_false (list_any (scope_of i last scope) es) q'.1 },
        )

    module _ (scope : Scope) (i last : ℕ) (kind : EntityKind) (t : CType) (listed : Bool) where
      abbrev n : Declared
      n = plain_name toks i last kind t listed

      -- the entity, by what stands in the scope alone
      abbrev entity_by : Option Declaration → ℕ
      entity_by None = i
      entity_by (Some d) = if is_again n d then d.entity else i

      unlinked : (l : Option Declaration) → linked_entity n l ≡ i
      unlinked None = refl
      unlinked (Some d) = refl

      entity_is : (r l : Option Declaration) → entity_of n r l ≡ entity_by r
      entity_is None l = unlinked l
      entity_is (Some d) l = ap (λ e. if is_again n d then d.entity else e) (unlinked l)

      entity_by_own : (r : Option Declaration) → foreign i ≡ false → IfSome r (IsOwnDeclaration foreign) → foreign (entity_by r) ≡ false
      entity_by_own None o h = o
      entity_by_own (Some d) o h = entity_own (is_again n d) d.entity i h.entity o

      pub declared_beside : foreign i ≡ false → Hidden (scope_of i last scope) → IsOwn foreign t → Next (declared toks scope n f) (declared toks scope n g)
      declared_beside o u own =
          let r : Option Declaration = in_scope toks ordinary scope.depth i last f in
          let same : in_scope toks ordinary scope.depth i last g ≡ r = found_same foreign ds es bs cs f g k (scope_of i last scope) u in
          let found : IfSome r (IsOwnDeclaration foreign) = found_own foreign ds es bs cs f g k (scope_of i last scope) u in
          let wrong : Bool = option_map_or (λ d. not (is_again n d)) r false in
          let d : Declaration = declaration_of scope n (entity_by r) (listed || false) in
          let here : Next (with_declaration d (with_fault wrong redeclared i f)) (with_declaration d (with_fault wrong redeclared i g)) =
          declaration_beside foreign ds es bs cs d (with_fault wrong redeclared i f) (with_fault wrong redeclared i g) o
          (record { ctype = own; entity = entity_by_own r o found })
          (fault_beside foreign ds es bs cs wrong redeclared i f g k) in
          let first : with_declaration d (with_fault wrong redeclared i f) ≡ declared toks scope n f =
          ap (λ e. with_declaration (declaration_of scope n e (listed || false)) (with_fault wrong redeclared i f)) (sym (entity_is r (linked toks i f))) in
          let second : with_declaration d (with_fault wrong redeclared i g) ≡ declared toks scope n g =
          ap (λ e. with_declaration (declaration_of scope n e (listed || false)) (with_fault wrong redeclared i g)) (sym (entity_is r (linked toks i g)))
          ∙ ap (λ x. with_declaration (declaration_of scope n (entity_of n x (linked toks i g)) (listed || false)) (with_fault (option_map_or (λ d. not (is_again n d)) x false) redeclared i g)) (sym same) in
          subst (λ x. Next x (declared toks scope n g)) first (subst (λ x. Next (with_declaration d (with_fault wrong redeclared i f)) x) second here)

    parameter_by : (fr : Frame) (i last : ℕ) (t : CType) (c : Bool) → foreign i ≡ false → Hidden (scope_of i last fr.scope) → IsOwn foreign t
        → Next (declared toks fr.scope (if c then plain_name toks i last Typedef t false else plain_name toks i last Parameter (adjusted t) false) f)
        (declared toks fr.scope (if c then plain_name toks i last Typedef t false else plain_name toks i last Parameter (adjusted t) false) g)
    parameter_by fr i last t true o u own = declared_beside fr.scope i last Typedef t false o u own
    parameter_by fr i last t false o u own = declared_beside fr.scope i last Parameter (adjusted t) false o u (own_adjusted foreign zero_own t own)

    pub parameter_beside : (fr : Frame) (under : Forest) (name : Option ℕ) → IsOwnFrame foreign fr
        → option_map_or (λ i. is_free_name foreign toks ds fr.scope i (last_token under i)) name true ≡ true
        → option_map_or (λ i. is_free_name foreign toks es fr.scope i (last_token under i)) name true ≡ true
        → Next (with_parameter toks fr under name f) (with_parameter toks fr under name g)
    parameter_beside fr under None o p q = k
    parameter_beside fr under (Some i) o p q =
        let free = free_name fr.scope i (last_token under i) p q in
        parameter_by fr i (last_token under i) (declarator_type fr.base under) fr.words.has_typedef free.0 free.1
        (own_declarator foreign zero_own fr.base under o.base)

    -- ---- Tags

    abbrev tag_of : ℕ → Declaration → Bool
    tag_of i d = is_named toks tags i d && is_live i d

    abbrev prior_of : Frame → ℕ → Declaration → Bool
    prior_of fr i d = is_named toks tags i d && is_prior_tag fr i d

    pub free_tag : (i : ℕ) → is_free_tag foreign toks ds i ≡ true → is_free_tag foreign toks es i ≡ true → Hidden (tag_of i)
    free_tag i p q = record { first = not_false (list_any (tag_of i) ds) p; second = not_false (list_any (tag_of i) es) q }

    -- an earlier declaration of a tag is visible
    prior_live : (fr : Frame) (i : ℕ) (d : Declaration) → prior_of fr i d ≡ true → tag_of i d ≡ true
    prior_live fr i d e =
        let p = and_parts (is_named toks tags i d) (is_prior_tag fr i d) e in
        and_from (is_named toks tags i d) (is_live i d) p.0
        ((and_parts (is_live i d) (not (fr.has_body || fr.alone) || (d.depth == fr.scope.depth)) p.1).0)

    module _ (fr : Frame) (o : IsOwnFrame foreign fr) (i : ℕ) (mine : foreign i ≡ false) (u : Hidden (tag_of i)) where
      tag_asked : Hidden (prior_of fr i)
      tag_asked = record {
        first = any_same (prior_of fr i) (tag_of i) ds (λ d w. prior_live fr i d) u.first;
        second = any_same (prior_of fr i) (tag_of i) es (λ d w. prior_live fr i d) u.second;
      }

      prior_same : prior_tag toks fr i g ≡ prior_tag toks fr i f
      prior_same = found_same foreign ds es bs cs f g k (prior_of fr i) tag_asked

      same_tag : (d : Declaration) → IsOwnDeclaration foreign d → is_same_tag fr g d ≡ is_same_tag fr f d
      same_tag d h = ap (λ b. is_sort d.ctype fr.found && not (fr.has_body && b)) (k.begun d.entity h.entity)

      tag_entity_same : (r : Option Declaration) → IfSome r (IsOwnDeclaration foreign) → tag_entity fr i g r ≡ tag_entity fr i f r
      tag_entity_same None h = refl
      tag_entity_same (Some d) h = ap (λ b. if b then d.entity else i) (same_tag d h)

      tag_entity_own : (r : Option Declaration) → IfSome r (IsOwnDeclaration foreign) → foreign (tag_entity fr i f r) ≡ false
      tag_entity_own None h = mine
      tag_entity_own (Some d) h = entity_own (is_same_tag fr f d) d.entity i h.entity mine

      prior_own : IfSome (prior_tag toks fr i f) (IsOwnDeclaration foreign)
      prior_own = found_own foreign ds es bs cs f g k (prior_of fr i) tag_asked

      named_by : (declares : Bool) (e u : ℕ) → foreign e ≡ false
          → Next (if declares then with_begun fr.has_body e (with_declaration (tag_declaration fr.scope i e (renumbered fr.found e)) f) else with_use i u f)
          (if declares then with_begun fr.has_body e (with_declaration (tag_declaration fr.scope i e (renumbered fr.found e)) g) else with_use i u g)
      named_by true e u own =
          let d : Declaration = tag_declaration fr.scope i e (renumbered fr.found e) in
          begun_beside foreign ds es bs cs fr.has_body e (with_declaration d f) (with_declaration d g)
          (declaration_beside foreign ds es bs cs d f g mine (record { ctype = own_renumbered foreign zero_own fr.found e o.found own; entity = own }) k)
      named_by false e u own = occurrence_beside foreign ds es bs cs i u false f g k

      abbrev wrong_tag : Facts → Option Declaration → Bool
      wrong_tag x r = option_map_or (λ d. not (is_same_tag fr x d)) r false

      wrong_same : (r : Option Declaration) → IfSome r (IsOwnDeclaration foreign) → wrong_tag g r ≡ wrong_tag f r
      wrong_same None h = refl
      wrong_same (Some d) h = ap not (same_tag d h)

      tag_by : (r : Option Declaration) → IfSome r (IsOwnDeclaration foreign) → Next (with_tag_after fr i r f) (with_tag_after fr i r g)
      tag_by r h =
          let e : ℕ = tag_entity fr i f r in
          let inner : Next (tag_named fr i r e f) (tag_named fr i r e g) =
          named_by (is_declaring fr r) e (option_map_or (λ d. d.entity) r i) (tag_entity_own r h) in
          let here : Next (with_tag_after fr i r f) (with_fault (wrong_tag f r) tag_redefined i (tag_named fr i r e g)) =
          fault_beside foreign ds es bs cs (wrong_tag f r) tag_redefined i (tag_named fr i r e f) (tag_named fr i r e g) inner in
          subst (λ x. Next (with_tag_after fr i r f) x)
          (ap (λ c. with_fault c tag_redefined i (tag_named fr i r e g)) (sym (wrong_same r h))
          ∙ ap (λ x. with_fault (wrong_tag g r) tag_redefined i (tag_named fr i r x g)) (sym (tag_entity_same r h))) here

      pub tag_beside : Next (with_tag toks fr i f) (with_tag toks fr i g)
      tag_beside = subst (λ r. Next (with_tag toks fr i f) (with_tag_after fr i r g)) (sym prior_same) (tag_by (prior_tag toks fr i f) prior_own)

      pub tag_type_beside : tag_type toks fr i g ≡ tag_type toks fr i f
      tag_type_beside =
          ap (λ r. renumbered fr.found (tag_entity fr i g r)) prior_same ∙ ap (renumbered fr.found) (tag_entity_same (prior_tag toks fr i f) prior_own)

      pub tag_type_own : IsOwn foreign (tag_type toks fr i f)
      tag_type_own = own_renumbered foreign zero_own fr.found (tag_entity fr i f (prior_tag toks fr i f)) o.found (tag_entity_own (prior_tag toks fr i f) prior_own)

      enumeration_by : (r : Option Declaration) → IfSome r (IsOwnDeclaration foreign) → Next (enumeration_used fr i r f) (enumeration_used fr i r g)
      enumeration_by None h = fault_beside foreign ds es bs cs true undeclared i f g k
      enumeration_by (Some d) h =
          let sort : Bool = not (is_sort d.ctype fr.found) in
          let f1 : Facts = with_fault sort tag_redefined i f in
          let g1 : Facts = with_fault sort tag_redefined i g in
          let one : Next f1 g1 = fault_beside foreign ds es bs cs sort tag_redefined i f g k in
          let two : Next (with_fault (not (is_complete f d)) undeclared i f1) (with_fault (not (is_complete f d)) undeclared i g1) =
          fault_beside foreign ds es bs cs (not (is_complete f d)) undeclared i f1 g1 one in
          subst (λ c. Next (enumeration_used fr i (Some d) f) (with_use i d.entity (with_fault (not c) undeclared i g1)))
          (sym (k.complete (number_in d.ctype) h.ctype))
          (occurrence_beside foreign ds es bs cs i d.entity false (with_fault (not (is_complete f d)) undeclared i f1) (with_fault (not (is_complete f d)) undeclared i g1) two)

      pub enumeration_beside : (c : Bool) → Next (if c then with_tag toks fr i f else enumeration_used fr i (visible toks tags i i f) f)
          (if c then with_tag toks fr i g else enumeration_used fr i (visible toks tags i i g) g)
      enumeration_beside true = tag_beside
      enumeration_beside false =
          subst (λ r. Next (enumeration_used fr i (visible toks tags i i f) f) (enumeration_used fr i r g))
          (sym (found_same foreign ds es bs cs f g k (tag_of i) u))
          (enumeration_by (visible toks tags i i f) (found_own foreign ds es bs cs f g k (tag_of i) u))

      pub enumeration_type_beside : (c : Bool) → (if c then tag_type toks fr i g else fr.found) ≡ (if c then tag_type toks fr i f else fr.found)
      enumeration_type_beside true = tag_type_beside
      enumeration_type_beside false = refl
