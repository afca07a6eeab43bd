-- Names are declared and found alike where tokens are alike one another.
use Rattle.std.proofs.Common.{ℕ, ◌≡◌, Bool, true, false, ◌&&◌, ◌||◌, not, if◌then◌else◌, List, [], ◌∷◌, Option, None, Some, is_some, refl, ap, ◌∙◌}
use Rattle.std.specs.Prelude.{find}
use Rattle.std.specs.List.{list_any}
use Rattle.std.specs.Option.{option_map_or}
use Rattle.cs_base.specs.Token.{Token}
use Rattle.c99_tree.specs.Tree.{Forest}
use Rattle.c_types.specs.declared.entity.Linkage.{Linkage}
use Rattle.c_types.specs.declared.entity.Linkage.TheVariants.{Absent}
use Rattle.c_types.specs.declared.frames.Position.{Position}
use Rattle.c_types.specs.Types.{CType, arithmetic, unknown, is_unknown, is_function}
use Rattle.c_types.specs.Tags.{renumbered, tag_entity, with_tag_after, enumeration_used, is_prior_tag, prior_tag, with_tag, tag_type, with_enumeration, number_in}
use Rattle.c_types.specs.Trees.{last_token, declarator_type}
use Rattle.c_types.specs.Declarations.{alike, Facts, is_space, is_live, has_linkage, is_linkage, with_fault, with_declaration, is_named, looked_up, visible, in_scope, anywhere, linked, is_mixed}
use Rattle.gnu_bind.specs.Below.scope_bind.Below.name_chains.Members.{member_declaration, is_known, lifted, found_of, unnamed_declaration, with_silent, with_member, with_lifted, with_anonymous, member_at, member_used_as, member_used, member_type}
use Rattle.gnu_bind.specs.Below.scope_bind.Below.name_chains.Initializers.{designated_facts, designated_type, position_of, designated_position}
use Rattle.gnu_bind.specs.Below.scope_bind.Labels.{label_declaration, with_label, jump_to, with_jumps, with_labels}
use Rattle.gnu_bind.specs.Below.scope_bind.Linkage.{linkage_of}
use Rattle.gnu_bind.specs.Below.scope_bind.Named.{Space, Declaration, Declared, Body, Frame, Scope, undeclared, redeclared, mixed_linkage, designator_after_elision, ordinary, tags, members, labels}
use Rattle.gnu_bind.specs.Below.scope_bind.Ordinary.{is_again, entity_of, is_listed, declaration_of, declared_faults, declared_after, declared, used_as, used, used_type, new_linkage, new_object, with_object, new_parameter, with_parameter}

find_same : {X : Type 0} (p q : X → Bool) (xs : List X) → ((x : X) → p x ≡ q x) → find p xs ≡ find q xs
find_same p q [] e = refl
find_same p q (x ∷ xs) e =
    ap (λ (c : Bool). if c then Some x else find p xs) (e x) ∙ other (q x) (find_same p q xs e)
  where
    other : (c : Bool) → find p xs ≡ find q xs → (if c then Some x else find p xs) ≡ (if c then Some x else find q xs)
    other true h = refl
    other false h = h

any_same : {X : Type 0} (p q : X → Bool) (xs : List X) → ((x : X) → p x ≡ q x) → list_any p xs ≡ list_any q xs
any_same p q [] e = refl
any_same p q (x ∷ xs) e = ap (λ (c : Bool). c || list_any p xs) (e x) ∙ ap (λ (c : Bool). q x || c) (any_same p q xs e)

module _ (a b : List Token) (spelled : (i j : ℕ) → alike b i j ≡ alike a i j) where
  named_same : (space : Space) (i : ℕ) (d : Declaration) → is_named b space i d ≡ is_named a space i d
  named_same space i d = ap (λ (c : Bool). is_space d.space space && c) (spelled i d.name_at)

  looked_same : (space : Space) (i : ℕ) (test : Declaration → Bool) (facts : Facts) → looked_up b space i test facts ≡ looked_up a space i test facts
  looked_same space i test facts =
      find_same (λ d. is_named b space i d && test d) (λ d. is_named a space i d && test d) facts.declared
      (λ d. ap (λ (c : Bool). c && test d) (named_same space i d))

  pub visible_same : (space : Space) (i k : ℕ) (facts : Facts) → visible b space i k facts ≡ visible a space i k facts
  visible_same space i k facts = looked_same space i (is_live k) facts

  pub in_scope_same : (space : Space) (depth i k : ℕ) (facts : Facts) → in_scope b space depth i k facts ≡ in_scope a space depth i k facts
  in_scope_same space depth i k facts = looked_same space i _ facts

  anywhere_same : (space : Space) (i : ℕ) (facts : Facts) → anywhere b space i facts ≡ anywhere a space i facts
  anywhere_same space i facts = looked_same space i _ facts

  pub linked_same : (i : ℕ) (facts : Facts) → linked b i facts ≡ linked a i facts
  linked_same i facts = looked_same ordinary i _ facts

  mixed_same : (linkage : Linkage) (i : ℕ) (facts : Facts) → is_mixed b linkage i facts ≡ is_mixed a linkage i facts
  mixed_same linkage i facts =
      any_same (λ d. is_named b ordinary i d && (has_linkage d.linkage && not (is_linkage d.linkage linkage)))
      (λ d. is_named a ordinary i d && (has_linkage d.linkage && not (is_linkage d.linkage linkage))) facts.declared
      (λ d. ap (λ (c : Bool). c && (has_linkage d.linkage && not (is_linkage d.linkage linkage))) (named_same ordinary i d))

  -- ---- Declarations

  after_same : (scope : Scope) (n : Declared) (prior : Option Declaration) (facts : Facts) → declared_after b scope n prior facts ≡ declared_after a scope n prior facts
  after_same scope n prior facts =
      ap (λ (l : Option Declaration). with_declaration (declaration_of scope n (entity_of n prior l) (n.listed || is_listed n prior)) (declared_faults b n prior facts))
      (linked_same n.name_at facts)
      ∙ ap (λ (c : Bool). with_declaration (declaration_of scope n (entity_of n prior (linked a n.name_at facts)) (n.listed || is_listed n prior))
      (with_fault (n.listing && not (is_listed n prior)) undeclared n.name_at
      (with_fault (option_map_or (λ d. not (is_again n d)) prior false) redeclared n.name_at
      (with_fault (has_linkage n.linkage && c) mixed_linkage n.name_at facts)))) (mixed_same n.linkage n.name_at facts)

  pub declared_same : (scope : Scope) (n : Declared) (facts : Facts) → declared b scope n facts ≡ declared a scope n facts
  declared_same scope n facts =
      ap (λ (o : Option Declaration). declared_after b scope n o facts) (in_scope_same ordinary scope.depth n.name_at n.last facts)
      ∙ after_same scope n (in_scope a ordinary scope.depth n.name_at n.last facts) facts

  linkage_same : (f : Frame) (i last : ℕ) (t : CType) (facts : Facts) → new_linkage b f i last t facts ≡ new_linkage a f i last t facts
  linkage_same f i last t facts =
      ap (λ (o : Option Declaration). if f.words.has_typedef || f.listing then Absent else linkage_of f.scope.depth (is_function t) f.words o)
      (visible_same ordinary i last facts)

  pub object_same : (f : Frame) (under : Forest) (o : Option ℕ) (facts : Facts) → with_object b f under o facts ≡ with_object a f under o facts
  object_same f under None facts = refl
  object_same f under (Some i) facts =
      ap (λ (k : Linkage). declared b f.scope (record (new_object a f i (last_token under i) (declarator_type f.base under) facts) { linkage = k }) facts)
      (linkage_same f i (last_token under i) (declarator_type f.base under) facts)
      ∙ declared_same f.scope (new_object a f i (last_token under i) (declarator_type f.base under) facts) facts

  pub parameter_same : (f : Frame) (under : Forest) (o : Option ℕ) (facts : Facts) → with_parameter b f under o facts ≡ with_parameter a f under o facts
  parameter_same f under None facts = refl
  parameter_same f under (Some i) facts = declared_same f.scope (new_parameter a f i (last_token under i) (declarator_type f.base under)) facts

  -- ---- Uses

  pub used_same : (i : ℕ) (facts : Facts) → used b i facts ≡ used a i facts
  used_same i facts = ap (λ (o : Option Declaration). used_as a i o facts) (visible_same ordinary i i facts)

  pub used_type_same : (i : ℕ) (facts : Facts) → used_type b i facts ≡ used_type a i facts
  used_type_same i facts = ap (λ (o : Option Declaration). option_map_or (λ d. d.ctype) o arithmetic) (visible_same ordinary i i facts)

  -- ---- Tags

  prior_same : (f : Frame) (i : ℕ) (facts : Facts) → prior_tag b f i facts ≡ prior_tag a f i facts
  prior_same f i facts = looked_same tags i (is_prior_tag f i) facts

  pub tag_same : (f : Frame) (i : ℕ) (facts : Facts) → with_tag b f i facts ≡ with_tag a f i facts
  tag_same f i facts = ap (λ (o : Option Declaration). with_tag_after f i o facts) (prior_same f i facts)

  pub tag_type_same : (f : Frame) (i : ℕ) (facts : Facts) → tag_type b f i facts ≡ tag_type a f i facts
  tag_type_same f i facts = ap (λ (o : Option Declaration). renumbered f.found (tag_entity f i facts o)) (prior_same f i facts)

  pub enumeration_same : (f : Frame) (i : ℕ) (facts : Facts) → with_enumeration b f i facts ≡ with_enumeration a f i facts
  enumeration_same f i facts =
      ap (λ (x : Facts). if f.has_body then x else enumeration_used f i (visible b tags i i facts) facts) (tag_same f i facts)
      ∙ ap (λ (o : Option Declaration). if f.has_body then with_tag a f i facts else enumeration_used f i o facts) (visible_same tags i i facts)

  -- ---- Members

  pub member_same : (f : Frame) (under : Forest) (o : Option ℕ) (facts : Facts) → with_member b f under o facts ≡ with_member a f under o facts
  member_same f under None facts = refl
  member_same f under (Some i) facts =
      ap (λ (o : Option Declaration). with_declaration (member_declaration f i (last_token under i) (declarator_type f.base under)) (with_fault (is_some o) redeclared i facts))
      (anywhere_same (members f.owner) i facts)

  lifted_same : (owner : ℕ) (ds : List Declaration) (facts : Facts) → with_lifted b owner ds facts ≡ with_lifted a owner ds facts
  lifted_same owner [] facts = refl
  lifted_same owner (d ∷ later) facts =
      ap (λ (o : Option Declaration). with_lifted b owner later (with_silent (lifted owner d) (with_fault (is_some o) redeclared d.name_at facts)))
      (anywhere_same (members owner) d.name_at facts)
      ∙ lifted_same owner later (with_silent (lifted owner d) (with_fault (is_some (anywhere a (members owner) d.name_at facts)) redeclared d.name_at facts))

  pub anonymous_same : (f : Frame) (i : ℕ) (facts : Facts) → with_anonymous b f i facts ≡ with_anonymous a f i facts
  anonymous_same f i facts =
      ap (λ (x : Facts). if f.words.anonymous then with_silent (unnamed_declaration f i) x else facts) (lifted_same f.owner (found_of (number_in f.base) facts) facts)

  pub member_at_same : (t : CType) (i : ℕ) (facts : Facts) → member_at b t i facts ≡ member_at a t i facts
  member_at_same t i facts = ap (λ (o : Option Declaration). if is_known t facts then o else None) (anywhere_same (members (number_in t)) i facts)

  pub member_used_same : (t : CType) (i : ℕ) (facts : Facts) → member_used b t i facts ≡ member_used a t i facts
  member_used_same t i facts = ap (λ (o : Option Declaration). member_used_as a i o facts) (member_at_same t i facts)

  pub member_type_same : (t : CType) (i : ℕ) (other : CType) (facts : Facts) → member_type b t i other facts ≡ member_type a t i other facts
  member_type_same t i other facts = ap (λ (o : Option Declaration). option_map_or (λ d. d.ctype) o other) (member_at_same t i facts)

  -- ---- Designators

  pub designated_same : (place : CType) (i : ℕ) (facts : Facts) → designated_facts b place i facts ≡ designated_facts a place i facts
  designated_same place i facts =
      ap (λ (x : Facts). if is_unknown place then with_fault true designator_after_elision i facts else x) (member_used_same place i facts)

  pub designated_type_same : (place : CType) (i : ℕ) (facts : Facts) → designated_type b place i facts ≡ designated_type a place i facts
  designated_type_same place i facts = ap (λ (t : CType). if is_unknown place then unknown else t) (member_type_same place i unknown facts)

  pub position_same : (place : CType) (i : ℕ) (facts : Facts) (at : Position) → designated_position b place i facts at ≡ designated_position a place i facts at
  position_same place i facts at = ap (λ (o : Option Declaration). position_of a place facts o at) (member_at_same place i facts)

  -- ---- Labels

  pub label_same : (body : Option Body) (i : ℕ) (facts : Facts) → with_label b body i facts ≡ with_label a body i facts
  label_same None i facts = refl
  label_same (Some w) i facts =
      ap (λ (o : Option Declaration). with_declaration (label_declaration w i) (with_fault (is_some o) redeclared i facts)) (anywhere_same (labels w.from) i facts)

  jumps_same : (w : Body) (jumps : List ℕ) (facts : Facts) → with_jumps b w jumps facts ≡ with_jumps a w jumps facts
  jumps_same w [] facts = refl
  jumps_same w (i ∷ later) facts =
      ap (λ (o : Option Declaration). with_jumps b w later (jump_to a i o facts)) (anywhere_same (labels w.from) i facts)
      ∙ jumps_same w later (jump_to a i (anywhere a (labels w.from) i facts) facts)

  pub labels_same : (body : Option Body) (facts : Facts) → with_labels b body facts ≡ with_labels a body facts
  labels_same None facts = refl
  labels_same (Some w) facts = jumps_same w facts.jumps facts
