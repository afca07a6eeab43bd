-- Nodes are entered and left alike, where their tokens stay.
use Rattle.std.proofs.Common.{ℕ, ◌+◌, ◌<◌, ◌≡◌, Bool, true, false, ◌&&◌, not, if◌then◌else◌, ◌==◌, List, [], ◌++◌, map, Option, None, Some, is_some, refl, sym, ap, ◌∙◌, arith}
use Rattle.std.specs.Prelude.{filter_map}
use Rattle.std.specs.Option.{option_map, option_or}
use Rattle.std.proofs.lemmas.List.{map-append}
use Rattle.cs_base.specs.Token.{Token}
use Rattle.c99_tree.specs.Tree.{Forest, none, token, node}
use Rattle.c99_tree.specs.declared.production.Label.{Label}
use Rattle.c99_tree.specs.declared.production.Production.{Production}
use Rattle.c99_tree.specs.declared.production.Production.TheVariants.{External, ExtRest, ExtTail, FunBody, InitDecl, Declaration as DeclarationNode, Specs, Main, StructSpec, SuRest, Members, MemRest, Mdecl, EnRest, Enumerators, Enumerator, Suffix, Declarator, Param, Pdecl, Init, InitList, InitItem, Designator, CastRest, SizeLit, Primary, Post, Block, Statement, Sub}
use Rattle.c_types.specs.declared.declarations.Space.TheVariants.{Ordinary, Tags, Members as MembersOf, Inner, Unnamed, Labels}
use Rattle.c_types.specs.declared.frames.Position.{Position}
use Rattle.c_types.specs.Types.{CType, arithmetic, array, called}
use Rattle.c_types.specs.Tags.{number_in}
use Rattle.c_types.specs.Trees.{is_node, is_list, last_token, first_token, name_below, holds_name, has_name, first_list, declarator_type}
use Rattle.c_types.specs.Declarations.{Facts, with_fault, with_declaration, with_complete, anywhere}
use Rattle.name_chains.specs.Entering.{inner as inside, is_scoped, scope_in, body_in, listing_in, alone_in, owner_in, given_in, position_in, is_member, kept_here, with_kept, facts_in, found_in, frame_in, entered}
use Rattle.name_chains.specs.Frames.{State, state}
use Rattle.name_chains.specs.Initializers.{next_place}
use Rattle.name_chains.specs.Members.{member_declaration, with_member, with_anonymous}
use Rattle.c_types.specs.declared.entity.EntityKind.TheVariants.{Enumerator as Enumerated}
use Rattle.scope_bind.specs.Named.{Space, Declaration, Body, Frame, Scope, redeclared, members}
use Rattle.scope_bind.specs.Ordinary.{declared, new_object, new_parameter, plain_name, with_object, with_parameter, with_enumerator}
use Rattle.scope_bind.specs.Walk.{declared_in, parameter_in, facts_after, frame_after, left}
use Rattle.scope_bind.specs.Moved.{moved_space, moved_type, moved_body}
use Rattle.scope_bind.proofs.MovedSpaces.{same_number, number_moved}
use Rattle.scope_bind.proofs.MovedTypes.{type_if, called_moved, declarator_moved, after_moved}
use Rattle.scope_bind.specs.Carried.{carried, carried_facts, carried_frame, carried_state, AreCarried, IsBelow}
use Rattle.scope_bind.proofs.CarriedFacts.{chosen_along, facts_if, complete_along}
use Rattle.scope_bind.proofs.CarriedNames.{carried_scope, declared_along, object_along, parameter_along}
use Rattle.scope_bind.proofs.CarriedMembers.{new_record_along, member_along, anonymous_along, next_place_along, element_along, position_along, labels_along}

-- ---- Tokens that stay

module _ (h : ℕ) (some : 1 < h) where
  abbrev pub LowIndex : Option ℕ → Type 0
  LowIndex None = Unit {0}
  LowIndex (Some i) = i + 1 < h

  pub last_below : (f : Forest) (k : ℕ) → IsBelow h f → k + 1 < h → last_token f k + 1 < h
  last_below none k low e = e
  last_below (token i rest) k low e = last_below rest i low.1 low.0
  last_below (node l first under rest) k low e = last_below rest (last_token under k) low.2 (last_below under k low.1 e)

  pub first_below : (f : Forest) (k : ℕ) → IsBelow h f → k + 1 < h → first_token f k + 1 < h
  first_below none k low e = e
  first_below (token i rest) k low e = low.0
  first_below (node l first under rest) k low e = first_below rest k low.2 e

  pub zero_below : 0 + 1 < h
  zero_below = some

  pub low_if : (c : Bool) (x y : Option ℕ) → LowIndex x → LowIndex y → LowIndex (if c then x else y)
  low_if true x y e k = e
  low_if false x y e k = k

  pub name_below_low : (l : Label) (f : Forest) → IsBelow h f → LowIndex (name_below l f)
  name_below_low l none low = tt
  name_below_low l (token i rest) low = low_if (has_name l) (Some i) (name_below l rest) low.0 (name_below_low l rest low.1)
  name_below_low l (node n first under rest) low =
      low_if (holds_name n.production) (name_below n under) (name_below l rest) (name_below_low n under low.1) (name_below_low l rest low.2)

  pub or_low : (x y : Option ℕ) → LowIndex x → LowIndex y → LowIndex (option_or x y)
  or_low None y e k = k
  or_low (Some i) y e k = e

  list_low : (f : Forest) → IsBelow h f → LowIndex (first_list f)
  list_low none low = tt
  list_low (token i rest) low = list_low rest low.1
  list_low (node l first under rest) low =
      low_if (is_list l) (Some (last_token under 0)) (option_or (first_list under) (first_list rest)) (last_below under 0 low.1 some)
      (or_low (first_list under) (first_list rest) (list_low under low.1) (list_low rest low.2))

module _ (m : ℕ → ℕ) (h : ℕ) (a b : List Token) (law : AreCarried m h a b) (some : 1 < h) where
  abbrev C : Declaration → Declaration
  C d = carried m d

  abbrev F : Facts → Facts
  F f = carried_facts m f

  abbrev Fr : Frame → Frame
  Fr f = carried_frame m f

  abbrev T : CType → CType
  T t = moved_type m t

  pub stays : (i : ℕ) → i + 1 < h → m i ≡ i
  stays i e = law.still i (omega (arith, e))

  pub next_stays : (i : ℕ) → i + 1 < h → m (i + 1) ≡ i + 1
  next_stays i e = law.still (i + 1) e

  pub goes_next : (i : ℕ) → i + 1 < h → m (i + 1) ≡ m i + 1
  goes_next i e = next_stays i e ∙ ap (λ k. k + 1) (sym (stays i e))

  pub index_stays : (o : Option ℕ) → LowIndex h some o → option_map m o ≡ o
  index_stays None low = refl
  index_stays (Some i) low = ap Some (stays i low)

  -- ---- A node is entered

  inner_stays : (s : Scope) (k : ℕ) → m k ≡ k → inside (carried_scope m s) k ≡ carried_scope m (inside s k)
  inner_stays s k e = ap (λ (j : ℕ). record (inside s k) { to = j }) (sym e)

  scope_if : (c : Bool) (s t u v : Scope) → u ≡ carried_scope m s → v ≡ carried_scope m t → (if c then u else v) ≡ carried_scope m (if c then s else t)
  scope_if true s t u v e k = e
  scope_if false s t u v e k = k

  scope_along : (p : Production) (l : Label) (under : Forest) (s : Scope) → IsBelow h under → scope_in p l under (carried_scope m s) ≡ carried_scope m (scope_in p l under s)
  scope_along Block l under s low = inner_stays s (last_token under 0) (stays (last_token under 0) (last_below h some under 0 low some))
  scope_along FunBody l under s low = inner_stays s (last_token under 0) (stays (last_token under 0) (last_below h some under 0 low some))
  scope_along Suffix l under s low =
      scope_if (is_list l) (inside s (last_token under 0)) s (inside (carried_scope m s) (last_token under 0)) (carried_scope m s)
      (inner_stays s (last_token under 0) (stays (last_token under 0) (last_below h some under 0 low some))) refl
  scope_along Sub l under s low = inner_stays s (last_token under 0 + 1) (next_stays (last_token under 0) (last_below h some under 0 low some))
  scope_along Statement l under s low =
      scope_if (is_scoped l.alternative) (inside s (last_token under 0 + 1)) s (inside (carried_scope m s) (last_token under 0 + 1)) (carried_scope m s)
      (inner_stays s (last_token under 0 + 1) (next_stays (last_token under 0) (last_below h some under 0 low some))) refl
  scope_along _ l under s low = refl

  body_along : (p : Production) (under : Forest) (o : Option Body) → IsBelow h under → body_in p under (option_map (moved_body m) o) ≡ option_map (moved_body m) (body_in p under o)
  body_along FunBody under o low =
      ap (λ (i : ℕ). Some (record { from = i; to = last_token under 0 })) (sym (stays (first_token under 0) (first_below h some under 0 low some)))
      ∙ ap (λ (i : ℕ). Some (record { from = m (first_token under 0); to = i })) (sym (stays (last_token under 0) (last_below h some under 0 low some)))
  body_along _ under o low = refl

  listing_along : (p : Production) (f : Frame) → listing_in p (Fr f) ≡ listing_in p f
  listing_along DeclarationNode f = refl
  listing_along _ f = refl

  pub alone_along : (p : Production) (under : Forest) (f : Frame) → alone_in p under (Fr f) ≡ alone_in p under f
  alone_along External under f = refl
  alone_along DeclarationNode under f = refl
  alone_along Specs under f = refl
  alone_along Main under f = refl
  alone_along StructSpec under f = refl
  alone_along SuRest under f = refl
  alone_along _ under f = refl

  owner_along : (p : Production) (f : Frame) → owner_in p (Fr f) ≡ m (owner_in p f)
  owner_along Members f = number_moved m a b law.texts f.found
  owner_along _ f = refl

  given_along : (p : Production) (f : Frame) → given_in p (Fr f) ≡ T (given_in p f)
  given_along ExtTail f = refl
  given_along Init f = refl
  given_along Designator f = refl
  given_along CastRest f = refl
  given_along SizeLit f = refl
  given_along Post f = refl
  given_along _ f = refl

  begins_along : (p : Production) (l : Label) (f : Frame) → position_in p l (Fr f) ≡ position_in p l f
  begins_along InitList l f = refl
  begins_along InitItem l f = refl
  begins_along _ l f = refl

  pub found_along : (p : Production) (l : Label) (f : Frame) (facts : Facts) → found_in b p l (Fr f) (F facts) ≡ T (found_in a p l f facts)
  found_along ExtTail l f facts = refl
  found_along CastRest l f facts = refl
  found_along SizeLit l f facts = refl
  found_along Post l f facts = type_if m (l.alternative == 2) (called f.found) f.found (called (T f.found)) (T f.found) (called_moved m f.found) refl
  found_along InitItem l f facts =
      type_if m (l.alternative == 1) f.given (next_place f.given f.position facts) (T f.given) (next_place (T f.given) f.position (F facts)) refl
      (next_place_along m h a b law f.given f.position facts)
  found_along Designator l f facts = element_along m h a b law f.found
  found_along SuRest l f facts = new_record_along m h a b law f.token
  found_along EnRest l f facts = refl
  found_along Primary l f facts = type_if m (l.alternative == 4) (array arithmetic) arithmetic (array arithmetic) arithmetic refl refl
  found_along _ l f facts = refl

  pub frame_along : (l : Label) (under : Forest) (f : Frame) (facts : Facts) → IsBelow h under → frame_in b l under (Fr f) (F facts) ≡ Fr (frame_in a l under f facts)
  frame_along l under f facts low =
      let p : Production = l.production in
      let g : Frame = Fr (frame_in a l under f facts) in
      let r : Frame = frame_in b l under (Fr f) (F facts) in
      ap (λ (x : Scope). record r { scope = x }) (scope_along p l under f.scope low)
      ∙ (ap (λ (x : Option Body). record r { scope = g.scope; body = x }) (body_along p under f.body low)
      ∙ (ap (λ (x : Bool). record r { scope = g.scope; body = g.body; listing = x }) (listing_along p f)
      ∙ (ap (λ (x : Bool). record r { scope = g.scope; body = g.body; listing = g.listing; alone = x }) (alone_along p under f)
      ∙ (ap (λ (x : ℕ). record r { scope = g.scope; body = g.body; listing = g.listing; alone = g.alone; owner = x }) (owner_along p f)
      ∙ (ap (λ (x : CType). record r { scope = g.scope; body = g.body; listing = g.listing; alone = g.alone; owner = g.owner; given = x }) (given_along p f)
      ∙ (ap (λ (x : CType). record r { scope = g.scope; body = g.body; listing = g.listing; alone = g.alone; owner = g.owner; given = g.given; found = x }) (found_along p l f facts)
      ∙ ap (λ (x : Position). record g { position = x }) (begins_along p l f)))))))

  member_same : (s : Space) → is_member (moved_space m s) ≡ is_member s
  member_same Ordinary = refl
  member_same Tags = refl
  member_same (MembersOf k) = refl
  member_same (Inner k) = refl
  member_same (Unnamed k) = refl
  member_same (Labels k) = refl

  here_if : (c : Bool) (d : Declaration) → (if c then Some (C d) else None) ≡ option_map C (if c then Some d else None)
  here_if true d = refl
  here_if false d = refl

  here_along : (list depth from to : ℕ) (d : Declaration) → kept_here (m list) depth (m from) (m to) (C d) ≡ option_map C (kept_here list depth from to d)
  here_along list depth from to d =
      ap (λ c. if c && ((d.depth == depth) && not (is_member (moved_space m d.space))) then Some (C (record d { from = from; to = to })) else None)
      (same_number m a b law.texts d.to list)
      ∙ (ap (λ c. if (d.to == list) && ((d.depth == depth) && not c) then Some (C (record d { from = from; to = to })) else None) (member_same d.space)
      ∙ here_if ((d.to == list) && ((d.depth == depth) && not (is_member d.space))) (record d { from = from; to = to }))

  kept_along : (o : Option ℕ) (depth from to : ℕ) (facts : Facts) → with_kept (option_map m o) depth (m from) (m to) (F facts) ≡ F (with_kept o depth from to facts)
  kept_along None depth from to facts = refl
  kept_along (Some list) depth from to facts =
      ap (λ ds. record (F facts) { declared = ds ++ map C facts.declared })
      (chosen_along C (kept_here (m list) depth (m from) (m to)) (kept_here list depth from to) (here_along list depth from to) facts.declared)
      ∙ ap (λ ds. record (F facts) { declared = ds }) (sym (map-append C (filter_map (kept_here list depth from to) facts.declared) facts.declared))

  pub facts_along : (p : Production) (first : ℕ) (under : Forest) (f : Frame) (facts : Facts) → first + 1 < h → IsBelow h under
      → facts_in p first under (Fr f) (F facts) ≡ F (facts_in p first under f facts)
  facts_along FunBody first under f facts here low =
      let last : ℕ = last_token under 0 in
      let bare : Facts = record facts { jumps = [] } in
      ap (λ k. with_kept (option_map m f.kept) (f.scope.depth + 1) k last (F bare)) (sym (stays first here))
      ∙ (ap (λ k. with_kept (option_map m f.kept) (f.scope.depth + 1) (m first) k (F bare)) (sym (stays last (last_below h some under 0 low some)))
      ∙ kept_along f.kept (f.scope.depth + 1) first last bare)
  facts_along _ first under f facts here low = refl

  pub entered_along : (l : Label) (first : ℕ) (under : Forest) (s : State) → first + 1 < h → IsBelow h under
      → entered b l first under (carried_state m s) ≡ carried_state m (entered a l first under s)
  entered_along l first under s here low =
      ap (λ x. state x (frame_in b l under (Fr s.frame) (F s.facts))) (facts_along l.production first under s.frame s.facts here low)
      ∙ ap (state (F (facts_in l.production first under s.frame s.facts))) (frame_along l under s.frame s.facts low)

  -- ---- A node is left

  -- an object whose name is token i and whose declarator ends with another one
  abbrev object_at : Frame → Facts → ℕ → ℕ → CType → Facts
  object_at f facts i last t = declared b (carried_scope m f.scope) (new_object b (Fr f) i last t (F facts)) (F facts)

  object_declared : (f : Frame) (under : Forest) (o : Option ℕ) (facts : Facts) → LowIndex h some o → IsBelow h under
      → with_object b (Fr f) under o (F facts) ≡ F (with_object a f under o facts)
  object_declared f under None facts here low = refl
  object_declared f under (Some i) facts here low =
      let last : ℕ = last_token under i in
      let behind : last + 1 < h = last_below h some under i low here in
      ap (object_at f facts i last) (declarator_moved m f.base under)
      ∙ (ap (λ (k : ℕ). object_at f facts k last (T (declarator_type f.base under))) (sym (stays i here))
      ∙ (ap (λ (k : ℕ). object_at f facts (m i) k (T (declarator_type f.base under))) (sym (stays last behind))
      ∙ object_along m h a b law f i last (declarator_type f.base under) facts (goes_next last behind)))

  abbrev parameter_at : Frame → Facts → ℕ → ℕ → CType → Facts
  parameter_at f facts i last t = declared b (carried_scope m f.scope) (new_parameter b (Fr f) i last t) (F facts)

  parameter_declared : (f : Frame) (under : Forest) (o : Option ℕ) (facts : Facts) → LowIndex h some o → IsBelow h under
      → with_parameter b (Fr f) under o (F facts) ≡ F (with_parameter a f under o facts)
  parameter_declared f under None facts here low = refl
  parameter_declared f under (Some i) facts here low =
      let last : ℕ = last_token under i in
      let behind : last + 1 < h = last_below h some under i low here in
      ap (parameter_at f facts i last) (declarator_moved m f.base under)
      ∙ (ap (λ (k : ℕ). parameter_at f facts k last (T (declarator_type f.base under))) (sym (stays i here))
      ∙ (ap (λ (k : ℕ). parameter_at f facts (m i) k (T (declarator_type f.base under))) (sym (stays last behind))
      ∙ parameter_along m h a b law f i last (declarator_type f.base under) facts (goes_next last behind)))

  abbrev member_at : Frame → Facts → ℕ → ℕ → CType → Facts
  member_at f facts i last t =
      with_declaration (member_declaration (Fr f) i last t) (with_fault (is_some (anywhere b (members (m f.owner)) i (F facts))) redeclared i (F facts))

  member_declared : (f : Frame) (under : Forest) (o : Option ℕ) (facts : Facts) → LowIndex h some o → IsBelow h under
      → with_member b (Fr f) under o (F facts) ≡ F (with_member a f under o facts)
  member_declared f under None facts here low = refl
  member_declared f under (Some i) facts here low =
      let last : ℕ = last_token under i in
      let behind : last + 1 < h = last_below h some under i low here in
      ap (member_at f facts i last) (declarator_moved m f.base under)
      ∙ (ap (λ (k : ℕ). member_at f facts k last (T (declarator_type f.base under))) (sym (stays i here))
      ∙ (ap (λ (k : ℕ). member_at f facts (m i) k (T (declarator_type f.base under))) (sym (stays last behind))
      ∙ member_along m h a b law f i last (declarator_type f.base under) facts (goes_next last behind)))

  declared_in_along : (p : Production) (f : Frame) (l : Label) (under : Forest) (facts : Facts) → IsBelow h under
      → declared_in b p (Fr f) l under (F facts) ≡ F (declared_in a p f l under facts)
  declared_in_along ExtRest f l under facts low = object_declared f under (name_below l under) facts (name_below_low h some l under low) low
  declared_in_along InitDecl f l under facts low = object_declared f under (name_below l under) facts (name_below_low h some l under low) low
  declared_in_along Mdecl f l under facts low = member_declared f under (name_below l under) facts (name_below_low h some l under low) low
  declared_in_along _ f l under facts low = refl

  parameter_in_along : (p : Production) (f : Frame) (l : Label) (under : Forest) (facts : Facts) → IsBelow h under
      → parameter_in b p (Fr f) l under (F facts) ≡ F (parameter_in a p f l under facts)
  parameter_in_along Param f l under facts low = parameter_declared f under (name_below l under) facts (name_below_low h some l under low) low
  parameter_in_along _ f l under facts low = refl

  enumerator_declared : (f : Frame) (i last : ℕ) (facts : Facts) → i + 1 < h → last + 1 < h
      → with_enumerator b (Fr f) i last (F facts) ≡ F (with_enumerator a f i last facts)
  enumerator_declared f i last facts here behind =
      ap (λ (k : ℕ). with_enumerator b (Fr f) k last (F facts)) (sym (stays i here))
      ∙ (ap (λ (k : ℕ). with_enumerator b (Fr f) (m i) k (F facts)) (sym (stays last behind))
      ∙ declared_along m h a b law f.scope (plain_name a i last Enumerated arithmetic false) facts (goes_next last behind))

  anonymous_declared : (f : Frame) (i : ℕ) (facts : Facts) → i + 1 < h → with_anonymous b (Fr f) i (F facts) ≡ F (with_anonymous a f i facts)
  anonymous_declared f i facts here =
      ap (λ (k : ℕ). with_anonymous b (Fr f) k (F facts)) (sym (stays i here)) ∙ anonymous_along m h a b law f i facts (goes_next i here)

  completed : (f : Frame) (facts : Facts) → with_complete (number_in (T f.found)) (F facts) ≡ F (with_complete (number_in f.found) facts)
  completed f facts = ap (λ k. with_complete k (F facts)) (number_moved m a b law.texts f.found) ∙ complete_along m h a b law (number_in f.found) facts

  pub after_along : (p : Production) (first : ℕ) (f : Frame) (l : Label) (under : Forest) (body : Option Body) (facts : Facts) → first + 1 < h → IsBelow h under
      → facts_after b p first (Fr f) l under (option_map (moved_body m) body) (F facts) ≡ F (facts_after a p first f l under body facts)
  after_along Declarator first f l under body facts here low = declared_in_along f.label.production f l under facts low
  after_along Pdecl first f l under body facts here low = parameter_in_along f.label.production f l under facts low
  after_along Enumerator first f l under body facts here low =
      enumerator_declared f first (last_token under first) facts here (last_below h some under first low here)
  after_along MemRest first f l under body facts here low =
      facts_if m h a b law (l.alternative == 1) (with_anonymous a f first facts) (with_anonymous b (Fr f) first (F facts)) facts (F facts) (anonymous_declared f first facts here) refl
  after_along Members first f l under body facts here low = completed f facts
  after_along Enumerators first f l under body facts here low = completed f facts
  after_along FunBody first f l under body facts here low = labels_along m h a b law body facts
  after_along _ first f l under body facts here low = refl

  pub kept_if : (c : Bool) (x y : Option ℕ) → option_map m x ≡ x → (if c then x else option_map m y) ≡ option_map m (if c then x else y)
  kept_if true x y e = sym e
  kept_if false x y e = refl

  pub frame_left : (f : Frame) (l : Label) (under : Forest) (child : Frame) → IsBelow h under → frame_after b (Fr f) l under (Fr child) ≡ Fr (frame_after a f l under child)
  frame_left f l under child low =
      let p : Production = f.label.production in
      let g : Frame = Fr (frame_after a f l under child) in
      let r : Frame = frame_after b (Fr f) l under (Fr child) in
      ap (λ (x : CType). record r { base = x }) (type_if m (is_node l Specs) child.found f.base (T child.found) (T f.base) refl refl)
      ∙ (ap (λ (x : Option ℕ). record r { base = g.base; kept = x }) (kept_if (is_node l Declarator) (first_list under) f.kept (index_stays (first_list under) (list_low h some under low)))
      ∙ (ap (λ (x : CType). record r { base = g.base; kept = g.kept; found = x })
      (after_moved m a b law.texts (m f.token) (m f.scope.to) (option_map m f.kept) f l under under child (Fr child) refl p (λ _. refl) (λ _ t. refl) (λ _ _ t. refl))
      ∙ ap (λ (x : Position). record g { position = x }) (position_along m h a b law p f l under child)))

  pub left_along : (l : Label) (first : ℕ) (under : Forest) (s s' : State) → first + 1 < h → IsBelow h under
      → left b l first under (carried_state m s) (carried_state m s') ≡ carried_state m (left a l first under s s')
  left_along l first under s s' here low =
      ap (λ x. state x (frame_after b (Fr s.frame) l under (Fr s'.frame))) (after_along l.production first s.frame l under s'.frame.body s'.facts here low)
      ∙ ap (state (F (facts_after a l.production first s.frame l under s'.frame.body s'.facts))) (frame_left s.frame l under s'.frame low)
