-- The walk over a tree goes alike over the narrowed one.
use Rattle.std.proofs.Common.{ℕ, ◌+◌, ◌≡◌, Bool, true, false, ◌&&◌, ◌||◌, if◌then◌else◌, ◌==◌, List, Option, None, Some, refl, sym, ap, ◌∙◌}
use Rattle.std.proofs.lemmas.Bool.{and_parts, false≢true}
use Rattle.cs_base.specs.Token.{Token}
use Rattle.c99_tree.specs.Tree.{Forest, none, token, node}
use Rattle.c99_tree.specs.declared.production.Label.{Label}
use Rattle.c99_tree.specs.declared.production.Production.{Production}
use Rattle.c99_tree.specs.declared.production.Production.TheVariants.{External, ExtRest, ExtTail, FunBody, Declaration, InitDecl, Specs, Main, Mod, Word, SuRest, Members, Member, MemRest, Mdecl, EnRest, Enumerators, Enumerator, Declarator, Suffix, Param, Pdecl, TypeName, Init, InitList, InitItem, Designator, Cast, CastRest, Unary, SizeLit, Primary, Post, Block, Statement, Sub}
use Rattle.c_types.specs.Types.{CType, arithmetic}
use Rattle.c_types.specs.Trees.{is_node, last_token, first_token, has_node, words_of, name_below, is_text}
use Rattle.c_types.specs.Declarations.{Facts}
use Rattle.c_types.specs.declared.frames.Body.{Body}
use Rattle.c_types.specs.declared.frames.Scope.{Scope}
use Rattle.c_types.specs.declared.frames.Frame.{Frame}
use Rattle.c_types.specs.declared.frames.Words.{Words}
use Rattle.c_types.specs.declared.frames.Position.{Position}
use Rattle.c_types.specs.declared.frames.Position.TheVariants.{Lost as lost}
use Rattle.name_chains.specs.Frames.{State}
use Rattle.name_chains.specs.Entering.{scope_in, body_in, listing_in, alone_in, owner_in, given_in, position_in, facts_in, found_in, entered}
use Rattle.name_chains.specs.Members.{with_member, with_anonymous}
use Rattle.name_chains.specs.Initializers.{is_part, behind, after_designator, position_after}
use Rattle.scope_bind.specs.Ordinary.{with_object, with_parameter}
use Rattle.scope_bind.specs.Expressions.{found_after}
use Rattle.scope_bind.specs.Named.{Role, by_role}
use Rattle.scope_bind.specs.Roles.{role_of}
use Rattle.scope_bind.specs.Walk.{facts_at, found_at, position_at, passed_as, passed, declared_in, parameter_in, facts_after, kept_after, left, walked}
use Rattle.tree_laws.specs.Narrowed.{number, renumbered, narrowed}
use Rattle.tree_laws.proofs.Standing.{within, within_stands, stands_in, kids, kids_weaker, formed, is_mdecl, is_outer_part, is_item_part}
use Rattle.tree_laws.proofs.StandardSteps.{labelled}
use Rattle.tree_laws.proofs.Narrowing.{IsNode, IsLine, label_is, narrows}
use Rattle.tree_laws.proofs.Asked.{is_steady, steady_number, at-same, first_token-same, last_token-same, has_node-same, words_of-same, name_below-same, declarator_type-same, first_list-same, is_text-same, is_bare-same}

-- the frame by C99 in place of one by C11, and the state
abbrev pub narrow_frame : Frame → Frame
narrow_frame f = record f { label = renumbered f.label }

abbrev pub narrow : State → State
narrow s = record { facts = s.facts; frame = narrow_frame s.frame }

-- ---- A token

role-same : (p : Production) (a k : ℕ) → role_of p (number p a) k ≡ role_of p a k
role-same External a k = refl
role-same Declaration a k = refl
role-same Member a k = refl
role-same Mod a k = refl
role-same _ a k = refl

module _ (toks : List Token) where
  facts_narrow : (r : Role) (i : ℕ) (f : Frame) (facts : Facts) → facts_at toks r i (narrow_frame f) facts ≡ facts_at toks r i f facts
  facts_narrow r i f facts =
      by_role (λ r. facts_at toks r i (narrow_frame f) facts ≡ facts_at toks r i f facts) refl refl refl refl refl refl refl refl refl refl refl r

  found_narrow : (r : Role) (i : ℕ) (f : Frame) (facts : Facts) → found_at toks r i (narrow_frame f) facts ≡ found_at toks r i f facts
  found_narrow r i f facts =
      by_role (λ r. found_at toks r i (narrow_frame f) facts ≡ found_at toks r i f facts) refl refl refl refl refl refl refl refl refl refl refl r

  position_narrow : (r : Role) (i : ℕ) (f : Frame) (facts : Facts) → position_at toks r i (narrow_frame f) facts ≡ position_at toks r i f facts
  position_narrow r i f facts =
      by_role (λ r. position_at toks r i (narrow_frame f) facts ≡ position_at toks r i f facts) refl refl refl refl refl refl refl refl refl refl refl r

  abbrev passed_so : ℕ → Frame → Facts → CType → Position → State
  passed_so i f facts t p = record { facts = facts; frame = record f { nth = f.nth + 1; token = i; found = t; position = p } }

  passed_narrow : (r : Role) (i : ℕ) (s : State) → passed_as toks r i (narrow s) ≡ narrow (passed_as toks r i s)
  passed_narrow r i s =
      let f : Frame = s.frame in
      let f' : Frame = narrow_frame s.frame in
      ap (λ x. passed_so i f' x (found_at toks r i f' s.facts) (position_at toks r i f' s.facts)) (facts_narrow r i f s.facts)
      ∙ (ap (λ x. passed_so i f' (facts_at toks r i f s.facts) x (position_at toks r i f' s.facts)) (found_narrow r i f s.facts)
      ∙ ap (λ x. passed_so i f' (facts_at toks r i f s.facts) (found_at toks r i f s.facts) x) (position_narrow r i f s.facts))

  pub passed-same : (i : ℕ) (s : State) → passed toks i (narrow s) ≡ narrow (passed toks i s)
  passed-same i s =
      ap (λ r. passed_as toks r i (narrow s)) (role-same s.frame.label.production s.frame.label.alternative s.frame.nth)
      ∙ passed_narrow (role_of s.frame.label.production s.frame.label.alternative s.frame.nth) i s

  -- ---- A node is entered

  scope-same : (p : Production) (a : ℕ) (u f : Forest) (around : Scope) → last_token u 0 ≡ last_token f 0
      → scope_in p (labelled p (number p a)) u around ≡ scope_in p (labelled p a) f around
  scope-same Block a u f around e = rw e refl
  scope-same FunBody a u f around e = rw e refl
  scope-same Suffix a u f around e = rw e refl
  scope-same Sub a u f around e = rw e refl
  scope-same Statement a u f around e = rw e refl
  scope-same _ a u f around e = refl

  body-same : (p : Production) (u f : Forest) (around : Option Body) → first_token u 0 ≡ first_token f 0 → last_token u 0 ≡ last_token f 0 → body_in p u around ≡ body_in p f around
  body-same FunBody u f around e h = rw (e, h) refl
  body-same _ u f around e h = refl

  listing-same : (p : Production) (f : Frame) → listing_in p (narrow_frame f) ≡ listing_in p f
  listing-same Declaration f = refl
  listing-same _ f = refl

  alone-same : (p : Production) (under : Forest) (f : Frame) → kids (within p) under ≡ true → formed true under ≡ true
      → alone_in p (narrowed under) (narrow_frame f) ≡ alone_in p under f
  alone-same External under f k h = is_bare-same under (kids_weaker (within External) is_outer_part (λ q e. e) under k) h
  alone-same Declaration under f k h = is_bare-same under (kids_weaker (within Declaration) is_outer_part (λ q e. e) under k) h
  alone-same _ under f k h = refl

  owner-same : (p : Production) (f : Frame) → owner_in p (narrow_frame f) ≡ owner_in p f
  owner-same Members f = refl
  owner-same _ f = refl

  given-same : (p : Production) (f : Frame) → given_in p (narrow_frame f) ≡ given_in p f
  given-same ExtTail f = refl
  given-same Init f = refl
  given-same Designator f = refl
  given-same CastRest f = refl
  given-same SizeLit f = refl
  given-same Post f = refl
  given-same _ f = refl

  found-same : (p : Production) (a : ℕ) (f : Frame) (facts : Facts) → found_in toks p (labelled p (number p a)) (narrow_frame f) facts ≡ found_in toks p (labelled p a) f facts
  found-same External a f facts = refl
  found-same Declaration a f facts = refl
  found-same Member a f facts = refl
  found-same Mod a f facts = refl
  found-same ExtTail a f facts = refl
  found-same CastRest a f facts = refl
  found-same SizeLit a f facts = refl
  found-same Post a f facts = refl
  found-same InitItem a f facts = refl
  found-same Designator a f facts = refl
  found-same SuRest a f facts = refl
  found-same EnRest a f facts = refl
  found-same Primary a f facts = refl
  found-same _ a f facts = refl

  position-same : (p : Production) (a : ℕ) (f : Frame) → position_in p (labelled p (number p a)) (narrow_frame f) ≡ position_in p (labelled p a) f
  position-same External a f = refl
  position-same Declaration a f = refl
  position-same Member a f = refl
  position-same Mod a f = refl
  position-same InitList a f = refl
  position-same InitItem a f = refl
  position-same _ a f = refl

  facts-same : (p : Production) (first : ℕ) (u under : Forest) (f : Frame) (facts : Facts) → last_token u 0 ≡ last_token under 0
      → facts_in p first u (narrow_frame f) facts ≡ facts_in p first under f facts
  facts-same FunBody first u under f facts e = rw e refl
  facts-same _ first u under f facts e = refl

  bodied-same : (under : Forest) → (has_node Members (narrowed under) || has_node Enumerators (narrowed under)) ≡ (has_node Members under || has_node Enumerators under)
  bodied-same under = rw (has_node-same Members under, has_node-same Enumerators under) refl

  abbrev entered_so : Label → Frame → Facts → Scope → Option Body → Bool → Bool → Bool → ℕ → CType → CType → Position → State
  entered_so l f facts scope body listing alone has_body owner given found position = record {
    facts = facts;
    frame = record f {
      label = l;
      nth = 0;
      scope = scope;
      body = body;
      listing = listing;
      alone = alone;
      has_body = has_body;
      owner = owner;
      given = given;
      found = found;
      position = position;
    };
  }

  pub entered-same : (l : Label) (first : ℕ) (under : Forest) (s : State) → kids (within l.production) under ≡ true → formed true under ≡ true
      → entered toks (renumbered l) first (narrowed under) (narrow s) ≡ narrow (entered toks l first under s)
  entered-same l first under s k h =
      let p : Production = l.production in
      let a : ℕ = l.alternative in
      let f : Frame = s.frame in
      let f' : Frame = narrow_frame s.frame in
      let u : Forest = narrowed under in
      let last : last_token u 0 ≡ last_token under 0 = last_token-same under h 0 in
      ap (λ x. entered_so (renumbered l) f' x (scope_in p (renumbered l) u f.scope) (body_in p u f.body) (listing_in p f') (alone_in p u f') (has_node Members u || has_node Enumerators u) (owner_in p f') (given_in p f') (found_in toks p (renumbered l) f' s.facts) (position_in p (renumbered l) f'))
      (facts-same p first u under f s.facts last)
      ∙ (ap (λ x. entered_so (renumbered l) f' (facts_in p first under f s.facts) x (body_in p u f.body) (listing_in p f') (alone_in p u f') (has_node Members u || has_node Enumerators u) (owner_in p f') (given_in p f') (found_in toks p (renumbered l) f' s.facts) (position_in p (renumbered l) f'))
      (scope-same p a u under f.scope last)
      ∙ (ap (λ x. entered_so (renumbered l) f' (facts_in p first under f s.facts) (scope_in p l under f.scope) x (listing_in p f') (alone_in p u f') (has_node Members u || has_node Enumerators u) (owner_in p f') (given_in p f') (found_in toks p (renumbered l) f' s.facts) (position_in p (renumbered l) f'))
      (body-same p u under f.body (first_token-same under 0) last)
      ∙ (ap (λ x. entered_so (renumbered l) f' (facts_in p first under f s.facts) (scope_in p l under f.scope) (body_in p under f.body) x (alone_in p u f') (has_node Members u || has_node Enumerators u) (owner_in p f') (given_in p f') (found_in toks p (renumbered l) f' s.facts) (position_in p (renumbered l) f'))
      (listing-same p f)
      ∙ (ap (λ x. entered_so (renumbered l) f' (facts_in p first under f s.facts) (scope_in p l under f.scope) (body_in p under f.body) (listing_in p f) x (has_node Members u || has_node Enumerators u) (owner_in p f') (given_in p f') (found_in toks p (renumbered l) f' s.facts) (position_in p (renumbered l) f'))
      (alone-same p under f k h)
      ∙ (ap (λ x. entered_so (renumbered l) f' (facts_in p first under f s.facts) (scope_in p l under f.scope) (body_in p under f.body) (listing_in p f) (alone_in p under f) x (owner_in p f') (given_in p f') (found_in toks p (renumbered l) f' s.facts) (position_in p (renumbered l) f'))
      (bodied-same under)
      ∙ (ap (λ x. entered_so (renumbered l) f' (facts_in p first under f s.facts) (scope_in p l under f.scope) (body_in p under f.body) (listing_in p f) (alone_in p under f) (has_node Members under || has_node Enumerators under) x (given_in p f') (found_in toks p (renumbered l) f' s.facts) (position_in p (renumbered l) f'))
      (owner-same p f)
      ∙ (ap (λ x. entered_so (renumbered l) f' (facts_in p first under f s.facts) (scope_in p l under f.scope) (body_in p under f.body) (listing_in p f) (alone_in p under f) (has_node Members under || has_node Enumerators under) (owner_in p f) x (found_in toks p (renumbered l) f' s.facts) (position_in p (renumbered l) f'))
      (given-same p f)
      ∙ (ap (λ x. entered_so (renumbered l) f' (facts_in p first under f s.facts) (scope_in p l under f.scope) (body_in p under f.body) (listing_in p f) (alone_in p under f) (has_node Members under || has_node Enumerators under) (owner_in p f) (given_in p f) x (position_in p (renumbered l) f'))
      (found-same p a f s.facts)
      ∙ ap (λ x. entered_so (renumbered l) f' (facts_in p first under f s.facts) (scope_in p l under f.scope) (body_in p under f.body) (listing_in p f) (alone_in p under f) (has_node Members under || has_node Enumerators under) (owner_in p f) (given_in p f) (found_in toks p l f s.facts) x)
      (position-same p a f)))))))))

  -- ---- A node is left

  module _ (under : Forest) (h : formed true under ≡ true) where
    object-same : (f : Frame) (name : Option ℕ) (facts : Facts) → with_object toks (narrow_frame f) (narrowed under) name facts ≡ with_object toks f under name facts
    object-same f None facts = refl
    object-same f (Some i) facts = rw (last_token-same under h i, declarator_type-same under h f.base) refl

    parameter-same : (f : Frame) (name : Option ℕ) (facts : Facts) → with_parameter toks (narrow_frame f) (narrowed under) name facts ≡ with_parameter toks f under name facts
    parameter-same f None facts = refl
    parameter-same f (Some i) facts = rw (last_token-same under h i, declarator_type-same under h f.base) refl

    member-same : (f : Frame) (name : Option ℕ) (facts : Facts) → with_member toks (narrow_frame f) (narrowed under) name facts ≡ with_member toks f under name facts
    member-same f None facts = refl
    member-same f (Some i) facts = rw (last_token-same under h i, declarator_type-same under h f.base) refl

    declared-same : (p : Production) (f : Frame) (l : Label) (facts : Facts) → declared_in toks p (narrow_frame f) (renumbered l) (narrowed under) facts ≡ declared_in toks p f l under facts
    declared-same ExtRest f l facts = ap (λ n. with_object toks (narrow_frame f) (narrowed under) n facts) (name_below-same l under) ∙ object-same f (name_below l under) facts
    declared-same InitDecl f l facts = ap (λ n. with_object toks (narrow_frame f) (narrowed under) n facts) (name_below-same l under) ∙ object-same f (name_below l under) facts
    declared-same Mdecl f l facts = ap (λ n. with_member toks (narrow_frame f) (narrowed under) n facts) (name_below-same l under) ∙ member-same f (name_below l under) facts
    declared-same _ f l facts = refl

    parameters-same : (p : Production) (f : Frame) (l : Label) (facts : Facts) → parameter_in toks p (narrow_frame f) (renumbered l) (narrowed under) facts ≡ parameter_in toks p f l under facts
    parameters-same Param f l facts = ap (λ n. with_parameter toks (narrow_frame f) (narrowed under) n facts) (name_below-same l under) ∙ parameter-same f (name_below l under) facts
    parameters-same _ f l facts = refl

    after-same : (p : Production) (a first : ℕ) (f : Frame) (body : Option Body) (facts : Facts)
        → facts_after toks p first (narrow_frame f) (labelled p (number p a)) (narrowed under) body facts ≡ facts_after toks p first f (labelled p a) under body facts
    after-same Declarator a first f body facts = declared-same f.label.production f (labelled Declarator a) facts
    after-same Pdecl a first f body facts = parameters-same f.label.production f (labelled Pdecl a) facts
    after-same Enumerator a first f body facts = rw (last_token-same under h first) refl
    after-same _ a first f body facts = refl

    kept-same : (f : Frame) (l : Label) → kept_after toks (narrow_frame f) (renumbered l) (narrowed under) ≡ kept_after toks f l under
    kept-same f l = ap (λ x. if is_node l Declarator then x else f.kept) (first_list-same under h)

    found_after-same : (p : Production) (f : Frame) (l : Label) (child : Frame) → f.label.production ≡ p
        → found_after toks p (narrow_frame f) (renumbered l) (narrowed under) (narrow_frame child) ≡ found_after toks p f l under child
    found_after-same Cast f l child e = ap (λ b. if is_node l TypeName || b then child.found else f.found) (at-same l CastRest 1 refl)
    found_after-same Unary f l child e = rw (unary_number f.label e) refl
      where
        unary_number : (l : Label) → l.production ≡ Unary → number l.production l.alternative ≡ l.alternative
        unary_number l e = rw e refl
    found_after-same Post f l child e = rw (post_number f.label e) refl
      where
        post_number : (l : Label) → l.production ≡ Post → number l.production l.alternative ≡ l.alternative
        post_number l e = rw e refl
    found_after-same TypeName f l child e = ap (λ t. if is_node l Specs then child.found else t) (declarator_type-same under h f.found)
    found_after-same Main f l child e = rw (at-same l Word 1 refl) refl
    found_after-same ExtRest f l child e = ap (λ t. if is_node l Declarator then t else f.found) (declarator_type-same under h f.base)
    found_after-same InitDecl f l child e = ap (λ t. if is_node l Declarator then t else f.found) (declarator_type-same under h f.base)
    found_after-same _ f l child e = refl

    item_steady : (p : Production) → is_item_part p ≡ true → is_steady p ≡ true
    item_steady Designator e = refl
    item_steady Init e = refl
    item_steady _ e = absurd (false≢true e)

    position_after-same : (p : Production) (f : Frame) (l : Label) (child : Frame) → stands_in p l.production ≡ true
        → position_after p (narrow_frame f) (renumbered l) (narrowed under) (narrow_frame child) ≡ position_after p f l under child
    position_after-same InitItem f l child o =
        ap (λ a. if is_node l Designator then after_designator f child else (if (a == 2) && is_part child.given child.found (is_text (narrowed under)) then lost else behind f.position))
        (steady_number l.production l.alternative (item_steady l.production o))
        ∙ ap (λ b. if is_node l Designator then after_designator f child else (if (l.alternative == 2) && is_part child.given child.found b then lost else behind f.position))
        (is_text-same under)
    position_after-same _ f l child o = refl

    abbrev left_so : Label → Frame → State → Facts → Option ℕ → CType → Position → State
    left_so l f s2 facts kept found position = record {
      facts = facts;
      frame = record f {
        nth = f.nth + 1;
        base = if is_node l Specs then s2.frame.found else f.base;
        words = if is_node l Specs then words_of under else f.words;
        kept = kept;
        found = found;
        position = position;
      };
    }

    pub left-same : (l : Label) (first : ℕ) (s s2 : State) → stands_in s.frame.label.production l.production ≡ true
        → left toks (renumbered l) first (narrowed under) (narrow s) (narrow s2) ≡ narrow (left toks l first under s s2)
    left-same l first s s2 o =
        let p : Production = s.frame.label.production in
        let f : Frame = s.frame in
        let f' : Frame = narrow_frame s.frame in
        let u : Forest = narrowed under in
        let facts' : Facts = facts_after toks l.production first f' (renumbered l) u s2.frame.body s2.facts in
        let found' : CType = found_after toks p f' (renumbered l) u (narrow_frame s2.frame) in
        let place' : Position = position_after p f' (renumbered l) u (narrow_frame s2.frame) in
        ap (λ (w : Words). record {
          facts = facts';
          frame = record f' {
            nth = f.nth + 1;
            base = if is_node l Specs then s2.frame.found else f.base;
            words = if is_node l Specs then w else f.words;
            kept = kept_after toks f' (renumbered l) u;
            found = found';
            position = place';
          };
        }) (words_of-same under)
        ∙ (ap (λ x. left_so l f' s2 x (kept_after toks f' (renumbered l) u) found' place') (after-same l.production l.alternative first f s2.frame.body s2.facts)
        ∙ (ap (λ x. left_so l f' s2 (facts_after toks l.production first f l under s2.frame.body s2.facts) x found' place') (kept-same f l)
        ∙ (ap (λ x. left_so l f' s2 (facts_after toks l.production first f l under s2.frame.body s2.facts) (kept_after toks f l under) x place') (found_after-same p f l s2.frame refl)
        ∙ ap (λ x. left_so l f' s2 (facts_after toks l.production first f l under s2.frame.body s2.facts) (kept_after toks f l under) (found_after toks p f l under s2.frame) x)
        (position_after-same p f l s2.frame o))))

  -- ---- Members behind their specifiers

  -- the walk does not ask in which of the two nodes these stand
  abbrev placed : Label → ℕ → Bool → Bool → CType → State → State
  placed l n alone has_body found c = record { facts = c.facts; frame = record c.frame { label = l; nth = n; alone = alone; has_body = has_body; found = found } }

  abbrev members_walked : Forest → State → State
  members_walked none c = c
  members_walked (token i rest) c = members_walked rest (record { facts = c.facts; frame = record c.frame { token = i } })
  members_walked (node l first under rest) c =
      members_walked rest (record { facts = (walked toks under (entered toks (labelled Mdecl l.alternative) first under c)).facts; frame = c.frame })

  abbrev nth_after : Forest → ℕ → ℕ
  nth_after none n = n
  nth_after (token i rest) n = nth_after rest (n + 1)
  nth_after (node l first under rest) n = nth_after rest (n + 1)

  abbrev holds_members : Production → Bool
  holds_members Member = true
  holds_members MemRest = true
  holds_members _ = false

  mdecl_is : (p : Production) → is_mdecl p ≡ true → p ≡ Mdecl
  mdecl_is Mdecl e = refl
  mdecl_is _ e = absurd (false≢true e)

  module _ (j : ℕ) (alone has_body : Bool) (found : CType) where
    token_placed : (p : Production) → holds_members p ≡ true → (i n : ℕ) (c : State)
        → passed toks i (placed (labelled p j) n alone has_body found c)
        ≡ placed (labelled p j) (n + 1) alone has_body found (record { facts = c.facts; frame = record c.frame { token = i } })
    token_placed Member e i n c = refl
    token_placed MemRest e i n c = refl
    token_placed _ e i n c = absurd (false≢true e)

    node_placed : (p : Production) → holds_members p ≡ true → (k first : ℕ) (under : Forest) (n : ℕ) (c s2 : State)
        → left toks (labelled Mdecl k) first under (placed (labelled p j) n alone has_body found c) s2
        ≡ placed (labelled p j) (n + 1) alone has_body found (record { facts = s2.facts; frame = c.frame })
    node_placed Member e k first under n c s2 = refl
    node_placed MemRest e k first under n c s2 = refl
    node_placed _ e k first under n c s2 = absurd (false≢true e)

    members_placed : (p : Production) → holds_members p ≡ true → (f : Forest) → kids is_mdecl f ≡ true → (n : ℕ) (c : State)
        → walked toks f (placed (labelled p j) n alone has_body found c) ≡ placed (labelled p j) (nth_after f n) alone has_body found (members_walked f c)
    unfolding walked
    members_placed p e none k n c = refl
    members_placed p e (token i rest) k n c =
        ap (walked toks rest) (token_placed p e i n c)
        ∙ members_placed p e rest k (n + 1) (record { facts = c.facts; frame = record c.frame { token = i } })
    members_placed p e (node l first under rest) k n c =
        let parts = and_parts (is_mdecl l.production) (kids is_mdecl rest) k in
        let s : State = placed (labelled p j) n alone has_body found c in
        let after : State = walked toks under (entered toks (labelled Mdecl l.alternative) first under c) in
        ap (λ x. walked toks rest (left toks x first under s (walked toks under (entered toks x first under s)))) (label_is l Mdecl (mdecl_is l.production parts.0))
        ∙ (ap (walked toks rest) (node_placed p e l.alternative first under n c after)
        ∙ members_placed p e rest parts.1 (n + 1) (record { facts = after.facts; frame = c.frame }))

  -- ---- A line of members

  line_found : (p : Production) → stands_in p Member ≡ true → (f : Frame) (l : Label) (under : Forest) (child : Frame) → found_after toks p f l under child ≡ f.found
  line_found Members o f l under child = refl
  line_found _ o f l under child = absurd (false≢true o)

  line_position : (p : Production) → stands_in p Member ≡ true → (f : Frame) (l : Label) (under : Forest) (child : Frame) → position_after p f l under child ≡ f.position
  line_position Members o f l under child = refl
  line_position _ o f l under child = absurd (false≢true o)

  abbrev behind_line : State → Facts → State
  behind_line s facts = record { facts = facts; frame = record s.frame { nth = s.frame.nth + 1 } }

  line_left : (a first : ℕ) (under : Forest) (s s2 : State) → stands_in s.frame.label.production Member ≡ true
      → left toks (labelled Member a) first under s s2 ≡ behind_line s s2.facts
  line_left a first under s s2 o =
      let p : Production = s.frame.label.production in
      ap (λ (t : CType). record { facts = s2.facts; frame = record s.frame { nth = s.frame.nth + 1; found = t; position = position_after p s.frame (labelled Member a) under s2.frame } })
      (line_found p o s.frame (labelled Member a) under s2.frame)
      ∙ ap (λ (x : Position). record { facts = s2.facts; frame = record s.frame { nth = s.frame.nth + 1; position = x } })
      (line_position p o s.frame (labelled Member a) under s2.frame)

  no_such : (p : Production) → is_mdecl p ≡ false → (f : Forest) → kids is_mdecl f ≡ true → has_node p f ≡ false
  no_such p e none k = refl
  no_such p e (token i rest) k = no_such p e rest k
  no_such p e (node l first under rest) k =
      let parts = and_parts (is_mdecl l.production) (kids is_mdecl rest) k in
      rw (mdecl_is l.production parts.0) (rw (other p e, no_such p e rest parts.1) refl)
    where
      other : (p : Production) → is_mdecl p ≡ false → is_node (labelled Mdecl 0) p ≡ false
      other Mdecl e = absurd (false≢true (sym e))
      other _ e = refl

  module _ (first start second n j : ℕ) (specs below : Forest) (known : IsLine j specs below) (s : State) where
    abbrev wide_under : Forest
    wide_under = node (labelled Specs n) start specs (node (labelled MemRest j) second below none)

    abbrev narrow_under : Forest
    narrow_under = node (labelled Specs n) start (narrowed specs) (narrowed below)

    -- the line is entered, and its specifiers are left
    abbrev in_line : State
    in_line = entered toks (labelled Member 3) first wide_under s

    abbrev behind_specs : State
    behind_specs = left toks (labelled Specs n) start specs in_line (walked toks specs (entered toks (labelled Specs n) start specs in_line))

    line_entered : entered toks (labelled Member 2) first narrow_under (narrow s) ≡ narrow in_line
    line_entered =
        ap (λ b. entered_so (labelled Member 2) (narrow_frame s.frame) s.facts s.frame.scope s.frame.body s.frame.listing false b s.frame.owner s.frame.given arithmetic s.frame.position)
        (bodied-same below ∙ rw (no_such Members refl below known.below_are, no_such Enumerators refl below known.below_are) refl)

    -- by C11 what stands behind has a node of its own
    by_c11 : walked toks wide_under in_line ≡ record { facts = (members_walked below behind_specs).facts; frame = record behind_specs.frame { nth = behind_specs.frame.nth + 1 } }
    unfolding walked
    by_c11 =
        ap (left toks (labelled MemRest j) second below behind_specs)
        (members_placed j false (has_node Members below || has_node Enumerators below) arithmetic MemRest refl below known.below_are 0 behind_specs)
        ∙ ap (λ b. record {
          facts = if b then with_anonymous toks behind_specs.frame second (members_walked below behind_specs).facts else (members_walked below behind_specs).facts;
          frame = record behind_specs.frame { nth = behind_specs.frame.nth + 1 };
        }) known.no_lone

    abbrev members_of_line : State
    members_of_line =
        placed (labelled Member 3) (nth_after below behind_specs.frame.nth) behind_specs.frame.alone behind_specs.frame.has_body behind_specs.frame.found (members_walked below behind_specs)

    by_c99 : ((x : State) → kids (stands_in x.frame.label.production) specs ≡ true → walked toks (narrowed specs) (narrow x) ≡ narrow (walked toks specs x))
        → ((x : State) → kids (stands_in x.frame.label.production) below ≡ true → walked toks (narrowed below) (narrow x) ≡ narrow (walked toks below x))
        → walked toks narrow_under (narrow in_line) ≡ narrow members_of_line
    unfolding walked
    by_c99 e b =
        let x : State = entered toks (labelled Specs n) start specs in_line in
        ap (λ y. walked toks (narrowed below) (left toks (labelled Specs n) start (narrowed specs) (narrow in_line) (walked toks (narrowed specs) y)))
        (entered-same (labelled Specs n) start specs in_line known.specs_are known.specs_sound)
        ∙ (ap (λ y. walked toks (narrowed below) (left toks (labelled Specs n) start (narrowed specs) (narrow in_line) y))
        (e x (kids_weaker (within Specs) (stands_in Specs) (within_stands Specs) specs known.specs_are))
        ∙ (ap (walked toks (narrowed below)) (left-same specs known.specs_sound (labelled Specs n) start in_line (walked toks specs x) refl)
        ∙ (b behind_specs (kids_weaker is_mdecl (stands_in Member) mdecl_stands below known.below_are)
        ∙ ap narrow (members_placed 3 behind_specs.frame.alone behind_specs.frame.has_body behind_specs.frame.found Member refl below known.below_are behind_specs.frame.nth behind_specs))))
      where
        mdecl_stands : (q : Production) → is_mdecl q ≡ true → stands_in Member q ≡ true
        mdecl_stands Mdecl h = refl
        mdecl_stands _ h = absurd (false≢true h)

    line_walked : ((x : State) → kids (stands_in x.frame.label.production) specs ≡ true → walked toks (narrowed specs) (narrow x) ≡ narrow (walked toks specs x))
        → ((x : State) → kids (stands_in x.frame.label.production) below ≡ true → walked toks (narrowed below) (narrow x) ≡ narrow (walked toks below x))
        → stands_in s.frame.label.production Member ≡ true
        → left toks (labelled Member 2) first narrow_under (narrow s) (walked toks narrow_under (entered toks (labelled Member 2) first narrow_under (narrow s)))
        ≡ narrow (left toks (labelled Member 3) first wide_under s (walked toks wide_under in_line))
    line_walked e b o =
        let z : State = record { facts = (members_walked below behind_specs).facts; frame = record behind_specs.frame { nth = behind_specs.frame.nth + 1 } } in
        ap (λ x. left toks (labelled Member 2) first narrow_under (narrow s) (walked toks narrow_under x)) line_entered
        ∙ (ap (left toks (labelled Member 2) first narrow_under (narrow s)) (by_c99 e b)
        ∙ (line_left 2 first narrow_under (narrow s) (narrow members_of_line) o
        ∙ (sym (ap narrow (line_left 3 first wide_under s z o)) ∙ sym (ap (λ x. narrow (left toks (labelled Member 3) first wide_under s x)) by_c11))))

  -- ---- The walk

  abbrev WalksSame : Forest → Forest → Type 0
  WalksSame g f = (s : State) → kids (stands_in s.frame.label.production) f ≡ true → walked toks g (narrow s) ≡ narrow (walked toks f s)

  none_walked : WalksSame none none
  unfolding walked
  none_walked s k = refl

  token_walked : (i : ℕ) (rest : Forest) → WalksSame (narrowed rest) rest → WalksSame (token i (narrowed rest)) (token i rest)
  unfolding walked
  token_walked i rest e s k = ap (walked toks (narrowed rest)) (passed-same i s) ∙ e (passed toks i s) k

  node_walked : (l : Label) (first : ℕ) (under rest : Forest) → IsNode l under → WalksSame (narrowed under) under → WalksSame (narrowed rest) rest
      → WalksSame (node (renumbered l) first (narrowed under) (narrowed rest)) (node l first under rest)
  unfolding walked
  node_walked l first under rest known e r s k =
      let parts = and_parts (stands_in s.frame.label.production l.production) (kids (stands_in s.frame.label.production) rest) k in
      let x : State = entered toks l first under s in
      ap (λ y. walked toks (narrowed rest) (left toks (renumbered l) first (narrowed under) (narrow s) (walked toks (narrowed under) y)))
      (entered-same l first under s known.kids_are known.sound)
      ∙ (ap (λ y. walked toks (narrowed rest) (left toks (renumbered l) first (narrowed under) (narrow s) y))
      (e x (kids_weaker (within l.production) (stands_in l.production) (within_stands l.production) under known.kids_are))
      ∙ (ap (walked toks (narrowed rest)) (left-same under known.sound l first s (walked toks under x) parts.0)
      ∙ r (left toks l first under s (walked toks under x)) parts.1))

  line_so : (first start second n j : ℕ) (specs below rest : Forest) → IsLine j specs below → WalksSame (narrowed specs) specs → WalksSame (narrowed below) below
      → WalksSame (narrowed rest) rest
      → WalksSame (node (labelled Member 2) first (node (labelled Specs n) start (narrowed specs) (narrowed below)) (narrowed rest))
      (node (labelled Member 3) first (node (labelled Specs n) start specs (node (labelled MemRest j) second below none)) rest)
  unfolding walked
  line_so first start second n j specs below rest known e b r s k =
      let parts = and_parts (stands_in s.frame.label.production Member) (kids (stands_in s.frame.label.production) rest) k in
      ap (walked toks (narrowed rest)) (line_walked first start second n j specs below known s e b parts.0)
      ∙ r (left toks (labelled Member 3) first (wide_under first start second n j specs below known s) s
      (walked toks (wide_under first start second n j specs below known s) (in_line first start second n j specs below known s))) parts.1

  pub walked-same : (f : Forest) → formed true f ≡ true → (s : State) → kids (stands_in s.frame.label.production) f ≡ true → walked toks (narrowed f) (narrow s) ≡ narrow (walked toks f s)
  walked-same = narrows WalksSame none_walked token_walked node_walked line_so
