-- The steps of the walk under a renaming: a token, a node that is entered, and one that is left.
use Rattle.std.proofs.Common.{ℕ, ◌+◌, ◌≡◌, Bool, true, false, ◌&&◌, ◌||◌, not, if◌then◌else◌, ◌==◌, List, Option, refl, ap, ◌∙◌}
use Rattle.std.specs.Prelude.{codes}
use Rattle.std.specs.Option.{option_map_or}
use Rattle.std.specs.Str.{bytes_eq}
use Rattle.cs_base.specs.Token.{Token}
use Rattle.c99_tree.specs.Tree.{Forest}
use Rattle.c99_tree.specs.declared.production.Label.{Label}
use Rattle.c99_tree.specs.declared.production.Production.{Production}
use Rattle.c99_tree.specs.declared.production.Production.TheVariants.{ExtRest, FunBody, InitDecl, Members, MemRest, Mdecl, Enumerators, Enumerator, Declarator, Param, Pdecl, SuRest, Unary, Add}
use Rattle.c_types.specs.declared.entity.EntityKind.TheVariants.{Parameter, Enumerator as Constant}
use Rattle.scope_bind.specs.Named.{Body, Frame, Role, by_role, designator_after_elision, ordinary}
use Rattle.c_types.specs.Types.{is_unknown, CType, arithmetic, unknown, array, union, structure, pointer, pointed_to, sum_type, target_of}
use Rattle.c_types.specs.Trees.{name_below, last_token}
use Rattle.c_types.specs.Declarations.{with_fault, Facts, spelling_at, alike, visible}
use Rattle.name_chains.specs.Frames.{State}
use Rattle.scope_bind.specs.Ordinary.{used, used_as, used_type, is_func, plain_name}
use Rattle.c_types.specs.Tags.{renumbered, tag_entity, with_tag_after}
use Rattle.name_chains.specs.Members.{member_used, member_used_as, member_at, member_type}
use Rattle.scope_bind.specs.Expressions.{is_sign, prefixed, found_after}
use Rattle.name_chains.specs.Initializers.{position_of}
use Rattle.name_chains.specs.Entering.{facts_in, found_in, frame_in, entered}
use Rattle.scope_bind.specs.Walk.{facts_at, found_at, position_at, passed_as, declared_in, parameter_in, facts_after, frame_after, left}
use Rattle.tree_laws.specs.RenamedNames.{is_own_word}
use Rattle.tree_laws.proofs.Renaming.{Good, Kept}
use Rattle.tree_laws.proofs.SecondRanges.{kept_with, good_with}
use Rattle.tree_laws.proofs.RenamedNames.{declared_back, declared_kept, declared_same, used_back, used_kept, used_visible}
use Rattle.tree_laws.proofs.RenamedObjects.{with_object_back, with_object_kept, with_object_same, with_parameter_back, with_parameter_kept, with_parameter_same}
use Rattle.tree_laws.proofs.RenamedMembers.{with_tag_back, with_tag_kept, prior_tag_same, either_back, either_kept, either_same, either_type, member_used_back, member_used_kept, member_at_same, designated_back, designated_kept, designated_same, with_member_back, with_member_kept, with_member_same, closed_back, closed_kept, closed_same, with_label_back, with_label_kept, with_label_same, with_labels_back, with_labels_kept, with_labels_same}

module _ (a b : List Token)
    (words : (word : List ℕ) (k : ℕ) → is_own_word word ≡ true → bytes_eq (spelling_at b k) word ≡ bytes_eq (spelling_at a k) word) where
  -- ---- A node is entered

  facts_in_back : (p : Production) (first : ℕ) (under : Forest) (f : Frame) (facts : Facts) → Good a b (facts_in p first under f facts) → Good a b facts
  facts_in_back FunBody first under f facts h = good_with a b f.kept (f.scope.depth + 1) first (last_token under 0) facts h
  facts_in_back _ first under f facts h = h

  facts_in_kept : (p : Production) (first : ℕ) (under : Forest) (f : Frame) (facts : Facts) → Kept a facts → Kept a (facts_in p first under f facts)
  facts_in_kept FunBody first under f facts k = kept_with a f.kept (f.scope.depth + 1) first (last_token under 0) facts k
  facts_in_kept _ first under f facts k = k

  found_in_same : (p : Production) (l : Label) (f : Frame) (facts : Facts) → found_in b p l f facts ≡ found_in a p l f facts
  found_in_same SuRest l f facts = ap (λ c. if c then union f.token else structure f.token) (words (codes "union") f.token refl)
  found_in_same _ l f facts = refl

  pub entered_back : (l : Label) (first : ℕ) (under : Forest) (s : State) → Good a b (entered a l first under s).facts → Good a b s.facts
  entered_back l first under s h = facts_in_back l.production first under s.frame s.facts h

  pub entered_kept : (l : Label) (first : ℕ) (under : Forest) (s : State) → Kept a s.facts → Kept a (entered a l first under s).facts
  entered_kept l first under s k = facts_in_kept l.production first under s.frame s.facts k

  pub entered_same : (l : Label) (first : ℕ) (under : Forest) (s : State) → entered b l first under s ≡ entered a l first under s
  entered_same l first under s =
      ap (λ (t : CType). record (entered a l first under s) { frame = record (frame_in a l under s.frame s.facts) { found = t } })
      (found_in_same l.production l s.frame s.facts)

  -- ---- A token

  func_same : (f : Frame) (i : ℕ) → is_func b f i ≡ is_func a f i
  func_same f i = ap (λ c. (option_map_or (λ w. true) f.body false && not f.listing) && c) (words (codes "__func__") i refl)

  module _ (i : ℕ) (facts : Facts) where
    used_goes : Good a b (used a i facts) → Good a b facts
    used_goes h = used_back a b i (visible a ordinary i i facts) facts h

    used_stays : Kept a facts → Good a b (used a i facts) → Kept a (used a i facts)
    used_stays k h = used_kept a b i (visible a ordinary i i facts) facts k h

    used_same : Kept a facts → Good a b (used a i facts) → used b i facts ≡ used a i facts
    used_same k h = ap (λ r. used_as a i r facts) (used_visible a b i facts k h)

    type_same : Kept a facts → Good a b (used a i facts) → used_type b i facts ≡ used_type a i facts
    type_same k h = ap (λ r. option_map_or (λ d. d.ctype) r arithmetic) (used_visible a b i facts k h)

    named_goes : (c : Bool) → Good a b (if c then facts else used a i facts) → Good a b facts
    named_goes true h = h
    named_goes false h = used_goes h

    named_stays : (c : Bool) → Kept a facts → Good a b (if c then facts else used a i facts) → Kept a (if c then facts else used a i facts)
    named_stays true k h = k
    named_stays false k h = used_stays k h

    named_at : (c : Bool) → Kept a facts → Good a b (if c then facts else used a i facts) → (if c then facts else used b i facts) ≡ (if c then facts else used a i facts)
    named_at true k h = refl
    named_at false k h = used_same k h

    named_type_at : (c : Bool) → Kept a facts → Good a b (if c then facts else used a i facts)
        → (if c then array arithmetic else used_type b i facts) ≡ (if c then array arithmetic else used_type a i facts)
    named_type_at true k h = refl
    named_type_at false k h = type_same k h

  facts_at_back : (r : Role) (i : ℕ) (f : Frame) (facts : Facts) → Good a b (facts_at a r i f facts) → Good a b facts
  facts_at_back r i f facts =
      by_role (λ r. Good a b (facts_at a r i f facts) → Good a b facts)
      (λ h. h)
      (λ h. named_goes i facts (is_func a f i) h)
      (λ h. used_goes i facts h)
      (λ h. with_tag_back a b f i facts h)
      (λ h. either_back a b f i facts f.has_body h)
      (λ h. declared_back a b f.scope (plain_name a i i Parameter arithmetic true) facts h)
      (λ h. member_used_back a b f.given i facts h)
      (λ h. member_used_back a b (target_of f.given) i facts h)
      (λ h. designated_back a b f.given i facts (is_unknown f.given) h)
      (λ h. with_label_back a b f.body i facts h)
      (λ h. record { clean = h.clean; good = h.good; apart = h.apart })
      r

  facts_at_kept : (r : Role) (i : ℕ) (f : Frame) (facts : Facts) → Kept a facts → Good a b (facts_at a r i f facts) → Kept a (facts_at a r i f facts)
  facts_at_kept r i f facts =
      by_role (λ r. Kept a facts → Good a b (facts_at a r i f facts) → Kept a (facts_at a r i f facts))
      (λ k h. k)
      (λ k h. named_stays i facts (is_func a f i) k h)
      (λ k h. used_stays i facts k h)
      (λ k h. with_tag_kept a b f i facts k h)
      (λ k h. either_kept a b f i facts f.has_body k h)
      (λ k h. declared_kept a b f.scope (plain_name a i i Parameter arithmetic true) facts k h)
      (λ k h. member_used_kept a b f.given i facts k h)
      (λ k h. member_used_kept a b (target_of f.given) i facts k h)
      (λ k h. designated_kept a b f.given i facts (is_unknown f.given) k h)
      (λ k h. with_label_kept a b f.body i facts k h)
      (λ k h. record { covered = k.covered; linked = k.linked; one = k.one })
      r

  designated_at : (c : Bool) (t : CType) (i : ℕ) (facts : Facts) → member_at b t i facts ≡ member_at a t i facts
      → (if c then with_fault true designator_after_elision i facts else member_used b t i facts)
      ≡ (if c then with_fault true designator_after_elision i facts else member_used a t i facts)
  designated_at true t i facts e = refl
  designated_at false t i facts e = ap (λ r. member_used_as a i r facts) e

  facts_at_same : (r : Role) (i : ℕ) (f : Frame) (facts : Facts) → Kept a facts → Good a b (facts_at a r i f facts) → facts_at b r i f facts ≡ facts_at a r i f facts
  facts_at_same r i f facts =
      by_role (λ r. Kept a facts → Good a b (facts_at a r i f facts) → facts_at b r i f facts ≡ facts_at a r i f facts)
      (λ k h. refl)
      (λ k h. ap (λ c. if c then facts else used b i facts) (func_same f i) ∙ named_at i facts (is_func a f i) k h)
      (λ k h. used_same i facts k h)
      (λ k h. ap (λ r. with_tag_after f i r facts) (prior_tag_same a b f i facts k h))
      (λ k h. either_same a b f i facts f.has_body k h)
      (λ k h. declared_same a b f.scope (plain_name a i i Parameter arithmetic true) facts k h)
      (λ k h. ap (λ r. member_used_as a i r facts) (member_at_same a b f.given i facts k h))
      (λ k h. ap (λ r. member_used_as a i r facts) (member_at_same a b (target_of f.given) i facts k h))
      (λ k h. designated_at (is_unknown f.given) f.given i facts (designated_same a b f.given i facts (is_unknown f.given) k h))
      (λ k h. with_label_same a b f.body i facts k h)
      (λ k h. refl)
      r

  member_type_same : (t : CType) (i : ℕ) (other : CType) (facts : Facts) → member_at b t i facts ≡ member_at a t i facts
      → member_type b t i other facts ≡ member_type a t i other facts
  member_type_same t i other facts e = ap (λ r. option_map_or (λ d. d.ctype) r other) e

  designated_type_at : (c : Bool) (t other : CType) (i : ℕ) (facts : Facts) → member_at b t i facts ≡ member_at a t i facts
      → (if c then other else member_type b t i other facts) ≡ (if c then other else member_type a t i other facts)
  designated_type_at true t other i facts e = refl
  designated_type_at false t other i facts e = member_type_same t i other facts e

  found_at_same : (r : Role) (i : ℕ) (f : Frame) (facts : Facts) → Kept a facts → Good a b (facts_at a r i f facts) → found_at b r i f facts ≡ found_at a r i f facts
  found_at_same r i f facts =
      by_role (λ r. Kept a facts → Good a b (facts_at a r i f facts) → found_at b r i f facts ≡ found_at a r i f facts)
      (λ k h. refl)
      (λ k h. ap (λ c. if c then array arithmetic else used_type b i facts) (func_same f i) ∙ named_type_at i facts (is_func a f i) k h)
      (λ k h. type_same i facts k h)
      (λ k h. ap (λ r. renumbered f.found (tag_entity f i facts r)) (prior_tag_same a b f i facts k h))
      (λ k h. either_type a b f i facts f.has_body k h)
      (λ k h. refl)
      (λ k h. member_type_same f.given i arithmetic facts (member_at_same a b f.given i facts k h))
      (λ k h. member_type_same (target_of f.given) i arithmetic facts (member_at_same a b (target_of f.given) i facts k h))
      (λ k h. designated_type_at (is_unknown f.given) f.given unknown i facts (designated_same a b f.given i facts (is_unknown f.given) k h))
      (λ k h. refl)
      (λ k h. refl)
      r

  position_at_same : (r : Role) (i : ℕ) (f : Frame) (facts : Facts) → Kept a facts → Good a b (facts_at a r i f facts)
      → position_at b r i f facts ≡ position_at a r i f facts
  position_at_same r i f facts =
      by_role (λ r. Kept a facts → Good a b (facts_at a r i f facts) → position_at b r i f facts ≡ position_at a r i f facts)
      (λ k h. refl)
      (λ k h. refl)
      (λ k h. refl)
      (λ k h. refl)
      (λ k h. refl)
      (λ k h. refl)
      (λ k h. refl)
      (λ k h. refl)
      (λ k h. ap (λ r. position_of a f.given facts r f.position) (designated_same a b f.given i facts (is_unknown f.given) k h))
      (λ k h. refl)
      (λ k h. refl)
      r

  pub passed_back : (r : Role) (i : ℕ) (s : State) → Good a b (passed_as a r i s).facts → Good a b s.facts
  passed_back r i s h = facts_at_back r i s.frame s.facts h

  pub passed_kept : (r : Role) (i : ℕ) (s : State) → Kept a s.facts → Good a b (passed_as a r i s).facts → Kept a (passed_as a r i s).facts
  passed_kept r i s k h = facts_at_kept r i s.frame s.facts k h

  abbrev passed_so : ℕ → State → Facts → CType → Frame → State
  passed_so i s facts t placed = record { facts = facts; frame = record placed { nth = s.frame.nth + 1; token = i; found = t } }

  pub passed_same : (r : Role) (i : ℕ) (s : State) → Kept a s.facts → Good a b (passed_as a r i s).facts → passed_as b r i s ≡ passed_as a r i s
  passed_same r i s k h =
      ap (λ x. passed_so i s x (found_at b r i s.frame s.facts) (record s.frame { position = position_at b r i s.frame s.facts }))
      (facts_at_same r i s.frame s.facts k h)
      ∙ (ap (λ t. passed_so i s (facts_at a r i s.frame s.facts) t (record s.frame { position = position_at b r i s.frame s.facts }))
      (found_at_same r i s.frame s.facts k h)
      ∙ ap (λ p. passed_so i s (facts_at a r i s.frame s.facts) (found_at a r i s.frame s.facts) (record s.frame { position = p }))
      (position_at_same r i s.frame s.facts k h))

  -- ---- A node is left

  declared_in_back : (p : Production) (f : Frame) (l : Label) (under : Forest) (facts : Facts) → Good a b (declared_in a p f l under facts) → Good a b facts
  declared_in_back ExtRest f l under facts h = with_object_back a b f under (name_below l under) facts h
  declared_in_back InitDecl f l under facts h = with_object_back a b f under (name_below l under) facts h
  declared_in_back Mdecl f l under facts h = with_member_back a b f under (name_below l under) facts h
  declared_in_back _ f l under facts h = h

  declared_in_kept : (p : Production) (f : Frame) (l : Label) (under : Forest) (facts : Facts) → Kept a facts → Good a b (declared_in a p f l under facts)
      → Kept a (declared_in a p f l under facts)
  declared_in_kept ExtRest f l under facts k h = with_object_kept a b f under (name_below l under) facts k h
  declared_in_kept InitDecl f l under facts k h = with_object_kept a b f under (name_below l under) facts k h
  declared_in_kept Mdecl f l under facts k h = with_member_kept a b f under (name_below l under) facts k h
  declared_in_kept _ f l under facts k h = k

  declared_in_same : (p : Production) (f : Frame) (l : Label) (under : Forest) (facts : Facts) → Kept a facts → Good a b (declared_in a p f l under facts)
      → declared_in b p f l under facts ≡ declared_in a p f l under facts
  declared_in_same ExtRest f l under facts k h = with_object_same a b f under (name_below l under) facts k h
  declared_in_same InitDecl f l under facts k h = with_object_same a b f under (name_below l under) facts k h
  declared_in_same Mdecl f l under facts k h = with_member_same a b f under (name_below l under) facts k h
  declared_in_same _ f l under facts k h = refl

  parameter_in_back : (p : Production) (f : Frame) (l : Label) (under : Forest) (facts : Facts) → Good a b (parameter_in a p f l under facts) → Good a b facts
  parameter_in_back Param f l under facts h = with_parameter_back a b f under (name_below l under) facts h
  parameter_in_back _ f l under facts h = h

  parameter_in_kept : (p : Production) (f : Frame) (l : Label) (under : Forest) (facts : Facts) → Kept a facts → Good a b (parameter_in a p f l under facts)
      → Kept a (parameter_in a p f l under facts)
  parameter_in_kept Param f l under facts k h = with_parameter_kept a b f under (name_below l under) facts k h
  parameter_in_kept _ f l under facts k h = k

  parameter_in_same : (p : Production) (f : Frame) (l : Label) (under : Forest) (facts : Facts) → Kept a facts → Good a b (parameter_in a p f l under facts)
      → parameter_in b p f l under facts ≡ parameter_in a p f l under facts
  parameter_in_same Param f l under facts k h = with_parameter_same a b f under (name_below l under) facts k h
  parameter_in_same _ f l under facts k h = refl

  module _ (first : ℕ) (f : Frame) (l : Label) (under : Forest) (body : Option Body) (facts : Facts) where
    facts_after_back : (p : Production) → Good a b (facts_after a p first f l under body facts) → Good a b facts
    facts_after_back Declarator h = declared_in_back f.label.production f l under facts h
    facts_after_back Pdecl h = parameter_in_back f.label.production f l under facts h
    facts_after_back Enumerator h =
        declared_back a b f.scope (plain_name a first (last_token under first) Constant arithmetic false) facts h
    facts_after_back MemRest h = closed_back a b f first facts (l.alternative == 1) h
    facts_after_back Members h = record { clean = h.clean; good = h.good; apart = h.apart }
    facts_after_back Enumerators h = record { clean = h.clean; good = h.good; apart = h.apart }
    facts_after_back FunBody h = with_labels_back a b body facts h
    facts_after_back _ h = h

    facts_after_kept : (p : Production) → Kept a facts → Good a b (facts_after a p first f l under body facts) → Kept a (facts_after a p first f l under body facts)
    facts_after_kept Declarator k h = declared_in_kept f.label.production f l under facts k h
    facts_after_kept Pdecl k h = parameter_in_kept f.label.production f l under facts k h
    facts_after_kept Enumerator k h =
        declared_kept a b f.scope (plain_name a first (last_token under first) Constant arithmetic false) facts k h
    facts_after_kept MemRest k h = closed_kept a b f first facts (l.alternative == 1) k h
    facts_after_kept Members k h = record { covered = k.covered; linked = k.linked; one = k.one }
    facts_after_kept Enumerators k h = record { covered = k.covered; linked = k.linked; one = k.one }
    facts_after_kept FunBody k h = with_labels_kept a b body facts k h
    facts_after_kept _ k h = k

    facts_after_same : (p : Production) → Kept a facts → Good a b (facts_after a p first f l under body facts)
        → facts_after b p first f l under body facts ≡ facts_after a p first f l under body facts
    facts_after_same Declarator k h = declared_in_same f.label.production f l under facts k h
    facts_after_same Pdecl k h = parameter_in_same f.label.production f l under facts k h
    facts_after_same Enumerator k h =
        declared_same a b f.scope (plain_name a first (last_token under first) Constant arithmetic false) facts k h
    facts_after_same MemRest k h = closed_same a b f first facts (l.alternative == 1) k h
    facts_after_same Members k h = refl
    facts_after_same Enumerators k h = refl
    facts_after_same FunBody k h = with_labels_same a b body facts k h
    facts_after_same _ k h = refl

  prefixed_same : (sign : ℕ) (t : CType) → prefixed b sign t ≡ prefixed a sign t
  prefixed_same sign t =
      ap (λ c. if c || is_sign b sign (codes "--") then t else (if is_sign b sign (codes "&") then pointer t else (if is_sign b sign (codes "*") then pointed_to t else arithmetic)))
      (words (codes "++") sign refl)
      ∙ (ap (λ c. if is_sign a sign (codes "++") || c then t else (if is_sign b sign (codes "&") then pointer t else (if is_sign b sign (codes "*") then pointed_to t else arithmetic)))
      (words (codes "--") sign refl)
      ∙ (ap (λ c. if is_sign a sign (codes "++") || is_sign a sign (codes "--") then t else (if c then pointer t else (if is_sign b sign (codes "*") then pointed_to t else arithmetic)))
      (words (codes "&") sign refl)
      ∙ ap (λ c. if is_sign a sign (codes "++") || is_sign a sign (codes "--") then t else (if is_sign a sign (codes "&") then pointer t else (if c then pointed_to t else arithmetic)))
      (words (codes "*") sign refl)))

  found_after_same : (p : Production) (f : Frame) (l : Label) (under : Forest) (child : Frame) → found_after b p f l under child ≡ found_after a p f l under child
  found_after_same Unary f l under child =
      ap (λ t. if f.label.alternative == 1 then t else (if f.label.alternative == 2 then arithmetic else child.found)) (prefixed_same f.token child.found)
  found_after_same Add f l under child =
      ap (λ c. if f.nth == 0 then child.found else sum_type c f.found child.found) (words (codes "-") f.token refl)
  found_after_same _ f l under child = refl

  pub left_back : (l : Label) (first : ℕ) (under : Forest) (s s' : State) → Good a b (left a l first under s s').facts → Good a b s'.facts
  left_back l first under s s' h = facts_after_back first s.frame l under s'.frame.body s'.facts l.production h

  pub left_kept : (l : Label) (first : ℕ) (under : Forest) (s s' : State) → Kept a s'.facts → Good a b (left a l first under s s').facts
      → Kept a (left a l first under s s').facts
  left_kept l first under s s' k h = facts_after_kept first s.frame l under s'.frame.body s'.facts l.production k h

  abbrev left_so : Label → Forest → State → State → Facts → CType → State
  left_so l under s s' facts t = record { facts = facts; frame = record (frame_after a s.frame l under s'.frame) { found = t } }

  pub left_same : (l : Label) (first : ℕ) (under : Forest) (s s' : State) → Kept a s'.facts → Good a b (left a l first under s s').facts
      → left b l first under s s' ≡ left a l first under s s'
  left_same l first under s s' k h =
      ap (λ x. left_so l under s s' x (found_after b s.frame.label.production s.frame l under s'.frame))
      (facts_after_same first s.frame l under s'.frame.body s'.facts l.production k h)
      ∙ ap (left_so l under s s' (left a l first under s s').facts) (found_after_same s.frame.label.production s.frame l under s'.frame)
