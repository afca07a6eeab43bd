-- What is known behind a part of a text goes along with its tokens.
use Rattle.std.proofs.Common.{ℕ, ◌+◌, ◌-◌, ◌<◌, ◌≤◌, ◌≡◌, ◌⊎◌, true, false, if◌then◌else◌, nat_lt, List, [], length, inl, inr, refl, sym, ap, ◌∙◌, arith}
use Rattle.std.specs.Option.{option_map_or}
use Rattle.std.proofs.lemmas.Bool.{cases_Bool, ltb-true, ltb-false, lt-ltb, le-ltb}
use Rattle.cs_base.specs.Token.{Token}
use Rattle.cs_base.proofs.PlaceLemmas.{nothing_at as past_end}
use Rattle.c99_tree.specs.Tree.{Forest, none, token, node}
use Rattle.c_types.specs.declared.entity.EntityKind.TheVariants.{Parameter}
use Rattle.c_types.specs.declared.frames.Position.{Position}
use Rattle.c_types.specs.Types.{CType, arithmetic, target_of}
use Rattle.c_types.specs.Tags.{tag_type}
use Rattle.c_types.specs.Declarations.{Facts, spelling_at}
use Rattle.name_chains.specs.Entering.{entered}
use Rattle.name_chains.specs.Frames.{State, state, outermost, at_first}
use Rattle.name_chains.specs.Members.{member_used, member_type}
use Rattle.scope_bind.specs.Named.{Frame, Role, by_role}
use Rattle.scope_bind.specs.Ordinary.{plain_name}
use Rattle.scope_bind.specs.Roles.{role_of}
use Rattle.scope_bind.specs.Walk.{facts_at, found_at, position_at, passed_as, passed, left, walked}
use Rattle.scope_bind.specs.Moved.{moved_type}
use Rattle.scope_bind.proofs.MovedTypes.{type_if, target_moved}
use Rattle.scope_bind.specs.Carried.{carried_facts, carried_frame, carried_state, AreCarried, IsBelow, behind_front, FrontsBindAlike}
use Rattle.scope_bind.proofs.CarriedFacts.{jump_along}
use Rattle.scope_bind.proofs.CarriedNames.{declared_along, used_along, used_type_along, named_along, named_type_along, tag_along, tag_type_along}
use Rattle.scope_bind.proofs.CarriedMembers.{enumeration_along, member_used_along, member_type_along, designated_along, designated_type_along, designated_position_along, label_along}
use Rattle.scope_bind.proofs.CarriedNodes.{stays, goes_next, entered_along, left_along}

module _ (m : ℕ → ℕ) (h : ℕ) (a b : List Token) (law : AreCarried m h a b) (some : 1 < h) where
  abbrev F : Facts → Facts
  F f = carried_facts m f

  abbrev Fr : Frame → Frame
  Fr f = carried_frame m f

  abbrev T : CType → CType
  T t = moved_type m t

  -- ---- A token is read

  module _ (i : ℕ) (here : i + 1 < h) (f : Frame) (facts : Facts) where
    abbrev FactsGo : Role → Type 0
    FactsGo r = facts_at b r (m i) (Fr f) (F facts) ≡ F (facts_at a r i f facts)

    abbrev FoundGoes : Role → Type 0
    FoundGoes r = found_at b r (m i) (Fr f) (F facts) ≡ T (found_at a r i f facts)

    abbrev PositionGoes : Role → Type 0
    PositionGoes r = position_at b r (m i) (Fr f) (F facts) ≡ position_at a r i f facts

    pub facts_along : (r : Role) → FactsGo r
    facts_along r =
        by_role FactsGo refl (named_along m h a b law f i facts) (used_along m h a b law i facts)
        (tag_along m h a b law f i facts (goes_next m h a b law some i here))
        (enumeration_along m h a b law f i facts (goes_next m h a b law some i here))
        (declared_along m h a b law f.scope (plain_name a i i Parameter arithmetic true) facts (goes_next m h a b law some i here))
        (member_used_along m h a b law f.given i facts)
        (ap (λ t. member_used b t (m i) (F facts)) (target_moved m f.given) ∙ member_used_along m h a b law (target_of f.given) i facts)
        (designated_along m h a b law f.given i facts) (label_along m h a b law f.body i facts) (jump_along m h a b law i facts) r

    pub found_along : (r : Role) → FoundGoes r
    found_along r =
        by_role FoundGoes refl (named_type_along m h a b law f i facts) (used_type_along m h a b law i facts) (tag_type_along m h a b law f i facts)
        (type_if m f.has_body (tag_type a f i facts) f.found (tag_type b (Fr f) (m i) (F facts)) (T f.found) (tag_type_along m h a b law f i facts) refl)
        refl (member_type_along m h a b law f.given i arithmetic facts)
        (ap (λ t. member_type b t (m i) arithmetic (F facts)) (target_moved m f.given) ∙ member_type_along m h a b law (target_of f.given) i arithmetic facts)
        (designated_type_along m h a b law f.given i facts) refl refl r

    pub position_along : (r : Role) → PositionGoes r
    position_along r =
        by_role PositionGoes refl refl refl refl refl refl refl refl (designated_position_along m h a b law f.given i facts f.position) refl refl r

  passed_as_along : (r : Role) (i : ℕ) (s : State) → i + 1 < h → passed_as b r (m i) (carried_state m s) ≡ carried_state m (passed_as a r i s)
  passed_as_along r i s here =
      let f : Frame = s.frame in
      let g : State = carried_state m (passed_as a r i s) in
      let t : State = passed_as b r (m i) (carried_state m s) in
      ap (λ (x : Facts). state x t.frame) (facts_along i here f s.facts r)
      ∙ (ap (λ (x : CType). state g.facts (record t.frame { found = x })) (found_along i here f s.facts r)
      ∙ ap (λ (x : Position). state g.facts (record g.frame { position = x })) (position_along i here f s.facts r))

  passed_along : (i : ℕ) (s : State) → i + 1 < h → passed b i (carried_state m s) ≡ carried_state m (passed a i s)
  passed_along i s here =
      let r : Role = role_of s.frame.label.production s.frame.label.alternative s.frame.nth in
      ap (λ k. passed_as b r k (carried_state m s)) (sym (stays m h a b law some i here)) ∙ passed_as_along r i s here

  -- ---- The walk

  pub walked_along : (f : Forest) (s : State) → IsBelow h f → walked b f (carried_state m s) ≡ carried_state m (walked a f s)
  unfolding walked
  walked_along none s low = refl
  walked_along (token i rest) s low = ap (walked b rest) (passed_along i s low.0) ∙ walked_along rest (passed a i s) low.1
  walked_along (node l first under rest) s low =
      let before : State = entered a l first under s in
      let inside : State = walked a under before in
      ap (λ x. walked b rest (left b l first under (carried_state m s) (walked b under x))) (entered_along m h a b law some l first under s low.0 low.1)
      ∙ (ap (λ x. walked b rest (left b l first under (carried_state m s) x)) (walked_along under before low.1)
      ∙ (ap (walked b rest) (left_along m h a b law some l first under s inside low.0 low.1)
      ∙ walked_along rest (left a l first under s inside) low.2))

-- ---- A beginning that two texts have

module _ (n k : ℕ) (fits : n ≤ k) where
  abbrev placed : ℕ → ℕ
  placed i = behind_front n k i

  below_front : (i : ℕ) → i < n → placed i ≡ i
  below_front i e = ap (λ c. if c then i else k + (i - n)) (lt-ltb i n e)

  behind_it : (i : ℕ) → n ≤ i → placed i ≡ k + (i - n)
  behind_it i e = ap (λ c. if c then i else k + (i - n)) (not_below i e)
    where
      not_below : (j : ℕ) → n ≤ j → nat_lt j n ≡ false
      not_below j w = le-ltb j n w

  stands : (i : ℕ) → ((i < n) × (placed i ≡ i)) ⊎ ((n ≤ i) × (placed i ≡ k + (i - n)))
  stands i = elim (cases_Bool (nat_lt i n)) [
    | inl e ↦ let w : i < n = ltb-true i n e in inl (w, below_front i w)
    | inr e ↦ let w : n ≤ i = ltb-false i n e in inr (w, behind_it i w)
  ]

  apart_there : (i j : ℕ) → placed i ≡ placed j → i ≡ j
  apart_there i j e = elim (stands i) [
    | inl x ↦ elim (stands j) [
      | inl y ↦ (let p = x.1 in let q = y.1 in omega (arith, p, q, e))
      | inr y ↦ (let p = x.1 in let q = y.1 in omega (arith, p, q, e, x.0, y.0, fits))
    ]
    | inr x ↦ elim (stands j) [
      | inl y ↦ (let p = x.1 in let q = y.1 in omega (arith, p, q, e, x.0, y.0, fits))
      | inr y ↦ (let p = x.1 in let q = y.1 in omega (arith, p, q, e, x.0, y.0, fits))
    ]
  ]

  less_there : (i j : ℕ) → i < j → placed i < placed j
  less_there i j e = elim (stands i) [
    | inl x ↦ elim (stands j) [
      | inl y ↦ (let p = x.1 in let q = y.1 in omega (arith, p, q, e))
      | inr y ↦ (let p = x.1 in let q = y.1 in omega (arith, p, q, e, x.0, y.0, fits))
    ]
    | inr x ↦ elim (stands j) [
      | inl y ↦ absurd (omega (arith, e, x.0, y.0))
      | inr y ↦ (let p = x.1 in let q = y.1 in omega (arith, p, q, e, x.0, y.0, fits))
    ]
  ]

  no_less_there : (i j : ℕ) → j ≤ i → placed j ≤ placed i
  no_less_there i j e = elim (stands i) [
    | inl x ↦ elim (stands j) [
      | inl y ↦ (let p = x.1 in let q = y.1 in omega (arith, p, q, e))
      | inr y ↦ absurd (omega (arith, e, x.0, y.0))
    ]
    | inr x ↦ elim (stands j) [
      | inl y ↦ (let p = x.1 in let q = y.1 in omega (arith, p, q, e, x.0, y.0, fits))
      | inr y ↦ (let p = x.1 in let q = y.1 in omega (arith, p, q, e, x.0, y.0, fits))
    ]
  ]

  order_there : (i j : ℕ) → nat_lt (placed i) (placed j) ≡ nat_lt i j
  order_there i j = elim (cases_Bool (nat_lt i j)) [
    | inl e ↦ lt-ltb (placed i) (placed j) (less_there i j (ltb-true i j e)) ∙ sym e
    | inr e ↦ le-ltb (placed i) (placed j) (no_less_there i j (ltb-false i j e)) ∙ sym e
  ]

nothing_there : (xs : List Token) (i : ℕ) → length xs ≤ i → spelling_at xs i ≡ []
nothing_there xs i e = ap (λ o. option_map_or (λ t. t.text) o []) (past_end xs i e)

pub fronts_carried : (a b : List Token) → 1 < length a → length a ≤ length b → ((k : ℕ) → k < length a → spelling_at a k ≡ spelling_at b k)
    → AreCarried (behind_front (length a) (length b)) (length a) a b
fronts_carried a b some fits alike = record {
  texts = record {
    first = below_front (length a) (length b) fits 0 (omega (arith, some));
    apart = apart_there (length a) (length b) fits;
    spelled = λ i. elim (stands (length a) (length b) fits i) [
      | inl x ↦ ap (spelling_at b) x.1 ∙ sym (alike i x.0)
      | inr x ↦ ap (spelling_at b) x.1 ∙ (nothing_there b (length b + (i - length a)) (omega arith) ∙ sym (nothing_there a i x.0))
    ];
  };
  order = order_there (length a) (length b) fits;
  still = below_front (length a) (length b) fits;
}

pub begins_there : (n k : ℕ) → 1 < n → n ≤ k → carried_state (behind_front n k) (at_first n) ≡ at_first k
begins_there n k some fits =
    let m : ℕ → ℕ = behind_front n k in
    let zero_stays : m 0 ≡ 0 = below_front n k fits 0 (omega (arith, some)) in
    let end_goes : m n ≡ k = behind_it n k fits n (omega arith) ∙ omega arith in
    ap (λ (i : ℕ). state (carried_facts m (at_first n).facts) (record (outermost (m n)) { token = i; owner = i })) zero_stays
    ∙ ap at_first end_goes

pub fronts_bind_alike : FrontsBindAlike
fronts_bind_alike a b f some fits alike low =
    ap (walked b f) (sym (begins_there (length a) (length b) some fits))
    ∙ walked_along (behind_front (length a) (length b)) (length a) a b (fronts_carried a b some fits alike) some f (at_first (length a)) low
