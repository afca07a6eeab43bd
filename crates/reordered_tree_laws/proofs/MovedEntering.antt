-- A node is entered in two texts that go together.
use Rattle.std.proofs.Common.{ℕ, ◌+◌, ◌<◌, ◌≤◌, ◌≡◌, ◌≢◌, Bool, true, false, ◌&&◌, ◌||◌, not, if◌then◌else◌, ◌==◌, List, [], Option, Some, inl, inr, refl, sym, ap, subst, ◌∙◌, arith}
use Rattle.std.specs.Prelude.{nat_lt, codes}
use Rattle.std.specs.Option.{option_map}
use Rattle.std.specs.Str.{bytes_eq}
use Rattle.std.proofs.lemmas.Bool.{false≢true, cases_Bool, eqb-true, eq-eqb, ltb-true, ltb-false, lt-ltb, le-ltb}
use Rattle.cs_base.specs.Token.{Token}
use Rattle.c99_tree.specs.Tree.{Forest}
use Rattle.c99_tree.specs.declared.production.Label.{Label}
use Rattle.c99_tree.specs.declared.production.Production.{Production}
use Rattle.c99_tree.specs.declared.production.Production.TheVariants.{External, ExtTail, FunBody, Declaration as DeclarationNode, Specs, Main, StructSpec, SuRest, Members, EnRest, Enumerators, Suffix, Init, InitList, InitItem, Designator, CastRest, SizeLit, Primary, Post, Block, Statement, Sub}
use Rattle.c_types.specs.declared.frames.Position.{Position}
use Rattle.c_types.specs.Types.{CType, arithmetic, array, unknown, inner_of, is_array, is_unknown, called, structure, union, enumeration}
use Rattle.c_types.specs.Trees.{is_list, last_token, first_token, has_node}
use Rattle.c_types.specs.Declarations.{Facts, spelling_at}
use Rattle.name_chains.specs.Frames.{state}
use Rattle.name_chains.specs.Initializers.{next_place}
use Rattle.name_chains.specs.Entering.{inner, is_scoped, scope_in, body_in, listing_in, alone_in, owner_in, given_in, position_in, with_kept, facts_in, found_in, frame_in, entered}
use Rattle.scope_bind.specs.Named.{Body, Frame, Scope}
use Rattle.reordered_tree_laws.specs.Premises.{stands_in}
use Rattle.scope_bind.specs.Moved.{moved_type, moved_body, moved_frame, AreMovedTexts}
use Rattle.reordered_tree_laws.specs.Moving.{IsAhead, GoTogether, StatesGo}
use Rattle.scope_bind.proofs.MovedSpaces.{same_number, number_moved}
use Rattle.scope_bind.proofs.MovedTypes.{type_if, called_moved, unknown_same}
use Rattle.reordered_tree_laws.proofs.MovedNames.{ScopeGoes}
use Rattle.reordered_tree_laws.proofs.MovedMembers.{next_moved}
use Rattle.reordered_tree_laws.proofs.MovedKept.{kept_moves}
use Rattle.reordered_tree_laws.proofs.MovedTrees.{AreSeenMoved, AreSpans}

-- So many tokens below some children stand at these places, in both texts.
pub record ArePlaced (m : ℕ → ℕ) (lo there count : ℕ) (under over : Forest) : Type 0 where
  pub spans : AreSpans m lo there count
  pub here : (x : ℕ) → 1 ≤ count → last_token under x + 1 ≡ lo + count
  pub beyond : (y : ℕ) → 1 ≤ count → last_token over y + 1 ≡ there + count
  pub empty : (x : ℕ) → count ≡ 0 → last_token under x ≡ x
  pub void : (y : ℕ) → count ≡ 0 → last_token over y ≡ y

pub both_ways : (a b : Bool) → (a ≡ true → b ≡ true) → (b ≡ true → a ≡ true) → a ≡ b
both_ways true true f g = refl
both_ways false false f g = refl
both_ways true false f g = sym (f refl)
both_ways false true f g = g refl

-- what follows a word asks for it
abbrev pub asks_word : Production → Bool
asks_word SuRest = true
asks_word EnRest = true
asks_word _ = false

abbrev pub is_body : Production → Bool
is_body FunBody = true
is_body _ = false

zero_or_more : (n : ℕ) → nat_lt 0 n ≡ false → n ≡ 0
zero_or_more n e = omega (arith, ltb-false 0 n e)

module _ (m : ℕ → ℕ) (old new : List Token) (law : AreMovedTexts m old new) (lo there count : ℕ) (outer : Bool) (under over : Forest)
    (seen : AreSeenMoved m outer under over) (at : ArePlaced m lo there count under over) where
  pub last_zero : last_token over 0 ≡ m (last_token under 0)
  last_zero = seen.last 0 0 (sym law.first)

  -- ---- The end of a scope

  -- a token ahead stands before the last one of the node in both texts or in neither
  pub before_last : (k : ℕ) → IsAhead m lo there k → nat_lt (m k) (last_token over 0) ≡ nat_lt k (last_token under 0)
  before_last k a = elim (cases_Bool (nat_lt 0 count)) [
    | inl some ↦ filled (ltb-true 0 count some)
    | inr empty ↦
        let none : count ≡ 0 = zero_or_more count empty in
        ap (nat_lt (m k)) (at.void 0 none)
        ∙ (le-ltb (m k) 0 (omega arith) ∙ sym (ap (nat_lt k) (at.empty 0 none) ∙ le-ltb k 0 (omega arith)))
  ]
    where
      filled : 1 ≤ count → nat_lt (m k) (last_token over 0) ≡ nat_lt k (last_token under 0)
      filled some = both_ways (nat_lt (m k) (last_token over 0)) (nat_lt k (last_token under 0)) (λ e. back a e) (λ e. forth a e)
        where
          h : last_token under 0 + 1 ≡ lo + count
          h = at.here 0 some

          b : last_token over 0 + 1 ≡ there + count
          b = at.beyond 0 some

          other : k ≢ last_token under 0 → m k ≢ last_token over 0
          other ne e = ne (law.apart k (last_token under 0) (e ∙ last_zero))

          forth : IsAhead m lo there k → nat_lt k (last_token under 0) ≡ true → nat_lt (m k) (last_token over 0) ≡ true
          forth (inl w) e =
              let less : k < last_token under 0 = ltb-true k (last_token under 0) e in
              let inside = at.spans.over k w.0 (omega (arith, less, h)) in
              let apart : m k ≢ last_token over 0 = other (λ same. omega (arith, same, less)) in
              lt-ltb (m k) (last_token over 0) (omega (arith, inside.1, b, apart))
          forth (inr w) e = lt-ltb (m k) (last_token over 0) (omega (arith, w.1, b, some))

          back : IsAhead m lo there k → nat_lt (m k) (last_token over 0) ≡ true → nat_lt k (last_token under 0) ≡ true
          back (inl w) e =
              let less : m k < last_token over 0 = ltb-true (m k) (last_token over 0) e in
              let inside = at.spans.back k w.1 (omega (arith, less, b)) in
              let apart : k ≢ last_token under 0 = λ same. (let moved : m k ≡ last_token over 0 = ap m same ∙ sym last_zero in omega (arith, moved, less)) in
              lt-ltb k (last_token under 0) (omega (arith, inside.1, h, apart))
          back (inr w) e = lt-ltb k (last_token under 0) (omega (arith, w.0, h, some))

  one_zero : (k : ℕ) → nat_lt k 1 ≡ (k == 0)
  one_zero k = both_ways (nat_lt k 1) (k == 0)
      (λ e. let none : k ≡ 0 = omega (arith, ltb-true k 1 e) in eq-eqb k 0 none)
      (λ e. lt-ltb k 1 (omega (arith, eqb-true k 0 e)))

  -- .. or before its end
  pub before_end : (k : ℕ) → IsAhead m lo there k → nat_lt (m k) (last_token over 0 + 1) ≡ nat_lt k (last_token under 0 + 1)
  before_end k a = elim (cases_Bool (nat_lt 0 count)) [
    | inl some ↦ filled (ltb-true 0 count some) a
    | inr empty ↦
        let none : count ≡ 0 = zero_or_more count empty in
        ap (λ (x : ℕ). nat_lt (m k) (x + 1)) (at.void 0 none)
        ∙ (one_zero (m k)
        ∙ (ap (λ (x : ℕ). m k == x) (sym law.first)
        ∙ (same_number m old new law k 0 ∙ (sym (one_zero k) ∙ ap (λ (x : ℕ). nat_lt k (x + 1)) (sym (at.empty 0 none))))))
  ]
    where
      filled : 1 ≤ count → IsAhead m lo there k → nat_lt (m k) (last_token over 0 + 1) ≡ nat_lt k (last_token under 0 + 1)
      filled some (inl w) =
          let h : last_token under 0 + 1 ≡ lo + count = at.here 0 some in
          let b : last_token over 0 + 1 ≡ there + count = at.beyond 0 some in
          both_ways (nat_lt (m k) (last_token over 0 + 1)) (nat_lt k (last_token under 0 + 1))
          (λ e. let inside = at.spans.back k w.1 (omega (arith, ltb-true (m k) (last_token over 0 + 1) e, b)) in lt-ltb k (last_token under 0 + 1) (omega (arith, inside.1, h)))
          (λ e. let inside = at.spans.over k w.0 (omega (arith, ltb-true k (last_token under 0 + 1) e, h)) in lt-ltb (m k) (last_token over 0 + 1) (omega (arith, inside.1, b)))
      filled some (inr w) =
          let h : last_token under 0 + 1 ≡ lo + count = at.here 0 some in
          let b : last_token over 0 + 1 ≡ there + count = at.beyond 0 some in
          lt-ltb (m k) (last_token over 0 + 1) (omega (arith, w.1, b)) ∙ sym (lt-ltb k (last_token under 0 + 1) (omega (arith, w.0, h)))

  module _ (own keeps : Bool) (fr : Frame) (token to : ℕ) (kept : Option ℕ) (sc : ScopeGoes m lo there fr.scope to) where
    abbrev gr : Frame
    gr = moved_frame m token to kept fr

    -- ---- Scopes

    record ScopesMove (a b : Scope) : Type 0 where
      depth : b.depth ≡ a.depth
      goes : ScopeGoes m lo there a b.to

    stay : ScopesMove fr.scope gr.scope
    stay = record { depth = refl; goes = sc }

    block : ScopesMove (inner fr.scope (last_token under 0)) (inner gr.scope (last_token over 0))
    block = record { depth = refl; goes = record { ends = before_last; outer = λ e. last_zero } }

    statement : nat_lt 0 fr.scope.depth ≡ true → ScopesMove (inner fr.scope (last_token under 0 + 1)) (inner gr.scope (last_token over 0 + 1))
    statement deep = record {
      depth = refl;
      goes = record { ends = before_end; outer = λ e. absurd (omega (arith, e, ltb-true 0 fr.scope.depth deep)) };
    }

    list_by : (c : Bool) → ScopesMove (if c then inner fr.scope (last_token under 0) else fr.scope) (if c then inner gr.scope (last_token over 0) else gr.scope)
    list_by true = block
    list_by false = stay

    statement_by : (c : Bool) → nat_lt 0 fr.scope.depth ≡ true
        → ScopesMove (if c then inner fr.scope (last_token under 0 + 1) else fr.scope) (if c then inner gr.scope (last_token over 0 + 1) else gr.scope)
    statement_by true deep = statement deep
    statement_by false deep = stay

    scopes_move : (p : Production) (l : Label) → stands_in p fr.scope.depth ≡ true → ScopesMove (scope_in p l under fr.scope) (scope_in p l over gr.scope)
    scopes_move Block l e = block
    scopes_move FunBody l e = block
    scopes_move Suffix l e = list_by (is_list l)
    scopes_move Sub l e = statement e
    scopes_move Statement l e = statement_by (is_scoped l.alternative) e
    scopes_move _ l e = stay

    -- ---- What is known of the node

    body_moved : (p : Production) → body_in p over gr.body ≡ option_map (moved_body m) (body_in p under fr.body)
    body_moved FunBody =
        ap (λ (x : ℕ). Some (record { from = x; to = last_token over 0 })) (seen.first 0 0 (sym law.first))
        ∙ ap (λ (x : ℕ). Some (record { from = m (first_token under 0); to = x })) last_zero
    body_moved _ = refl

    listing_same : (p : Production) → listing_in p gr ≡ listing_in p fr
    listing_same DeclarationNode = refl
    listing_same _ = refl

    alone_same : (p : Production) → alone_in p over gr ≡ alone_in p under fr
    alone_same External = seen.bare
    alone_same DeclarationNode = seen.bare
    alone_same Specs = refl
    alone_same Main = refl
    alone_same StructSpec = refl
    alone_same SuRest = refl
    alone_same _ = refl

    owner_moved : (p : Production) → owner_in p gr ≡ m (owner_in p fr)
    owner_moved Members = number_moved m old new law fr.found
    owner_moved _ = refl

    given_moved : (p : Production) → given_in p gr ≡ moved_type m (given_in p fr)
    given_moved ExtTail = refl
    given_moved Init = refl
    given_moved Designator = refl
    given_moved CastRest = refl
    given_moved SizeLit = refl
    given_moved Post = refl
    given_moved _ = refl

    position_same : (p : Production) (l : Label) → position_in p l gr ≡ position_in p l fr
    position_same InitList l = refl
    position_same InitItem l = refl
    position_same _ l = refl

    lists_same : (has_node Members over || has_node Enumerators over) ≡ (has_node Members under || has_node Enumerators under)
    lists_same =
        ap (λ b. b || has_node Enumerators over) (seen.nodes Members) ∙ ap (λ b. has_node Members under || b) (seen.nodes Enumerators)

    module _ (f g : Facts) (k : GoTogether m old new lo there f g) where
      word_moved : token ≡ m fr.token → found_in new SuRest (record { production = SuRest; alternative = 1 }) gr g
          ≡ moved_type m (found_in old SuRest (record { production = SuRest; alternative = 1 }) fr f)
      word_moved e =
          let w : ℕ = fr.token in
          ap (λ (x : ℕ). if bytes_eq (spelling_at new x) (codes "union") then union x else structure x) e
          ∙ (ap (λ x. if bytes_eq x (codes "union") then union (m w) else structure (m w)) (law.spelled w)
          ∙ type_if m (bytes_eq (spelling_at old w) (codes "union")) (union w) (structure w) (union (m w)) (structure (m w)) refl refl)

      element_moved : (t : CType) → (if is_unknown (moved_type m t) then unknown else (if is_array t then inner_of (moved_type m t) else arithmetic))
          ≡ moved_type m (if is_unknown t then unknown else (if is_array t then inner_of t else arithmetic))
      element_moved t =
          ap (λ b. if b then unknown else (if is_array t then inner_of (moved_type m t) else arithmetic)) (unknown_same m t)
          ∙ type_if m (is_unknown t) unknown (if is_array t then inner_of t else arithmetic) unknown (if is_array t then inner_of (moved_type m t) else arithmetic) refl
          (type_if m (is_array t) (inner_of t) arithmetic (inner_of (moved_type m t)) arithmetic refl refl)

      found_moved : (p : Production) (l : Label) → (asks_word p ≡ true → token ≡ m fr.token) → found_in new p l gr g ≡ moved_type m (found_in old p l fr f)
      found_moved ExtTail l w = refl
      found_moved CastRest l w = refl
      found_moved SizeLit l w = refl
      found_moved Post l w = type_if m (l.alternative == 2) (called fr.found) fr.found (called gr.found) gr.found (called_moved m fr.found) refl
      found_moved InitItem l w =
          type_if m (l.alternative == 1) fr.given (next_place fr.given fr.position f) gr.given (next_place gr.given gr.position g) refl
          (next_moved m old new law lo there f g k fr.given fr.position)
      found_moved Designator l w = element_moved fr.found
      found_moved SuRest l w = word_moved (w refl)
      found_moved EnRest l w = ap (λ (x : ℕ). enumeration x) (w refl)
      found_moved Primary l w = type_if m (l.alternative == 4) (array arithmetic) arithmetic (array arithmetic) arithmetic refl refl
      found_moved _ l w = refl

      -- ---- What is known

      from_first : (i : ℕ) → IsAhead m lo there i → nat_lt (m i) there ≡ nat_lt i lo
      from_first i (inl a) = le-ltb (m i) there a.1 ∙ sym (le-ltb i lo a.0)
      from_first i (inr a) = lt-ltb (m i) there (omega (arith, a.1)) ∙ sym (lt-ltb i lo (omega (arith, a.0)))

      in_body : (i : ℕ) → IsAhead m lo there i → (not (nat_lt (m i) there) && nat_lt (m i) (last_token over 0)) ≡ (not (nat_lt i lo) && nat_lt i (last_token under 0))
      in_body i a =
          ap (λ b. not b && nat_lt (m i) (last_token over 0)) (from_first i a) ∙ ap (λ b. not (nat_lt i lo) && b) (before_last i a)

      facts_move : (p : Production) → stands_in p fr.scope.depth ≡ true → (is_body p ≡ true → kept ≡ option_map m fr.kept)
          → GoTogether m old new lo there (facts_in p lo under fr f) (facts_in p there over gr g)
      facts_move FunBody e list =
          let one : fr.scope.depth + 1 ≡ 1 = omega (arith, eqb-true fr.scope.depth 0 e) in
          subst (λ (d : ℕ). GoTogether m old new lo there (with_kept fr.kept d lo (last_token under 0) (record f { jumps = [] }))
          (with_kept kept d there (last_token over 0) (record g { jumps = [] }))) (sym one)
          (kept_moves m old new law lo there (record f { jumps = [] }) (record g { jumps = [] }) fr.kept kept lo (last_token under 0) there (last_token over 0)
          (record { asked = k.asked; told = k.told; begun = k.begun; complete = k.complete; jumps = refl; fault = k.fault; noted = k.noted }) (list refl) in_body last_zero)
      facts_move _ e list = k

      -- ---- The node

      abbrev made : Frame → ℕ → ℕ → Option Body → Bool → Bool → Bool → ℕ → CType → CType → Position → Frame
      made x depth end body listing alone lists owner given found position = record x {
        scope = record { depth = depth; to = end };
        body = body;
        listing = listing;
        alone = alone;
        has_body = lists;
        owner = owner;
        given = given;
        found = found;
        position = position;
      }

      frame_moved : (l : Label) → stands_in l.production fr.scope.depth ≡ true → (asks_word l.production ≡ true → token ≡ m fr.token)
          → frame_in new l over gr g ≡ moved_frame m token ((scope_in l.production l over gr.scope).to) kept (frame_in old l under fr f)
      frame_moved l e w =
          let p : Production = l.production in
          let a : Scope = scope_in p l under fr.scope in
          let b : Scope = scope_in p l over gr.scope in
          let body : Option Body = option_map (moved_body m) (body_in p under fr.body) in
          let lists : Bool = has_node Members over || has_node Enumerators over in
          let x : Frame = record gr { label = l; nth = 0 } in
          ap (λ (d : ℕ). made x d b.to (body_in p over gr.body) (listing_in p gr) (alone_in p over gr) lists (owner_in p gr) (given_in p gr) (found_in new p l gr g) (position_in p l gr))
          ((scopes_move p l e).depth)
          ∙ (ap (λ (z : Option Body). made x a.depth b.to z (listing_in p gr) (alone_in p over gr) lists (owner_in p gr) (given_in p gr) (found_in new p l gr g) (position_in p l gr))
          (body_moved p)
          ∙ (ap (λ z. made x a.depth b.to body z (alone_in p over gr) lists (owner_in p gr) (given_in p gr) (found_in new p l gr g) (position_in p l gr)) (listing_same p)
          ∙ (ap (λ z. made x a.depth b.to body (listing_in p fr) z lists (owner_in p gr) (given_in p gr) (found_in new p l gr g) (position_in p l gr)) (alone_same p)
          ∙ (ap (λ z. made x a.depth b.to body (listing_in p fr) (alone_in p under fr) z (owner_in p gr) (given_in p gr) (found_in new p l gr g) (position_in p l gr)) lists_same
          ∙ (ap (λ (z : ℕ). made x a.depth b.to body (listing_in p fr) (alone_in p under fr) (has_node Members under || has_node Enumerators under) z (given_in p gr) (found_in new p l gr g) (position_in p l gr))
          (owner_moved p)
          ∙ (ap (λ z. made x a.depth b.to body (listing_in p fr) (alone_in p under fr) (has_node Members under || has_node Enumerators under) (m (owner_in p fr)) z (found_in new p l gr g) (position_in p l gr))
          (given_moved p)
          ∙ (ap (λ z. made x a.depth b.to body (listing_in p fr) (alone_in p under fr) (has_node Members under || has_node Enumerators under) (m (owner_in p fr)) (moved_type m (given_in p fr)) z (position_in p l gr))
          (found_moved p l w)
          ∙ ap (λ z. made x a.depth b.to body (listing_in p fr) (alone_in p under fr) (has_node Members under || has_node Enumerators under) (m (owner_in p fr)) (moved_type m (given_in p fr)) (moved_type m (found_in old p l fr f)) z)
          (position_same p l))))))))

      pub entered_moves : (l : Label) → stands_in l.production fr.scope.depth ≡ true → (asks_word l.production ≡ true → token ≡ m fr.token)
          → (is_body l.production ≡ true → kept ≡ option_map m fr.kept) → (keeps ≡ true → kept ≡ option_map m fr.kept)
          → StatesGo m old new false keeps lo there (entered old l lo under (state f fr)) (entered new l there over (state g gr))
      entered_moves l e w body list = record {
        facts = facts_move l.production e body;
        frame = record {
          same = frame_moved l e w;
          token = λ x. absurd (false≢true x);
          kept = list;
          ends = (scopes_move l.production l e).goes.ends;
          outer = (scopes_move l.production l e).goes.outer;
        };
      }
