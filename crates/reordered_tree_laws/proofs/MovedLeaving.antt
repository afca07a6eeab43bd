-- A node is left in two texts that go together.
use Rattle.std.proofs.Common.{ℕ, ◌+◌, ◌≡◌, Bool, true, false, ◌&&◌, ◌||◌, not, if◌then◌else◌, ◌==◌, List, Option, None, Some, refl, sym, ap, subst, ◌∙◌, arith}
use Rattle.std.specs.Prelude.{is_some}
use Rattle.std.specs.Option.{option_map}
use Rattle.cs_base.specs.Token.{Token}
use Rattle.c99_tree.specs.Tree.{Forest}
use Rattle.c99_tree.specs.declared.production.Label.{Label}
use Rattle.c99_tree.specs.declared.production.Production.{Production}
use Rattle.c99_tree.specs.declared.production.Production.TheVariants.{ExtRest, FunBody, InitDecl, Specs, Members, MemRest, Mdecl, Enumerators, Enumerator, Declarator, Param, Pdecl, InitList, InitItem, Designator}
use Rattle.c_types.specs.declared.entity.EntityKind.TheVariants.{Enumerator as Constant}
use Rattle.c_types.specs.declared.entity.Linkage.TheVariants.{Absent}
use Rattle.c_types.specs.declared.frames.Position.{Position}
use Rattle.c_types.specs.declared.frames.Position.TheVariants.{Lost}
use Rattle.c_types.specs.declared.frames.Words.{Words}
use Rattle.c_types.specs.Types.{CType, arithmetic, is_record, is_array, is_arithmetic, is_unknown, inner_of}
use Rattle.c_types.specs.Tags.{number_in}
use Rattle.c_types.specs.Trees.{is_node, words_of, name_below, last_token, declarator_type, first_list, is_text}
use Rattle.c_types.specs.Declarations.{Facts, anywhere, with_fault, with_declaration, with_complete}
use Rattle.name_chains.specs.Frames.{State, state}
use Rattle.name_chains.specs.Members.{member_declaration, with_member, with_anonymous}
use Rattle.name_chains.specs.Initializers.{is_part, behind, after_designator, position_after}
use Rattle.scope_bind.specs.Named.{Body, Frame, redeclared, members}
use Rattle.scope_bind.specs.Ordinary.{declared, new_object, with_object, new_parameter, with_parameter}
use Rattle.scope_bind.specs.Expressions.{found_after}
use Rattle.scope_bind.specs.Walk.{declared_in, parameter_in, facts_after, kept_after, frame_after, left}
use Rattle.reordered_tree_laws.specs.Seen.{are_parts}
use Rattle.scope_bind.specs.Moved.{moved_type, moved_body, moved_frame, AreMovedTexts}
use Rattle.reordered_tree_laws.specs.Moving.{GoTogether, FramesGo, StatesGo}
use Rattle.scope_bind.proofs.MovedSpaces.{number_moved}
use Rattle.reordered_tree_laws.proofs.MovedFacts.{complete_moves}
use Rattle.scope_bind.proofs.MovedTypes.{type_if, declarator_moved, record_same, arithmetic_same, unknown_same, asks_front, is_type_name, after_moved}
use Rattle.reordered_tree_laws.proofs.MovedNames.{ScopeGoes, declared_moves, parameter_moves, object_moves}
use Rattle.reordered_tree_laws.proofs.MovedMembers.{member_moves, anonymous_moves, labels_move}
use Rattle.reordered_tree_laws.proofs.MovedTrees.{AreSeenMoved}

-- the node declares what its tokens are asked for: the name of a declarator, an enumerator, or a member without a name
abbrev pub DeclaresAt : (ℕ → ℕ) → ℕ → ℕ → Production → Label → Forest → Forest → ℕ → ℕ → Type 0
DeclaresAt m lo there Enumerator l under over hi beyond = (m lo ≡ there) × (last_token under lo + 1 ≡ hi) × (last_token over there + 1 ≡ beyond)
DeclaresAt m lo there MemRest l under over hi beyond = (l.alternative == 1) ≡ true → m lo ≡ there
DeclaresAt m lo there Declarator l under over hi beyond = (i : ℕ) → name_below l under ≡ Some i → (last_token under i + 1 ≡ hi) × (m (last_token under i) + 1 ≡ beyond)
DeclaresAt m lo there Pdecl l under over hi beyond = (i : ℕ) → name_below l under ≡ Some i → (last_token under i + 1 ≡ hi) × (m (last_token under i) + 1 ≡ beyond)
DeclaresAt m lo there _ l under over hi beyond = Unit {0}

abbrev pub is_declarator : Production → Bool
is_declarator Declarator = true
is_declarator Pdecl = true
is_declarator _ = false

-- `lo` and `there` are where the node begins, and `hi` and `beyond` where it ends
module _ (m : ℕ → ℕ) (old new : List Token) (law : AreMovedTexts m old new) (lo there hi beyond : ℕ) (outer : Bool) (under over : Forest)
    (seen : AreSeenMoved m outer under over) (fr : Frame) (token to : ℕ) (kept : Option ℕ) (sc : ScopeGoes m hi beyond fr.scope to)
    (f g : Facts) (k : GoTogether m old new hi beyond f g) where
  abbrev gr : Frame
  gr = moved_frame m token to kept fr

  abbrev Next : Facts → Facts → Type 0
  Next x y = GoTogether m old new hi beyond x y

  abbrev Reaches : Option ℕ → Type 0
  Reaches name = (i : ℕ) → name ≡ Some i → (last_token under i + 1 ≡ hi) × (m (last_token under i) + 1 ≡ beyond)

  -- ---- What is declared

  typed_here : are_parts under ≡ true → declarator_type gr.base over ≡ moved_type m (declarator_type fr.base under)
  typed_here parts = seen.typed parts (moved_type m fr.base) ∙ declarator_moved m fr.base under

  object_goes : are_parts under ≡ true → (name : Option ℕ) → Reaches name → Next (with_object old fr under name f) (with_object new gr over (option_map m name) g)
  object_goes parts None reaches = k
  object_goes parts (Some i) reaches =
      let r = reaches i refl in
      let t : CType = declarator_type fr.base under in
      let last : ℕ = last_token under i in
      subst (λ (j : ℕ). Next (with_object old fr under (Some i) f) (declared new gr.scope (new_object new gr (m i) j (declarator_type gr.base over) g) g))
      (sym (seen.last i (m i) refl))
      (subst (λ (x : CType). Next (with_object old fr under (Some i) f) (declared new gr.scope (new_object new gr (m i) (m last) x g) g)) (sym (typed_here parts))
      (object_moves m old new law hi beyond last r.0 r.1 f g k fr token to kept sc i t))

  parameter_goes : are_parts under ≡ true → (name : Option ℕ) → Reaches name → Next (with_parameter old fr under name f) (with_parameter new gr over (option_map m name) g)
  parameter_goes parts None reaches = k
  parameter_goes parts (Some i) reaches =
      let r = reaches i refl in
      let t : CType = declarator_type fr.base under in
      let last : ℕ = last_token under i in
      subst (λ (j : ℕ). Next (with_parameter old fr under (Some i) f) (declared new gr.scope (new_parameter new gr (m i) j (declarator_type gr.base over)) g))
      (sym (seen.last i (m i) refl))
      (subst (λ (x : CType). Next (with_parameter old fr under (Some i) f) (declared new gr.scope (new_parameter new gr (m i) (m last) x) g)) (sym (typed_here parts))
      (parameter_moves m old new law hi beyond last r.0 r.1 f g k fr token to kept sc i t))

  member_goes : are_parts under ≡ true → (name : Option ℕ) → Next (with_member old fr under name f) (with_member new gr over (option_map m name) g)
  member_goes parts None = k
  member_goes parts (Some i) =
      let t : CType = declarator_type fr.base under in
      let last : ℕ = last_token under i in
      let g1 : Facts = with_fault (is_some (anywhere new (members (m fr.owner)) (m i) g)) redeclared (m i) g in
      subst (λ (x : CType). Next (with_member old fr under (Some i) f) (with_declaration (member_declaration gr (m i) (last_token over (m i)) x) g1)) (sym (typed_here parts))
      (member_moves m old new law hi beyond f g k fr token to kept i last (last_token over (m i)) t)

  declared_goes : (p : Production) (l : Label) → are_parts under ≡ true → Reaches (name_below l under) → Next (declared_in old p fr l under f) (declared_in new p gr l over g)
  declared_goes ExtRest l parts r =
      subst (λ (x : Option ℕ). Next (with_object old fr under (name_below l under) f) (with_object new gr over x g)) (sym (seen.named l))
      (object_goes parts (name_below l under) r)
  declared_goes InitDecl l parts r =
      subst (λ (x : Option ℕ). Next (with_object old fr under (name_below l under) f) (with_object new gr over x g)) (sym (seen.named l))
      (object_goes parts (name_below l under) r)
  declared_goes Mdecl l parts r =
      subst (λ (x : Option ℕ). Next (with_member old fr under (name_below l under) f) (with_member new gr over x g)) (sym (seen.named l))
      (member_goes parts (name_below l under))
  declared_goes _ l parts r = k

  parameters_go : (p : Production) (l : Label) → are_parts under ≡ true → Reaches (name_below l under) → Next (parameter_in old p fr l under f) (parameter_in new p gr l over g)
  parameters_go Param l parts r =
      subst (λ (x : Option ℕ). Next (with_parameter old fr under (name_below l under) f) (with_parameter new gr over x g)) (sym (seen.named l))
      (parameter_goes parts (name_below l under) r)
  parameters_go _ l parts r = k

  enumerator_goes : (m lo ≡ there) × (last_token under lo + 1 ≡ hi) × (last_token over there + 1 ≡ beyond)
      → Next (facts_after old Enumerator lo fr (record { production = Enumerator; alternative = 1 }) under None f)
      (facts_after new Enumerator there gr (record { production = Enumerator; alternative = 1 }) over None g)
  enumerator_goes d =
      let last : ℕ = last_token under lo in
      let same : last_token over there ≡ m last = seen.last lo there (sym d.0) in
      let here : Next (facts_after old Enumerator lo fr (record { production = Enumerator; alternative = 1 }) under None f)
      (declared new gr.scope (record { name_at = m lo; last = m last; kind = Constant; ctype = arithmetic; linkage = Absent; listing = false; listed = false }) g) =
      declared_moves m old new law hi beyond last d.1 (omega (arith, d.2, same)) f g k fr.scope to sc lo Constant arithmetic Absent false false in
      subst (λ (x : ℕ). Next (facts_after old Enumerator lo fr (record { production = Enumerator; alternative = 1 }) under None f)
      (declared new gr.scope (record { name_at = x; last = last_token over there; kind = Constant; ctype = arithmetic; linkage = Absent; listing = false; listed = false }) g)) d.0
      (subst (λ (x : ℕ). Next (facts_after old Enumerator lo fr (record { production = Enumerator; alternative = 1 }) under None f)
      (declared new gr.scope (record { name_at = m lo; last = x; kind = Constant; ctype = arithmetic; linkage = Absent; listing = false; listed = false }) g)) (sym same) here)

  anonymous_goes : (c : Bool) → (c ≡ true → m lo ≡ there) → Next (if c then with_anonymous old fr lo f else f) (if c then with_anonymous new gr there g else g)
  anonymous_goes false e = k
  anonymous_goes true e =
      subst (λ (x : ℕ). Next (with_anonymous old fr lo f) (with_anonymous new gr x g)) (e refl)
      (anonymous_moves m old new law hi beyond fr token to kept lo f g k fr.words.anonymous)

  complete_goes : Next (with_complete (number_in fr.found) f) (with_complete (number_in gr.found) g)
  complete_goes =
      subst (λ (n : ℕ). Next (with_complete (number_in fr.found) f) (with_complete n g)) (sym (number_moved m old new law fr.found))
      (complete_moves m old new law hi beyond f g k (number_in fr.found))

  facts_go : (p : Production) (l : Label) (body : Option Body) → (is_declarator p ≡ true → are_parts under ≡ true)
      → DeclaresAt m lo there p l under over hi beyond
      → Next (facts_after old p lo fr l under body f) (facts_after new p there gr l over (option_map (moved_body m) body) g)
  facts_go Declarator l body parts d = declared_goes fr.label.production l (parts refl) d
  facts_go Pdecl l body parts d = parameters_go fr.label.production l (parts refl) d
  facts_go Enumerator l body parts d = enumerator_goes d
  facts_go MemRest l body parts d = anonymous_goes (l.alternative == 1) d
  facts_go Members l body parts d = complete_goes
  facts_go Enumerators l body parts d = complete_goes
  facts_go FunBody l body parts d = labels_move m old new law hi beyond body f g k
  facts_go _ l body parts d = k

  -- ---- The frame around

  module _ (child : Frame) (token' to' : ℕ) (kept' : Option ℕ) where
    abbrev heir : Frame
    heir = moved_frame m token' to' kept' child

    part_same : (text text' : Bool) → text' ≡ text → is_part heir.given heir.found text' ≡ is_part child.given child.found text
    part_same text text' e =
        ap (λ b. b || (not (is_record heir.found) && (if is_array child.given then not (text' && is_arithmetic (inner_of heir.given)) else is_record heir.given)))
        (unknown_same m child.given)
        ∙ ap (λ b. is_unknown child.given || b)
        (ap (λ b. not b && (if is_array child.given then not (text' && is_arithmetic (inner_of heir.given)) else is_record heir.given)) (record_same m child.found)
        ∙ (ap (λ b. not (is_record child.found) && (if is_array child.given then not (b && is_arithmetic (inner_of heir.given)) else is_record heir.given)) e
        ∙ (ap (λ b. not (is_record child.found) && (if is_array child.given then not (text && b) else is_record heir.given)) (arithmetic_same m (inner_of child.given))
        ∙ ap (λ b. not (is_record child.found) && (if is_array child.given then not (text && is_arithmetic (inner_of child.given)) else b)) (record_same m child.given))))

    position_same : (p : Production) (l : Label) → position_after p gr l over heir ≡ position_after p fr l under child
    position_same InitItem l =
        ap (λ b. if is_node l Designator then after_designator fr child else (if (l.alternative == 2) && b then Lost else behind fr.position))
        (part_same (is_text under) (is_text over) seen.text)
    position_same InitList l = refl
    position_same _ l = refl

    abbrev made : Frame → CType → Words → CType → Position → Frame
    made x base words found position = record x { nth = fr.nth + 1; base = base; words = words; found = found; position = position }

    frame_goes : (l : Label) → (asks_front fr.label.production fr.label.alternative fr.nth ≡ true → token ≡ m fr.token)
        → (is_node l Declarator ≡ true → (t : CType) → declarator_type t over ≡ declarator_type t under)
        → (is_type_name fr.label.production ≡ true → not (is_node l Specs) ≡ true → (t : CType) → declarator_type t over ≡ declarator_type t under)
        → frame_after new gr l over heir ≡ moved_frame m token to (kept_after new gr l over) (frame_after old fr l under child)
    frame_goes l fronts typed names =
        let x : Frame = record gr { kept = kept_after new gr l over } in
        let p : Production = fr.label.production in
        let words : Words = if is_node l Specs then words_of under else fr.words in
        let base : CType = moved_type m (if is_node l Specs then child.found else fr.base) in
        ap (λ (z : CType). made x z (if is_node l Specs then words_of over else fr.words) (found_after new p gr l over heir) (position_after p gr l over heir))
        (type_if m (is_node l Specs) child.found fr.base heir.found gr.base refl refl)
        ∙ (ap (λ (z : Words). made x base (if is_node l Specs then z else fr.words) (found_after new p gr l over heir) (position_after p gr l over heir)) seen.words
        ∙ (ap (λ (z : CType). made x base words z (position_after p gr l over heir))
        (after_moved m old new law token to kept fr l under over child heir refl p fronts typed names)
        ∙ ap (λ (z : Position). made x base words (moved_type m (found_after old p fr l under child)) z) (position_same p l)))

    kept_goes : (l : Label) (keeps any : Bool) → (keeps ≡ true → kept ≡ option_map m fr.kept)
        → (any ≡ true → (if is_node l Declarator then outer else keeps) ≡ true)
        → any ≡ true → kept_after new gr l over ≡ option_map m (kept_after old fr l under)
    kept_goes l keeps any list w e = by (is_node l Declarator) (w e)
      where
        by : (c : Bool) → (if c then outer else keeps) ≡ true → (if c then first_list over else gr.kept) ≡ option_map m (if c then first_list under else fr.kept)
        by true h = seen.lists h
        by false h = list h

pub left_moves : (m : ℕ → ℕ) (old new : List Token) (law : AreMovedTexts m old new) (lo there hi beyond : ℕ) (outer : Bool) (under over : Forest)
    (seen : AreSeenMoved m outer under over) (own keeps any : Bool) (l : Label) (s t s' t' : State)
    → FramesGo m old new own keeps hi beyond s.frame t.frame → StatesGo m old new false false hi beyond s' t'
    → (is_declarator l.production ≡ true → are_parts under ≡ true) → DeclaresAt m lo there l.production l under over hi beyond
    → (asks_front s.frame.label.production s.frame.label.alternative s.frame.nth ≡ true → own ≡ true)
    → (is_node l Declarator ≡ true → are_parts under ≡ true)
    → (is_type_name s.frame.label.production ≡ true → not (is_node l Specs) ≡ true → are_parts under ≡ true)
    → (any ≡ true → (if is_node l Declarator then outer else keeps) ≡ true)
    → StatesGo m old new own any hi beyond (left old l lo under s s') (left new l there over t t')
left_moves m old new law lo there hi beyond outer under over seen own keeps any l s t s' t' fs k parts d fronts typed names w =
    let sc : ScopeGoes m hi beyond s.frame.scope t.frame.scope.to = record { ends = fs.ends; outer = fs.outer } in
    let token : ℕ = t.frame.token in
    let to : ℕ = t.frame.scope.to in
    let kept : Option ℕ = t.frame.kept in
    let token' : ℕ = t'.frame.token in
    let to' : ℕ = t'.frame.scope.to in
    let kept' : Option ℕ = t'.frame.kept in
    let gr : Frame = moved_frame m token to kept s.frame in
    let heir : Frame = moved_frame m token' to' kept' s'.frame in
    let result : StatesGo m old new own any hi beyond (left old l lo under s s') (left new l there over (state t.facts gr) (state t'.facts heir)) = record {
      facts = facts_go m old new law lo there hi beyond outer under over seen s.frame token to kept sc s'.facts t'.facts k.facts l.production l s'.frame.body parts d;
      frame = record {
        same = frame_goes m old new law lo there hi beyond outer under over seen s.frame token to kept sc s'.facts t'.facts k.facts s'.frame token' to' kept' l
            (λ e. fs.token (fronts e)) (λ e. seen.typed (typed e)) (λ e x. seen.typed (names e x));
        token = fs.token;
        kept = kept_goes m old new law lo there hi beyond outer under over seen s.frame token to kept sc s'.facts t'.facts k.facts s'.frame token' to' kept' l keeps any
            fs.kept w;
        ends = fs.ends;
        outer = fs.outer;
      };
    } in
    subst (λ (x : Frame). StatesGo m old new own any hi beyond (left old l lo under s s') (left new l there over (state t.facts x) t')) (sym fs.same)
    (subst (λ (x : Frame). StatesGo m old new own any hi beyond (left old l lo under s s') (left new l there over (state t.facts gr) (state t'.facts x))) (sym k.frame.same) result)
