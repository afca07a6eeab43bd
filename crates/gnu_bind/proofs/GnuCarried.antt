-- What is known behind a part of a text of GNU C goes along with its tokens.
use Rattle.std.proofs.Common.{ℕ, ◌+◌, ◌<◌, ◌≡◌, Bool, true, false, ◌&&◌, ◌||◌, not, if◌then◌else◌, ◌==◌, List, length, Option, None, Some, is_some, refl, sym, ap, ◌∙◌}
use Rattle.std.specs.Option.{option_map, option_map_or, option_or}
use Rattle.cs_base.specs.Token.{Token}
use Rattle.cs_base.specs.Reserved.{is_built_in, is_function_word}
use Rattle.c99_tree.specs.Tree.{Forest, none, token, node}
use Rattle.c99_tree.specs.declared.production.Label.{Label}
use Rattle.c99_tree.specs.declared.production.Production.{Production}
use Rattle.c99_tree.specs.declared.production.Production.TheVariants.{External, Declaration as DeclarationNode, Cond, Unary, Primary, Post, Args, TypeName, Main, Init, Block, BlockItem, Statement, AutoDecl, AttrItem, Operand, MemberPath, Declarator}
use Rattle.c_types.specs.Types.{CType, arithmetic, array, nothing, unknown, pointer, adjusted, target_of, chosen, is_unknown, is_record, is_nothing, is_pointing, points_to_something, tells_members}
use Rattle.c_types.specs.Tags.{number_in}
use Rattle.c_types.specs.Trees.{is_node, is_at, is_list, first_token, last_token}
use Rattle.c_types.specs.declared.frames.Position.{Position}
use Rattle.c_types.specs.Declarations.{Facts, is_in, is_live, is_space, with_fault, with_use, with_begun, with_complete, with_declaration, in_scope, visible, linked, spelling_at}
use Rattle.scope_bind.specs.Below.name_chains.Entering.{found_in}
use Rattle.scope_bind.specs.Below.name_chains.Frames.{State, state, at_first}
use Rattle.scope_bind.specs.Below.name_chains.Members.{with_silent, member_used, member_type}
use Rattle.scope_bind.specs.Expressions.{of_conditional, of_main, of_postfix, of_unary, found_after}
use Rattle.scope_bind.specs.Labels.{with_label, with_jump}
use Rattle.scope_bind.specs.Named.{Space, Declaration, Frame, Scope, no_label, redeclared, ordinary, labels}
use Rattle.scope_bind.specs.Ordinary.{is_func, declared, named_facts, named_type}
use Rattle.gnu_bind.specs.declared.roles.GnuRole.{GnuRole}
use Rattle.gnu_bind.specs.declared.roles.GnuRole.TheVariants.{Standard as standard, Name as name, BlockLabel as block_label, Label as label, Jump as jump, Address as address, Path as path, Brace as brace}
use Rattle.gnu_bind.specs.declared.senses.Sense.{Sense}
use Rattle.gnu_bind.specs.declared.senses.Special.{Special}
use Rattle.gnu_bind.specs.declared.senses.Special.TheVariants.{Usual as usual, Open as open_, Word as word, Fetch as fetch, Choice as choice, Value as value}
use Rattle.gnu_bind.specs.Alone.{stands_alone}
use Rattle.gnu_bind.specs.BlockLabels.{block_labels, block_label as declared_label, block_label_used, function_jump, with_block_label, block_label_at, function_label, labelled_by, labelled, jumped_by, jumped}
use Rattle.gnu_bind.specs.Names.{names_function, is_unseen, is_word, implied_entity, implied_function, implied_by, is_implied, implied, denoting, denoted_type, name_read, name_type, path_read, path_type}
use Rattle.gnu_bind.specs.OpenLists.{open_list, open_after}
use Rattle.gnu_bind.specs.Roles.{role_in}
use Rattle.gnu_bind.specs.Senses.{third_or, second_or, name_behind, attribute_name, callee_in, is_fetch_by, is_value, is_fetching, is_choosing, is_outside, away, special_in, is_homeless, sense_in, usual_sense}
use Rattle.gnu_bind.specs.Types.{is_extended, type_after}
use Rattle.gnu_bind.specs.Walk.{has_braces, value_type, auto_name, auto_declared, type_in, frame_begun, begun, facts_by, type_by, place_by, read_as, read, with_auto, facts_ended, frame_ended, ended, walked}
use Rattle.gnu_bind.specs.Words.{is_word_attribute, is_fetch, is_path_sign, begins_call, is_extension}
use Rattle.scope_bind.specs.Moved.{moved_type, moved_space}
use Rattle.scope_bind.proofs.MovedSpaces.{same_ordinary, same_labels, number_moved}
use Rattle.scope_bind.proofs.MovedTypes.{type_if, adjusted_moved, target_moved, record_same, nothing_same, unknown_same, after_moved}
use Rattle.scope_bind.specs.Carried.{carried, carried_facts, carried_frame, carried_state, AreCarried, IsBelow, behind_front}
use Rattle.gnu_bind.specs.Fronts.{GnuFrontsBindAlike}
use Rattle.scope_bind.proofs.CarriedFacts.{facts_if, is_there, fault_when, fault_along, in_along, begun_along, complete_along, jump_along, looked_along, visible_along, linked_along, live_along}
use Rattle.scope_bind.proofs.CarriedNames.{carried_scope, carried_name, body_there, func_along, declared_along, named_along, named_type_along}
use Rattle.scope_bind.proofs.CarriedMembers.{member_used_along, member_type_along, label_along}
use Rattle.scope_bind.proofs.CarriedNodes.{LowIndex, low_if, or_low, last_below, first_below, stays, goes_next, index_stays, found_along as standard_found, frame_along, alone_along, facts_along as entering_along, after_along, frame_left, kept_if}
use Rattle.scope_bind.proofs.CarriedWalk.{facts_along, found_along, position_along, fronts_carried, begins_there}

-- ---- Tokens that senses ask for

module _ (h : ℕ) (some : 1 < h) where
  third_low : (f : Forest) (k : ℕ) → IsBelow h f → k + 1 < h → third_or f k + 1 < h
  third_low none k low e = e
  third_low (token n rest) k low e = low.0
  third_low (node l first under rest) k low e = e

  second_low : (f : Forest) (k : ℕ) → IsBelow h f → k + 1 < h → second_or f k + 1 < h
  second_low none k low e = e
  second_low (token n rest) k low e = third_low rest k low.1 e
  second_low (node l first under rest) k low e = e

  behind_low : (f : Forest) (k : ℕ) → IsBelow h f → k + 1 < h → name_behind f k + 1 < h
  behind_low none k low e = e
  behind_low (token n rest) k low e = second_low rest k low.1 e
  behind_low (node l first under rest) k low e = e

  attribute_low : (f : Forest) → IsBelow h f → attribute_name f + 1 < h
  attribute_low none low = some
  attribute_low (token n rest) low = some
  attribute_low (node l first under rest) low = behind_low rest (first_token under 0) low.2 (first_below h some under 0 low.1 some)

  auto_low : (f : Forest) → IsBelow h f → auto_name f + 1 < h
  auto_low none low = some
  auto_low (token i rest) low = first_below h some rest 0 low.1 some
  auto_low (node l first under rest) low = some

  open_low : (f : Forest) → IsBelow h f → LowIndex h some (open_list f)
  open_low none low = tt
  open_low (token i rest) low = open_low rest low.1
  open_low (node l first under rest) low =
      low_if h some (is_list l) (Some (last_token under 0)) (option_or (if is_node l Block then None else open_list under) (open_list rest))
      (last_below h some under 0 low.1 some)
      (or_low h some (if is_node l Block then None else open_list under) (open_list rest)
      (low_if h some (is_node l Block) None (open_list under) tt (open_low under low.1)) (open_low rest low.2))

module _ (m : ℕ → ℕ) (h : ℕ) (a b : List Token) (law : AreCarried m h a b) (some : 1 < h) where
  abbrev C : Declaration → Declaration
  C d = carried m d

  abbrev F : Facts → Facts
  F f = carried_facts m f

  abbrev Fr : Frame → Frame
  Fr f = carried_frame m f

  abbrev T : CType → CType
  T t = moved_type m t

  spelled_here : (i : ℕ) → i + 1 < h → spelling_at b i ≡ spelling_at a i
  spelled_here i e = ap (spelling_at b) (sym (stays m h a b law some i e)) ∙ law.texts.spelled i

  -- ---- Senses

  fetch_if : (c : Bool) (i : ℕ) → i + 1 < h → is_fetch_by b (if c then Some i else None) ≡ is_fetch_by a (if c then Some i else None)
  fetch_if true i e = ap is_fetch (spelled_here i e)
  fetch_if false i e = refl

  fetch_same : (under : Forest) → IsBelow h under → is_fetch_by b (callee_in under) ≡ is_fetch_by a (callee_in under)
  fetch_same none low = refl
  fetch_same (token i rest) low = refl
  fetch_same (node l first under none) low = refl
  fetch_same (node l first under (token i rest)) low = refl
  fetch_same (node l first none (node n second below rest)) low = refl
  fetch_same (node l first (token i none) (node n second below rest)) low = fetch_if (is_at l Primary 1 && is_at n Post 2) i low.1.0
  fetch_same (node l first (token i (token j more)) (node n second below rest)) low = refl
  fetch_same (node l first (token i (node k third lower more)) (node n second below rest)) low = refl
  fetch_same (node l first (node k third lower more) (node n second below rest)) low = refl

  special_same : (p : Production) (under : Forest) (f : Frame) (s : Special) → IsBelow h under → special_in b p under (Fr f) s ≡ special_in a p under f s
  special_same AttrItem under f s low =
      ap (λ x. if is_word_attribute x then word else open_) (spelled_here (attribute_name under) (attribute_low h some under low))
  special_same Args under f s low = refl
  special_same Primary under f s low = refl
  special_same Unary under f s low = ap (λ c. if c then fetch else usual) (fetch_same under low)
  special_same Post under f s low = refl
  special_same Cond under f s low = refl
  special_same Block under f s low = refl
  special_same BlockItem under f s low = refl
  special_same Statement under f s low = refl
  special_same _ under f s low = refl

  outside_same : (f : Frame) → is_outside (Fr f) ≡ is_outside f
  outside_same f = ap (λ c. f.listing || not c) (body_there m h a b law f.body)

  homeless_same : (p : Production) (f : Frame) → is_homeless b p (Fr f) ≡ is_homeless a p f
  homeless_same Block f = ap (λ c. is_node f.label Primary && c) (outside_same f)
  homeless_same _ f = refl

  sense_same : (p : Production) (under : Forest) (f : Frame) (s : Sense) → IsBelow h under → sense_in b p under (Fr f) s ≡ sense_in a p under f s
  sense_same p under f s low =
      ap (λ (x : Special). record (sense_in b p under (Fr f) s) { special = x }) (special_same p under f s.special low)
      ∙ ap (λ (x : Bool). record (sense_in a p under f s) { homeless = s.homeless || x }) (homeless_same p f)

  away_same : (s : Sense) (f : Frame) → away s (Fr f) ≡ away s f
  away_same s f = ap (λ (x : Bool). record s { homeless = s.homeless || x }) (outside_same f)

  -- ---- A node is entered

  alone_same : (p : Production) (under : Forest) (f : Frame) → stands_alone p under (Fr f) ≡ stands_alone p under f
  alone_same External under f = refl
  alone_same DeclarationNode under f = refl
  alone_same p under f = alone_along m h a b law some p under f

  value_same : (s : Special) → value_type s ≡ T (value_type s)
  value_same value = refl
  value_same usual = refl
  value_same open_ = refl
  value_same word = refl
  value_same fetch = refl
  value_same choice = refl

  type_in_along : (p : Production) (l : Label) (s : Special) (f : Frame) (facts : Facts) → type_in b p l s (Fr f) (F facts) ≡ T (type_in a p l s f facts)
  type_in_along Primary l s f facts =
      type_if m (l.alternative == 6) unknown (found_in a Primary l f facts) unknown (found_in b Primary l (Fr f) (F facts)) refl
      (standard_found m h a b law some Primary l f facts)
  type_in_along Unary l s f facts = type_if m (l.alternative == 4) (pointer nothing) arithmetic (pointer nothing) arithmetic refl refl
  type_in_along MemberPath l s f facts = refl
  type_in_along AutoDecl l s f facts = refl
  type_in_along Block l s f facts = value_same s
  type_in_along BlockItem l s f facts = value_same s
  type_in_along Statement l s f facts = value_same s
  type_in_along p l s f facts = standard_found m h a b law some p l f facts

  frame_begun_along : (l : Label) (under : Forest) (s : Special) (f : Frame) (facts : Facts) → IsBelow h under
      → frame_begun b l under s (Fr f) (F facts) ≡ Fr (frame_begun a l under s f facts)
  frame_begun_along l under s f facts low =
      ap (λ (x : Frame). record x { alone = stands_alone l.production under (Fr f); has_body = x.has_body || has_braces l under; found = type_in b l.production l s (Fr f) (F facts) })
      (frame_along m h a b law some l under f facts low)
      ∙ (ap (λ (x : Bool). record (Fr (frame_begun a l under s f facts)) { alone = x; found = type_in b l.production l s (Fr f) (F facts) }) (alone_same l.production under f)
      ∙ ap (λ (x : CType). record (Fr (frame_begun a l under s f facts)) { found = x }) (type_in_along l.production l s f facts))

  begun_goes : (l : Label) (first : ℕ) (under : Forest) (s : Sense) (t : State) → first + 1 < h → IsBelow h under
      → begun b l first under s (carried_state m t) ≡ carried_state m (begun a l first under s t)
  begun_goes l first under s t here low =
      ap (λ x. state x (frame_begun b l under s.special (Fr t.frame) (F t.facts))) (entering_along m h a b law some l.production first under t.frame t.facts here low)
      ∙ ap (state (F (begun a l first under s t).facts)) (frame_begun_along l under s.special t.frame t.facts low)

  -- ---- A token is read

  function_same : (f : Frame) (i : ℕ) → names_function b (Fr f) (m i) ≡ names_function a f i
  function_same f i =
      ap (λ c. (c && not f.listing) && is_function_word (spelling_at b (m i))) (body_there m h a b law f.body)
      ∙ ap (λ x. (option_map_or (λ b. true) f.body false && not f.listing) && is_function_word x) (law.texts.spelled i)

  unseen_same : (i : ℕ) (facts : Facts) → is_unseen b (m i) (F facts) ≡ is_unseen a i facts
  unseen_same i facts =
      ap (λ r. not (is_some r)) (visible_along m h a b law ordinary ordinary (same_ordinary m a b law.texts) i i facts)
      ∙ ap not (is_there m h a b law (visible a ordinary i i facts))

  built_same : (i : ℕ) (facts : Facts) → (is_built_in (spelling_at b (m i)) && is_unseen b (m i) (F facts)) ≡ (is_built_in (spelling_at a i) && is_unseen a i facts)
  built_same i facts =
      ap (λ x. is_built_in x && is_unseen b (m i) (F facts)) (law.texts.spelled i) ∙ ap (λ c. is_built_in (spelling_at a i) && c) (unseen_same i facts)

  word_same : (s : Special) (i : ℕ) (facts : Facts) → is_word b s (m i) (F facts) ≡ is_word a s i facts
  word_same word i facts = refl
  word_same open_ i facts = unseen_same i facts
  word_same usual i facts = built_same i facts
  word_same fetch i facts = built_same i facts
  word_same choice i facts = built_same i facts
  word_same value i facts = built_same i facts

  implied_same : (f : Frame) (i : ℕ) (facts : Facts) → m (i + 1) ≡ m i + 1 → is_implied b (Fr f) (m i) (F facts) ≡ is_implied a f i facts
  implied_same f i facts behind =
      ap (λ (k : ℕ). begins_call (spelling_at b k) && (is_unseen b (m i) (F facts) && not (is_func b (Fr f) (m i)))) (sym behind)
      ∙ (ap (λ x. begins_call x && (is_unseen b (m i) (F facts) && not (is_func b (Fr f) (m i)))) (law.texts.spelled (i + 1))
      ∙ (ap (λ c. begins_call (spelling_at a (i + 1)) && (c && not (is_func b (Fr f) (m i)))) (unseen_same i facts)
      ∙ ap (λ c. begins_call (spelling_at a (i + 1)) && (is_unseen a i facts && not c)) (func_along m h a b law f i)))

  implied_entity_along : (i : ℕ) (r : Option Declaration) → implied_entity (m i) (option_map C r) ≡ m (implied_entity i r)
  implied_entity_along i None = refl
  implied_entity_along i (Some d) = refl

  implied_along : (s : Scope) (i : ℕ) (facts : Facts) → m (i + 1) ≡ m i + 1 → implied b (carried_scope m s) (m i) (F facts) ≡ F (implied a s i facts)
  implied_along s i facts behind =
      let e : ℕ = implied_entity i (linked a i facts) in
      ap (λ r. implied_by (carried_scope m s) (m i) (implied_entity (m i) r) (F facts)) (linked_along m h a b law i facts)
      ∙ (ap (λ (k : ℕ). implied_by (carried_scope m s) (m i) k (F facts)) (implied_entity_along i (linked a i facts))
      ∙ ap (λ (k : ℕ). with_silent (record (C (implied_function s i e)) { from = k }) (with_use (m i) (m e) (F facts))) (sym behind))

  denoting_along : (f : Frame) (i : ℕ) (facts : Facts) → m (i + 1) ≡ m i + 1 → denoting b (Fr f) (m i) (F facts) ≡ F (denoting a f i facts)
  denoting_along f i facts behind =
      ap (λ c. if c then implied b (carried_scope m f.scope) (m i) (F facts) else named_facts b (Fr f) (m i) (F facts)) (implied_same f i facts behind)
      ∙ facts_if m h a b law (is_implied a f i facts) (implied a f.scope i facts) (implied b (carried_scope m f.scope) (m i) (F facts)) (named_facts a f i facts)
      (named_facts b (Fr f) (m i) (F facts)) (implied_along f.scope i facts behind) (named_along m h a b law f i facts)

  denoted_type_goes : (f : Frame) (i : ℕ) (facts : Facts) → m (i + 1) ≡ m i + 1 → denoted_type b (Fr f) (m i) (F facts) ≡ T (denoted_type a f i facts)
  denoted_type_goes f i facts behind =
      ap (λ c. if c then arithmetic else named_type b (Fr f) (m i) (F facts)) (implied_same f i facts behind)
      ∙ type_if m (is_implied a f i facts) arithmetic (named_type a f i facts) arithmetic (named_type b (Fr f) (m i) (F facts)) refl
      (named_type_along m h a b law f i facts)

  name_along : (s : Special) (f : Frame) (i : ℕ) (facts : Facts) → m (i + 1) ≡ m i + 1 → name_read b s (Fr f) (m i) (F facts) ≡ F (name_read a s f i facts)
  name_along s f i facts behind =
      ap (λ c. if c || is_word b s (m i) (F facts) then F facts else denoting b (Fr f) (m i) (F facts)) (function_same f i)
      ∙ (ap (λ c. if names_function a f i || c then F facts else denoting b (Fr f) (m i) (F facts)) (word_same s i facts)
      ∙ facts_if m h a b law (names_function a f i || is_word a s i facts) facts (F facts) (denoting a f i facts) (denoting b (Fr f) (m i) (F facts)) refl
      (denoting_along f i facts behind))

  name_type_goes : (s : Special) (f : Frame) (i : ℕ) (facts : Facts) → m (i + 1) ≡ m i + 1 → name_type b s (Fr f) (m i) (F facts) ≡ T (name_type a s f i facts)
  name_type_goes s f i facts behind =
      ap (λ c. if c then array arithmetic else (if is_word b s (m i) (F facts) then unknown else denoted_type b (Fr f) (m i) (F facts))) (function_same f i)
      ∙ (ap (λ c. if names_function a f i then array arithmetic else (if c then unknown else denoted_type b (Fr f) (m i) (F facts))) (word_same s i facts)
      ∙ type_if m (names_function a f i) (array arithmetic) (if is_word a s i facts then unknown else denoted_type a f i facts) (array arithmetic)
      (if is_word a s i facts then unknown else denoted_type b (Fr f) (m i) (F facts)) refl
      (type_if m (is_word a s i facts) unknown (denoted_type a f i facts) unknown (denoted_type b (Fr f) (m i) (F facts)) refl (denoted_type_goes f i facts behind)))

  path_along : (f : Frame) (i : ℕ) (facts : Facts) → path_read b (Fr f) (m i) (F facts) ≡ F (path_read a f i facts)
  path_along f i facts =
      ap (λ x. if is_path_sign x then F facts else member_used b (T f.found) (m i) (F facts)) (law.texts.spelled i)
      ∙ facts_if m h a b law (is_path_sign (spelling_at a i)) facts (F facts) (member_used a f.found i facts) (member_used b (T f.found) (m i) (F facts)) refl
      (member_used_along m h a b law f.found i facts)

  path_type_goes : (f : Frame) (i : ℕ) (facts : Facts) → path_type b (Fr f) (m i) (F facts) ≡ T (path_type a f i facts)
  path_type_goes f i facts =
      ap (λ x. if is_path_sign x then T f.found else member_type b (T f.found) (m i) arithmetic (F facts)) (law.texts.spelled i)
      ∙ type_if m (is_path_sign (spelling_at a i)) f.found (member_type a f.found i arithmetic facts) (T f.found) (member_type b (T f.found) (m i) arithmetic (F facts)) refl
      (member_type_along m h a b law f.found i arithmetic facts)

  -- ---- Labels of blocks

  zero_stays : m 0 ≡ 0
  zero_stays = law.texts.first

  block_space : (s : Space) → is_space (moved_space m s) block_labels ≡ is_space s block_labels
  block_space s = ap (λ (k : ℕ). is_space (moved_space m s) (labels k)) (sym zero_stays) ∙ same_labels m a b law.texts 0 s

  block_declaration_along : (s : Scope) (i : ℕ) → m (i + 1) ≡ m i + 1 → declared_label (carried_scope m s) (m i) ≡ C (declared_label s i)
  block_declaration_along s i behind =
      ap (λ (k : ℕ). record (C (declared_label s i)) { space = labels k; from = m i + 1 }) (sym zero_stays)
      ∙ ap (λ (k : ℕ). record (C (declared_label s i)) { from = k }) (sym behind)

  block_scope_along : (depth i : ℕ) (facts : Facts) → in_scope b block_labels depth (m i) (m i) (F facts) ≡ option_map C (in_scope a block_labels depth i i facts)
  block_scope_along depth i facts =
      looked_along m h a b law block_labels block_labels block_space i (λ d. is_live (m i) d && (d.depth == depth)) (λ d. is_live i d && (d.depth == depth))
      (λ d. ap (λ x. x && (d.depth == depth)) (live_along m h a b law i d)) facts

  block_label_along : (s : Scope) (i : ℕ) (facts : Facts) → m (i + 1) ≡ m i + 1
      → with_block_label b (carried_scope m s) (m i) (F facts) ≡ F (with_block_label a s i facts)
  block_label_along s i facts behind =
      ap (λ d. with_declaration d (with_fault (is_some (in_scope b block_labels s.depth (m i) (m i) (F facts))) redeclared (m i) (F facts))) (block_declaration_along s i behind)
      ∙ ap (with_declaration (C (declared_label s i)))
      (fault_when m h a b law _ (is_some (in_scope a block_labels s.depth i i facts)) redeclared i facts _
      (ap is_some (block_scope_along s.depth i facts) ∙ is_there m h a b law (in_scope a block_labels s.depth i i facts)) refl)

  label_if : (c : Bool) (r : Option Declaration) → (if c then option_map C r else None) ≡ option_map C (if c then r else None)
  label_if true r = refl
  label_if false r = refl

  label_at_along : (s : Sense) (i : ℕ) (facts : Facts) → block_label_at b s (m i) (F facts) ≡ option_map C (block_label_at a s i facts)
  label_at_along s i facts =
      ap (λ r. if s.labels then r else None) (visible_along m h a b law block_labels block_labels block_space i i facts)
      ∙ label_if s.labels (visible a block_labels i i facts)

  label_used_along : (i e : ℕ) (facts : Facts) → block_label_used (m i) (m e) (F facts) ≡ F (block_label_used i e facts)
  label_used_along i e facts =
      ap (λ g. with_begun true (m e) (with_use (m i) (m e) g))
      (fault_when m h a b law _ (is_in facts.begun e) redeclared i facts _ (in_along m h a b law facts.begun e) refl)
      ∙ begun_along m h a b law true e (with_use i e (with_fault (is_in facts.begun e) redeclared i facts))

  jump_goes : (s : Sense) (i : ℕ) (facts : Facts) → function_jump s (m i) (F facts) ≡ F (function_jump s i facts)
  jump_goes s i facts =
      facts_if m h a b law s.homeless (with_fault true no_label i facts) (with_fault true no_label (m i) (F facts)) (with_jump i facts) (with_jump (m i) (F facts))
      (fault_along m h a b law true no_label i facts) (jump_along m h a b law i facts)

  function_label_along : (s : Sense) (f : Frame) (i : ℕ) (facts : Facts) → function_label b s (Fr f) (m i) (F facts) ≡ F (function_label a s f i facts)
  function_label_along s f i facts =
      facts_if m h a b law s.homeless (with_fault true no_label i facts) (with_fault true no_label (m i) (F facts)) (with_label a f.body i facts)
      (with_label b (Fr f).body (m i) (F facts)) (fault_along m h a b law true no_label i facts) (label_along m h a b law f.body i facts)

  labelled_by_along : (r : Option Declaration) (s : Sense) (f : Frame) (i : ℕ) (facts : Facts)
      → labelled_by b (option_map C r) s (Fr f) (m i) (F facts) ≡ F (labelled_by a r s f i facts)
  labelled_by_along None s f i facts = function_label_along s f i facts
  labelled_by_along (Some d) s f i facts = label_used_along i d.entity facts

  labelled_along : (s : Sense) (f : Frame) (i : ℕ) (facts : Facts) → labelled b s (Fr f) (m i) (F facts) ≡ F (labelled a s f i facts)
  labelled_along s f i facts =
      ap (λ r. labelled_by b r s (Fr f) (m i) (F facts)) (label_at_along s i facts) ∙ labelled_by_along (block_label_at a s i facts) s f i facts

  jumped_by_along : (r : Option Declaration) (s : Sense) (i : ℕ) (facts : Facts) → jumped_by b (option_map C r) s (m i) (F facts) ≡ F (jumped_by a r s i facts)
  jumped_by_along None s i facts = jump_goes s i facts
  jumped_by_along (Some d) s i facts = refl

  jumped_along : (s : Sense) (i : ℕ) (facts : Facts) → jumped b s (m i) (F facts) ≡ F (jumped a s i facts)
  jumped_along s i facts = ap (λ r. jumped_by b r s (m i) (F facts)) (label_at_along s i facts) ∙ jumped_by_along (block_label_at a s i facts) s i facts

  -- ---- A token is read

  facts_by_along : (r : GnuRole) (s : Sense) (i : ℕ) (f : Frame) (facts : Facts) → i + 1 < h → facts_by b r s (m i) (Fr f) (F facts) ≡ F (facts_by a r s i f facts)
  facts_by_along (standard r) s i f facts here = facts_along m h a b law some i here f facts r
  facts_by_along name s i f facts here = name_along s.special f i facts (goes_next m h a b law some i here)
  facts_by_along block_label s i f facts here = block_label_along f.scope i facts (goes_next m h a b law some i here)
  facts_by_along label s i f facts here = labelled_along s f i facts
  facts_by_along jump s i f facts here = jumped_along s i facts
  facts_by_along address s i f facts here = ap (λ x. jumped b x (m i) (F facts)) (away_same s f) ∙ jumped_along (away s f) i facts
  facts_by_along path s i f facts here = path_along f i facts
  facts_by_along brace s i f facts here =
      ap (λ k. with_complete k (F facts)) (number_moved m a b law.texts f.found) ∙ complete_along m h a b law (number_in f.found) facts

  type_by_along : (r : GnuRole) (s : Sense) (i : ℕ) (f : Frame) (facts : Facts) → i + 1 < h → type_by b r s (m i) (Fr f) (F facts) ≡ T (type_by a r s i f facts)
  type_by_along (standard r) s i f facts here = found_along m h a b law some i here f facts r
  type_by_along name s i f facts here = name_type_goes s.special f i facts (goes_next m h a b law some i here)
  type_by_along path s i f facts here = path_type_goes f i facts
  type_by_along block_label s i f facts here = refl
  type_by_along label s i f facts here = refl
  type_by_along jump s i f facts here = refl
  type_by_along address s i f facts here = refl
  type_by_along brace s i f facts here = refl

  place_by_along : (r : GnuRole) (i : ℕ) (f : Frame) (facts : Facts) → i + 1 < h → place_by b r (m i) (Fr f) (F facts) ≡ place_by a r i f facts
  place_by_along (standard r) i f facts here = position_along m h a b law some i here f facts r
  place_by_along name i f facts here = refl
  place_by_along block_label i f facts here = refl
  place_by_along label i f facts here = refl
  place_by_along jump i f facts here = refl
  place_by_along address i f facts here = refl
  place_by_along path i f facts here = refl
  place_by_along brace i f facts here = refl

  read_as_along : (r : GnuRole) (s : Sense) (i : ℕ) (t : State) → i + 1 < h → read_as b r s (m i) (carried_state m t) ≡ carried_state m (read_as a r s i t)
  read_as_along r s i t here =
      let g : State = carried_state m (read_as a r s i t) in
      let u : State = read_as b r s (m i) (carried_state m t) in
      ap (λ (x : Facts). state x u.frame) (facts_by_along r s i t.frame t.facts here)
      ∙ (ap (λ (x : CType). state g.facts (record u.frame { found = x })) (type_by_along r s i t.frame t.facts here)
      ∙ ap (λ (x : Position). state g.facts (record g.frame { position = x })) (place_by_along r i t.frame t.facts here))

  read_along : (s : Sense) (i : ℕ) (t : State) → i + 1 < h → read b s i (carried_state m t) ≡ carried_state m (read a s i t)
  read_along s i t here =
      let r : GnuRole = role_in t.frame.label.production t.frame.label.alternative t.frame.nth in
      ap (λ k. read_as b r s k (carried_state m t)) (sym (stays m h a b law some i here)) ∙ read_as_along r s i t here

  -- ---- A node is left

  auto_declared_along : (f : Frame) (i last : ℕ) (t : CType) → auto_declared (Fr f) (m i) (m last) (T t) ≡ carried_name m (auto_declared f i last t)
  auto_declared_along f i last t = ap (λ (x : CType). record (carried_name m (auto_declared f i last t)) { ctype = x }) (adjusted_moved m t)

  auto_along : (f : Frame) (under : Forest) (t : CType) (facts : Facts) → IsBelow h under → with_auto b (Fr f) under (T t) (F facts) ≡ F (with_auto a f under t facts)
  auto_along f under t facts low =
      let i : ℕ = auto_name under in
      let last : ℕ = last_token under 0 in
      let here : i + 1 < h = auto_low h some under low in
      let behind : last + 1 < h = last_below h some under 0 low some in
      ap (λ (k : ℕ). declared b (carried_scope m f.scope) (auto_declared (Fr f) k last (T t)) (F facts)) (sym (stays m h a b law some i here))
      ∙ (ap (λ (k : ℕ). declared b (carried_scope m f.scope) (auto_declared (Fr f) (m i) k (T t)) (F facts)) (sym (stays m h a b law some last behind))
      ∙ (ap (λ n. declared b (carried_scope m f.scope) n (F facts)) (auto_declared_along f i last t)
      ∙ declared_along m h a b law f.scope (auto_declared f i last t) facts (goes_next m h a b law some last behind)))

  facts_ended_along : (p : Production) (first : ℕ) (f : Frame) (l : Label) (under : Forest) (child : Frame) (facts : Facts) → first + 1 < h → IsBelow h under
      → facts_ended b p first (Fr f) l under (Fr child) (F facts) ≡ F (facts_ended a p first f l under child facts)
  facts_ended_along AutoDecl first f l under child facts here low = auto_along f under child.found facts low
  facts_ended_along p first f l under child facts here low = after_along m h a b law some p first f l under child.body facts here low

  tells_same : (t : CType) → tells_members (T t) ≡ tells_members t
  tells_same t =
      ap (λ c. c || points_to_something (T t)) (record_same m t)
      ∙ ap (λ c. is_record t || (is_pointing t && not c)) (ap is_nothing (target_moved m t) ∙ nothing_same m (target_of t))

  chosen_goes : (s t : CType) → chosen (T s) (T t) ≡ T (chosen s t)
  chosen_goes s t =
      ap (λ c. if c || (is_unknown (T s) && not (tells_members (T t))) then T s else T t) (tells_same s)
      ∙ (ap (λ c. if tells_members s || (c && not (tells_members (T t))) then T s else T t) (unknown_same m s)
      ∙ (ap (λ c. if tells_members s || (is_unknown s && not c) then T s else T t) (tells_same t)
      ∙ type_if m (tells_members s || (is_unknown s && not (tells_members t))) s t (T s) (T t) refl refl))

  extended_same : (f : Frame) → is_extended b (Fr f) ≡ is_extended a f
  extended_same f = ap (λ x. (f.label.alternative == 1) && is_extension x) (law.texts.spelled f.token)

  module _ (f : Frame) (l : Label) (under : Forest) (child : Frame) where
    standard_after : (p : Production) → found_after b p (Fr f) l under (Fr child) ≡ T (found_after a p f l under child)
    standard_after p =
        after_moved m a b law.texts (m f.token) (m f.scope.to) (option_map m f.kept) f l under under child (Fr child) refl p (λ _. refl) (λ _ t. refl) (λ _ _ t. refl)

    either : (c : Bool) → (if c then T child.found else T f.found) ≡ T (if c then child.found else f.found)
    either c = type_if m c child.found f.found (T child.found) (T f.found) refl refl

    type_after_along : (p : Production) (s : Special) → type_after b p s (Fr f) l under (Fr child) ≡ T (type_after a p s f l under child)
    type_after_along Cond s =
        type_if m (is_choosing s) (if f.nth == 0 then child.found else (if f.nth == 3 then chosen f.found child.found else f.found)) (of_conditional f child)
        (if f.nth == 0 then T child.found else (if f.nth == 3 then chosen (T f.found) (T child.found) else T f.found)) (of_conditional (Fr f) (Fr child))
        (type_if m (f.nth == 0) child.found (if f.nth == 3 then chosen f.found child.found else f.found) (T child.found)
        (if f.nth == 3 then chosen (T f.found) (T child.found) else T f.found) refl
        (type_if m (f.nth == 3) (chosen f.found child.found) f.found (chosen (T f.found) (T child.found)) (T f.found) (chosen_goes f.found child.found) refl))
        (standard_after Cond)
    type_after_along Unary s =
        ap (λ c. if c then T child.found else of_unary b (Fr f) (Fr child)) (extended_same f)
        ∙ type_if m (is_extended a f) child.found (of_unary a f child) (T child.found) (of_unary b (Fr f) (Fr child)) refl (standard_after Unary)
    type_after_along Primary s =
        type_if m (is_node l Block) (adjusted child.found) (if (f.label.alternative == 6) || (f.label.alternative == 9) then f.found else (if is_node l MemberPath then arithmetic else child.found))
        (adjusted (T child.found)) (if (f.label.alternative == 6) || (f.label.alternative == 9) then T f.found else (if is_node l MemberPath then arithmetic else T child.found))
        (adjusted_moved m child.found)
        (type_if m ((f.label.alternative == 6) || (f.label.alternative == 9)) f.found (if is_node l MemberPath then arithmetic else child.found) (T f.found)
        (if is_node l MemberPath then arithmetic else T child.found) refl
        (type_if m (is_node l MemberPath) arithmetic child.found arithmetic (T child.found) refl refl))
    type_after_along Args s = either (is_fetching s && (f.nth == 0))
    type_after_along Post s =
        ap (λ c. if is_fetching s && (c && is_node l Args) then target_of (T child.found) else of_postfix (Fr f) (Fr child)) (unknown_same m f.given)
        ∙ type_if m (is_fetching s && (is_unknown f.given && is_node l Args)) (target_of child.found) (of_postfix f child) (target_of (T child.found))
        (of_postfix (Fr f) (Fr child)) (target_moved m child.found) (standard_after Post)
    type_after_along Main s =
        type_if m (is_node l Operand || is_node l TypeName) child.found (of_main f l child) (T child.found) (of_main (Fr f) l (Fr child)) refl (standard_after Main)
    type_after_along Operand s = refl
    type_after_along MemberPath s = target_moved m f.found
    type_after_along AutoDecl s = either (is_at l Init 2)
    type_after_along Block s = either (is_value s && is_node l BlockItem)
    type_after_along BlockItem s = either (is_value s && (is_node l Statement || is_node l BlockItem))
    type_after_along Statement s = either (is_value s && ((f.label.alternative == 15) || is_node l BlockItem))
    type_after_along p s = standard_after p

  frame_ended_along : (s : Special) (f : Frame) (l : Label) (under : Forest) (child : Frame) → IsBelow h under
      → frame_ended b s (Fr f) l under (Fr child) ≡ Fr (frame_ended a s f l under child)
  frame_ended_along s f l under child low =
      ap (λ (x : Frame). record x { kept = open_after (Fr f) l under; found = type_after b f.label.production s (Fr f) l under (Fr child) })
      (frame_left m h a b law some f l under child low)
      ∙ (ap (λ (x : Option ℕ). record (Fr (frame_ended a s f l under child)) { kept = x; found = type_after b f.label.production s (Fr f) l under (Fr child) })
      (kept_if m h a b law some (is_node l Declarator) (open_list under) f.kept (index_stays m h a b law some (open_list under) (open_low h some under low)))
      ∙ ap (λ (x : CType). record (Fr (frame_ended a s f l under child)) { found = x }) (type_after_along f l under child f.label.production s))

  ended_along : (s : Sense) (l : Label) (first : ℕ) (under : Forest) (t t' : State) → first + 1 < h → IsBelow h under
      → ended b s l first under (carried_state m t) (carried_state m t') ≡ carried_state m (ended a s l first under t t')
  ended_along s l first under t t' here low =
      ap (λ x. state x (frame_ended b s.special (Fr t.frame) l under (Fr t'.frame))) (facts_ended_along l.production first t.frame l under t'.frame t'.facts here low)
      ∙ ap (state (F (ended a s l first under t t').facts)) (frame_ended_along s.special t.frame l under t'.frame low)

  -- ---- The walk

  pub walked_along : (s : Sense) (f : Forest) (t : State) → IsBelow h f → walked b s f (carried_state m t) ≡ carried_state m (walked a s f t)
  unfolding walked
  walked_along s none t low = refl
  walked_along s (token i rest) t low = ap (walked b s rest) (read_along s i t low.0) ∙ walked_along s rest (read a s i t) low.1
  walked_along s (node l first under rest) t low =
      let below : Sense = sense_in a l.production under t.frame s in
      let before : State = begun a l first under below t in
      let inside : State = walked a below under before in
      ap (λ x. walked b s rest (ended b s l first under (carried_state m t) (walked b x under (begun b l first under x (carried_state m t)))))
      (sense_same l.production under t.frame s low.1)
      ∙ (ap (λ x. walked b s rest (ended b s l first under (carried_state m t) (walked b below under x))) (begun_goes l first under below t low.0 low.1)
      ∙ (ap (λ x. walked b s rest (ended b s l first under (carried_state m t) x)) (walked_along below under before low.1)
      ∙ (ap (walked b s rest) (ended_along s l first under t inside low.0 low.1)
      ∙ walked_along s rest (ended a s l first under t inside) low.2)))

pub gnu_fronts_bind_alike : GnuFrontsBindAlike
gnu_fronts_bind_alike a b f some fits alike low =
    ap (walked b usual_sense f) (sym (begins_there (length a) (length b) some fits))
    ∙ walked_along (behind_front (length a) (length b)) (length a) a b (fronts_carried a b some fits alike) some usual_sense f (at_first (length a)) low
