-- Enumerations, members, places in brace lists and labels go along with the tokens.
use Rattle.std.proofs.Common.{ℕ, ◌+◌, ◌≡◌, Bool, true, false, ◌&&◌, ◌||◌, not, if◌then◌else◌, ◌==◌, List, [], ◌∷◌, map, reverse, slice_get, Option, None, Some, is_some, refl, sym, ap, ◌∙◌}
use Rattle.std.specs.Prelude.{codes, filter}
use Rattle.std.specs.Option.{option_map, option_map_or}
use Rattle.std.specs.Str.{bytes_eq}
use Rattle.cs_base.specs.Token.{Token}
use Rattle.c99_tree.specs.Tree.{Forest}
use Rattle.c99_tree.specs.declared.production.Label.{Label}
use Rattle.c99_tree.specs.declared.production.Production.{Production}
use Rattle.c99_tree.specs.declared.production.Production.TheVariants.{InitItem, InitList, Designator}
use Rattle.c_types.specs.declared.declarations.Space.TheVariants.{Ordinary, Tags, Members, Inner, Unnamed, Labels}
use Rattle.c_types.specs.declared.frames.Position.{Position}
use Rattle.c_types.specs.declared.frames.Position.TheVariants.{Numbered as numbered, Lost as lost, Beyond as beyond}
use Rattle.c_types.specs.Types.{CType, arithmetic, unknown, structure, union, is_unknown, is_record, is_array, is_arithmetic, inner_of}
use Rattle.c_types.specs.Tags.{number_in, is_sort, is_complete, enumeration_used, new_record, with_tag, with_enumeration}
use Rattle.c_types.specs.Trees.{is_node, is_text}
use Rattle.c_types.specs.Declarations.{Facts, is_in, with_fault, with_use, with_declaration, anywhere, visible, spelling_at}
use Rattle.name_chains.specs.Initializers.{member_place, is_union_base, place_at, next_member, is_lost, next_place, element_of, is_part, is_elision, behind as after_place, position_after, is_inner, number_before, designated_facts, designated_type, position_of, designated_position}
use Rattle.name_chains.specs.Members.{member_declaration, is_known, members_of, is_found_in, lifted, found_of, unnamed_declaration, with_silent, with_lifted, with_anonymous, member_at, member_used_as, member_used, member_type}
use Rattle.name_chains.specs.Places.{is_place_in, is_member_of}
use Rattle.scope_bind.specs.Labels.{label_declaration, with_label, jump_to, with_jumps, with_labels}
use Rattle.scope_bind.specs.Named.{Space, Declaration, Body, Frame, undeclared, no_member, no_label, redeclared, tag_redefined, designator_after_elision, tags, members, labels}
use Rattle.scope_bind.specs.Moved.{moved_space, moved_type, moved_body}
use Rattle.scope_bind.proofs.MovedSpaces.{same_number, same_tags, same_members, same_labels, number_moved}
use Rattle.scope_bind.proofs.MovedTypes.{type_if, record_same, arithmetic_same, unknown_same, union_same, sort_same}
use Rattle.scope_bind.specs.Carried.{carried, carried_facts, carried_frame, AreCarried}
use Rattle.scope_bind.proofs.CarriedFacts.{filter_along, reversed_along, got_along, facts_if, is_there, fault_when, fault_along, in_along, visible_along, anywhere_along, word_along}
use Rattle.scope_bind.proofs.CarriedNames.{Next, tag_along, type_found}

module _ (m : ℕ → ℕ) (h : ℕ) (a b : List Token) (law : AreCarried m h a b) where
  abbrev C : Declaration → Declaration
  C d = carried m d

  abbrev F : Facts → Facts
  F f = carried_facts m f

  abbrev Fr : Frame → Frame
  Fr f = carried_frame m f

  abbrev T : CType → CType
  T t = moved_type m t

  -- ---- Enumerations

  complete_along : (facts : Facts) (d : Declaration) → is_complete (F facts) (C d) ≡ is_complete facts d
  complete_along facts d = ap (is_in (F facts).complete) (number_moved m a b law.texts d.ctype) ∙ in_along m h a b law facts.complete (number_in d.ctype)

  enumeration_as : (f : Frame) (i : ℕ) (r : Option Declaration) (facts : Facts) → enumeration_used (Fr f) (m i) (option_map C r) (F facts) ≡ F (enumeration_used f i r facts)
  enumeration_as f i None facts = fault_along m h a b law true undeclared i facts
  enumeration_as f i (Some d) facts =
      ap (with_use (m i) (m d.entity))
      (fault_when m h a b law _ (not (is_complete facts d)) undeclared i (with_fault (not (is_sort d.ctype f.found)) tag_redefined i facts) _ (ap not (complete_along facts d))
      (fault_when m h a b law _ (not (is_sort d.ctype f.found)) tag_redefined i facts _ (ap not (sort_same m d.ctype f.found)) refl))

  pub enumeration_along : (f : Frame) (i : ℕ) (facts : Facts) → Next m h a b law i → with_enumeration b (Fr f) (m i) (F facts) ≡ F (with_enumeration a f i facts)
  enumeration_along f i facts behind =
      facts_if m h a b law f.has_body (with_tag a f i facts) (with_tag b (Fr f) (m i) (F facts)) (enumeration_used f i (visible a tags i i facts) facts)
      (enumeration_used (Fr f) (m i) (visible b tags (m i) (m i) (F facts)) (F facts)) (tag_along m h a b law f i facts behind)
      (ap (λ r. enumeration_used (Fr f) (m i) r (F facts)) (visible_along m h a b law tags tags (same_tags m a b law.texts) i i facts)
      ∙ enumeration_as f i (visible a tags i i facts) facts)

  pub new_record_along : (w : ℕ) → new_record b (m w) ≡ T (new_record a w)
  new_record_along w =
      ap (λ c. if c then union (m w) else structure (m w)) (word_along m h a b law w (codes "union"))
      ∙ type_if m (bytes_eq (spelling_at a w) (codes "union")) (union w) (structure w) (union (m w)) (structure (m w)) refl refl

  -- ---- Members

  member_there : (n i : ℕ) (facts : Facts) → anywhere b (members (m n)) (m i) (F facts) ≡ option_map C (anywhere a (members n) i facts)
  member_there n i facts = anywhere_along m h a b law (members n) (members (m n)) (same_members m a b law.texts n) i facts

  pub known_along : (t : CType) (facts : Facts) → is_known (T t) (F facts) ≡ is_known t facts
  known_along t facts =
      ap (λ c. c && is_in (F facts).complete (number_in (T t))) (record_same m t)
      ∙ ap (λ c. is_record t && c) (ap (is_in (F facts).complete) (number_moved m a b law.texts t) ∙ in_along m h a b law facts.complete (number_in t))

  place_same : (n : ℕ) (s : Space) → is_place_in (m n) (moved_space m s) ≡ is_place_in n s
  place_same n Ordinary = refl
  place_same n Tags = refl
  place_same n (Members k) = same_number m a b law.texts k n
  place_same n (Inner k) = refl
  place_same n (Unnamed k) = same_number m a b law.texts k n
  place_same n (Labels k) = refl

  members_along : (n : ℕ) (facts : Facts) → members_of (m n) (F facts) ≡ map C (members_of n facts)
  members_along n facts =
      ap reverse (filter_along C (is_member_of (m n)) (is_member_of n) (λ d. place_same n d.space) facts.declared)
      ∙ reversed_along C (filter (is_member_of n) facts.declared)

  found_along : (n : ℕ) (facts : Facts) → found_of (m n) (F facts) ≡ map C (found_of n facts)
  found_along n facts =
      ap reverse (filter_along C (is_found_in (m n)) (is_found_in n) (λ d. same_members m a b law.texts n d.space) facts.declared)
      ∙ reversed_along C (filter (is_found_in n) facts.declared)

  member_declaration_along : (f : Frame) (i last : ℕ) (t : CType) → Next m h a b law last → member_declaration (Fr f) (m i) (m last) (T t) ≡ C (member_declaration f i last t)
  member_declaration_along f i last t behind = ap (λ (k : ℕ). record (C (member_declaration f i last t)) { from = k }) (sym behind)

  twice_along : (n i : ℕ) (facts : Facts) → is_some (anywhere b (members (m n)) (m i) (F facts)) ≡ is_some (anywhere a (members n) i facts)
  twice_along n i facts = ap is_some (member_there n i facts) ∙ is_there m h a b law (anywhere a (members n) i facts)

  pub member_along : (f : Frame) (i last : ℕ) (t : CType) (facts : Facts) → Next m h a b law last
      → with_declaration (member_declaration (Fr f) (m i) (m last) (T t)) (with_fault (is_some (anywhere b (members (m f.owner)) (m i) (F facts))) redeclared (m i) (F facts))
      ≡ F (with_declaration (member_declaration f i last t) (with_fault (is_some (anywhere a (members f.owner) i facts)) redeclared i facts))
  member_along f i last t facts behind =
      ap (λ d. with_declaration d (with_fault (is_some (anywhere b (members (m f.owner)) (m i) (F facts))) redeclared (m i) (F facts))) (member_declaration_along f i last t behind)
      ∙ ap (with_declaration (C (member_declaration f i last t)))
      (fault_when m h a b law _ (is_some (anywhere a (members f.owner) i facts)) redeclared i facts _ (twice_along f.owner i facts) refl)

  lifted_along : (owner : ℕ) (ds : List Declaration) (facts : Facts) → with_lifted b (m owner) (map C ds) (F facts) ≡ F (with_lifted a owner ds facts)
  lifted_along owner [] facts = refl
  lifted_along owner (d ∷ later) facts =
      ap (λ g. with_lifted b (m owner) (map C later) (with_silent (lifted (m owner) (C d)) g))
      (fault_when m h a b law _ (is_some (anywhere a (members owner) d.name_at facts)) redeclared d.name_at facts _ (twice_along owner d.name_at facts) refl)
      ∙ lifted_along owner later (with_silent (lifted owner d) (with_fault (is_some (anywhere a (members owner) d.name_at facts)) redeclared d.name_at facts))

  unnamed_along : (f : Frame) (i : ℕ) → Next m h a b law i → unnamed_declaration (Fr f) (m i) ≡ C (unnamed_declaration f i)
  unnamed_along f i behind = ap (λ (k : ℕ). record (C (unnamed_declaration f i)) { from = k }) (sym behind)

  pub anonymous_along : (f : Frame) (i : ℕ) (facts : Facts) → Next m h a b law i → with_anonymous b (Fr f) (m i) (F facts) ≡ F (with_anonymous a f i facts)
  anonymous_along f i facts behind =
      facts_if m h a b law f.words.anonymous (with_silent (unnamed_declaration f i) (with_lifted a f.owner (found_of (number_in f.base) facts) facts))
      (with_silent (unnamed_declaration (Fr f) (m i)) (with_lifted b (m f.owner) (found_of (number_in (T f.base)) (F facts)) (F facts))) facts (F facts)
      (ap (λ d. with_silent d (with_lifted b (m f.owner) (found_of (number_in (T f.base)) (F facts)) (F facts))) (unnamed_along f i behind)
      ∙ ap (with_silent (C (unnamed_declaration f i)))
      (ap (λ k. with_lifted b (m f.owner) (found_of k (F facts)) (F facts)) (number_moved m a b law.texts f.base)
      ∙ (ap (λ ds. with_lifted b (m f.owner) ds (F facts)) (found_along (number_in f.base) facts) ∙ lifted_along f.owner (found_of (number_in f.base) facts) facts))) refl

  some_if : (c : Bool) (r : Option Declaration) → (if c then option_map C r else None) ≡ option_map C (if c then r else None)
  some_if true r = refl
  some_if false r = refl

  pub member_at_along : (t : CType) (i : ℕ) (facts : Facts) → member_at b (T t) (m i) (F facts) ≡ option_map C (member_at a t i facts)
  member_at_along t i facts =
      ap (λ c. if c then anywhere b (members (number_in (T t))) (m i) (F facts) else None) (known_along t facts)
      ∙ (ap (λ r. if is_known t facts then r else None)
      (ap (λ k. anywhere b (members k) (m i) (F facts)) (number_moved m a b law.texts t) ∙ member_there (number_in t) i facts)
      ∙ some_if (is_known t facts) (anywhere a (members (number_in t)) i facts))

  used_as_along : (i : ℕ) (r : Option Declaration) (facts : Facts) → member_used_as b (m i) (option_map C r) (F facts) ≡ F (member_used_as a i r facts)
  used_as_along i None facts = fault_along m h a b law true no_member i facts
  used_as_along i (Some d) facts = refl

  pub member_used_along : (t : CType) (i : ℕ) (facts : Facts) → member_used b (T t) (m i) (F facts) ≡ F (member_used a t i facts)
  member_used_along t i facts =
      ap (λ r. member_used_as b (m i) r (F facts)) (member_at_along t i facts) ∙ used_as_along i (member_at a t i facts) facts

  pub member_type_along : (t : CType) (i : ℕ) (other : CType) (facts : Facts) → member_type b (T t) (m i) (T other) (F facts) ≡ T (member_type a t i other facts)
  member_type_along t i other facts =
      ap (λ r. option_map_or (λ d. d.ctype) r (T other)) (member_at_along t i facts) ∙ type_found m h a b law (member_at a t i facts) other

  -- ---- Places in brace lists

  member_place_along : (t : CType) (n : ℕ) (facts : Facts) → member_place (T t) n (F facts) ≡ T (member_place t n facts)
  member_place_along t n facts =
      ap (λ c. if c then option_map_or (λ d. d.ctype) (slice_get (members_of (number_in (T t)) (F facts)) n) arithmetic else arithmetic) (known_along t facts)
      ∙ type_if m (is_known t facts) (option_map_or (λ d. d.ctype) (slice_get (members_of (number_in t) facts) n) arithmetic) arithmetic
      (option_map_or (λ d. d.ctype) (slice_get (members_of (number_in (T t)) (F facts)) n) arithmetic) arithmetic
      (ap (λ k. option_map_or (λ d. d.ctype) (slice_get (members_of k (F facts)) n) arithmetic) (number_moved m a b law.texts t)
      ∙ (ap (λ ds. option_map_or (λ d. d.ctype) (slice_get ds n) arithmetic) (members_along (number_in t) facts)
      ∙ (ap (λ r. option_map_or (λ d. d.ctype) r arithmetic) (got_along C (members_of (number_in t) facts) n)
      ∙ type_found m h a b law (slice_get (members_of (number_in t) facts) n) arithmetic))) refl

  place_at_along : (t : CType) (n : ℕ) (facts : Facts) → place_at (T t) n (F facts) ≡ T (place_at t n facts)
  place_at_along t n facts =
      ap (λ c. if c && not (n == 0) then arithmetic else member_place (T t) n (F facts)) (union_same m t.base)
      ∙ type_if m (is_union_base t.base && not (n == 0)) arithmetic (member_place t n facts) arithmetic (member_place (T t) n (F facts)) refl (member_place_along t n facts)

  next_member_along : (t : CType) (at : Position) (facts : Facts) → next_member (T t) at (F facts) ≡ T (next_member t at facts)
  next_member_along t lost facts = refl
  next_member_along t (numbered n) facts = place_at_along t n facts
  next_member_along t beyond facts = refl

  pub next_place_along : (t : CType) (at : Position) (facts : Facts) → next_place (T t) at (F facts) ≡ T (next_place t at facts)
  next_place_along t at facts =
      ap (λ c. if c || is_lost at then unknown else (if is_array t then inner_of (T t) else next_member (T t) at (F facts))) (unknown_same m t)
      ∙ type_if m (is_unknown t || is_lost at) unknown (if is_array t then inner_of t else next_member t at facts) unknown
      (if is_array t then inner_of (T t) else next_member (T t) at (F facts)) refl
      (type_if m (is_array t) (inner_of t) (next_member t at facts) (inner_of (T t)) (next_member (T t) at (F facts)) refl (next_member_along t at facts))

  pub element_along : (t : CType) → element_of (T t) ≡ T (element_of t)
  element_along t =
      ap (λ c. if c then unknown else (if is_array t then inner_of (T t) else arithmetic)) (unknown_same m t)
      ∙ type_if m (is_unknown t) unknown (if is_array t then inner_of t else arithmetic) unknown (if is_array t then inner_of (T t) else arithmetic) refl
      (type_if m (is_array t) (inner_of t) arithmetic (inner_of (T t)) arithmetic refl refl)

  part_along : (p t : CType) (c : Bool) → is_part (T p) (T t) c ≡ is_part p t c
  part_along p t c =
      ap (λ x. x || (not (is_record (T t)) && (if is_array p then not (c && is_arithmetic (inner_of (T p))) else is_record (T p)))) (unknown_same m p)
      ∙ (ap (λ x. is_unknown p || (not x && (if is_array p then not (c && is_arithmetic (inner_of (T p))) else is_record (T p)))) (record_same m t)
      ∙ (ap (λ x. is_unknown p || (not (is_record t) && (if is_array p then not (c && x) else is_record (T p)))) (arithmetic_same m (inner_of p))
      ∙ ap (λ x. is_unknown p || (not (is_record t) && (if is_array p then not (c && is_arithmetic (inner_of p)) else x))) (record_same m p)))

  elision_along : (l : Label) (under : Forest) (child : Frame) → is_elision l under (Fr child) ≡ is_elision l under child
  elision_along l under child = ap (λ c. (l.alternative == 2) && c) (part_along child.given child.found (is_text under))

  pub position_along : (p : Production) (f : Frame) (l : Label) (under : Forest) (child : Frame) → position_after p (Fr f) l under (Fr child) ≡ position_after p f l under child
  position_along InitItem f l under child =
      ap (λ x. if is_node l Designator then (if f.nth == 0 then child.position else lost) else (if x then lost else after_place f.position)) (elision_along l under child)
  position_along InitList f l under child = refl
  position_along _ f l under child = refl

  -- ---- Designators

  inner_same : (s : Space) → is_inner (moved_space m s) ≡ is_inner s
  inner_same Ordinary = refl
  inner_same Tags = refl
  inner_same (Members k) = refl
  inner_same (Inner k) = refl
  inner_same (Unnamed k) = refl
  inner_same (Labels k) = refl

  before_along : (ds : List Declaration) (d : Declaration) → number_before (map C ds) (C d) ≡ number_before ds d
  before_along [] d = refl
  before_along (e ∷ later) d =
      ap (λ c. if c then 0 else number_before (map C later) (C d) + 1) (same_number m a b law.texts e.name_at d.name_at)
      ∙ ap (λ k. if e.name_at == d.name_at then 0 else k + 1) (before_along later d)

  pub designated_along : (t : CType) (i : ℕ) (facts : Facts) → designated_facts b (T t) (m i) (F facts) ≡ F (designated_facts a t i facts)
  designated_along t i facts =
      ap (λ c. if c then with_fault true designator_after_elision (m i) (F facts) else member_used b (T t) (m i) (F facts)) (unknown_same m t)
      ∙ facts_if m h a b law (is_unknown t) (with_fault true designator_after_elision i facts) (with_fault true designator_after_elision (m i) (F facts))
      (member_used a t i facts) (member_used b (T t) (m i) (F facts)) (fault_along m h a b law true designator_after_elision i facts) (member_used_along t i facts)

  pub designated_type_along : (t : CType) (i : ℕ) (facts : Facts) → designated_type b (T t) (m i) (F facts) ≡ T (designated_type a t i facts)
  designated_type_along t i facts =
      ap (λ c. if c then unknown else member_type b (T t) (m i) unknown (F facts)) (unknown_same m t)
      ∙ type_if m (is_unknown t) unknown (member_type a t i unknown facts) unknown (member_type b (T t) (m i) unknown (F facts)) refl (member_type_along t i unknown facts)

  position_of_along : (t : CType) (facts : Facts) (r : Option Declaration) (at : Position) → position_of b (T t) (F facts) (option_map C r) at ≡ position_of a t facts r at
  position_of_along t facts None at = refl
  position_of_along t facts (Some d) at =
      ap (λ c. if c then lost else numbered (number_before (members_of (number_in (T t)) (F facts)) (C d))) (inner_same d.space)
      ∙ ap (λ k. if is_inner d.space then lost else numbered k)
      (ap (λ n. number_before (members_of n (F facts)) (C d)) (number_moved m a b law.texts t)
      ∙ (ap (λ ds. number_before ds (C d)) (members_along (number_in t) facts) ∙ before_along (members_of (number_in t) facts) d))

  pub designated_position_along : (t : CType) (i : ℕ) (facts : Facts) (at : Position) → designated_position b (T t) (m i) (F facts) at ≡ designated_position a t i facts at
  designated_position_along t i facts at =
      ap (λ r. position_of b (T t) (F facts) r at) (member_at_along t i facts) ∙ position_of_along t facts (member_at a t i facts) at

  -- ---- Labels

  label_there : (n i : ℕ) (facts : Facts) → anywhere b (labels (m n)) (m i) (F facts) ≡ option_map C (anywhere a (labels n) i facts)
  label_there n i facts = anywhere_along m h a b law (labels n) (labels (m n)) (same_labels m a b law.texts n) i facts

  pub label_along : (o : Option Body) (i : ℕ) (facts : Facts) → with_label b (option_map (moved_body m) o) (m i) (F facts) ≡ F (with_label a o i facts)
  label_along None i facts = refl
  label_along (Some x) i facts =
      ap (with_declaration (C (label_declaration x i)))
      (fault_when m h a b law _ (is_some (anywhere a (labels x.from) i facts)) redeclared i facts _
      (ap is_some (label_there x.from i facts) ∙ is_there m h a b law (anywhere a (labels x.from) i facts)) refl)

  jump_to_along : (i : ℕ) (r : Option Declaration) (facts : Facts) → jump_to b (m i) (option_map C r) (F facts) ≡ F (jump_to a i r facts)
  jump_to_along i None facts = fault_along m h a b law true no_label i facts
  jump_to_along i (Some d) facts = refl

  jumps_along : (x : Body) (js : List ℕ) (facts : Facts) → with_jumps b (moved_body m x) (map m js) (F facts) ≡ F (with_jumps a x js facts)
  jumps_along x [] facts = refl
  jumps_along x (i ∷ later) facts =
      ap (λ r. with_jumps b (moved_body m x) (map m later) (jump_to b (m i) r (F facts))) (label_there x.from i facts)
      ∙ (ap (with_jumps b (moved_body m x) (map m later)) (jump_to_along i (anywhere a (labels x.from) i facts) facts)
      ∙ jumps_along x later (jump_to a i (anywhere a (labels x.from) i facts) facts))

  pub labels_along : (o : Option Body) (facts : Facts) → with_labels b (option_map (moved_body m) o) (F facts) ≡ F (with_labels a o facts)
  labels_along None facts = refl
  labels_along (Some x) facts = jumps_along x facts.jumps facts
