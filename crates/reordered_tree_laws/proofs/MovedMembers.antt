-- Members, labels and places in brace lists in two texts that go together.
use Rattle.std.proofs.Common.{ℕ, ◌+◌, ◌≡◌, Bool, true, false, ◌&&◌, ◌||◌, not, if◌then◌else◌, ◌==◌, List, [], ◌∷◌, map, Option, None, Some, refl, sym, ap, subst, ◌∙◌}
use Rattle.std.specs.Prelude.{filter, is_some, slice_get}
use Rattle.std.specs.Option.{option_map, option_map_or}
use Rattle.std.proofs.lemmas.Bool.{false≢true}
use Rattle.cs_base.specs.Token.{Token}
use Rattle.cs_base.proofs.BoolLemmas.{none_and as and_none}
use Rattle.c_types.specs.declared.declarations.Space.TheVariants.{Ordinary, Tags, Members, Inner, Unnamed, Labels}
use Rattle.c_types.specs.declared.frames.Position.{Position}
use Rattle.c_types.specs.declared.frames.Position.TheVariants.{Numbered, Lost, Beyond}
use Rattle.c_types.specs.Types.{CType, arithmetic, unknown, is_record, is_unknown, is_array, inner_of}
use Rattle.c_types.specs.Tags.{number_in}
use Rattle.c_types.specs.Declarations.{Facts, is_space, is_named, is_in, alike, with_fault, with_declaration, anywhere}
use Rattle.name_chains.specs.Places.{is_place_in, is_member_of}
use Rattle.name_chains.specs.Entering.{is_member}
use Rattle.name_chains.specs.Members.{member_declaration, is_known, members_of, is_found_in, lifted, found_of, unnamed_declaration, with_silent, with_lifted, member_at, member_used_as, member_used, member_type}
use Rattle.name_chains.specs.Initializers.{member_place, is_union_base, next_member, is_lost, next_place, is_inner, number_before, designated_type, position_of, designated_position}
use Rattle.scope_bind.specs.Named.{Space, Declaration, Body, Frame, no_member, no_label, redeclared, designator_after_elision, members, labels}
use Rattle.scope_bind.specs.Labels.{label_declaration, with_label, jump_to, with_jumps, with_labels}
use Rattle.reordered_tree_laws.specs.Ranges.{has_range}
use Rattle.scope_bind.specs.Moved.{moved_space, moved_type, moved_body, moved_frame, IsMoved, AreMovedTexts}
use Rattle.reordered_tree_laws.specs.Moving.{AreMoved, owned, labelled, is_owned, whole, GoTogether}
use Rattle.reordered_tree_laws.proofs.MovedLists.{AreFound, reverse_moved, at_moved}
use Rattle.scope_bind.proofs.MovedSpaces.{same_number, same_spelling, same_members, named_moved, number_moved}
use Rattle.reordered_tree_laws.proofs.MovedFacts.{IsTimed, asked_found, asked_filter, fault_moves, occurrence_moves, silent_moves, declaration_moves}
use Rattle.scope_bind.proofs.MovedTypes.{type_if, record_same, unknown_same, union_same}
use Rattle.reordered_tree_laws.proofs.MovedNames.{false_last}

and_self : (a : Bool) → a ≡ (a && a)
and_self true = refl
and_self false = refl

pub some_found : (m : ℕ → ℕ) (a b : Option Declaration) → AreFound m a b → is_some b ≡ is_some a
some_found m None None h = refl
some_found m (Some d) (Some e) h = refl
some_found m None (Some e) h = absurd h
some_found m (Some d) None h = absurd h

-- a member is no name with a range, and none of a parameter list
pub member_timed : (m : ℕ → ℕ) (lo there : ℕ) (d e : Declaration) → has_range d.space ≡ false → is_member d.space ≡ true → is_member e.space ≡ true
    → IsTimed m lo there d e
member_timed m lo there d e ranged own own' = record {
  lives = λ k w a. absurd (false≢true (sym ranged ∙ w));
  lists = λ l.
      ap (λ b. (e.to == m l) && ((e.depth == 1) && not b)) own'
      ∙ (false_last (e.to == m l) (e.depth == 1)
      ∙ (sym (false_last (d.to == l) (d.depth == 1)) ∙ ap (λ b. (d.to == l) && ((d.depth == 1) && not b)) (sym own)));
}

module _ (m : ℕ → ℕ) (old new : List Token) (law : AreMovedTexts m old new) (lo there : ℕ) where
  abbrev Next : Facts → Facts → Type 0
  Next f g = GoTogether m old new lo there f g

  -- ---- What belongs to a structure or union

  owned_space : (n : ℕ) (s : Space) → is_space s (members n) ≡ (is_owned n s && is_space s (members n))
  owned_space n Ordinary = refl
  owned_space n Tags = refl
  owned_space n (Members k) = and_self (k == n)
  owned_space n (Inner k) = and_self (k == n)
  owned_space n (Unnamed k) = and_none (k == n)
  owned_space n (Labels k) = refl

  owned_place : (n : ℕ) (s : Space) → is_place_in n s ≡ (is_owned n s && is_place_in n s)
  owned_place n Ordinary = refl
  owned_place n Tags = refl
  owned_place n (Members k) = and_self (k == n)
  owned_place n (Inner k) = and_none (k == n)
  owned_place n (Unnamed k) = and_self (k == n)
  owned_place n (Labels k) = refl

  same_place : (n : ℕ) (s : Space) → is_place_in (m n) (moved_space m s) ≡ is_place_in n s
  same_place n Ordinary = refl
  same_place n Tags = refl
  same_place n (Members k) = same_number m old new law k n
  same_place n (Inner k) = refl
  same_place n (Unnamed k) = same_number m old new law k n
  same_place n (Labels k) = refl

  pub same_inner : (s : Space) → is_inner (moved_space m s) ≡ is_inner s
  same_inner Ordinary = refl
  same_inner Tags = refl
  same_inner (Members k) = refl
  same_inner (Inner k) = refl
  same_inner (Unnamed k) = refl
  same_inner (Labels k) = refl

  three : (o s a : Bool) → (((o && s) && a) && true) ≡ (o && ((s && a) && true))
  three true s a = refl
  three false s a = refl

  two : (s a : Bool) → ((s && a) && true) ≡ (s && (a && true))
  two true a = refl
  two false a = refl

  module _ (f g : Facts) (k : Next f g) where
    pub member_found : (n i : ℕ) → AreFound m (anywhere old (members n) i f) (anywhere new (members (m n)) (m i) g)
    member_found n i =
        let c : Declaration → Bool = λ d. is_named old (members n) i d && true in
        let b : Declaration → Bool = λ e. is_named new (members (m n)) (m i) e && true in
        asked_found m old new law lo there f g k (whole (owned n)) tt c b
        (λ d e h. ap (λ x. x && true) (named_moved m old new law (members n) (members (m n)) i d e (same_members m old new law n d.space) h)) c b
        (λ d.
        ap (λ x. (x && alike old i d.name_at) && true) (owned_space n d.space)
        ∙ three (is_owned n d.space) (is_space d.space (members n)) (alike old i d.name_at))
        (λ d.
        ap (λ x. (x && alike new (m i) d.name_at) && true) (owned_space (m n) d.space)
        ∙ three (is_owned (m n) d.space) (is_space d.space (members (m n))) (alike new (m i) d.name_at))

    pub label_found : (n i : ℕ) → AreFound m (anywhere old (labels n) i f) (anywhere new (labels (m n)) (m i) g)
    label_found n i =
        asked_found m old new law lo there f g k (whole (labelled n)) tt (λ d. alike old i d.name_at && true) (λ e. alike new (m i) e.name_at && true)
        (λ d e h. ap (λ x. x && true) (ap (alike new (m i)) h.name_at ∙ same_spelling m old new law i d.name_at))
        (λ d. is_named old (labels n) i d && true) (λ e. is_named new (labels (m n)) (m i) e && true)
        (λ d. two (is_space d.space (labels n)) (alike old i d.name_at)) (λ d. two (is_space d.space (labels (m n))) (alike new (m i) d.name_at))

    pub all_found : (n : ℕ) → AreMoved m (found_of n f) (found_of (m n) g)
    all_found n =
        reverse_moved m (filter (is_found_in n) f.declared) (filter (is_found_in (m n)) g.declared)
        (asked_filter m old new law lo there f g k (whole (owned n)) tt (is_found_in n) (is_found_in (m n))
        (λ d e h. ap (λ s. is_space s (members (m n))) h.space ∙ same_members m old new law n d.space) (is_found_in n) (is_found_in (m n))
        (λ d. owned_space n d.space) (λ d. owned_space (m n) d.space))

    pub all_members : (n : ℕ) → AreMoved m (members_of n f) (members_of (m n) g)
    all_members n =
        reverse_moved m (filter (is_member_of n) f.declared) (filter (is_member_of (m n)) g.declared)
        (asked_filter m old new law lo there f g k (whole (owned n)) tt (is_member_of n) (is_member_of (m n))
        (λ d e h. ap (is_place_in (m n)) h.space ∙ same_place n d.space) (is_member_of n) (is_member_of (m n))
        (λ d. owned_place n d.space) (λ d. owned_place (m n) d.space))

    -- ---- What is declared once

    once_moves : (i : ℕ) (a b : Option Declaration) (d e : Declaration) → AreFound m a b → IsMoved m d e → IsTimed m lo there d e
        → Next (with_declaration d (with_fault (is_some a) redeclared i f)) (with_declaration e (with_fault (is_some b) redeclared (m i) g))
    once_moves i a b d e found h t =
        declaration_moves m old new law lo there (with_fault (is_some a) redeclared i f) (with_fault (is_some b) redeclared (m i) g) d e
        (fault_moves m old new law lo there f g k (is_some a) (is_some b) redeclared i (some_found m a b found)) h t

    pub member_moves : (fr : Frame) (token to : ℕ) (kept : Option ℕ) (i last far : ℕ) (t : CType)
        → Next (with_declaration (member_declaration fr i last t) (with_fault (is_some (anywhere old (members fr.owner) i f)) redeclared i f))
        (with_declaration (member_declaration (moved_frame m token to kept fr) (m i) far (moved_type m t))
        (with_fault (is_some (anywhere new (members (m fr.owner)) (m i) g)) redeclared (m i) g))
    member_moves fr token to kept i last far t =
        once_moves i (anywhere old (members fr.owner) i f) (anywhere new (members (m fr.owner)) (m i) g) (member_declaration fr i last t)
        (member_declaration (moved_frame m token to kept fr) (m i) far (moved_type m t)) (member_found fr.owner i)
        (record { space = refl; name_at = refl; entity = refl; kind = refl; linkage = refl; ctype = refl; depth = refl; listed = refl })
        (member_timed m lo there (member_declaration fr i last t) (member_declaration (moved_frame m token to kept fr) (m i) far (moved_type m t)) refl refl refl)

    label_timed : (b : Body) (i : ℕ) → IsTimed m lo there (label_declaration b i) (label_declaration (moved_body m b) (m i))
    label_timed b i = record {
      lives = λ k w a. absurd (false≢true w);
      lists = λ l. ap (λ x. x && ((1 == 1) && not false)) (same_number m old new law b.to l);
    }

    pub label_moves : (body : Option Body) (i : ℕ) → Next (with_label old body i f) (with_label new (option_map (moved_body m) body) (m i) g)
    label_moves None i = k
    label_moves (Some b) i =
        once_moves i (anywhere old (labels b.from) i f) (anywhere new (labels (m b.from)) (m i) g) (label_declaration b i) (label_declaration (moved_body m b) (m i))
        (label_found b.from i)
        (record { space = refl; name_at = refl; entity = refl; kind = refl; linkage = refl; ctype = refl; depth = refl; listed = refl })
        (label_timed b i)

    jump_by : (i : ℕ) (a b : Option Declaration) → AreFound m a b → Next (jump_to old i a f) (jump_to new (m i) b g)
    jump_by i None None h = fault_moves m old new law lo there f g k true true no_label i refl
    jump_by i (Some d) (Some e) h =
        subst (λ x. Next (jump_to old i (Some d) f) (jump_to new (m i) (Some (record e { entity = x })) g)) (sym h.entity)
        (occurrence_moves m old new law lo there f g k i d.entity false)
    jump_by i None (Some e) h = absurd h
    jump_by i (Some d) None h = absurd h

    pub jump_found : (b : Body) (i : ℕ) → Next (jump_to old i (anywhere old (labels b.from) i f) f) (jump_to new (m i) (anywhere new (labels (m b.from)) (m i) g) g)
    jump_found b i = jump_by i (anywhere old (labels b.from) i f) (anywhere new (labels (m b.from)) (m i) g) (label_found b.from i)

    -- ---- Members of a type

    known_same : (t : CType) → is_known (moved_type m t) g ≡ is_known t f
    known_same t =
        ap (λ b. b && is_in g.complete (number_in (moved_type m t))) (record_same m t)
        ∙ ap (λ b. is_record t && b) (ap (is_in g.complete) (number_moved m old new law t) ∙ k.complete (number_in t))

    found_if : (c d : Bool) (a b : Option Declaration) → d ≡ c → AreFound m a b → AreFound m (if c then a else None) (if d then b else None)
    found_if true true a b e h = h
    found_if false false a b e h = tt
    found_if true false a b e h = absurd cc
    found_if false true a b e h = absurd cc

    pub member_at_moved : (t : CType) (i : ℕ) → AreFound m (member_at old t i f) (member_at new (moved_type m t) (m i) g)
    member_at_moved t i =
        found_if (is_known t f) (is_known (moved_type m t) g) (anywhere old (members (number_in t)) i f)
        (anywhere new (members (number_in (moved_type m t))) (m i) g) (known_same t)
        (subst (λ (n : ℕ). AreFound m (anywhere old (members (number_in t)) i f) (anywhere new (members n) (m i) g)) (sym (number_moved m old new law t))
        (member_found (number_in t) i))

    member_by : (i : ℕ) (a b : Option Declaration) → AreFound m a b → Next (member_used_as old i a f) (member_used_as new (m i) b g)
    member_by i None None h = fault_moves m old new law lo there f g k true true no_member i refl
    member_by i (Some d) (Some e) h =
        subst (λ x. Next (member_used_as old i (Some d) f) (member_used_as new (m i) (Some (record e { entity = x })) g)) (sym h.entity)
        (occurrence_moves m old new law lo there f g k i d.entity false)
    member_by i None (Some e) h = absurd h
    member_by i (Some d) None h = absurd h

    pub member_used_moves : (t : CType) (i : ℕ) → Next (member_used old t i f) (member_used new (moved_type m t) (m i) g)
    member_used_moves t i = member_by i (member_at old t i f) (member_at new (moved_type m t) (m i) g) (member_at_moved t i)

    found_type : (a b : Option Declaration) (other : CType) → moved_type m other ≡ other → AreFound m a b
        → option_map_or (λ d. d.ctype) b other ≡ moved_type m (option_map_or (λ d. d.ctype) a other)
    found_type None None other same h = sym same
    found_type (Some d) (Some e) other same h = h.ctype
    found_type None (Some e) other same h = absurd h
    found_type (Some d) None other same h = absurd h

    pub member_type_moved : (t : CType) (i : ℕ) (other : CType) → moved_type m other ≡ other
        → member_type new (moved_type m t) (m i) other g ≡ moved_type m (member_type old t i other f)
    member_type_moved t i other same = found_type (member_at old t i f) (member_at new (moved_type m t) (m i) g) other same (member_at_moved t i)

    -- ---- Places in brace lists

    members_moved : (t : CType) → AreMoved m (members_of (number_in t) f) (members_of (number_in (moved_type m t)) g)
    members_moved t =
        subst (λ (n : ℕ). AreMoved m (members_of (number_in t) f) (members_of n g)) (sym (number_moved m old new law t)) (all_members (number_in t))

    place_moved : (t : CType) (n : ℕ) → member_place (moved_type m t) n g ≡ moved_type m (member_place t n f)
    place_moved t n =
        let at : CType = option_map_or (λ d. d.ctype) (slice_get (members_of (number_in t) f) n) arithmetic in
        let over : CType = option_map_or (λ d. d.ctype) (slice_get (members_of (number_in (moved_type m t)) g) n) arithmetic in
        ap (λ b. if b then over else arithmetic) (known_same t)
        ∙ type_if m (is_known t f) at arithmetic over arithmetic
        (found_type (slice_get (members_of (number_in t) f) n) (slice_get (members_of (number_in (moved_type m t)) g) n) arithmetic refl
        (at_moved m (members_of (number_in t) f) (members_of (number_in (moved_type m t)) g) n (members_moved t))) refl

    next_member_moved : (t : CType) (at : Position) → next_member (moved_type m t) at g ≡ moved_type m (next_member t at f)
    next_member_moved t Lost = refl
    next_member_moved t (Numbered n) =
        ap (λ b. if b && not (n == 0) then arithmetic else member_place (moved_type m t) n g) (union_same m t.base)
        ∙ type_if m (is_union_base t.base && not (n == 0)) arithmetic (member_place t n f) arithmetic (member_place (moved_type m t) n g) refl (place_moved t n)
    next_member_moved t Beyond = refl

    pub next_moved : (t : CType) (at : Position) → next_place (moved_type m t) at g ≡ moved_type m (next_place t at f)
    next_moved t at =
        let u : CType = moved_type m t in
        ap (λ b. if b || is_lost at then unknown else (if is_array t then inner_of u else next_member u at g)) (unknown_same m t)
        ∙ type_if m (is_unknown t || is_lost at) unknown (if is_array t then inner_of t else next_member t at f) unknown
        (if is_array t then inner_of u else next_member u at g) refl
        (type_if m (is_array t) (inner_of t) (next_member t at f) (inner_of u) (next_member u at g) refl (next_member_moved t at))

    -- ---- Designators

    pub designated_moves : (t : CType) (i : ℕ) (c d : Bool) → d ≡ c → Next (if c then with_fault true designator_after_elision i f else member_used old t i f)
        (if d then with_fault true designator_after_elision (m i) g else member_used new (moved_type m t) (m i) g)
    designated_moves t i true true e = fault_moves m old new law lo there f g k true true designator_after_elision i refl
    designated_moves t i false false e = member_used_moves t i
    designated_moves t i true false e = absurd cc
    designated_moves t i false true e = absurd cc

    pub designated_type_moved : (t : CType) (i : ℕ) → designated_type new (moved_type m t) (m i) g ≡ moved_type m (designated_type old t i f)
    designated_type_moved t i =
        ap (λ b. if b then unknown else member_type new (moved_type m t) (m i) unknown g) (unknown_same m t)
        ∙ type_if m (is_unknown t) unknown (member_type old t i unknown f) unknown (member_type new (moved_type m t) (m i) unknown g) refl
        (member_type_moved t i unknown refl)

    number_step : (c d : Bool) (x y : ℕ) → d ≡ c → y ≡ x → (if d then 0 else y + 1) ≡ (if c then 0 else x + 1)
    number_step true true x y e h = refl
    number_step false false x y e h = ap (λ (n : ℕ). n + 1) h
    number_step true false x y e h = absurd cc
    number_step false true x y e h = absurd cc

    number_same : (d e : Declaration) → IsMoved m d e → (xs ys : List Declaration) → AreMoved m xs ys → number_before ys e ≡ number_before xs d
    number_same d e h [] [] w = refl
    number_same d e h (x ∷ xs) (y ∷ ys) w =
        number_step (x.name_at == d.name_at) (y.name_at == e.name_at) (number_before xs d) (number_before ys e)
        (ap (λ (n : ℕ). n == e.name_at) (w.0).name_at ∙ (ap (λ (n : ℕ). m x.name_at == n) h.name_at ∙ same_number m old new law x.name_at d.name_at))
        (number_same d e h xs ys w.1)
    number_same d e h [] (y ∷ ys) w = absurd w
    number_same d e h (x ∷ xs) [] w = absurd w

    position_by : (t : CType) (a b : Option Declaration) (at : Position) → AreFound m a b → position_of new (moved_type m t) g b at ≡ position_of old t f a at
    position_by t None None at h = refl
    position_by t (Some d) (Some e) at h =
        ap (λ c. if c then Lost else Numbered (number_before (members_of (number_in (moved_type m t)) g) e)) (ap is_inner h.space ∙ same_inner d.space)
        ∙ ap (λ (n : ℕ). if is_inner d.space then Lost else Numbered n)
        (number_same d e h (members_of (number_in t) f) (members_of (number_in (moved_type m t)) g) (members_moved t))
    position_by t None (Some e) at h = absurd h
    position_by t (Some d) None at h = absurd h

    pub designated_position_moved : (t : CType) (i : ℕ) (at : Position) → designated_position new (moved_type m t) (m i) g at ≡ designated_position old t i f at
    designated_position_moved t i at = position_by t (member_at old t i f) (member_at new (moved_type m t) (m i) g) at (member_at_moved t i)

  -- ---- Jumps

  pub jumps_move : (b : Body) (js : List ℕ) (f g : Facts) → Next f g → Next (with_jumps old b js f) (with_jumps new (moved_body m b) (map m js) g)
  jumps_move b [] f g k = k
  jumps_move b (i ∷ js) f g k =
      jumps_move b js (jump_to old i (anywhere old (labels b.from) i f) f) (jump_to new (m i) (anywhere new (labels (m b.from)) (m i) g) g)
      (jump_found f g k b i)

  pub labels_move : (body : Option Body) (f g : Facts) → Next f g → Next (with_labels old body f) (with_labels new (option_map (moved_body m) body) g)
  labels_move None f g k = k
  labels_move (Some b) f g k =
      subst (λ (js : List ℕ). Next (with_jumps old b f.jumps f) (with_jumps new (moved_body m b) js g)) (sym k.jumps) (jumps_move b f.jumps f g k)

  -- ---- Anonymous members

  lifted_move : (owner : ℕ) (xs ys : List Declaration) → AreMoved m xs ys → (f g : Facts) → Next f g
      → Next (with_lifted old owner xs f) (with_lifted new (m owner) ys g)
  lifted_move owner [] [] h f g k = k
  lifted_move owner (d ∷ xs) (e ∷ ys) h f g k =
      let wrong : Bool = is_some (anywhere old (members owner) d.name_at f) in
      let wrong' : Bool = is_some (anywhere new (members (m owner)) (m d.name_at) g) in
      let f1 : Facts = with_fault wrong redeclared d.name_at f in
      let g1 : Facts = with_fault wrong' redeclared (m d.name_at) g in
      let x : Declaration = lifted owner d in
      let y : Declaration = lifted (m owner) e in
      let same : IsMoved m d e = h.0 in
      let one : Next (with_silent x f1) (with_silent y g1) =
      silent_moves m old new law lo there f1 g1
      (fault_moves m old new law lo there f g k wrong wrong' redeclared d.name_at
      (some_found m (anywhere old (members owner) d.name_at f) (anywhere new (members (m owner)) (m d.name_at) g) (member_found f g k owner d.name_at))) x y
      (record {
        space = refl;
        name_at = same.name_at;
        entity = same.entity;
        kind = same.kind;
        linkage = same.linkage;
        ctype = same.ctype;
        depth = same.depth;
        listed = same.listed;
      })
      (member_timed m lo there x y refl refl refl) in
      subst (λ (i : ℕ). Next (with_lifted old owner xs (with_silent x f1))
      (with_lifted new (m owner) ys (with_silent y (with_fault (is_some (anywhere new (members (m owner)) i g)) redeclared i g)))) (sym same.name_at)
      (lifted_move owner xs ys h.1 (with_silent x f1) (with_silent y g1) one)
  lifted_move owner [] (e ∷ ys) h f g k = absurd h
  lifted_move owner (d ∷ xs) [] h f g k = absurd h

  pub anonymous_moves : (fr : Frame) (token to : ℕ) (kept : Option ℕ) (i : ℕ) (f g : Facts) → Next f g → (c : Bool)
      → Next (if c then with_silent (unnamed_declaration fr i) (with_lifted old fr.owner (found_of (number_in fr.base) f) f) else f)
      (if c then with_silent (unnamed_declaration (moved_frame m token to kept fr) (m i)) (with_lifted new (m fr.owner) (found_of (number_in (moved_type m fr.base)) g) g) else g)
  anonymous_moves fr token to kept i f g k false = k
  anonymous_moves fr token to kept i f g k true =
      let found : List Declaration = found_of (number_in fr.base) f in
      let over : List Declaration = found_of (m (number_in fr.base)) g in
      let x : Declaration = unnamed_declaration fr i in
      let y : Declaration = unnamed_declaration (moved_frame m token to kept fr) (m i) in
      subst (λ (n : ℕ). Next (with_silent x (with_lifted old fr.owner found f)) (with_silent y (with_lifted new (m fr.owner) (found_of n g) g)))
      (sym (number_moved m old new law fr.base))
      (silent_moves m old new law lo there (with_lifted old fr.owner found f) (with_lifted new (m fr.owner) over g)
      (lifted_move fr.owner found over (all_found f g k (number_in fr.base)) f g k) x y
      (record { space = refl; name_at = refl; entity = refl; kind = refl; linkage = refl; ctype = refl; depth = refl; listed = refl })
      (member_timed m lo there x y refl refl refl))
