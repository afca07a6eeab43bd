-- Ordinary identifiers and tags in two texts that go together.
use Rattle.std.proofs.Common.{ℕ, ◌+◌, ◌≤◌, ◌≡◌, Bool, true, false, ◌&&◌, ◌||◌, not, if◌then◌else◌, ◌==◌, List, Option, None, Some, inl, inr, refl, sym, ap, subst, ◌∙◌, arith}
use Rattle.std.specs.Prelude.{nat_lt, codes}
use Rattle.std.specs.Option.{option_map, option_map_or}
use Rattle.std.specs.Str.{bytes_eq}
use Rattle.std.proofs.lemmas.Bool.{eqb-true, lt-ltb, le-ltb}
use Rattle.cs_base.specs.Token.{Token}
use Rattle.cs_base.proofs.BoolLemmas.{and_true}
use Rattle.c_types.specs.declared.entity.EntityKind.{EntityKind}
use Rattle.c_types.specs.declared.entity.EntityKind.TheVariants.{Typedef, Parameter}
use Rattle.c_types.specs.declared.entity.Linkage.{Linkage}
use Rattle.c_types.specs.declared.entity.Linkage.TheVariants.{External, Absent}
use Rattle.c_types.specs.Types.{CType, arithmetic, array, adjusted, is_function}
use Rattle.c_types.specs.Tags.{number_in, renumbered, is_sort, is_same_tag, tag_entity, is_declaring, tag_declaration, tag_named, prior_tag, with_tag_after, with_tag, tag_type, is_complete, enumeration_used}
use Rattle.c_types.specs.Declarations.{Facts, has_linkage, is_linkage, is_typedef_name, is_in, is_live, is_named, spelling_at, with_fault, with_use, with_declaration, with_begun, visible, in_scope, linked, is_mixed}
use Rattle.name_chains.specs.Entering.{is_member}
use Rattle.scope_bind.specs.Named.{Declaration, Declared, Body, Frame, Scope, undeclared, redeclared, tag_redefined, mixed_linkage, ordinary, tags}
use Rattle.scope_bind.specs.Linkage.{prior_linkage, follows_prior, own_linkage}
use Rattle.scope_bind.specs.Ordinary.{is_again, linked_entity, entity_of, is_listed, declaration_of, declared_faults, declared, used_as, used, used_type, is_func, plain_name, new_parameter, new_kind, new_type, new_linkage, new_object}
use Rattle.scope_bind.specs.Moved.{moved_type, moved_body, moved_frame, IsMoved, AreMovedTexts}
use Rattle.reordered_tree_laws.specs.Moving.{named, tagged, joined, living, whole, IsAhead, GoTogether}
use Rattle.reordered_tree_laws.proofs.MovedLists.{and_three, AreFound, told_moved}
use Rattle.scope_bind.proofs.MovedSpaces.{same_number, number_moved}
use Rattle.reordered_tree_laws.proofs.MovedFacts.{IsTimed, asked_found, asked_any, fault_moves, occurrence_moves, begun_moves, declaration_moves}
use Rattle.scope_bind.proofs.MovedTypes.{type_if, adjusted_moved, renumbered_moved, sort_same}

number_if : (m : ℕ → ℕ) (c : Bool) (i j a b : ℕ) → a ≡ m i → b ≡ m j → (if c then a else b) ≡ m (if c then i else j)
number_if m true i j a b h k = h
number_if m false i j a b h k = k

pub false_last : (a b : Bool) → (a && (b && false)) ≡ false
false_last true true = refl
false_last true false = refl
false_last false b = refl

-- a scope and the end of its moved one
pub record ScopeGoes (m : ℕ → ℕ) (lo there : ℕ) (scope : Scope) (to : ℕ) : Type 0 where
  pub ends : (k : ℕ) → IsAhead m lo there k → nat_lt (m k) to ≡ nat_lt k scope.to
  pub outer : scope.depth ≡ 1 → to ≡ m scope.to

-- What is known at these places, behind one token.
module _ (m : ℕ → ℕ) (old new : List Token) (law : AreMovedTexts m old new) (lo there last : ℕ) (behind : last + 1 ≡ lo) (beyond : m last + 1 ≡ there) where
  abbrev Next : Facts → Facts → Type 0
  Next f g = GoTogether m old new lo there f g

  pub ahead : IsAhead m lo there last
  ahead = inr (behind, beyond)

  -- ---- Ranges

  begins_by : (k : ℕ) → IsAhead m lo there k → nat_lt (m k) (m last + 1) ≡ nat_lt k (last + 1)
  begins_by k (inl a) =
      let here : last + 1 ≤ k = omega (arith, a.0, behind) in
      let over : m last + 1 ≤ m k = omega (arith, a.1, beyond) in
      le-ltb (m k) (m last + 1) over ∙ sym (le-ltb k (last + 1) here)
  begins_by k (inr a) = lt-ltb (m k) (m last + 1) (omega (arith, a.1, beyond)) ∙ sym (lt-ltb k (last + 1) (omega (arith, a.0, behind)))

  lists_by : (to over depth : ℕ) (c : Bool) (l : ℕ) → ((depth == 1) ≡ true → over ≡ m to)
      → ((over == m l) && ((depth == 1) && c)) ≡ ((to == l) && ((depth == 1) && c))
  lists_by to over depth c l outer = by (depth == 1) outer
    where
      same : (x : ℕ) → x ≡ m to → (x == m l) ≡ (to == l)
      same x e = ap (λ (y : ℕ). y == m l) e ∙ same_number m old new law to l

      none : (a b : Bool) → (a && false) ≡ (b && false)
      none true true = refl
      none true false = refl
      none false true = refl
      none false false = refl

      by : (b : Bool) → (b ≡ true → over ≡ m to) → ((over == m l) && (b && c)) ≡ ((to == l) && (b && c))
      by true f = ap (λ x. x && c) (same over (f refl))
      by false f = none (over == m l) (to == l)

  -- a name or a tag that is declared to this token
  pub timed : (d e : Declaration) (scope : Scope) (to : ℕ) → IsMoved m d e → ScopeGoes m lo there scope to → d.from ≡ last + 1 → e.from ≡ m last + 1
      → d.to ≡ scope.to → e.to ≡ to → d.depth ≡ scope.depth → is_member d.space ≡ false → is_member e.space ≡ false → IsTimed m lo there d e
  timed d e scope to h sc from from' ends ends' depth own own' = record {
    lives = λ k w a.
        ap (λ (x : ℕ). not (nat_lt (m k) x) && nat_lt (m k) e.to) from'
        ∙ (ap (λ (x : ℕ). not (nat_lt (m k) (m last + 1)) && nat_lt (m k) x) ends'
        ∙ (ap (λ b. not b && nat_lt (m k) to) (begins_by k a)
        ∙ (ap (λ b. not (nat_lt k (last + 1)) && b) (sc.ends k a)
        ∙ (ap (λ (x : ℕ). not (nat_lt k (last + 1)) && nat_lt k x) (sym ends)
        ∙ ap (λ (x : ℕ). not (nat_lt k x) && nat_lt k d.to) (sym from)))));
    lists = λ l.
        ap (λ (x : ℕ). (x == m l) && ((e.depth == 1) && not (is_member e.space))) ends'
        ∙ (ap (λ (x : ℕ). (to == m l) && ((x == 1) && not (is_member e.space))) (h.depth ∙ depth)
        ∙ (ap (λ b. (to == m l) && ((scope.depth == 1) && not b)) (own' ∙ sym own)
        ∙ (lists_by scope.to to scope.depth (not (is_member d.space)) l (λ w. sc.outer (eqb-true scope.depth 1 w))
        ∙ (ap (λ (x : ℕ). (scope.to == l) && ((x == 1) && not (is_member d.space))) (sym depth)
        ∙ ap (λ (x : ℕ). (x == l) && ((d.depth == 1) && not (is_member d.space))) (sym ends)))));
  }

  module _ (f g : Facts) (k : Next f g) where
    -- ---- Look-ups

    pub visible_moved : (i at : ℕ) → IsAhead m lo there at → AreFound m (visible old ordinary i at f) (visible new ordinary (m i) (m at) g)
    visible_moved i at a =
        asked_found m old new law lo there f g k (living (named i) at) a (λ d. true) (λ e. true) (λ d e h. refl)
        (λ d. is_named old ordinary i d && is_live at d) (λ d. is_named new ordinary (m i) d && is_live (m at) d)
        (λ d. and_true (is_named old ordinary i d && is_live at d)) (λ d. and_true (is_named new ordinary (m i) d && is_live (m at) d))

    pub visible_tag : (i at : ℕ) → IsAhead m lo there at → AreFound m (visible old tags i at f) (visible new tags (m i) (m at) g)
    visible_tag i at a =
        asked_found m old new law lo there f g k (living (tagged i) at) a (λ d. true) (λ e. true) (λ d e h. refl)
        (λ d. is_named old tags i d && is_live at d) (λ d. is_named new tags (m i) d && is_live (m at) d)
        (λ d. and_true (is_named old tags i d && is_live at d)) (λ d. and_true (is_named new tags (m i) d && is_live (m at) d))

    pub scope_moved : (depth i at : ℕ) → IsAhead m lo there at → AreFound m (in_scope old ordinary depth i at f) (in_scope new ordinary depth (m i) (m at) g)
    scope_moved depth i at a =
        asked_found m old new law lo there f g k (living (named i) at) a (λ d. d.depth == depth) (λ e. e.depth == depth)
        (λ d e h. ap (λ (n : ℕ). n == depth) h.depth)
        (λ d. is_named old ordinary i d && (is_live at d && (d.depth == depth))) (λ d. is_named new ordinary (m i) d && (is_live (m at) d && (d.depth == depth)))
        (λ d. and_three (is_named old ordinary i d) (is_live at d) (d.depth == depth))
        (λ d. and_three (is_named new ordinary (m i) d) (is_live (m at) d) (d.depth == depth))

    linked_moved : (i : ℕ) → AreFound m (linked old i f) (linked new (m i) g)
    linked_moved i =
        asked_found m old new law lo there f g k (whole (joined i)) tt (λ d. true) (λ e. true) (λ d e h. refl)
        (λ d. is_named old ordinary i d && has_linkage d.linkage) (λ d. is_named new ordinary (m i) d && has_linkage d.linkage)
        (λ d. and_true (is_named old ordinary i d && has_linkage d.linkage)) (λ d. and_true (is_named new ordinary (m i) d && has_linkage d.linkage))

    mixed_same : (l : Linkage) (i : ℕ) → is_mixed new l (m i) g ≡ is_mixed old l i f
    mixed_same l i =
        asked_any m old new law lo there f g k (whole (joined i)) tt (λ d. not (is_linkage d.linkage l)) (λ e. not (is_linkage e.linkage l))
        (λ d e h. ap (λ x. not (is_linkage x l)) h.linkage)
        (λ d. is_named old ordinary i d && (has_linkage d.linkage && not (is_linkage d.linkage l)))
        (λ d. is_named new ordinary (m i) d && (has_linkage d.linkage && not (is_linkage d.linkage l)))
        (λ d. and_three (is_named old ordinary i d) (has_linkage d.linkage) (not (is_linkage d.linkage l)))
        (λ d. and_three (is_named new ordinary (m i) d) (has_linkage d.linkage) (not (is_linkage d.linkage l)))

    -- ---- Uses

    pub type_found : (a b : Option Declaration) (other : CType) → moved_type m other ≡ other → AreFound m a b
        → option_map_or (λ d. d.ctype) b other ≡ moved_type m (option_map_or (λ d. d.ctype) a other)
    type_found None None other same h = sym same
    type_found (Some d) (Some e) other same h = h.ctype
    type_found None (Some e) other same h = absurd h
    type_found (Some d) None other same h = absurd h

    pub entity_found : (a b : Option Declaration) (i : ℕ) → AreFound m a b
        → option_map_or (λ d. d.entity) b (m i) ≡ m (option_map_or (λ d. d.entity) a i)
    entity_found None None i h = refl
    entity_found (Some d) (Some e) i h = h.entity
    entity_found None (Some e) i h = absurd h
    entity_found (Some d) None i h = absurd h

    pub use_moves : (i e x : ℕ) → x ≡ m e → Next (with_use i e f) (with_use (m i) x g)
    use_moves i e x same =
        subst (λ y. Next (with_use i e f) (with_use (m i) y g)) (sym same) (occurrence_moves m old new law lo there f g k i e false)

    used_by : (i : ℕ) (a b : Option Declaration) → AreFound m a b → Next (used_as old i a f) (used_as new (m i) b g)
    used_by i None None h = fault_moves m old new law lo there f g k true true undeclared i refl
    used_by i (Some d) (Some e) h = use_moves i d.entity e.entity h.entity
    used_by i None (Some e) h = absurd h
    used_by i (Some d) None h = absurd h

    pub used_moves : Next (used old last f) (used new (m last) g)
    used_moves = used_by last (visible old ordinary last last f) (visible new ordinary (m last) (m last) g) (visible_moved last last ahead)

    pub used_type_moved : used_type new (m last) g ≡ moved_type m (used_type old last f)
    used_type_moved =
        type_found (visible old ordinary last last f) (visible new ordinary (m last) (m last) g) arithmetic refl (visible_moved last last ahead)

    body_same : (b : Option Body) → option_map_or (λ x. true) (option_map (moved_body m) b) false ≡ option_map_or (λ x. true) b false
    body_same None = refl
    body_same (Some b) = refl

    pub func_same : (fr : Frame) (token to : ℕ) (kept : Option ℕ) (i : ℕ) → is_func new (moved_frame m token to kept fr) (m i) ≡ is_func old fr i
    func_same fr token to kept i =
        ap (λ c. (c && not fr.listing) && bytes_eq (spelling_at new (m i)) (codes "__func__")) (body_same fr.body)
        ∙ ap (λ x. (option_map_or (λ x. true) fr.body false && not fr.listing) && bytes_eq x (codes "__func__")) (law.spelled i)

    pub named_moves : (c d : Bool) → d ≡ c → Next (if c then f else used old last f) (if d then g else used new (m last) g)
    named_moves true true e = k
    named_moves false false e = used_moves
    named_moves true false e = absurd cc
    named_moves false true e = absurd cc

    pub named_type_moved : (c d : Bool) → d ≡ c
        → (if d then array arithmetic else used_type new (m last) g) ≡ moved_type m (if c then array arithmetic else used_type old last f)
    named_type_moved c d e =
        ap (λ x. if x then array arithmetic else used_type new (m last) g) e
        ∙ type_if m c (array arithmetic) (used_type old last f) (array arithmetic) (used_type new (m last) g) refl used_type_moved

    -- ---- Declarations

    module _ (scope : Scope) (to : ℕ) (sc : ScopeGoes m lo there scope to) (i : ℕ) (kind : EntityKind) (t : CType) (linkage : Linkage) (listing listed : Bool) where
      abbrev n : Declared
      n = record { name_at = i; last = last; kind = kind; ctype = t; linkage = linkage; listing = listing; listed = listed }

      abbrev p : Declared
      p = record { name_at = m i; last = m last; kind = kind; ctype = moved_type m t; linkage = linkage; listing = listing; listed = listed }

      abbrev over : Scope
      over = record { depth = scope.depth; to = to }

      again_same : (d e : Declaration) → IsMoved m d e → is_again p e ≡ is_again n d
      again_same d e h =
          ap (λ l. if has_linkage linkage then has_linkage l else (listing && e.listed) || (is_typedef_name kind && is_typedef_name e.kind)) h.linkage
          ∙ (ap (λ b. if has_linkage linkage then has_linkage d.linkage else (listing && b) || (is_typedef_name kind && is_typedef_name e.kind)) h.listed
          ∙ ap (λ x. if has_linkage linkage then has_linkage d.linkage else (listing && d.listed) || (is_typedef_name kind && is_typedef_name x)) h.kind)

      linked_same : (x y : Option Declaration) → AreFound m x y → linked_entity p y ≡ m (linked_entity n x)
      linked_same None None h = refl
      linked_same (Some d) (Some e) h = number_if m (has_linkage linkage) d.entity i e.entity (m i) h.entity refl
      linked_same None (Some e) h = absurd h
      linked_same (Some d) None h = absurd h

      entity_same : (a b x y : Option Declaration) → AreFound m a b → AreFound m x y → entity_of p b y ≡ m (entity_of n a x)
      entity_same None None x y h j = linked_same x y j
      entity_same (Some d) (Some e) x y h j =
          ap (λ c. if c then e.entity else linked_entity p y) (again_same d e h)
          ∙ number_if m (is_again n d) d.entity (linked_entity n x) e.entity (linked_entity p y) h.entity (linked_same x y j)
      entity_same None (Some e) x y h j = absurd h
      entity_same (Some d) None x y h j = absurd h

      listed_same : (a b : Option Declaration) → AreFound m a b → is_listed p b ≡ is_listed n a
      listed_same a b h = ap (λ c. listing && c) (told_moved m (λ d. d.listed) (λ d. d.listed) false (λ d e w. w.listed) a b h)

      faults_move : (a b : Option Declaration) → AreFound m a b → Next (declared_faults old n a f) (declared_faults new p b g)
      faults_move a b h =
          let mixed : Bool = has_linkage linkage && is_mixed old linkage i f in
          let mixed' : Bool = has_linkage linkage && is_mixed new linkage (m i) g in
          let again : Bool = option_map_or (λ d. not (is_again n d)) a false in
          let again' : Bool = option_map_or (λ d. not (is_again p d)) b false in
          let f1 : Facts = with_fault mixed mixed_linkage i f in
          let g1 : Facts = with_fault mixed' mixed_linkage (m i) g in
          let one : Next f1 g1 =
          fault_moves m old new law lo there f g k mixed mixed' mixed_linkage i (ap (λ c. has_linkage linkage && c) (mixed_same linkage i)) in
          let f2 : Facts = with_fault again redeclared i f1 in
          let g2 : Facts = with_fault again' redeclared (m i) g1 in
          let two : Next f2 g2 =
          fault_moves m old new law lo there f1 g1 one again again' redeclared i
          (told_moved m (λ d. not (is_again n d)) (λ d. not (is_again p d)) false (λ d e w. ap not (again_same d e w)) a b h) in
          fault_moves m old new law lo there f2 g2 two (listing && not (is_listed n a)) (listing && not (is_listed p b)) undeclared i
          (ap (λ c. listing && not c) (listed_same a b h))

      declared_by : (a b x y : Option Declaration) → AreFound m a b → AreFound m x y
          → Next (with_declaration (declaration_of scope n (entity_of n a x) (listed || is_listed n a)) (declared_faults old n a f))
          (with_declaration (declaration_of over p (entity_of p b y) (listed || is_listed p b)) (declared_faults new p b g))
      declared_by a b x y h j =
          let d : Declaration = declaration_of scope n (entity_of n a x) (listed || is_listed n a) in
          let e : Declaration = declaration_of over p (entity_of p b y) (listed || is_listed p b) in
          let moved : IsMoved m d e = record {
            space = refl;
            name_at = refl;
            entity = entity_same a b x y h j;
            kind = refl;
            linkage = refl;
            ctype = refl;
            depth = refl;
            listed = ap (λ c. listed || c) (listed_same a b h);
          } in
          declaration_moves m old new law lo there (declared_faults old n a f) (declared_faults new p b g) d e (faults_move a b h) moved
          (timed d e scope to moved sc refl refl refl refl refl refl refl)

      pub declared_moves : Next (declared old scope n f) (declared new over p g)
      declared_moves =
          declared_by (in_scope old ordinary scope.depth i last f) (in_scope new ordinary scope.depth (m i) (m last) g) (linked old i f) (linked new (m i) g)
          (scope_moved scope.depth i last ahead) (linked_moved i)

    module _ (fr : Frame) (token to : ℕ) (kept : Option ℕ) (sc : ScopeGoes m lo there fr.scope to) where
      abbrev gr : Frame
      gr = moved_frame m token to kept fr

      parameter_by : (i : ℕ) (t : CType) (c : Bool)
          → Next (declared old fr.scope (if c then plain_name old i last Typedef t false else plain_name old i last Parameter (adjusted t) false) f)
          (declared new gr.scope (if c then plain_name new (m i) (m last) Typedef (moved_type m t) false else plain_name new (m i) (m last) Parameter (adjusted (moved_type m t)) false) g)
      parameter_by i t true = declared_moves fr.scope to sc i Typedef t Absent false false
      parameter_by i t false =
          subst (λ x. Next (declared old fr.scope (plain_name old i last Parameter (adjusted t) false) f) (declared new gr.scope (plain_name new (m i) (m last) Parameter x false) g))
          (sym (adjusted_moved m t)) (declared_moves fr.scope to sc i Parameter (adjusted t) Absent false false)

      pub parameter_moves : (i : ℕ) (t : CType) → Next (declared old fr.scope (new_parameter old fr i last t) f)
          (declared new gr.scope (new_parameter new gr (m i) (m last) (moved_type m t)) g)
      parameter_moves i t = parameter_by i t fr.words.has_typedef

      prior_moved : (a b : Option Declaration) → AreFound m a b → prior_linkage b ≡ prior_linkage a
      prior_moved None None h = refl
      prior_moved (Some d) (Some e) h = ap (λ l. if has_linkage l then l else External) h.linkage
      prior_moved None (Some e) h = absurd h
      prior_moved (Some d) None h = absurd h

      linkage_moved : (i : ℕ) (t : CType) → new_linkage new gr (m i) (m last) (moved_type m t) g ≡ new_linkage old fr i last t f
      linkage_moved i t =
          ap (λ (l : Linkage). if fr.words.has_typedef || fr.listing then Absent
          else (if follows_prior fr.scope.depth (is_function t) fr.words then l else own_linkage fr.scope.depth fr.words))
          (prior_moved (visible old ordinary i last f) (visible new ordinary (m i) (m last) g) (visible_moved i last ahead))

      type_moved : (t : CType) → new_type new gr (moved_type m t) ≡ moved_type m (new_type old fr t)
      type_moved t =
          type_if m (fr.listing && not (fr.words.has_typedef)) (adjusted t) t (adjusted (moved_type m t)) (moved_type m t) (adjusted_moved m t) refl

      pub object_moves : (i : ℕ) (t : CType) → Next (declared old fr.scope (new_object old fr i last t f) f)
          (declared new gr.scope (new_object new gr (m i) (m last) (moved_type m t) g) g)
      object_moves i t =
          let kind : EntityKind = new_kind old fr t in
          let made : CType → Linkage → Declared =
          λ x l. record { name_at = m i; last = m last; kind = kind; ctype = x; linkage = l; listing = fr.listing; listed = false } in
          subst (λ l. Next (declared old fr.scope (new_object old fr i last t f) f) (declared new gr.scope (made (new_type new gr (moved_type m t)) l) g))
          (sym (linkage_moved i t))
          (subst (λ x. Next (declared old fr.scope (new_object old fr i last t f) f) (declared new gr.scope (made x (new_linkage old fr i last t f)) g))
          (sym (type_moved t))
          (declared_moves fr.scope to sc i kind (new_type old fr t) (new_linkage old fr i last t f) fr.listing false))

      -- ---- Tags

      same_tag : (d e : Declaration) → IsMoved m d e → is_same_tag gr g e ≡ is_same_tag fr f d
      same_tag d e h =
          ap (λ x. is_sort x gr.found && not (fr.has_body && is_in g.begun e.entity)) h.ctype
          ∙ (ap (λ c. c && not (fr.has_body && is_in g.begun e.entity)) (sort_same m d.ctype fr.found)
          ∙ (ap (λ x. is_sort d.ctype fr.found && not (fr.has_body && is_in g.begun x)) h.entity
          ∙ ap (λ c. is_sort d.ctype fr.found && not (fr.has_body && c)) (k.begun d.entity)))

      tag_entity_moved : (a b : Option Declaration) → AreFound m a b → tag_entity gr (m last) g b ≡ m (tag_entity fr last f a)
      tag_entity_moved None None h = refl
      tag_entity_moved (Some d) (Some e) h =
          ap (λ c. if c then e.entity else m last) (same_tag d e h)
          ∙ number_if m (is_same_tag fr f d) d.entity last e.entity (m last) h.entity refl
      tag_entity_moved None (Some e) h = absurd h
      tag_entity_moved (Some d) None h = absurd h

      pub prior_tag_moved : AreFound m (prior_tag old fr last f) (prior_tag new gr (m last) g)
      prior_tag_moved =
          let anew : Bool = not (fr.has_body || fr.alone) in
          asked_found m old new law lo there f g k (living (tagged last) last) ahead (λ d. anew || (d.depth == fr.scope.depth)) (λ e. anew || (e.depth == fr.scope.depth))
          (λ d e h. ap (λ (x : ℕ). anew || (x == fr.scope.depth)) h.depth)
          (λ d. is_named old tags last d && (is_live last d && (anew || (d.depth == fr.scope.depth))))
          (λ d. is_named new tags (m last) d && (is_live (m last) d && (anew || (d.depth == fr.scope.depth))))
          (λ d. and_three (is_named old tags last d) (is_live last d) (anew || (d.depth == fr.scope.depth)))
          (λ d. and_three (is_named new tags (m last) d) (is_live (m last) d) (anew || (d.depth == fr.scope.depth)))

      declaring_same : (a b : Option Declaration) → AreFound m a b → is_declaring gr b ≡ is_declaring fr a
      declaring_same None None h = refl
      declaring_same (Some d) (Some e) h = refl
      declaring_same None (Some e) h = absurd h
      declaring_same (Some d) None h = absurd h

      tag_by : (c d : Bool) (e u v : ℕ) → d ≡ c → v ≡ m u
          → Next (if c then with_begun fr.has_body e (with_declaration (tag_declaration fr.scope last e (renumbered fr.found e)) f) else with_use last u f)
          (if d then with_begun fr.has_body (m e) (with_declaration (tag_declaration gr.scope (m last) (m e) (renumbered gr.found (m e))) g) else with_use (m last) v g)
      tag_by true true e u v same w =
          let x : Declaration = tag_declaration fr.scope last e (renumbered fr.found e) in
          let y : Declaration = tag_declaration gr.scope (m last) (m e) (renumbered gr.found (m e)) in
          let moved : IsMoved m x y = record {
            space = refl;
            name_at = refl;
            entity = refl;
            kind = refl;
            linkage = refl;
            ctype = renumbered_moved m fr.found e;
            depth = refl;
            listed = refl;
          } in
          begun_moves m old new law lo there (with_declaration x f) (with_declaration y g)
          (declaration_moves m old new law lo there f g x y k moved (timed x y fr.scope to moved sc refl refl refl refl refl refl refl)) fr.has_body e
      tag_by false false e u v same w = use_moves last u v w
      tag_by true false e u v same w = absurd cc
      tag_by false true e u v same w = absurd cc

      tag_after : (a b : Option Declaration) → AreFound m a b → Next (with_tag_after fr last a f) (with_tag_after gr (m last) b g)
      tag_after a b h =
          let e : ℕ = tag_entity fr last f a in
          let wrong : Bool = option_map_or (λ d. not (is_same_tag fr f d)) a false in
          let wrong' : Bool = option_map_or (λ d. not (is_same_tag gr g d)) b false in
          let inner : Next (tag_named fr last a e f) (tag_named gr (m last) b (m e) g) =
          tag_by (is_declaring fr a) (is_declaring gr b) e (option_map_or (λ d. d.entity) a last) (option_map_or (λ d. d.entity) b (m last))
          (declaring_same a b h) (entity_found a b last h) in
          subst (λ x. Next (with_tag_after fr last a f) (with_fault wrong' tag_redefined (m last) (tag_named gr (m last) b x g))) (sym (tag_entity_moved a b h))
          (fault_moves m old new law lo there (tag_named fr last a e f) (tag_named gr (m last) b (m e) g) inner wrong wrong' tag_redefined last
          (told_moved m (λ d. not (is_same_tag fr f d)) (λ d. not (is_same_tag gr g d)) false (λ d x w. ap not (same_tag d x w)) a b h))

      pub tag_moves : Next (with_tag old fr last f) (with_tag new gr (m last) g)
      tag_moves = tag_after (prior_tag old fr last f) (prior_tag new gr (m last) g) prior_tag_moved

      pub tag_type_moved : tag_type new gr (m last) g ≡ moved_type m (tag_type old fr last f)
      tag_type_moved =
          ap (renumbered gr.found) (tag_entity_moved (prior_tag old fr last f) (prior_tag new gr (m last) g) prior_tag_moved)
          ∙ renumbered_moved m fr.found (tag_entity fr last f (prior_tag old fr last f))

      complete_same : (d e : Declaration) → IsMoved m d e → is_complete g e ≡ is_complete f d
      complete_same d e h =
          ap (λ x. is_in g.complete (number_in x)) h.ctype
          ∙ (ap (is_in g.complete) (number_moved m old new law d.ctype) ∙ k.complete (number_in d.ctype))

      enumeration_by : (a b : Option Declaration) → AreFound m a b → Next (enumeration_used fr last a f) (enumeration_used gr (m last) b g)
      enumeration_by None None h = fault_moves m old new law lo there f g k true true undeclared last refl
      enumeration_by (Some d) (Some e) h =
          let sort : Bool = not (is_sort d.ctype fr.found) in
          let sort' : Bool = not (is_sort e.ctype gr.found) in
          let f1 : Facts = with_fault sort tag_redefined last f in
          let g1 : Facts = with_fault sort' tag_redefined (m last) g in
          let one : Next f1 g1 =
          fault_moves m old new law lo there f g k sort sort' tag_redefined last (ap not (ap (λ x. is_sort x gr.found) h.ctype ∙ sort_same m d.ctype fr.found)) in
          let f2 : Facts = with_fault (not (is_complete f d)) undeclared last f1 in
          let g2 : Facts = with_fault (not (is_complete g e)) undeclared (m last) g1 in
          let two : Next f2 g2 =
          fault_moves m old new law lo there f1 g1 one (not (is_complete f d)) (not (is_complete g e)) undeclared last (ap not (complete_same d e h)) in
          subst (λ y. Next (with_use last d.entity f2) (with_use (m last) y g2)) (sym h.entity)
          (occurrence_moves m old new law lo there f2 g2 two last d.entity false)
      enumeration_by None (Some e) h = absurd h
      enumeration_by (Some d) None h = absurd h

      pub enumeration_moves : (c : Bool) → Next (if c then with_tag old fr last f else enumeration_used fr last (visible old tags last last f) f)
          (if c then with_tag new gr (m last) g else enumeration_used gr (m last) (visible new tags (m last) (m last) g) g)
      enumeration_moves true = tag_moves
      enumeration_moves false = enumeration_by (visible old tags last last f) (visible new tags (m last) (m last) g) (visible_tag last last ahead)

      pub enumeration_type_moved : (c : Bool) → (if c then tag_type new gr (m last) g else gr.found) ≡ moved_type m (if c then tag_type old fr last f else fr.found)
      enumeration_type_moved c = type_if m c (tag_type old fr last f) fr.found (tag_type new gr (m last) g) gr.found tag_type_moved refl
