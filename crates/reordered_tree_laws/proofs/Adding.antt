-- What a part of a unit adds stands beside.
use Rattle.std.proofs.Common.{ℕ, ◌≡◌, Bool, true, false, ◌&&◌, ◌||◌, not, cond, if◌then◌else◌, ◌==◌, List, [], ◌∷◌, Option, None, Some, inl, inr, refl, sym, ap, ◌∙◌}
use Rattle.std.specs.Prelude.{codes, ◌%◌, is_some}
use Rattle.std.specs.Option.{option_map_or}
use Rattle.std.specs.Str.{bytes_eq}
use Rattle.std.proofs.lemmas.Bool.{false≢true, cases_Bool, and_parts, eqb-true}
use Rattle.std.proofs.lemmas.List.Folds.{list_any-append}
use Rattle.cs_base.specs.Token.{Token}
use Rattle.c99_tree.specs.Tree.{Forest, none, token, node}
use Rattle.c99_tree.specs.declared.production.Label.{Label}
use Rattle.c99_tree.specs.declared.production.Production.{Production}
use Rattle.c99_tree.specs.declared.production.Production.TheVariants.{ExtRest, InitDecl, FunBody, Main, Params, Primary, Post, Designator, SuRest, EnRest, Members, MemRest, Mdecl, Enumerators, Enumerator, Declarator, Param, Pdecl, Statement}
use Rattle.c99_tree.specs.contracts.production.ProductionPartialEq.TheImpl.{ghosts}
use Rattle.c_types.specs.declared.entity.EntityKind.TheVariants.{Typedef, Parameter, Enumerator as Constant}
use Rattle.c_types.specs.Types.{CType, arithmetic, adjusted, union, structure, is_unknown, target_of}
use Rattle.c_types.specs.Trees.{has_node, name_below, last_token, declarator_type}
use Rattle.c_types.specs.Tags.{number_in, renumbered, is_same_tag, tag_entity, is_declaring, tag_declaration, tag_named, prior_tag, with_tag_after, with_tag, is_complete, is_sort, enumeration_used}
use Rattle.c_types.specs.Declarations.{Facts, spelling_at, is_in, has_linkage, with_fault, with_use, with_declaration, with_begun, with_complete, visible, in_scope, anywhere, linked, is_mixed}
use Rattle.name_chains.specs.Frames.{State}
use Rattle.name_chains.specs.Members.{with_silent, member_declaration, unnamed_declaration, lifted, found_of, with_member, with_lifted, with_anonymous, member_at, member_used_as, member_used}
use Rattle.name_chains.specs.Entering.{owner_in, facts_in, found_in, entered}
use Rattle.scope_bind.specs.Named.{Cause, Declaration, Declared, Body, Frame, Scope, undeclared, redeclared, tag_redefined, mixed_linkage, no_member, designator_after_elision, ordinary, tags, members}
use Rattle.scope_bind.specs.Ordinary.{is_again, entity_of, is_listed, declaration_of, declared, used_as, used, is_func, plain_name, with_parameter}
use Rattle.scope_bind.specs.Roles.{role_if, role_of}
use Rattle.scope_bind.specs.Expressions.{found_after}
use Rattle.scope_bind.specs.Walk.{facts_at, found_at, passed, declared_in, parameter_in, facts_after, left, walked}
use Rattle.reordered_tree_laws.specs.Beside.{is_beside, seen_of}
use Rattle.reordered_tree_laws.specs.Adding.{is_untagged, is_tagged, has_no_list, names_foreign, is_adding_token, is_adding_declarator, is_adding_parameter, is_adding_node, within_of, is_adding, IsAddingFrame, PartsAddBeside}

module _ (toks : List Token) (foreign : ℕ → Bool) where
  -- what is known later has more that stands beside, and nothing else
  pub record Added (f g : Facts) : Type 0 where
    pub seen : seen_of foreign g.declared ≡ seen_of foreign f.declared
    pub begun : (n : ℕ) → foreign n ≡ false → is_in g.begun n ≡ is_in f.begun n
    pub complete : (n : ℕ) → foreign n ≡ false → is_in g.complete n ≡ is_in f.complete n

  pub added_none : (f : Facts) → Added f f
  added_none f = record { seen = refl; begun = λ n h. refl; complete = λ n h. refl }

  pub added_both : (f g h : Facts) → Added f g → Added g h → Added f h
  added_both f g h a b = record {
    seen = b.seen ∙ a.seen;
    begun = λ n o. b.begun n o ∙ a.begun n o;
    complete = λ n o. b.complete n o ∙ a.complete n o;
  }

  -- ---- What is noted

  add_fault : (c : Bool) (cause : Cause) (i : ℕ) (f : Facts) → Added f (with_fault c cause i f)
  add_fault false cause i f = added_none f
  add_fault true cause i f = record { seen = refl; begun = λ n h. refl; complete = λ n h. refl }

  add_use : (i e : ℕ) (f : Facts) → Added f (with_use i e f)
  add_use i e f = record {
    seen = refl;
    begun = λ n h. refl;
    complete = λ n h. refl;
  }

  hidden_seen : (d : Declaration) (xs : List Declaration) → is_beside foreign d ≡ true → seen_of foreign (d ∷ xs) ≡ seen_of foreign xs
  hidden_seen d xs h = ap (λ c. cond (not c) (d ∷ seen_of foreign xs) (seen_of foreign xs)) h

  add_silent : (d : Declaration) (f : Facts) → is_beside foreign d ≡ true → Added f (with_silent d f)
  add_silent d f h = record { seen = hidden_seen d f.declared h; begun = λ n o. refl; complete = λ n o. refl }

  add_declaration : (d : Declaration) (f : Facts) → is_beside foreign d ≡ true → Added f (with_declaration d f)
  add_declaration d f h = record {
    seen = hidden_seen d f.declared h;
    begun = λ n o. refl;
    complete = λ n o. refl;
  }

  apart : (m n : ℕ) → foreign m ≡ true → foreign n ≡ false → (m == n) ≡ false
  apart m n h k = elim (cases_Bool (m == n)) [
    | inl e ↦ absurd (false≢true (sym k ∙ (sym (ap foreign (eqb-true m n e)) ∙ h)))
    | inr e ↦ e
  ]

  or_no : (b c : Bool) → c ≡ false → (b || (c || false)) ≡ b
  or_no true c e = refl
  or_no false true e = e
  or_no false false e = refl

  add_complete : (e : ℕ) (f : Facts) → foreign e ≡ true → Added f (with_complete e f)
  add_complete e f h = record {
    seen = refl;
    begun = λ n o. refl;
    complete = λ n o. list_any-append (λ m. m == n) f.complete (e ∷ []) ∙ or_no (is_in f.complete n) (e == n) (apart e n h o);
  }

  -- ---- Names

  add_used : (i : ℕ) (r : Option Declaration) (f : Facts) → Added f (used_as toks i r f)
  add_used i None f = add_fault true undeclared i f
  add_used i (Some d) f = add_use i d.entity f

  add_either : (c : Bool) (f g : Facts) → Added f g → Added f (if c then f else g)
  add_either true f g a = added_none f
  add_either false f g a = a

  add_declared : (scope : Scope) (n : Declared) (f : Facts) → foreign n.name_at ≡ true → Added f (declared toks scope n f)
  add_declared scope n f mine =
      let r : Option Declaration = in_scope toks ordinary scope.depth n.name_at n.last f in
      let mixed : Bool = has_linkage n.linkage && is_mixed toks n.linkage n.name_at f in
      let f1 : Facts = with_fault mixed mixed_linkage n.name_at f in
      let again : Bool = option_map_or (λ d. not (is_again n d)) r false in
      let f2 : Facts = with_fault again redeclared n.name_at f1 in
      let listed : Bool = n.listing && not (is_listed n r) in
      let f3 : Facts = with_fault listed undeclared n.name_at f2 in
      let d : Declaration = declaration_of scope n (entity_of n r (linked toks n.name_at f)) (n.listed || is_listed n r) in
      added_both f f3 (with_declaration d f3)
      (added_both f f2 f3 (added_both f f1 f2 (add_fault mixed mixed_linkage n.name_at f) (add_fault again redeclared n.name_at f1)) (add_fault listed undeclared n.name_at f2))
      (add_declaration d f3 mine)

  parameter_by : (scope : Scope) (i last : ℕ) (t : CType) (f : Facts) (c : Bool) → foreign i ≡ true
      → Added f (declared toks scope (if c then plain_name toks i last Typedef t false else plain_name toks i last Parameter (adjusted t) false) f)
  parameter_by scope i last t f true mine = add_declared scope (plain_name toks i last Typedef t false) f mine
  parameter_by scope i last t f false mine = add_declared scope (plain_name toks i last Parameter (adjusted t) false) f mine

  add_parameter : (fr : Frame) (under : Forest) (name : Option ℕ) (f : Facts) → option_map_or foreign name true ≡ true → Added f (with_parameter toks fr under name f)
  add_parameter fr under None f mine = added_none f
  add_parameter fr under (Some i) f mine = parameter_by fr.scope i (last_token under i) (declarator_type fr.base under) f fr.words.has_typedef mine

  -- ---- Tags

  add_tag_named : (fr : Frame) (i e u : ℕ) (f : Facts) (c declares : Bool) → c ≡ false → foreign i ≡ true
      → Added f (if declares then with_begun c e (with_declaration (tag_declaration fr.scope i e (renumbered fr.found e)) f) else with_use i u f)
  add_tag_named fr i e u f true declares no_list mine = absurd (false≢true (sym no_list))
  add_tag_named fr i e u f false true no_list mine = add_declaration (tag_declaration fr.scope i e (renumbered fr.found e)) f mine
  add_tag_named fr i e u f false false no_list mine = add_use i u f

  add_tag : (fr : Frame) (i : ℕ) (r : Option Declaration) (f : Facts) → fr.has_body ≡ false → foreign i ≡ true → Added f (with_tag_after fr i r f)
  add_tag fr i r f no_list mine =
      let e : ℕ = tag_entity fr i f r in
      let g : Facts = tag_named fr i r e f in
      added_both f g (with_fault (option_map_or (λ d. not (is_same_tag fr f d)) r false) tag_redefined i g)
      (add_tag_named fr i e (option_map_or (λ d. d.entity) r i) f fr.has_body (is_declaring fr r) no_list mine)
      (add_fault (option_map_or (λ d. not (is_same_tag fr f d)) r false) tag_redefined i g)

  add_enumeration : (fr : Frame) (i : ℕ) (r : Option Declaration) (f : Facts) → Added f (enumeration_used fr i r f)
  add_enumeration fr i None f = add_fault true undeclared i f
  add_enumeration fr i (Some d) f =
      let f1 : Facts = with_fault (not (is_sort d.ctype fr.found)) tag_redefined i f in
      let f2 : Facts = with_fault (not (is_complete f d)) undeclared i f1 in
      added_both f f2 (with_use i d.entity f2)
      (added_both f f1 f2 (add_fault (not (is_sort d.ctype fr.found)) tag_redefined i f) (add_fault (not (is_complete f d)) undeclared i f1))
      (add_use i d.entity f2)

  -- ---- Members

  add_member_used : (i : ℕ) (r : Option Declaration) (f : Facts) → Added f (member_used_as toks i r f)
  add_member_used i None f = add_fault true no_member i f
  add_member_used i (Some d) f = add_use i d.entity f

  add_designated : (c : Bool) (t : CType) (i : ℕ) (f : Facts) → Added f (if c then with_fault true designator_after_elision i f else member_used toks t i f)
  add_designated true t i f = add_fault true designator_after_elision i f
  add_designated false t i f = add_member_used i (member_at toks t i f) f

  add_member : (fr : Frame) (under : Forest) (name : Option ℕ) (f : Facts) → foreign fr.owner ≡ true → Added f (with_member toks fr under name f)
  add_member fr under None f mine = added_none f
  add_member fr under (Some i) f mine =
      let g : Facts = with_fault (is_some (anywhere toks (members fr.owner) i f)) redeclared i f in
      added_both f g (with_declaration (member_declaration fr i (last_token under i) (declarator_type fr.base under)) g)
      (add_fault (is_some (anywhere toks (members fr.owner) i f)) redeclared i f)
      (add_declaration (member_declaration fr i (last_token under i) (declarator_type fr.base under)) g mine)

  add_lifted : (owner : ℕ) (ds : List Declaration) (f : Facts) → foreign owner ≡ true → Added f (with_lifted toks owner ds f)
  add_lifted owner [] f mine = added_none f
  add_lifted owner (d ∷ ds) f mine =
      let wrong : Bool = is_some (anywhere toks (members owner) d.name_at f) in
      let f1 : Facts = with_fault wrong redeclared d.name_at f in
      let f2 : Facts = with_silent (lifted owner d) f1 in
      added_both f f2 (with_lifted toks owner ds f2)
      (added_both f f1 f2 (add_fault wrong redeclared d.name_at f) (add_silent (lifted owner d) f1 mine)) (add_lifted owner ds f2 mine)

  add_anonymous : (fr : Frame) (i : ℕ) (f : Facts) (c : Bool) → foreign fr.owner ≡ true
      → Added f (if c then with_silent (unnamed_declaration fr i) (with_lifted toks fr.owner (found_of (number_in fr.base) f) f) else f)
  add_anonymous fr i f false mine = added_none f
  add_anonymous fr i f true mine =
      let g : Facts = with_lifted toks fr.owner (found_of (number_in fr.base) f) f in
      added_both f g (with_silent (unnamed_declaration fr i) g) (add_lifted fr.owner (found_of (number_in fr.base) f) f mine) (add_silent (unnamed_declaration fr i) g mine)

  -- ---- A token

  left_or : (c d : Bool) → c ≡ true → (c || d) ≡ true
  left_or true d e = refl
  left_or false d e = absurd (false≢true e)

  right_or : (d : Bool) → d ≡ true → (false || d) ≡ true
  right_or d e = e

  add_tags : (fr : Frame) (i : ℕ) (f : Facts) (c : Bool) → (c ≡ true → fr.has_body ≡ false) → foreign i ≡ true → Added f (facts_at toks (role_if c (role_of SuRest 1 0)) i fr f)
  add_tags fr i f false no_list mine = added_none f
  add_tags fr i f true no_list mine = add_tag fr i (prior_tag toks fr i f) f (no_list refl) mine

  add_enumeration_tags : (fr : Frame) (i : ℕ) (f : Facts) (c : Bool) → (c ≡ true → fr.has_body ≡ false) → foreign i ≡ true
      → Added f (facts_at toks (role_if c (role_of EnRest 1 0)) i fr f)
  add_enumeration_tags fr i f false no_list mine = added_none f
  add_enumeration_tags fr i f true no_list mine = by fr.has_body (no_list refl)
    where
      by : (b : Bool) → b ≡ false → Added f (if b then with_tag toks fr i f else enumeration_used fr i (visible toks tags i i f) f)
      by true e = absurd (false≢true (sym e))
      by false e = add_enumeration fr i (visible toks tags i i f) f

  add_members_used : (fr : Frame) (i : ℕ) (f : Facts) (c d : Bool) → Added f (facts_at toks (if c then role_of Post 3 1 else role_if d (role_of Post 4 1)) i fr f)
  add_members_used fr i f true d = add_member_used i (member_at toks fr.given i f) f
  add_members_used fr i f false true = add_member_used i (member_at toks (target_of fr.given) i f) f
  add_members_used fr i f false false = added_none f

  add_primary : (fr : Frame) (i : ℕ) (f : Facts) (c : Bool) → Added f (facts_at toks (role_if c (role_of Primary 1 0)) i fr f)
  add_primary fr i f false = added_none f
  add_primary fr i f true = add_either (is_func toks fr i) f (used toks i f) (add_used i (visible toks ordinary i i f) f)

  add_type_name : (fr : Frame) (i : ℕ) (f : Facts) (c : Bool) → Added f (facts_at toks (role_if c (role_of Main 4 0)) i fr f)
  add_type_name fr i f false = added_none f
  add_type_name fr i f true = add_used i (visible toks ordinary i i f) f

  add_listed : (fr : Frame) (i : ℕ) (f : Facts) (c : Bool) → foreign i ≡ true → Added f (facts_at toks (role_if c (role_of Params 1 0)) i fr f)
  add_listed fr i f false mine = added_none f
  add_listed fr i f true mine = add_declared fr.scope (plain_name toks i i Parameter arithmetic true) f mine

  add_designators : (fr : Frame) (i : ℕ) (f : Facts) (c : Bool) → Added f (facts_at toks (role_if c (role_of Designator 1 1)) i fr f)
  add_designators fr i f false = added_none f
  add_designators fr i f true = add_designated (is_unknown fr.given) fr.given i f

  pub add_token : (fr : Frame) (i : ℕ) (f : Facts) (p : Production) (a n : ℕ) → (is_tagged (record { production = p; alternative = a }) ≡ true → fr.has_body ≡ false)
      → foreign i ≡ true → is_adding_token foreign p ≡ true → Added f (facts_at toks (role_of p a n) i fr f)
  add_token fr i f Primary a n no_list mine e = add_primary fr i f (a == 1)
  add_token fr i f Main a n no_list mine e = add_type_name fr i f ((a == 4) && (n == 0))
  add_token fr i f SuRest a n no_list mine e =
      add_tags fr i f ((a == 1) && (n == 0)) (λ h. no_list (left_or (a == 1) false ((and_parts (a == 1) (n == 0) h).0))) mine
  add_token fr i f EnRest a n no_list mine e =
      add_enumeration_tags fr i f ((a == 1) && (n == 0)) (λ h. no_list (right_or (a == 1) ((and_parts (a == 1) (n == 0) h).0))) mine
  add_token fr i f Params a n no_list mine e = add_listed fr i f ((a == 1) && (n % 2 == 0)) mine
  add_token fr i f Post a n no_list mine e = add_members_used fr i f ((a == 3) && (n == 1)) ((a == 4) && (n == 1))
  add_token fr i f Designator a n no_list mine e = add_designators fr i f ((a == 1) && (n == 1))
  add_token fr i f Statement a n no_list mine e = absurd (false≢true e)
  add_token fr i f _ a n no_list mine e = added_none f

  -- ---- A structure, union or enumeration without a tag

  plain_found : (fr : Frame) (i : ℕ) (f : Facts) (a n : ℕ) → (a == 2) ≡ true → ((a == 1) && (n == 0)) ≡ false
  plain_found fr i f a n e = ap (λ x. (x == 1) && (n == 0)) (eqb-true a 2 e)

  pub found_stays : (fr : Frame) (i : ℕ) (f : Facts) (p : Production) (a n : ℕ) → is_untagged (record { production = p; alternative = a }) ≡ true
      → found_at toks (role_of p a n) i fr f ≡ fr.found
  found_stays fr i f SuRest a n e = ap (λ c. found_at toks (role_if c (role_of SuRest 1 0)) i fr f) (plain_found fr i f a n (or_left (a == 2) e))
    where
      or_left : (c : Bool) → (c || false) ≡ true → c ≡ true
      or_left true e = refl
      or_left false e = e
  found_stays fr i f EnRest a n e = ap (λ c. found_at toks (role_if c (role_of EnRest 1 0)) i fr f) (plain_found fr i f a n e)
  found_stays fr i f _ a n e = absurd (false≢true e)

  pub after_stays : (fr : Frame) (l : Label) (under : Forest) (child : Frame) (p : Production) (a : ℕ) → is_untagged (record { production = p; alternative = a }) ≡ true
      → found_after toks p fr l under child ≡ fr.found
  after_stays fr l under child SuRest a e = refl
  after_stays fr l under child EnRest a e = refl
  after_stays fr l under child _ a e = absurd (false≢true e)

  pub found_foreign : (fr : Frame) (l : Label) (f : Facts) (p : Production) (a : ℕ) → foreign fr.token ≡ true → is_untagged (record { production = p; alternative = a }) ≡ true
      → foreign (number_in (found_in toks p l fr f)) ≡ true
  found_foreign fr l f SuRest a h e = by (bytes_eq (spelling_at toks fr.token) (codes "union"))
    where
      by : (c : Bool) → foreign (number_in (if c then union fr.token else structure fr.token)) ≡ true
      by true = h
      by false = h
  found_foreign fr l f EnRest a h e = h
  found_foreign fr l f _ a h e = absurd (false≢true e)

  -- ---- A node

  pub enter : (p : Production) (around l : Label) (within : Bool) (first : ℕ) (under : Forest) (fr : Frame) (f : Facts) → is_adding_node foreign p around within l under ≡ true
      → Added f (facts_in p first under fr f)
  enter FunBody around l within first under fr f e = absurd (false≢true e)
  enter _ around l within first under fr f e = added_none f

  add_declarator : (p : Production) (fr : Frame) (within : Bool) (l : Label) (under : Forest) (f : Facts) → (within ≡ true → foreign fr.owner ≡ true)
      → is_adding_declarator foreign p within l under ≡ true → Added f (declared_in toks p fr l under f)
  add_declarator ExtRest fr within l under f h e = absurd (false≢true e)
  add_declarator InitDecl fr within l under f h e = absurd (false≢true e)
  add_declarator Mdecl fr within l under f h e = add_member fr under (name_below l under) f (h ((and_parts within (names_foreign foreign l under) e).0))
  add_declarator _ fr within l under f h e = added_none f

  add_parameter_in : (p : Production) (fr : Frame) (l : Label) (under : Forest) (f : Facts) → is_adding_parameter foreign p l under ≡ true
      → Added f (parameter_in toks p fr l under f)
  add_parameter_in Param fr l under f e = add_parameter fr under (name_below l under) f e
  add_parameter_in _ fr l under f e = added_none f

  pub add_after : (p : Production) (fr : Frame) (within : Bool) (l : Label) (first : ℕ) (under : Forest) (body : Option Body) (f : Facts)
      → (within ≡ true → foreign fr.owner ≡ true) → (is_untagged fr.label ≡ true → foreign (number_in fr.found) ≡ true) → (ghosts.eq p Enumerator ≡ true → foreign first ≡ true)
      → is_adding_node foreign p fr.label within l under ≡ true → Added f (facts_after toks p first fr l under body f)
  add_after Declarator fr within l first under body f owner untagged mine e = add_declarator fr.label.production fr within l under f owner e
  add_after Pdecl fr within l first under body f owner untagged mine e = add_parameter_in fr.label.production fr l under f e
  add_after Enumerator fr within l first under body f owner untagged mine e =
      add_declared fr.scope (plain_name toks first (last_token under first) Constant arithmetic false) f (mine refl)
  add_after MemRest fr within l first under body f owner untagged mine e = by (l.alternative == 1)
    where
      by : (c : Bool) → Added f (if c then with_anonymous toks fr first f else f)
      by true = add_anonymous fr first f fr.words.anonymous (owner e)
      by false = added_none f
  add_after Members fr within l first under body f owner untagged mine e = add_complete (number_in fr.found) f (untagged e)
  add_after Enumerators fr within l first under body f owner untagged mine e = add_complete (number_in fr.found) f (untagged e)
  add_after FunBody fr within l first under body f owner untagged mine e = absurd (false≢true e)
  add_after _ fr within l first under body f owner untagged mine e = added_none f

  pub owner_foreign : (p : Production) (fr : Frame) (around l : Label) (within : Bool) (under : Forest) → fr.label ≡ around
      → (within ≡ true → foreign fr.owner ≡ true) → (is_untagged fr.label ≡ true → foreign (number_in fr.found) ≡ true)
      → is_adding_node foreign p around within l under ≡ true → within_of p within ≡ true → foreign (owner_in p fr) ≡ true
  owner_foreign Members fr around l within under same owner untagged e inside = untagged (ap is_untagged same ∙ e)
  owner_foreign _ fr around l within under same owner untagged e inside = owner inside

  pub no_list_in : (l : Label) (under : Forest) → has_no_list l under ≡ true → is_tagged l ≡ true → (has_node Members under || has_node Enumerators under) ≡ false
  no_list_in l under e t = by (is_tagged l) (has_node Members under || has_node Enumerators under) e t
    where
      by : (t c : Bool) → not (t && c) ≡ true → t ≡ true → c ≡ false
      by true true e f = sym e
      by true false e f = refl
      by false c e f = absurd (false≢true f)

  -- ---- The walk

  record Goes (within : Bool) (s t : State) : Type 0 where
    added : Added s.facts t.facts
    label : t.frame.label ≡ s.frame.label
    frame : IsAddingFrame foreign within t.frame

  passed_goes : (within : Bool) (i : ℕ) (s : State) → IsAddingFrame foreign within s.frame → foreign i ≡ true
      → is_adding_token foreign s.frame.label.production ≡ true → Goes within s (passed toks i s)
  passed_goes within i s h mine e =
      let l : Label = s.frame.label in
      record {
        added = add_token s.frame i s.facts l.production l.alternative s.frame.nth h.tagged mine e;
        label = refl;
        frame = record {
          token = mine;
          untagged = λ u. ap (λ t. foreign (number_in t)) (found_stays s.frame i s.facts l.production l.alternative s.frame.nth u) ∙ h.untagged u;
          owner = h.owner;
          tagged = h.tagged;
        };
      }

  entered_frame : (within : Bool) (l : Label) (first : ℕ) (under : Forest) (s : State) → IsAddingFrame foreign within s.frame
      → is_adding_node foreign l.production s.frame.label within l under ≡ true → has_no_list l under ≡ true
      → IsAddingFrame foreign (within_of l.production within) (entered toks l first under s).frame
  entered_frame within l first under s h e no_list = record {
    token = h.token;
    untagged = λ u. found_foreign s.frame l s.facts l.production l.alternative h.token u;
    owner = λ inside. owner_foreign l.production s.frame s.frame.label l within under refl h.owner h.untagged e inside;
    tagged = λ t. no_list_in l under no_list t;
  }

  walk_adds : (f : Forest) (within : Bool) (s : State) → IsAddingFrame foreign within s.frame → is_adding foreign within s.frame.label f ≡ true
      → Goes within s (walked toks f s)
  unfolding walked
  walk_adds none within s h e = record { added = added_none s.facts; label = refl; frame = h }
  walk_adds (token i rest) within s h e =
      let p = and_parts (foreign i) (is_adding_token foreign s.frame.label.production && is_adding foreign within s.frame.label rest) e in
      let q = and_parts (is_adding_token foreign s.frame.label.production) (is_adding foreign within s.frame.label rest) p.1 in
      let one : Goes within s (passed toks i s) = passed_goes within i s h p.0 q.0 in
      let more : Goes within (passed toks i s) (walked toks rest (passed toks i s)) = walk_adds rest within (passed toks i s) one.frame q.1 in
      record {
        added = added_both s.facts (passed toks i s).facts (walked toks rest (passed toks i s)).facts one.added more.added;
        label = more.label;
        frame = more.frame;
      }
  walk_adds (node l first under rest) within s h e =
      let around : Label = s.frame.label in
      let here : Bool = is_adding_node foreign l.production around within l under in
      let below : Bool = is_adding foreign (within_of l.production within) l under in
      let later : Bool = is_adding foreign within around rest in
      let p = and_parts (foreign first) (here && (has_no_list l under && (below && later))) e in
      let q = and_parts here (has_no_list l under && (below && later)) p.1 in
      let r = and_parts (has_no_list l under) (below && later) q.1 in
      let t = and_parts below later r.1 in
      let s1 : State = entered toks l first under s in
      let s2 : State = walked toks under s1 in
      let s3 : State = left toks l first under s s2 in
      let inside : Goes (within_of l.production within) s1 s2 =
      walk_adds under (within_of l.production within) s1 (entered_frame within l first under s h q.0 r.0) t.0 in
      let frame3 : IsAddingFrame foreign within s3.frame =
      record {
        token = h.token;
        untagged = λ u. ap (λ x. foreign (number_in x)) (after_stays s.frame l under s2.frame around.production around.alternative u) ∙ h.untagged u;
        owner = h.owner;
        tagged = h.tagged;
      } in
      let more : Goes within s3 (walked toks rest s3) = walk_adds rest within s3 frame3 t.1 in
      record {
        added = added_both s.facts s3.facts (walked toks rest s3).facts
            (added_both s.facts s2.facts s3.facts
            (added_both s.facts s1.facts s2.facts (enter l.production around l within first under s.frame s.facts q.0) inside.added)
            (add_after l.production s.frame within l first under s2.frame.body s2.facts h.owner h.untagged (λ x. p.0) q.0))
            more.added;
        label = more.label;
        frame = more.frame;
      }

pub parts_add_beside : PartsAddBeside
parts_add_beside toks foreign within f s h e owned clean =
    let goes = walk_adds toks foreign f within s h e in
    record {
      seen = goes.added.seen;
      first = refl;
      second = refl;
      owned = owned;
      begun = goes.added.begun;
      complete = goes.added.complete;
      fault = clean;
      own = [];
      bound = refl;
      again = refl;
    }
