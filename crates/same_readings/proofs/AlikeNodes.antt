-- The steps of a walk are the same where tokens are alike one another, and say the same by themselves.
use Rattle.std.proofs.Common.{ℕ, ◌+◌, ◌≡◌, Bool, true, false, ◌&&◌, ◌||◌, not, if◌then◌else◌, ◌==◌, List, Option, None, Some, is_some, refl, ap, ◌∙◌}
use Rattle.std.specs.Prelude.{codes}
use Rattle.std.specs.Option.{option_map_or}
use Rattle.cs_base.specs.Reserved.{is_built_in}
use Rattle.cs_base.specs.Token.{Token}
use Rattle.c99_tree.specs.Tree.{Forest}
use Rattle.c99_tree.specs.declared.production.Label.{Label}
use Rattle.c99_tree.specs.declared.production.Production.{Production}
use Rattle.c99_tree.specs.declared.production.Production.TheVariants.{ExtRest, FunBody, InitDecl, MemRest, Mdecl, Enumerator, Declarator, Param, Pdecl, SuRest, Unary, Add, Cond, Primary, Post, Args, Main, Block, BlockItem, Statement, AutoDecl, Operand, MemberPath, AttrItem}
use Rattle.c_types.specs.declared.entity.EntityKind.TheVariants.{Parameter, Enumerator as Constant}
use Rattle.c_types.specs.declared.frames.Position.{Position}
use Rattle.c_types.specs.Types.{CType, arithmetic, array, union, structure, pointer, pointed_to, sum_type, target_of, unknown}
use Rattle.c_types.specs.Trees.{name_below, last_token}
use Rattle.c_types.specs.Declarations.{Facts, spelling_at, alike, with_fault, with_declaration}
use Rattle.gnu_bind.specs.Below.scope_bind.Below.name_chains.Entering.{found_in}
use Rattle.gnu_bind.specs.Below.scope_bind.Below.name_chains.Frames.{State, state}
use Rattle.gnu_bind.specs.Below.scope_bind.Below.name_chains.Members.{member_used, member_type}
use Rattle.gnu_bind.specs.Below.scope_bind.Expressions.{is_sign, prefixed, of_unary, found_after}
use Rattle.gnu_bind.specs.Below.scope_bind.Named.{Declaration, Frame, Role, Scope, by_role, redeclared, ordinary, no_label}
use Rattle.gnu_bind.specs.Below.scope_bind.Ordinary.{used, used_type, is_func, named_facts, named_type, plain_name}
use Rattle.gnu_bind.specs.Below.scope_bind.Walk.{facts_at, found_at, position_at, declared_in, parameter_in, facts_after}
use Rattle.gnu_bind.specs.declared.roles.GnuRole.{GnuRole}
use Rattle.gnu_bind.specs.declared.roles.GnuRole.TheVariants.{Standard as standard, Name as name, BlockLabel as block_label, Label as label, Jump as jump, Address as address, Path as path, Brace as brace}
use Rattle.gnu_bind.specs.declared.senses.Sense.{Sense}
use Rattle.gnu_bind.specs.declared.senses.Special.{Special}
use Rattle.gnu_bind.specs.declared.senses.Special.TheVariants.{Usual as usual, Open as open_, Word as word, Fetch as fetch}
use Rattle.gnu_bind.specs.BlockLabels.{block_labels, block_label as declared_label, with_block_label, block_label_at, labelled_by, labelled, jumped_by, jumped}
use Rattle.gnu_bind.specs.Names.{names_function, is_unseen, is_word, implied_entity, implied_by, is_implied, implied, denoting, denoted_type, name_read, name_type, path_read, path_type}
use Rattle.gnu_bind.specs.Roles.{role_in}
use Rattle.gnu_bind.specs.Senses.{attribute_name, callee_in, is_fetch_by, away, special_in, sense_in}
use Rattle.gnu_bind.specs.Types.{is_extended, of_prefix, type_after}
use Rattle.gnu_bind.specs.Walk.{auto_name, auto_declared, type_in, frame_begun, begun, facts_by, type_by, place_by, read_as, read, facts_ended, frame_ended, ended}
use Rattle.gnu_bind.specs.Words.{is_path_sign, begins_call}
use Rattle.same_readings.specs.Alike.{AllSayTheSame, is_word_of_c}
use Rattle.same_readings.proofs.AlikeNames as names

module _ (a b : List Token) (spelled : (i j : ℕ) → alike b i j ≡ alike a i j) (words : AllSayTheSame a b) where
  -- ---- A node is entered

  found_in_same : (p : Production) (l : Label) (f : Frame) (facts : Facts) → found_in b p l f facts ≡ found_in a p l f facts
  found_in_same SuRest l f facts = ap (λ (c : Bool). if c then union f.token else structure f.token) ((words f.token).word (codes "union") refl)
  found_in_same p l f facts = refl

  type_in_same : (p : Production) (l : Label) (s : Special) (f : Frame) (facts : Facts) → type_in b p l s f facts ≡ type_in a p l s f facts
  type_in_same Primary l s f facts = refl
  type_in_same Unary l s f facts = refl
  type_in_same MemberPath l s f facts = refl
  type_in_same AutoDecl l s f facts = refl
  type_in_same Block l s f facts = refl
  type_in_same BlockItem l s f facts = refl
  type_in_same Statement l s f facts = refl
  type_in_same p l s f facts = found_in_same p l f facts

  pub begun_same : (l : Label) (first : ℕ) (under : Forest) (s : Sense) (t : State) → begun b l first under s t ≡ begun a l first under s t
  begun_same l first under s t =
      ap (λ (x : CType). record (begun a l first under s t) { frame = record (frame_begun a l under s.special t.frame t.facts) { found = x } })
      (type_in_same l.production l s.special t.frame t.facts)

  fetch_by_same : (o : Option ℕ) → is_fetch_by b o ≡ is_fetch_by a o
  fetch_by_same None = refl
  fetch_by_same (Some i) = (words i).fetch

  special_same : (p : Production) (under : Forest) (f : Frame) (s : Special) → special_in b p under f s ≡ special_in a p under f s
  special_same AttrItem under f s = ap (λ (c : Bool). if c then word else open_) ((words (attribute_name under)).attribute)
  special_same Unary under f s = ap (λ (c : Bool). if c then fetch else usual) (fetch_by_same (callee_in under))
  special_same p under f s = refl

  pub sense_same : (p : Production) (under : Forest) (f : Frame) (s : Sense) → sense_in b p under f s ≡ sense_in a p under f s
  sense_same p under f s = ap (λ (x : Special). record (sense_in a p under f s) { special = x }) (special_same p under f s.special)

  -- ---- A token is read

  func_same : (f : Frame) (i : ℕ) → is_func b f i ≡ is_func a f i
  func_same f i = ap (λ (c : Bool). (option_map_or (λ w. true) f.body false && not f.listing) && c) ((words i).word (codes "__func__") refl)

  named_same : (f : Frame) (i : ℕ) (facts : Facts) → named_facts b f i facts ≡ named_facts a f i facts
  named_same f i facts =
      ap (λ (c : Bool). if c then facts else used b i facts) (func_same f i)
      ∙ ap (λ (x : Facts). if is_func a f i then facts else x) (names.used_same a b spelled i facts)

  named_type_same : (f : Frame) (i : ℕ) (facts : Facts) → named_type b f i facts ≡ named_type a f i facts
  named_type_same f i facts =
      ap (λ (c : Bool). if c then array arithmetic else used_type b i facts) (func_same f i)
      ∙ ap (λ (x : CType). if is_func a f i then array arithmetic else x) (names.used_type_same a b spelled i facts)

  module _ (i : ℕ) (f : Frame) (facts : Facts) where
    facts_at_same : (r : Role) → facts_at b r i f facts ≡ facts_at a r i f facts
    facts_at_same r =
        by_role (λ (x : Role). facts_at b x i f facts ≡ facts_at a x i f facts) refl (named_same f i facts) (names.used_same a b spelled i facts)
        (names.tag_same a b spelled f i facts) (names.enumeration_same a b spelled f i facts)
        (names.declared_same a b spelled f.scope (plain_name a i i Parameter arithmetic true) facts)
        (names.member_used_same a b spelled f.given i facts) (names.member_used_same a b spelled (target_of f.given) i facts)
        (names.designated_same a b spelled f.given i facts) (names.label_same a b spelled f.body i facts) refl r

    found_at_same : (r : Role) → found_at b r i f facts ≡ found_at a r i f facts
    found_at_same r =
        by_role (λ (x : Role). found_at b x i f facts ≡ found_at a x i f facts) refl (named_type_same f i facts) (names.used_type_same a b spelled i facts)
        (names.tag_type_same a b spelled f i facts) (ap (λ (x : CType). if f.has_body then x else f.found) (names.tag_type_same a b spelled f i facts))
        refl (names.member_type_same a b spelled f.given i arithmetic facts) (names.member_type_same a b spelled (target_of f.given) i arithmetic facts)
        (names.designated_type_same a b spelled f.given i facts) refl refl r

    position_at_same : (r : Role) → position_at b r i f facts ≡ position_at a r i f facts
    position_at_same r =
        by_role (λ (x : Role). position_at b x i f facts ≡ position_at a x i f facts) refl refl refl refl refl refl refl refl
        (names.position_same a b spelled f.given i facts f.position) refl refl r

  -- identifiers in expressions of GNU C
  names_function_same : (f : Frame) (i : ℕ) → names_function b f i ≡ names_function a f i
  names_function_same f i = ap (λ (c : Bool). (option_map_or (λ w. true) f.body false && not f.listing) && c) ((words i).function_word)

  unseen_same : (i : ℕ) (facts : Facts) → is_unseen b i facts ≡ is_unseen a i facts
  unseen_same i facts = ap (λ (o : Option Declaration). not (is_some o)) (names.visible_same a b spelled ordinary i i facts)

  plain_word_same : (i : ℕ) (facts : Facts) → (is_built_in (spelling_at b i) && is_unseen b i facts) ≡ (is_built_in (spelling_at a i) && is_unseen a i facts)
  plain_word_same i facts =
      ap (λ (c : Bool). c && is_unseen b i facts) ((words i).built_in) ∙ ap (λ (c : Bool). is_built_in (spelling_at a i) && c) (unseen_same i facts)

  word_same : (s : Special) (i : ℕ) (facts : Facts) → is_word b s i facts ≡ is_word a s i facts
  word_same word i facts = refl
  word_same open_ i facts = unseen_same i facts
  word_same s i facts = plain_word_same i facts

  implied_call_same : (f : Frame) (i : ℕ) (facts : Facts) → is_implied b f i facts ≡ is_implied a f i facts
  implied_call_same f i facts =
      ap (λ (c : Bool). c && (is_unseen b i facts && not (is_func b f i))) ((words (i + 1)).call)
      ∙ (ap (λ (c : Bool). begins_call (spelling_at a (i + 1)) && (c && not (is_func b f i))) (unseen_same i facts)
      ∙ ap (λ (c : Bool). begins_call (spelling_at a (i + 1)) && (is_unseen a i facts && not c)) (func_same f i))

  implied_same : (scope : Scope) (i : ℕ) (facts : Facts) → implied b scope i facts ≡ implied a scope i facts
  implied_same scope i facts = ap (λ (o : Option Declaration). implied_by scope i (implied_entity i o) facts) (names.linked_same a b spelled i facts)

  denoting_same : (f : Frame) (i : ℕ) (facts : Facts) → denoting b f i facts ≡ denoting a f i facts
  denoting_same f i facts =
      ap (λ (c : Bool). if c then implied b f.scope i facts else named_facts b f i facts) (implied_call_same f i facts)
      ∙ (ap (λ (x : Facts). if is_implied a f i facts then x else named_facts b f i facts) (implied_same f.scope i facts)
      ∙ ap (λ (x : Facts). if is_implied a f i facts then implied a f.scope i facts else x) (named_same f i facts))

  denoted_type_same : (f : Frame) (i : ℕ) (facts : Facts) → denoted_type b f i facts ≡ denoted_type a f i facts
  denoted_type_same f i facts =
      ap (λ (c : Bool). if c then arithmetic else named_type b f i facts) (implied_call_same f i facts)
      ∙ ap (λ (x : CType). if is_implied a f i facts then arithmetic else x) (named_type_same f i facts)

  read_same_name : (s : Special) (f : Frame) (i : ℕ) (facts : Facts) → name_read b s f i facts ≡ name_read a s f i facts
  read_same_name s f i facts =
      ap (λ (c : Bool). if c || is_word b s i facts then facts else denoting b f i facts) (names_function_same f i)
      ∙ (ap (λ (c : Bool). if names_function a f i || c then facts else denoting b f i facts) (word_same s i facts)
      ∙ ap (λ (x : Facts). if names_function a f i || is_word a s i facts then facts else x) (denoting_same f i facts))

  type_same_name : (s : Special) (f : Frame) (i : ℕ) (facts : Facts) → name_type b s f i facts ≡ name_type a s f i facts
  type_same_name s f i facts =
      ap (λ (c : Bool). if c then array arithmetic else (if is_word b s i facts then unknown else denoted_type b f i facts)) (names_function_same f i)
      ∙ (ap (λ (c : Bool). if names_function a f i then array arithmetic else (if c then unknown else denoted_type b f i facts)) (word_same s i facts)
      ∙ ap (λ (x : CType). if names_function a f i then array arithmetic else (if is_word a s i facts then unknown else x)) (denoted_type_same f i facts))

  path_same : (f : Frame) (i : ℕ) (facts : Facts) → path_read b f i facts ≡ path_read a f i facts
  path_same f i facts =
      ap (λ (c : Bool). if c then facts else member_used b f.found i facts) ((words i).sign)
      ∙ ap (λ (x : Facts). if is_path_sign (spelling_at a i) then facts else x) (names.member_used_same a b spelled f.found i facts)

  path_type_same : (f : Frame) (i : ℕ) (facts : Facts) → path_type b f i facts ≡ path_type a f i facts
  path_type_same f i facts =
      ap (λ (c : Bool). if c then f.found else member_type b f.found i arithmetic facts) ((words i).sign)
      ∙ ap (λ (x : CType). if is_path_sign (spelling_at a i) then f.found else x) (names.member_type_same a b spelled f.found i arithmetic facts)

  -- labels
  block_label_same : (scope : Scope) (i : ℕ) (facts : Facts) → with_block_label b scope i facts ≡ with_block_label a scope i facts
  block_label_same scope i facts =
      ap (λ (o : Option Declaration). with_declaration (declared_label scope i) (with_fault (is_some o) redeclared i facts))
      (names.in_scope_same a b spelled block_labels scope.depth i i facts)

  label_at_same : (s : Sense) (i : ℕ) (facts : Facts) → block_label_at b s i facts ≡ block_label_at a s i facts
  label_at_same s i facts = ap (λ (o : Option Declaration). if s.labels then o else None) (names.visible_same a b spelled block_labels i i facts)

  labelled_by_same : (o : Option Declaration) (s : Sense) (f : Frame) (i : ℕ) (facts : Facts) → labelled_by b o s f i facts ≡ labelled_by a o s f i facts
  labelled_by_same None s f i facts =
      ap (λ (x : Facts). if s.homeless then with_fault true no_label i facts else x) (names.label_same a b spelled f.body i facts)
  labelled_by_same (Some d) s f i facts = refl

  labelled_same : (s : Sense) (f : Frame) (i : ℕ) (facts : Facts) → labelled b s f i facts ≡ labelled a s f i facts
  labelled_same s f i facts =
      ap (λ (o : Option Declaration). labelled_by b o s f i facts) (label_at_same s i facts) ∙ labelled_by_same (block_label_at a s i facts) s f i facts

  jumped_by_same : (o : Option Declaration) (s : Sense) (i : ℕ) (facts : Facts) → jumped_by b o s i facts ≡ jumped_by a o s i facts
  jumped_by_same None s i facts = refl
  jumped_by_same (Some d) s i facts = refl

  jumped_same : (s : Sense) (i : ℕ) (facts : Facts) → jumped b s i facts ≡ jumped a s i facts
  jumped_same s i facts = ap (λ (o : Option Declaration). jumped_by b o s i facts) (label_at_same s i facts) ∙ jumped_by_same (block_label_at a s i facts) s i facts

  facts_by_same : (r : GnuRole) (s : Sense) (i : ℕ) (f : Frame) (facts : Facts) → facts_by b r s i f facts ≡ facts_by a r s i f facts
  facts_by_same (standard r) s i f facts = facts_at_same i f facts r
  facts_by_same name s i f facts = read_same_name s.special f i facts
  facts_by_same block_label s i f facts = block_label_same f.scope i facts
  facts_by_same label s i f facts = labelled_same s f i facts
  facts_by_same jump s i f facts = jumped_same s i facts
  facts_by_same address s i f facts = jumped_same (away s f) i facts
  facts_by_same path s i f facts = path_same f i facts
  facts_by_same brace s i f facts = refl

  type_by_same : (r : GnuRole) (s : Sense) (i : ℕ) (f : Frame) (facts : Facts) → type_by b r s i f facts ≡ type_by a r s i f facts
  type_by_same (standard r) s i f facts = found_at_same i f facts r
  type_by_same name s i f facts = type_same_name s.special f i facts
  type_by_same path s i f facts = path_type_same f i facts
  type_by_same block_label s i f facts = refl
  type_by_same label s i f facts = refl
  type_by_same jump s i f facts = refl
  type_by_same address s i f facts = refl
  type_by_same brace s i f facts = refl

  place_by_same : (r : GnuRole) (i : ℕ) (f : Frame) (facts : Facts) → place_by b r i f facts ≡ place_by a r i f facts
  place_by_same (standard r) i f facts = position_at_same i f facts r
  place_by_same r i f facts = refl

  read_as_same : (r : GnuRole) (s : Sense) (i : ℕ) (t : State) → read_as b r s i t ≡ read_as a r s i t
  read_as_same r s i t =
      ap (λ (x : Facts). state x (read_as b r s i t).frame) (facts_by_same r s i t.frame t.facts)
      ∙ (ap (λ (x : CType). state (read_as a r s i t).facts (record (read_as b r s i t).frame { found = x })) (type_by_same r s i t.frame t.facts)
      ∙ ap (λ (x : Position). state (read_as a r s i t).facts (record (read_as a r s i t).frame { position = x })) (place_by_same r i t.frame t.facts))

  pub read_same : (s : Sense) (i : ℕ) (t : State) → read b s i t ≡ read a s i t
  read_same s i t = read_as_same (role_in t.frame.label.production t.frame.label.alternative t.frame.nth) s i t

  -- ---- A node is left

  sign_same : (i : ℕ) → ((w : List ℕ) → is_word_of_c w ≡ true → is_sign b i w ≡ is_sign a i w)
  sign_same i w is = (words i).word w is

  prefixed_same : (sign : ℕ) (t : CType) → prefixed b sign t ≡ prefixed a sign t
  prefixed_same sign t =
      ap (λ (c : Bool). if c || is_sign b sign (codes "--") then t
      else (if is_sign b sign (codes "&") then pointer t else (if is_sign b sign (codes "*") then pointed_to t else arithmetic))) (sign_same sign (codes "++") refl)
      ∙ (ap (λ (c : Bool). if is_sign a sign (codes "++") || c then t
      else (if is_sign b sign (codes "&") then pointer t else (if is_sign b sign (codes "*") then pointed_to t else arithmetic))) (sign_same sign (codes "--") refl)
      ∙ (ap (λ (c : Bool). if is_sign a sign (codes "++") || is_sign a sign (codes "--") then t
      else (if c then pointer t else (if is_sign b sign (codes "*") then pointed_to t else arithmetic))) (sign_same sign (codes "&") refl)
      ∙ ap (λ (c : Bool). if is_sign a sign (codes "++") || is_sign a sign (codes "--") then t
      else (if is_sign a sign (codes "&") then pointer t else (if c then pointed_to t else arithmetic))) (sign_same sign (codes "*") refl)))

  unary_same : (f child : Frame) → of_unary b f child ≡ of_unary a f child
  unary_same f child =
      ap (λ (t : CType). if f.label.alternative == 1 then t else (if f.label.alternative == 2 then arithmetic else child.found)) (prefixed_same f.token child.found)

  found_after_same : (p : Production) (f : Frame) (l : Label) (under : Forest) (child : Frame) → found_after b p f l under child ≡ found_after a p f l under child
  found_after_same Add f l under child =
      ap (λ (c : Bool). if f.nth == 0 then child.found else sum_type c f.found child.found) (sign_same f.token (codes "-") refl)
  found_after_same Unary f l under child = unary_same f child
  found_after_same p f l under child = refl

  prefix_same : (f child : Frame) → of_prefix b f child ≡ of_prefix a f child
  prefix_same f child =
      ap (λ (c : Bool). if (f.label.alternative == 1) && c then child.found else of_unary b f child) ((words f.token).extension)
      ∙ ap (λ (t : CType). if is_extended a f then child.found else t) (unary_same f child)

  type_after_same : (p : Production) (s : Special) (f : Frame) (l : Label) (under : Forest) (child : Frame) → type_after b p s f l under child ≡ type_after a p s f l under child
  type_after_same Unary s f l under child = prefix_same f child
  type_after_same Cond s f l under child = refl
  type_after_same Primary s f l under child = refl
  type_after_same Args s f l under child = refl
  type_after_same Post s f l under child = refl
  type_after_same Main s f l under child = refl
  type_after_same Operand s f l under child = refl
  type_after_same MemberPath s f l under child = refl
  type_after_same AutoDecl s f l under child = refl
  type_after_same Block s f l under child = refl
  type_after_same BlockItem s f l under child = refl
  type_after_same Statement s f l under child = refl
  type_after_same p s f l under child = found_after_same p f l under child

  declared_in_same : (p : Production) (f : Frame) (l : Label) (under : Forest) (facts : Facts) → declared_in b p f l under facts ≡ declared_in a p f l under facts
  declared_in_same ExtRest f l under facts = names.object_same a b spelled f under (name_below l under) facts
  declared_in_same InitDecl f l under facts = names.object_same a b spelled f under (name_below l under) facts
  declared_in_same Mdecl f l under facts = names.member_same a b spelled f under (name_below l under) facts
  declared_in_same p f l under facts = refl

  parameter_in_same : (p : Production) (f : Frame) (l : Label) (under : Forest) (facts : Facts) → parameter_in b p f l under facts ≡ parameter_in a p f l under facts
  parameter_in_same Param f l under facts = names.parameter_same a b spelled f under (name_below l under) facts
  parameter_in_same p f l under facts = refl

  after_same : (p : Production) (first : ℕ) (f : Frame) (l : Label) (under : Forest) (child : Frame) (facts : Facts)
      → facts_after b p first f l under child.body facts ≡ facts_after a p first f l under child.body facts
  after_same Declarator first f l under child facts = declared_in_same f.label.production f l under facts
  after_same Pdecl first f l under child facts = parameter_in_same f.label.production f l under facts
  after_same Enumerator first f l under child facts =
      names.declared_same a b spelled f.scope (plain_name a first (last_token under first) Constant arithmetic false) facts
  after_same MemRest first f l under child facts =
      ap (λ (x : Facts). if l.alternative == 1 then x else facts) (names.anonymous_same a b spelled f first facts)
  after_same FunBody first f l under child facts = names.labels_same a b spelled child.body facts
  after_same p first f l under child facts = refl

  ended_facts_same : (p : Production) (first : ℕ) (f : Frame) (l : Label) (under : Forest) (child : Frame) (facts : Facts)
      → facts_ended b p first f l under child facts ≡ facts_ended a p first f l under child facts
  ended_facts_same AutoDecl first f l under child facts =
      names.declared_same a b spelled f.scope (auto_declared f (auto_name under) (last_token under 0) child.found) facts
  ended_facts_same p first f l under child facts = after_same p first f l under child facts

  ended_frame_same : (s : Special) (f : Frame) (l : Label) (under : Forest) (child : Frame) → frame_ended b s f l under child ≡ frame_ended a s f l under child
  ended_frame_same s f l under child =
      ap (λ (t : CType). record (frame_ended a s f l under child) { found = t }) (type_after_same f.label.production s f l under child)

  pub ended_same : (s : Sense) (l : Label) (first : ℕ) (under : Forest) (t t' : State) → ended b s l first under t t' ≡ ended a s l first under t t'
  ended_same s l first under t t' =
      ap (λ (x : Facts). state x (ended b s l first under t t').frame) (ended_facts_same l.production first t.frame l under t'.frame t'.facts)
      ∙ ap (λ (x : Frame). state (ended a s l first under t t').facts x) (ended_frame_same s.special t.frame l under t'.frame)
