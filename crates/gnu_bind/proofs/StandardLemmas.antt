-- The walk over a text that uses nothing of GNU C is that of the standards.
use Rattle.std.proofs.Common.{ℕ, ◌+◌, ◌≡◌, Bool, true, false, ◌&&◌, ◌||◌, not, if◌then◌else◌, ◌==◌, ◌%◌, List, [], Option, None, Some, refl, sym, ap, ◌∙◌}
use Rattle.std.specs.Option.{option_map_or, option_or}
use Rattle.std.proofs.lemmas.Bool.{false≢true, and_parts}
use Rattle.cs_base.specs.Token.{Token}
use Rattle.cs_base.specs.declared.ws_units.Standard.TheVariants.{C99, C11, Gnu99, Gnu11}
use Rattle.cs_base.proofs.BoolLemmas.{and_false, not_true, or_left, or_right_none as or_right}
use Rattle.c99_tree.specs.Tree.{Forest, none, token, node}
use Rattle.c99_tree.specs.declared.production.Label.{Label}
use Rattle.c99_tree.specs.declared.production.Production.{Production}
use Rattle.c99_tree.specs.declared.production.Production.TheVariants.{External, FunBody, Declaration, Declarator, SuRest, Members, Enumerators, InitItem, Cond, Unary, Primary, Post, Args, TypeName, Main, Mod, Block, BlockItem, Statement, AutoDecl, Attr, AttrItem, Operand, MemberPath, AsmPart}
use Rattle.c99_tree.specs.contracts.production.ProductionPartialEq.TheImpl.{ghosts}
use Rattle.c_types.specs.Types.{CType, arithmetic, nothing, unknown, array, pointer, adjusted}
use Rattle.c_types.specs.Trees.{is_node, is_list, has_node, last_token, first_list, is_one, is_lone_main, is_bare}
use Rattle.c_types.specs.Shapes.{is_end}
use Rattle.c_types.specs.Declarations.{Facts}
use Rattle.c_types.specs.declared.frames.Frame.{Frame}
use Rattle.scope_bind.specs.Below.name_chains.Frames.{State}
use Rattle.scope_bind.specs.Below.name_chains.Entering.{found_in, alone_in, frame_in, entered}
use Rattle.scope_bind.specs.declared.roles.Role.{Role}
use Rattle.scope_bind.specs.declared.roles.Role.TheVariants.{Plain, Primary as APrimary, Label as ALabel, Jump as AJump, Designated}
use Rattle.scope_bind.specs.Roles.{role_if, role_of}
use Rattle.scope_bind.specs.Ordinary.{named_facts, named_type}
use Rattle.scope_bind.specs.Expressions.{found_after, of_unary, of_main}
use Rattle.scope_bind.specs.Walk.{passed_as, passed, facts_after, kept_after, frame_after, left, walked as standard_walked}
use Rattle.gnu_bind.specs.declared.senses.Special.{Special}
use Rattle.gnu_bind.specs.declared.senses.Special.TheVariants.{Usual as usual, Fetch as fetch, Choice as choice, Value as value}
use Rattle.gnu_bind.specs.declared.senses.Sense.{Sense}
use Rattle.gnu_bind.specs.Senses.{omits_second, declares_labels, special_if, is_fetch_by, callee_in, special_in, is_outside, is_homeless, is_labelling, sense_in, usual_sense}
use Rattle.gnu_bind.specs.declared.roles.GnuRole.{GnuRole}
use Rattle.gnu_bind.specs.declared.roles.GnuRole.TheVariants.{Standard, Name, BlockLabel as NewBlockLabel, Label as NewLabel, Jump as NewJump, Address as NewAddress, Brace}
use Rattle.gnu_bind.specs.Roles.{gnu_if, is_brace, role_in}
use Rattle.gnu_bind.specs.Names.{names_function, is_word, is_unseen, is_implied, implied, denoting, denoted_type}
use Rattle.gnu_bind.specs.OpenLists.{open_list, open_after}
use Rattle.gnu_bind.specs.Types.{is_extended, type_after}
use Rattle.gnu_bind.specs.Alone.{is_attribute, has_other, is_one_specifier, is_lone_specifier, ends_in, is_lone, stands_alone}
use Rattle.gnu_bind.specs.Walk.{type_in, has_braces, begun, read_as, facts_ended, ended, walked}
use Rattle.gnu_bind.specs.Standards.{HasNoWord, is_shared, is_token_place, is_child, is_old, has_some, is_unextended, has_block, is_form, is_filled, is_standard, StandardsBindAlike}

usual_either : (c : Bool) → special_if c usual ≡ usual
usual_either true = refl
usual_either false = refl

-- ---- Specifiers alone

not_attr : (p q : Production) → is_child p q ≡ true → ghosts.eq q Attr ≡ false
not_attr p Attr c = absurd (false≢true c)
not_attr p _ c = refl

-- what is said of a node among the children, and of what stands behind it
child_parts : (l m : Label) (k first : ℕ) (under rest : Forest) → is_standard l k (node m first under rest) ≡ true
    → (is_child l.production m.production ≡ true) × ((is_standard m 0 under ≡ true) × (is_standard l (k + 1) rest ≡ true))
child_parts l m k first under rest e =
    let around : Bool = is_shared l.production && is_old l.production l.alternative in
    let inside : Bool = is_old m.production m.alternative && (is_form m.production under && is_filled m under) in
    let all = and_parts (around && (is_child l.production m.production && inside)) (is_standard m 0 under && is_standard l (k + 1) rest) e in
    let here = and_parts around (is_child l.production m.production && inside) all.0 in
    ((and_parts (is_child l.production m.production) inside here.1).0, and_parts (is_standard m 0 under) (is_standard l (k + 1) rest) all.1)

behind_token : (l : Label) (k i : ℕ) (rest : Forest) → is_standard l k (token i rest) ≡ true → is_standard l (k + 1) rest ≡ true
behind_token l k i rest e = (and_parts (is_token_place l.production l.alternative k) (is_standard l (k + 1) rest) e).1

no_attr : (l : Label) (k : ℕ) (f : Forest) → is_standard l k f ≡ true → has_node Attr f ≡ false
no_attr l k none e = refl
no_attr l k (token i rest) e = no_attr l (k + 1) rest (behind_token l k i rest e)
no_attr l k (node m first under rest) e =
    let h = child_parts l m k first under rest e in
    ap (λ b. b || has_node Attr rest) (not_attr l.production m.production h.0) ∙ no_attr l (k + 1) rest h.1.1

no_attribute : (l m : Label) (k first : ℕ) (under rest : Forest) → is_standard l k (node m first under rest) ≡ true → is_attribute m under ≡ false
no_attribute l m k first under rest e =
    ap (λ b. is_node m Mod && b) (no_attr m 0 under (child_parts l m k first under rest e).1.0) ∙ and_false (is_node m Mod)

one_same : (l : Label) (k : ℕ) (f : Forest) → is_standard l k f ≡ true → is_one_specifier f ≡ is_one f
one_same l k none e = refl
one_same l k (token i rest) e = refl
one_same l k (node m first under none) e = refl
one_same l k (node m first under (token i rest)) e = refl
one_same l k (node m first under (node o second below rest)) e =
    ap (λ b. not (not b || has_other rest)) (no_attribute l o (k + 1) second below rest (child_parts l m k first under (node o second below rest) e).1.1)

lone_same : (l : Label) (k : ℕ) (f : Forest) → is_standard l k f ≡ true → is_lone_specifier f ≡ is_lone_main f
lone_same l k none e = refl
lone_same l k (token i rest) e = refl
lone_same l k (node m first under rest) e =
    ap (λ b. if b then is_lone_specifier rest else is_end rest && is_one_specifier under) (no_attribute l m k first under rest e)
    ∙ (ap (λ b. is_end rest && b) (one_same m 0 under (child_parts l m k first under rest e).1.0) ∙ by rest)
  where
    by : (r : Forest) → (is_end r && is_one under) ≡ is_lone_main (node m first under r)
    by none = refl
    by (token i r) = refl
    by (node o second below r) = refl

none_lone : (f : Forest) → has_some f ≡ false → is_lone f ≡ false
none_lone none e = refl
none_lone (token i rest) e = none_lone rest e
none_lone (node l first under rest) e = absurd (false≢true (sym e))

bare_same : (l : Label) (k : ℕ) (f : Forest) → is_unextended f ≡ true → is_standard l k f ≡ true → is_lone f ≡ is_bare f
bare_same l k none u e = refl
bare_same l k (token i rest) u e = none_lone rest (not_true (has_some rest) u)
bare_same l k (node m first specs rest) u e =
    ap (λ b. ends_in rest && b) (lone_same m 0 specs (child_parts l m k first specs rest e).1.0) ∙ by rest
  where
    by : (r : Forest) → (ends_in r && is_lone_main specs) ≡ is_bare (node m first specs r)
    by none = refl
    by (token i r) = refl
    by (node o second below none) = refl
    by (node o second below (token i r)) = refl
    by (node o second below (node p third under r)) = refl

alone_same : (p : Production) (l : Label) (under : Forest) (f : Frame) → is_form p under ≡ true → is_standard l 0 under ≡ true
    → stands_alone p under f ≡ alone_in p under f
alone_same External l under f e w = bare_same l 0 under e w
alone_same Declaration l under f e w = bare_same l 0 under e w
alone_same _ l under f e w = refl

-- ---- The list with whose names a body begins

open_same : (f : Forest) → has_block f ≡ false → open_list f ≡ first_list f
open_same none e = refl
open_same (token i rest) e = open_same rest e
open_same (node l first under rest) e =
    let more = or_right (is_node l Block) (has_block under || has_block rest) e in
    let here : Option ℕ = Some (last_token under 0) in
    ap (λ b. if is_list l then here else option_or (if b then None else open_list under) (open_list rest)) (or_left (is_node l Block) (has_block under || has_block rest) e)
    ∙ (ap (λ o. if is_list l then here else option_or o (open_list rest)) (open_same under (or_left (has_block under) (has_block rest) more))
    ∙ ap (λ o. if is_list l then here else option_or (first_list under) o) (open_same rest (or_right (has_block under) (has_block rest) more)))

kept_same : (p : Production) (n : ℕ) (f : Frame) (under : Forest) → is_form p under ≡ true
    → open_after f (record { production = p; alternative = n }) under ≡ kept_after [] f (record { production = p; alternative = n }) under
kept_same Declarator n f under e = open_same under (not_true (has_block under) e)
kept_same _ n f under e = refl

-- What is so of facts behind a step of the standards was so before it, and where it is so behind a name none is called that is not visible.
pub record GoesBack (toks : List Token) (P : Facts → Type 0) : Type 0 where
  pub seen : (f : Frame) (i : ℕ) (facts : Facts) → P (named_facts toks f i facts) → is_implied toks f i facts ≡ false
  pub passed : (r : Role) (i : ℕ) (t : State) → P (passed_as toks r i t).facts → P t.facts
  pub entered : (l : Label) (first : ℕ) (under : Forest) (t : State) → P (entered toks l first under t).facts → P t.facts
  pub left : (l : Label) (first : ℕ) (under : Forest) (t t' : State) → P (left toks l first under t t').facts → P t'.facts

module _ (toks : List Token) (h : HasNoWord toks) (P : Facts → Type 0) (law : GoesBack toks P) where
  -- ---- A token is read

  names_none : (f : Frame) (i : ℕ) → names_function toks f i ≡ false
  names_none f i =
      let inside : Bool = option_map_or (λ b. true) f.body false && not f.listing in
      ap (λ c. inside && c) (h.names i) ∙ and_false inside

  abbrev read_so : ℕ → State → Facts → CType → State
  read_so i t facts found = record {
    facts = facts;
    frame = record t.frame { nth = t.frame.nth + 1; token = i; found = found; position = t.frame.position };
  }

  name_same : (c : Bool) (i : ℕ) (t : State) → P (passed_as toks (role_if c APrimary) i t).facts
      → read_as toks (gnu_if c Name) usual_sense i t ≡ passed_as toks (role_if c APrimary) i t
  name_same false i t p = refl
  name_same true i t p =
      let f : Frame = t.frame in
      let word : Bool = is_word toks usual i t.facts in
      let no_word : word ≡ false = ap (λ c. c && is_unseen toks i t.facts) (h.functions i) in
      let facts : Facts = denoting toks f i t.facts in
      let type : CType = denoted_type toks f i t.facts in
      ap (λ c. read_so i t (if c || word then t.facts else facts) (if c then array arithmetic else (if word then unknown else type))) (names_none f i)
      ∙ (ap (λ c. read_so i t (if c then t.facts else facts) (if c then unknown else type)) no_word
      ∙ ap (λ c. read_so i t (if c then implied toks f.scope i t.facts else named_facts toks f i t.facts) (if c then arithmetic else named_type toks f i t.facts))
      (law.seen f i t.facts p))

  label_same : (c d : Bool) (i : ℕ) (t : State)
      → read_as toks (if c then NewLabel else gnu_if d NewJump) usual_sense i t ≡ passed_as toks (if c then ALabel else role_if d AJump) i t
  label_same true d i t = refl
  label_same false true i t = refl
  label_same false false i t = refl

  brace_same : (c : Bool) (r : Role) (i : ℕ) (t : State) → not c ≡ true → read_as toks (if c then Brace else Standard r) usual_sense i t ≡ passed_as toks r i t
  brace_same true r i t e = absurd (false≢true e)
  brace_same false r i t e = refl

  designated_same : (c : Bool) (i : ℕ) (t : State) → not c ≡ true → read_as toks (Standard (role_if c Designated)) usual_sense i t ≡ passed_as toks Plain i t
  designated_same true i t e = absurd (false≢true e)
  designated_same false i t e = refl

  other_same : (c : Bool) (g : GnuRole) (i : ℕ) (t : State) → not c ≡ true → read_as toks (gnu_if c g) usual_sense i t ≡ passed_as toks Plain i t
  other_same true g i t e = absurd (false≢true e)
  other_same false g i t e = refl

  read_same : (p : Production) (a k i : ℕ) (t : State) → is_token_place p a k ≡ true → P (passed_as toks (role_of p a k) i t).facts
      → read_as toks (role_in p a k) usual_sense i t ≡ passed_as toks (role_of p a k) i t
  read_same Primary a k i t e so = name_same (a == 1) i t so
  read_same SuRest a k i t e so = brace_same (is_brace a k) (role_of SuRest a k) i t e
  read_same InitItem a k i t e so = designated_same ((a == 2) && (k == 0)) i t e
  read_same Unary a k i t e so = other_same ((a == 4) && (k == 1)) NewAddress i t e
  read_same MemberPath a k i t e so = absurd (false≢true e)
  read_same BlockItem a k i t e so = other_same ((a == 7) && (k % 2 == 1)) NewBlockLabel i t e
  read_same Statement a k i t e so = label_same ((a == 1) && (k == 0)) ((a == 10) && (k == 1)) i t
  read_same AsmPart a k i t e so = absurd (false≢true e)
  read_same _ a k i t e so = refl

  -- ---- The sense of a node

  fetch_none : (o : Option ℕ) → is_fetch_by toks o ≡ false
  fetch_none None = refl
  fetch_none (Some i) = h.fetches i

  special_same : (p : Production) (under : Forest) (f : Frame) → is_child f.label.production p ≡ true → is_form p under ≡ true → special_in toks p under f usual ≡ usual
  special_same AttrItem under f c e = absurd (false≢true c)
  special_same Args under f c e = usual_either _
  special_same Primary under f c e = usual_either _
  special_same Post under f c e = usual_either _
  special_same Unary under f c e = ap (λ b. special_if b fetch) (fetch_none (callee_in under))
  special_same Cond under f c e = ap (λ b. special_if b choice) (not_true (omits_second under) e)
  special_same Block under f c e = ap (λ b. special_if b value) (not_true (is_node f.label Primary) c)
  special_same BlockItem under f c e = refl
  special_same Statement under f c e = refl
  special_same _ under f c e = refl

  at_home : (p : Production) (f : Frame) → is_child f.label.production p ≡ true → is_homeless toks p f ≡ false
  at_home Block f c = ap (λ b. b && is_outside f) (not_true (is_node f.label Primary) c)
  at_home _ f c = refl

  no_labels : (p : Production) (under : Forest) → is_form p under ≡ true → is_labelling toks p under ≡ false
  no_labels Block under e = not_true (declares_labels under) e
  no_labels FunBody under e = not_true (declares_labels under) e
  no_labels _ under e = refl

  abbrev sense_so : Special → Bool → Bool → Sense
  sense_so special homeless labels = record { special = special; homeless = homeless; labels = labels }

  sense_same : (p : Production) (under : Forest) (f : Frame) → is_child f.label.production p ≡ true → is_form p under ≡ true → sense_in toks p under f usual_sense ≡ usual_sense
  sense_same p under f c e =
      ap (λ x. sense_so x (is_homeless toks p f) (is_labelling toks p under)) (special_same p under f c e)
      ∙ (ap (λ x. sense_so usual x (is_labelling toks p under)) (at_home p f c) ∙ ap (λ x. sense_so usual false x) (no_labels p under e))

  -- ---- A node is entered

  type_same : (p q : Production) (l : Label) (f : Frame) (facts : Facts) → is_child q p ≡ true → is_old p l.alternative ≡ true
      → type_in toks p l usual f facts ≡ found_in toks p l f facts
  type_same Primary q l f facts c e =
      ap (λ b. if b then unknown else found_in toks Primary l f facts) (or_left (l.alternative == 6) (l.alternative == 9) (not_true ((l.alternative == 6) || (l.alternative == 9)) e))
  type_same Unary q l f facts c e = ap (λ b. if b then pointer nothing else arithmetic) (not_true (l.alternative == 4) e)
  type_same MemberPath q l f facts c e = absurd (false≢true c)
  type_same AutoDecl q l f facts c e = absurd (false≢true c)
  type_same Block q l f facts c e = refl
  type_same BlockItem q l f facts c e = refl
  type_same Statement q l f facts c e = refl
  type_same _ q l f facts c e = refl

  filled : (m e b : Bool) → (m || not b) ≡ true → ((m || e) || b) ≡ (m || e)
  filled true e b w = refl
  filled false e true w = absurd (false≢true w)
  filled false true false w = refl
  filled false false false w = refl

  abbrev begun_so : Label → ℕ → Forest → State → Bool → Bool → CType → State
  begun_so l first under t alone has_body found = record {
    facts = (entered toks l first under t).facts;
    frame = record (frame_in toks l under t.frame t.facts) { alone = alone; has_body = has_body; found = found };
  }

  begun_same : (l : Label) (first : ℕ) (under : Forest) (t : State) → is_child t.frame.label.production l.production ≡ true → is_old l.production l.alternative ≡ true
      → is_form l.production under ≡ true → is_standard l 0 under ≡ true → is_filled l under ≡ true
      → begun toks l first under usual_sense t ≡ entered toks l first under t
  begun_same l first under t c e form all w =
      ap (λ b. begun_so l first under t b ((has_node Members under || has_node Enumerators under) || has_braces l under) (type_in toks l.production l usual t.frame t.facts)) (alone_same l.production l under t.frame form all)
      ∙ (ap (λ b. begun_so l first under t (alone_in l.production under t.frame) b (type_in toks l.production l usual t.frame t.facts))
      (filled (has_node Members under) (has_node Enumerators under) (has_braces l under) w)
      ∙ ap (begun_so l first under t (alone_in l.production under t.frame) (has_node Members under || has_node Enumerators under)) (type_same l.production t.frame.label.production l t.frame t.facts c e))

  -- ---- A node is left

  facts_same : (p q : Production) (first : ℕ) (f : Frame) (l : Label) (under : Forest) (child : Frame) (facts : Facts) → is_child q p ≡ true
      → facts_ended toks p first f l under child facts ≡ facts_after toks p first f l under child.body facts
  facts_same AutoDecl q first f l under child facts c = absurd (false≢true c)
  facts_same _ q first f l under child facts c = refl

  no_block : (q : Production) → is_child Primary q ≡ true → ghosts.eq q Block ≡ false
  no_block Block c = absurd (false≢true c)
  no_block _ c = refl

  no_path : (q : Production) → is_child Primary q ≡ true → ghosts.eq q MemberPath ≡ false
  no_path MemberPath c = absurd (false≢true c)
  no_path _ c = refl

  no_specifier : (q : Production) → is_child Main q ≡ true → (ghosts.eq q Operand || ghosts.eq q TypeName) ≡ false
  no_specifier Operand c = absurd (false≢true c)
  no_specifier TypeName c = absurd (false≢true c)
  no_specifier _ c = refl

  extended_none : (f : Frame) → is_extended toks f ≡ false
  extended_none f = ap (λ c. (f.label.alternative == 1) && c) (h.extensions f.token) ∙ and_false (f.label.alternative == 1)

  after_same : (p : Production) (f : Frame) (l : Label) (under : Forest) (child : Frame) → is_shared p ≡ true → is_old p f.label.alternative ≡ true
      → is_child p l.production ≡ true → type_after toks p usual f l under child ≡ found_after toks p f l under child
  after_same Cond f l under child s e c = refl
  after_same Unary f l under child s e c = ap (λ b. if b then child.found else of_unary toks f child) (extended_none f)
  after_same Primary f l under child s e c =
      let old : ((f.label.alternative == 6) || (f.label.alternative == 9)) ≡ false = not_true ((f.label.alternative == 6) || (f.label.alternative == 9)) e in
      ap (λ b. if b then adjusted child.found else (if (f.label.alternative == 6) || (f.label.alternative == 9) then f.found else (if is_node l MemberPath then arithmetic else child.found))) (no_block l.production c)
      ∙ (ap (λ b. if b then f.found else (if is_node l MemberPath then arithmetic else child.found)) old
      ∙ ap (λ b. if b then arithmetic else child.found) (no_path l.production c))
  after_same Args f l under child s e c = refl
  after_same Post f l under child s e c = refl
  after_same Main f l under child s e c = ap (λ b. if b then child.found else of_main f l child) (no_specifier l.production c)
  after_same Operand f l under child s e c = absurd (false≢true s)
  after_same MemberPath f l under child s e c = absurd (false≢true s)
  after_same AutoDecl f l under child s e c = absurd (false≢true s)
  after_same Block f l under child s e c = refl
  after_same BlockItem f l under child s e c = refl
  after_same Statement f l under child s e c = refl
  after_same _ f l under child s e c = refl

  abbrev ended_so : Label → Forest → State → State → Option ℕ → Facts → CType → State
  ended_so l under t t' kept facts found = record { facts = facts; frame = record (frame_after toks t.frame l under t'.frame) { kept = kept; found = found } }

  ended_same : (l : Label) (first : ℕ) (under : Forest) (t t' : State) → is_shared t.frame.label.production ≡ true → is_old t.frame.label.production t.frame.label.alternative ≡ true
      → is_child t.frame.label.production l.production ≡ true → is_form l.production under ≡ true
      → ended toks usual_sense l first under t t' ≡ left toks l first under t t'
  ended_same l first under t t' s e c form =
      let kept : Option ℕ = kept_after [] t.frame l under in
      ap (λ k. ended_so l under t t' k (facts_ended toks l.production first t.frame l under t'.frame t'.facts) (type_after toks t.frame.label.production usual t.frame l under t'.frame))
      (kept_same l.production l.alternative t.frame under form)
      ∙ (ap (λ x. ended_so l under t t' kept x (type_after toks t.frame.label.production usual t.frame l under t'.frame))
      (facts_same l.production t.frame.label.production first t.frame l under t'.frame t'.facts c)
      ∙ ap (ended_so l under t t' kept (facts_after toks l.production first t.frame l under t'.frame.body t'.facts))
      (after_same t.frame.label.production t.frame l under t'.frame s e c))

  -- ---- The walk

  walk_back : (f : Forest) (t : State) → P (standard_walked toks f t).facts → P t.facts
  unfolding standard_walked
  walk_back none t so = so
  walk_back (token i rest) t so = law.passed (role_of t.frame.label.production t.frame.label.alternative t.frame.nth) i t (walk_back rest (passed toks i t) so)
  walk_back (node m first under rest) t so =
      let t' : State = standard_walked toks under (entered toks m first under t) in
      law.entered m first under t (walk_back under (entered toks m first under t) (law.left m first under t t' (walk_back rest (left toks m first under t t') so)))

  pub walked_same : (f : Forest) (t : State) → is_standard t.frame.label t.frame.nth f ≡ true → P (standard_walked toks f t).facts
      → walked toks usual_sense f t ≡ standard_walked toks f t
  unfolding walked standard_walked
  walked_same none t e so = refl
  walked_same (token i rest) t e so =
      let l : Label = t.frame.label in
      let parts = and_parts (is_token_place l.production l.alternative t.frame.nth) (is_standard l (t.frame.nth + 1) rest) e in
      ap (walked toks usual_sense rest) (read_same l.production l.alternative t.frame.nth i t parts.0 (walk_back rest (passed toks i t) so))
      ∙ walked_same rest (passed toks i t) parts.1 so
  walked_same (node m first under rest) t e so =
      let l : Label = t.frame.label in
      let around : Bool = is_shared l.production && is_old l.production l.alternative in
      let inside : Bool = is_form m.production under && is_filled m under in
      let kind : Bool = is_child l.production m.production && (is_old m.production m.alternative && inside) in
      let all = and_parts (around && kind) (is_standard m 0 under && is_standard l (t.frame.nth + 1) rest) e in
      let here = and_parts around kind all.0 in
      let of_l = and_parts (is_shared l.production) (is_old l.production l.alternative) here.0 in
      let of_m = and_parts (is_child l.production m.production) (is_old m.production m.alternative && inside) here.1 in
      let old = and_parts (is_old m.production m.alternative) inside of_m.1 in
      let form = and_parts (is_form m.production under) (is_filled m under) old.1 in
      let below = and_parts (is_standard m 0 under) (is_standard l (t.frame.nth + 1) rest) all.1 in
      let t' : State = standard_walked toks under (entered toks m first under t) in
      let so' : P t'.facts = law.left m first under t t' (walk_back rest (left toks m first under t t') so) in
      ap (λ s. walked toks usual_sense rest (ended toks usual_sense m first under t (walked toks s under (begun toks m first under s t))))
      (sense_same m.production under t.frame of_m.0 form.0)
      ∙ (ap (λ b. walked toks usual_sense rest (ended toks usual_sense m first under t (walked toks usual_sense under b))) (begun_same m first under t of_m.0 old.0 form.0 below.0 form.1)
      ∙ (ap (λ b. walked toks usual_sense rest (ended toks usual_sense m first under t b)) (walked_same under (entered toks m first under t) below.0 so')
      ∙ (ap (walked toks usual_sense rest) (ended_same m first under t t' of_l.0 of_l.1 of_m.0 form.0)
      ∙ walked_same rest (left toks m first under t t') below.1 so)))

pub by_standards : StandardsBindAlike
by_standards C99 toks tree = refl
by_standards C11 toks tree = refl
by_standards Gnu99 toks tree = refl
by_standards Gnu11 toks tree = refl
