-- The outline of the walk follows the walk.
use Rattle.std.proofs.Common.{ℕ, ◌+◌, ◌≡◌, Bool, true, false, ◌&&◌, ◌||◌, not, if◌then◌else◌, ◌==◌, ◌%◌, List, [], ◌∷◌, ◌++◌, Option, None, Some, refl, sym, ap, ◌∙◌}
use Rattle.std.specs.Prelude.{find, filter_map, is_some}
use Rattle.std.specs.List.{cons_option}
use Rattle.std.specs.Option.{option_map_or}
use Rattle.c99_grammar.specs.declared.dialects.Edition.{Edition}
use Rattle.cs_base.specs.Token.{Token}
use Rattle.c99_tree.specs.Tree.{Forest, none, token, node}
use Rattle.c99_tree.specs.declared.production.Label.{Label}
use Rattle.c99_tree.specs.declared.production.Production.{Production}
use Rattle.c99_tree.specs.declared.production.Production.TheVariants.{TranslationUnit, ExtRest, FunBody, InitDecl, Specs, Members, MemRest, Mdecl, Main, SuRest, EnRest, Params, Primary, Post, Designator, Statement, Pdirect, Enumerators, Enumerator, Declarator, Param, Pdecl}
use Rattle.c99_grammar.specs.Standard.{iso}
use Rattle.c99_read.specs.State.{base_at, is_identifier}
use Rattle.c_types.specs.declared.entity.EntityKind.TheVariants.{Object, Function, Typedef, Parameter, Enumerator as Constant}
use Rattle.scope_bind.specs.Named.{Body, Cause, Declaration, Declared, Frame, Role, Scope, ordinary, tags, members, labels, undeclared, tag_redefined, redeclared, mixed_linkage, designator_after_elision}
use Rattle.c_types.specs.Types.{CType, adjusted, arithmetic, is_function, is_unknown, target_of}
use Rattle.c_types.specs.Trees.{last_token, name_below, is_at, is_node, words_of, declarator_type}
use Rattle.c_types.specs.Declarations.{Facts, is_space, is_live, is_typedef_name, has_linkage, alike, is_named, in_scope, is_mixed, with_fault, with_use, with_declaration, with_begun, visible, anywhere}
use Rattle.name_chains.specs.Frames.{State}
use Rattle.scope_bind.specs.Ordinary.{is_listed, is_again, used, used_as, is_func, declared_faults, declared_after, declared, plain_name, new_object, with_object, with_parameter}
use Rattle.c_types.specs.Tags.{number_in, with_tag, tag_declaration, tag_named, tag_entity, is_same_tag, is_declaring, prior_tag, enumeration_used}
use Rattle.name_chains.specs.Members.{lifted, found_of, unnamed_declaration, with_silent, with_lifted, with_anonymous, with_member, member_used_as, member_at}
use Rattle.scope_bind.specs.Labels.{with_label, with_jumps, jump_to, with_labels}
use Rattle.name_chains.specs.Entering.{is_member, kept_here, with_kept, facts_in, entered}
use Rattle.scope_bind.specs.Roles.{role_of}
use Rattle.scope_bind.specs.Walk.{facts_at, passed, declared_in, parameter_in, facts_after, left, walked}
use Rattle.tree_laws.specs.Agreeing.{is_read_so, is_named_so, agrees}
use Rattle.tree_laws.proofs.Outline.{Entry, entry, Outline, added, is_listing, stepped, copies, kept_entries, entries_in, begun, named_entries, in_declaration, in_parameter, entries_after, ended, outlined, is_open, typedef_among, token_agrees, node_agrees, all_agree}

-- the ordinary declarations
abbrev pub entry_of : Declaration → Entry
entry_of d = record { name_at = d.name_at; typedef = is_typedef_name d.kind; depth = d.depth; from = d.from; to = d.to; member = is_member d.space }

abbrev pub entries_of : List Declaration → List Entry
entries_of [] = []
entries_of (d ∷ ds) = if is_space d.space ordinary then entry_of d ∷ entries_of ds else entries_of ds

-- what the outline keeps of a state
abbrev pub outline : State → Outline
outline s = record {
  entries = entries_of s.facts.declared;
  label = s.frame.label;
  nth = s.frame.nth;
  scope = s.frame.scope;
  typedef = s.frame.words.has_typedef;
  kept = s.frame.kept;
}

-- ---- Steps that declare no ordinary identifier

fault_same : (c : Bool) (cause : Cause) (i : ℕ) (facts : Facts) → (with_fault c cause i facts).declared ≡ facts.declared
fault_same true cause i facts = refl
fault_same false cause i facts = refl

module _ (std : Edition) where
  module _ (toks : List Token) where
    used_same : (i : ℕ) (r : Option Declaration) (facts : Facts) → (used_as toks i r facts).declared ≡ facts.declared
    used_same i None facts = refl
    used_same i (Some d) facts = refl

    named_same : (c : Bool) (i : ℕ) (facts : Facts) → (if c then facts else used toks i facts).declared ≡ facts.declared
    named_same true i facts = refl
    named_same false i facts = used_same i (visible toks ordinary i i facts) facts

    faults_same : (a b c : Bool) (x y z : Cause) (i : ℕ) (facts : Facts)
        → (with_fault a x i (with_fault b y i (with_fault c z i facts))).declared ≡ facts.declared
    faults_same a b c x y z i facts =
        fault_same a x i (with_fault b y i (with_fault c z i facts)) ∙ (fault_same b y i (with_fault c z i facts) ∙ fault_same c z i facts)

    prior_same : (n : Declared) (prior : Option Declaration) (facts : Facts) → (declared_faults toks n prior facts).declared ≡ facts.declared
    prior_same n prior facts =
        faults_same (n.listing && not (is_listed n prior)) (option_map_or (λ d. not (is_again n d)) prior false)
        (has_linkage n.linkage && is_mixed toks n.linkage n.name_at facts) undeclared redeclared mixed_linkage n.name_at facts

    -- a declaration of an ordinary identifier
    declared_here : (scope : Scope) (n : Declared) (prior : Option Declaration) (facts : Facts)
        → entries_of (declared_after toks scope n prior facts).declared
        ≡ entry n.name_at (is_typedef_name n.kind) scope.depth (n.last + 1) scope.to ∷ entries_of facts.declared
    declared_here scope n prior facts =
        ap (λ ds. entry n.name_at (is_typedef_name n.kind) scope.depth (n.last + 1) scope.to ∷ entries_of ds)
        (prior_same n prior facts)

    declared_new : (scope : Scope) (n : Declared) (facts : Facts)
        → entries_of (declared toks scope n facts).declared
        ≡ entry n.name_at (is_typedef_name n.kind) scope.depth (n.last + 1) scope.to ∷ entries_of facts.declared
    declared_new scope n facts = declared_here scope n (in_scope toks ordinary scope.depth n.name_at n.last facts) facts

    kind_of_object : (a b c : Bool) → is_typedef_name (if a then Typedef else (if b then Parameter else (if c then Function else Object))) ≡ a
    kind_of_object true b c = refl
    kind_of_object false true c = refl
    kind_of_object false false true = refl
    kind_of_object false false false = refl

    object_here : (f : Frame) (under : Forest) (i : Option ℕ) (facts : Facts) (s : Outline)
        → s.scope ≡ f.scope → s.typedef ≡ f.words.has_typedef
        → entries_of (with_object toks f under i facts).declared ≡ named_entries s i under (entries_of facts.declared)
    object_here f under None facts s same typed = refl
    object_here f under (Some i) facts s same typed =
        declared_new f.scope (new_object toks f i (last_token under i) (declarator_type f.base under) facts) facts
        ∙ (ap (λ (t : Bool). entry i t f.scope.depth (last_token under i + 1) f.scope.to ∷ entries_of facts.declared)
        (kind_of_object f.words.has_typedef f.listing (is_function (declarator_type f.base under)) ∙ sym typed)
        ∙ ap (λ (c : Scope). entry i s.typedef c.depth (last_token under i + 1) c.to ∷ entries_of facts.declared) (sym same))

    parameter_case : (c : Bool) (f : Frame) (i last : ℕ) (t u : CType) (facts : Facts)
        → entries_of (declared toks f.scope (if c then plain_name toks i last Typedef t false else plain_name toks i last Parameter u false) facts).declared
        ≡ entry i c f.scope.depth (last + 1) f.scope.to ∷ entries_of facts.declared
    parameter_case true f i last t u facts = declared_new f.scope (plain_name toks i last Typedef t false) facts
    parameter_case false f i last t u facts = declared_new f.scope (plain_name toks i last Parameter u false) facts

    parameter_here : (f : Frame) (under : Forest) (i : Option ℕ) (facts : Facts) (s : Outline)
        → s.scope ≡ f.scope → s.typedef ≡ f.words.has_typedef
        → entries_of (with_parameter toks f under i facts).declared ≡ named_entries s i under (entries_of facts.declared)
    parameter_here f under None facts s same typed = refl
    parameter_here f under (Some i) facts s same typed =
        parameter_case f.words.has_typedef f i (last_token under i) (declarator_type f.base under) (adjusted (declarator_type f.base under)) facts
        ∙ (ap (λ (t : Bool). entry i t f.scope.depth (last_token under i + 1) f.scope.to ∷ entries_of facts.declared) (sym typed)
        ∙ ap (λ (c : Scope). entry i s.typedef c.depth (last_token under i + 1) c.to ∷ entries_of facts.declared) (sym same))

    -- ---- Tags, members and labels

    tag_case : (c b : Bool) (f : Frame) (i e u : ℕ) (t : CType) (facts : Facts)
        → entries_of (if c then with_begun b e (with_declaration (tag_declaration f.scope i e t) facts) else with_use i u facts).declared ≡ entries_of facts.declared
    tag_case true true f i e u t facts = refl
    tag_case true false f i e u t facts = refl
    tag_case false b f i e u t facts = refl

    tag_here : (f : Frame) (i : ℕ) (facts : Facts) → entries_of (with_tag toks f i facts).declared ≡ entries_of facts.declared
    tag_here f i facts =
        let prior = prior_tag toks f i facts in
        let e = tag_entity f i facts prior in
        ap entries_of (fault_same (option_map_or (λ d. not (is_same_tag f facts d)) prior false) tag_redefined i (tag_named f i prior e facts))
        ∙ tag_case (is_declaring f prior) f.has_body f i e _ _ facts

    enumeration_same : (f : Frame) (i : ℕ) (r : Option Declaration) (facts : Facts) → (enumeration_used f i r facts).declared ≡ facts.declared
    enumeration_same f i None facts = refl
    enumeration_same f i (Some d) facts = fault_same _ undeclared i _ ∙ fault_same _ tag_redefined i facts

    enumeration_case : (c : Bool) (f : Frame) (i : ℕ) (r : Option Declaration) (facts : Facts)
        → entries_of (if c then with_tag toks f i facts else enumeration_used f i r facts).declared ≡ entries_of facts.declared
    enumeration_case true f i r facts = tag_here f i facts
    enumeration_case false f i r facts = ap entries_of (enumeration_same f i r facts)

    member_same : (i : ℕ) (r : Option Declaration) (facts : Facts) → (member_used_as toks i r facts).declared ≡ facts.declared
    member_same i None facts = refl
    member_same i (Some d) facts = refl

    designated_case : (c : Bool) (i : ℕ) (r : Option Declaration) (facts : Facts)
        → (if c then with_fault true designator_after_elision i facts else member_used_as toks i r facts).declared ≡ facts.declared
    designated_case true i r facts = refl
    designated_case false i r facts = member_same i r facts

    label_here : (b : Option Body) (i : ℕ) (facts : Facts) → entries_of (with_label toks b i facts).declared ≡ entries_of facts.declared
    label_here None i facts = refl
    label_here (Some b) i facts = ap entries_of (fault_same _ redeclared i facts)

    jumped_same : (i : ℕ) (r : Option Declaration) (facts : Facts) → (jump_to toks i r facts).declared ≡ facts.declared
    jumped_same i None facts = refl
    jumped_same i (Some d) facts = refl

    jumps_same : (b : Body) (js : List ℕ) (facts : Facts) → (with_jumps toks b js facts).declared ≡ facts.declared
    jumps_same b [] facts = refl
    jumps_same b (i ∷ later) facts = jumps_same b later _ ∙ jumped_same i (anywhere toks (labels b.from) i facts) facts

    labels_same : (b : Option Body) (facts : Facts) → (with_labels toks b facts).declared ≡ facts.declared
    labels_same None facts = refl
    labels_same (Some b) facts = jumps_same b facts.jumps facts

    member_here : (f : Frame) (under : Forest) (i : Option ℕ) (facts : Facts)
        → entries_of (with_member toks f under i facts).declared ≡ entries_of facts.declared
    member_here f under None facts = refl
    member_here f under (Some i) facts = ap entries_of (fault_same _ redeclared i facts)

    -- ---- Names that a body begins with

    entries_append : (xs ys : List Declaration) → entries_of (xs ++ ys) ≡ entries_of xs ++ entries_of ys
    entries_append [] ys = refl
    entries_append (x ∷ xs) ys = by (is_space x.space ordinary) (entries_append xs ys)
      where
        by : (c : Bool) → entries_of (xs ++ ys) ≡ entries_of xs ++ entries_of ys
            → (if c then entry_of x ∷ entries_of (xs ++ ys) else entries_of (xs ++ ys)) ≡ (if c then entry_of x ∷ entries_of xs else entries_of xs) ++ entries_of ys
        by true e = ap (λ es. entry_of x ∷ es) e
        by false e = e

    either_way : {X : Type 0} (c : Bool) (x : X) → (if c then x else x) ≡ x
    either_way true x = refl
    either_way false x = refl

    module _ (list depth from to : ℕ) where
      behind : (c : Bool) (d : Declaration) (rest : List Declaration)
          → entries_of (cons_option (if c then Some (record d { from = from; to = to }) else None) rest)
          ≡ (if c then (if is_space d.space ordinary then record (entry_of d) { from = from; to = to } ∷ entries_of rest else entries_of rest) else entries_of rest)
      behind true d rest = refl
      behind false d rest = refl

      copy_case : (o c : Bool) (e : Entry) (rest es : List Entry) → rest ≡ copies list depth from to es
          → (if c then (if o then record e { from = from; to = to } ∷ rest else rest) else rest)
          ≡ (if o then (if c then record e { from = from; to = to } ∷ copies list depth from to es else copies list depth from to es) else copies list depth from to es)
      copy_case true true e rest es same = ap (λ r. record e { from = from; to = to } ∷ r) same
      copy_case true false e rest es same = same
      copy_case false c e rest es same = either_way c rest ∙ same

      spread : (o : Bool) (e : Entry) (es : List Entry)
          → copies list depth from to (if o then e ∷ es else es)
          ≡ (if o then (if (e.to == list) && ((e.depth == depth) && not e.member) then record e { from = from; to = to } ∷ copies list depth from to es else copies list depth from to es) else copies list depth from to es)
      spread true e es = refl
      spread false e es = refl

      entries_copies : (ds : List Declaration) → entries_of (filter_map (kept_here list depth from to) ds) ≡ copies list depth from to (entries_of ds)
      entries_copies [] = refl
      entries_copies (d ∷ ds) =
          behind ((d.to == list) && ((d.depth == depth) && not (is_member d.space))) d (filter_map (kept_here list depth from to) ds)
          ∙ (copy_case (is_space d.space ordinary) ((d.to == list) && ((d.depth == depth) && not (is_member d.space))) (entry_of d)
          (entries_of (filter_map (kept_here list depth from to) ds)) (entries_of ds) (entries_copies ds)
          ∙ sym (spread (is_space d.space ordinary) (entry_of d) (entries_of ds)))

    kept_same : (list : Option ℕ) (depth from to : ℕ) (facts : Facts)
        → entries_of (with_kept list depth from to facts).declared ≡ kept_entries list depth from to (entries_of facts.declared)
    kept_same None depth from to facts = refl
    kept_same (Some list) depth from to facts =
        entries_append (filter_map (kept_here list depth from to) facts.declared) facts.declared
        ∙ ap (λ es. es ++ entries_of facts.declared) (entries_copies list depth from to facts.declared)

    -- ---- Tokens and nodes

    in_same : (p : Production) (first : ℕ) (under : Forest) (s : State)
        → entries_of (facts_in p first under s.frame s.facts).declared ≡ entries_in p first under s.frame.kept s.frame.scope.depth (entries_of s.facts.declared)
    in_same FunBody first under s = kept_same s.frame.kept (s.frame.scope.depth + 1) first (last_token under 0) (record s.facts { jumps = [] })
    in_same _ first under s = refl

    -- the roles, by a place of each
    abbrev plain_role : Role
    plain_role = role_of TranslationUnit 0 0

    abbrev KeepsThem : ℕ → State → Role → Type 0
    KeepsThem i s r = entries_of (facts_at toks r i s.frame s.facts).declared ≡ entries_of s.facts.declared

    kept_if : (i : ℕ) (s : State) (c : Bool) (r r' : Role) → KeepsThem i s r → KeepsThem i s r' → KeepsThem i s (if c then r else r')
    kept_if i s true r r' h k = h
    kept_if i s false r r' h k = k

    listed_if : (i : ℕ) (s : State) (c : Bool)
        → entries_of (facts_at toks (if c then role_of Params 1 0 else plain_role) i s.frame s.facts).declared
        ≡ (if c then added (outline s) i false i (entries_of s.facts.declared) else entries_of s.facts.declared)
    listed_if i s true = declared_new s.frame.scope (plain_name toks i i Parameter arithmetic true) s.facts
    listed_if i s false = refl

    primary_kept : (i : ℕ) (s : State) → KeepsThem i s (role_of Primary 1 0)
    primary_kept i s = ap entries_of (named_same (is_func toks s.frame i) i s.facts)

    type_kept : (i : ℕ) (s : State) → KeepsThem i s (role_of Main 4 0)
    type_kept i s = ap entries_of (used_same i (visible toks ordinary i i s.facts) s.facts)

    tag_kept : (i : ℕ) (s : State) → KeepsThem i s (role_of SuRest 1 0)
    tag_kept i s = tag_here s.frame i s.facts

    enumeration_kept : (i : ℕ) (s : State) → KeepsThem i s (role_of EnRest 1 0)
    enumeration_kept i s = enumeration_case s.frame.has_body s.frame i (visible toks tags i i s.facts) s.facts

    member_kept : (i : ℕ) (s : State) → KeepsThem i s (role_of Post 3 1)
    member_kept i s = ap entries_of (member_same i (member_at toks s.frame.given i s.facts) s.facts)

    pointed_kept : (i : ℕ) (s : State) → KeepsThem i s (role_of Post 4 1)
    pointed_kept i s = ap entries_of (member_same i (member_at toks (target_of s.frame.given) i s.facts) s.facts)

    designated_kept : (i : ℕ) (s : State) → KeepsThem i s (role_of Designator 1 1)
    designated_kept i s = ap entries_of (designated_case (is_unknown s.frame.given) i (member_at toks s.frame.given i s.facts) s.facts)

    label_kept : (i : ℕ) (s : State) → KeepsThem i s (role_of Statement 1 0)
    label_kept i s = label_here s.frame.body i s.facts

    role_is : (p : Production) (a k i : ℕ) (s : State)
        → entries_of (facts_at toks (role_of p a k) i s.frame s.facts).declared
        ≡ (if is_listing p a k then added (outline s) i false i (entries_of s.facts.declared) else entries_of s.facts.declared)
    role_is Primary a k i s = kept_if i s (a == 1) (role_of Primary 1 0) plain_role (primary_kept i s) refl
    role_is Main a k i s = kept_if i s ((a == 4) && (k == 0)) (role_of Main 4 0) plain_role (type_kept i s) refl
    role_is SuRest a k i s = kept_if i s ((a == 1) && (k == 0)) (role_of SuRest 1 0) plain_role (tag_kept i s) refl
    role_is EnRest a k i s = kept_if i s ((a == 1) && (k == 0)) (role_of EnRest 1 0) plain_role (enumeration_kept i s) refl
    role_is Params a k i s = listed_if i s ((a == 1) && (k % 2 == 0))
    role_is Post a k i s =
        kept_if i s ((a == 3) && (k == 1)) (role_of Post 3 1) (if (a == 4) && (k == 1) then role_of Post 4 1 else plain_role) (member_kept i s)
        (kept_if i s ((a == 4) && (k == 1)) (role_of Post 4 1) plain_role (pointed_kept i s) refl)
    role_is Designator a k i s = kept_if i s ((a == 1) && (k == 1)) (role_of Designator 1 1) plain_role (designated_kept i s) refl
    role_is Statement a k i s =
        kept_if i s ((a == 1) && (k == 0)) (role_of Statement 1 0) (if (a == 10) && (k == 1) then role_of Statement 10 1 else plain_role) (label_kept i s)
        (kept_if i s ((a == 10) && (k == 1)) (role_of Statement 10 1) plain_role refl refl)
    role_is _ a k i s = refl

    passed_same : (i : ℕ) (s : State) → outline (passed toks i s) ≡ stepped i (outline s)
    passed_same i s =
        ap (λ es. record (stepped i (outline s)) { entries = es })
        (role_is s.frame.label.production s.frame.label.alternative s.frame.nth i s)

    entered_same : (l : Label) (first : ℕ) (under : Forest) (s : State) → outline (entered toks l first under s) ≡ begun l first under (outline s)
    entered_same l first under s = ap (λ es. record (begun l first under (outline s)) { entries = es }) (in_same l.production first under s)

    declaration_same : (p : Production) (f : Frame) (l : Label) (under : Forest) (facts : Facts) (o : Outline)
        → o.scope ≡ f.scope → o.typedef ≡ f.words.has_typedef
        → entries_of (declared_in toks p f l under facts).declared ≡ in_declaration p o l under (entries_of facts.declared)
    declaration_same ExtRest f l under facts o same typed = object_here f under (name_below l under) facts o same typed
    declaration_same InitDecl f l under facts o same typed = object_here f under (name_below l under) facts o same typed
    declaration_same Mdecl f l under facts o same typed = member_here f under (name_below l under) facts
    declaration_same _ f l under facts o same typed = refl

    parameter_same : (p : Production) (f : Frame) (l : Label) (under : Forest) (facts : Facts) (o : Outline)
        → o.scope ≡ f.scope → o.typedef ≡ f.words.has_typedef
        → entries_of (parameter_in toks p f l under facts).declared ≡ in_parameter p o l under (entries_of facts.declared)
    parameter_same Param f l under facts o same typed = parameter_here f under (name_below l under) facts o same typed
    parameter_same _ f l under facts o same typed = refl

    -- names of anonymous members are no ordinary identifiers
    lifted_same : (owner : ℕ) (ds : List Declaration) (facts : Facts) → entries_of (with_lifted toks owner ds facts).declared ≡ entries_of facts.declared
    lifted_same owner [] facts = refl
    lifted_same owner (d ∷ later) facts =
        let twice : Bool = is_some (anywhere toks (members owner) d.name_at facts) in
        lifted_same owner later (with_silent (lifted owner d) (with_fault twice redeclared d.name_at facts))
        ∙ ap entries_of (fault_same twice redeclared d.name_at facts)

    anonymous_same : (c : Bool) (f : Frame) (i : ℕ) (facts : Facts)
        → entries_of (if c then with_silent (unnamed_declaration f i) (with_lifted toks f.owner (found_of (number_in f.base) facts) facts) else facts).declared
        ≡ entries_of facts.declared
    anonymous_same true f i facts = lifted_same f.owner (found_of (number_in f.base) facts) facts
    anonymous_same false f i facts = refl

    closed_same : (c : Bool) (f : Frame) (i : ℕ) (facts : Facts)
        → entries_of (if c then with_anonymous toks f i facts else facts).declared ≡ entries_of facts.declared
    closed_same true f i facts = anonymous_same f.words.anonymous f i facts
    closed_same false f i facts = refl

    after_same : (p : Production) (first : ℕ) (s : State) (l : Label) (under : Forest) (b : Option Body) (facts : Facts)
        → entries_of (facts_after toks p first s.frame l under b facts).declared ≡ entries_after p first (outline s) l under (entries_of facts.declared)
    after_same Declarator first s l under b facts = declaration_same s.frame.label.production s.frame l under facts (outline s) refl refl
    after_same Pdecl first s l under b facts = parameter_same s.frame.label.production s.frame l under facts (outline s) refl refl
    after_same Enumerator first s l under b facts = declared_new s.frame.scope (plain_name toks first (last_token under first) Constant arithmetic false) facts
    after_same MemRest first s l under b facts = closed_same (l.alternative == 1) s.frame first facts
    after_same Members first s l under b facts = refl
    after_same Enumerators first s l under b facts = refl
    after_same FunBody first s l under b facts = ap entries_of (labels_same b facts)
    after_same _ first s l under b facts = refl

    through : {X Y : Type 0} (c : Bool) (x y : X) (f : X → Y) → f (if c then x else y) ≡ (if c then f x else f y)
    through true x y f = refl
    through false x y f = refl

    pub left_same : (l : Label) (first : ℕ) (under : Forest) (s s' : State)
        → outline (left toks l first under s s') ≡ ended l first under (outline s) (outline s')
    left_same l first under s s' =
        ap (λ es. record (outline (left toks l first under s s')) { entries = es }) (after_same l.production first s l under s'.frame.body s'.facts)
        ∙ ap (λ t. record (ended l first under (outline s) (outline s')) { typedef = t }) (through (is_node l Specs) (words_of under) s.frame.words (λ w. w.has_typedef))

    pub walked_same : (f : Forest) (s : State) → outline (walked toks f s) ≡ outlined f (outline s)
    unfolding walked
    walked_same none s = refl
    walked_same (token i rest) s = walked_same rest (passed toks i s) ∙ ap (outlined rest) (passed_same i s)
    walked_same (node l first under rest) s =
        let before : State = entered toks l first under s in
        let inside : State = walked toks under before in
        walked_same rest (left toks l first under s inside)
        ∙ ap (outlined rest) (left_same l first under s inside
        ∙ ap (ended l first under (outline s)) (walked_same under before ∙ ap (outlined under) (entered_same l first under s)))

    -- ---- What is read as it is bound

    among_case : (c : Bool) (e : Entry) (r : Option Entry)
        → option_map_or (λ (x : Entry). x.typedef) (if c then Some e else r) false ≡ (if c then e.typedef else option_map_or (λ (x : Entry). x.typedef) r false)
    among_case true e r = refl
    among_case false e r = refl

    pub among_step : (i : ℕ) (e : Entry) (es : List Entry)
        → typedef_among std toks i (e ∷ es) ≡ (if alike toks i e.name_at && is_open i e then e.typedef else typedef_among std toks i es)
    among_step i e es = among_case (alike toks i e.name_at && is_open i e) e _

    among_spread : (o : Bool) (i : ℕ) (e : Entry) (es : List Entry)
        → typedef_among std toks i (if o then e ∷ es else es)
        ≡ (if o then (if alike toks i e.name_at && is_open i e then e.typedef else typedef_among std toks i es) else typedef_among std toks i es)
    among_spread true i e es = among_step i e es
    among_spread false i e es = refl

    denotes_case : (c : Bool) (d : Declaration) (r : Option Declaration)
        → option_map_or (λ (x : Declaration). is_typedef_name x.kind) (if c then Some d else r) false
        ≡ (if c then is_typedef_name d.kind else option_map_or (λ (x : Declaration). is_typedef_name x.kind) r false)
    denotes_case true d r = refl
    denotes_case false d r = refl

    mixed : (o a l t x y : Bool) → x ≡ y → (if (o && a) && l then t else x) ≡ (if o then (if a && l then t else y) else y)
    mixed true true true t x y same = refl
    mixed true true false t x y same = same
    mixed true false l t x y same = same
    mixed false a l t x y same = same

    pub denotes_among : (i : ℕ) (ds : List Declaration)
        → option_map_or (λ (d : Declaration). is_typedef_name d.kind) (find (λ d. is_named toks ordinary i d && is_live i d) ds) false
        ≡ typedef_among std toks i (entries_of ds)
    denotes_among i [] = refl
    denotes_among i (d ∷ ds) =
        denotes_case (is_named toks ordinary i d && is_live i d) d (find (λ x. is_named toks ordinary i x && is_live i x) ds)
        ∙ (mixed (is_space d.space ordinary) (alike toks i d.name_at) (is_live i d) (is_typedef_name d.kind) _ _ (denotes_among i ds)
        ∙ sym (among_spread (is_space d.space ordinary) i (entry_of d) (entries_of ds)))

    token_same : (p : Production) (a k i : ℕ) (facts : Facts) → is_read_so toks p a k i facts ≡ token_agrees std toks p a k i (entries_of facts.declared)
    token_same Main a k i facts = ap (λ b. if (a == 4) && (k == 0) then b else true) (denotes_among i facts.declared)
    token_same Primary a k i facts = ap (λ b. if a == 1 then not b else true) (denotes_among i facts.declared)
    token_same Params a k i facts = ap (λ b. if (a == 1) && (k % 2 == 0) then not b else true) (denotes_among i facts.declared)
    token_same _ a k i facts = refl

    node_same : (l : Label) (first : ℕ) (facts : Facts) → is_named_so std toks l first facts ≡ node_agrees std toks l first (entries_of facts.declared)
    node_same l first facts =
        ap (λ b. if is_at l Pdirect 2 then not (is_identifier (base_at (iso std) toks (first + 1))) || not b else true) (denotes_among (first + 1) facts.declared)

    pub agrees_same : (f : Forest) (s : State) → agrees std toks f s ≡ all_agree std toks f (outline s)
    agrees_same none s = refl
    agrees_same (token i rest) s =
        ap (λ b. b && agrees std toks rest (passed toks i s)) (token_same s.frame.label.production s.frame.label.alternative s.frame.nth i s.facts)
        ∙ ap (λ b. token_agrees std toks s.frame.label.production s.frame.label.alternative s.frame.nth i (entries_of s.facts.declared) && b)
        (agrees_same rest (passed toks i s) ∙ ap (all_agree std toks rest) (passed_same i s))
    agrees_same (node l first under rest) s =
        let before : State = entered toks l first under s in
        let inside : State = walked toks under before in
        let o : Outline = outline s in
        ap (λ b. b && (agrees std toks under before && agrees std toks rest (left toks l first under s inside))) (node_same l first s.facts)
        ∙ (ap (λ b. node_agrees std toks l first o.entries && (b && agrees std toks rest (left toks l first under s inside)))
        (agrees_same under before ∙ ap (all_agree std toks under) (entered_same l first under s))
        ∙ ap (λ b. node_agrees std toks l first o.entries && (all_agree std toks under (begun l first under o) && b))
        (agrees_same rest (left toks l first under s inside)
        ∙ ap (all_agree std toks rest) (left_same l first under s inside
        ∙ ap (ended l first under o) (walked_same under before ∙ ap (outlined under) (entered_same l first under s)))))
