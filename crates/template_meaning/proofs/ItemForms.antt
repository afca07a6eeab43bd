-- What an item of a list declares, where no name in the list declares more than a parameter or a member of its own.
use Rattle.std.proofs.Common.{ℕ, zero, suc, ◌+◌, ◌<◌, ◌≤◌, ◌≡◌, Bool, true, false, ◌&&◌, ◌||◌, not, if◌then◌else◌, List, ◌∷◌, Option, None, Some, ◌⊎◌, inl, inr, refl, sym, ap, subst, ◌∙◌, arith}
use Rattle.std.specs.Prelude.{slice_get, ◌==◌}
use Rattle.std.specs.Option.{option_map_or}
use Rattle.std.proofs.lemmas.Bool.{false≢true, cases_Bool, and_parts, and_from, or_cases, eq-eqb, eqb-true}
use Rattle.std.proofs.lemmas.Option.{same_Some}
use Rattle.c99_grammar.specs.declared.dialects.Edition.{Edition}
use Rattle.cs_base.specs.Token.{Token}
use Rattle.cs_base.proofs.BoolLemmas.{not_false, no_case as not_so, or_first, or_left as or_left_none, or_right_none, or_right as or_second}
use Rattle.c99_tree.specs.Tree.{Forest, none, token, node}
use Rattle.c99_tree.specs.declared.production.Label.{Label}
use Rattle.c99_tree.specs.declared.production.Production.{Production}
use Rattle.c99_tree.specs.declared.production.Production.TheVariants.{ExtRest, FunBody, InitDecl, SuRest, Members, Member, MemRest, Mdecl, EnRest, Enumerators, Enumerator, Declarator, Param, Pdecl, Statement, Declaration}
use Rattle.c99_tree.specs.contracts.production.ProductionPartialEq.TheImpl.{ghosts}
use Rattle.c99_grammar.specs.Items.{Alternative}
use Rattle.c99_grammar.specs.Standard.{iso}
use Rattle.c_types.specs.declared.entity.EntityKind.{EntityKind}
use Rattle.c_types.specs.declared.entity.EntityKind.TheVariants as entity
use Rattle.c_types.specs.Declarations.{is_typedef_name}
use Rattle.c_types.specs.Trees.{is_node, has_node, name_below}
use Rattle.scope_bind.specs.declared.bound.Name.{Name}
use Rattle.tree_laws.specs.Shapes.{begins, has_no_declaring}
use Rattle.tree_laws.specs.TreesOfTexts.{token_count, AreFrom, begins_with_token, has_form, have_forms}
use Rattle.tree_laws.specs.Told.{is_tag, is_constant, IsName, DeclaresAt, IsSlip, TagTold, NodeTold, AreTold}
use Rattle.reordered_tree_laws.specs.Adding.{is_untagged, is_tagged, has_no_list, within_of, names_foreign, is_adding_token, is_adding_declarator, is_adding_parameter, is_adding_node, is_adding}
use Rattle.template_rules.specs.ScopeOffences.{is_type_or_constant, is_function_word, declares_more}
use Rattle.template_meaning.specs.Children.{Child, a_token, children, EachNode, IsInner, IsOfAlternative}
use Rattle.template_meaning.proofs.Fit.{no_members, no_lists}
use Rattle.template_meaning.proofs.FitTable.{is_rest, is_membered, has_members, is_list_node, not_these, all_nodes, begins_token}

-- ---- Kinds

pub tag_more : (k : EntityKind) → is_tag k ≡ true → is_type_or_constant k ≡ true
tag_more entity.Tag e = refl
tag_more _ e = absurd (false≢true e)

constant_more : (k : EntityKind) → is_constant k ≡ true → is_type_or_constant k ≡ true
constant_more entity.Enumerator e = refl
constant_more _ e = absurd (false≢true e)

typedef_more : (k : EntityKind) → is_typedef_name k ≡ true → is_type_or_constant k ≡ true
typedef_more entity.Typedef e = refl
typedef_more _ e = absurd (false≢true e)

or_none : (a b : Bool) → a ≡ false → b ≡ false → (a || b) ≡ false
or_none true b e f = e
or_none false b e f = f

-- ---- Tokens of names that declare no more

-- no name that is the token declares more than a parameter or a member
abbrev pub IsClean : List Token → List Name → ℕ → Type 0
IsClean toks names t = (n : Name) → IsName names n → n.index ≡ t → declares_more toks n ≡ true → ⊥

module _ (toks : List Token) (names : List Name) where
  pub clean_kind : (is_kind : EntityKind → Bool) (t : ℕ) → ((k : EntityKind) → is_kind k ≡ true → is_type_or_constant k ≡ true) → IsClean toks names t → DeclaresAt names is_kind t → ⊥
  clean_kind is_kind t more clean d = clean d.name d.is d.index (and_from d.name.declares _ d.declares (or_first (is_type_or_constant d.name.kind) _ (more d.name.kind d.kind)))

  pub clean_tag : (t : ℕ) → IsClean toks names t → DeclaresAt names is_tag t → ⊥
  clean_tag t = clean_kind is_tag t tag_more

  pub clean_constant : (t : ℕ) → IsClean toks names t → DeclaresAt names is_constant t → ⊥
  clean_constant t = clean_kind is_constant t constant_more

  pub clean_slip : (t : ℕ) → IsClean toks names t → IsSlip names t → ⊥
  clean_slip t clean d =
      clean d.name d.is d.index (and_from d.name.declares _ d.declares (by (or_cases (is_typedef_name d.name.kind) (not (d.name.entity == d.name.index)) d.slip)))
    where
      by : (is_typedef_name d.name.kind ≡ true) ⊎ (not (d.name.entity == d.name.index) ≡ true)
          → (is_type_or_constant d.name.kind || (is_function_word toks d.name.index || not (d.name.entity == d.name.index))) ≡ true
      by (inl e) = or_first (is_type_or_constant d.name.kind) _ (typedef_more d.name.kind e)
      by (inr e) = or_second (is_type_or_constant d.name.kind) _ (or_second (is_function_word toks d.name.index) _ e)

  -- ---- An item

  module _ (s : Edition) (lo hi : ℕ) (clean : (t : ℕ) → lo ≤ t → t < hi → IsClean toks names t) where
    -- what is known of some children of node l, which begin at a token
    pub record IsPart (body listing : Bool) (l : Label) (a : ℕ) (f : Forest) : Type 0 where
      pub each : EachNode (IsOfAlternative (iso s)) f
      pub inner : EachNode IsInner f
      pub tokens : AreFrom a f
      pub forms : have_forms f ≡ true
      pub low : lo ≤ a
      pub high : a + token_count f ≤ hi
      pub told : AreTold names toks body listing l f

    abbrev pub inside_of : Bool → Label → Bool
    inside_of body m = is_node m FunBody || body

    abbrev pub listing_of : Bool → Label → Label → Bool
    listing_of listing l m = if is_node m Declaration then is_node l FunBody else listing

    pub part_behind : (body listing : Bool) (l : Label) (a i : ℕ) (rest : Forest) → IsPart body listing l a (token i rest) → IsPart body listing l (a + 1) rest
    part_behind body listing l a i rest p = record {
      each = p.each;
      inner = p.inner;
      tokens = let w = p.tokens in w.1;
      forms = p.forms;
      low = omega (arith, p.low);
      high = omega (arith, p.high);
      told = p.told;
    }

    pub part_under : (body listing : Bool) (l m : Label) (a first : ℕ) (under rest : Forest) → IsPart body listing l a (node m first under rest)
        → IsPart (inside_of body m) (listing_of listing l m) m a under
    part_under body listing l m a first under rest p = record {
      each = let w = p.each in w.1;
      inner = let w = p.inner in w.1;
      tokens = let w = p.tokens in w.1;
      forms = (and_parts (have_forms under) (have_forms rest) (and_parts (has_form m.production under) _ p.forms).1).0;
      low = p.low;
      high = omega (arith, p.high);
      told = let w = p.told in w.1;
    }

    pub part_rest : (body listing : Bool) (l m : Label) (a first : ℕ) (under rest : Forest) → IsPart body listing l a (node m first under rest)
        → IsPart body listing l (a + token_count under) rest
    part_rest body listing l m a first under rest p = record {
      each = let w = p.each in w.2;
      inner = let w = p.inner in w.2;
      tokens = let w = p.tokens in w.2;
      forms = (and_parts (have_forms under) (have_forms rest) (and_parts (has_form m.production under) _ p.forms).1).1;
      low = omega (arith, p.low);
      high = omega (arith, p.high);
      told = let w = p.told in w.2;
    }

    -- ---- Tags and enumerators

    some_token : (under : Forest) → begins_with_token under ≡ true → 1 ≤ token_count under
    some_token none e = absurd (false≢true e)
    some_token (token i rest) e = omega arith
    some_token (node l first under rest) e = absurd (false≢true e)

    node_no_enumerator : (q : Production) (inside body listing : Bool) (l m : Label) (a first : ℕ) (under rest : Forest) → m.production ≡ q → IsPart body listing l a (node m first under rest)
        → NodeTold names toks q inside l m first under → ghosts.eq q Enumerator ≡ false
    node_no_enumerator Enumerator inside body listing l m a first under rest e p d =
        let form : begins_with_token under ≡ true = subst (λ r. has_form r under ≡ true) e (and_parts (has_form m.production under) _ p.forms).0 in
        let w = p.tokens in
        let at : first ≡ a = w.0 in
        absurd (clean_constant first (clean first (omega (arith, at, p.low)) (omega (arith, at, p.high, some_token under form))) d)
    node_no_enumerator _ inside body listing l m a first under rest e p d = refl

    -- no enumerator stands in an item
    pub no_enumerator : (body listing : Bool) (l m : Label) (a first : ℕ) (under rest : Forest) → IsPart body listing l a (node m first under rest) → is_node m Enumerator ≡ false
    no_enumerator body listing l m a first under rest p =
        let w = p.told in node_no_enumerator m.production _ body listing l m a first under rest refl p w.0

    tag_braces : (m : Label) (a : ℕ) (under : Forest) → (m.alternative == 1) ≡ true → AreFrom a under → lo ≤ a → a + token_count under ≤ hi → TagTold names m under
        → begins_with_token under ≡ true → (has_node Members under || has_node Enumerators under) ≡ false
    tag_braces m a none one_ w low high told begins = refl
    tag_braces m a (node l first below rest) one_ w low high told begins = absurd (false≢true begins)
    tag_braces m a (token i rest) one_ w low high told begins =
        not_so (has_node Members rest || has_node Enumerators rest) (λ braces.
        let tag = told one_ in
        clean_tag i (clean i (omega (arith, w.0, low)) (omega (arith, w.0, high))) (tag.declared braces))

    rest_first : (q : Production) (a : Alternative) → is_rest q ≡ true → slice_get ((iso s).table q) 0 ≡ Some a → begins a.body ≡ true
    rest_first SuRest a e at = subst (λ (b : Alternative). begins b.body ≡ true) (same_Some _ a at) refl
    rest_first EnRest a e at = subst (λ (b : Alternative). begins b.body ≡ true) (same_Some _ a at) refl
    rest_first _ a e at = absurd (false≢true e)

    token_here : (f : Forest) (v : List Child) → children f ≡ a_token ∷ v → begins_with_token f ≡ true
    token_here none v e = absurd (cc)
    token_here (token i rest) v e = refl
    token_here (node l first under rest) v e = absurd (cc)

    first_begins : (m : Label) (under : Forest) → IsOfAlternative (iso s) m under → is_rest m.production ≡ true → (m.alternative == 1) ≡ true → begins_with_token under ≡ true
    first_begins m under x rest one_ =
        let number : x.number ≡ 0 = omega (arith, x.numbered, eqb-true m.alternative 1 one_) in
        let row = rest_first m.production x.alternative rest (ap (λ n. slice_get ((iso s).table m.production) n) (sym number) ∙ x.is_one) in
        let v = begins_token x.alternative.body row (children under) x.own in
        token_here under v.0 v.1

    -- what follows the word of a structure, union or enumeration with a tag has no braces
    rest_braces : (q : Production) (inside : Bool) (l m : Label) (a first : ℕ) (under : Forest) → m.production ≡ q → IsOfAlternative (iso s) m under → AreFrom a under → lo ≤ a
        → a + token_count under ≤ hi → NodeTold names toks q inside l m first under → is_rest q ≡ true → (m.alternative == 1) ≡ true → (has_node Members under || has_node Enumerators under) ≡ false
    rest_braces SuRest inside l m a first under e x w low high d rest one_ =
        tag_braces m a under one_ w low high d (first_begins m under x (ap is_rest e) one_)
    rest_braces EnRest inside l m a first under e x w low high d rest one_ =
        tag_braces m a under one_ w low high d (first_begins m under x (ap is_rest e) one_)
    rest_braces _ inside l m a first under e x w low high d rest one_ = absurd (false≢true rest)

    tagged_rest : (q : Production) (n : ℕ) → ((ghosts.eq q SuRest && (n == 1)) || (ghosts.eq q EnRest && (n == 1))) ≡ true → (is_rest q ≡ true) × ((n == 1) ≡ true)
    tagged_rest SuRest n e = (refl, by (n == 1) e)
      where
        by : (b : Bool) → (b || false) ≡ true → b ≡ true
        by true e = refl
        by false e = e
    tagged_rest EnRest n e = (refl, e)
    tagged_rest _ n e = absurd (false≢true e)

    -- no list in braces stands behind a tag in an item
    pub no_braces : (body listing : Bool) (l m : Label) (a first : ℕ) (under rest : Forest) → IsPart body listing l a (node m first under rest) → is_tagged m ≡ true
        → (has_node Members under || has_node Enumerators under) ≡ false
    no_braces body listing l m a first under rest p tagged =
        let parts = tagged_rest m.production m.alternative tagged in
        let w = p.told in
        let x = p.each in
        let t = p.tokens in
        rest_braces m.production _ l m a first under refl x.0 t.1 p.low (omega (arith, p.high)) w.0 parts.0 parts.1

    -- ---- What is added

    -- Children of a node: members stand among members, and lists in braces behind the words of structures, unions and enumerations.
    pub record AreMembered (within : Bool) (l : Label) (f : Forest) : Type 0 where
      pub own : has_no_declaring l.production ≡ true
      pub among : has_members l.production ≡ true → within ≡ true
      pub members : has_members l.production ≡ false → all_nodes (not_these is_membered) (children f) ≡ true
      pub lists : is_rest l.production ≡ false → all_nodes (not_these is_list_node) (children f) ≡ true
      pub untagged : is_rest l.production ≡ true → is_tagged l ≡ false → is_untagged l ≡ true
      pub tagged : is_tagged l ≡ true → (has_node Members f || has_node Enumerators f) ≡ false

    behind_node : (within : Bool) (l m : Label) (first : ℕ) (under rest : Forest) → AreMembered within l (node m first under rest) → AreMembered within l rest
    behind_node within l m first under rest h = record {
      own = h.own;
      among = h.among;
      members = λ e. (and_parts (not (is_membered m.production)) _ (h.members e)).1;
      lists = λ e. (and_parts (not (is_list_node m.production)) _ (h.lists e)).1;
      untagged = h.untagged;
      tagged = λ e.
          let both = h.tagged e in
          or_none (has_node Members rest) (has_node Enumerators rest)
          (or_right_none (is_node m Members) (has_node Members rest) (or_left_none (is_node m Members || has_node Members rest) (is_node m Enumerators || has_node Enumerators rest) both))
          (or_right_none (is_node m Enumerators) (has_node Enumerators rest) (or_right_none (is_node m Members || has_node Members rest) (is_node m Enumerators || has_node Enumerators rest) both));
    }

    two_rests : (q : Production) (n : ℕ) (a : Alternative) → is_rest q ≡ true → slice_get ((iso s).table q) n ≡ Some a → (n ≡ 0) ⊎ (n ≡ 1)
    two_rests SuRest zero a e at = inl refl
    two_rests SuRest (suc zero) a e at = inr refl
    two_rests SuRest (suc (suc n)) a e at = absurd (cc)
    two_rests EnRest zero a e at = inl refl
    two_rests EnRest (suc zero) a e at = inr refl
    two_rests EnRest (suc (suc n)) a e at = absurd (cc)
    two_rests _ n a e at = absurd (false≢true e)

    rest_tags : (q : Production) (n : ℕ) → is_rest q ≡ true → (n ≡ 1) ⊎ (n ≡ 2) → ((ghosts.eq q SuRest && (n == 1)) || (ghosts.eq q EnRest && (n == 1))) ≡ false
        → ((ghosts.eq q SuRest && (n == 2)) || (ghosts.eq q EnRest && (n == 2))) ≡ true
    rest_tags SuRest n e (inl one_) no_tag = absurd (false≢true (sym no_tag ∙ or_first (n == 1) false (eq-eqb n 1 one_)))
    rest_tags SuRest n e (inr two) no_tag = or_first (n == 2) false (eq-eqb n 2 two)
    rest_tags EnRest n e (inl one_) no_tag = absurd (false≢true (sym no_tag ∙ eq-eqb n 1 one_))
    rest_tags EnRest n e (inr two) no_tag = eq-eqb n 2 two
    rest_tags _ n e h no_tag = absurd (false≢true e)

    pub untagged_rest : (l : Label) (under : Forest) → IsOfAlternative (iso s) l under → is_rest l.production ≡ true → is_tagged l ≡ false → is_untagged l ≡ true
    untagged_rest l under x rest no_tag =
        rest_tags l.production l.alternative rest (by (two_rests l.production x.number x.alternative rest x.is_one)) no_tag
      where
        by : (x.number ≡ 0) ⊎ (x.number ≡ 1) → (l.alternative ≡ 1) ⊎ (l.alternative ≡ 2)
        by (inl e) = inl (omega (arith, e, x.numbered))
        by (inr e) = inr (omega (arith, e, x.numbered))

    within_is : (q : Production) (within : Bool) → has_members q ≡ true → (is_membered q ≡ true → within ≡ true) → within_of q within ≡ true
    within_is Members within h k = refl
    within_is Member within h k = k refl
    within_is MemRest within h k = k refl
    within_is Mdecl within h k = k refl
    within_is _ within h k = absurd (false≢true h)

    -- members stand among members
    membered_within : (within : Bool) (l m : Label) (first : ℕ) (under rest : Forest) → AreMembered within l (node m first under rest) → is_membered m.production ≡ true → within ≡ true
    membered_within within l m first under rest h e = elim (cases_Bool (has_members l.production)) [
      | inl yes' ↦ h.among yes'
      | inr no' ↦ absurd (false≢true (sym (ap not e) ∙ (and_parts (not (is_membered m.production)) _ (h.members no')).0))
    ]

    below_node : (body listing within : Bool) (l m : Label) (a first : ℕ) (under rest : Forest) → IsPart body listing l a (node m first under rest) → AreMembered within l (node m first under rest)
        → AreMembered (within_of m.production within) m under
    below_node body listing within l m a first under rest p h =
        let i = p.inner in
        let x = p.each in
        record {
          own = i.0;
          among = λ e. within_is m.production within e (membered_within within l m first under rest h);
          members = no_members s m under x.0;
          lists = no_lists s m under x.0;
          untagged = untagged_rest m under x.0;
          tagged = no_braces body listing l m a first under rest p;
        }

    list_untagged : (within : Bool) (l m : Label) (first : ℕ) (under rest : Forest) → AreMembered within l (node m first under rest) → is_list_node m.production ≡ true
        → (is_node m Members || is_node m Enumerators) ≡ true → is_untagged l ≡ true
    list_untagged within l m first under rest h e is = elim (cases_Bool (is_rest l.production)) [
      | inl rest_ ↦ h.untagged rest_ (not_so (is_tagged l) (λ tagged.
          let none_ = h.tagged tagged in
          let left = or_left_none (is_node m Members) (has_node Members rest) (or_left_none (is_node m Members || has_node Members rest) (is_node m Enumerators || has_node Enumerators rest) none_) in
          let right = or_left_none (is_node m Enumerators) (has_node Enumerators rest) (or_right_none (is_node m Members || has_node Members rest) (is_node m Enumerators || has_node Enumerators rest) none_) in
          false≢true (sym (or_none (is_node m Members) (is_node m Enumerators) left right) ∙ is)))
      | inr other ↦ absurd (false≢true (sym (ap not e) ∙ (and_parts (not (is_list_node m.production)) _ (h.lists other)).0))
    ]

    any_name : (l : Label) (under : Forest) → names_foreign (λ i. true) l under ≡ true
    any_name l under = by (name_below l under)
      where
        by : (o : Option ℕ) → option_map_or (λ i. true) o true ≡ true
        by None = refl
        by (Some i) = refl

    adding_declarator : (q : Production) (within : Bool) (m : Label) (under : Forest) → has_no_declaring q ≡ true → (has_members q ≡ true → within ≡ true)
        → is_adding_declarator (λ i. true) q within m under ≡ true
    adding_declarator ExtRest within m under e h = absurd (false≢true e)
    adding_declarator InitDecl within m under e h = absurd (false≢true e)
    adding_declarator Mdecl within m under e h = and_from within _ (h refl) (any_name m under)
    adding_declarator _ within m under e h = refl

    adding_parameter : (q : Production) (m : Label) (under : Forest) → is_adding_parameter (λ i. true) q m under ≡ true
    adding_parameter Param m under = any_name m under
    adding_parameter _ m under = refl

    adding_node : (q : Production) (within : Bool) (l m : Label) (under : Forest) → has_no_declaring q ≡ true → has_no_declaring l.production ≡ true → (has_members l.production ≡ true → within ≡ true)
        → (is_membered q ≡ true → within ≡ true) → ((ghosts.eq q Members || ghosts.eq q Enumerators) ≡ true → is_untagged l ≡ true)
        → is_adding_node (λ i. true) q l within m under ≡ true
    adding_node Declarator within l m under inner own among in_ list = adding_declarator l.production within m under own among
    adding_node Pdecl within l m under inner own among in_ list = adding_parameter l.production m under
    adding_node MemRest within l m under inner own among in_ list = in_ refl
    adding_node Members within l m under inner own among in_ list = list refl
    adding_node Enumerators within l m under inner own among in_ list = list refl
    adding_node FunBody within l m under inner own among in_ list = absurd (false≢true inner)
    adding_node _ within l m under inner own among in_ list = refl

    no_statement : (q : Production) → has_no_declaring q ≡ true → is_adding_token (λ i. true) q ≡ true
    no_statement Statement e = absurd (false≢true e)
    no_statement _ e = refl

    list_node_is : (q : Production) → (ghosts.eq q Members || ghosts.eq q Enumerators) ≡ true → is_list_node q ≡ true
    list_node_is Members e = refl
    list_node_is Enumerators e = refl
    list_node_is _ e = absurd (false≢true e)

    -- an item adds nothing but parameters and members
    pub adds : (f : Forest) (body listing within : Bool) (l : Label) (a : ℕ) → IsPart body listing l a f → AreMembered within l f → is_adding (λ i. true) within l f ≡ true
    adds none body listing within l a p h = refl
    adds (token i rest) body listing within l a p h =
        and_from (is_adding_token (λ i. true) l.production) _ (no_statement l.production h.own)
        (adds rest body listing within l (a + 1) (part_behind body listing l a i rest p)
        (record { own = h.own; among = h.among; members = h.members; lists = h.lists; untagged = h.untagged; tagged = h.tagged }))
    adds (node m first under rest) body listing within l a p h =
        let i = p.inner in
        and_from (is_adding_node (λ i. true) m.production l within m under) _
        (adding_node m.production within l m under i.0 h.own h.among (membered_within within l m first under rest h)
        (λ e. list_untagged within l m first under rest h (list_node_is m.production e) e))
        (and_from (has_no_list m under) _ (no_list (is_tagged m) (has_node Members under || has_node Enumerators under) (no_braces body listing l m a first under rest p))
        (and_from (is_adding (λ i. true) (within_of m.production within) m under) _
        (adds under (inside_of body m) (listing_of listing l m) (within_of m.production within) m a (part_under body listing l m a first under rest p)
        (below_node body listing within l m a first under rest p h))
        (adds rest body listing within l (a + token_count under) (part_rest body listing l m a first under rest p) (behind_node within l m first under rest h))))
      where
        no_list : (t b : Bool) → (t ≡ true → b ≡ false) → not (t && b) ≡ true
        no_list true b g = not_false b (g refl)
        no_list false b g = refl
