-- The lists of the functions in a unit can get a new order, where nothing stands against it.
use Rattle.std.proofs.Common.{ℕ, ◌+◌, ◌<◌, ◌≤◌, ◌≡◌, Bool, true, false, ◌&&◌, ◌||◌, not, if◌then◌else◌, List, [], ◌∷◌, ◌++◌, Option, None, Some, Ok, ◌⊎◌, inl, inr, refl, sym, ap, subst, ◌∙◌, arith}
use Rattle.std.specs.Prelude.{nat_lt, ◌==◌, All, get_or}
use Rattle.std.specs.List.{list_all}
use Rattle.std.specs.Option.{option_or}
use Rattle.std.proofs.lemmas.Bool.{false≢true, and_parts, and_from, eqb-true, ne_eqb, lt-ltb}
use Rattle.std.proofs.lemmas.Option.{slice_get-get_or}
use Rattle.cs_base.specs.declared.positions.Part.{Part}
use Rattle.c99_grammar.specs.declared.dialects.Edition.{Edition}
use Rattle.cs_base.specs.Token.{Token}
use Rattle.c99_tree.specs.Tree.{Forest, none, token, node, Node, node_of}
use Rattle.c99_tree.specs.declared.production.Label.{Label}
use Rattle.c99_tree.specs.declared.production.Production.{Production}
use Rattle.c99_tree.specs.declared.production.Production.TheVariants.{FunBody, Declaration, SuRest, EnRest, Enumerator, Suffix, Params}
use Rattle.c99_tree.specs.contracts.production.ProductionPartialEq.TheImpl.{ghosts}
use Rattle.c99_grammar.specs.Standard.{iso}
use Rattle.c_types.specs.declared.lists.List.{List as NameList}
use Rattle.c_types.specs.Lists.{list_of, bare_at, bare_in}
use Rattle.c_types.specs.Declarations.{is_in}
use Rattle.c_types.specs.Parameters.{parameters_in}
use Rattle.c_types.specs.Trees.{is_node, is_at, is_list, first_list, last_token}
use Rattle.name_chains.specs.Frames.{outermost}
use Rattle.scope_bind.specs.declared.bound.Name.{Name}
use Rattle.scope_bind.specs.Bound.{Bound, binding_of}
use Rattle.tree_laws.specs.ReadTexts.{Reads, ReadParameterListsAreInOrder}
use Rattle.tree_laws.specs.Shapes.{has_no_declaring}
use Rattle.tree_laws.specs.TreesOfTexts.{token_count, AreFrom, begins_with_token, has_form, have_forms}
use Rattle.tree_laws.proofs.Lookups.{In}
use Rattle.tree_laws.proofs.TokenEnds.{any_of as in_any}
use Rattle.tree_laws.specs.Told.{is_tag, IsName, TagTold, NodeTold, AreOthers, AreTold}
use Rattle.reordered_tree_laws.specs.Premises.{is_bracketed, is_item_production, lists_pass, tags_in, is_item, are_apart}
use Rattle.reordered_tree_laws.specs.Reordered.{nodes_in, is_parenthesised, is_among}
use Rattle.analysis.specs.Analysis.{UnitAnalysis, AnalysisValue}
use Rattle.template_rules.specs.Lists.{arguments_of}
use Rattle.template_rules.specs.Lists as lists
use Rattle.template_rules.specs.ScopeOffences.{is_type_or_constant, is_inside, body_lists_in}
use Rattle.template_meaning.specs.Children.{children, EachNode, IsOfAlternative}
use Rattle.template_meaning.specs.Clear.{IsOwn, UnitIsClear}
use Rattle.template_meaning.specs.Forms.{HasOuterList}
use Rattle.reordered.specs.Reordered.{begins_list}
use Rattle.template_meaning.proofs.FitTable.{not_these, all_nodes}
use Rattle.template_meaning.proofs.Forms.{is_param, args_pass, params_items}
use Rattle.template_meaning.proofs.ItemForms.{IsClean, tag_more, clean_constant, IsPart, part_behind, part_rest}
use Rattle.template_meaning.proofs.ItemPairs.{none_apart, params_apart}
use Rattle.template_meaning.proofs.ItemQuiet.{item_is}
use Rattle.template_meaning.proofs.ItemsApart.{free_items}
use Rattle.template_meaning.proofs.ListTests.{item_part, no_param, param_item, items_nodes, nodes_pass, NodesTest, IsGood, passes, first_range}
use Rattle.template_meaning.proofs.OuterList.{IsFree, outer_each}
use Rattle.template_meaning.proofs.Parens.{in_first, in_last, in_split, Entry, entry, entry_of, entries, Begins}
use Rattle.template_meaning.proofs.UnitItems.{IsOwnCall, IsOwnList, IsOwnPair, own_list, own_pairs, own_brackets}
use Rattle.template_meaning.proofs.UnitLists.{any_in, index_of, bound_is, each_of, each_begins, of_text}

-- ---- A unit

if_own : (c : Bool) (x : Entry) → c ≡ true → In x (if c then x ∷ [] else [])
if_own true x e = inl refl
if_own false x e = absurd (false≢true e)

module _ (s : Edition) (members : List Part) (u : UnitAnalysis) (a : AnalysisValue) (n : ℕ) (reads : Reads (iso s) u.text.toks u.tree) (binds : binding_of u.text.toks u.tree ≡ Ok u.bound)
    (in_order : ReadParameterListsAreInOrder)
    (of_declarators : (l : NameList) → In l u.bound.declarators → IsOwn members u l → lists.parameters_of (parameters_in u.tree.under) l.name ≡ n)
    (of_calls : (l : NameList) → In l u.bound.calls → IsOwn members u l → arguments_of l ≡ n)
    (clear : UnitIsClear a members u) (all_told : AreTold u.bound.names u.text.toks false false (outermost 0).label u.tree.under) where
  abbrev Tree : Forest
  Tree = u.tree.under

  abbrev Toks : List Token
  Toks = u.text.toks

  abbrev Names : List Name
  Names = u.bound.names

  abbrev Lists : ℕ → Bool
  Lists = begins_list members u

  abbrev OwnList : Label → ℕ → Forest → Type 0
  OwnList l k under = IsOwnList s members u a n reads binds in_order of_declarators of_calls clear all_told l k under

  abbrev OwnPair : Label → ℕ → Forest → Type 0
  OwnPair l k under = IsOwnPair s members u a n reads binds in_order of_declarators of_calls clear all_told l k under

  -- ---- Each node

  -- what is known of a node, which begins at a token and stands in node l
  record IsAt (body listing : Bool) (l m : Label) (first k : ℕ) (under : Forest) : Type 0 where
    entries_in : (x : Entry) → In x (entry_of m under) → In x (entries Tree)
    bares_in : (i : ℕ) → In i (bare_in under) → In i u.bound.bare
    tokens : AreFrom k under
    formed : have_forms under ≡ true
    of : IsOfAlternative (iso s) m under
    each : EachNode (IsOfAlternative (iso s)) under
    begin : EachNode Begins under
    told : NodeTold Names Toks m.production ((is_node m FunBody || body) && not (if is_node m Declaration then is_node l FunBody else listing)) l m first under
    below : AreTold Names Toks (is_node m FunBody || body) (if is_node m Declaration then is_node l FunBody else listing) m under

  each_at : (Q : Label → Forest → Type 0) → ((body listing : Bool) (l m : Label) (first k : ℕ) (under : Forest) → IsAt body listing l m first k under → Q m under)
      → (f : Forest) (body listing : Bool) (l : Label) (k : ℕ) → ((x : Entry) → In x (entries f) → In x (entries Tree)) → ((i : ℕ) → In i (bare_in f) → In i u.bound.bare)
      → AreFrom k f → have_forms f ≡ true → EachNode (IsOfAlternative (iso s)) f → EachNode Begins f → AreTold Names Toks body listing l f → EachNode Q f
  each_at Q each_node none body listing l k into bare_into w forms each begin t = tt
  each_at Q each_node (token i rest) body listing l k into bare_into w forms each begin t = each_at Q each_node rest body listing l (k + 1) into bare_into w.1 forms each begin t
  each_at Q each_node (node m first under rest) body listing l k into bare_into w forms each begin t =
      let f1 = and_parts (has_form m.production under) (have_forms under && have_forms rest) forms in
      let f2 = and_parts (have_forms under) (have_forms rest) f1.1 in
      let bares_under : (i : ℕ) → In i (bare_in under) → In i u.bound.bare = λ i v. bare_into i (in_first i (bare_at m under ++ bare_in under) (bare_in rest) (in_last i (bare_at m under) (bare_in under) v)) in (
        each_node body listing l m first k under (record {
          entries_in = λ x v. into x (in_first x (entry_of m under) (entries under ++ entries rest) v);
          bares_in = bares_under;
          tokens = w.1;
          formed = f2.0;
          of = each.0;
          each = each.1;
          begin = begin.1;
          told = t.0;
          below = t.1;
        }),
        each_at Q each_node under (is_node m FunBody || body) (if is_node m Declaration then is_node l FunBody else listing) m k
            (λ x v. into x (in_last x (entry_of m under) (entries under ++ entries rest) (in_first x (entries under) (entries rest) v))) bares_under w.1 f2.0 each.1 begin.1 t.1,
        each_at Q each_node rest body listing l (k + token_count under)
            (λ x v. into x (in_last x (entry_of m under) (entries under ++ entries rest) (in_last x (entries under) (entries rest) v)))
            (λ i v. bare_into i (in_last i (bare_at m under ++ bare_in under) (bare_in rest) v)) w.2 f2.1 each.2 begin.2 t.2,
      )

  whole : (Q : Label → Forest → Type 0) → ((body listing : Bool) (l m : Label) (first k : ℕ) (under : Forest) → IsAt body listing l m first k under → Q m under) → EachNode Q Tree
  whole Q each_node =
      let text = of_text s members u n reads binds in_order of_declarators of_calls in
      each_at Q each_node Tree false false (outermost 0).label 0 (λ x v. v)
      (λ i v. subst (λ (b : Bound). In i b.bare) (sym (bound_is s members u n reads binds in_order of_declarators of_calls)) v) text.tokens text.forms
      (each_of s members u n reads binds in_order of_declarators of_calls) (each_begins s members u n reads binds in_order of_declarators of_calls) all_told

  module _ (body listing : Bool) (l m : Label) (first k : ℕ) (under : Forest) (at : IsAt body listing l m first k under) (is : is_among Lists m under ≡ true) where
    entry_there : In (entry m under) (entries Tree)
    entry_there = at.entries_in (entry m under) (if_own (is_parenthesised m) (entry m under) (and_parts (is_parenthesised m) _ is).0)

    list_here : OwnList m k under
    list_here = own_pairs s members u a n reads binds in_order of_declarators of_calls clear all_told m k under entry_there at.of at.tokens is

    brackets_here : is_bracketed under ≡ true
    brackets_here = own_brackets s members u a n reads binds in_order of_declarators of_calls clear all_told m k under entry_there at.of at.each at.tokens is

    module _ (p : OwnPair m k under) where
      abbrev inside : Forest
      inside = token p.begin (node p.label p.first p.items (token p.close none))

      abbrev body1 : Bool
      body1 = is_node m FunBody || body

      abbrev listing1 : Bool
      listing1 = if is_node m Declaration then is_node l FunBody else listing

      abbrev body2 : Bool
      body2 = is_node p.label FunBody || body1

      abbrev listing2 : Bool
      listing2 = if is_node p.label Declaration then is_node m FunBody else listing1

      inside_each : EachNode (IsOfAlternative (iso s)) inside
      inside_each = subst (EachNode (IsOfAlternative (iso s))) p.is at.each

      no_declaring : has_no_declaring p.label.production ≡ true
      no_declaring = elim p.kind [ inl call ↦ ap has_no_declaring call.0 | inr params ↦ ap has_no_declaring params.0 ]

      part : IsPart Toks Names s (k + 1) p.close p.clean body2 listing2 p.label (k + 1) p.items
      part =
          let w = subst (AreFrom k) p.is at.tokens in
          let forms = subst (λ g. have_forms g ≡ true) p.is at.formed in
          let t = subst (AreTold Names Toks body1 listing1 m) p.is at.below in
          let own = inside_each in
          record {
            each = own.1;
            inner = let x = own.0 in x.inner no_declaring;
            tokens = w.1.1;
            forms = (and_parts (have_forms p.items) true (and_parts (has_form p.label.production p.items) (have_forms p.items && true) forms).1).0;
            low = omega arith;
            high = omega (arith, p.close_at);
            told = t.1;
          }

      items_in : all_nodes is_item_production (children p.items) ≡ true
      items_in =
          let own = inside_each in
          elim p.kind [
            | inl call ↦ items_nodes false is_item_production (children p.items) (args_pass s is_item_production item_part p.label p.items own.0 call.0)
            | inr params ↦ nodes_pass is_param is_item_production param_item (children p.items) (items_nodes true is_param (children p.items) (params_items s p.label p.items own.0 params.0 params.1))
          ]

      all_items : (f : Forest) (j : ℕ) → IsPart Toks Names s (k + 1) p.close p.clean body2 listing2 p.label j f → all_nodes is_item_production (children f) ≡ true → list_all is_item (nodes_in f) ≡ true
      all_items none j q h = refl
      all_items (token i rest) j q h = all_items rest (j + 1) (part_behind Toks Names s (k + 1) p.close p.clean body2 listing2 p.label j i rest q) h
      all_items (node c second below rest) j q h =
          let parts = and_parts (is_item_production c.production) (all_nodes is_item_production (children rest)) h in
          and_from (is_item (node_of c second below)) _ (item_is Toks Names s (k + 1) p.close p.clean body2 listing2 p.label c j second below rest q parts.0)
          (all_items rest (j + token_count below) (part_rest Toks Names s (k + 1) p.close p.clean body2 listing2 p.label c j second below rest q) parts.1)

      items_here : list_all is_item (nodes_in p.items) ≡ true
      items_here = all_items p.items (k + 1) part items_in

      bares_items : (i : ℕ) → In i (bare_in p.items) → In i u.bound.bare
      bares_items i v =
          at.bares_in i (subst (λ g. In i (bare_in g)) (sym p.is)
          (in_first i (bare_at p.label p.items ++ bare_in p.items) [] (in_last i (bare_at p.label p.items) (bare_in p.items) v)))

      apart_here : are_apart Toks (nodes_in p.items) ≡ true
      apart_here =
          let own = inside_each in
          elim p.kind [
            | inl call ↦ none_apart Toks p.items (items_nodes false (not_these is_param) (children p.items) (args_pass s (not_these is_param) no_param p.label p.items own.0 call.0))
            | inr params ↦
                let are = params_items s p.label p.items own.0 params.0 params.1 in
                let w = subst (AreFrom k) p.is at.tokens in
                params_apart Toks Names u.bound.bare s (k + 1) p.close p.clean p.items body2 listing2 p.label (k + 1) [] [] part (items_nodes true is_param (children p.items) are)
                (free_items Toks Names u.bound.bare p.items [] 0 (k + 1) k p.close are refl w.1.1 (omega arith) p.close_at params.3)
                (others params.0 params.2) bares_items
          ]
        where
          suffix_named : (q : Production) (i : ℕ) → (ghosts.eq q Suffix && (i == 2)) ≡ true → (q ≡ Suffix) × ((i == 2) ≡ true)
          suffix_named Suffix i e = (refl, e)
          suffix_named _ i e = absurd (false≢true e)

          others : p.label.production ≡ Params → is_list m ≡ true → AreOthers Names Toks [] p.items
          others named list =
              let parts = suffix_named m.production m.alternative list in
              let t = subst (λ q. NodeTold Names Toks q (body1 && not listing1) l m first under) parts.0 at.told in
              let t' = subst (λ g. NodeTold Names Toks Suffix (body1 && not listing1) l m first g) p.is t in
              t' (and_from (m.alternative == 2) (is_node p.label Params) parts.1 (ap (λ q. ghosts.eq q Params) named))

    test_here : (test : List Node → Bool) → ((p : OwnPair m k under) → test (nodes_in p.items) ≡ true) → NodesTest test under
    test_here test h = by list_here
      where
        by : OwnList m k under → NodesTest test under
        by (inl e) = subst (NodesTest test) (sym e.2) tt
        by (inr p) = subst (NodesTest test) (sym p.is) (h p, tt)

  -- ---- Items

  pub unit_items : lists_pass Lists (list_all is_item) false Tree ≡ true
  unit_items =
      passes Lists (list_all is_item) Tree false
      (whole (IsGood Lists (list_all is_item)) (λ body listing l m first k under at is. test_here body listing l m first k under at is (list_all is_item) (items_here body listing l m first k under at is)))
      (λ e. absurd (false≢true e))

  pub unit_apart : lists_pass Lists (are_apart Toks) false Tree ≡ true
  unit_apart =
      passes Lists (are_apart Toks) Tree false
      (whole (IsGood Lists (are_apart Toks)) (λ body listing l m first k under at is. test_here body listing l m first k under at is (are_apart Toks) (apart_here body listing l m first k under at is)))
      (λ e. absurd (false≢true e))

  pub unit_bracketed : EachNode (λ m under. is_among Lists m under ≡ true → is_bracketed under ≡ true) Tree
  unit_bracketed = whole (λ m under. is_among Lists m under ≡ true → is_bracketed under ≡ true) brackets_here

  -- ---- Tags and enumerators

  abbrev Range : ℕ → ℕ → Type 0
  Range lo hi = (t : ℕ) → lo ≤ t → t < hi → IsClean Toks Names t

  -- the tokens of each child that is a node declare no more
  abbrev NodesClean : ℕ → Forest → Type 0
  NodesClean a none = Unit {0}
  NodesClean a (token i rest) = NodesClean (a + 1) rest
  NodesClean a (node m first under rest) = Range a (a + token_count under) × NodesClean (a + token_count under) rest

  abbrev OwnClean : Label → Forest → Type 0
  OwnClean m under = (k : ℕ) → AreFrom k under → is_among Lists m under ≡ true → NodesClean k under

  own_clean : EachNode OwnClean Tree
  own_clean = whole OwnClean (λ body listing l m first k under at j w is. by j under w (own_pairs s members u a n reads binds in_order of_declarators of_calls clear all_told m j under
      (at.entries_in (entry m under) (if_own (is_parenthesised m) (entry m under) (and_parts (is_parenthesised m) _ is).0)) at.of w is))
    where
      by : {m : Label} (j : ℕ) (under : Forest) → AreFrom j under → OwnList m j under → NodesClean j under
      by j under w (inl e) = subst (NodesClean j) (sym e.2) tt
      by j under w (inr p) = subst (NodesClean j) (sym p.is) ((λ t low high. p.clean t low (omega (arith, high, p.close_at))), tt)

  in_if : (c : Bool) (t x : ℕ) → In t (if c then x ∷ [] else []) → (c ≡ true) × (x ≡ t)
  in_if true t x (inl same) = (refl, same)
  in_if true t x (inr w) = absurd w
  in_if false t x w = absurd w

  in_token : (c : Bool) (t x : ℕ) (xs : List ℕ) → In t (if c then x ∷ xs else xs) → ((c ≡ true) × (x ≡ t)) ⊎ In t xs
  in_token true t x xs (inl same) = inl (refl, same)
  in_token true t x xs (inr w) = inr w
  in_token false t x xs w = inr w

  some_token : (under : Forest) → begins_with_token under ≡ true → 1 ≤ token_count under
  some_token none e = absurd (false≢true e)
  some_token (token i rest) e = omega arith
  some_token (node l first under rest) e = absurd (false≢true e)

  enumerator_some : (q : Production) (under : Forest) → ghosts.eq q Enumerator ≡ true → has_form q under ≡ true → 1 ≤ token_count under
  enumerator_some Enumerator under e form = some_token under form
  enumerator_some _ under e form = absurd (false≢true e)

  -- a name that is the token and declares declares a tag
  abbrev IsTagName : ℕ → Type 0
  IsTagName t = (x : Name) → IsName Names x → x.index ≡ t → x.declares ≡ true → is_tag x.kind ≡ true

  -- no name that is the token declares
  abbrev IsFresh : ℕ → Type 0
  IsFresh t = (x : Name) → IsName Names x → x.index ≡ t → x.declares ≡ true → ⊥

  tag_fresh : (t : ℕ) → IsTagName t → IsClean Toks Names t → IsFresh t
  tag_fresh t tag clean_ x is at declares = clean_ x is at (and_from x.declares _ declares (or_first (is_type_or_constant x.kind) _ (tag_more x.kind (tag x is at declares))))
    where
      or_first : (c d : Bool) → c ≡ true → (c || d) ≡ true
      or_first true d e = refl
      or_first false d e = absurd (false≢true e)

  -- so it is with the token behind the word of a structure, union or enumeration
  abbrev FirstTold : Label → ℕ → Forest → Type 0
  FirstTold l k none = Unit {0}
  FirstTold l k (token i rest) = (((is_at l SuRest 1 || is_at l EnRest 1) && (k == 0)) ≡ true → IsTagName i) × FirstTold l (k + 1) rest
  FirstTold l k (node m first under rest) = FirstTold l (k + 1) rest

  none_first : (l : Label) (k : ℕ) (f : Forest) → ((j : ℕ) → k ≤ j → ((is_at l SuRest 1 || is_at l EnRest 1) && (j == 0)) ≡ false) → FirstTold l k f
  none_first l k none h = tt
  none_first l k (token i rest) h = (λ e. absurd (false≢true (sym (h k (omega arith)) ∙ e)), none_first l (k + 1) rest (λ j less. h j (omega (arith, less))))
  none_first l k (node m first under rest) h = none_first l (k + 1) rest (λ j less. h j (omega (arith, less)))

  and_none : (c : Bool) → (c && false) ≡ false
  and_none true = refl
  and_none false = refl

  later_first : (l : Label) (f : Forest) → FirstTold l 1 f
  later_first l f = none_first l 1 f (λ j less. ap (λ c. (is_at l SuRest 1 || is_at l EnRest 1) && c) (ne_eqb j 0 (λ e. omega (arith, e, less))) ∙ and_none (is_at l SuRest 1 || is_at l EnRest 1))

  tag_first : (m : Label) (under : Forest) → ((is_at m SuRest 1 || is_at m EnRest 1) ≡ true → (m.alternative == 1) ≡ true) → TagTold Names m under → FirstTold m 0 under
  tag_first m none one_ d = tt
  tag_first m (token i rest) one_ d = (λ e x is at declares. let tag = d (one_ (and_parts (is_at m SuRest 1 || is_at m EnRest 1) _ e).0) in tag.kind x is at declares, later_first m rest)
  tag_first m (node l first below rest) one_ d = later_first m rest

  first_told : (q : Production) (within : Bool) (l m : Label) (first : ℕ) (under : Forest) → m.production ≡ q → NodeTold Names Toks q within l m first under → FirstTold m 0 under
  first_told SuRest within l m first under e d =
      tag_first m under (λ h. by (m.alternative == 1) (sym (ap (λ r. (ghosts.eq r SuRest && (m.alternative == 1)) || (ghosts.eq r EnRest && (m.alternative == 1))) e) ∙ h)) d
    where
      by : (c : Bool) → (c || false) ≡ true → c ≡ true
      by true h = refl
      by false h = h
  first_told EnRest within l m first under e d =
      tag_first m under (λ h. sym (ap (λ r. (ghosts.eq r SuRest && (m.alternative == 1)) || (ghosts.eq r EnRest && (m.alternative == 1))) e) ∙ h) d
  first_told _ within l m first under e d =
      none_first m 0 under (λ j less. ap (λ r. ((ghosts.eq r SuRest && (m.alternative == 1)) || (ghosts.eq r EnRest && (m.alternative == 1))) && (j == 0)) e)

  -- an enumerator in a list would declare more
  no_constant : (q : Production) (within : Bool) (l m : Label) (first : ℕ) (under : Forest) → ghosts.eq q Enumerator ≡ true → NodeTold Names Toks q within l m first under → IsClean Toks Names first → ⊥
  no_constant Enumerator within l m first under e d clean_ = clean_constant Toks Names first clean_ d
  no_constant _ within l m first under e d clean_ = false≢true e

  tags_clean : (f : Forest) (body listing listed within : Bool) (l : Label) (k a : ℕ) → AreFrom a f → have_forms f ≡ true → EachNode OwnClean f → AreTold Names Toks body listing l f → FirstTold l k f
      → (within ≡ true → Range a (a + token_count f)) → (listed ≡ true → NodesClean a f) → (t : ℕ) → In t (tags_in Lists listed within l k f) → IsFresh t
  tags_clean none body listing listed within l k a w forms own told tagged range nodes t v = absurd v
  tags_clean (token i rest) body listing listed within l k a w forms own told tagged range nodes t v =
      elim (in_token (within && ((is_at l SuRest 1 || is_at l EnRest 1) && (k == 0))) t i (tags_in Lists listed within l (k + 1) rest) v) [
        | inl here ↦
            let parts = and_parts within ((is_at l SuRest 1 || is_at l EnRest 1) && (k == 0)) here.0 in
            subst IsFresh here.1 (tag_fresh i (tagged.0 parts.1) (range parts.0 i (omega (arith, w.0)) (omega (arith, w.0))))
        | inr more ↦ tags_clean rest body listing listed within l (k + 1) (a + 1) w.1 forms own told tagged.1 (λ e j low high. range e j (omega (arith, low)) (omega (arith, high))) nodes t more
      ]
  tags_clean (node m first under rest) body listing listed within l k a w forms own told tagged range nodes t v =
      let f1 = and_parts (has_form m.production under) (have_forms under && have_forms rest) forms in
      let f2 = and_parts (have_forms under) (have_forms rest) f1.1 in
      let first_tags : List ℕ = if within && is_node m Enumerator then first ∷ [] else [] in
      let below : List ℕ = tags_in Lists (not listed && is_among Lists m under) (within || listed) m 0 under in
      let behind : List ℕ = tags_in Lists listed within l (k + 1) rest in
      elim (in_split t first_tags (below ++ behind) v) [
        | inl here ↦
            let c = in_if (within && is_node m Enumerator) t first here in
            let parts = and_parts within (is_node m Enumerator) c.0 in
            let some = enumerator_some m.production under parts.1 f1.0 in
            absurd (no_constant m.production ((is_node m FunBody || body) && not (if is_node m Declaration then is_node l FunBody else listing)) l m first under parts.1 told.0
            (range parts.0 first (omega (arith, w.0)) (omega (arith, w.0, some))))
        | inr more ↦ elim (in_split t below behind more) [
          | inl b ↦ tags_clean under (is_node m FunBody || body) (if is_node m Declaration then is_node l FunBody else listing) (not listed && is_among Lists m under) (within || listed) m 0 a w.1 f2.0 own.1
              told.1 (first_told m.production ((is_node m FunBody || body) && not (if is_node m Declaration then is_node l FunBody else listing)) l m first under refl told.0)
              (λ e. within_or within listed e (λ g j low high. range g j low (omega (arith, high))) (λ g. (nodes g).0)) (λ e. own.0 a w.1 (and_parts (not listed) (is_among Lists m under) e).1) t b
          | inr b ↦ tags_clean rest body listing listed within l (k + 1) (a + token_count under) w.2 f2.1 own.2 told.2 tagged (λ e j low high. range e j (omega (arith, low)) (omega (arith, high)))
              (λ g. (nodes g).1) t b
        ]
      ]
    where
      within_or : (c d : Bool) → (c || d) ≡ true → (c ≡ true → Range a (a + token_count under)) → (d ≡ true → Range a (a + token_count under)) → Range a (a + token_count under)
      within_or true d e g h = g refl
      within_or false d e g h = h e

  unit_label_first : FirstTold (outermost 0).label 0 Tree
  unit_label_first = none_first (outermost 0).label 0 Tree (λ j less. refl)

  in_is : (xs : List ℕ) (i : ℕ) → is_in xs i ≡ true → In i xs
  in_is xs i e = let r = any_in (λ m. m == i) xs e in subst (λ m. In m xs) (eqb-true r.0 i r.1.1) r.1.0

  -- no name declares a tag or an enumerator in an item
  pub unit_fresh : All (λ (x : Name). (x.declares && is_in (tags_in Lists false false (outermost 0).label 0 Tree) x.index) ≡ false) Names
  unit_fresh i d within =
      let x : Name = get_or Names i d in
      not_so (x.declares && is_in (tags_in Lists false false (outermost 0).label 0 Tree) x.index) (λ e.
      let parts = and_parts x.declares _ e in
      let text = of_text s members u n reads binds in_order of_declarators of_calls in
      tags_clean Tree false false false false (outermost 0).label 0 0 text.tokens text.forms own_clean all_told unit_label_first (λ g. absurd (false≢true g)) (λ g. absurd (false≢true g))
      x.index (in_is (tags_in Lists false false (outermost 0).label 0 Tree) x.index parts.1) x (i, slice_get-get_or Names i d within) refl parts.0)
    where
      not_so : (c : Bool) → (c ≡ true → ⊥) → c ≡ false
      not_so true h = absurd (h refl)
      not_so false h = refl

  -- ---- Lists that bodies begin with

  call_free : (found : ℕ) → In found (body_lists_in Tree) → EachNode (IsFree Lists found) Tree
  call_free found w = whole (IsFree Lists found) (λ body listing l m first k under at no_list is e.
      let there : In (entry m under) (entries Tree) = at.entries_in (entry m under) (if_own (is_parenthesised m) (entry m under) (and_parts (is_parenthesised m) _ is).0) in
      elim (own_list s members u a n reads binds in_order of_declarators of_calls clear all_told m under there is) [
        | inl c ↦ by m k under at.begin at.tokens e c (own_pairs s members u a n reads binds in_order of_declarators of_calls clear all_told m k under there at.of at.tokens is)
        | inr c ↦ false≢true (sym no_list ∙ c.label)
      ])
    where
      by : (m : Label) (k : ℕ) (under : Forest) → EachNode Begins under → AreFrom k under → first_list under ≡ Some found
          → IsOwnCall s members u a n reads binds in_order of_declarators of_calls clear all_told m under → OwnList m k under → ⊥
      by m k under begin tokens e c (inl p) = absurd (let no : None ≡ Some found = sym (ap first_list p.2) ∙ e in cc)
      by m k under begin tokens e c (inr p) =
          let w' = subst (AreFrom k) p.is tokens in
          let each = subst (EachNode Begins) p.is begin in
          let no_list : is_list p.label ≡ false = elim p.kind [ inl call ↦ ap (λ q. ghosts.eq q Suffix && (p.label.alternative == 2)) call.0 | inr params ↦ ap (λ q. ghosts.eq q Suffix && (p.label.alternative == 2)) params.0 ] in
          let first_ : first_list (token p.begin (node p.label p.first p.items (token p.close none))) ≡ Some found = sym (ap first_list p.is) ∙ e in
          let items_ : option_or (first_list p.items) None ≡ Some found = sym (ap (λ b. if b then Some (last_token p.items 0) else option_or (first_list p.items) None) no_list) ∙ first_ in
          let in_items : first_list p.items ≡ Some found = sym (or_none (first_list p.items)) ∙ items_ in
          let r = first_range p.items (k + 1) found (k + 1) p.close each.1 w'.1.1 (omega arith) (omega (arith, p.close_at)) in_items in
          let list_is = ap (λ (g : Forest). list_of c.list.name g) (sym p.is) ∙ c.is in
          let begin_ : c.list.begin ≡ k = sym (ap (λ (q : NameList). q.begin) list_is) ∙ w'.0 in
          let close_ : c.list.close ≡ p.close = sym (ap (λ (q : NameList). q.close) list_is) in
          let inside : is_inside c.list found ≡ true =
          and_from (nat_lt c.list.begin found) (nat_lt found c.list.close) (lt-ltb c.list.begin found (omega (arith, begin_, r.0))) (lt-ltb found c.list.close (omega (arith, close_, r.1))) in
          let call = clear.calls c.list (index_of c.list u.bound.calls c.there) c.own in
          false≢true (sym call.bodies ∙ in_any (is_inside c.list) (body_lists_in Tree) found w inside)
        where
          or_none : (o : Option ℕ) → option_or o None ≡ o
          or_none None = refl
          or_none (Some j) = refl

  pub unit_outer : EachNode (HasOuterList Lists) Tree
  unit_outer = outer_each s Lists Tree (each_of s members u n reads binds in_order of_declarators of_calls) call_free
