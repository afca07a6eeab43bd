-- Each list of a unit has as many items as are asked for, where its marks or its parameters are so many.
use Rattle.std.proofs.Common.{ℕ, zero, suc, ◌+◌, ◌≤◌, ◌≡◌, ◌⊎◌, inl, inr, Bool, true, false, if◌then◌else◌, List, [], ◌∷◌, ◌++◌, length, Some, refl, sym, ap, subst, ◌∙◌, arith}
use Rattle.std.specs.Prelude.{◌==◌, ◌%◌, slice_get}
use Rattle.std.specs.List.{list_all}
use Rattle.std.proofs.lemmas.Bool.{cases_Bool, false≢true, and_parts, or_cases, eq-eqb, ne_eqb}
use Rattle.std.proofs.lemmas.Option.{same_Some}
use Rattle.cs_base.proofs.BoolLemmas.{or_met as implied}
use Rattle.cs_base.proofs.NumberLemmas.{even_next, odd_next}
use Rattle.c99_grammar.specs.declared.dialects.Edition.{Edition}
use Rattle.c99_tree.specs.Tree.{Forest, none, token, node, Node}
use Rattle.c99_tree.specs.declared.production.Label.{Label}
use Rattle.c99_tree.specs.declared.production.Production.{Production}
use Rattle.c99_tree.specs.declared.production.Production.TheVariants.{TranslationUnit, Params, Param, Post, Args}
use Rattle.c99_tree.specs.contracts.production.ProductionPartialEq.TheImpl.{ghosts}
use Rattle.c99_grammar.specs.First.{order}
use Rattle.c99_grammar.specs.Items.{Item, one, part, end_of_text, act, ◌·◌, choice, maybe, many, deep, Alternative}
use Rattle.c99_grammar.specs.Standard.{Grammar, iso}
use Rattle.c99_read.specs.Sound.{never_empty, has_token, is_low, is_sound}
use Rattle.c_types.specs.declared.parameters.ParameterForm.TheVariants.{Types as types, Ellipsis as ellipsis}
use Rattle.c_types.specs.Lists.{odd_tokens, list_of}
use Rattle.c_types.specs.Parameters.{declared_names, ends_in_token, typed, untyped, parameters_of}
use Rattle.c_types.specs.Trees.{is_at, is_list}
use Rattle.tree_laws.specs.TreesOfTexts.{token_count, AreFrom}
use Rattle.tree_laws.specs.Shapes.{has_no_declaring}
use Rattle.c99_read.proofs.C99Sound.{iso-sound}
use Rattle.list_cuts.specs.Cuts.{Cut, done, count_of, AreOf, AreItemsOf}
use Rattle.reordered_tree_laws.specs.Reordered.{is_among}
use Rattle.reordered_tree_laws.specs.Cuts.{cut_then, list_then, items_in, cut_in}
use Rattle.template_rules.specs.Lists.{declarations_in, arguments_of}
use Rattle.template_meaning.specs.Children.{Child, a_token, a_node, children, AreOfItem, EachNode, IsInner, IsOfAlternative}
use Rattle.template_meaning.proofs.Forms.{IsPair, IsFullPair, call_pair, list_pair, are_items, are_more, is_end, any_production, is_param, args_items, params_items, no_nodes, names_alone}

-- ---- Items

-- the children that are nodes
abbrev pub item_count : Forest → ℕ
item_count none = 0
item_count (token i rest) = item_count rest
item_count (node l first under rest) = item_count rest + 1

-- some children have so many nodes among them, or none
abbrev pub HasCount : ℕ → Forest → Type 0
HasCount n f = (item_count f ≡ n) ⊎ (item_count f ≡ 0)

-- so have those of each node among some children
abbrev pub InnerHave : ℕ → Forest → Type 0
InnerHave n none = Unit {0}
InnerHave n (token i rest) = InnerHave n rest
InnerHave n (node l first under rest) = HasCount n under × InnerHave n rest

-- a node that is such a list has so many items
abbrev pub ListHas : ℕ → (ℕ → Bool) → Label → Forest → Type 0
ListHas n lists l under = is_among lists l under ≡ true → InnerHave n under

-- ---- Cuts

module _ (n : ℕ) (lists : ℕ → Bool) where
  count_items : (f : Forest) → count_of (items_in lists f) ≡ item_count f
  unfolding count_of
  count_items none = refl
  count_items (token i rest) = count_items rest
  count_items (node l first under rest) = ap (λ (k : ℕ). k + 1) (count_items rest)

  items_many : (l : Label) (first : ℕ) (under rest : Forest) → HasCount n (node l first under rest) → count_of (items_in lists (node l first under rest)) ≡ n
  items_many l first under rest (inl same) = count_items (node l first under rest) ∙ same
  items_many l first under rest (inr nothing) = absurd (omega (arith, nothing))

  mutual
    cut_have : (f : Forest) (c : Cut) → EachNode (ListHas n lists) f → AreOf n c → AreOf n (cut_then lists false f c)
    cut_have none c each all = all
    cut_have (token i rest) c each all = cut_have rest c each all
    cut_have (node l first under rest) c each all = elim (cases_Bool (is_among lists l under)) [
      | inl e ↦ rw e (listed_have under (cut_then lists false rest c) each.1 (each.0 e) (cut_have rest c each.2 all))
      | inr e ↦ rw e (cut_have under (cut_then lists false rest c) each.1 (cut_have rest c each.2 all))
    ]

    -- the children of such a list
    listed_have : (f : Forest) (c : Cut) → EachNode (ListHas n lists) f → InnerHave n f → AreOf n c → AreOf n (cut_then lists true f c)
    listed_have none c each inner all = all
    listed_have (token i rest) c each inner all = listed_have rest c each inner all
    listed_have (node l first under rest) c each inner all =
        nodes_have under (cut_then lists true rest c) each.1 inner.0 (listed_have rest c each.2 inner.1 all)

    nodes_have : (f : Forest) (c : Cut) → EachNode (ListHas n lists) f → HasCount n f → AreOf n c → AreOf n (list_then lists f c)
    nodes_have none c each has all = all
    nodes_have (token i rest) c each has all = nodes_have rest c each has all
    nodes_have (node l first under rest) c each has all = (
      items_many l first under rest has,
      (
        elim (cases_Bool (is_among lists l under)) [
          | inl e ↦ rw e (listed_have under done each.1 (each.0 e) tt)
          | inr e ↦ rw e (cut_have under done each.1 tt)
        ],
        items_have rest each.2,
      ),
      all,
    )

    items_have : (f : Forest) → EachNode (ListHas n lists) f → AreItemsOf n (items_in lists f)
    items_have none each = tt
    items_have (token i rest) each = items_have rest each
    items_have (node l first under rest) each = (
      elim (cases_Bool (is_among lists l under)) [
        | inl e ↦ rw e (listed_have under done each.1 (each.0 e) tt)
        | inr e ↦ rw e (cut_have under done each.1 tt)
      ],
      items_have rest each.2,
    )

  pub tree_has : (tree : Node) → EachNode (ListHas n lists) tree.under → AreOf n (cut_in lists tree)
  tree_has tree each = cut_have tree.under done each tt

-- ---- What stands in a list

mutual
  -- the commas between items
  items_commas : (ok : Production → Bool) (f : Forest) (k : ℕ) → are_items false ok (children f) ≡ true → k % 2 ≡ 0 → length (odd_tokens k f) + 1 ≡ item_count f
  items_commas ok none k w even = absurd (false≢true w)
  items_commas ok (token i rest) k w even = absurd (false≢true w)
  items_commas ok (node l first under rest) k w even =
      ap (λ (n : ℕ). n + 1) (more_commas ok rest (k + 1) (and_parts (ok l.production) (are_more false ok (children rest)) w).1 (odd_next k even))

  more_commas : (ok : Production → Bool) (f : Forest) (k : ℕ) → are_more false ok (children f) ≡ true → k % 2 ≡ 1 → length (odd_tokens k f) ≡ item_count f
  more_commas ok none k w odd = refl
  more_commas ok (node l first under rest) k w odd = absurd (false≢true w)
  more_commas ok (token i none) k w odd = absurd (false≢true w)
  more_commas ok (token i (token j rest)) k w odd = absurd (false≢true w)
  more_commas ok (token i (node l first under rest)) k w odd =
      let here : (k % 2 == 1) ≡ true = eq-eqb (k % 2) 1 odd in
      let behind = more_commas ok rest (k + 1 + 1) (and_parts (ok l.production) (are_more false ok (children rest)) w).1 (odd_next (k + 1) (even_next k odd)) in
      rw here (omega (arith, behind))

pub param_node : (p : Production) → is_param p ≡ true → ghosts.eq p Param ≡ true
param_node Param h = refl
param_node _ h = absurd (false≢true h)

no_children : (f : Forest) → is_end (children f) ≡ true → f ≡ none
no_children none h = refl
no_children (token i rest) h = absurd (false≢true h)
no_children (node l first under rest) h = absurd (false≢true h)

mutual
  -- the names of the parameters
  items_names : (f : Forest) → are_items true is_param (children f) ≡ true → length (declared_names f) ≡ item_count f
  items_names none w = absurd (false≢true w)
  items_names (token i rest) w = absurd (false≢true w)
  items_names (node l first under rest) w =
      let both = and_parts (is_param l.production) (are_more true is_param (children rest)) w in
      let behind = more_names rest both.1 in
      rw (param_node l.production both.0) (omega (arith, behind))

  more_names : (f : Forest) → are_more true is_param (children f) ≡ true → length (declared_names f) ≡ item_count f
  more_names none w = refl
  more_names (node l first under rest) w = absurd (false≢true w)
  more_names (token i none) w = absurd (false≢true w)
  more_names (token i (token j rest)) w = subst (λ (g : Forest). length (declared_names g) ≡ item_count g) (sym (no_children rest w)) refl
  more_names (token i (node l first under rest)) w =
      let both = and_parts (is_param l.production) (are_more true is_param (children rest)) w in
      let behind = more_names rest both.1 in
      rw (param_node l.production both.0) (omega (arith, behind))

names_count : (f : Forest) → no_nodes (children f) ≡ true → item_count f ≡ 0
names_count none w = refl
names_count (token i rest) w = names_count rest w
names_count (node l first under rest) w = absurd (false≢true w)

-- ---- Nodes have tokens

some_behind : {X : Type 0} (xs ys : List X) → (xs ++ ys ≡ []) → (xs ≡ []) × (ys ≡ [])
some_behind [] ys e = (refl, e)
some_behind (x ∷ xs) ys e = absurd (cc)

pub item_some : (a : Item) → has_token a ≡ true → (w : List Child) → AreOfItem a w → w ≡ [] → ⊥
item_some (one classes) h w is e = let no : a_token ∷ [] ≡ [] = sym is ∙ e in cc
item_some (part p) h w (q, is, stands) e = let no : a_node q ∷ [] ≡ [] = sym is ∙ e in cc
item_some end_of_text h w is e = absurd (false≢true h)
item_some (act a) h w is e = absurd (false≢true h)
item_some (a · b) h w (xs, ys, all, x, y) e =
    let nothing = some_behind xs ys (sym all ∙ e) in
    elim (or_cases (has_token a) (has_token b) h) [
      | inl first ↦ item_some a first xs x nothing.0
      | inr second ↦ item_some b second ys y nothing.1
    ]
item_some (choice a b) h w (inl is) e = item_some a (and_parts (has_token a) (has_token b) h).0 w is e
item_some (choice a b) h w (inr is) e = item_some b (and_parts (has_token a) (has_token b) h).1 w is e
item_some (maybe a) h w is e = absurd (false≢true h)
item_some (many t a) h w is e = absurd (false≢true h)
item_some (deep a) h w is e = item_some a h w is e

inner_some : (p : Production) → has_no_declaring p ≡ true → never_empty p ≡ true
inner_some TranslationUnit h = absurd (false≢true h)
inner_some _ h = refl

pub sound_at : (g : Grammar) (p : Production) (rows : List Alternative) (n : ℕ) (a : Alternative) → list_all (is_sound p) rows ≡ true → slice_get rows n ≡ Some a → is_sound p a ≡ true
sound_at g p [] n a all at = absurd (cc)
sound_at g p (b ∷ more) zero a all at = subst (λ (c : Alternative). is_sound p c ≡ true) (same_Some b a at) (and_parts (is_sound p b) (list_all (is_sound p) more) all).0
sound_at g p (b ∷ more) (suc n) a all at = sound_at g p more n a (and_parts (is_sound p b) (list_all (is_sound p) more) all).1 at

module _ (s : Edition) where
  pub node_some : (l : Label) (under : Forest) → IsOfAlternative (iso s) l under → has_no_declaring l.production ≡ true → under ≡ none → ⊥
  node_some l under x inner e =
      let sound = sound_at (iso s) l.production ((iso s).table l.production) x.number x.alternative ((iso-sound s).sound l.production) x.is_one in
      let body = implied (never_empty l.production) (has_token x.alternative.body) (and_parts (is_low (order l.production) x.alternative.body) _ sound).1 (inner_some l.production inner) in
      item_some x.alternative.body body (children under) x.own (ap children e)

  pub some_tokens : (f : Forest) → EachNode (IsOfAlternative (iso s)) f → EachNode IsInner f → (f ≡ none → ⊥) → 1 ≤ token_count f
  some_tokens none each inner some = absurd (some refl)
  some_tokens (token i rest) each inner some = omega arith
  some_tokens (node l first under rest) each inner some =
      let below = some_tokens under each.1 inner.1 (node_some l under each.0 inner.0) in
      omega (arith, below)

-- ---- A list of a unit

module _ (s : Edition) (n : ℕ) where
  -- the argument list of a call
  pub call_have : (l : Label) (k name : ℕ) (under : Forest) → is_at l Post 2 ≡ true → IsOfAlternative (iso s) l under → EachNode (IsOfAlternative (iso s)) under → AreFrom k under
      → arguments_of (list_of name under) ≡ n → InnerHave n under
  call_have l k name under at x each tokens is_many = by (call_pair s l under x at)
    where
      full : (p : IsFullPair Args under) → InnerHave n under
      full p = subst (InnerHave n) (sym p.is) (here, tt)
        where
          whole_each : EachNode (IsOfAlternative (iso s)) (token p.begin (node p.label p.first p.items (token p.close none)))
          whole_each = subst (EachNode (IsOfAlternative (iso s))) p.is each

          whole_tokens : AreFrom k (token p.begin (node p.label p.first p.items (token p.close none)))
          whole_tokens = subst (AreFrom k) p.is tokens

          listed_many : arguments_of (list_of name (token p.begin (node p.label p.first p.items (token p.close none)))) ≡ n
          listed_many = subst (λ (f : Forest). arguments_of (list_of name f) ≡ n) p.is is_many

          args : are_items false any_production (children p.items) ≡ true
          args = args_items s p.label p.items whole_each.0 p.production

          commas : length (odd_tokens 0 p.items) + 1 ≡ item_count p.items
          commas = items_commas any_production p.items 0 args refl

          inner : EachNode IsInner p.items
          inner = let own = whole_each.0 in own.inner (ap has_no_declaring p.production)

          some_item : p.items ≡ none → ⊥
          some_item e = false≢true (sym (ap (λ (f : Forest). are_items false any_production (children f)) e) ∙ args)

          apart : (p.close == p.begin + 1) ≡ false
          apart =
              let some = some_tokens s p.items whole_each.1 inner some_item in
              ne_eqb p.close (p.begin + 1) (λ e. omega (arith, e, some, whole_tokens.0, whole_tokens.1.2.0))

          here : HasCount n p.items
          here =
              let counted : length (odd_tokens 0 p.items) + 1 ≡ n = sym (ap (λ (b : Bool). if b then 0 else length (odd_tokens 0 p.items) + 1) apart) ∙ listed_many in
              inl (sym commas ∙ counted)

      by : IsPair Args under → InnerHave n under
      by (inl p) = subst (InnerHave n) (sym p.is) tt
      by (inr p) = full p

  -- the parameter list of a declarator
  pub list_have : (l : Label) (name : ℕ) (under : Forest) → is_list l ≡ true → IsOfAlternative (iso s) l under → EachNode (IsOfAlternative (iso s)) under
      → declarations_in (parameters_of name under) ≡ n → InnerHave n under
  list_have l name under at x each is_many = by (list_pair s l under x at)
    where
      full : (p : IsFullPair Params under) → InnerHave n under
      full p = subst (InnerHave n) (sym p.is) (here (is_at p.label Params 1) refl, tt)
        where
          whole_each : EachNode (IsOfAlternative (iso s)) (token p.begin (node p.label p.first p.items (token p.close none)))
          whole_each = subst (EachNode (IsOfAlternative (iso s))) p.is each

          told : declarations_in (if is_at p.label Params 1 then untyped name p.items else typed name p.items) ≡ n
          told = subst (λ (f : Forest). declarations_in (parameters_of name f) ≡ n) p.is is_many

          typed_many : (dots : Bool) → declarations_in (record { name = name; form = if dots then ellipsis else types; names = declared_names p.items }) ≡ length (declared_names p.items)
          typed_many true = refl
          typed_many false = refl

          here : (b : Bool) → is_at p.label Params 1 ≡ b → HasCount n p.items
          here true e = inr (names_count p.items (names_alone s p.label p.items whole_each.0 e))
          here false e =
              let names = items_names p.items (params_items s p.label p.items whole_each.0 p.production e) in
              let counted = ap (λ (b : Bool). declarations_in (if b then untyped name p.items else typed name p.items)) (sym e) ∙ told in
              inl (sym names ∙ (sym (typed_many (ends_in_token false p.items)) ∙ counted))

      by : IsPair Params under → InnerHave n under
      by (inl p) = subst (InnerHave n) (sym p.is) tt
      by (inr p) = full p
