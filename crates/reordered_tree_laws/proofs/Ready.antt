-- What is asked of some children of a node, and of those below them, so that their names go along in a new order.
use Rattle.std.proofs.Common.{ℕ, ◌+◌, ◌≤◌, ◌≡◌, Bool, true, false, ◌&&◌, ◌||◌, not, if◌then◌else◌, List, [], ◌∷◌, length, Option, None, Some, refl, sym, subst, arith}
use Rattle.std.specs.List.{All, list_all, list_any}
use Rattle.std.specs.Option.{option_map_or}
use Rattle.std.proofs.lemmas.Bool.{false≢true, and_parts}
use Rattle.std.proofs.lemmas.List.Elements.{All-nil, All-cons}
use Rattle.cs_base.specs.Token.{Token}
use Rattle.cs_base.proofs.BoolLemmas.{not_true}
use Rattle.c99_tree.specs.Tree.{Forest, none, token, node, Node, node_of}
use Rattle.c99_tree.specs.declared.production.Label.{Label}
use Rattle.c99_tree.specs.declared.production.Production.TheVariants.{FunBody, Declarator}
use Rattle.c_types.specs.Trees.{is_node}
use Rattle.c_types.specs.Declarations.{alike}
use Rattle.name_chains.specs.Entering.{scope_in}
use Rattle.scope_bind.specs.Named.{Scope}
use Rattle.tree_laws.specs.TreesOfTexts.{token_count, AreFrom, has_body, has_form, have_forms}
use Rattle.list_cuts.specs.Cuts.{done, IsOrder, AreOf, AreItemsOf}
use Rattle.tree_laws.proofs.Outline.{Outline}
use Rattle.reordered_tree_laws.specs.Reordered.{nodes_in, is_among, permuted}
use Rattle.reordered_tree_laws.specs.Cuts.{cut_then, items_in}
use Rattle.reordered_tree_laws.specs.Adding.{is_adding}
use Rattle.reordered_tree_laws.specs.Premises.{is_items, is_spaced, is_bracketed, has_outer_list, is_fit_child, is_fit, lists_pass, is_item_production, has_typedef_word, is_item, is_quiet, declared_name, asked_in, is_unasked_in, are_two_apart, are_apart}
use Rattle.scope_bind.specs.Moved.{AreMovedTexts}
use Rattle.reordered_tree_laws.specs.Moving.{AreMovedTo}
use Rattle.reordered_tree_laws.proofs.Arranged.{cut_all, items_all}
use Rattle.reordered_tree_laws.proofs.MovedHeads.{cut_front, count_permuted}
use Rattle.reordered_tree_laws.proofs.MovedWalk.{IsFitNode, fit_child, fit_shape}
use Rattle.reordered_tree_laws.proofs.Within.{IsBodiless, IsQuietWithin, adding_plain}
use Rattle.reordered_tree_laws.proofs.Bags.{AreItems, lasting_of, item_body, bag_quiet}
use Rattle.reordered_tree_laws.proofs.Answering.{end_of, AreUnlike, IsBehind, ArePairs, IsOldItem}
use Rattle.reordered_tree_laws.proofs.Placing.{IsCounted}

-- ---- Items

-- what an item is
pub record IsAnItem (n : Node) : Type 0 where
  pub production : is_item_production n.label.production ≡ true
  pub adding : is_adding (λ i. true) false n.label n.under ≡ true
  pub quiet : is_quiet (lasting_of n) n.label n.under ≡ true

pub an_item : (n : Node) → is_item n ≡ true → IsAnItem n
an_item n e =
    let form : Bool = option_map_or (λ i. not (has_typedef_word n.under)) (declared_name n) true in
    let adds : Bool = is_adding (λ i. true) false n.label n.under in
    let quiet : Bool = is_quiet (lasting_of n) n.label n.under in
    let p = and_parts (is_item_production n.label.production && form) (adds && quiet) e in
    let q = and_parts adds quiet p.1 in
    record { production = (and_parts (is_item_production n.label.production) form p.0).0; adding = q.0; quiet = q.1 }

pub item_bodiless : (n : Node) (lo : ℕ) → IsAnItem n → AreFrom lo n.under → have_forms n.under ≡ true → IsBodiless lo n.under
item_bodiless n lo item from forms = record { from = from; forms = forms; plain = adding_plain n.under false n.label item.adding }

pub are_items : (ns : List Node) → list_all is_item ns ≡ true → AreItems ns
are_items [] e = All-nil (λ (n : Node). is_item_production n.label.production ≡ true)
are_items (n ∷ ns) e =
    let p = and_parts (is_item n) (list_all is_item ns) e in
    All-cons (λ (x : Node). is_item_production x.label.production ≡ true) n ns (an_item n p.0).production (are_items ns p.1)

pub items_plain : (u : Forest) → list_all is_item (nodes_in u) ≡ true → has_body u ≡ false
items_plain none e = refl
items_plain (token i rest) e = items_plain rest e
items_plain (node l first under rest) e =
    let n : Node = node_of l first under in
    let p = and_parts (is_item n) (list_all is_item (nodes_in rest)) e in
    let item : IsAnItem n = an_item n p.0 in
    none_of (is_node l FunBody) (has_body under) (has_body rest) (item_body l.production item.production) (adding_plain under false l item.adding) (items_plain rest p.1)
  where
    none_of : (a b c : Bool) → a ≡ false → b ≡ false → c ≡ false → (a || (b || c)) ≡ false
    none_of true b c f g h = f
    none_of false true c f g h = g
    none_of false false c f g h = h

-- in the outline of a list what its items add is known
pub old_items : (b : Outline) (end : ℕ) (u : Forest) (lo : ℕ) → b.entries ≡ [] → AreFrom lo u → have_forms u ≡ true → list_all is_item (nodes_in u) ≡ true
    → lo + token_count u ≤ end → All (IsOldItem b end) (nodes_in u)
old_items b end none lo empty from forms e few = All-nil (IsOldItem b end)
old_items b end (token i rest) lo empty from forms e few = old_items b end rest (lo + 1) empty from.1 forms e (omega (arith, few))
old_items b end (node l first under rest) lo empty from forms e few =
    let n : Node = node_of l first under in
    let p = and_parts (is_item n) (list_all is_item (nodes_in rest)) e in
    let item : IsAnItem n = an_item n p.0 in
    let f = and_parts (have_forms under) (have_forms rest) ((and_parts (has_form l.production under) (have_forms under && have_forms rest) forms).1) in
    let sub : IsBodiless first under = item_bodiless n first item (subst (λ (x : ℕ). AreFrom x under) (sym from.0) from.1) f.0 in
    All-cons (IsOldItem b end) n (nodes_in rest)
    (record {
      quiet = bag_quiet (IsQuietWithin (lasting_of n) first (first + token_count under) b.scope) b n first refl empty item.production sub item.adding item.quiet (λ x w. w);
      ends = omega (arith, few, from.0);
    })
    (old_items b end rest (lo + token_count under) empty from.2 f.1 p.1 (omega (arith, few)))

-- ---- Items beside one another

module _ (toks : List Token) where
  of_some : (f : ℕ → Bool) (o : Option ℕ) (i : ℕ) → option_map_or f o true ≡ true → o ≡ Some i → f i ≡ true
  of_some f None i e h = absurd cc
  of_some f (Some j) i e h = subst (λ (o : Option ℕ). option_map_or f o true ≡ true) h e

  of_none : (f : ℕ → Bool) (o : Option ℕ) (i : ℕ) → option_map_or f o false ≡ false → o ≡ Some i → f i ≡ false
  of_none f None i e h = absurd cc
  of_none f (Some j) i e h = subst (λ (o : Option ℕ). option_map_or f o false ≡ false) h e

  unlike_of : (n x : Node) → are_two_apart toks n x ≡ true → AreUnlike toks n x
  unlike_of n x e i j h k =
      let p = and_parts (option_map_or (is_unasked_in toks x) (declared_name n) true) (option_map_or (is_unasked_in toks n) (declared_name x) true) e in
      let q = and_parts (not (list_any (alike toks i) (asked_in x))) (not (option_map_or (alike toks i) (declared_name x) false)) (of_some (is_unasked_in toks x) (declared_name n) i p.0 h) in
      of_none (alike toks i) (declared_name x) j (not_true (option_map_or (alike toks i) (declared_name x) false) q.1) k

  behind_all : (n : Node) (u : Forest) (lo : ℕ) → end_of n + 1 ≤ lo → AreFrom lo u → list_all (are_two_apart toks n) (nodes_in u) ≡ true
      → All (IsBehind toks n) (nodes_in u)
  behind_all n none lo after from e = All-nil (IsBehind toks n)
  behind_all n (token i rest) lo after from e = behind_all n rest (lo + 1) (omega (arith, after)) from.1 e
  behind_all n (node l first under rest) lo after from e =
      let x : Node = node_of l first under in
      let p = and_parts (are_two_apart toks n x) (list_all (are_two_apart toks n) (nodes_in rest)) e in
      All-cons (IsBehind toks n) x (nodes_in rest) (record { after = omega (arith, after, from.0); unlike = unlike_of n x p.0 })
      (behind_all n rest (lo + token_count under) (omega (arith, after)) from.2 p.1)

  spaced_behind : (n : Node) (u : Forest) (lo : ℕ) → end_of n ≡ lo → is_spaced true u ≡ true → AreFrom lo u → list_all (are_two_apart toks n) (nodes_in u) ≡ true
      → All (IsBehind toks n) (nodes_in u)
  spaced_behind n none lo here s from e = All-nil (IsBehind toks n)
  spaced_behind n (token i rest) lo here s from e = behind_all n rest (lo + 1) (omega (arith, here)) from.1 e
  spaced_behind n (node l first under rest) lo here s from e = absurd (false≢true s)

  pub are_pairs : (passed : Bool) (u : Forest) (lo : ℕ) → is_spaced passed u ≡ true → AreFrom lo u → are_apart toks (nodes_in u) ≡ true → ArePairs toks (nodes_in u)
  are_pairs passed none lo s from e = tt
  are_pairs passed (token i rest) lo s from e = are_pairs false rest (lo + 1) s from.1 e
  are_pairs passed (node l first under rest) lo s from e =
      let n : Node = node_of l first under in
      let p = and_parts (list_all (are_two_apart toks n) (nodes_in rest)) (are_apart toks (nodes_in rest)) e in
      let q = and_parts (not passed) (is_spaced true rest) s in (
        spaced_behind n rest (lo + token_count under) (omega (arith, from.0)) q.1 from.2 p.0,
        are_pairs true rest (lo + token_count under) q.1 from.2 p.1,
      )

-- ---- Children

module _ (m : ℕ → ℕ) (old new : List Token) (law : AreMovedTexts m old new) (order : List ℕ) (lists : ℕ → Bool) where
  -- the children of a node, perhaps in the parentheses of a list, are to be put in the new order
  pub record IsReady (b : Bool) (l : Label) (own : Bool) (k : ℕ) (scope : Scope) (keeps : Bool) (lo there : ℕ) (f : Forest) : Type 0 where
    pub from : AreFrom lo f
    pub to : AreMovedTo m there (permuted order lists b f)
    pub forms : have_forms f ≡ true
    pub fit : is_fit lists l own k scope keeps f ≡ true
    pub cut : AreOf (length order) (cut_then lists b f done)
    pub items : lists_pass lists (list_all is_item) b f ≡ true
    pub apart : lists_pass lists (are_apart old) b f ≡ true

  -- .. one of them that is a node
  pub record IsReadyNode (l : Label) (own : Bool) (k : ℕ) (scope : Scope) (keeps : Bool) (lo there : ℕ) (x : Label) (under : Forest) : Type 0 where
    pub form : has_form x.production under ≡ true
    pub fit : IsFitNode l own k scope keeps x under
    pub shape : (not (is_among lists x under) || is_bracketed under) ≡ true
    pub below : IsReady (is_among lists x under) x false 0 (scope_in x.production x under scope) keeps lo there under

  -- .. the items of a list
  pub record IsReadyItems (l : Label) (own : Bool) (k : ℕ) (scope : Scope) (keeps : Bool) (lo : ℕ) (u : Forest) : Type 0 where
    pub from : AreFrom lo u
    pub forms : have_forms u ≡ true
    pub fit : is_fit lists l own k scope keeps u ≡ true
    pub cut : AreItemsOf (length order) (items_in lists u)
    pub items : lists_pass lists (list_all is_item) false u ≡ true
    pub apart : lists_pass lists (are_apart old) false u ≡ true

  pub ready_token : (l : Label) (own : Bool) (k : ℕ) (scope : Scope) (keeps : Bool) (lo there i : ℕ) (rest : Forest)
      → IsReady false l own k scope keeps lo there (token i rest) → IsReady false l (not (is_items l)) (k + 1) scope keeps (lo + 1) (there + 1) rest
  ready_token l own k scope keeps lo there i rest r = record {
    from = r.from.1;
    to = r.to.1;
    forms = r.forms;
    fit = r.fit;
    cut = r.cut;
    items = r.items;
    apart = r.apart;
  }

  module _ (l : Label) (own : Bool) (k : ℕ) (scope : Scope) (keeps : Bool) (lo : ℕ) (x : Label) (first : ℕ) (under rest : Forest) where
    abbrev child : Bool
    child = is_fit_child lists l own k scope keeps x under

    abbrev below : Bool
    below = is_fit lists x false 0 (scope_in x.production x under scope) keeps under

    abbrev any : Bool
    any = if is_node x Declarator then has_outer_list lists false under else keeps

    abbrev more : Bool
    more = is_fit lists l own (k + 1) scope any rest

    abbrev pass : (List Node → Bool) → Bool
    pass test = lists_pass lists test (is_among lists x under) under

    abbrev pass_more : (List Node → Bool) → Bool
    pass_more test = lists_pass lists test false rest

    pub ready_node : (there : ℕ) → IsReady false l own k scope keeps lo there (node x first under rest) → IsReadyNode l own k scope keeps lo there x under
    ready_node there r =
        let p = and_parts child (below && more) r.fit in
        let f = and_parts (has_form x.production under) (have_forms under && have_forms rest) r.forms in
        record {
          form = f.0;
          fit = fit_child lists l own k scope keeps x under p.0;
          shape = fit_shape lists l own k scope keeps x under p.0;
          below = record {
            from = r.from.1;
            to = r.to.0;
            forms = (and_parts (have_forms under) (have_forms rest) f.1).0;
            fit = (and_parts below more p.1).0;
            cut = cut_front order lists (is_among lists x under) under (cut_then lists false rest done) done r.cut tt;
            items = (and_parts (pass (list_all is_item)) (pass_more (list_all is_item)) r.items).0;
            apart = (and_parts (pass (are_apart old)) (pass_more (are_apart old)) r.apart).0;
          };
        }

    pub ready_rest : IsOrder (length order) order → (there : ℕ) → IsReady false l own k scope keeps lo there (node x first under rest)
        → IsReady false l own (k + 1) scope any (lo + token_count under) (there + token_count under) rest
    ready_rest is there r =
        let p = and_parts child (below && more) r.fit in
        let f = and_parts (has_form x.production under) (have_forms under && have_forms rest) r.forms in
        let b : Bool = is_among lists x under in
        let here : AreOf (length order) (cut_then lists b under done) = cut_front order lists b under (cut_then lists false rest done) done r.cut tt in
        record {
          from = r.from.2;
          to = subst (λ (n : ℕ). AreMovedTo m (there + n) (permuted order lists false rest)) (count_permuted order lists is b under here) r.to.1;
          forms = (and_parts (have_forms under) (have_forms rest) f.1).1;
          fit = (and_parts below more p.1).1;
          cut = cut_all order lists b under (cut_then lists false rest done) r.cut;
          items = (and_parts (pass (list_all is_item)) (pass_more (list_all is_item)) r.items).1;
          apart = (and_parts (pass (are_apart old)) (pass_more (are_apart old)) r.apart).1;
        }

    -- an item, wherever it is put
    pub item_node : (there : ℕ) → IsReadyItems l own k scope keeps lo (node x first under rest) → AreMovedTo m there (permuted order lists (is_among lists x under) under)
        → IsReadyNode l own k scope keeps lo there x under
    item_node there r w =
        let p = and_parts child (below && more) r.fit in
        let f = and_parts (has_form x.production under) (have_forms under && have_forms rest) r.forms in
        record {
          form = f.0;
          fit = fit_child lists l own k scope keeps x under p.0;
          shape = fit_shape lists l own k scope keeps x under p.0;
          below = record {
            from = r.from.1;
            to = w;
            forms = (and_parts (have_forms under) (have_forms rest) f.1).0;
            fit = (and_parts below more p.1).0;
            cut = r.cut.0;
            items = (and_parts (pass (list_all is_item)) (pass_more (list_all is_item)) r.items).0;
            apart = (and_parts (pass (are_apart old)) (pass_more (are_apart old)) r.apart).0;
          };
        }

    pub items_rest : IsReadyItems l own k scope keeps lo (node x first under rest) → IsReadyItems l own (k + 1) scope any (lo + token_count under) rest
    items_rest r =
        let p = and_parts child (below && more) r.fit in
        let f = and_parts (has_form x.production under) (have_forms under && have_forms rest) r.forms in
        record {
          from = r.from.2;
          forms = (and_parts (have_forms under) (have_forms rest) f.1).1;
          fit = (and_parts below more p.1).1;
          cut = r.cut.1;
          items = (and_parts (pass (list_all is_item)) (pass_more (list_all is_item)) r.items).1;
          apart = (and_parts (pass (are_apart old)) (pass_more (are_apart old)) r.apart).1;
        }

  pub items_token : (l : Label) (own : Bool) (k : ℕ) (scope : Scope) (keeps : Bool) (lo i : ℕ) (rest : Forest) → IsReadyItems l own k scope keeps lo (token i rest)
      → IsReadyItems l (not (is_items l)) (k + 1) scope keeps (lo + 1) rest
  items_token l own k scope keeps lo i rest r = record {
    from = r.from.1;
    forms = r.forms;
    fit = r.fit;
    cut = r.cut;
    items = r.items;
    apart = r.apart;
  }

  -- a list in its parentheses
  pub record IsReadyList (q : Label) (scope : Scope) (keeps : Bool) (lo : ℕ) (u : Forest) : Type 0 where
    pub inside : IsReadyItems q false 0 scope keeps lo u
    pub each : list_all is_item (nodes_in u) ≡ true
    pub apart : are_apart old (nodes_in u) ≡ true
    pub among : is_items q ≡ true
    pub spaced : is_spaced false u ≡ true

  pub ready_list : (l : Label) (own : Bool) (k : ℕ) (scope : Scope) (keeps : Bool) (lo there i : ℕ) (q : Label) (first : ℕ) (u : Forest) (j : ℕ)
      → IsReady true l own k scope keeps lo there (token i (node q first u (token j none))) → is_bracketed (token i (node q first u (token j none))) ≡ true
      → IsReadyList q (scope_in q.production q u scope) keeps (lo + 1) u
  ready_list l own k scope keeps lo there i q first u j r shape =
      let own' : Bool = not (is_items l) in
      let below : Bool = is_fit lists q false 0 (scope_in q.production q u scope) keeps u in
      let any : Bool = if is_node q Declarator then has_outer_list lists false u else keeps in
      let more : Bool = is_fit lists l own' (k + 1 + 1) scope any (token j none) in
      let p = and_parts (is_fit_child lists l own' (k + 1) scope keeps q u) (below && more) r.fit in
      let f = and_parts (has_form q.production u) (have_forms u && true) r.forms in
      let a = and_parts (list_all is_item (nodes_in u)) (lists_pass lists (list_all is_item) false u && true) r.items in
      let c = and_parts (are_apart old (nodes_in u)) (lists_pass lists (are_apart old) false u && true) r.apart in
      let s = and_parts (is_items q) (is_spaced false u) shape in
      record {
        inside = record {
          from = r.from.1.1;
          forms = (and_parts (have_forms u) true f.1).0;
          fit = (and_parts below more p.1).0;
          cut = items_all order lists u (cut_then lists true (token j none) done) r.cut;
          items = (and_parts (lists_pass lists (list_all is_item) false u) true a.1).0;
          apart = (and_parts (lists_pass lists (are_apart old) false u) true c.1).0;
        };
        each = a.0;
        apart = c.0;
        among = s.0;
        spaced = s.1;
      }

  pub counted_items : IsOrder (length order) order → (u : Forest) → AreItemsOf (length order) (items_in lists u) → All (IsCounted m old new law order lists) (nodes_in u)
  counted_items is none all = All-nil (IsCounted m old new law order lists)
  counted_items is (token i rest) all = counted_items is rest all
  counted_items is (node l first under rest) all =
      All-cons (IsCounted m old new law order lists) (node_of l first under) (nodes_in rest) (count_permuted order lists is (is_among lists l under) under all.0)
      (counted_items is rest all.1)
