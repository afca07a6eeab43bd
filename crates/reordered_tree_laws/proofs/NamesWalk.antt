-- The walk over two texts whose lists are in two orders: what is known of ordinary names goes along to the end.
use Rattle.std.proofs.Common.{ℕ, ◌+◌, ◌≤◌, ◌≡◌, Bool, true, false, not, if◌then◌else◌, List, length, sym, subst, arith}
use Rattle.std.specs.List.{All}
use Rattle.std.proofs.lemmas.Bool.{false≢true, and_parts}
use Rattle.std.proofs.lemmas.List.Elements.{All-nil, All-cons, All-head, All-tail}
use Rattle.cs_base.specs.Token.{Token}
use Rattle.cs_base.proofs.BoolLemmas.{or_met as or_not}
use Rattle.c99_tree.specs.Tree.{Forest, none, token, node, Node, node_of}
use Rattle.c99_tree.specs.declared.production.Label.{Label}
use Rattle.c99_tree.specs.declared.production.Production.TheVariants.{Declarator}
use Rattle.c_types.specs.Trees.{is_node}
use Rattle.scope_bind.specs.Named.{Scope}
use Rattle.tree_laws.specs.TreesOfTexts.{token_count}
use Rattle.list_cuts.specs.Cuts.{IsOrder}
use Rattle.tree_laws.proofs.Outline.{Entry, Outline, stepped, begun, ended, outlined}
use Rattle.reordered_tree_laws.specs.Reordered.{nodes_in, is_parenthesised, is_among, permuted, numbered}
use Rattle.reordered_tree_laws.specs.Premises.{is_items, is_spaced, is_bracketed, has_outer_list, is_item_production}
use Rattle.scope_bind.specs.Moved.{AreMovedTexts}
use Rattle.reordered_tree_laws.proofs.MovedHeads.{count_permuted}
use Rattle.reordered_tree_laws.proofs.Answered.{EntriesGo}
use Rattle.reordered_tree_laws.proofs.OutlineSteps.{OutlinesGo, outlines_at, unkept, token_steps}
use Rattle.reordered_tree_laws.proofs.Bags.{AreItems, item_declarator}
use Rattle.reordered_tree_laws.proofs.Placing.{ItemGoes}
use Rattle.reordered_tree_laws.proofs.Ready.{IsReady, IsReadyNode, IsReadyItems, IsReadyList, are_items, ready_token, ready_node, ready_rest, item_node, items_token, items_rest, ready_list}
use Rattle.reordered_tree_laws.proofs.NamesGo.{deeper, items_scope, listed_in, node_begins, node_ends, inside_by, in_parentheses, listed_along, list_goes_by}

module _ (m : ℕ → ℕ) (old new : List Token) (law : AreMovedTexts m old new) (order : List ℕ) (lists : ℕ → Bool) (is : IsOrder (length order) order) (level : ℕ) where
  abbrev Goes : ℕ → ℕ → List Entry → List Entry → Type 0
  Goes lo there es fs = EntriesGo m old new law level lo there es fs

  abbrev Along : Bool → ℕ → ℕ → Outline → Outline → Type 0
  Along keeps lo there o p = OutlinesGo m old new law level keeps lo there o p

  abbrev Ready : Bool → Label → Bool → ℕ → Scope → Bool → ℕ → ℕ → Forest → Type 0
  Ready b l own k scope keeps lo there f = IsReady m old new law order lists b l own k scope keeps lo there f

  -- the list's items in its scope
  pub list_ready : (keeps : Bool) (lo there i : ℕ) (q : Label) (first : ℕ) (u : Forest) (j : ℕ) (o : Outline)
      → Ready true o.label false 0 o.scope keeps lo there (token i (node q first u (token j none))) → is_bracketed (token i (node q first u (token j none))) ≡ true
      → IsReadyList m old new law order lists q o.scope keeps (lo + 1) u
  list_ready keeps lo there i q first u j o r shape =
      subst (λ (s : Scope). IsReadyList m old new law order lists q s keeps (lo + 1) u)
      (items_scope q.production q.alternative q u o.scope ((and_parts (is_items q) (is_spaced false u) shape).0))
      (ready_list m old new law order lists o.label false 0 o.scope keeps lo there i q first u j r shape)

  mutual
    pub walk_names : (f : Forest) (own keeps : Bool) (lo there : ℕ) (o p : Outline) → Ready false o.label own o.nth o.scope keeps lo there f → level ≤ o.scope.depth
        → Along keeps lo there o p → Along false (lo + token_count f) (there + token_count f) (outlined f o) (outlined (numbered there (permuted order lists false f)) p)
    walk_names none own keeps lo there o p r deep k =
        outlines_at m old new law level false lo there (lo + 0) (there + 0) o p (omega arith) (omega arith) (unkept m old new law level keeps lo there o p k)
    walk_names (token i rest) own keeps lo there o p r deep k =
        outlines_at m old new law level false (lo + 1 + token_count rest) (there + 1 + token_count rest) (lo + (token_count rest + 1)) (there + (token_count rest + 1))
        (outlined rest (stepped i o)) (outlined (numbered (there + 1) (permuted order lists false rest)) (stepped there p)) (omega arith) (omega arith)
        (walk_names rest (not (is_items o.label)) keeps (lo + 1) (there + 1) (stepped i o) (stepped there p)
        (ready_token m old new law order lists o.label own o.nth o.scope keeps lo there i rest r) deep
        (token_steps m old new law level keeps lo there i o p r.from.0 r.to.0 k))
    walk_names (node l first under rest) own keeps lo there o p r deep k =
        let n : ℕ = token_count under in
        let b : Bool = is_among lists l under in
        let g : Forest = permuted order lists b under in
        let over : Forest = numbered there g in
        let any : Bool = if is_node l Declarator then has_outer_list lists false under else keeps in
        let rn : IsReadyNode m old new law order lists o.label own o.nth o.scope keeps lo there l under =
        ready_node m old new law order lists o.label own o.nth o.scope keeps lo l first under rest there r in
        let o1 : Outline = begun l lo under o in
        let p1 : Outline = begun l there over p in
        let k1 : Along keeps lo there o1 p1 = node_begins m old new law order lists is level own keeps o.nth lo there l under o p k rn in
        let deep1 : level ≤ o1.scope.depth = deeper l.production l under o.scope level deep in
        let inside : Goes (lo + n) (there + n) (outlined under o1).entries (outlined over p1).entries =
        inside_by m old new law order lists is level b lo there l false 0 o1.scope keeps under o1 p1 rn.below
        (λ e x. list_names under keeps lo there o1 p1 x (in_parentheses m old new law order lists is level l under e) (or_not b (is_bracketed under) rn.shape e) deep1 k1)
        (λ e x. (walk_names under false keeps lo there o1 p1 x deep1 k1).entries) in
        let o2 : Outline = ended l lo under o (outlined under o1) in
        let p2 : Outline = ended l there over p (outlined over p1) in
        let k2 : Along any (lo + n) (there + n) o2 p2 =
        node_ends m old new law order lists is level own keeps o.nth lo there l under o p k rn (outlined under o1) (outlined over p1) inside in
        let count : token_count g ≡ n = count_permuted order lists is b under rn.below.cut in
        let last : Along false (lo + n + token_count rest) (there + n + token_count rest) (outlined rest o2) (outlined (numbered (there + n) (permuted order lists false rest)) p2) =
        walk_names rest own any (lo + n) (there + n) o2 p2
        (ready_rest m old new law order lists o.label own o.nth o.scope keeps lo l first under rest is there r) deep k2 in
        let placed : Along false (lo + (n + token_count rest)) (there + (n + token_count rest)) (outlined rest o2) (outlined (numbered (there + token_count g) (permuted order lists false rest)) p2) =
        subst (λ (x : ℕ). Along false (lo + (n + token_count rest)) (there + (n + token_count rest)) (outlined rest o2) (outlined (numbered (there + x) (permuted order lists false rest)) p2)) (sym count)
        (outlines_at m old new law level false (lo + n + token_count rest) (there + n + token_count rest) (lo + (n + token_count rest)) (there + (n + token_count rest))
        (outlined rest o2) (outlined (numbered (there + n) (permuted order lists false rest)) p2) (omega arith) (omega arith) last) in
        subst (λ (x : ℕ). Along false (lo + (n + token_count rest)) (there + (n + token_count rest))
        (outlined rest (ended l x under o (outlined under (begun l x under o)))) (outlined (numbered (there + token_count g) (permuted order lists false rest)) p2)) (sym r.from.0) placed

    -- a list in its parentheses
    pub list_names : (under : Forest) (keeps : Bool) (lo there : ℕ) (o p : Outline) → Ready true o.label false 0 o.scope keeps lo there under → is_parenthesised o.label ≡ true
        → is_bracketed under ≡ true → level ≤ o.scope.depth → Along keeps lo there o p
        → Goes (lo + token_count under) (there + token_count under) (outlined under o).entries (outlined (numbered there (permuted order lists true under)) p).entries
    list_names none keeps lo there o p r paren shape deep k = absurd (false≢true shape)
    list_names (node l first under rest) keeps lo there o p r paren shape deep k = absurd (false≢true shape)
    list_names (token i none) keeps lo there o p r paren shape deep k = absurd (false≢true shape)
    list_names (token i (token j none)) keeps lo there o p r paren shape deep k =
        (outlines_at m old new law level keeps (lo + 1 + 1) (there + 1 + 1) (lo + (0 + 1 + 1)) (there + (0 + 1 + 1)) (stepped j (stepped i o)) (stepped (there + 1) (stepped there p))
        (omega arith) (omega arith)
        (token_steps m old new law level keeps (lo + 1) (there + 1) j (stepped i o) (stepped there p) r.from.1.0 r.to.1.0
        (token_steps m old new law level keeps lo there i o p r.from.0 r.to.0 k))).entries
    list_names (token i (token j (token n rest))) keeps lo there o p r paren shape deep k = absurd (false≢true shape)
    list_names (token i (token j (node l first under rest))) keeps lo there o p r paren shape deep k = absurd (false≢true shape)
    list_names (token i (node q first u none)) keeps lo there o p r paren shape deep k = absurd (false≢true shape)
    list_names (token i (node q first u (node l second under rest))) keeps lo there o p r paren shape deep k = absurd (false≢true shape)
    list_names (token i (node q first u (token j (token n rest)))) keeps lo there o p r paren shape deep k = absurd (false≢true shape)
    list_names (token i (node q first u (token j (node l second under rest)))) keeps lo there o p r paren shape deep k = absurd (false≢true shape)
    list_names (token i (node q first u (token j none))) keeps lo there o p r paren shape deep k =
        let w : IsReadyList m old new law order lists q o.scope keeps (lo + 1) u = list_ready keeps lo there i q first u j o r shape in
        list_goes_by m old new law order lists is level keeps lo there i q first u j o p k r paren w deep
        (item_names u false 0 keeps (lo + 1) lo there (omega arith) q o p w.inside (are_items (nodes_in u) w.each) deep k)

    -- each item of a list
    pub item_names : (u : Forest) (own : Bool) (nth : ℕ) (keeps : Bool) (at lo there : ℕ) → lo + 1 ≤ at → (q : Label) (o p : Outline)
        → IsReadyItems m old new law order lists q own nth o.scope keeps at u → AreItems (nodes_in u) → level ≤ o.scope.depth → Along keeps lo there o p
        → All (ItemGoes m old new law order lists level (listed_in q o) (listed_in q p) (there + 1)) (nodes_in u)
    item_names none own nth keeps at lo there low q o p r all deep k =
        All-nil (ItemGoes m old new law order lists level (listed_in q o) (listed_in q p) (there + 1))
    item_names (token i rest) own nth keeps at lo there low q o p r all deep k =
        item_names rest (not (is_items q)) (nth + 1) keeps (at + 1) lo there (omega (arith, low)) q o p
        (items_token m old new law order lists q own nth o.scope keeps at i rest r) all deep k
    item_names (node l first under rest) own nth keeps at lo there low q o p r all deep k =
        let n : ℕ = token_count under in
        let b : Bool = is_among lists l under in
        let c : Outline = listed_in q o in
        let d : Outline = listed_in q p in
        let P : Node → Type 0 = λ x. is_item_production x.label.production ≡ true in
        let none : is_node l Declarator ≡ false = item_declarator l.production (All-head P (node_of l first under) (nodes_in rest) all) in
        let later : IsReadyItems m old new law order lists q own (nth + 1) o.scope keeps (at + n) rest =
        subst (λ (x : Bool). IsReadyItems m old new law order lists q own (nth + 1) o.scope (if x then has_outer_list lists false under else keeps) (at + n) rest) none
        (items_rest m old new law order lists q own nth o.scope keeps at l first under rest r) in
        let one : ItemGoes m old new law order lists level c d (there + 1) (node_of l first under) = λ y behind w.
        let over : Forest = numbered y (permuted order lists b under) in
        let rn : IsReadyNode m old new law order lists q own nth o.scope keeps at y l under =
        item_node m old new law order lists q own nth o.scope keeps at l first under rest y r w in
        let kn : Along keeps at y c d = listed_along m old new law order lists is level keeps lo there at y q o p low behind k in
        let c1 : Outline = begun l at under c in
        let d1 : Outline = begun l y over d in
        let k1 : Along keeps at y c1 d1 = node_begins m old new law order lists is level own keeps nth at y l under c d kn rn in
        let deep1 : level ≤ c1.scope.depth = deeper l.production l under o.scope level deep in
        let inside : Goes (at + n) (y + n) (outlined under c1).entries (outlined over d1).entries =
        inside_by m old new law order lists is level b at y l false 0 c1.scope keeps under c1 d1 rn.below
        (λ e x. list_names under keeps at y c1 d1 x (in_parentheses m old new law order lists is level l under e) (or_not b (is_bracketed under) rn.shape e) deep1 k1)
        (λ e x. (walk_names under false keeps at y c1 d1 x deep1 k1).entries) in
        let last : Goes (at + n) (y + n) (ended l at under c (outlined under c1)).entries (ended l y over d (outlined over d1)).entries =
        (node_ends m old new law order lists is level own keeps nth at y l under c d kn rn (outlined under c1) (outlined over d1) inside).entries in
        subst (λ (x : ℕ). Goes (x + n) (y + n) (ended l x under c (outlined under (begun l x under c))).entries (ended l y over d (outlined over d1)).entries) (sym r.from.0) last in
        All-cons (ItemGoes m old new law order lists level c d (there + 1)) (node_of l first under) (nodes_in rest) one
        (item_names rest own (nth + 1) keeps (at + n) lo there (omega (arith, low)) q o p later (All-tail P (node_of l first under) (nodes_in rest) all) deep k)

  -- what is known at the end of the children of a node
  pub node_inside : (l : Label) (under : Forest) (own keeps : Bool) (k lo there : ℕ) (o p : Outline) → IsReadyNode m old new law order lists o.label own k o.scope keeps lo there l under
      → level ≤ o.scope.depth → Along keeps lo there o p
      → Goes (lo + token_count under) (there + token_count under) (outlined under (begun l lo under o)).entries
      (outlined (numbered there (permuted order lists (is_among lists l under) under)) (begun l there (numbered there (permuted order lists (is_among lists l under) under)) p)).entries
  node_inside l under own keeps k lo there o p rn deep along =
      let b : Bool = is_among lists l under in
      let over : Forest = numbered there (permuted order lists b under) in
      let o1 : Outline = begun l lo under o in
      let p1 : Outline = begun l there over p in
      let k1 : Along keeps lo there o1 p1 = node_begins m old new law order lists is level own keeps k lo there l under o p along rn in
      let deep1 : level ≤ o1.scope.depth = deeper l.production l under o.scope level deep in
      inside_by m old new law order lists is level b lo there l false 0 o1.scope keeps under o1 p1 rn.below
      (λ e x. list_names under keeps lo there o1 p1 x (in_parentheses m old new law order lists is level l under e) (or_not b (is_bracketed under) rn.shape e) deep1 k1)
      (λ e x. (walk_names under false keeps lo there o1 p1 x deep1 k1).entries)
