-- The names of two texts go along, from part to part: where a list is in a new order, what its items add is the same.
use Rattle.std.proofs.Common.{ℕ, ◌+◌, ◌≤◌, ◌≡◌, Bool, true, false, ◌&&◌, ◌||◌, not, if◌then◌else◌, ◌==◌, List, [], ◌∷◌, ◌++◌, map, length, inl, inr, refl, sym, ap, subst, ◌∙◌, arith}
use Rattle.std.specs.Prelude.{nat_lt}
use Rattle.std.specs.List.{All}
use Rattle.std.proofs.lemmas.Bool.{false≢true, cases_Bool, and_parts, or_parts, ltb-true, ltb-false}
use Rattle.std.proofs.lemmas.List.Elements.{All-cons, All-head, All-tail}
use Rattle.std.proofs.lemmas.List.Sorted.{All-permutation}
use Rattle.cs_base.specs.Token.{Token}
use Rattle.c99_tree.specs.Tree.{Forest, none, token, node, Node}
use Rattle.c99_tree.specs.declared.production.Label.{Label}
use Rattle.c99_tree.specs.declared.production.Production.{Production}
use Rattle.c99_tree.specs.declared.production.Production.TheVariants.{FunBody, Declarator, Params, Suffix, Args, Post, Block, Statement, Sub}
use Rattle.c99_tree.specs.contracts.production.ProductionPartialEq.TheImpl.{ghosts}
use Rattle.c_types.specs.Trees.{is_node, is_list, last_token, first_token}
use Rattle.c_types.specs.Parameters.{ends_in_token}
use Rattle.name_chains.specs.Entering.{inner, is_scoped, scope_in}
use Rattle.name_chains.specs.Frames.{at_first}
use Rattle.scope_bind.specs.Named.{Scope}
use Rattle.tree_laws.specs.TreesOfTexts.{token_count, has_body}
use Rattle.list_cuts.specs.Cuts.{done, IsOrder, AreOf}
use Rattle.tree_laws.proofs.Outline.{Entry, Outline, added, is_listing, stepped, begun, entries_after, ended, outlined}
use Rattle.reordered_tree_laws.specs.Reordered.{nodes_in, shuffled, is_parenthesised, is_among, permuted, numbered}
use Rattle.reordered_tree_laws.specs.Cuts.{cut_then}
use Rattle.reordered_tree_laws.specs.Premises.{is_items, has_outer_list, is_item_production}
use Rattle.scope_bind.specs.Moved.{AreMovedTexts}
use Rattle.reordered_tree_laws.specs.Moving.{IsAhead}
use Rattle.reordered_tree_laws.proofs.SameForms.{same-cut, same-numbered}
use Rattle.reordered_tree_laws.proofs.MovedFacts.{further_ahead}
use Rattle.reordered_tree_laws.proofs.MovedHeads.{count_permuted, heads_stay}
use Rattle.reordered_tree_laws.proofs.MovedOrders.{IsStep, step_of, declares_at}
use Rattle.reordered_tree_laws.proofs.Answered.{EntriesGo, none_go, append_go, entries_further}
use Rattle.reordered_tree_laws.proofs.OutlineSteps.{OutlinesGo, scopes_further, begun_goes, ended_goes}
use Rattle.reordered_tree_laws.proofs.Within.{same_in}
use Rattle.reordered_tree_laws.proofs.Chains.{heap}
use Rattle.reordered_tree_laws.proofs.Bags.{bag_in, AreItems, items_heap}
use Rattle.reordered_tree_laws.proofs.Answering.{IsOldItem, ArePairs}
use Rattle.reordered_tree_laws.proofs.Placing.{AreItemsPlaced, IsReordered, list_reordered, ItemGoes, list_entries}
use Rattle.reordered_tree_laws.proofs.Ready.{IsReady, IsReadyNode, IsReadyList, are_items, items_plain, old_items, are_pairs, counted_items}

-- ---- The node in the parentheses

pub items_scope : (p : Production) (a : ℕ) (l : Label) (u : Forest) (s : Scope) → (ghosts.eq p Args || (ghosts.eq p Params && not (a == 1))) ≡ true → scope_in p l u s ≡ s
items_scope Args a l u s e = refl
items_scope Params a l u s e = refl
items_scope _ a l u s e = absurd (false≢true e)

items_after : (p : Production) (a first : ℕ) (o : Outline) (l : Label) (u : Forest) (es : List Entry) → (ghosts.eq p Args || (ghosts.eq p Params && not (a == 1))) ≡ true
    → entries_after p first o l u es ≡ es
items_after Args a first o l u es e = refl
items_after Params a first o l u es e = refl
items_after _ a first o l u es e = absurd (false≢true e)

pub items_body : (p : Production) (a : ℕ) → (ghosts.eq p Args || (ghosts.eq p Params && not (a == 1))) ≡ true → ghosts.eq p FunBody ≡ false
items_body Args a e = refl
items_body Params a e = refl
items_body _ a e = absurd (false≢true e)

pub unlisted : (p : Production) (a k : ℕ) → ((ghosts.eq p Post && (a == 2)) || (ghosts.eq p Suffix && (a == 2))) ≡ true → is_listing p a k ≡ false
unlisted Post a k e = refl
unlisted Suffix a k e = refl
unlisted _ a k e = absurd (false≢true e)

pub deeper : (p : Production) (l : Label) (under : Forest) (s : Scope) (level : ℕ) → level ≤ s.depth → level ≤ (scope_in p l under s).depth
deeper Block l under s level e = omega (arith, e)
deeper FunBody l under s level e = omega (arith, e)
deeper Suffix l under s level e = by (is_list l)
  where
    by : (c : Bool) → level ≤ (if c then inner s (last_token under 0) else s).depth
    by true = omega (arith, e)
    by false = e
deeper Sub l under s level e = omega (arith, e)
deeper Statement l under s level e = by (is_scoped l.alternative)
  where
    by : (c : Bool) → level ≤ (if c then inner s (last_token under 0 + 1) else s).depth
    by true = omega (arith, e)
    by false = e
deeper _ l under s level e = e

-- inside a list with nothing known
abbrev pub listed_in : Label → Outline → Outline
listed_in q o = record o { label = q; nth = 0; entries = [] }

pub list_outlined : (i : ℕ) (q : Label) (first : ℕ) (u : Forest) (j : ℕ) (o : Outline) → is_items q ≡ true → is_parenthesised o.label ≡ true → has_body u ≡ false
    → AreItems (nodes_in u) → (outlined (token i (node q first u (token j none))) o).entries ≡ heap (map (bag_in (listed_in q o)) (nodes_in u)) ++ o.entries
list_outlined i q first u j o items paren plain all =
    let o1 : Outline = stepped i o in
    let o2 : Outline = begun q first u o1 in
    let o3 : Outline = ended q first u o1 (outlined u o2) in
    let bags : List Entry = heap (map (bag_in (listed_in q o)) (nodes_in u)) in
    ap (λ c. if c then added o3 j false j o3.entries else o3.entries) (unlisted o.label.production o.label.alternative o3.nth paren)
    ∙ (items_after q.production q.alternative first o1 q u (outlined u o2).entries items
    ∙ (items_heap u o2 (listed_in q o) (ap (λ (s : Scope). record (listed_in q o) { scope = s }) (items_scope q.production q.alternative q u o.scope items)) items plain all
    ∙ ap (λ es. bags ++ es) (same_in q.production first u o1.kept o1.scope.depth o1.entries (items_body q.production q.alternative items)
    ∙ ap (λ c. if c then added o i false i o.entries else o.entries) (unlisted o.label.production o.label.alternative o.nth paren))))

module _ (m : ℕ → ℕ) (old new : List Token) (law : AreMovedTexts m old new) (order : List ℕ) (lists : ℕ → Bool) (is : IsOrder (length order) order) where
  placed_items : (from till : ℕ) (ns xs : List Node) → AreItemsPlaced m old new law order lists from till ns xs → AreItems ns → AreItems xs
  placed_items from till [] [] p all = all
  placed_items from till [] (x ∷ xs) p all = absurd p
  placed_items from till (n ∷ ns) [] p all = absurd p
  placed_items from till (n ∷ ns) (x ∷ xs) p all =
      let P : Node → Type 0 = λ y. is_item_production y.label.production ≡ true in
      All-cons P x xs (subst P (sym p.0.same) (All-head P n ns all)) (placed_items from till ns xs p.1 (All-tail P n ns all))

  pub reordered_items : (from till : ℕ) (ns xs : List Node) → IsReordered m old new law order lists from till ns xs → AreItems ns → AreItems xs
  reordered_items from till ns xs r all =
      placed_items from till r.picked xs r.placed (All-permutation (λ (n : Node). is_item_production n.label.production ≡ true) ns r.picked r.permutes all)

  pub list_plain : (i : ℕ) (q : Label) (first : ℕ) (u : Forest) (j k : ℕ) → is_items q ≡ true → has_body u ≡ false
      → AreOf (length order) (cut_then lists true (token i (node q first u (token j none))) done) → has_body (numbered k (shuffled order (permuted order lists false u))) ≡ false
  list_plain i q first u j k items plain cut =
      let g : Forest = shuffled order (permuted order lists false u) in
      let whole : (is_node q FunBody || (has_body g || false)) ≡ false =
      (same-cut order lists is true (token i (node q first u (token j none))) done cut).bodies
      ∙ (ap (λ b. b || (has_body u || false)) (items_body q.production q.alternative items) ∙ ap (λ b. b || false) plain) in
      (same-numbered k g).bodies ∙ (or_parts (has_body g) false ((or_parts (is_node q FunBody) (has_body g || false) whole).1)).0

  pub list_count : (i : ℕ) (q : Label) (first : ℕ) (u : Forest) (j : ℕ) → AreOf (length order) (cut_then lists true (token i (node q first u (token j none))) done)
      → token_count (shuffled order (permuted order lists false u)) ≡ token_count u
  list_count i q first u j cut = omega (arith, count_permuted order lists is true (token i (node q first u (token j none))) cut)

  -- ---- A node

  pub ahead_by : (lo there n k : ℕ) → IsAhead m (lo + n) (there + n) k → IsAhead m lo there k
  ahead_by lo there n k v = elim (cases_Bool (nat_lt 0 n)) [
    | inl some ↦
        further_ahead m old new law lo there (lo + n) (there + n) k (omega (arith, ltb-true 0 n some)) (omega (arith, ltb-true 0 n some)) v
    | inr empty ↦
        let void : n ≡ 0 = omega (arith, ltb-false 0 n empty) in
        let low : lo + n ≡ lo = omega (arith, void) in
        let high : there + n ≡ there = omega (arith, void) in
        subst (λ (x : ℕ). IsAhead m x there k) low (subst (λ (x : ℕ). IsAhead m (lo + n) x k) high v)
  ]

  module _ (level : ℕ) where
    abbrev Goes : ℕ → ℕ → List Entry → List Entry → Type 0
    Goes lo there es fs = EntriesGo m old new law level lo there es fs

    abbrev Along : Bool → ℕ → ℕ → Outline → Outline → Type 0
    Along keeps lo there o p = OutlinesGo m old new law level keeps lo there o p

    goes_at : (lo there hi beyond : ℕ) (es fs : List Entry) → lo ≡ hi → there ≡ beyond → Goes lo there es fs → Goes hi beyond es fs
    goes_at lo there hi beyond es fs e h k = subst (λ (x : ℕ). Goes x beyond es fs) e (subst (λ (x : ℕ). Goes lo x es fs) h k)

    module _ (own keeps : Bool) (k lo there : ℕ) (l : Label) (under : Forest) (o p : Outline) (along : Along keeps lo there o p)
        (r : IsReadyNode m old new law order lists o.label own k o.scope keeps lo there l under) where
      abbrev over : Forest
      over = numbered there (permuted order lists (is_among lists l under) under)

      abbrev any : Bool
      any = if is_node l Declarator then has_outer_list lists false under else keeps

      the_step : IsStep m old new law order lists is keeps lo there l under (at_first 0) (is_among lists l under)
      the_step =
          step_of m old new law order lists is keeps lo there l under (at_first 0) (is_among lists l under) refl r.shape
          (heads_stay order lists under l false 0 (scope_in l.production l under o.scope) keeps r.below.fit) r.below.cut r.below.from r.below.to

      pub node_begins : Along keeps lo there (begun l lo under o) (begun l there over p)
      node_begins =
          begun_goes m old new law level lo there (token_count under) the_step.outer under over the_step.reordered.seen the_step.reordered.placed keeps l o p
          r.fit.stands r.fit.body along

      pub node_ends : (o' p' : Outline) → Goes (lo + token_count under) (there + token_count under) o'.entries p'.entries
          → Along any (lo + token_count under) (there + token_count under) (ended l lo under o o') (ended l there over p p')
      node_ends o' p' inside =
          ended_goes m old new law level keeps any the_step.outer lo there (lo + token_count under) (there + token_count under) l under over the_step.reordered.seen o p o' p'
          (ahead_by lo there (token_count under)) along inside
          (declares_at m old new law order lists is l.production l the_step.outer lo there under over the_step.reordered r.form r.fit.member) the_step.behind

    -- the children of a node, in parentheses or not
    pub inside_by : (c : Bool) (lo there : ℕ) (l : Label) (own : Bool) (k : ℕ) (scope : Scope) (keeps : Bool) (under : Forest) (o p : Outline)
        → IsReady m old new law order lists c l own k scope keeps lo there under
        → (c ≡ true → IsReady m old new law order lists true l own k scope keeps lo there under
        → Goes (lo + token_count under) (there + token_count under) (outlined under o).entries (outlined (numbered there (permuted order lists true under)) p).entries)
        → (c ≡ false → IsReady m old new law order lists false l own k scope keeps lo there under
        → Goes (lo + token_count under) (there + token_count under) (outlined under o).entries (outlined (numbered there (permuted order lists false under)) p).entries)
        → Goes (lo + token_count under) (there + token_count under) (outlined under o).entries (outlined (numbered there (permuted order lists c under)) p).entries
    inside_by true lo there l own k scope keeps under o p r f g = f refl r
    inside_by false lo there l own k scope keeps under o p r f g = g refl r

    pub in_parentheses : (l : Label) (under : Forest) → is_among lists l under ≡ true → is_parenthesised l ≡ true
    in_parentheses l under e = (and_parts (is_parenthesised l) (lists (first_token under 0) && ends_in_token false under) e).0

    -- inside a list with nothing known
    pub listed_along : (keeps : Bool) (lo there x y : ℕ) (q : Label) (o p : Outline) → lo + 1 ≤ x → there + 1 ≤ y → Along keeps lo there o p → Along keeps x y (listed_in q o) (listed_in q p)
    listed_along keeps lo there x y q o p e h k = record {
      label = refl;
      nth = refl;
      scope = scopes_further m old new law level lo there x y o.scope p.scope (λ i v. further_ahead m old new law lo there x y i e h v) k.scope;
      typedef = k.typedef;
      kept = k.kept;
      entries = none_go m old new law level x y;
    }

    -- ---- A list

    module _ (keeps : Bool) (lo there i : ℕ) (q : Label) (first : ℕ) (u : Forest) (j : ℕ) (o p : Outline) (along : Along keeps lo there o p)
        (r : IsReady m old new law order lists true o.label false 0 o.scope keeps lo there (token i (node q first u (token j none))))
        (paren : is_parenthesised o.label ≡ true) (w : IsReadyList m old new law order lists q o.scope keeps (lo + 1) u) (deep : level ≤ o.scope.depth) where
      abbrev shuf : Forest
      shuf = shuffled order (permuted order lists false u)

      abbrev new_u : Forest
      new_u = numbered (there + 1) shuf

      same_count : token_count shuf ≡ token_count u
      same_count = list_count i q first u j r.cut

      pub the_reordered : IsReordered m old new law order lists (there + 1) (there + 1 + token_count u) (nodes_in u) (nodes_in new_u)
      the_reordered =
          list_reordered m old new law order lists is u (cut_then lists true (token j none) done) (there + 1) (there + 1 + token_count u) (there + 1) r.cut
          (counted_items m old new law order lists is u w.inside.cut) r.to.1.0 (omega arith) (omega (arith, same_count))

      pub the_old : All (IsOldItem (listed_in q o) (lo + 1 + token_count u)) (nodes_in u)
      the_old = old_items (listed_in q o) (lo + 1 + token_count u) u (lo + 1) refl w.inside.from w.inside.forms w.each (omega arith)

      pub the_pairs : ArePairs old (nodes_in u)
      the_pairs = are_pairs old false u (lo + 1) w.spaced w.inside.from w.apart

      pub list_goes_by : All (ItemGoes m old new law order lists level (listed_in q o) (listed_in q p) (there + 1)) (nodes_in u)
          → Goes (lo + (token_count u + (0 + 1) + 1)) (there + (token_count u + (0 + 1) + 1)) (outlined (token i (node q first u (token j none))) o).entries
          (outlined (token there (node q (there + 1) new_u (token (there + 1 + token_count shuf) none))) p).entries
      list_goes_by each =
          let n : ℕ = token_count u in
          let hi : ℕ = lo + 1 + n + 1 in
          let beyond : ℕ = there + 1 + n + 1 in
          let b : Outline = listed_in q o in
          let c : Outline = listed_in q p in
          let ns : List Node = nodes_in u in
          let xs : List Node = nodes_in new_u in
          let plain : has_body u ≡ false = items_plain u w.each in
          let items : AreItems ns = are_items ns w.each in
          let one : Goes hi beyond (heap (map (bag_in b) ns)) (heap (map (bag_in c) xs)) =
          list_entries m old new law order lists level b c (there + 1) deep (lo + 1 + n) (there + 1 + n) hi beyond ns xs refl refl the_old the_pairs each the_reordered in
          let two : Goes hi beyond o.entries p.entries =
          entries_further m old new law level lo there hi beyond o.entries p.entries
          (λ x v. further_ahead m old new law lo there hi beyond x (omega arith) (omega arith) v) along.entries in
          let all : Goes hi beyond (heap (map (bag_in b) ns) ++ o.entries) (heap (map (bag_in c) xs) ++ p.entries) =
          append_go m old new law level hi beyond (heap (map (bag_in b) ns)) (heap (map (bag_in c) xs)) o.entries p.entries one two in
          let before : (outlined (token i (node q first u (token j none))) o).entries ≡ heap (map (bag_in b) ns) ++ o.entries =
          list_outlined i q first u j o w.among paren plain items in
          let behind : (outlined (token there (node q (there + 1) new_u (token (there + 1 + token_count shuf) none))) p).entries ≡ heap (map (bag_in c) xs) ++ p.entries =
          list_outlined there q (there + 1) new_u (there + 1 + token_count shuf) p w.among (ap is_parenthesised along.label ∙ paren)
          (list_plain i q first u j (there + 1) w.among plain r.cut) (reordered_items (there + 1) (there + 1 + n) ns xs the_reordered items) in
          goes_at hi beyond (lo + (n + (0 + 1) + 1)) (there + (n + (0 + 1) + 1)) (outlined (token i (node q first u (token j none))) o).entries
          (outlined (token there (node q (there + 1) new_u (token (there + 1 + token_count shuf) none))) p).entries (omega arith) (omega arith)
          (subst (λ (es : List Entry). Goes hi beyond es (outlined (token there (node q (there + 1) new_u (token (there + 1 + token_count shuf) none))) p).entries) (sym before)
          (subst (λ (fs : List Entry). Goes hi beyond (heap (map (bag_in b) ns) ++ o.entries) fs) (sym behind) all))
