-- The items of a list at their places in a new order, and the names that they add together.
use Rattle.std.proofs.Common.{ℕ, zero, suc, ◌+◌, ◌-◌, ◌≤◌, ◌≡◌, Bool, false, List, [], ◌∷◌, map, length, get_or, ◌⊎◌, inl, inr, refl, sym, ap, subst, ◌∙◌, arith}
use Rattle.std.specs.Prelude.{IsPermutation}
use Rattle.std.specs.List.{All}
use Rattle.std.specs.Option.{option_or}
use Rattle.std.proofs.lemmas.List.{length-map}
use Rattle.std.proofs.lemmas.List.Elements.{All-head, All-tail}
use Rattle.std.proofs.lemmas.List.Sorted.{All-permutation, IsPermutation-refl}
use Rattle.cs_base.specs.Token.{Token}
use Rattle.c99_tree.specs.Tree.{Forest, none, token, node, Node, node_of}
use Rattle.tree_laws.specs.TreesOfTexts.{token_count}
use Rattle.list_cuts.specs.Cuts.{Cut, IsOrder, AreOf}
use Rattle.tree_laws.proofs.Outline.{Entry, Outline}
use Rattle.reordered_tree_laws.specs.Reordered.{nodes_in, refilled, no_node, picked_nodes, shuffled, is_among, permuted, numbered}
use Rattle.reordered_tree_laws.specs.Cuts.{list_then}
use Rattle.scope_bind.specs.Moved.{AreMovedTexts}
use Rattle.reordered_tree_laws.specs.Moving.{IsAhead, AreMovedTo}
use Rattle.reordered_tree_laws.proofs.Arranged.{count-items}
use Rattle.reordered_tree_laws.proofs.SameForms.{nodes_permute}
use Rattle.reordered_tree_laws.proofs.Answered.{Ask, open_at, of_list, at_depth, kind_among, kind_append, moved_ask, IsWanted, EntriesGo}
use Rattle.reordered_tree_laws.proofs.Chains.{heap, chain, chain_permuted}
use Rattle.reordered_tree_laws.proofs.Bags.{bag_in}
use Rattle.reordered_tree_laws.proofs.Answering.{end_of, IsOldItem, ArePairs, IsLate, one_answer}

bags_chain : (toks : List Token) (i : ℕ) (a : Ask) (f : Node → List Entry) (ns : List Node)
    → kind_among toks i a (heap (map f ns)) ≡ chain (map (λ n. kind_among toks i a (f n)) ns)
bags_chain toks i a f [] = refl
bags_chain toks i a f (n ∷ ns) =
    kind_append toks i a (heap (map f ns)) (f n) ∙ ap (λ o. option_or o (kind_among toks i a (f n))) (bags_chain toks i a f ns)

get_map : (f : Node → Node) (ns : List Node) (k : ℕ) (d : Node) → get_or (map f ns) k (f d) ≡ f (get_or ns k d)
get_map f [] k d = refl
get_map f (n ∷ ns) zero d = refl
get_map f (n ∷ ns) (suc k) d = get_map f ns k d

module _ (m : ℕ → ℕ) (old new : List Token) (law : AreMovedTexts m old new) (order : List ℕ) (lists : ℕ → Bool) where
  -- ---- Nodes

  -- the children of a node with the lists in them in the new order
  abbrev pub under_of : Node → Forest
  under_of n = permuted order lists (is_among lists n.label n.under) n.under

  abbrev pub reordered_node : Node → Node
  reordered_node n = node_of n.label n.first (under_of n)

  abbrev pub placed_at : ℕ → Node → Node
  placed_at there n = node_of n.label there (numbered there (under_of n))

  picked_map : (ks : List ℕ) (ns : List Node) → picked_nodes ks (map reordered_node ns) ≡ map reordered_node (picked_nodes ks ns)
  picked_map [] ns = refl
  picked_map (k ∷ ks) ns =
      ap (λ (n : Node). n ∷ picked_nodes ks (map reordered_node ns)) (get_map reordered_node ns (k - 1) no_node)
      ∙ ap (λ (xs : List Node). reordered_node (get_or ns (k - 1) no_node) ∷ xs) (picked_map ks ns)

  nodes_permuted : (u : Forest) → nodes_in (permuted order lists false u) ≡ map reordered_node (nodes_in u)
  nodes_permuted none = refl
  nodes_permuted (token i rest) = nodes_permuted rest
  nodes_permuted (node l first under rest) = ap (λ (ns : List Node). reordered_node (node_of l first under) ∷ ns) (nodes_permuted rest)

  -- a node at its place in the new text, which begins and ends between these
  pub record IsPlaced (from end : ℕ) (n x : Node) : Type 0 where
    pub there : ℕ
    pub same : x ≡ placed_at there n
    pub moved : AreMovedTo m there (under_of n)
    pub low : from ≤ there
    pub high : there + token_count n.under ≤ end

  abbrev pub AreItemsPlaced : ℕ → ℕ → List Node → List Node → Type 0
  AreItemsPlaced from end [] [] = Unit {0}
  AreItemsPlaced from end (n ∷ ns) (x ∷ xs) = IsPlaced from end n x × AreItemsPlaced from end ns xs
  AreItemsPlaced from end _ _ = ⊥

  -- as many tokens stand below it as before
  abbrev pub IsCounted : Node → Type 0
  IsCounted n = token_count (under_of n) ≡ token_count n.under

  pub nodes_placed : (g : Forest) (ns : List Node) (from end k : ℕ) → length ns ≡ length (nodes_in g) → All IsCounted ns
      → AreMovedTo m k (refilled (map reordered_node ns) g) → from ≤ k → k + token_count (refilled (map reordered_node ns) g) ≤ end
      → AreItemsPlaced from end ns (nodes_in (numbered k (refilled (map reordered_node ns) g)))
  nodes_placed none [] from end k e c w low high = tt
  nodes_placed none (n ∷ ns) from end k e c w low high = absurd (omega (arith, e))
  nodes_placed (token i rest) ns from end k e c w low high =
      nodes_placed rest ns from end (k + 1) e c w.1 (omega (arith, low)) (omega (arith, high))
  nodes_placed (node l first under rest) [] from end k e c w low high = absurd (omega (arith, e))
  nodes_placed (node l first under rest) (n ∷ ns) from end k e c w low high =
      let same : token_count (under_of n) ≡ token_count n.under = All-head IsCounted n ns c in (
        record { there = k; same = refl; moved = w.0; low = low; high = omega (arith, same, high) },
        nodes_placed rest ns from end (k + token_count (under_of n)) (omega (arith, e)) (All-tail IsCounted n ns c) w.1 (omega (arith, low)) (omega (arith, high)),
      )

  none_refilled : (g : Forest) (ns : List Node) → nodes_in g ≡ [] → refilled ns g ≡ g
  none_refilled none ns e = refl
  none_refilled (token i rest) ns e = ap (token i) (none_refilled rest ns e)
  none_refilled (node l first under rest) ns e = absurd cc

  many_or_none : (u : Forest) (c : Cut) → AreOf (length order) (list_then lists u c) → (length (nodes_in u) ≡ length order) ⊎ (nodes_in u ≡ [])
  many_or_none none c all = inr refl
  many_or_none (token i rest) c all = many_or_none rest c all
  many_or_none (node l first under rest) c all =
      let ns : List Node = nodes_in (node l first under rest) in
      inl (sym (length-map ns reordered_node)
      ∙ (ap (λ (xs : List Node). length xs) (sym (nodes_permuted (node l first under rest))) ∙ (count-items order lists false (node l first under rest) ∙ all.0)))

  -- a list in the new order: its nodes are some of the old ones, each with its children, in another order
  pub record IsShuffled (u : Forest) : Type 0 where
    pub picked : List Node
    pub permutes : IsPermutation (nodes_in u) picked
    pub long : length picked ≡ length (nodes_in (permuted order lists false u))
    pub same : shuffled order (permuted order lists false u) ≡ refilled (map reordered_node picked) (permuted order lists false u)

  pub list_shuffled : IsOrder (length order) order → (u : Forest) (c : Cut) → AreOf (length order) (list_then lists u c) → IsShuffled u
  list_shuffled is u c all = by (many_or_none u c all)
    where
      by : (length (nodes_in u) ≡ length order) ⊎ (nodes_in u ≡ []) → IsShuffled u
      by (inr e) =
          let few : nodes_in (permuted order lists false u) ≡ [] = nodes_permuted u ∙ ap (map reordered_node) e in
          record {
            picked = nodes_in u;
            permutes = IsPermutation-refl (nodes_in u);
            long = sym (length-map (nodes_in u) reordered_node) ∙ ap (λ (xs : List Node). length xs) (sym (nodes_permuted u));
            same = none_refilled (permuted order lists false u) (picked_nodes order (nodes_in (permuted order lists false u))) few
                ∙ sym (none_refilled (permuted order lists false u) (map reordered_node (nodes_in u)) few);
          }
      by (inl e) =
          record {
            picked = picked_nodes order (nodes_in u);
            permutes = nodes_permute order (nodes_in u) (subst (λ (n : ℕ). IsOrder n order) (sym e) is);
            long = length-map order (λ k. get_or (nodes_in u) (k - 1) no_node)
                ∙ (sym e ∙ (sym (length-map (nodes_in u) reordered_node) ∙ ap (λ (xs : List Node). length xs) (sym (nodes_permuted u))));
            same = ap (λ (xs : List Node). refilled (picked_nodes order xs) (permuted order lists false u)) (nodes_permuted u)
                ∙ ap (λ (xs : List Node). refilled xs (permuted order lists false u)) (picked_map order (nodes_in u));
          }

  -- the nodes of a list in the new order, at their places
  pub record IsReordered (from end : ℕ) (ns xs : List Node) : Type 0 where
    pub picked : List Node
    pub permutes : IsPermutation ns picked
    pub placed : AreItemsPlaced from end picked xs

  pub list_reordered : IsOrder (length order) order → (u : Forest) (c : Cut) (from end k : ℕ) → AreOf (length order) (list_then lists u c) → All IsCounted (nodes_in u)
      → AreMovedTo m k (shuffled order (permuted order lists false u)) → from ≤ k → k + token_count (shuffled order (permuted order lists false u)) ≤ end
      → IsReordered from end (nodes_in u) (nodes_in (numbered k (shuffled order (permuted order lists false u))))
  list_reordered is u c from end k all counts w low high =
      let r : IsShuffled u = list_shuffled is u c all in
      let g : Forest = permuted order lists false u in
      record {
        picked = r.picked;
        permutes = r.permutes;
        placed = subst (λ (f : Forest). AreItemsPlaced from end r.picked (nodes_in (numbered k f))) (sym r.same)
            (nodes_placed g r.picked from end k r.long (All-permutation IsCounted (nodes_in u) r.picked r.permutes counts) (subst (λ (f : Forest). AreMovedTo m k f) r.same w) low
            (subst (λ (f : Forest). k + token_count f ≤ end) r.same high));
      }

  -- ---- What they add

  module _ (level : ℕ) (b c : Outline) (from : ℕ) where
    -- what an item adds by itself goes along with it, to any place behind this one
    abbrev pub ItemGoes : Node → Type 0
    ItemGoes n =
        (there : ℕ) → from ≤ there → AreMovedTo m there (under_of n)
        → EntriesGo m old new law level (end_of n) (there + token_count n.under) (bag_in b n) (bag_in c (placed_at there n))

    module _ (end till : ℕ) (i : ℕ) (a : Ask) where
      placed_answers : (ns xs : List Node) → ((n : Node) → end_of n ≤ end → (there : ℕ) → there + token_count n.under ≤ till
          → IsWanted m old new law level (end_of n) (there + token_count n.under) a) → All (IsOldItem b end) ns → All ItemGoes ns → AreItemsPlaced from till ns xs
          → map (λ x. kind_among new (m i) (moved_ask m a) (bag_in c x)) xs ≡ map (λ n. kind_among old i a (bag_in b n)) ns
      placed_answers [] [] f items go p = refl
      placed_answers [] (x ∷ xs) f items go p = absurd p
      placed_answers (n ∷ ns) [] f items go p = absurd p
      placed_answers (n ∷ ns) (x ∷ xs) f items go p =
          let at : IsPlaced from till n x = p.0 in
          let item : IsOldItem b end n = All-head (IsOldItem b end) n ns items in
          let first : kind_among new (m i) (moved_ask m a) (bag_in c x) ≡ kind_among old i a (bag_in b n) =
          ap (λ (y : Node). kind_among new (m i) (moved_ask m a) (bag_in c y)) at.same
          ∙ All-head ItemGoes n ns go at.there at.low at.moved i a (f n item.ends at.there at.high) in
          ap (λ o. o ∷ map (λ y. kind_among new (m i) (moved_ask m a) (bag_in c y)) xs) first
          ∙ ap (λ os. kind_among old i a (bag_in b n) ∷ os)
          (placed_answers ns xs f (All-tail (IsOldItem b end) n ns items) (All-tail ItemGoes n ns go) p.1)

    late_of : (end till hi beyond : ℕ) → end + 1 ≡ hi → till + 1 ≡ beyond → (deep : level ≤ b.scope.depth) (a : Ask) → IsWanted m old new law level hi beyond a
        → IsLate old level b end deep a
    late_of end till hi beyond e h deep (open_at k) w = by w
      where
        by : IsAhead m hi beyond k → end ≤ k
        by (inl v) = omega (arith, v.0, e)
        by (inr v) = omega (arith, v.0, e)
    late_of end till hi beyond e h deep (of_list l) w = tt
    late_of end till hi beyond e h deep (at_depth d) w = w

    wanted_of : (end till hi beyond : ℕ) → end + 1 ≡ hi → till + 1 ≡ beyond → (a : Ask) → IsWanted m old new law level hi beyond a → (n : Node) → end_of n ≤ end → (there : ℕ)
        → there + token_count n.under ≤ till → IsWanted m old new law level (end_of n) (there + token_count n.under) a
    wanted_of end till hi beyond e h (open_at k) w n less there few = by w
      where
        by : IsAhead m hi beyond k → IsAhead m (end_of n) (there + token_count n.under) k
        by (inl v) = inl (omega (arith, v.0, e, less), omega (arith, v.1, h, few))
        by (inr v) = inl (omega (arith, v.0, e, less), omega (arith, v.1, h, few))
    wanted_of end till hi beyond e h (of_list l) w n less there few = tt
    wanted_of end till hi beyond e h (at_depth d) w n less there few = w

    -- What the items of a list add together goes along with it.
    pub list_entries : (deep : level ≤ b.scope.depth) (end till hi beyond : ℕ) (ns xs : List Node) → end + 1 ≡ hi → till + 1 ≡ beyond → All (IsOldItem b end) ns
        → ArePairs old ns → All ItemGoes ns → IsReordered from till ns xs
        → EntriesGo m old new law level hi beyond (heap (map (bag_in b) ns)) (heap (map (bag_in c) xs))
    list_entries deep end till hi beyond ns xs e h items pairs go r i a w =
        bags_chain new (m i) (moved_ask m a) (bag_in c) xs
        ∙ (ap chain (placed_answers end till i a r.picked xs (wanted_of end till hi beyond e h a w)
        (All-permutation (IsOldItem b end) ns r.picked r.permutes items) (All-permutation ItemGoes ns r.picked r.permutes go) r.placed)
        ∙ (chain_permuted (λ n. kind_among old i a (bag_in b n)) ns r.picked r.permutes
        (one_answer old level b end deep i a ns (late_of end till hi beyond e h deep a w) items pairs)
        ∙ sym (bags_chain old i a (bag_in b) ns)))
