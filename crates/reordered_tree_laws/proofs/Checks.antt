-- A test of each token and each node below some children: it is passed alike where lists are in a new order, and where tokens have
-- other numbers.
use Rattle.std.proofs.Common.{ℕ, ◌+◌, ◌≡◌, Bool, true, false, ◌&&◌, ◌||◌, not, if◌then◌else◌, List, [], ◌∷◌, length, ◌⊎◌, inl, inr, refl, sym, ap, ◌∙◌}
use Rattle.std.specs.Prelude.{IsPermutation}
use Rattle.std.specs.List.{list_any}
use Rattle.std.proofs.lemmas.Bool.{and_parts}
use Rattle.std.proofs.lemmas.List.{length-map}
use Rattle.std.proofs.lemmas.List.Sorted.{list_any-IsPermutation}
use Rattle.c99_tree.specs.Tree.{Forest, none, token, node, Node}
use Rattle.c99_tree.specs.declared.production.Label.{Label}
use Rattle.tree_laws.specs.TreesOfTexts.{token_count}
use Rattle.list_cuts.specs.Cuts.{Cut, done, IsOrder, AreOf, AreItemsOf}
use Rattle.reordered_tree_laws.specs.Reordered.{nodes_in, refilled, picked_nodes, shuffled, is_among, permuted, numbered}
use Rattle.reordered_tree_laws.specs.Cuts.{cut_then, items_in}
use Rattle.reordered_tree_laws.specs.Moving.{AreMovedTo}
use Rattle.reordered_tree_laws.specs.Premises.{is_items}
use Rattle.reordered_tree_laws.proofs.Arranged.{items_all, rest_all, cut_all}
use Rattle.reordered_tree_laws.proofs.SameForms.{nodes_permute, nodes-refilled, unfilled, counted}

-- What stands in the parentheses of lists is arguments or parameters; the children may themselves stand so.
module _ (lists : ℕ → Bool) where
  abbrev pub are_listed : Bool → Forest → Bool
  are_listed listed none = true
  are_listed listed (token i rest) = are_listed listed rest
  are_listed listed (node l first under rest) =
      (if listed then is_items l else true) && (are_listed (not listed && is_among lists l under) under && are_listed listed rest)

-- A test of tokens, by what stands around them and how many children stand before, and one of nodes by their own children; the
-- children of some nodes are not looked at.
module _ {C : Type 0} (tok : C → ℕ → ℕ → Bool) (child : C → Label → Forest → Bool) (skips : Label → Bool) (inner : C → Label → C) where
  abbrev pub checked : C → ℕ → Forest → Bool
  checked c k none = true
  checked c k (token i rest) = tok c k i && checked c (k + 1) rest
  checked c k (node l first under rest) = child c l under && ((skips l || checked (inner c l) 0 under) && checked c (k + 1) rest)

  -- ---- Nodes in another order

  -- the tokens among the children alone
  abbrev tokens_checked : C → ℕ → Forest → Bool
  tokens_checked c k none = true
  tokens_checked c k (token i rest) = tok c k i && tokens_checked c (k + 1) rest
  tokens_checked c k (node l first under rest) = tokens_checked c (k + 1) rest

  abbrev fails : C → Node → Bool
  fails c n = not (child c n.label n.under && (skips n.label || checked (inner c n.label) 0 n.under))

  and_moved : (a b c d : Bool) → (a && (b && (c && not d))) ≡ (c && not (not (a && b) || d))
  and_moved true true c d = refl
  and_moved true false true d = refl
  and_moved true false false d = refl
  and_moved false b true d = refl
  and_moved false b false d = refl

  and_through : (a b c : Bool) → (a && (b && c)) ≡ ((a && b) && c)
  and_through true b c = refl
  and_through false b c = refl

  by_nodes : (c : C) (k : ℕ) (f : Forest) → checked c k f ≡ (tokens_checked c k f && not (list_any (fails c) (nodes_in f)))
  by_nodes c k none = refl
  by_nodes c k (token i rest) =
      ap (λ b. tok c k i && b) (by_nodes c (k + 1) rest) ∙ and_through (tok c k i) (tokens_checked c (k + 1) rest) (not (list_any (fails c) (nodes_in rest)))
  by_nodes c k (node l first under rest) =
      ap (λ b. child c l under && ((skips l || checked (inner c l) 0 under) && b)) (by_nodes c (k + 1) rest)
      ∙ and_moved (child c l under) (skips l || checked (inner c l) 0 under) (tokens_checked c (k + 1) rest) (list_any (fails c) (nodes_in rest))

  tokens_refilled : (c : C) (k : ℕ) (ns : List Node) (f : Forest) → tokens_checked c k (refilled ns f) ≡ tokens_checked c k f
  tokens_refilled c k ns none = refl
  tokens_refilled c k ns (token i rest) = ap (λ b. tok c k i && b) (tokens_refilled c (k + 1) ns rest)
  tokens_refilled c k [] (node l first under rest) = refl
  tokens_refilled c k (n ∷ ns) (node l first under rest) = tokens_refilled c (k + 1) ns rest

  module _ (order : List ℕ) (is : IsOrder (length order) order) where
    checked_shuffled : (c : C) (k : ℕ) (g : Forest) → (length (nodes_in g) ≡ length order) ⊎ (length (nodes_in g) ≡ 0)
        → checked c k (shuffled order g) ≡ checked c k g
    checked_shuffled c k g (inr few) = ap (checked c k) (unfilled g (picked_nodes order (nodes_in g)) few)
    checked_shuffled c k g (inl many) =
        let ns : List Node = picked_nodes order (nodes_in g) in
        let long : length ns ≡ length (nodes_in g) = length-map order _ ∙ sym many in
        let moved : IsPermutation (nodes_in g) ns = nodes_permute order (nodes_in g) (rw many is) in
        by_nodes c k (refilled ns g)
        ∙ (ap (λ b. b && not (list_any (fails c) (nodes_in (refilled ns g)))) (tokens_refilled c k ns g)
        ∙ (ap (λ ms. tokens_checked c k g && not (list_any (fails c) ms)) (nodes-refilled g ns long)
        ∙ (ap (λ b. tokens_checked c k g && not b) (sym (list_any-IsPermutation (fails c) (nodes_in g) ns moved)) ∙ sym (by_nodes c k g))))

    -- ---- Lists in another order

    module _ (lists : ℕ → Bool)
        (below : (c : C) (l : Label) (u : Forest) → child c l (permuted order lists (is_among lists l u) u) ≡ child c l u)
        (listed : (c : C) (l : Label) (u : Forest) → is_items l ≡ true → child c l (shuffled order (permuted order lists false u)) ≡ child c l u) where
      three : (a a' b b' c c' s : Bool) → a ≡ a' → b ≡ b' → c ≡ c' → (a && ((s || b) && c)) ≡ (a' && ((s || b') && c'))
      three a a' b b' c c' s e f g = rw e (rw f (rw g refl))

      mutual
        same_items : (c : C) (k : ℕ) (f : Forest) → AreItemsOf (length order) (items_in lists f) → are_listed lists false f ≡ true
            → checked c k (permuted order lists false f) ≡ checked c k f
        same_items c k none all fine = refl
        same_items c k (token i rest) all fine = ap (λ b. tok c k i && b) (same_items c (k + 1) rest all fine)
        same_items c k (node l first under rest) all fine =
            let b : Bool = is_among lists l under in
            let p = and_parts (are_listed lists (not false && b) under) (are_listed lists false rest) fine in
            three (child c l (permuted order lists b under)) (child c l under) (checked (inner c l) 0 (permuted order lists b under)) (checked (inner c l) 0 under)
            (checked c (k + 1) (permuted order lists false rest)) (checked c (k + 1) rest) (skips l)
            (below c l under) (checked_permuted b (inner c l) 0 under done all.0 p.0) (same_items c (k + 1) rest all.1 p.1)

        pub checked_permuted : (b : Bool) (c : C) (k : ℕ) (f : Forest) (after : Cut) → AreOf (length order) (cut_then lists b f after) → are_listed lists b f ≡ true
            → checked c k (permuted order lists b f) ≡ checked c k f
        checked_permuted true c k none after all fine = refl
        checked_permuted false c k none after all fine = refl
        checked_permuted true c k (token i rest) after all fine = ap (λ b. tok c k i && b) (checked_permuted true c (k + 1) rest after all fine)
        checked_permuted false c k (token i rest) after all fine = ap (λ b. tok c k i && b) (checked_permuted false c (k + 1) rest after all fine)
        checked_permuted true c k (node l first under rest) after all fine =
            let behind : Cut = cut_then lists true rest after in
            let g : Forest = permuted order lists false under in
            let p = and_parts (is_items l) (are_listed lists false under && are_listed lists true rest) fine in
            let q = and_parts (are_listed lists false under) (are_listed lists true rest) p.1 in
            three (child c l (shuffled order g)) (child c l under) (checked (inner c l) 0 (shuffled order g)) (checked (inner c l) 0 under)
            (checked c (k + 1) (permuted order lists true rest)) (checked c (k + 1) rest) (skips l)
            (listed c l under p.0)
            (checked_shuffled (inner c l) 0 g (counted order lists is under behind all) ∙ same_items (inner c l) 0 under (items_all order lists under behind all) q.0)
            (checked_permuted true c (k + 1) rest after (rest_all order lists under behind all) q.1)
        checked_permuted false c k (node l first under rest) after all fine =
            let behind : Cut = cut_then lists false rest after in
            let b : Bool = is_among lists l under in
            let p = and_parts (are_listed lists b under) (are_listed lists false rest) fine in
            three (child c l (permuted order lists b under)) (child c l under) (checked (inner c l) 0 (permuted order lists b under)) (checked (inner c l) 0 under)
            (checked c (k + 1) (permuted order lists false rest)) (checked c (k + 1) rest) (skips l)
            (below c l under) (checked_permuted b (inner c l) 0 under behind all p.0)
            (checked_permuted false c (k + 1) rest after (cut_all order lists b under behind all) p.1)

-- ---- Other numbers

module _ {C : Type 0} (tok tok' : C → ℕ → ℕ → Bool) (child child' : C → Label → Forest → Bool) (skips : Label → Bool) (inner : C → Label → C) (m : ℕ → ℕ)
    (tokens : (c : C) (k i : ℕ) → tok c k (m i) ≡ tok' c k i)
    (below : (c : C) (l : Label) (n : ℕ) (u : Forest) → AreMovedTo m n u → child c l (numbered n u) ≡ child' c l u) where
  pub checked_numbered : (c : C) (k n : ℕ) (f : Forest) → AreMovedTo m n f
      → checked tok child skips inner c k (numbered n f) ≡ checked tok' child' skips inner c k f
  checked_numbered c k n none moved = refl
  checked_numbered c k n (token i rest) moved =
      ap (λ b. b && checked tok child skips inner c (k + 1) (numbered (n + 1) rest)) (ap (tok c k) (sym moved.0) ∙ tokens c k i)
      ∙ ap (λ b. tok' c k i && b) (checked_numbered c (k + 1) (n + 1) rest moved.1)
  checked_numbered c k n (node l first under rest) moved =
      ap (λ b. b && ((skips l || checked tok child skips inner (inner c l) 0 (numbered n under)) && checked tok child skips inner c (k + 1) (numbered (n + token_count under) rest)))
      (below c l n under moved.0)
      ∙ (ap (λ b. child' c l under && ((skips l || b) && checked tok child skips inner c (k + 1) (numbered (n + token_count under) rest)))
      (checked_numbered (inner c l) 0 n under moved.0)
      ∙ ap (λ b. child' c l under && ((skips l || checked tok' child' skips inner (inner c l) 0 under) && b))
      (checked_numbered c (k + 1) (n + token_count under) rest moved.1))
