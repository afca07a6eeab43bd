-- Children whose lists are in a new order, one part after another.
use Rattle.std.proofs.Common.{ℕ, suc, ◌≡◌, ◌⊎◌, Bool, true, false, ◌&&◌, if◌then◌else◌, List, [], length, refl, sym, ap, subst, ◌∙◌, inl, inr, arith}
use Rattle.c99_tree.specs.Tree.{Forest, none, token, node, Node, node_of, inner, put, lone, collapsed}
use Rattle.c99_tree.specs.declared.production.Label.{Label}
use Rattle.c99_tree.specs.declared.production.Production.{Production}
use Rattle.c99_read.specs.State.{collapses}
use Rattle.c_types.specs.Trees.{first_token}
use Rattle.c_types.specs.Parameters.{ends_in_token}
use Rattle.list_cuts.specs.Cuts.{Cut, done, count_of, AreOf, AreItemsOf}
use Rattle.reordered_tree_laws.specs.Reordered.{nodes_in, shuffled, is_parenthesised, is_among, permuted}
use Rattle.reordered_tree_laws.specs.Cuts.{cut_then, list_then, items_in}
use Rattle.reordered_tree_laws.proofs.Arranged.{rest_all, cut_all, items_all}
use Rattle.reordered_text_laws.specs.ByClasses.{joined, child_of}

abbrev pub labelled : Production → ℕ → Label
labelled p n = record { production = p; alternative = n }

module _ (order : List ℕ) (lists : ℕ → Bool) where
  pub not_among : (l : Label) (f : Forest) → is_parenthesised l ≡ false → is_among lists l f ≡ false
  not_among l f e = ap (λ b. b && (lists (first_token f 0) && ends_in_token false f)) e

  -- ---- Children in their new order

  pub permuted-joined : (b : Bool) (f g : Forest) → permuted order lists b (joined f g) ≡ joined (permuted order lists b f) (permuted order lists b g)
  permuted-joined b none g = refl
  permuted-joined b (token i rest) g = ap (token i) (permuted-joined b rest g)
  permuted-joined b (node l first under rest) g =
      ap (node l first (if b then shuffled order (permuted order lists false under) else permuted order lists (is_among lists l under) under)) (permuted-joined b rest g)

  abbrev permuted_node : Node → Node
  permuted_node n = node_of n.label n.first (permuted order lists (is_among lists n.label n.under) n.under)

  lone-permuted : (f : Forest) (n k : Node) → permuted_node n ≡ k → permuted_node (lone f n) ≡ lone (permuted order lists false f) k
  lone-permuted none n k e = e
  lone-permuted (token i rest) n k e = e
  lone-permuted (node l first under none) n k e = refl
  lone-permuted (node l first under (token i rest)) n k e = e
  lone-permuted (node l first under (node m second below rest)) n k e = e

  -- a child whose own children do not stand in such a list
  pub permuted-child : (p : Production) (n : ℕ) (f : Forest)
      → permuted order lists (is_among lists (labelled p n) f) f ≡ permuted order lists false f
      → permuted order lists false (child_of p n f) ≡ child_of p n (permuted order lists false f)
  permuted-child p n f same = ap (λ (x : Node). put none (inner x)) (by (collapses p))
    where
      is : permuted_node (node_of (labelled p n) 0 f) ≡ node_of (labelled p n) 0 (permuted order lists false f)
      is = ap (λ g. node_of (labelled p n) 0 g) same

      by : (c : Bool) → permuted_node (if c then collapsed (node_of (labelled p n) 0 f) else node_of (labelled p n) 0 f)
          ≡ (if c then collapsed (node_of (labelled p n) 0 (permuted order lists false f)) else node_of (labelled p n) 0 (permuted order lists false f))
      by true = lone-permuted f (node_of (labelled p n) 0 f) (node_of (labelled p n) 0 (permuted order lists false f)) is
      by false = is

  pub count-permuted : (b : Bool) (f : Forest) → length (nodes_in (permuted order lists b f)) ≡ length (nodes_in f)
  count-permuted b none = refl
  count-permuted b (token i rest) = count-permuted b rest
  count-permuted b (node l first under rest) = ap suc (count-permuted b rest)

  pub permuted-flat : (b : Bool) (f : Forest) → nodes_in f ≡ [] → permuted order lists b f ≡ f
  permuted-flat b none e = refl
  permuted-flat b (token i rest) e = ap (token i) (permuted-flat b rest e)
  permuted-flat b (node l first under rest) e = absurd (let long : suc (length (nodes_in rest)) ≡ 0 = ap length e in omega (arith, long))

  -- ---- Lists with as many items as the order has numbers

  abbrev pub IsFull : Forest → Type 0
  IsFull f = (length (nodes_in f) ≡ length order) ⊎ (length (nodes_in f) ≡ 0)

  -- so is each list among some children and below, which may themselves stand in the parentheses of such a list
  abbrev pub AreFull : Bool → Forest → Type 0
  AreFull listed none = Unit {0}
  AreFull listed (token i rest) = AreFull listed rest
  AreFull true (node l first under rest) = (IsFull under × AreFull false under) × AreFull true rest
  AreFull false (node l first under rest) = AreFull (is_among lists l under) under × AreFull false rest

  pub full-joined : (b : Bool) (f g : Forest) → AreFull b (joined f g) → AreFull b f × AreFull b g
  full-joined b none g h = (tt, h)
  full-joined b (token i rest) g h = full-joined b rest g h
  full-joined true (node l first under rest) g h = let r = full-joined true rest g h.1 in ((h.0, r.0), r.1)
  full-joined false (node l first under rest) g h = let r = full-joined false rest g h.1 in ((h.0, r.0), r.1)

  lone-full : (f : Forest) (n : Node) → (AreFull (is_among lists n.label n.under) n.under → AreFull false f)
      → AreFull false (put none (inner (lone f n))) → AreFull false f
  lone-full none n less h = tt
  lone-full (token i rest) n less h = less h.0
  lone-full (node l first under none) n less h = h
  lone-full (node l first under (token i rest)) n less h = less h.0
  lone-full (node l first under (node m second below rest)) n less h = less h.0

  pub full-child : (p : Production) (n : ℕ) (f : Forest) → is_among lists (labelled p n) f ≡ false → AreFull false (child_of p n f) → AreFull false f
  full-child p n f apart = by (collapses p)
    where
      less : AreFull (is_among lists (labelled p n) f) f → AreFull false f
      less h = subst (λ b. AreFull b f) apart h

      by : (c : Bool) → AreFull false (put none (inner (if c then collapsed (node_of (labelled p n) 0 f) else node_of (labelled p n) 0 f))) → AreFull false f
      by true h = lone-full f (node_of (labelled p n) 0 f) less h
      by false h = less h.0

  pub full-flat : (b : Bool) (f : Forest) → nodes_in f ≡ [] → AreFull b f
  full-flat true none e = tt
  full-flat false none e = tt
  full-flat true (token i rest) e = full-flat true rest e
  full-flat false (token i rest) e = full-flat false rest e
  full-flat true (node l first under rest) e = absurd (let long : suc (length (nodes_in rest)) ≡ 0 = ap length e in omega (arith, long))
  full-flat false (node l first under rest) e = absurd (let long : suc (length (nodes_in rest)) ≡ 0 = ap length e in omega (arith, long))

  pub full-permuted : (b : Bool) (f : Forest) → IsFull f → IsFull (permuted order lists b f)
  full-permuted b f (inl e) = inl (count-permuted b f ∙ e)
  full-permuted b f (inr e) = inr (count-permuted b f ∙ e)

  count-items : (f : Forest) → count_of (items_in lists f) ≡ length (nodes_in f)
  unfolding count_of
  count-items none = refl
  count-items (token i rest) = count-items rest
  count-items (node l first under rest) = omega (arith, count-items rest)

  list_full : (f : Forest) (c : Cut) → AreOf (length order) (list_then lists f c) → IsFull f
  list_full none c all = inr refl
  list_full (token i rest) c all = list_full rest c all
  list_full (node l first under rest) c all = inl (sym (count-items (node l first under rest)) ∙ all.0)

  mutual
    items_full : (f : Forest) → AreItemsOf (length order) (items_in lists f) → AreFull false f
    items_full none all = tt
    items_full (token i rest) all = items_full rest all
    items_full (node l first under rest) all = (cut_full (is_among lists l under) under done all.0, items_full rest all.1)

    -- what the cut says of its lists
    pub cut_full : (b : Bool) (f : Forest) (c : Cut) → AreOf (length order) (cut_then lists b f c) → AreFull b f
    cut_full true none c all = tt
    cut_full false none c all = tt
    cut_full true (token i rest) c all = cut_full true rest c all
    cut_full false (token i rest) c all = cut_full false rest c all
    cut_full true (node l first under rest) c all =
        let after : Cut = cut_then lists true rest c in
        ((list_full under after all, items_full under (items_all order lists under after all)), cut_full true rest c (rest_all order lists under after all))
    cut_full false (node l first under rest) c all =
        let after : Cut = cut_then lists false rest c in
        (cut_full (is_among lists l under) under after all, cut_full false rest c (cut_all order lists (is_among lists l under) under after all))
