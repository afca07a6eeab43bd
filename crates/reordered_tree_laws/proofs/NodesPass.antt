-- A test of the nodes of a tree that does not see the order of lists passes in each order.
use Rattle.std.proofs.Common.{ℕ, ◌+◌, ◌-◌, ◌≡◌, Bool, true, false, ◌&&◌, ◌||◌, not, if◌then◌else◌, List, length, get_or, ◌⊎◌, inl, inr, refl, sym, ap, ◌∙◌}
use Rattle.std.specs.List.{list_any}
use Rattle.std.specs.Prelude.{IsPermutation}
use Rattle.std.proofs.lemmas.Bool.{and_parts, and_from}
use Rattle.std.proofs.lemmas.List.{length-map}
use Rattle.std.proofs.lemmas.List.Sorted.{list_any-IsPermutation}
use Rattle.c99_tree.specs.Tree.{Forest, none, token, node, Node}
use Rattle.c99_tree.specs.declared.production.Label.{Label}
use Rattle.c99_tree.specs.declared.production.Production.TheVariants.{MemRest, Declarator}
use Rattle.c_types.specs.Trees.{is_at, is_node}
use Rattle.name_chains.specs.Entering.{scope_in}
use Rattle.scope_bind.specs.Named.{Scope}
use Rattle.tree_laws.specs.TreesOfTexts.{token_count, begins_with_token, has_form, have_forms}
use Rattle.list_cuts.specs.Cuts.{Cut, done, IsOrder, AreOf, AreItemsOf}
use Rattle.reordered_tree_laws.specs.Reordered.{nodes_in, refilled, no_node, picked_nodes, shuffled, is_among, permuted, numbered}
use Rattle.reordered_tree_laws.specs.Cuts.{cut_then, items_in}
use Rattle.reordered_tree_laws.specs.Premises.{is_items, has_outer_list, is_fit_child, is_fit}
use Rattle.reordered_tree_laws.proofs.Arranged.{items_all, rest_all, cut_all}
use Rattle.reordered_tree_laws.proofs.SameForms.{Same, same_trans, shuffled_same, same-items, and_not, form-same, nodes-refilled, unfilled, nodes_permute, counted, same-cut, same-numbered}
use Rattle.reordered_tree_laws.proofs.MovedWalk.{IsFitNode, fit_child}

module _ (test : Label → Forest → Bool) where
  abbrev pub nodes_pass : Forest → Bool
  nodes_pass none = true
  nodes_pass (token i rest) = nodes_pass rest
  nodes_pass (node l first under rest) = test l under && (nodes_pass under && nodes_pass rest)

  abbrev fails_below : Node → Bool
  fails_below n = not (test n.label n.under && nodes_pass n.under)

  pass-any : (f : Forest) → nodes_pass f ≡ not (list_any fails_below (nodes_in f))
  pass-any none = refl
  pass-any (token i rest) = pass-any rest
  pass-any (node l first under rest) = and_not (test l under) (nodes_pass under) (list_any fails_below (nodes_in rest)) (nodes_pass rest) (pass-any rest)

  both_same : (a b c d : Bool) → a ≡ b → c ≡ d → (a && c) ≡ (b && d)
  both_same a b c d e h = ap (λ x. x && c) e ∙ ap (λ x. b && x) h

  module _ (same : (l : Label) (f g : Forest) → Same f g → test l f ≡ test l g) where
    pub pass_numbered : (k : ℕ) (f : Forest) → nodes_pass (numbered k f) ≡ nodes_pass f
    pass_numbered k none = refl
    pass_numbered k (token i rest) = pass_numbered (k + 1) rest
    pass_numbered k (node l first under rest) =
        both_same (test l (numbered k under)) (test l under) (nodes_pass (numbered k under) && nodes_pass (numbered (k + token_count under) rest))
        (nodes_pass under && nodes_pass rest) (same l (numbered k under) under (same-numbered k under))
        (both_same (nodes_pass (numbered k under)) (nodes_pass under) (nodes_pass (numbered (k + token_count under) rest)) (nodes_pass rest)
        (pass_numbered k under) (pass_numbered (k + token_count under) rest))

    module _ (order : List ℕ) (lists : ℕ → Bool) (is : IsOrder (length order) order) where
      pass_shuffled : (g : Forest) → (length (nodes_in g) ≡ length order) ⊎ (length (nodes_in g) ≡ 0) → nodes_pass (shuffled order g) ≡ nodes_pass g
      pass_shuffled g (inr few) = ap nodes_pass (unfilled g (picked_nodes order (nodes_in g)) few)
      pass_shuffled g (inl many) =
          let ns : List Node = picked_nodes order (nodes_in g) in
          let len : length ns ≡ length (nodes_in g) = length-map order (λ k. get_or (nodes_in g) (k - 1) no_node) ∙ sym many in
          let moved : IsPermutation (nodes_in g) ns = nodes_permute order (nodes_in g) (rw many is) in
          pass-any (refilled ns g)
          ∙ (ap (λ (ms : List Node). not (list_any fails_below ms)) (nodes-refilled g ns len)
          ∙ (ap not (sym (list_any-IsPermutation fails_below (nodes_in g) ns moved)) ∙ sym (pass-any g)))

      pass_node : (l : Label) (first : ℕ) (u v f g : Forest) → test l u ≡ test l v → nodes_pass u ≡ nodes_pass v → nodes_pass f ≡ nodes_pass g
          → nodes_pass (node l first u f) ≡ nodes_pass (node l first v g)
      pass_node l first u v f g e h w =
          both_same (test l u) (test l v) (nodes_pass u && nodes_pass f) (nodes_pass v && nodes_pass g) e (both_same (nodes_pass u) (nodes_pass v) (nodes_pass f) (nodes_pass g) h w)

      mutual
        pass_items : (f : Forest) → AreItemsOf (length order) (items_in lists f) → nodes_pass (permuted order lists false f) ≡ nodes_pass f
        pass_items none all = refl
        pass_items (token i rest) all = pass_items rest all
        pass_items (node l first under rest) all =
            let b : Bool = is_among lists l under in
            pass_node l first (permuted order lists b under) under (permuted order lists false rest) rest
            (same l (permuted order lists b under) under (same-cut order lists is b under done all.0)) (pass_cut b under done all.0) (pass_items rest all.1)

        pub pass_cut : (b : Bool) (f : Forest) (c : Cut) → AreOf (length order) (cut_then lists b f c) → nodes_pass (permuted order lists b f) ≡ nodes_pass f
        pass_cut true none c all = refl
        pass_cut false none c all = refl
        pass_cut true (token i rest) c all = pass_cut true rest c all
        pass_cut false (token i rest) c all = pass_cut false rest c all
        pass_cut true (node l first under rest) c all =
            let after : Cut = cut_then lists true rest c in
            let g : Forest = permuted order lists false under in
            let same_list : Same (shuffled order g) under =
            same_trans (shuffled order g) g under (shuffled_same order lists is g (counted order lists is under after all))
            (same-items order lists is under (items_all order lists under after all)) in
            pass_node l first (shuffled order g) under (permuted order lists true rest) rest
            (same l (shuffled order g) under same_list)
            (pass_shuffled g (counted order lists is under after all) ∙ pass_items under (items_all order lists under after all))
            (pass_cut true rest c (rest_all order lists under after all))
        pass_cut false (node l first under rest) c all =
            let after : Cut = cut_then lists false rest c in
            let b : Bool = is_among lists l under in
            pass_node l first (permuted order lists b under) under (permuted order lists false rest) rest
            (same l (permuted order lists b under) under (same-cut order lists is b under after all)) (pass_cut b under after all)
            (pass_cut false rest c (cut_all order lists b under after all))

-- ---- Forms that what is known asks for

-- the node has its form, and a member without a declarator has a token
abbrev pub is_well : Label → Forest → Bool
is_well l under = has_form l.production under && (not (is_at l MemRest 1) || begins_with_token under)

abbrev pub are_well : Forest → Bool
are_well f = nodes_pass is_well f

well_same : (l : Label) (f g : Forest) → Same f g → is_well l f ≡ is_well l g
well_same l f g s =
    ap (λ b. b && (not (is_at l MemRest 1) || begins_with_token f)) (form-same l.production f g s)
    ∙ ap (λ b. has_form l.production g && (not (is_at l MemRest 1) || b)) s.begins

pub well_numbered : (k : ℕ) (f : Forest) → are_well (numbered k f) ≡ are_well f
well_numbered k f = pass_numbered is_well well_same k f

pub well_permuted : (order : List ℕ) (lists : ℕ → Bool) (is : IsOrder (length order) order) (b : Bool) (f : Forest) → AreOf (length order) (cut_then lists b f done)
    → are_well (permuted order lists b f) ≡ are_well f
well_permuted order lists is b f all = pass_cut is_well well_same order lists is b f done all

pub well_fit : (lists : ℕ → Bool) (f : Forest) (l : Label) (own : Bool) (k : ℕ) (scope : Scope) (keeps : Bool) → have_forms f ≡ true
    → is_fit lists l own k scope keeps f ≡ true → are_well f ≡ true
well_fit lists none l own k scope keeps forms e = refl
well_fit lists (token i rest) l own k scope keeps forms e = well_fit lists rest l (not (is_items l)) (k + 1) scope keeps forms e
well_fit lists (node m first under rest) l own k scope keeps forms e =
    let any : Bool = if is_node m Declarator then has_outer_list lists false under else keeps in
    let child : Bool = is_fit_child lists l own k scope keeps m under in
    let below : Bool = is_fit lists m false 0 (scope_in m.production m under scope) keeps under in
    let more : Bool = is_fit lists l own (k + 1) scope any rest in
    let p = and_parts child (below && more) e in
    let q = and_parts below more p.1 in
    let fs = and_parts (has_form m.production under) (have_forms under && have_forms rest) forms in
    let gs = and_parts (have_forms under) (have_forms rest) fs.1 in
    let fit : IsFitNode l own k scope keeps m under = fit_child lists l own k scope keeps m under p.0 in
    let member : Bool = not (is_at m MemRest 1) || begins_with_token under in
    and_from (has_form m.production under && member) (are_well under && are_well rest) (and_from (has_form m.production under) member fs.0 fit.member)
    (and_from (are_well under) (are_well rest) (well_fit lists under m false 0 (scope_in m.production m under scope) keeps gs.0 q.0)
    (well_fit lists rest l own (k + 1) scope any gs.1 q.1))
