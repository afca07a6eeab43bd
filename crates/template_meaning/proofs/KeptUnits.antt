-- A unit that was compared with another one is it in the new order.
use Rattle.std.proofs.Common.{◌≡◌, ℕ, zero, suc, ◌+◌, ◌<◌, ◌≤◌, Bool, true, false, List, [], ◌∷◌, ◌++◌, length, map, get_or, Option, Some, None, inl, inr, refl, sym, ap, subst, ◌∙◌, arith, append-nil, append_assoc, length-append}
use Rattle.std.specs.Prelude.{slice_get, All}
use Rattle.std.specs.Option.{option_map}
use Rattle.std.proofs.lemmas.List.{length-map}
use Rattle.std.proofs.lemmas.List.Elements.{All-nil, All-cons}
use Rattle.std.proofs.lemmas.Option.{slice_get-get_or}
use Rattle.cs_base.specs.declared.positions.Part.{Part}
use Rattle.c99_tree.specs.Tree.{Forest, none, token, node, Node, node_of}
use Rattle.c99_tree.specs.declared.production.Label.{Label}
use Rattle.scope_bind.specs.declared.bound.Name.{Name}
use Rattle.scope_bind.specs.Names.{entity_at}
use Rattle.list_cuts.specs.Cuts.{Cut, numbers, IsOrder, AreOf, arranged}
use Rattle.list_cuts.proofs.CutLemmas.{arranged-map, length-arranged}
use Rattle.list_cuts.proofs.OrderLemmas.{length-numbers}
use Rattle.tree_laws.specs.TreesOfTexts.{IsTreeOf}
use Rattle.reordered_tree_laws.specs.Reordered.{nodes_in, permuted, leaves, numbered, reordered}
use Rattle.reordered_tree_laws.specs.Cuts.{cut_in}
use Rattle.reordered_tree_laws.proofs.MovedPlaces.{leaves-numbers, moved-within}
use Rattle.reordered_tree_laws.proofs.SameForms.{arranged_leaves}
use Rattle.analysis.specs.Analysis.{UnitAnalysis}
use Rattle.reordered.specs.Reordered.{begins_list, unit_cut, moved_in, Plain, plain, NamesMove, IsReorderedUnit}
use Rattle.template_meaning.specs.Children.{EachNode}
use Rattle.template_meaning.specs.Compared.{AreWithin, IsPlaceOf, IsAlikeAt, IsComparedUnit, IsCompared}
use Rattle.template_meaning.specs.Lists.{IsCut}
use Rattle.template_meaning.specs.Matched.{begun, node_count, ItemsAre, HaveItems}
use Rattle.template_meaning.proofs.Counted.{item_count, InnerHave, ListHas, tree_has}
use Rattle.template_meaning.proofs.ExternalMoved.{IsWithin, IsNamed}
use Rattle.template_meaning.proofs.UnitLists.{each_map}
use Rattle.template_meaning.proofs.Units.{bound_name}

-- ---- Lists

count_nodes : (f : Forest) → item_count f ≡ node_count f
count_nodes none = refl
count_nodes (token i rest) = count_nodes rest
count_nodes (node l first under rest) = omega (arith, count_nodes rest)

inner_have : (n : ℕ) (f : Forest) → ItemsAre n f → InnerHave n f
inner_have n none h = tt
inner_have n (token i rest) h = inner_have n rest h
inner_have n (node l first under rest) h = (inl (count_nodes under ∙ h.0), inner_have n rest h.1)

-- elements by their numbers
listed : {X : Type 0} (front xs : List X) → map (λ (x : X). Some x) xs ≡ map (λ (k : ℕ). slice_get (front ++ xs) k) (numbers (length front) (length xs))
unfolding numbers
listed front [] = refl
listed {X = X} front (x ∷ xs) =
    let next : front ++ x ∷ xs ≡ (front ++ x ∷ []) ++ xs = sym (append_assoc front (x ∷ []) xs) in
    let one : length (front ++ x ∷ []) ≡ length front + 1 = length-append front (x ∷ []) in
    ap (λ (o : Option X). o ∷ map (λ (y : X). Some y) xs) (sym (at front))
    ∙ ap (λ (os : List (Option X)). slice_get (front ++ x ∷ xs) (length front) ∷ os)
    (listed (front ++ x ∷ []) xs
    ∙ (ap (λ (zs : List X). map (λ (k : ℕ). slice_get zs k) (numbers (length (front ++ x ∷ [])) (length xs))) (sym next)
    ∙ ap (λ (n : ℕ). map (λ (k : ℕ). slice_get (front ++ x ∷ xs) k) (numbers n (length xs))) one))
  where
    at : (ys : List X) → slice_get (ys ++ x ∷ xs) (length ys) ≡ Some x
    at [] = refl
    at (y ∷ ys) = at ys

at_map : {X Y : Type 0} (f : X → Y) (xs : List X) (k : ℕ) → slice_get (map f xs) k ≡ option_map f (slice_get xs k)
at_map f [] k = refl
at_map f (x ∷ xs) zero = refl
at_map f (x ∷ xs) (suc k) = at_map f xs k

-- a list each element of which is that of another one at a number
picked_by : {X : Type 0} (old : List X) (ks : List ℕ) (new : List X) → length new ≡ length ks → ((p k : ℕ) → slice_get ks p ≡ Some k → slice_get new p ≡ slice_get old k)
    → map (λ (x : X). Some x) new ≡ map (λ (k : ℕ). slice_get old k) ks
picked_by old [] [] many each = refl
picked_by old [] (x ∷ new) many each = absurd (omega (arith, many))
picked_by old (k ∷ ks) [] many each = absurd (omega (arith, many))
picked_by {X = X} old (k ∷ ks) (x ∷ new) many each =
    ap (λ (o : Option X). o ∷ map (λ (y : X). Some y) new) (each 0 k refl)
    ∙ ap (λ (os : List (Option X)). slice_get old k ∷ os) (picked_by old ks new (omega (arith, many)) (λ p j at. each (suc p) j at))

unsome : {X : Type 0} (xs ys : List X) → map (λ (x : X). Some x) xs ≡ map (λ (y : X). Some y) ys → xs ≡ ys
unsome [] [] e = refl
unsome [] (y ∷ ys) e = absurd (cc)
unsome (x ∷ xs) [] e = absurd (cc)
unsome {X = X} (x ∷ xs) (y ∷ ys) e =
    let first : x ≡ y = cc in
    let others : map (λ (z : X). Some z) xs ≡ map (λ (z : X). Some z) ys = cc in
    ap (λ (z : X). z ∷ xs) first ∙ ap (λ (zs : List X). y ∷ zs) (unsome xs ys others)

all_at : {X : Type 0} (P : X → Type 0) (xs : List X) → ((j : ℕ) (x : X) → slice_get xs j ≡ Some x → P x) → All P xs
all_at P [] each = All-nil P
all_at P (x ∷ xs) each = All-cons P x xs (each 0 x refl) (all_at P xs (λ j y at. each (suc j) y at))

place_is : (places : List ℕ) (move : ℕ → ℕ) (o p : Option ℕ) → IsPlaceOf places o p → ((e : ℕ) → o ≡ Some e → slice_get places e ≡ Some (move e)) → p ≡ option_map move o
place_is places move None None is at = refl
place_is places move None (Some f) is at = absurd is
place_is places move (Some e) None is at = absurd is
place_is places move (Some e) (Some f) is at = sym is ∙ at e refl

-- ---- A unit

module _ (members : List Part) (order : List ℕ) (u v : UnitAnalysis) (is : IsOrder (length order) order) (of : IsTreeOf (length u.text.toks) u.tree) (c : IsCompared members order u v) where
  abbrev lists : ℕ → Bool
  lists = begins_list members u

  abbrev cut : Cut
  cut = unit_cut members u

  abbrev n : ℕ
  n = length u.text.toks

  abbrev s : IsComparedUnit order c.begins c.perm c.places u v
  s = c.same

  begun_same : begun c.begins ≡ lists
  begun_same = λ i k. c.lists k i

  each : AreOf (length order) cut
  each =
      subst (λ (ls : ℕ → Bool). AreOf (length order) (cut_in ls u.tree)) begun_same
      (tree_has (length order) (begun c.begins) u.tree
      (each_map (HaveItems (length order) c.begins) (ListHas (length order) (begun c.begins)) u.tree.under (λ l under h among. inner_have (length order) under (h among)) s.items))

  pub is_cut : IsCut members order u
  is_cut = record { order_is = is; each = each }

  tree : v.tree ≡ reordered order lists u.tree
  tree =
      let t = s.tree in
      ap (λ (l : Label). node_of l v.tree.first v.tree.under) t.label
      ∙ (ap (λ (k : ℕ). node_of u.tree.label k v.tree.under) t.first
      ∙ ap (node_of u.tree.label 0) (t.children.0 ∙ ap (λ (ls : ℕ → Bool). numbered 0 (permuted order ls false u.tree.under)) begun_same))

  in_order : leaves u.tree.under ≡ numbers 0 n
  unfolding numbers
  in_order =
      sym (append-nil (leaves u.tree.under))
      ∙ (leaves-numbers u.tree.under 0 [] 0 of.tokens refl ∙ ap (numbers 0) (omega (arith, of.all)))

  perm_is : c.perm ≡ arranged order cut (numbers 0 n)
  perm_is =
      let t = s.tree in
      t.children.1
      ∙ (ap (λ (ls : ℕ → Bool). leaves (permuted order ls false u.tree.under)) begun_same
      ∙ (arranged_leaves order lists u.tree each ∙ ap (λ (xs : List ℕ). arranged order cut xs) in_order))

  many : length c.perm ≡ n
  many = ap (λ (xs : List ℕ). length xs) perm_is ∙ (length-arranged (length order) order cut (numbers 0 n) is each ∙ length-numbers n 0)

  abbrev move : ℕ → ℕ
  move k = moved_in members order u k

  placed : (k : ℕ) → k < n → slice_get c.places k ≡ Some (move k)
  placed k less =
      let w = moved-within n order cut is each k less in
      let here : get_or c.perm (move k) 0 ≡ k = ap (λ (xs : List ℕ). get_or xs (move k) 0) perm_is ∙ w.1 in
      let at : slice_get c.perm (move k) ≡ Some k =
      slice_get-get_or c.perm (move k) 0 (omega (arith, w.0, many)) ∙ ap (λ (j : ℕ). Some j) here in
      s.placed (move k) k at

  alike : (k : ℕ) → k < n → IsAlikeAt u v c.places k (move k)
  alike k less = s.each k (move k) (placed k less)

  named_entity : (k e : ℕ) → entity_at u.bound.names k ≡ Some e → e < n
  named_entity k e at =
      let b = bound_name u.bound.names k e at in
      let there = b.1 in
      let names = s.named in
      let w = names.names there.0 b.0 there.1 in
      omega (arith, w.1, b.3)

  names_move : NamesMove move n u.bound.names v.bound.names
  names_move = record {
    entities = λ k less.
        let a = alike k less in
        place_is c.places move (entity_at u.bound.names k) (entity_at v.bound.names (move k)) a.entity (λ e at. placed e (named_entity k e at));
    declares = λ k less. let a = alike k less in a.declares;
    kinds = λ k less. let a = alike k less in a.kind;
    linkages = λ k less. let a = alike k less in a.linkage;
  }

  -- ---- Tokens

  abbrev old : List Plain
  old = map plain u.text.toks

  abbrev new : List Plain
  new = map plain v.text.toks

  -- they are those that the numbers name
  images : map (λ (p : Plain). Some p) (arranged order cut old) ≡ map (λ (k : ℕ). slice_get old k) c.perm
  images =
      sym (arranged-map (λ (p : Plain). Some p) order cut old)
      ∙ (ap (λ (os : List (Option Plain)). arranged order cut os)
      (listed [] old ∙ ap (λ (m : ℕ). map (λ (k : ℕ). slice_get old k) (numbers 0 m)) (length-map u.text.toks plain))
      ∙ (arranged-map (λ (k : ℕ). slice_get old k) order cut (numbers 0 n) ∙ ap (map (λ (k : ℕ). slice_get old k)) (sym perm_is)))

  tokens : new ≡ arranged order cut old
  tokens =
      let names = s.named in
      unsome new (arranged order cut old)
      (picked_by old c.perm new (length-map v.text.toks plain ∙ (names.many ∙ sym many))
      (λ p k at. let a = s.each k p (s.placed p k at) in at_map plain v.text.toks p ∙ (a.tok ∙ sym (at_map plain u.text.toks k)))
      ∙ sym images)

  pub unit_kept : v.standard ≡ u.standard → IsReorderedUnit members order u v
  unit_kept standard = record { standard = standard; tokens = tokens; tree = tree; names = names_move }

  pub named_before : IsNamed u
  named_before = let names = s.named in all_at (IsWithin (length u.text.toks)) u.bound.names names.names

  pub named_behind : IsNamed v
  named_behind = let names = s.named in all_at (IsWithin (length v.text.toks)) v.bound.names names.others
