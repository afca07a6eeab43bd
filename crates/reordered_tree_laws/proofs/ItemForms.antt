-- What a list in a new order needs of its items, in the new text: they are items, ask for nothing of each other, and have their forms.
use Rattle.std.proofs.Common.{ℕ, ◌+◌, ◌≡◌, Bool, true, false, ◌&&◌, ◌||◌, not, if◌then◌else◌, List, [], ◌∷◌, length, ◌⊎◌, Option, None, Some, refl, sym, ap, subst, ◌∙◌, inl, inr}
use Rattle.std.specs.List.{list_all, list_any}
use Rattle.std.specs.Option.{option_map, option_map_or}
use Rattle.std.proofs.lemmas.Bool.{and_parts, and_from, false≢true}
use Rattle.std.proofs.lemmas.List.{length-map}
use Rattle.std.proofs.lemmas.List.Sorted.{list_any-IsPermutation}
use Rattle.std.specs.Prelude.{IsPermutation}
use Rattle.cs_base.specs.Token.{Token}
use Rattle.cs_base.proofs.BoolLemmas.{or_met as not_no}
use Rattle.c99_tree.specs.Tree.{Forest, none, token, node, Node, node_of}
use Rattle.c99_tree.specs.declared.production.Label.{Label}
use Rattle.c99_tree.specs.declared.production.Production.{Production}
use Rattle.c99_tree.specs.declared.production.Production.TheVariants.{SuRest, EnRest, Declarator, FunBody, MemRest, Args, Params}
use Rattle.c_types.specs.Trees.{is_node, is_at}
use Rattle.c_types.specs.Declarations.{alike}
use Rattle.name_chains.specs.Entering.{scope_in}
use Rattle.scope_bind.specs.Named.{Scope}
use Rattle.tree_laws.specs.TreesOfTexts.{token_count, begins_with_token}
use Rattle.list_cuts.specs.Cuts.{Cut, done, IsOrder, AreOf, AreItemsOf}
use Rattle.scope_bind.specs.Moved.{AreMovedTexts}
use Rattle.reordered_tree_laws.specs.Moving.{AreMovedTo}
use Rattle.reordered_tree_laws.specs.Premises.{is_items, is_bracketed, asks_sign, stands_in, declares_type, has_outer_list, is_fit_child, is_fit, lists_pass, declared_name, is_item_production, is_item, asked_in, is_unasked_in, are_two_apart}
use Rattle.reordered_tree_laws.specs.Reordered.{nodes_in, picked_nodes, shuffled, is_among, permuted, numbered}
use Rattle.reordered_tree_laws.specs.Cuts.{cut_then, items_in}
use Rattle.reordered_tree_laws.specs.Seen.{are_parts}
use Rattle.reordered_tree_laws.proofs.Arranged.{items_all, rest_all, cut_all}
use Rattle.reordered_tree_laws.proofs.SameForms.{nodes_permute, nodes-refilled, unfilled, counted}
use Rattle.reordered_tree_laws.specs.Lasting.{tags_pass}
use Rattle.reordered_tree_laws.specs.Siblings.{tags_follow}
use Rattle.reordered_tree_laws.proofs.Checks.{are_listed}
use Rattle.reordered_tree_laws.proofs.ItemsStay.{tags_permuted}
use Rattle.reordered_tree_laws.proofs.ItemsMoved.{declared_permuted, item_permuted, asked_permuted, declared_numbered, tags_numbered, item_numbered, unasked_numbered}

-- ---- Lists of a tree with its forms

and_three : (a b c : Bool) → (a && (b && c)) ≡ true → (a ≡ true) × ((b ≡ true) × (c ≡ true))
and_three a b c e = let p = and_parts a (b && c) e in let q = and_parts b c p.1 in (p.0, (q.0, q.1))

pub items_no_list : (lists : ℕ → Bool) (l : Label) (u : Forest) → is_items l ≡ true → is_among lists l u ≡ false
items_no_list lists l u e = by l.production l.alternative e
  where
    by : (p : Production) (n : ℕ) → is_items (record { production = p; alternative = n }) ≡ true → is_among lists (record { production = p; alternative = n }) u ≡ false
    by Args n e = refl
    by Params n e = refl
    by _ n e = absurd (false≢true e)

module _ (lists : ℕ → Bool) where
  -- what stands between parentheses of a list is a node of items
  bracketed_listed : (under : Forest) → is_bracketed under ≡ true → are_listed lists false under ≡ true → are_listed lists true under ≡ true
  bracketed_listed none e h = absurd (false≢true e)
  bracketed_listed (node l first under rest) e h = absurd (false≢true e)
  bracketed_listed (token i none) e h = absurd (false≢true e)
  bracketed_listed (token i (token j none)) e h = refl
  bracketed_listed (token i (token j (token k rest))) e h = absurd (false≢true e)
  bracketed_listed (token i (token j (node l first under rest))) e h = absurd (false≢true e)
  bracketed_listed (token i (node l first under none)) e h = absurd (false≢true e)
  bracketed_listed (token i (node l first under (node m next below rest))) e h = absurd (false≢true e)
  bracketed_listed (token i (node l first under (token j (token k rest)))) e h = absurd (false≢true e)
  bracketed_listed (token i (node l first under (token j (node m next below rest)))) e h = absurd (false≢true e)
  bracketed_listed (token i (node l first under (token j none))) e h =
      let p = and_parts (is_items l) _ e in
      let q = and_parts (are_listed lists (is_among lists l under) under) true h in
      and_from (is_items l) (are_listed lists false under && true) p.0
      (and_from (are_listed lists false under) true (subst (λ (b : Bool). are_listed lists b under ≡ true) (items_no_list lists l under p.0) q.0) refl)

  -- the forms of a child: what stands in front of it, and that it is bracketed where it is a list
  child_signs : (l : Label) (own : Bool) (k : ℕ) (scope : Scope) (keeps : Bool) (m : Label) (under : Forest) → is_fit_child lists l own k scope keeps m under ≡ true
      → ((own || not (asks_sign l k m)) ≡ true) × (is_among lists m under ≡ true → is_bracketed under ≡ true)
  child_signs l own k scope keeps m under e =
      let p = and_parts (own || not (asks_sign l k m)) _ e in
      let q = and_parts (stands_in m.production scope.depth) _ p.1 in
      let r = and_parts (not (is_node m FunBody) || keeps) _ q.1 in
      let s = and_parts (not (declares_type l m) || are_parts under) _ r.1 in
      let t = and_parts (not (is_at m MemRest 1) || begins_with_token under) _ s.1 in
      (p.0, not_no (is_among lists m under) (is_bracketed under) t.1)

  pub fit_listed : (l : Label) (own : Bool) (k : ℕ) (scope : Scope) (keeps : Bool) (f : Forest) → is_fit lists l own k scope keeps f ≡ true → are_listed lists false f ≡ true
  fit_listed l own k scope keeps none e = refl
  fit_listed l own k scope keeps (token i rest) e = fit_listed l (not (is_items l)) (k + 1) scope keeps rest e
  fit_listed l own k scope keeps (node m first under rest) e =
      let inside : Scope = scope_in m.production m under scope in
      let behind : Bool = if is_node m Declarator then has_outer_list lists false under else keeps in
      let p = and_three (is_fit_child lists l own k scope keeps m under) (is_fit lists m false 0 inside keeps under) (is_fit lists l own (k + 1) scope behind rest) e in
      let below : are_listed lists false under ≡ true = fit_listed m false 0 inside keeps under p.1.0 in
      and_from (are_listed lists (is_among lists m under) under) (are_listed lists false rest)
      (by (is_among lists m under) refl below ((child_signs l own k scope keeps m under p.0).1)) (fit_listed l own (k + 1) scope behind rest p.1.1)
    where
      by : (c : Bool) → is_among lists m under ≡ c → are_listed lists false under ≡ true → (is_among lists m under ≡ true → is_bracketed under ≡ true)
          → are_listed lists c under ≡ true
      by false e below brackets = below
      by true e below brackets = bracketed_listed under (brackets e) below

  not_signs : (a c : Bool) → not (a || c) ≡ true → not c ≡ true
  not_signs true c e = absurd (false≢true e)
  not_signs false c e = e

  sign_or : (own read a c : Bool) → (own || not (a || c)) ≡ true → (own ≡ true → read ≡ true) → (read || not c) ≡ true
  sign_or true read a c e h = ap (λ (b : Bool). b || not c) (h refl)
  sign_or false true a c e h = refl
  sign_or false false a c e h = not_signs a c e

  -- a tag that is read follows a token
  pub fit_follows : (l : Label) (own : Bool) (k : ℕ) (scope : Scope) (keeps read : Bool) (f : Forest) → is_fit lists l own k scope keeps f ≡ true
      → (own ≡ true → read ≡ true) → tags_follow read f ≡ true
  fit_follows l own k scope keeps read none e h = refl
  fit_follows l own k scope keeps read (token i rest) e h = fit_follows l (not (is_items l)) (k + 1) scope keeps true rest e (λ x. refl)
  fit_follows l own k scope keeps read (node m first under rest) e h =
      let inside : Scope = scope_in m.production m under scope in
      let behind : Bool = if is_node m Declarator then has_outer_list lists false under else keeps in
      let p = and_three (is_fit_child lists l own k scope keeps m under) (is_fit lists m false 0 inside keeps under) (is_fit lists l own (k + 1) scope behind rest) e in
      and_from (read || not (is_node m SuRest || is_node m EnRest)) (tags_follow false under && tags_follow read rest)
      (sign_or own read _ (is_node m SuRest || is_node m EnRest) ((child_signs l own k scope keeps m under p.0).0) h)
      (and_from (tags_follow false under) (tags_follow read rest) (fit_follows m false 0 inside keeps false under p.1.0 (λ x. absurd (false≢true x)))
      (fit_follows l own (k + 1) scope behind read rest p.1.1 h))

-- ---- Tags that follow a token

no_sign : Label → Bool
no_sign l = not (is_node l SuRest || is_node l EnRest)

abbrev Follows : Node → Bool
Follows n = no_sign n.label && tags_follow false n.under

nodes_follow : (read : Bool) (h : Forest) → list_all Follows (nodes_in h) ≡ true → tags_follow read h ≡ true
unfolding no_sign
nodes_follow read none e = refl
nodes_follow read (token i rest) e = nodes_follow true rest e
nodes_follow read (node l first under rest) e =
    let p = and_parts (Follows (node_of l first under)) (list_all Follows (nodes_in rest)) e in
    let q = and_parts (no_sign l) (tags_follow false under) p.0 in
    and_from (read || not (is_node l SuRest || is_node l EnRest)) (tags_follow false under && tags_follow read rest) (or_second read q.0)
    (and_from (tags_follow false under) (tags_follow read rest) q.1 (nodes_follow read rest p.1))
  where
    or_second : (c : Bool) {d : Bool} → d ≡ true → (c || d) ≡ true
    or_second true e = refl
    or_second false e = e

follow_nodes : (read : Bool) (h : Forest) → tags_follow read h ≡ true → list_all (λ (n : Node). tags_follow false n.under) (nodes_in h) ≡ true
follow_nodes read none e = refl
follow_nodes read (token i rest) e = follow_nodes true rest e
follow_nodes read (node l first under rest) e =
    let p = and_three (read || not (is_node l SuRest || is_node l EnRest)) (tags_follow false under) (tags_follow read rest) e in
    and_from (tags_follow false under) (list_all (λ (n : Node). tags_follow false n.under) (nodes_in rest)) p.1.0 (follow_nodes read rest p.1.1)

item_no_sign : (n : Node) → is_item n ≡ true → no_sign n.label ≡ true
unfolding no_sign
item_no_sign n e = by n.label.production n.label.alternative ((and_parts (is_item_production n.label.production) _ ((and_parts (is_item_production n.label.production && _) _ e).0)).0)
  where
    by : (p : Production) (a : ℕ) → is_item_production p ≡ true → not (is_node (record { production = p; alternative = a }) SuRest || is_node (record { production = p; alternative = a }) EnRest) ≡ true
    by SuRest a e = absurd (false≢true e)
    by EnRest a e = absurd (false≢true e)
    by _ a e = refl

all_any : {X : Type 0} (p : X → Bool) (xs : List X) → list_all p xs ≡ not (list_any (λ x. not (p x)) xs)
all_any p [] = refl
all_any p (x ∷ xs) = ap (λ (b : Bool). p x && b) (all_any p xs) ∙ by (p x) (list_any (λ y. not (p y)) xs)
  where
    by : (c d : Bool) → (c && not d) ≡ not (not c || d)
    by true d = refl
    by false d = refl

module _ (order : List ℕ) (is : IsOrder (length order) order) (lists : ℕ → Bool) where
  all_shuffled : (p : Node → Bool) (g : Forest) → (length (nodes_in g) ≡ length order) ⊎ (length (nodes_in g) ≡ 0)
      → list_all p (nodes_in (shuffled order g)) ≡ list_all p (nodes_in g)
  all_shuffled p g (inr few) = ap (λ (h : Forest). list_all p (nodes_in h)) (unfilled g (picked_nodes order (nodes_in g)) few)
  all_shuffled p g (inl many) =
      let ns : List Node = picked_nodes order (nodes_in g) in
      let long : length ns ≡ length (nodes_in g) = length-map order _ ∙ sym many in
      let moved : IsPermutation (nodes_in g) ns = nodes_permute order (nodes_in g) (rw many is) in
      ap (list_all p) (nodes-refilled g ns long)
      ∙ (all_any p ns ∙ (ap not (sym (list_any-IsPermutation (λ x. not (p x)) (nodes_in g) ns moved)) ∙ sym (all_any p (nodes_in g))))

  mutual
    items_follow : (u : Forest) → AreItemsOf (length order) (items_in lists u) → list_all is_item (nodes_in u) ≡ true → lists_pass lists (list_all is_item) false u ≡ true
        → list_all (λ (n : Node). tags_follow false n.under) (nodes_in u) ≡ true → list_all Follows (nodes_in (permuted order lists false u)) ≡ true
    items_follow none all items inner e = refl
    items_follow (token i rest) all items inner e = items_follow rest all items inner e
    items_follow (node l first under rest) all items inner e =
        let p = and_parts (is_item (node_of l first under)) (list_all is_item (nodes_in rest)) items in
        let q = and_parts (lists_pass lists (list_all is_item) (is_among lists l under) under) (lists_pass lists (list_all is_item) false rest) inner in
        let r = and_parts (tags_follow false under) (list_all (λ (n : Node). tags_follow false n.under) (nodes_in rest)) e in
        and_from (Follows (node_of l first (permuted order lists (is_among lists l under) under))) (list_all Follows (nodes_in (permuted order lists false rest)))
        (and_from (no_sign l) (tags_follow false (permuted order lists (is_among lists l under) under)) (item_no_sign (node_of l first under) p.0)
        (follows_permuted (is_among lists l under) false under done all.0 q.0 r.0))
        (items_follow rest all.1 p.1 q.1 r.1)

    pub follows_permuted : (b read : Bool) (f : Forest) (after : Cut) → AreOf (length order) (cut_then lists b f after)
        → lists_pass lists (list_all is_item) b f ≡ true → tags_follow read f ≡ true → tags_follow read (permuted order lists b f) ≡ true
    follows_permuted true read none after all inner e = refl
    follows_permuted false read none after all inner e = refl
    follows_permuted true read (token i rest) after all inner e = follows_permuted true true rest after all inner e
    follows_permuted false read (token i rest) after all inner e = follows_permuted false true rest after all inner e
    follows_permuted true read (node l first under rest) after all inner e =
        let behind : Cut = cut_then lists true rest after in
        let g : Forest = permuted order lists false under in
        let p = and_three (list_all is_item (nodes_in under)) (lists_pass lists (list_all is_item) false under) (lists_pass lists (list_all is_item) true rest) inner in
        let q = and_three (read || not (is_node l SuRest || is_node l EnRest)) (tags_follow false under) (tags_follow read rest) e in
        and_from (read || not (is_node l SuRest || is_node l EnRest)) (tags_follow false (shuffled order g) && tags_follow read (permuted order lists true rest)) q.0
        (and_from (tags_follow false (shuffled order g)) (tags_follow read (permuted order lists true rest))
        (nodes_follow false (shuffled order g)
        (all_shuffled Follows g (counted order lists is under behind all)
        ∙ items_follow under (items_all order lists under behind all) p.0 p.1.0 (follow_nodes false under q.1.0)))
        (follows_permuted true read rest after (rest_all order lists under behind all) p.1.1 q.1.1))
    follows_permuted false read (node l first under rest) after all inner e =
        let behind : Cut = cut_then lists false rest after in
        let b : Bool = is_among lists l under in
        let p = and_parts (lists_pass lists (list_all is_item) b under) (lists_pass lists (list_all is_item) false rest) inner in
        let q = and_three (read || not (is_node l SuRest || is_node l EnRest)) (tags_follow false under) (tags_follow read rest) e in
        and_from (read || not (is_node l SuRest || is_node l EnRest)) (tags_follow false (permuted order lists b under) && tags_follow read (permuted order lists false rest)) q.0
        (and_from (tags_follow false (permuted order lists b under)) (tags_follow read (permuted order lists false rest))
        (follows_permuted b false under behind all p.0 q.1.0)
        (follows_permuted false read rest after (cut_all order lists b under behind all) p.1 q.1.1))

pub follows_numbered : (read : Bool) (n : ℕ) (f : Forest) → tags_follow read (numbered n f) ≡ tags_follow read f
follows_numbered read n none = refl
follows_numbered read n (token i rest) = follows_numbered true (n + 1) rest
follows_numbered read n (node l first under rest) =
    ap (λ (x : Bool). (read || not (is_node l SuRest || is_node l EnRest)) && (x && tags_follow read (numbered (n + token_count under) rest))) (follows_numbered false n under)
    ∙ ap (λ (x : Bool). (read || not (is_node l SuRest || is_node l EnRest)) && (tags_follow false under && x)) (follows_numbered read (n + token_count under) rest)

-- ---- Items at their new places

module _ (order : List ℕ) (is : IsOrder (length order) order) (lists : ℕ → Bool) (m : ℕ → ℕ) (old new : List Token) (law : AreMovedTexts m old new) where
  -- an item, and its place in the new text
  pub record IsMovedItem (l : Label) (first there : ℕ) (under : Forest) : Type 0 where
    pub after : Cut
    pub all : AreOf (length order) (cut_then lists (is_among lists l under) under after)
    pub fine : are_listed lists (is_among lists l under) under ≡ true
    pub moved : AreMovedTo m there (permuted order lists (is_among lists l under) under)

  abbrev pub moved_item : Label → ℕ → Forest → Node
  moved_item l there under = node_of l there (numbered there (permuted order lists (is_among lists l under) under))

  pub item_moved : (l : Label) (first there : ℕ) (under : Forest) → IsMovedItem l first there under → is_item (moved_item l there under) ≡ is_item (node_of l first under)
  item_moved l first there under h =
      item_numbered m old new law l first there (permuted order lists (is_among lists l under) under) h.moved
      ∙ item_permuted order is lists l first under h.after h.all h.fine

  pub declared_moved : (l : Label) (first there : ℕ) (under : Forest) → IsMovedItem l first there under
      → declared_name (moved_item l there under) ≡ option_map m (declared_name (node_of l first under))
  declared_moved l first there under h =
      declared_numbered m old new law l first there (permuted order lists (is_among lists l under) under) h.moved
      ∙ ap (λ (r : Option ℕ). option_map m r) (declared_permuted order is lists l first under h.after h.all h.fine)

  pub unasked_moved : (l : Label) (first there : ℕ) (under : Forest) (j : ℕ) → IsMovedItem l first there under
      → is_unasked_in new (moved_item l there under) (m j) ≡ is_unasked_in old (node_of l first under) j
  unasked_moved l first there under j h =
      unasked_numbered m old new law l first there (permuted order lists (is_among lists l under) under) j h.moved
      ∙ (ap (λ (x : Bool). x && not (option_map_or (alike old j) (declared_name (node_of l first (permuted order lists (is_among lists l under) under))) false))
      (asked_permuted order is lists l first under h.after h.all h.fine (alike old j))
      ∙ ap (λ (r : Option ℕ). not (list_any (alike old j) (asked_in (node_of l first under))) && not (option_map_or (alike old j) r false))
      (declared_permuted order is lists l first under h.after h.all h.fine))

  pub apart_moved : (l l' : Label) (first first' there there' : ℕ) (under under' : Forest) → IsMovedItem l first there under → IsMovedItem l' first' there' under'
      → are_two_apart new (moved_item l there under) (moved_item l' there' under') ≡ are_two_apart old (node_of l first under) (node_of l' first' under')
  apart_moved l l' first first' there there' under under' h h' =
      ap (λ (x : Bool). x && option_map_or (is_unasked_in new (moved_item l there under)) (declared_name (moved_item l' there' under')) true)
      (one (is_unasked_in new (moved_item l' there' under')) (is_unasked_in old (node_of l' first' under')) (declared_name (moved_item l there under)) (declared_name (node_of l first under))
      (declared_moved l first there under h) (λ j. unasked_moved l' first' there' under' j h'))
      ∙ ap (λ (x : Bool). option_map_or (is_unasked_in old (node_of l' first' under')) (declared_name (node_of l first under)) true && x)
      (one (is_unasked_in new (moved_item l there under)) (is_unasked_in old (node_of l first under)) (declared_name (moved_item l' there' under')) (declared_name (node_of l' first' under'))
      (declared_moved l' first' there' under' h') (λ j. unasked_moved l first there under j h))
    where
      one : (p q : ℕ → Bool) (r d : Option ℕ) → r ≡ option_map m d → ((j : ℕ) → p (m j) ≡ q j) → option_map_or p r true ≡ option_map_or q d true
      one p q r None e same = ap (λ (x : Option ℕ). option_map_or p x true) e
      one p q r (Some j) e same = ap (λ (x : Option ℕ). option_map_or p x true) e ∙ same j

  -- tags pass a test at the new places that they passed at the old ones
  pub tags_moved : (l : Label) (first there : ℕ) (under : Forest) (test test' : ℕ → Bool) (k : ℕ) → ((i : ℕ) → test' (m i) ≡ test i) → IsMovedItem l first there under
      → tags_pass test' l k (numbered there (permuted order lists (is_among lists l under) under)) ≡ tags_pass test l k under
  tags_moved l first there under test test' k same h =
      tags_numbered m old new law test test' same l k there (permuted order lists (is_among lists l under) under) h.moved
      ∙ tags_permuted order is lists l under h.after (is_among lists l under) refl h.all h.fine test k
