-- Tests at the tokens of the items of a list in the new order, one after another.
use Rattle.std.proofs.Common.{ℕ, ◌+◌, ◌≤◌, ◌≡◌, Bool, true, false, ◌&&◌, if◌then◌else◌, List, [], ◌∷◌, ◌++◌, map, length, None, Some, inl, inr, refl, sym, ap, subst, ◌∙◌, arith}
use Rattle.std.specs.Prelude.{nat_lt}
use Rattle.std.specs.List.{All}
use Rattle.std.proofs.lemmas.Bool.{cases_Bool, and_parts, and_from, ltb-true, ltb-false}
use Rattle.std.proofs.lemmas.List.{append_assoc}
use Rattle.std.proofs.lemmas.List.Elements.{All-nil, All-cons, All-head, All-tail}
use Rattle.c99_grammar.specs.declared.dialects.Edition.{Edition}
use Rattle.cs_base.specs.Token.{Token}
use Rattle.c99_tree.specs.Tree.{Forest, none, token, node, Node}
use Rattle.c_types.specs.Declarations.{alike}
use Rattle.tree_laws.specs.TreesOfTexts.{token_count, AreFrom}
use Rattle.list_cuts.specs.Cuts.{done, IsOrder, AreOf}
use Rattle.tree_laws.proofs.Outline.{Entry, Outline, added, is_listing, stepped, begun, ended, outlined, token_agrees, node_agrees, all_agree}
use Rattle.reordered_tree_laws.specs.Reordered.{nodes_in, refilled, is_among, numbered}
use Rattle.reordered_tree_laws.specs.Cuts.{cut_then}
use Rattle.reordered_tree_laws.specs.Premises.{is_items, is_item_production, declared_name}
use Rattle.scope_bind.specs.Moved.{AreMovedTexts}
use Rattle.reordered_tree_laws.specs.Moving.{AreMovedTo}
use Rattle.reordered_tree_laws.proofs.MovedTrees.{AreSpans}
use Rattle.reordered_tree_laws.proofs.MovedWalk.{count_numbered}
use Rattle.reordered_tree_laws.proofs.MovedOrders.{spans_permuted}
use Rattle.reordered_tree_laws.proofs.Answered.{open_at, at_depth, kind_among}
use Rattle.reordered_tree_laws.proofs.Longer.{lengthened}
use Rattle.reordered_tree_laws.proofs.Within.{IsWithin, IsBodiless}
use Rattle.reordered_tree_laws.proofs.Bags.{bare, bag_in, items_unlisted, bare_ended, one_item, bag_within}
use Rattle.reordered_tree_laws.proofs.Answering.{end_of, IsOldItem, unanswered, unasked}
use Rattle.reordered_tree_laws.proofs.Placing.{under_of, reordered_node, placed_at, IsPlaced, AreItemsPlaced, IsCounted, nodes_placed, ItemGoes}
use Rattle.reordered_tree_laws.proofs.Tested.{TestedNode, node_imp, node_both, IsIn}
use Rattle.reordered_tree_laws.proofs.Unseen.{all_imp, IsSameOrClear, hidden_new}
use Rattle.reordered_tree_laws.proofs.AgreeingLemmas.{item_agrees, items_test, SeenAlike, seen_more, HasOwnTests, AgreesOld, nothing_more}

module _ (m : ℕ → ℕ) (old new : List Token) (law : AreMovedTexts m old new) (order : List ℕ) (lists : ℕ → Bool) (is : IsOrder (length order) order) (s : Edition)
    (b c : Outline) (zs ws : List Entry) (end from : ℕ) (empty : c.entries ≡ []) (depth : c.scope.depth ≡ b.scope.depth) where
  abbrev Seen : List Entry → List Entry → ℕ → Type 0
  Seen es fs i = SeenAlike m old new law order lists is s es fs i

  -- an item passes its tests at any place in the new text where it sees what it has seen
  abbrev pub ItemAgrees : Node → Type 0
  ItemAgrees n =
      (y : ℕ) → from ≤ y → AreMovedTo m y (under_of m old new law order lists n) → (es fs : List Entry) → TestedNode s old (Seen es fs) n
      → item_agrees s old n (lengthened es b) ≡ true → item_agrees s new (placed_at m old new law order lists y n) (lengthened fs c) ≡ true

  -- all that is known of an item
  pub record IsFine (n : Node) : Type 0 where
    pub production : is_item_production n.label.production ≡ true
    pub item : IsOldItem b end n
    pub before : AgreesOld m old new law order lists is s b zs n
    pub agrees : ItemAgrees n
    pub goes : ItemGoes m old new law order lists b.scope.depth b c from n
    pub own : HasOwnTests m old new law order lists is s n
    pub start : AreFrom n.first n.under
    pub cut : AreOf (length order) (cut_then lists (is_among lists n.label n.under) n.under done)
    pub counted : IsCounted m old new law order lists n
    pub bodiless : (k : ℕ) → IsBodiless k (numbered k (under_of m old new law order lists n))
    pub seen : TestedNode s old (Seen zs ws) n

  abbrev pub IsUnseenNew : List Entry → Node → Type 0
  IsUnseenNew fs n = TestedNode s old (λ i. kind_among new (m i) (open_at (m i)) fs ≡ None) n

  -- ---- Two items

  module _ (n x : Node) (k there : ℕ) (f : IsFine n) (g : IsFine x) (low : from ≤ k) (w : AreMovedTo m k (under_of m old new law order lists n))
      (behind : k + token_count n.under ≤ there) (v : AreMovedTo m there (under_of m old new law order lists x)) where
    abbrev adds : List Entry
    adds = bag_in c (placed_at m old new law order lists k n)

    here : AreSpans m n.first k (token_count n.under)
    here = spans_permuted m old new law order lists is (is_among lists n.label n.under) n.under n.first k f.cut f.start w

    over : AreSpans m x.first there (token_count x.under)
    over = spans_permuted m old new law order lists is (is_among lists x.label x.under) x.under x.first there g.cut g.start v

    abbrev hi : ℕ
    hi = k + token_count (numbered k (under_of m old new law order lists n))

    same_hi : hi ≡ k + token_count n.under
    same_hi = omega (arith, count_numbered (under_of m old new law order lists n) k, f.counted)

    within : All (IsWithin k hi c.scope) adds
    within = bag_within (IsWithin k hi c.scope) c (placed_at m old new law order lists k n) k refl empty f.production (f.bodiless k) (λ e z. z)

    one_unseen : (i : ℕ) → IsIn s old x.first (end_of x) i → ((j : ℕ) → declared_name n ≡ Some j → alike old i j ≡ false) → kind_among new (m i) (open_at (m i)) adds ≡ None
    one_unseen i own clear =
        let at = over.over i own.0 own.1 in
        let none : kind_among new (m i) (at_depth b.scope.depth) adds ≡ None =
        f.goes k low w i (at_depth b.scope.depth) refl ∙ unasked old b.scope.depth b end (omega arith) i n f.item clear in
        let none' : kind_among new (m i) (at_depth c.scope.depth) adds ≡ None = subst (λ (d : ℕ). kind_among new (m i) (at_depth d) adds ≡ None) (sym depth) none in
        hidden_new new k hi c.scope adds (m i) within (omega (arith, same_hi, behind, at.0)) none'

    -- the same item is not put at two places, but where it has no token
    none_unseen : n.first ≡ x.first → (i : ℕ) → IsIn s old x.first (end_of x) i → kind_among new (m i) (open_at (m i)) adds ≡ None
    none_unseen same i own = elim (cases_Bool (nat_lt 0 (token_count n.under))) [
      | inl some ↦
          let a = here.over n.first (omega arith) (omega (arith, ltb-true 0 (token_count n.under) some)) in
          let d = over.over x.first (omega arith) (omega (arith, own.0, own.1)) in
          let e : m n.first ≡ m x.first = ap m same in
          absurd (omega (arith, a.1, d.0, e, behind))
      | inr void ↦
          unanswered (IsWithin k hi c.scope) new (m i) (open_at (m i)) adds within
          (λ z. omega (arith, same_hi, ltb-false 0 (token_count n.under) void, z.holds.above, z.holds.below))
    ]

    pub later_unseen : IsSameOrClear s old n x → IsUnseenNew adds x
    later_unseen (inl same) =
        node_imp s old (IsIn s old x.first (end_of x)) (λ i. kind_among new (m i) (open_at (m i)) adds ≡ None) (λ i u. none_unseen same i u) x g.own
    later_unseen (inr clear) =
        node_both s old (IsIn s old x.first (end_of x)) (λ i. (j : ℕ) → declared_name n ≡ Some j → alike old i j ≡ false)
        (λ i. kind_among new (m i) (open_at (m i)) adds ≡ None) (λ i u y. one_unseen i u y) x g.own clear

  later_all : (n : Node) (k : ℕ) → IsFine n → from ≤ k → AreMovedTo m k (under_of m old new law order lists n) → (ns xs : List Node) (till : ℕ) → All IsFine ns
      → All (IsSameOrClear s old n) ns → AreItemsPlaced m old new law order lists (k + token_count n.under) till ns xs → (fs : List Entry) → All (IsUnseenNew fs) ns
      → All (IsUnseenNew (bag_in c (placed_at m old new law order lists k n) ++ fs)) ns
  later_all n k f low w [] xs till fine clear p fs unseen = All-nil (IsUnseenNew (bag_in c (placed_at m old new law order lists k n) ++ fs))
  later_all n k f low w (x ∷ ns) [] till fine clear p fs unseen = absurd p
  later_all n k f low w (x ∷ ns) (y ∷ ys) till fine clear p fs unseen =
      let adds : List Entry = bag_in c (placed_at m old new law order lists k n) in
      let at : IsPlaced m old new law order lists (k + token_count n.under) till x y = p.0 in
      let one : IsUnseenNew adds x =
      later_unseen n x k at.there f (All-head IsFine x ns fine) low w at.low at.moved (All-head (IsSameOrClear s old n) x ns clear) in
      All-cons (IsUnseenNew (adds ++ fs)) x ns
      (node_both s old (λ i. kind_among new (m i) (open_at (m i)) adds ≡ None) (λ i. kind_among new (m i) (open_at (m i)) fs ≡ None)
      (λ i. kind_among new (m i) (open_at (m i)) (adds ++ fs) ≡ None) (λ i u v. nothing_more m old new law order lists is s b zs end new (m i) adds fs u v) x one (All-head (IsUnseenNew fs) x ns unseen))
      (later_all n k f low w ns ys till (All-tail IsFine x ns fine) (All-tail (IsSameOrClear s old n) x ns clear) p.1 fs (All-tail (IsUnseenNew fs) x ns unseen))

  -- ---- All items

  -- what is in front is not seen at a token in both texts, and the rest is seen alike
  front_alike : (es fs : List Entry) (i : ℕ) → kind_among old i (open_at i) es ≡ None → kind_among new (m i) (open_at (m i)) fs ≡ None → Seen zs ws i → Seen (es ++ zs) (fs ++ ws) i
  front_alike es fs i e f h = seen_more m old new law order lists is s es fs zs ws i (f ∙ sym e) h

  pub new_pass : (g : Forest) (ns : List Node) (k : ℕ) (p : Outline) (fs : List Entry) → length ns ≡ length (nodes_in g) → from ≤ k → bare p ≡ c → is_items p.label ≡ true
      → p.entries ≡ fs ++ ws → All IsFine ns → All (λ n. All (IsSameOrClear s old n) ns) ns → All (IsUnseenNew fs) ns
      → AreMovedTo m k (refilled (map (reordered_node m old new law order lists) ns) g)
      → all_agree s new (numbered k (refilled (map (reordered_node m old new law order lists) ns) g)) p ≡ true
  new_pass none ns k p fs e low q items h fine clear unseen w = refl
  new_pass (token i rest) ns k p fs e low q items h fine clear unseen w =
      let none : is_listing p.label.production p.label.alternative p.nth ≡ false = items_unlisted p.label.production p.label.alternative p.nth items in
      and_from (token_agrees s new p.label.production p.label.alternative p.nth k p.entries)
      (all_agree s new (numbered (k + 1) (refilled (map (reordered_node m old new law order lists) ns) rest)) (stepped k p))
      (items_test s new p.label.production p.label.alternative p.nth k p.entries items)
      (new_pass rest ns (k + 1) (stepped k p) fs e (omega (arith, low)) q items (ap (λ x. if x then added p k false k p.entries else p.entries) none ∙ h) fine clear unseen w.1)
  new_pass (node l first under rest) [] k p fs e low q items h fine clear unseen w = absurd (omega (arith, e))
  new_pass (node l first under rest) (n ∷ ns) k p fs e low q items h fine clear unseen w =
      let U : Node → Forest = under_of m old new law order lists in
      let f : IsFine n = All-head IsFine n ns fine in
      let more : All IsFine ns = All-tail IsFine n ns fine in
      let below : Forest = numbered k (U n) in
      let p1 : Outline = begun n.label k below p in
      let inside : Outline = outlined below p1 in
      let p2 : Outline = ended n.label k below p inside in
      let there : ℕ = k + token_count (U n) in
      let later : Forest = refilled (map (reordered_node m old new law order lists) ns) rest in
      let seen : TestedNode s old (Seen (f.before.front ++ zs) (fs ++ ws)) n =
      node_both s old (λ i. (kind_among old i (open_at i) f.before.front ≡ None) × (kind_among new (m i) (open_at (m i)) fs ≡ None)) (Seen zs ws) (Seen (f.before.front ++ zs) (fs ++ ws))
      (λ i u v. front_alike f.before.front fs i u.0 u.1 v) n
      (node_both s old (λ i. kind_among old i (open_at i) f.before.front ≡ None) (λ i. kind_among new (m i) (open_at (m i)) fs ≡ None)
      (λ i. (kind_among old i (open_at i) f.before.front ≡ None) × (kind_among new (m i) (open_at (m i)) fs ≡ None)) (λ i u v. (u, v)) n f.before.unseen (All-head (IsUnseenNew fs) n ns unseen)) f.seen in
      let agree : item_agrees s new (placed_at m old new law order lists k n) (lengthened (fs ++ ws) c) ≡ true =
      f.agrees k low w.0 (f.before.front ++ zs) (fs ++ ws) seen f.before.agrees in
      let here : item_agrees s new (placed_at m old new law order lists k n) (lengthened p.entries (bare p)) ≡ true =
      subst (λ (es : List Entry). item_agrees s new (placed_at m old new law order lists k n) (lengthened es (bare p)) ≡ true) (sym h)
      (subst (λ (x : Outline). item_agrees s new (placed_at m old new law order lists k n) (lengthened (fs ++ ws) x) ≡ true) (sym q) agree) in
      let t = and_parts (node_agrees s new n.label k p.entries) (all_agree s new below p1) here in
      let adds : List Entry = bag_in c (placed_at m old new law order lists k n) in
      let entries : p2.entries ≡ (adds ++ fs) ++ ws =
      one_item n.label k below p f.production (f.bodiless k).plain
      ∙ (ap (λ (x : Outline). bag_in x (placed_at m old new law order lists k n) ++ p.entries) q ∙ (ap (λ es. adds ++ es) h ∙ sym (append_assoc adds fs ws))) in
      let placed : AreItemsPlaced m old new law order lists (k + token_count n.under) (there + token_count later) ns (nodes_in (numbered there later)) =
      nodes_placed m old new law order lists rest ns (k + token_count n.under) (there + token_count later) there (omega (arith, e)) (all_imp IsFine (IsCounted m old new law order lists) (λ x y. y.counted) ns more) w.1
      (omega (arith, f.counted)) (omega arith) in
      let last : all_agree s new (numbered there later) p2 ≡ true =
      new_pass rest ns there p2 (adds ++ fs) (omega (arith, e)) (omega (arith, low)) (bare_ended n.label k below p inside f.production ∙ q) items entries more
      (all_imp (λ x. All (IsSameOrClear s old x) (n ∷ ns)) (λ x. All (IsSameOrClear s old x) ns) (λ x y. All-tail (IsSameOrClear s old x) n ns y) ns
      (All-tail (λ x. All (IsSameOrClear s old x) (n ∷ ns)) n ns clear))
      (later_all n k f low w.0 ns (nodes_in (numbered there later)) (there + token_count later) more
      (All-tail (IsSameOrClear s old n) n ns (All-head (λ x. All (IsSameOrClear s old x) (n ∷ ns)) n ns clear)) placed fs (All-tail (IsUnseenNew fs) n ns unseen)) w.1 in
      and_from (node_agrees s new n.label k p.entries) (all_agree s new below p1 && all_agree s new (numbered there later) p2) t.0
      (and_from (all_agree s new below p1) (all_agree s new (numbered there later) p2) t.1 last)
