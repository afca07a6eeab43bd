-- Tests at the tokens of the items of a list, one after another, in the old text and in the new one.
use Rattle.std.proofs.Common.{ℕ, ◌+◌, ◌≤◌, ◌≡◌, Bool, true, false, ◌&&◌, ◌||◌, not, if◌then◌else◌, ◌==◌, ◌%◌, List, [], ◌∷◌, ◌++◌, length, None, Some, refl, sym, ap, subst, ◌∙◌, arith}
use Rattle.std.specs.List.{All}
use Rattle.std.specs.Option.{option_or}
use Rattle.std.proofs.lemmas.Bool.{false≢true, and_parts, and_from, or_parts}
use Rattle.std.proofs.lemmas.List.{append_assoc}
use Rattle.std.proofs.lemmas.List.Elements.{All-nil, All-cons, All-head, All-tail}
use Rattle.c99_grammar.specs.declared.dialects.Edition.{Edition}
use Rattle.cs_base.specs.Token.{Token}
use Rattle.c99_tree.specs.Tree.{Forest, none, token, node, Node, node_of}
use Rattle.c99_tree.specs.declared.production.Label.{Label}
use Rattle.c99_tree.specs.declared.production.Production.{Production}
use Rattle.c99_tree.specs.declared.production.Production.TheVariants.{FunBody, Main, Params, Primary, Pdirect, Args, Post, Suffix}
use Rattle.c99_tree.specs.contracts.production.ProductionPartialEq.TheImpl.{ghosts}
use Rattle.c99_grammar.specs.Standard.{iso}
use Rattle.c99_read.specs.State.{base_at, is_identifier}
use Rattle.c_types.specs.Trees.{is_node, is_at}
use Rattle.c_types.specs.Declarations.{alike}
use Rattle.tree_laws.specs.TreesOfTexts.{has_body}
use Rattle.list_cuts.specs.Cuts.{IsOrder}
use Rattle.tree_laws.proofs.Outline.{Entry, Outline, added, is_listing, stepped, begun, ended, outlined, typedef_among, token_agrees, node_agrees, all_agree}
use Rattle.reordered_tree_laws.specs.Reordered.{nodes_in}
use Rattle.reordered_tree_laws.specs.Premises.{is_items, is_item_production, declared_name}
use Rattle.scope_bind.specs.Moved.{AreMovedTexts}
use Rattle.reordered_tree_laws.proofs.Answered.{open_at, kind_among, kind_append, is_yes, among_kind}
use Rattle.reordered_tree_laws.proofs.Longer.{lengthened}
use Rattle.reordered_tree_laws.proofs.Bags.{bare, bag_in, AreItems, items_unlisted, bare_ended, one_item}
use Rattle.reordered_tree_laws.proofs.Answering.{end_of, IsBehind, ArePairs, IsOldItem}
use Rattle.reordered_tree_laws.proofs.Tested.{is_tested, TestedNode, node_both, IsIn}
use Rattle.reordered_tree_laws.proofs.Unseen.{IsClear, ArePairsClear, hidden_old}

-- ---- The tests

-- an item passes its tests
abbrev pub item_agrees : Edition → List Token → Node → Outline → Bool
item_agrees s toks n o = node_agrees s toks n.label n.first o.entries && all_agree s toks n.under (begun n.label n.first n.under o)

pub items_test : (s : Edition) (toks : List Token) (p : Production) (a k i : ℕ) (es : List Entry) → (ghosts.eq p Args || (ghosts.eq p Params && not (a == 1))) ≡ true
    → token_agrees s toks p a k i es ≡ true
items_test s toks Args a k i es e = refl
items_test s toks Params a k i es e = by (a == 1) e
  where
    by : (c : Bool) → not c ≡ true → (if c && (k % 2 == 0) then not (typedef_among s toks i es) else true) ≡ true
    by true h = absurd (false≢true h)
    by false h = refl
items_test s toks _ a k i es e = absurd (false≢true e)

pub list_test : (s : Edition) (toks : List Token) (p : Production) (a k i : ℕ) (es : List Entry) → ((ghosts.eq p Post && (a == 2)) || (ghosts.eq p Suffix && (a == 2))) ≡ true
    → token_agrees s toks p a k i es ≡ true
list_test s toks Post a k i es e = refl
list_test s toks Suffix a k i es e = refl
list_test s toks _ a k i es e = absurd (false≢true e)

if_test : (c x y : Bool) → (c ≡ true → x ≡ y) → (if c then x else true) ≡ (if c then y else true)
if_test true x y f = f refl
if_test false x y f = refl

name_test : (c i j x y : Bool) → (c ≡ true → i ≡ j) → (c ≡ true → j ≡ true → x ≡ y) → (if c then not i || not x else true) ≡ (if c then not j || not y else true)
name_test false i j x y f g = refl
name_test true i true x y f g = ap (λ b. not b || not x) (f refl) ∙ ap (λ b. false || not b) (g refl refl)
name_test true i false x y f g = ap (λ b. not b || not x) (f refl)

module _ (m : ℕ → ℕ) (old new : List Token) (law : AreMovedTexts m old new) (order : List ℕ) (lists : ℕ → Bool) (is : IsOrder (length order) order) (s : Edition) where
  -- the same is seen of these entries at a token and at its new place
  abbrev pub SeenAlike : List Entry → List Entry → ℕ → Type 0
  SeenAlike es fs i = kind_among new (m i) (open_at (m i)) fs ≡ kind_among old i (open_at i) es

  pub seen_more : (es fs xs ys : List Entry) (i : ℕ) → SeenAlike es fs i → SeenAlike xs ys i → SeenAlike (es ++ xs) (fs ++ ys) i
  seen_more es fs xs ys i h k =
      kind_append new (m i) (open_at (m i)) fs ys
      ∙ (ap (λ o. option_or o (kind_among new (m i) (open_at (m i)) ys)) h
      ∙ (ap (λ o. option_or (kind_among old i (open_at i) es) o) k ∙ sym (kind_append old i (open_at i) es xs)))

  among_same : (es fs : List Entry) (i : ℕ) → SeenAlike es fs i → typedef_among s new (m i) fs ≡ typedef_among s old i es
  among_same es fs i h = among_kind s new (m i) fs ∙ (ap is_yes h ∙ sym (among_kind s old i es))

  token_by : (p : Production) (a k i j : ℕ) (es fs : List Entry) → (is_tested p a k ≡ true → typedef_among s new j fs ≡ typedef_among s old i es)
      → token_agrees s new p a k j fs ≡ token_agrees s old p a k i es
  token_by Main a k i j es fs f = if_test ((a == 4) && (k == 0)) (typedef_among s new j fs) (typedef_among s old i es) f
  token_by Primary a k i j es fs f = if_test (a == 1) (not (typedef_among s new j fs)) (not (typedef_among s old i es)) (λ e. ap not (f e))
  token_by Params a k i j es fs f = if_test ((a == 1) && (k % 2 == 0)) (not (typedef_among s new j fs)) (not (typedef_among s old i es)) (λ e. ap not (f e))
  token_by _ a k i j es fs f = refl

  pub token_same : (p : Production) (a k i j : ℕ) (es fs : List Entry) → m i ≡ j → (is_tested p a k ≡ true → SeenAlike es fs i)
      → token_agrees s new p a k j fs ≡ token_agrees s old p a k i es
  token_same p a k i j es fs at f =
      token_by p a k i j es fs (λ e. subst (λ (x : ℕ). typedef_among s new x fs ≡ typedef_among s old i es) at (among_same es fs i (f e)))

  pub node_same : ((k : ℕ) → base_at (iso s) new (m k) ≡ base_at (iso s) old k) → (l : Label) (first there : ℕ) (es fs : List Entry)
      → (is_at l Pdirect 2 ≡ true → m (first + 1) ≡ there + 1)
      → (is_at l Pdirect 2 ≡ true → is_identifier (base_at (iso s) old (first + 1)) ≡ true → SeenAlike es fs (first + 1))
      → node_agrees s new l there fs ≡ node_agrees s old l first es
  node_same base l first there es fs at f =
      name_test (is_at l Pdirect 2) (is_identifier (base_at (iso s) new (there + 1))) (is_identifier (base_at (iso s) old (first + 1)))
      (typedef_among s new (there + 1) fs) (typedef_among s old (first + 1) es)
      (λ e. ap (λ (x : ℕ). is_identifier (base_at (iso s) new x)) (sym (at e)) ∙ ap is_identifier (base (first + 1)))
      (λ e w. subst (λ (x : ℕ). typedef_among s new x fs ≡ typedef_among s old (first + 1) es) (at e) (among_same es fs (first + 1) (f e w)))

  -- ---- The old text

  abbrev pub IsUnseenOld : List Entry → Node → Type 0
  IsUnseenOld es n = TestedNode s old (λ i. kind_among old i (open_at i) es ≡ None) n

  -- the tested tokens of an item are its own
  abbrev pub HasOwnTests : Node → Type 0
  HasOwnTests n = TestedNode s old (IsIn s old n.first (end_of n)) n

  -- the item passes its tests behind others that it does not see
  pub record AgreesOld (b : Outline) (zs : List Entry) (n : Node) : Type 0 where
    pub front : List Entry
    pub unseen : IsUnseenOld front n
    pub agrees : item_agrees s old n (lengthened (front ++ zs) b) ≡ true

  module _ (b : Outline) (zs : List Entry) (end : ℕ) where
    pub nothing_more : (toks : List Token) (i : ℕ) (xs ys : List Entry) → kind_among toks i (open_at i) xs ≡ None → kind_among toks i (open_at i) ys ≡ None
        → kind_among toks i (open_at i) (xs ++ ys) ≡ None
    nothing_more toks i xs ys e h =
        kind_append toks i (open_at i) xs ys ∙ (ap (λ o. option_or o (kind_among toks i (open_at i) ys)) e ∙ h)

    behind_unseen : (n : Node) (ns : List Node) (fs : List Entry) → IsOldItem b end n → All (IsBehind old n) ns → All (λ x. IsClear s old n x × IsClear s old x n) ns
        → All HasOwnTests ns → All (IsUnseenOld fs) ns → All (IsUnseenOld (bag_in b n ++ fs)) ns
    behind_unseen n [] fs item behind clear own unseen = All-nil (IsUnseenOld (bag_in b n ++ fs))
    behind_unseen n (x ∷ xs) fs item behind clear own unseen =
        let C : Node → Type 0 = λ y. IsClear s old n y × IsClear s old y n in
        let P : ℕ → Type 0 = λ i. (j : ℕ) → declared_name n ≡ Some j → alike old i j ≡ false in
        let after : end_of n + 1 ≤ x.first = (All-head (IsBehind old n) x xs behind).after in
        let hid : IsUnseenOld (bag_in b n) x =
        node_both s old P (IsIn s old x.first (end_of x)) (λ i. kind_among old i (open_at i) (bag_in b n) ≡ None)
        (λ i v w. hidden_old old b end n i item (omega (arith, after, w.0)) v) x (All-head C x xs clear).0 (All-head HasOwnTests x xs own) in
        All-cons (IsUnseenOld (bag_in b n ++ fs)) x xs
        (node_both s old (λ i. kind_among old i (open_at i) (bag_in b n) ≡ None) (λ i. kind_among old i (open_at i) fs ≡ None)
        (λ i. kind_among old i (open_at i) (bag_in b n ++ fs) ≡ None) (λ i v w. nothing_more old i (bag_in b n) fs v w) x hid (All-head (IsUnseenOld fs) x xs unseen))
        (behind_unseen n xs fs item (All-tail (IsBehind old n) x xs behind) (All-tail C x xs clear) (All-tail HasOwnTests x xs own) (All-tail (IsUnseenOld fs) x xs unseen))

    pub old_pass : (u : Forest) (o : Outline) (fs : List Entry) → bare o ≡ b → is_items o.label ≡ true → o.entries ≡ fs ++ zs → has_body u ≡ false → AreItems (nodes_in u)
        → All (IsOldItem b end) (nodes_in u) → ArePairs old (nodes_in u) → ArePairsClear s old (nodes_in u) → All HasOwnTests (nodes_in u) → All (IsUnseenOld fs) (nodes_in u)
        → all_agree s old u o ≡ true → All (AgreesOld b zs) (nodes_in u)
    old_pass none o fs e q h plain all items pairs clear own unseen agree = All-nil (AgreesOld b zs)
    old_pass (token i rest) o fs e q h plain all items pairs clear own unseen agree =
        let none : is_listing o.label.production o.label.alternative o.nth ≡ false = items_unlisted o.label.production o.label.alternative o.nth q in
        old_pass rest (stepped i o) fs e q (ap (λ c. if c then added o i false i o.entries else o.entries) none ∙ h) plain all items pairs clear own unseen
        ((and_parts (token_agrees s old o.label.production o.label.alternative o.nth i o.entries) (all_agree s old rest (stepped i o)) agree).1)
    old_pass (node l first under rest) o fs e q h plain all items pairs clear own unseen agree =
        let n : Node = node_of l first under in
        let ns : List Node = nodes_in rest in
        let P : Node → Type 0 = λ x. is_item_production x.label.production ≡ true in
        let item : IsOldItem b end n = All-head (IsOldItem b end) n ns items in
        let production : is_item_production l.production ≡ true = All-head P n ns all in
        let o1 : Outline = begun l first under o in
        let inside : Outline = outlined under o1 in
        let o2 : Outline = ended l first under o inside in
        let c = or_parts (has_body under) (has_body rest) ((or_parts (is_node l FunBody) (has_body under || has_body rest) plain).1) in
        let p = and_parts (node_agrees s old l first o.entries) (all_agree s old under o1 && all_agree s old rest o2) agree in
        let r = and_parts (all_agree s old under o1) (all_agree s old rest o2) p.1 in
        let here : item_agrees s old n (lengthened o.entries (bare o)) ≡ true = and_from (node_agrees s old l first o.entries) (all_agree s old under o1) p.0 r.0 in
        let there : item_agrees s old n (lengthened (fs ++ zs) b) ≡ true =
        subst (λ (x : Outline). item_agrees s old n (lengthened (fs ++ zs) x) ≡ true) e (subst (λ (es : List Entry). item_agrees s old n (lengthened es (bare o)) ≡ true) h here) in
        let entries : o2.entries ≡ (bag_in b n ++ fs) ++ zs =
        one_item l first under o production c.0
        ∙ (ap (λ (x : Outline). bag_in x n ++ o.entries) e ∙ (ap (λ es. bag_in b n ++ es) h ∙ sym (append_assoc (bag_in b n) fs zs))) in
        All-cons (AgreesOld b zs) n ns (record { front = fs; unseen = All-head (IsUnseenOld fs) n ns unseen; agrees = there })
        (old_pass rest o2 (bag_in b n ++ fs) (bare_ended l first under o inside production ∙ e) q entries c.1 (All-tail P n ns all)
        (All-tail (IsOldItem b end) n ns items) pairs.1 clear.1 (All-tail HasOwnTests n ns own)
        (behind_unseen n ns fs item pairs.0 clear.0 (All-tail HasOwnTests n ns own) (All-tail (IsUnseenOld fs) n ns unseen)) r.1)
