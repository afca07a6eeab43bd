-- What the items of a list add is not seen at the tested tokens of another item, in either order.
use Rattle.std.proofs.Common.{ℕ, ◌+◌, ◌<◌, ◌≤◌, ◌≡◌, Bool, true, false, ◌&&◌, not, if◌then◌else◌, ◌==◌, List, [], ◌∷◌, Option, None, Some, ◌⊎◌, inl, inr, refl, sym, subst, ◌∙◌, arith}
use Rattle.std.specs.Prelude.{nat_lt}
use Rattle.std.specs.List.{All, list_all, list_any}
use Rattle.std.specs.Option.{option_map_or}
use Rattle.std.proofs.lemmas.Bool.{false≢true, and_parts, ltb-true, eq-eqb}
use Rattle.std.proofs.lemmas.List.Elements.{All-nil, All-cons, All-head, All-tail}
use Rattle.c99_grammar.specs.declared.dialects.Edition.{Edition}
use Rattle.cs_base.specs.Token.{Token}
use Rattle.cs_base.proofs.BoolLemmas.{not_true}
use Rattle.c99_tree.specs.Tree.{Forest, none, token, node, Node, node_of}
use Rattle.c99_tree.specs.declared.production.Label.{Label}
use Rattle.c99_tree.specs.declared.production.Production.TheVariants.{Pdirect}
use Rattle.c_types.specs.Trees.{is_at}
use Rattle.c_types.specs.Declarations.{alike}
use Rattle.c_types.proofs.TokenLemmas.{alike_back as alike_turned}
use Rattle.scope_bind.specs.Named.{Scope}
use Rattle.tree_laws.proofs.Outline.{Entry, Outline}
use Rattle.reordered_tree_laws.specs.Reordered.{nodes_in}
use Rattle.reordered_tree_laws.specs.Premises.{declared_name, asked_in, is_unasked_in, are_two_apart, are_apart}
use Rattle.reordered_tree_laws.specs.BareNames.{HasBareName, HaveBareNames}
use Rattle.reordered_tree_laws.proofs.Answered.{Ask, open_at, at_depth, meets, kind_among}
use Rattle.reordered_tree_laws.proofs.Within.{IsWithin, IsQuietWithin}
use Rattle.reordered_tree_laws.proofs.Bags.{bag_in, lasting_of}
use Rattle.reordered_tree_laws.proofs.Answering.{end_of, Answer, unanswered, IsOldItem, its_name}
use Rattle.reordered_tree_laws.proofs.Tested.{Tested, TestedNode, node_imp, asked_node}

-- ---- Lists

pub all_imp : {X : Type 0} (P Q : X → Type 0) (f : (x : X) → P x → Q x) (xs : List X) → All P xs → All Q xs
all_imp P Q f [] h = All-nil Q
all_imp P Q f (x ∷ xs) h = All-cons Q x xs (f x (All-head P x xs h)) (all_imp P Q f xs (All-tail P x xs h))

pub all_both : {X : Type 0} (P Q R : X → Type 0) (f : (x : X) → P x → Q x → R x) (xs : List X) → All P xs → All Q xs → All R xs
all_both P Q R f [] h k = All-nil R
all_both P Q R f (x ∷ xs) h k = All-cons R x xs (f x (All-head P x xs h) (All-head Q x xs k)) (all_both P Q R f xs (All-tail P x xs h) (All-tail Q x xs k))

-- ---- Two items

module _ (s : Edition) (toks : List Token) where
  -- no tested token of the second item is spelled as the first one is named
  abbrev pub IsClear : Node → Node → Type 0
  IsClear n x = TestedNode s toks (λ i. (j : ℕ) → declared_name n ≡ Some j → alike toks i j ≡ false) x

  pub tested_all : (P : ℕ → Type 0) → ((i : ℕ) → P i) → (l : Label) (k : ℕ) (f : Forest) → Tested s toks P l k f
  tested_all P g l k none = tt
  tested_all P g l k (token i rest) = (λ e. g i, tested_all P g l (k + 1) rest)
  tested_all P g l k (node x first under rest) = (λ e h. g (first + 1), tested_all P g x 0 under, tested_all P g l (k + 1) rest)

  turned : (i j : ℕ) → alike toks j i ≡ false → alike toks i j ≡ false
  turned i j e = by (alike toks i j) refl
    where
      by : (c : Bool) → alike toks i j ≡ c → c ≡ false
      by false h = refl
      by true h = absurd (false≢true (sym e ∙ alike_turned toks i j h))

  -- the bare names of an item
  abbrev pub HasBareNames : Node → Type 0
  HasBareNames n = (is_at n.label Pdirect 2 ≡ true → HasBareName s toks n.first n.under) × HaveBareNames s toks n.under

  pub bare_nodes : (u : Forest) → HaveBareNames s toks u → All HasBareNames (nodes_in u)
  bare_nodes none h = All-nil HasBareNames
  bare_nodes (token i rest) h = bare_nodes rest h
  bare_nodes (node l first under rest) h = All-cons HasBareNames (node_of l first under) (nodes_in rest) (h.0, h.1) (bare_nodes rest h.2)

  clear_by : (n x : Node) (o : Option ℕ) → declared_name n ≡ o → HasBareNames x → option_map_or (is_unasked_in toks x) o true ≡ true → IsClear n x
  clear_by n x None e h q =
      let P : ℕ → Type 0 = λ i. (j : ℕ) → declared_name n ≡ Some j → alike toks i j ≡ false in
      let g : (i : ℕ) → P i = λ i j w. absurd cc in
      (λ v w. g (x.first + 1), tested_all P g x.label 0 x.under)
  clear_by n x (Some k) e h q =
      let p = and_parts (not (list_any (alike toks k) (asked_in x))) (not (option_map_or (alike toks k) (declared_name x) false)) q in
      node_imp s toks (λ i. alike toks k i ≡ false) (λ i. (j : ℕ) → declared_name n ≡ Some j → alike toks i j ≡ false)
      (λ i a j w. (let same : k ≡ j = cc in turned i j (subst (λ (y : ℕ). alike toks y i ≡ false) same a))) x
      (asked_node s toks (alike toks k) x h.0 h.1 (not_true (list_any (alike toks k) (asked_in x)) p.0))

  -- each two of some items are clear of each other
  abbrev pub ArePairsClear : List Node → Type 0
  ArePairsClear [] = Unit {0}
  ArePairsClear (n ∷ ns) = All (λ x. IsClear n x × IsClear x n) ns × ArePairsClear ns

  clear_both : (n : Node) (ns : List Node) → HasBareNames n → All HasBareNames ns → list_all (are_two_apart toks n) ns ≡ true → All (λ x. IsClear n x × IsClear x n) ns
  clear_both n [] h all e = All-nil (λ x. IsClear n x × IsClear x n)
  clear_both n (x ∷ xs) h all e =
      let p = and_parts (are_two_apart toks n x) (list_all (are_two_apart toks n) xs) e in
      let q = and_parts (option_map_or (is_unasked_in toks x) (declared_name n) true) (option_map_or (is_unasked_in toks n) (declared_name x) true) p.0 in
      All-cons (λ y. IsClear n y × IsClear y n) x xs
      (clear_by n x (declared_name n) refl (All-head HasBareNames x xs all) q.0, clear_by x n (declared_name x) refl h q.1)
      (clear_both n xs h (All-tail HasBareNames x xs all) p.1)

  pub pairs_clear : (ns : List Node) → All HasBareNames ns → are_apart toks ns ≡ true → ArePairsClear ns
  pairs_clear [] all e = tt
  pairs_clear (n ∷ ns) all e =
      let p = and_parts (list_all (are_two_apart toks n) ns) (are_apart toks ns) e in
      (clear_both n ns (All-head HasBareNames n ns all) (All-tail HasBareNames n ns all) p.0, pairs_clear ns (All-tail HasBareNames n ns all) p.1)

  -- the second is the first one, or is clear of it
  abbrev pub IsSameOrClear : Node → Node → Type 0
  IsSameOrClear n x = (n.first ≡ x.first) ⊎ IsClear n x

  pub each_clear : (ns : List Node) → ArePairsClear ns → All (λ n. All (IsSameOrClear n) ns) ns
  each_clear [] p = All-nil (λ n. All (IsSameOrClear n) [])
  each_clear (n ∷ ns) p =
      All-cons (λ y. All (IsSameOrClear y) (n ∷ ns)) n ns
      (All-cons (IsSameOrClear n) n ns (inl refl) (all_imp (λ x. IsClear n x × IsClear x n) (IsSameOrClear n) (λ x w. inr w.0) ns p.0))
      (all_both (λ x. IsClear n x × IsClear x n) (λ x. All (IsSameOrClear x) ns) (λ x. All (IsSameOrClear x) (n ∷ ns))
      (λ x v w. All-cons (IsSameOrClear x) n ns (inr v.1) w) ns p.0 (each_clear ns p.1))

-- ---- Hidden entries

module _ (toks : List Token) where
  open_before : (k : ℕ) (e : Entry) (hi : ℕ) → e.to ≤ hi → hi ≤ k → meets (open_at k) e ≡ true → ⊥
  open_before k e hi less more met =
      let before : k < e.to = ltb-true k e.to ((and_parts (not (nat_lt k e.from)) (nat_lt k e.to) met).1) in
      omega (arith, before, less, more)

  -- behind an item, at a token that is not spelled as it is named
  pub hidden_old : (b : Outline) (end : ℕ) (n : Node) (i : ℕ) → IsOldItem b end n → end_of n ≤ i → ((j : ℕ) → declared_name n ≡ Some j → alike toks i j ≡ false)
      → kind_among toks i (open_at i) (bag_in b n) ≡ None
  hidden_old b end n i item behind clear =
      unanswered (IsQuietWithin (lasting_of n) n.first (end_of n) b.scope) toks i (open_at i) (bag_in b n) item.quiet (λ w. by w w.holds.within.lasts)
    where
      by : (w : Answer (IsQuietWithin (lasting_of n) n.first (end_of n) b.scope) toks i (open_at i))
          → ((w.entry.depth ≡ b.scope.depth) × (w.entry.to ≡ b.scope.to)) ⊎ ((b.scope.depth < w.entry.depth) × ((n.first ≤ w.entry.to) × (w.entry.to ≤ end_of n))) → ⊥
      by w (inl r) = false≢true (sym (clear w.entry.name_at (its_name n w.entry.name_at (w.holds.quiet r.0))) ∙ w.named)
      by w (inr r) = open_before i w.entry (end_of n) r.1.1 behind w.met

  none_step : (c t : Bool) (o : Option Bool) → (if c then Some t else o) ≡ None → (c ≡ false) × (o ≡ None)
  none_step true t o e = absurd cc
  none_step false t o e = (refl, e)

  none_met : (i : ℕ) (a : Ask) (es : List Entry) → kind_among toks i a es ≡ None → All (λ e. (alike toks i e.name_at && meets a e) ≡ false) es
  none_met i a [] h = All-nil (λ e. (alike toks i e.name_at && meets a e) ≡ false)
  none_met i a (e ∷ es) h =
      let p = none_step (alike toks i e.name_at && meets a e) e.typedef (kind_among toks i a es) h in
      All-cons (λ e. (alike toks i e.name_at && meets a e) ≡ false) e es p.0 (none_met i a es p.1)

  both_false : (a b : Bool) → a ≡ true → b ≡ true → (a && b) ≡ false → ⊥
  both_false true true e f h = false≢true (sym h)
  both_false true false e f h = false≢true f
  both_false false b e f h = false≢true e

  -- .. and where none at the depth of the list is spelled so
  pub hidden_new : (lo hi : ℕ) (scope : Scope) (es : List Entry) (i : ℕ) → All (IsWithin lo hi scope) es → hi ≤ i → kind_among toks i (at_depth scope.depth) es ≡ None
      → kind_among toks i (open_at i) es ≡ None
  hidden_new lo hi scope es i within behind deep =
      unanswered (λ e. IsWithin lo hi scope e × ((alike toks i e.name_at && meets (at_depth scope.depth) e) ≡ false)) toks i (open_at i) es
      (all_both (IsWithin lo hi scope) (λ e. (alike toks i e.name_at && meets (at_depth scope.depth) e) ≡ false)
      (λ e. IsWithin lo hi scope e × ((alike toks i e.name_at && meets (at_depth scope.depth) e) ≡ false)) (λ e v w. (v, w)) es within (none_met i (at_depth scope.depth) es deep))
      (λ w. by w w.holds.0.lasts)
    where
      by : (w : Answer (λ e. IsWithin lo hi scope e × ((alike toks i e.name_at && meets (at_depth scope.depth) e) ≡ false)) toks i (open_at i))
          → ((w.entry.depth ≡ scope.depth) × (w.entry.to ≡ scope.to)) ⊎ ((scope.depth < w.entry.depth) × ((lo ≤ w.entry.to) × (w.entry.to ≤ hi))) → ⊥
      by w (inl r) = both_false (alike toks i w.entry.name_at) (w.entry.depth == scope.depth) w.named (eq-eqb w.entry.depth scope.depth r.0) w.holds.1
      by w (inr r) = open_before i w.entry hi r.1.1 behind w.met
