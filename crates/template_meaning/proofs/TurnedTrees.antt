-- A walk over two trees that finds the second to be the first in a new order of items.
use Rattle.std.proofs.Common.{◌≡◌, ℕ, zero, suc, ◌+◌, ◌-◌, ◌<◌, ◌≤◌, Bool, true, false, List, [], ◌∷◌, ◌++◌, length, drop, map, get_or, Option, Some, None, refl, sym, ap, subst, ◌∙◌, arith, append-nil, append_assoc, length-append}
use Rattle.std.specs.Prelude.{slice_get}
use Rattle.std.proofs.lemmas.Option.{same_Some, none-some, get_or_from_slice_get}
use Rattle.std.proofs.lemmas.List.{length-map, get_or-map}
use Rattle.c99_tree.specs.Tree.{Forest, none, token, node, Node, node_of, count_of}
use Rattle.c99_tree.specs.declared.production.Label.{Label}
use Rattle.c_types.specs.Children.{from_child}
use Rattle.c_types.specs.Parameters.{ends_in_token}
use Rattle.c_types.proofs.ChildWalks.{from_child-end}
use Rattle.reordered_tree_laws.specs.Reordered.{nodes_in, refilled, no_node, picked_nodes, leaves, numbered}
use Rattle.tree_laws.specs.TreesOfTexts.{token_count}
use Rattle.reordered_tree_laws.proofs.Arranged.{length-leaves}
use Rattle.template_meaning.specs.Matched.{turned, inside, items_on, Matches, MatchesOn, IsTokenPut, IsNodePut, IsChildPut, IsNodeNumber, IsItemPut}

-- ---- One child after another

pub on_none : (f new : Forest) (before : List ℕ) → MatchesOn f f new new before before
on_none f new before = (λ rest. rest, refl)

pub on_both : (f g h new rest more : Forest) (before now after : List ℕ) → MatchesOn f g new rest before now → MatchesOn g h rest more now after
    → MatchesOn f h new more before after
on_both f g h new rest more before now after one two = (λ e. one.0 (two.0 e), two.1 ∙ one.1)

pub on_end : (f g new rest : Forest) (before after : List ℕ) → MatchesOn f g new rest before after → g ≡ none → rest ≡ none → Matches f new before after
on_end f g new rest before after on no_more no_rest = (
  on.0 (no_rest ∙ sym (ap (numbered (length after)) no_more)),
  sym (append-nil after) ∙ (ap (λ (x : Forest). after ++ leaves x) (sym no_more) ∙ on.1),
)

pub put_token : (f g new rest : Forest) (i : ℕ) (before after : List ℕ) → f ≡ token i g → new ≡ token (length before) rest → after ≡ before ++ i ∷ []
    → MatchesOn f g new rest before after
put_token f g new rest i before after had has is =
    let long : length after ≡ length before + 1 = ap (λ (xs : List ℕ). length xs) is ∙ length-append before (i ∷ []) in (
      λ e. has ∙ (ap (token (length before)) (e ∙ ap (λ (n : ℕ). numbered n g) long) ∙ sym (ap (numbered (length before)) had)),
      ap (λ (xs : List ℕ). xs ++ leaves g) is ∙ (append_assoc before (i ∷ []) (leaves g) ∙ ap (λ (x : Forest). before ++ leaves x) (sym had)),
    )

pub put_node : (f g new rest under u : Forest) (l : Label) (first : ℕ) (before after : List ℕ) → f ≡ node l first under g → new ≡ node l (length before) u rest
    → Matches under u before after → MatchesOn f g new rest before after
put_node f g new rest under u l first before after had has is =
    let long : length after ≡ length before + token_count under =
    ap (λ (xs : List ℕ). length xs) is.1 ∙ (length-append before (leaves under) ∙ ap (λ (n : ℕ). length before + n) (length-leaves under)) in (
      λ e. has
          ∙ (ap (λ (x : Forest). node l (length before) x rest) is.0
          ∙ (ap (node l (length before) (numbered (length before) under)) (e ∙ ap (λ (n : ℕ). numbered n g) long) ∙ sym (ap (numbered (length before)) had))),
      ap (λ (xs : List ℕ). xs ++ leaves g) is.1 ∙ (append_assoc before (leaves under) (leaves g) ∙ ap (λ (x : Forest). before ++ leaves x) (sym had)),
    )

-- ---- Items

pub drop_one : {X : Type 0} (xs : List X) (j : ℕ) (d : X) → j < length xs → drop j xs ≡ get_or xs j d ∷ drop (j + 1) xs
drop_one [] j d less = absurd (omega (arith, less))
drop_one (x ∷ xs) zero d less = refl
drop_one (x ∷ xs) (suc j) d less =
    let next : suc j + 1 ≡ suc (j + 1) = omega arith in
    drop_one xs j d (omega (arith, less)) ∙ ap (λ (n : ℕ). get_or xs j d ∷ drop n (x ∷ xs)) (sym next)

module _ (order begins : List ℕ) where
  -- a node with its children in the new order
  turned_node : Node → Node
  turned_node n = node_of n.label n.first (inside order begins false n.label n.under)

  turned_nodes : (f : Forest) → nodes_in (turned order begins false f) ≡ map turned_node (nodes_in f)
  unfolding turned_node
  turned_nodes none = refl
  turned_nodes (token i rest) = turned_nodes rest
  turned_nodes (node l first under rest) = ap (λ (ns : List Node). node_of l first (inside order begins false l under) ∷ ns) (turned_nodes rest)

  at_map : {X Y : Type 0} (f : X → Y) (xs : List X) (k : ℕ) (x : X) → slice_get xs k ≡ Some x → slice_get (map f xs) k ≡ Some (f x)
  at_map f [] k x e = absurd (none-some x e)
  at_map f (y ∷ xs) zero x e = ap (λ z. Some (f z)) (same_Some y x e)
  at_map f (y ∷ xs) (suc k) x e = at_map f xs k x e

  -- the item for a place
  picked_at : (old : Forest) (j : ℕ) (n : Node) → j < length order → IsNodeNumber old (get_or order j 0) n
      → get_or (picked_nodes order (nodes_in (turned order begins false old))) j no_node ≡ turned_node n
  picked_at old j n less is =
      let nodes : List Node = nodes_in (turned order begins false old) in
      let here : slice_get nodes (get_or order j 0 - 1) ≡ Some (turned_node n) =
      ap (λ (ns : List Node). slice_get ns (get_or order j 0 - 1)) (turned_nodes old) ∙ at_map turned_node (nodes_in old) (get_or order j 0 - 1) n is in
      get_or-map (λ (k : ℕ). get_or nodes (k - 1) no_node) order j 0 no_node less
      ∙ get_or_from_slice_get nodes (get_or order j 0 - 1) (turned_node n) no_node here

  pub token_passed : (old new : Forest) (j k i : ℕ) (before after : List ℕ) → from_child k old ≡ token i (from_child (k + 1) old) → IsTokenPut new k i before after
      → MatchesOn (items_on order begins old j k) (items_on order begins old j (k + 1)) (from_child k new) (from_child (k + 1) new) before after
  token_passed old new j k i before after had put =
      let ns : List Node = drop j (picked_nodes order (nodes_in (turned order begins false old))) in
      put_token (items_on order begins old j k) (items_on order begins old j (k + 1)) (from_child k new) (from_child (k + 1) new) i before after
      (ap (λ (f : Forest). refilled ns (turned order begins false f)) had) put.0 put.1

  pub item_passed : (old new : Forest) (j k first : ℕ) (l : Label) (under : Forest) (before after : List ℕ) → from_child k old ≡ node l first under (from_child (k + 1) old)
      → j < length order → IsItemPut order begins old new k j before after
      → MatchesOn (items_on order begins old j k) (items_on order begins old (j + 1) (k + 1)) (from_child k new) (from_child (k + 1) new) before after
  unfolding turned_node
  item_passed old new j k first l under before after had less put =
      let all : List Node = picked_nodes order (nodes_in (turned order begins false old)) in
      let n : Node = put.0 in
      let child = put.2 in
      let many : length all ≡ length order = length-map order (λ (m : ℕ). get_or (nodes_in (turned order begins false old)) (m - 1) no_node) in
      let front : drop j all ≡ turned_node n ∷ drop (j + 1) all =
      drop_one all j no_node (omega (arith, less, many)) ∙ ap (λ (m : Node). m ∷ drop (j + 1) all) (picked_at old j n less put.1) in
      put_node (items_on order begins old j k) (items_on order begins old (j + 1) (k + 1)) (from_child k new) (from_child (k + 1) new) (inside order begins false n.label n.under)
      child.0 n.label n.first before after
      (ap (λ (f : Forest). refilled (drop j all) (turned order begins false f)) had
      ∙ ap (λ (ns : List Node). refilled ns (turned order begins false (node l first under (from_child (k + 1) old)))) front)
      child.1 child.2

  -- nothing stands behind the last child
  pub items_end : (old : Forest) (j k : ℕ) → count_of old ≤ k → items_on order begins old j k ≡ none
  items_end old j k past =
      ap (λ (f : Forest). refilled (drop j (picked_nodes order (nodes_in (turned order begins false old)))) (turned order begins false f)) (from_child-end old k past)

  pub token_turned : (listed : Bool) (old new : Forest) (k i : ℕ) (before after : List ℕ) → from_child k old ≡ token i (from_child (k + 1) old) → IsTokenPut new k i before after
      → MatchesOn (turned order begins listed (from_child k old)) (turned order begins listed (from_child (k + 1) old)) (from_child k new) (from_child (k + 1) new) before after
  token_turned listed old new k i before after had put =
      put_token (turned order begins listed (from_child k old)) (turned order begins listed (from_child (k + 1) old)) (from_child k new) (from_child (k + 1) new) i before after
      (ap (turned order begins listed) had) put.0 put.1

  pub node_turned : (listed : Bool) (old new : Forest) (k first : ℕ) (l : Label) (under : Forest) (before after : List ℕ)
      → from_child k old ≡ node l first under (from_child (k + 1) old) → IsChildPut new k l (inside order begins listed l under) before after
      → MatchesOn (turned order begins listed (from_child k old)) (turned order begins listed (from_child (k + 1) old)) (from_child k new) (from_child (k + 1) new) before after
  node_turned listed old new k first l under before after had put =
      put_node (turned order begins listed (from_child k old)) (turned order begins listed (from_child (k + 1) old)) (from_child k new) (from_child (k + 1) new)
      (inside order begins listed l under) put.0 l first before after (ap (turned order begins listed) had) put.1 put.2

-- a node that is child number k
pub child_put : (new : Forest) (k : ℕ) (n : Node) (l : Label) (f : Forest) (before after : List ℕ) → from_child k new ≡ node n.label n.first n.under (from_child (k + 1) new)
    → IsNodePut n l f before after → IsChildPut new k l f before after
child_put new k n l f before after has put = (
  n.under,
  has ∙ (ap (λ (m : Label). node m n.first n.under (from_child (k + 1) new)) put.0 ∙ ap (λ (x : ℕ). node l x n.under (from_child (k + 1) new)) put.1.0),
  put.1.1,
)

-- ---- The last child

pub ends_by : (f : Forest) (ends : Bool) (k : ℕ) → count_of f ≡ k + 1 → ends_in_token ends f ≡ ends_in_token false (from_child k f)
ends_by none ends k e = absurd (omega (arith, e))
ends_by (token i none) ends zero e = refl
ends_by (token i (token j rest)) ends zero e = absurd (omega (arith, e))
ends_by (token i (node l first under rest)) ends zero e = absurd (omega (arith, e))
ends_by (token i rest) ends (suc k) e = ends_by rest true k (omega (arith, e))
ends_by (node l first under none) ends zero e = refl
ends_by (node l first under (token j rest)) ends zero e = absurd (omega (arith, e))
ends_by (node l first under (node m second more rest)) ends zero e = absurd (omega (arith, e))
ends_by (node l first under rest) ends (suc k) e = ends_by rest false k (omega (arith, e))
