-- The tokens of a tree in which lists are in a new order are the arranged ones.
use Rattle.std.proofs.Common.{ℕ, suc, ◌+◌, ◌-◌, ◌≡◌, Bool, true, false, List, [], ◌∷◌, ◌++◌, length, take, drop, map, get_or, refl, sym, ap, ◌∙◌, arith, length-append, append-nil, append_assoc}
use Rattle.std.proofs.lemmas.List.{length-map, drop-drop}
use Rattle.std.proofs.Math.ListN as listn
use Rattle.cs_base.proofs.ListLemmas.{drop-front}
use Rattle.c99_tree.specs.Tree.{Forest, none, token, node, Node}
use Rattle.list_cuts.specs.Cuts.{Cut, done, count_of, span_of, picked, woven, gaps_of, arranged, items_of, AreOf, AreItemsOf}
use Rattle.tree_laws.specs.TreesOfTexts.{token_count}
use Rattle.reordered_tree_laws.specs.Reordered.{nodes_in, refilled, no_node, picked_nodes, shuffled, is_among, permuted, leaves}
use Rattle.reordered_tree_laws.specs.Cuts.{gap_in, cut_then, list_then, items_in}

-- ---- Parts of a list of tokens

pub take-front : (xs ys : List ℕ) → take (length xs) (xs ++ ys) ≡ xs
take-front [] ys = refl
take-front (x ∷ xs) ys = ap (λ (zs : List ℕ). x ∷ zs) (take-front xs ys)

pub drop-more : (n k : ℕ) (xs : List ℕ) → drop (n + k) xs ≡ drop k (drop n xs)
drop-more n k xs = sym (drop-drop k n xs)

pub length-leaves : (f : Forest) → length (leaves f) ≡ token_count f
length-leaves none = refl
length-leaves (token i rest) = omega (arith, length-leaves rest)
length-leaves (node l first under rest) = omega (arith, length-append (leaves under) (leaves rest), length-leaves under, length-leaves rest)

-- ---- Children

-- the tokens in front of the next node
abbrev front_tokens : Forest → List ℕ
front_tokens none = []
front_tokens (token i rest) = i ∷ front_tokens rest
front_tokens (node l first under rest) = []

-- the tokens behind each node up to the next one
abbrev gap_tokens : Forest → List (List ℕ)
gap_tokens none = []
gap_tokens (token i rest) = gap_tokens rest
gap_tokens (node l first under rest) = front_tokens rest ∷ gap_tokens rest

abbrev node_leaves : Node → List ℕ
node_leaves n = leaves n.under

leaves-refilled : (g : Forest) (ns : List Node) → length ns ≡ length (nodes_in g)
    → front_tokens g ++ woven (map node_leaves ns) (gap_tokens g) ≡ leaves (refilled ns g)
unfolding woven
leaves-refilled none [] e = refl
leaves-refilled none (n ∷ ns) e = refl
leaves-refilled (token i rest) ns e = ap (λ (xs : List ℕ). i ∷ xs) (leaves-refilled rest ns e)
leaves-refilled (node l first under rest) [] e = absurd (omega (arith, e))
leaves-refilled (node l first under rest) (n ∷ ns) e = ap (λ (xs : List ℕ). leaves n.under ++ xs) (leaves-refilled rest ns (omega (arith, e)))

picked-leaves : (order : List ℕ) (ns : List Node) → picked order (map node_leaves ns) ≡ map node_leaves (picked_nodes order ns)
picked-leaves [] ns = refl
picked-leaves (k ∷ order) ns =
    ap (λ (y : List ℕ). y ∷ picked order (map node_leaves ns)) (listn.get_or-map node_leaves ns (k - 1) no_node)
    ∙ ap (λ (ys : List (List ℕ)). node_leaves (get_or ns (k - 1) no_node) ∷ ys) (picked-leaves order ns)

module _ (order : List ℕ) (lists : ℕ → Bool) where
  front-permuted : (b : Bool) (f : Forest) → front_tokens (permuted order lists b f) ≡ front_tokens f
  front-permuted b none = refl
  front-permuted b (token i rest) = ap (λ (xs : List ℕ). i ∷ xs) (front-permuted b rest)
  front-permuted b (node l first under rest) = refl

  gap-permuted : (b : Bool) (f : Forest) → gap_tokens (permuted order lists b f) ≡ gap_tokens f
  gap-permuted b none = refl
  gap-permuted b (token i rest) = gap-permuted b rest
  gap-permuted b (node l first under rest) =
      ap (λ (xs : List ℕ). xs ∷ gap_tokens (permuted order lists b rest)) (front-permuted b rest)
      ∙ ap (λ (xss : List (List ℕ)). front_tokens rest ∷ xss) (gap-permuted b rest)

  pub count-items : (b : Bool) (f : Forest) → length (nodes_in (permuted order lists b f)) ≡ count_of (items_in lists f)
  unfolding count_of
  count-items b none = refl
  count-items b (token i rest) = count-items b rest
  count-items b (node l first under rest) = omega (arith, count-items b rest)

  -- what follows the tokens in front of the next node
  behind-gap : (f : Forest) (ys : List ℕ) → take (gap_in f) (leaves f ++ ys) ≡ front_tokens f
  behind-gap none ys = refl
  behind-gap (token i rest) ys = by (gap_in rest) (behind-gap rest ys)
    where
      by : (n : ℕ) → take n (leaves rest ++ ys) ≡ front_tokens rest → take (n + 1) (i ∷ (leaves rest ++ ys)) ≡ i ∷ front_tokens rest
      by n e =
          let one : n + 1 ≡ suc n = omega arith in
          ap (λ (k : ℕ). take k (i ∷ (leaves rest ++ ys))) one ∙ ap (λ (xs : List ℕ). i ∷ xs) e
  behind-gap (node l first under rest) ys = refl

  gap-token : (rest : Forest) (i : ℕ) (ys : List ℕ) → drop (gap_in rest + 1) (i ∷ ys) ≡ drop (gap_in rest) ys
  gap-token rest i ys =
      let one : gap_in rest + 1 ≡ suc (gap_in rest) = omega arith in
      ap (λ (k : ℕ). drop k (i ∷ ys)) one

  behind : (under rest : Forest) (xs : List ℕ) (k : ℕ) → drop (token_count under + k) ((leaves under ++ leaves rest) ++ xs) ≡ drop k (leaves rest ++ xs)
  behind under rest xs k =
      drop-more (token_count under) k ((leaves under ++ leaves rest) ++ xs)
      ∙ ap (λ (ys : List ℕ). drop k ys)
      (ap (λ (n : ℕ). drop n ((leaves under ++ leaves rest) ++ xs)) (sym (length-leaves under))
      ∙ (ap (λ (ys : List ℕ). drop (length (leaves under)) ys) (append_assoc (leaves under) (leaves rest) xs) ∙ drop-front (leaves under) (leaves rest ++ xs)))

  pub rest_all : (f : Forest) (c : Cut) → AreOf (length order) (list_then lists f c) → AreOf (length order) c
  rest_all none c all = all
  rest_all (token i rest) c all = rest_all rest c all
  rest_all (node l first under rest) c all = all.2

  pub cut_all : (b : Bool) (f : Forest) (c : Cut) → AreOf (length order) (cut_then lists b f c) → AreOf (length order) c
  cut_all true none c all = all
  cut_all false none c all = all
  cut_all true (token i rest) c all = cut_all true rest c all
  cut_all false (token i rest) c all = cut_all false rest c all
  cut_all true (node l first under rest) c all = cut_all true rest c (rest_all under (cut_then lists true rest c) all)
  cut_all false (node l first under rest) c all = cut_all false rest c (cut_all (is_among lists l under) under (cut_then lists false rest c) all)

  pub items_all : (f : Forest) (c : Cut) → AreOf (length order) (list_then lists f c) → AreItemsOf (length order) (items_in lists f)
  items_all none c all = tt
  items_all (token i rest) c all = items_all rest c all
  items_all (node l first under rest) c all = all.1

  gaps-of : (f : Forest) (xs : List ℕ) → gaps_of (items_in lists f) (drop (gap_in f) (leaves f ++ xs)) ≡ gap_tokens f
  unfolding gaps_of
  gaps-of none xs = refl
  gaps-of (token i rest) xs =
      ap (λ (zs : List ℕ). gaps_of (items_in lists rest) zs) (gap-token rest i (leaves rest ++ xs)) ∙ gaps-of rest xs
  gaps-of (node l first under rest) xs =
      let zs : List ℕ = (leaves under ++ leaves rest) ++ xs in
      let same : token_count under ≡ token_count under + 0 = omega arith in
      let none_more : drop (token_count under) zs ≡ leaves rest ++ xs =
      ap (λ (k : ℕ). drop k zs) same ∙ behind under rest xs 0 in
      ap (λ (ys : List ℕ). take (gap_in rest) ys ∷ gaps_of (items_in lists rest) (drop (token_count under + gap_in rest) zs)) none_more
      ∙ (ap (λ (ys : List ℕ). ys ∷ gaps_of (items_in lists rest) (drop (token_count under + gap_in rest) zs)) (behind-gap rest xs)
      ∙ (ap (λ (ys : List ℕ). front_tokens rest ∷ gaps_of (items_in lists rest) ys) (behind under rest xs (gap_in rest))
      ∙ ap (λ (ys : List (List ℕ)). front_tokens rest ∷ ys) (gaps-of rest xs)))

  span-of : (f : Forest) (xs : List ℕ) → drop (span_of (items_in lists f)) (drop (gap_in f) (leaves f ++ xs)) ≡ xs
  unfolding span_of
  span-of none xs = refl
  span-of (token i rest) xs =
      ap (λ (zs : List ℕ). drop (span_of (items_in lists rest)) zs) (gap-token rest i (leaves rest ++ xs)) ∙ span-of rest xs
  span-of (node l first under rest) xs =
      let zs : List ℕ = (leaves under ++ leaves rest) ++ xs in
      behind under rest xs (gap_in rest + span_of (items_in lists rest))
      ∙ (drop-more (gap_in rest) (span_of (items_in lists rest)) (leaves rest ++ xs) ∙ span-of rest xs)

  -- a list of the tree is a list of the cut
  leaves-list : (f : Forest) (c : Cut) (xs : List ℕ) → AreOf (length order) (list_then lists f c)
      → items_of order (items_in lists f) (drop (gap_in f) (leaves f ++ xs)) ≡ map node_leaves (nodes_in (permuted order lists false f))
      → arranged order (list_then lists f c) (leaves f ++ xs) ≡ leaves (shuffled order (permuted order lists false f)) ++ arranged order c xs
  unfolding arranged gaps_of span_of
  leaves-list none c xs all items = refl
  leaves-list (token i rest) c xs all items =
      ap (λ (ys : List ℕ). i ∷ ys)
      (leaves-list rest c xs all (ap (λ (zs : List ℕ). items_of order (items_in lists rest) zs) (sym (gap-token rest i (leaves rest ++ xs))) ∙ items))
  leaves-list (node l first under rest) c xs all items =
      let f : Forest = node l first under rest in
      let g : Forest = permuted order lists false f in
      let many : length (nodes_in g) ≡ length order = count-items false f ∙ all.0 in
      let ns : List Node = picked_nodes order (nodes_in g) in
      let some : length ns ≡ length (nodes_in g) = length-map order (λ k. get_or (nodes_in g) (k - 1) no_node) ∙ sym many in
      ap (λ (zs : List (List ℕ)). woven (picked order zs) (gaps_of (items_in lists f) (leaves f ++ xs)) ++ arranged order c (drop (span_of (items_in lists f)) (leaves f ++ xs))) items
      ∙ (ap (λ (zs : List (List ℕ)). woven zs (gaps_of (items_in lists f) (leaves f ++ xs)) ++ arranged order c (drop (span_of (items_in lists f)) (leaves f ++ xs))) (picked-leaves order (nodes_in g))
      ∙ (ap (λ (zs : List (List ℕ)). woven (map node_leaves ns) zs ++ arranged order c (drop (span_of (items_in lists f)) (leaves f ++ xs))) (gaps-of f xs ∙ sym (gap-permuted false f))
      ∙ (ap (λ (zs : List ℕ). woven (map node_leaves ns) (gap_tokens g) ++ arranged order c zs) (span-of f xs)
      ∙ ap (λ (zs : List ℕ). zs ++ arranged order c xs) (leaves-refilled g ns some))))

  mutual
    unfolding arranged items_of

    -- the items of a list, each in its new order
    items-of : (f : Forest) (xs : List ℕ) → AreItemsOf (length order) (items_in lists f)
        → items_of order (items_in lists f) (drop (gap_in f) (leaves f ++ xs)) ≡ map node_leaves (nodes_in (permuted order lists false f))
    items-of none xs all = refl
    items-of (token i rest) xs all =
        ap (λ (zs : List ℕ). items_of order (items_in lists rest) zs) (gap-token rest i (leaves rest ++ xs)) ∙ items-of rest xs all
    items-of (node l first under rest) xs all =
        let b : Bool = is_among lists l under in
        let zs : List ℕ = (leaves under ++ leaves rest) ++ xs in
        let cut : Cut = cut_then lists b under done in
        let here : take (token_count under) zs ≡ leaves under =
        ap (λ (k : ℕ). take k zs) (sym (length-leaves under)) ∙ ap (λ (ys : List ℕ). take (length (leaves under)) ys) (append_assoc (leaves under) (leaves rest) xs) ∙ take-front (leaves under) (leaves rest ++ xs) in
        let inner : arranged order cut (leaves under) ≡ leaves (permuted order lists b under) =
        ap (λ (ys : List ℕ). arranged order cut ys) (sym (append-nil (leaves under))) ∙ leaves-cut b under done [] all.0 ∙ append-nil (leaves (permuted order lists b under)) in
        let more : drop (token_count under + gap_in rest) zs ≡ drop (gap_in rest) (leaves rest ++ xs) =
        behind under rest xs (gap_in rest) in
        ap (λ (ys : List ℕ). arranged order cut ys ∷ items_of order (items_in lists rest) (drop (token_count under + gap_in rest) zs)) here
        ∙ (ap (λ (ys : List ℕ). ys ∷ items_of order (items_in lists rest) (drop (token_count under + gap_in rest) zs)) inner
        ∙ (ap (λ (ys : List ℕ). leaves (permuted order lists b under) ∷ items_of order (items_in lists rest) ys) more
        ∙ ap (λ (ys : List (List ℕ)). leaves (permuted order lists b under) ∷ ys) (items-of rest xs all.1)))

    pub leaves-cut : (b : Bool) (f : Forest) (c : Cut) (xs : List ℕ) → AreOf (length order) (cut_then lists b f c)
        → arranged order (cut_then lists b f c) (leaves f ++ xs) ≡ leaves (permuted order lists b f) ++ arranged order c xs
    leaves-cut true none c xs all = refl
    leaves-cut false none c xs all = refl
    leaves-cut true (token i rest) c xs all = ap (λ (ys : List ℕ). i ∷ ys) (leaves-cut true rest c xs all)
    leaves-cut false (token i rest) c xs all = ap (λ (ys : List ℕ). i ∷ ys) (leaves-cut false rest c xs all)
    leaves-cut true (node l first under rest) c xs all =
        let after : Cut = cut_then lists true rest c in
        let new : List ℕ = leaves (shuffled order (permuted order lists false under)) in
        ap (λ (ys : List ℕ). arranged order (list_then lists under after) ys) (append_assoc (leaves under) (leaves rest) xs)
        ∙ (leaves-list under after (leaves rest ++ xs) all (items-of under (leaves rest ++ xs) (items_all under after all))
        ∙ (ap (λ (ys : List ℕ). new ++ ys) (leaves-cut true rest c xs (rest_all under after all))
        ∙ sym (append_assoc new (leaves (permuted order lists true rest)) (arranged order c xs))))
    leaves-cut false (node l first under rest) c xs all =
        let b : Bool = is_among lists l under in
        let after : Cut = cut_then lists false rest c in
        let new : List ℕ = leaves (permuted order lists b under) in
        ap (λ (ys : List ℕ). arranged order (cut_then lists b under after) ys) (append_assoc (leaves under) (leaves rest) xs)
        ∙ (leaves-cut b under after (leaves rest ++ xs) all
        ∙ (ap (λ (ys : List ℕ). new ++ ys) (leaves-cut false rest c xs (cut_all b under after all))
        ∙ sym (append_assoc new (leaves (permuted order lists false rest)) (arranged order c xs))))
