-- What is so of each token of a tree, where it stands, is so in a new order of lists and with new numbers.
use Rattle.std.proofs.Common.{ℕ, zero, suc, ◌+◌, ◌<◌, ◌≡◌, Bool, true, false, ◌||◌, List, [], ◌∷◌, ◌++◌, length, get_or, refl, sym, ap, subst, ◌∙◌, arith}
use Rattle.std.proofs.lemmas.List.{length-append, get_or_default}
use Rattle.c99_tree.specs.Tree.{Forest, none, token, node, Node}
use Rattle.c99_tree.specs.declared.production.Label.{Label}
use Rattle.c99_tree.specs.declared.production.Production.TheVariants.{Main}
use Rattle.c_types.specs.Trees.{is_at}
use Rattle.tree_laws.specs.TreesOfTexts.{token_count, AreFrom}
use Rattle.reordered_tree_laws.specs.Reordered.{nodes_in, refilled, no_node, picked_nodes, shuffled, is_among, permuted, leaves, numbered}
use Rattle.reordered_tree_laws.proofs.Arranged.{length-leaves}
use Rattle.reordered_text_laws.specs.Fronted.{strays, dirty}

-- ---- Tokens and where they stand

-- the token stands below a label, so many children before it
abbrev pub AllAt : (Label → ℕ → ℕ → Type 0) → Label → ℕ → Forest → Type 0
AllAt P l k none = Unit {0}
AllAt P l k (token i rest) = P l k i × AllAt P l (k + 1) rest
AllAt P l k (node m first under rest) = AllAt P m 0 under × AllAt P l (k + 1) rest

pub all_map : (P Q : Label → ℕ → ℕ → Type 0) → ((l : Label) (k i : ℕ) → P l k i → Q l k i) → (f : Forest) (l : Label) (k : ℕ) → AllAt P l k f → AllAt Q l k f
all_map P Q so none l k h = tt
all_map P Q so (token i rest) l k h = (so l k i h.0, all_map P Q so rest l (k + 1) h.1)
all_map P Q so (node m first under rest) l k h = (all_map P Q so under m 0 h.0, all_map P Q so rest l (k + 1) h.1)

pub all_both : (P Q : Label → ℕ → ℕ → Type 0) (f : Forest) (l : Label) (k : ℕ) → AllAt P l k f → AllAt Q l k f → AllAt (λ m j i. P m j i × Q m j i) l k f
all_both P Q none l k h g = tt
all_both P Q (token i rest) l k h g = ((h.0, g.0), all_both P Q rest l (k + 1) h.1 g.1)
all_both P Q (node m first under rest) l k h g = (all_both P Q under m 0 h.0 g.0, all_both P Q rest l (k + 1) h.1 g.1)

-- ---- In a new order

module _ (P : Label → ℕ → ℕ → Type 0) where
  abbrev NodesAt : List Node → Type 0
  NodesAt [] = Unit {0}
  NodesAt (n ∷ ns) = AllAt P n.label 0 n.under × NodesAt ns

  nodes_at : (f : Forest) (l : Label) (k : ℕ) → AllAt P l k f → NodesAt (nodes_in f)
  nodes_at none l k h = tt
  nodes_at (token i rest) l k h = nodes_at rest l (k + 1) h.1
  nodes_at (node m first under rest) l k h = (h.0, nodes_at rest l (k + 1) h.1)

  refilled_at : (ns : List Node) (f : Forest) (l : Label) (k : ℕ) → NodesAt ns → AllAt P l k f → AllAt P l k (refilled ns f)
  refilled_at ns none l k g h = tt
  refilled_at ns (token i rest) l k g h = (h.0, refilled_at ns rest l (k + 1) g h.1)
  refilled_at [] (node m first under rest) l k g h = h
  refilled_at (n ∷ ns) (node m first under rest) l k g h = (g.0, refilled_at ns rest l (k + 1) g.1 h.1)

  got_at : (ns : List Node) (j : ℕ) → NodesAt ns → AllAt P (get_or ns j no_node).label 0 (get_or ns j no_node).under
  got_at [] j g = tt
  got_at (n ∷ ns) zero g = g.0
  got_at (n ∷ ns) (suc j) g = got_at ns j g.1

  picked_at : (order : List ℕ) (ns : List Node) → NodesAt ns → NodesAt (picked_nodes order ns)
  picked_at [] ns g = tt
  picked_at (o ∷ order) ns g = (got_at ns _ g, picked_at order ns g)

  shuffled_at : (order : List ℕ) (f : Forest) (l : Label) (k : ℕ) → AllAt P l k f → AllAt P l k (shuffled order f)
  shuffled_at order f l k h = refilled_at (picked_nodes order (nodes_in f)) f l k (picked_at order (nodes_in f) (nodes_at f l k h)) h

  pub permuted_at : (order : List ℕ) (lists : ℕ → Bool) (listed : Bool) (f : Forest) (l : Label) (k : ℕ) → AllAt P l k f → AllAt P l k (permuted order lists listed f)
  permuted_at order lists listed none l k h = tt
  permuted_at order lists listed (token i rest) l k h = (h.0, permuted_at order lists listed rest l (k + 1) h.1)
  permuted_at order lists true (node m first under rest) l k h =
      (shuffled_at order (permuted order lists false under) m 0 (permuted_at order lists false under m 0 h.0), permuted_at order lists true rest l (k + 1) h.1)
  permuted_at order lists false (node m first under rest) l k h =
      (permuted_at order lists (is_among lists m under) under m 0 h.0, permuted_at order lists false rest l (k + 1) h.1)

-- ---- Places

-- from one number on these are the values, one after another
abbrev pub Placed : {X : Type 0} → (ℕ → X) → ℕ → List X → Type 0
Placed m j [] = Unit {0}
Placed m j (x ∷ xs) = (m j ≡ x) × Placed m (j + 1) xs

placed_by : {X : Type 0} (m : ℕ → X) (j : ℕ) (xs : List X) → ((k : ℕ) → k < length xs → m (j + k) ≡ get_or xs k (m (j + k))) → Placed m j xs
placed_by m j [] e = tt
placed_by m j (x ∷ xs) e = (
  ap m (let same : j ≡ j + 0 = omega arith in same) ∙ e 0 (omega arith),
  placed_by m (j + 1) xs
      (λ k lt. (let same : (j + 1) + k ≡ j + suc k = omega arith in
      subst (λ n. m n ≡ get_or xs k (m n)) (sym same) (e (suc k) (omega (arith, lt))))),
)

-- the elements of a list by their numbers
pub placed_all : {X : Type 0} (xs : List X) (d : ℕ → X) → Placed (λ i. get_or xs i (d i)) 0 xs
placed_all xs d =
    placed_by (λ i. get_or xs i (d i)) 0 xs (λ k lt. (let same : 0 + k ≡ k = omega arith in
    subst (λ n. get_or xs n (d n) ≡ get_or xs k (get_or xs n (d n))) (sym same) (get_or_default xs k (d k) (get_or xs k (d k)) lt)))

placed_more : {X : Type 0} (m : ℕ → X) (j : ℕ) (xs ys : List X) → Placed m j (xs ++ ys) → Placed m j xs × Placed m (j + length xs) ys
placed_more m j [] ys h = (tt, subst (λ n. Placed m n ys) (let same : j ≡ j + 0 = omega arith in same) h)
placed_more m j (x ∷ xs) ys h =
    let more = placed_more m (j + 1) xs ys h.1 in
    ((h.0, more.0), subst (λ n. Placed m n ys) (let same : (j + 1) + length xs ≡ j + suc (length xs) = omega arith in same) more.1)

-- with new numbers, where token `m i` has become token i
pub numbered_at : (P Q : Label → ℕ → ℕ → Type 0) (m : ℕ → ℕ) → ((l : Label) (k i : ℕ) → P l k (m i) → Q l k i)
    → (f : Forest) (l : Label) (k j : ℕ) → Placed m j (leaves f) → AllAt P l k f → AllAt Q l k (numbered j f)
numbered_at P Q m so none l k j e h = tt
numbered_at P Q m so (token i rest) l k j e h = (so l k j (subst (P l k) (sym e.0) h.0), numbered_at P Q m so rest l (k + 1) (j + 1) e.1 h.1)
numbered_at P Q m so (node n first under rest) l k j e h =
    let more = placed_more m j (leaves under) (leaves rest) e in (
      numbered_at P Q m so under n 0 j more.0 h.0,
      numbered_at P Q m so rest l (k + 1) (j + token_count under) (subst (λ c. Placed m (j + c) (leaves rest)) (length-leaves under) more.1) h.1,
    )

-- ---- Tokens in order

pub all_within : (n : ℕ) (f : Forest) (l : Label) (k j : ℕ) → AreFrom j f → j + token_count f < suc n → AllAt (λ m h i. i < n) l k f
all_within n none l k j from lt = tt
all_within n (token i rest) l k j from lt = (let at : i ≡ j = from.0 in omega (arith, at, lt), all_within n rest l (k + 1) (j + 1) from.1 (omega (arith, lt)))
all_within n (node m first under rest) l k j from lt = (
  all_within n under m 0 j from.1 (omega (arith, lt)),
  all_within n rest l (k + 1) (j + token_count under) from.2 (omega (arith, lt)),
)

-- ---- The first tokens of type names

-- whether each token stands there, where a typedef name does (ISO/IEC 9899:1999, 6.7.2)
abbrev pub marks : Label → Forest → List Bool
marks l none = []
marks l (token i rest) = is_at l Main 4 ∷ marks l rest
marks l (node m first under rest) = marks m under ++ marks l rest

length-marks : (l : Label) (f : Forest) → length (marks l f) ≡ token_count f
length-marks l none = refl
length-marks l (token i rest) = (let e : length (marks l rest) ≡ token_count rest = length-marks l rest in omega (arith, e))
length-marks l (node m first under rest) =
    length-append (marks m under) (marks l rest)
    ∙ (let a : length (marks m under) ≡ token_count under = length-marks m under in let b : length (marks l rest) ≡ token_count rest = length-marks l rest in omega (arith, a, b))

abbrev pub Told : (ℕ → Bool) → Label → ℕ → ℕ → Type 0
Told q l k i = q i ≡ is_at l Main 4

pub told_from : (q : ℕ → Bool) (f : Forest) (l : Label) (k j : ℕ) → AreFrom j f → Placed q j (marks l f) → AllAt (Told q) l k f
told_from q none l k j from e = tt
told_from q (token i rest) l k j from e = (subst (λ n. q n ≡ is_at l Main 4) (sym from.0) e.0, told_from q rest l (k + 1) (j + 1) from.1 e.1)
told_from q (node m first under rest) l k j from e =
    let more = placed_more q j (marks m under) (marks l rest) e in (
      told_from q under m 0 j from.1 more.0,
      told_from q rest l (k + 1) (j + token_count under) from.2 (subst (λ c. Placed q (j + c) (marks l rest)) (length-marks m under) more.1),
    )

-- ---- Tokens that stray

pub none_dirty : (some : ℕ → Bool) (f : Forest) (l : Label) (k : ℕ) → AllAt (λ m h i. strays some m i ≡ false) l k f → dirty some l f ≡ false
none_dirty some none l k h = refl
none_dirty some (token i rest) l k h = ap (λ b. b || dirty some l rest) h.0 ∙ none_dirty some rest l (k + 1) h.1
none_dirty some (node m first under rest) l k h = ap (λ b. b || dirty some l rest) (none_dirty some under m 0 h.0) ∙ none_dirty some rest l (k + 1) h.1
