-- The items of a list by the numbers of an order: each is one of them, and no two of them are the same one.
use Rattle.std.proofs.Common.{ℕ, zero, suc, ◌+◌, ◌-◌, ◌<◌, ◌≤◌, ◌≡◌, Bool, true, false, ◌&&◌, ◌==◌, List, [], ◌∷◌, length, map, get_or, inl, inr, refl, sym, ap, subst, ◌∙◌, arith}
use Rattle.std.specs.List.{All, list_all}
use Rattle.std.specs.Option.{option_map_or}
use Rattle.std.proofs.lemmas.Bool.{false≢true, cases_Bool, cases_lt, and_parts, eqb-false}
use Rattle.std.proofs.lemmas.List.{length-map}
use Rattle.std.proofs.lemmas.List.Elements.{All-nil, All-cons, All-head, All-tail, All-weaker}
use Rattle.std.proofs.lemmas.List.Sorted.{All-permutation}
use Rattle.cs_base.specs.Token.{Token}
use Rattle.c99_tree.specs.Tree.{Forest, none, token, node, Node, node_of}
use Rattle.c_types.specs.Declarations.{Facts}
use Rattle.scope_bind.specs.Named.{Frame}
use Rattle.tree_laws.specs.TreesOfTexts.{token_count}
use Rattle.list_cuts.specs.Cuts.{numbers, IsOrder}
use Rattle.reordered_tree_laws.specs.Reordered.{nodes_in, refilled, picked_nodes, no_node, shuffled}
use Rattle.reordered_tree_laws.specs.Premises.{declared_name, is_unasked_in, are_two_apart, are_apart}
use Rattle.reordered_tree_laws.proofs.MovedPlaces.{bit, hits}
use Rattle.reordered_tree_laws.specs.Siblings.{Gain, ItemsGain}
use Rattle.reordered_tree_laws.proofs.Stacks.{order_hits, numbers_once, numbered_all}
use Rattle.reordered_tree_laws.proofs.TwoOrders.{Each}
use Rattle.reordered_tree_laws.proofs.Spots.{Spot, spot_node, spots}
use Rattle.reordered_tree_laws.proofs.OldItems.{no_spot, spot_at, moved_node, node_of_spot}
use Rattle.reordered_tree_laws.proofs.NewPlaces.{Fits, placed_items}
use Rattle.reordered_tree_laws.proofs.NewItems.{EachSpot}
use Rattle.reordered_tree_laws.proofs.NewForms.{AllTwoApart}

-- ---- Lists

all_mapped : (P : Spot → Type 0) (f : ℕ → Spot) (ks : List ℕ) → All (λ (k : ℕ). P (f k)) ks → All P (map f ks)
all_mapped P f [] h = All-nil P
all_mapped P f (k ∷ ks) h =
    All-cons P (f k) (map f ks) (All-head (λ (x : ℕ). P (f x)) k ks h) (all_mapped P f ks (All-tail (λ (x : ℕ). P (f x)) k ks h))

mapped_all : (P : Spot → Type 0) (f : ℕ → Spot) (ks : List ℕ) → All P (map f ks) → All (λ (k : ℕ). P (f k)) ks
mapped_all P f [] h = All-nil (λ (k : ℕ). P (f k))
mapped_all P f (k ∷ ks) h =
    All-cons (λ (x : ℕ). P (f x)) k ks (All-head P (f k) (map f ks) h) (mapped_all P f ks (All-tail P (f k) (map f ks) h))

numbers_between : (n from : ℕ) → All (λ (k : ℕ). (from ≤ k) × (k < from + n)) (numbers from n)
unfolding numbers
numbers_between zero from = All-nil (λ (k : ℕ). (from ≤ k) × (k < from + 0))
numbers_between (suc n) from =
    All-cons (λ (k : ℕ). (from ≤ k) × (k < from + suc n)) from (numbers (from + 1) n) (omega arith, omega arith)
    (All-weaker (λ (k : ℕ). (from + 1 ≤ k) × (k < from + 1 + n)) (λ (k : ℕ). (from ≤ k) × (k < from + suc n)) (λ k h. (omega (arith, h.0), omega (arith, h.1)))
    (numbers (from + 1) n) (numbers_between n (from + 1)))

-- a number that is not hit is none of them
none_hit : (x : ℕ) (ks : List ℕ) → hits x ks ≡ 0 → All (λ (k : ℕ). (k == x) ≡ false) ks
none_hit x [] e = All-nil (λ (k : ℕ). (k == x) ≡ false)
none_hit x (k ∷ ks) e = elim (cases_Bool (k == x)) [
  | inl same ↦ absurd (omega (arith, e, ap bit same))
  | inr other ↦ All-cons (λ (j : ℕ). (j == x) ≡ false) k ks other (none_hit x ks (omega (arith, e, ap bit other)))
]

-- ---- Items that ask for nothing of each other

module _ (toks : List Token) where
  and_turned : (a b : Bool) → (a && b) ≡ true → (b && a) ≡ true
  and_turned true true e = refl
  and_turned true false e = e
  and_turned false b e = absurd (false≢true e)

  two_turned : (n k : Node) → are_two_apart toks n k ≡ true → are_two_apart toks k n ≡ true
  two_turned n k e = and_turned (option_map_or (is_unasked_in toks k) (declared_name n) true) (option_map_or (is_unasked_in toks n) (declared_name k) true) e

  all_at : (p : Node → Bool) (ps : List Spot) (j : ℕ) → list_all p (map spot_node ps) ≡ true → j < length ps → p (spot_node (get_or ps j no_spot)) ≡ true
  all_at p [] j e short = absurd (omega (arith, short))
  all_at p (q ∷ qs) zero e short = (and_parts (p (spot_node q)) (list_all p (map spot_node qs)) e).0
  all_at p (q ∷ qs) (suc j) e short = all_at p qs j ((and_parts (p (spot_node q)) (list_all p (map spot_node qs)) e).1) (omega (arith, short))

  two_at : (ps : List Spot) (i j : ℕ) → are_apart toks (map spot_node ps) ≡ true → i < j → j < length ps
      → are_two_apart toks (spot_node (get_or ps i no_spot)) (spot_node (get_or ps j no_spot)) ≡ true
  two_at [] i j e less short = absurd (omega (arith, short))
  two_at (p ∷ ps) zero zero e less short = absurd (omega (arith, less))
  two_at (p ∷ ps) zero (suc j) e less short =
      all_at (are_two_apart toks (spot_node p)) ps j ((and_parts (list_all (are_two_apart toks (spot_node p)) (map spot_node ps)) (are_apart toks (map spot_node ps)) e).0)
      (omega (arith, short))
  two_at (p ∷ ps) (suc i) zero e less short = absurd (omega (arith, less))
  two_at (p ∷ ps) (suc i) (suc j) e less short =
      two_at ps i j ((and_parts (list_all (are_two_apart toks (spot_node p)) (map spot_node ps)) (are_apart toks (map spot_node ps)) e).1) (omega (arith, less))
      (omega (arith, short))

-- ---- By the numbers of an order

module _ (ps : List Spot) (order : List ℕ) (is : IsOrder (length ps) order) where
  abbrev pub picked : List Spot
  picked = map (spot_at ps) order

  pub picked_all : (P : Spot → Type 0) → All P ps → All P picked
  picked_all P h =
      all_mapped P (spot_at ps) order
      (All-permutation (λ (k : ℕ). P (spot_at ps k)) (numbers 1 (length ps)) order is
      (mapped_all P (spot_at ps) (numbers 1 (length ps)) (subst (λ (l : List Spot). All P l) (sym (numbered_all no_spot ps)) h)))

  fits_all : (h : Forest) (qs : List Spot) → length (nodes_in h) ≡ length qs → Fits h qs
  fits_all none [] e = tt
  fits_all none (q ∷ qs) e = absurd (omega (arith, e))
  fits_all (token i rest) qs e = fits_all rest qs e
  fits_all (node l first under rest) [] e = absurd (omega (arith, e))
  fits_all (node l first under rest) (q ∷ qs) e = fits_all rest qs (omega (arith, e))

  pub picked_fits : (h : Forest) → length (nodes_in h) ≡ length order → Fits h picked
  picked_fits h e = fits_all h picked (e ∙ sym (length-map order (spot_at ps)))

  nodes_picked : (lists : ℕ → Bool) (ks : List ℕ)
      → map (λ (k : ℕ). get_or (map (moved_node order lists) ps) (k - 1) no_node) ks ≡ map (moved_node order lists) (map (spot_at ps) ks)
  nodes_picked lists [] = refl
  nodes_picked lists (k ∷ ks) =
      ap (λ (n : Node). n ∷ map (λ (j : ℕ). get_or (map (moved_node order lists) ps) (j - 1) no_node) ks) (node_of_spot order lists ps k)
      ∙ ap (λ (ns : List Node). moved_node order lists (spot_at ps k) ∷ ns) (nodes_picked lists ks)

  pub picked_placed : (lists : ℕ → Bool) (h : Forest) → nodes_in h ≡ map (moved_node order lists) ps → shuffled order h ≡ placed_items order lists h picked
  picked_placed lists h e =
      ap (λ (ns : List Node). refilled ns h) (ap (λ (ns : List Node). picked_nodes order ns) e ∙ nodes_picked lists order)

  -- numbers of items, each once
  apart_of : (toks : List Token) → are_apart toks (map spot_node ps) ≡ true → (ks : List ℕ) → ((x : ℕ) → hits x ks ≤ 1)
      → All (λ (k : ℕ). (1 ≤ k) × (k < 1 + length ps)) ks → AllTwoApart toks (map (spot_at ps) ks)
  apart_of toks e [] once range = tt
  apart_of toks e (k ∷ ks) once range =
      let R : ℕ → Type 0 = λ (j : ℕ). (1 ≤ j) × (j < 1 + length ps) in
      let A : Spot → Type 0 = λ (r : Spot). are_two_apart toks (spot_node (spot_at ps k)) (spot_node r) ≡ true in
      let here : R k = All-head R k ks range in
      let rest : All R ks = All-tail R k ks range in
      let others : All (λ (j : ℕ). (j == k) ≡ false) ks = none_hit k ks (omega (arith, once k, ap bit (itself k))) in (
        all_mapped A (spot_at ps) ks (both ks rest others (λ j r o. two k j here r o)),
        apart_of toks e ks (λ x. fewer x (once x)) rest,
      )
    where
      itself : (j : ℕ) → (j == j) ≡ true
      itself j = elim (cases_Bool (j == j)) [
        | inl h ↦ h
        | inr h ↦ absurd (eqb-false j j h refl)
      ]

      fewer : (x : ℕ) → hits x (k ∷ ks) ≤ 1 → hits x ks ≤ 1
      fewer x h = omega (arith, h)

      both : (js : List ℕ) → All (λ (j : ℕ). (1 ≤ j) × (j < 1 + length ps)) js → All (λ (j : ℕ). (j == k) ≡ false) js
          → ((j : ℕ) → (1 ≤ j) × (j < 1 + length ps) → (j == k) ≡ false → are_two_apart toks (spot_node (spot_at ps k)) (spot_node (spot_at ps j)) ≡ true)
          → All (λ (j : ℕ). are_two_apart toks (spot_node (spot_at ps k)) (spot_node (spot_at ps j)) ≡ true) js
      both [] r o f = All-nil (λ (j : ℕ). are_two_apart toks (spot_node (spot_at ps k)) (spot_node (spot_at ps j)) ≡ true)
      both (j ∷ js) r o f =
          All-cons (λ (x : ℕ). are_two_apart toks (spot_node (spot_at ps k)) (spot_node (spot_at ps x)) ≡ true) j js
          (f j (All-head (λ (x : ℕ). (1 ≤ x) × (x < 1 + length ps)) j js r) (All-head (λ (x : ℕ). (x == k) ≡ false) j js o))
          (both js (All-tail (λ (x : ℕ). (1 ≤ x) × (x < 1 + length ps)) j js r) (All-tail (λ (x : ℕ). (x == k) ≡ false) j js o) f)

      two : (i j : ℕ) → (1 ≤ i) × (i < 1 + length ps) → (1 ≤ j) × (j < 1 + length ps) → (j == i) ≡ false
          → are_two_apart toks (spot_node (spot_at ps i)) (spot_node (spot_at ps j)) ≡ true
      two i j a c other = elim (cases_lt i j) [
        | inl less ↦ two_at toks ps (i - 1) (j - 1) e (omega (arith, less, a.0)) (omega (arith, c.0, c.1))
        | inr more ↦
            two_turned toks (spot_node (spot_at ps j)) (spot_node (spot_at ps i))
            (two_at toks ps (j - 1) (i - 1) e (omega (arith, more, c.0, eqb-false j i other)) (omega (arith, a.0, a.1)))
      ]

  pub picked_apart : (toks : List Token) → are_apart toks (map spot_node ps) ≡ true → AllTwoApart toks picked
  picked_apart toks e =
      apart_of toks e order (λ x. few x)
      (All-permutation (λ (k : ℕ). (1 ≤ k) × (k < 1 + length ps)) (numbers 1 (length ps)) order is (numbers_between (length ps) 1))
    where
      few : (x : ℕ) → hits x order ≤ 1
      few x = omega (arith, order_hits (length ps) order x is, numbers_once (length ps) x)

  pub each_picked : (R : Spot → Gain → Type 0) (ks : List ℕ) (bs : List Gain) → EachSpot R (map (spot_at ps) ks) bs → Each (λ k b. R (spot_at ps k) b) ks bs
  each_picked R [] [] h = tt
  each_picked R [] (b ∷ bs) h = absurd h
  each_picked R (k ∷ ks) [] h = absurd h
  each_picked R (k ∷ ks) (b ∷ bs) h = (h.0, each_picked R ks bs h.1)

-- the nodes of a list are those of its items
pub nodes_spots : (toks : List Token) (f g : Facts) (u : Forest) (at : ℕ) (fr : Frame) (gs : List Gain) → ItemsGain toks f g fr at u gs
    → nodes_in u ≡ map spot_node (spots u at fr gs)
nodes_spots toks f g none at fr [] h = refl
nodes_spots toks f g none at fr (b ∷ gs) h = absurd h
nodes_spots toks f g (token i rest) at fr gs h = nodes_spots toks f g rest (at + 1) (record fr { nth = fr.nth + 1; token = i }) gs h
nodes_spots toks f g (node x first under rest) at fr [] h = absurd h
nodes_spots toks f g (node x first under rest) at fr (b ∷ gs) h =
    ap (λ (ns : List Node). node_of x first under ∷ ns) (nodes_spots toks f g rest (at + token_count under) (record fr { nth = fr.nth + 1 }) gs h.1)
