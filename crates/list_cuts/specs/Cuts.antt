-- Lists whose items change places (this project's). A cut tells where lists and their items stand, whatever the
-- elements are: bytes of a file, tokens, or their numbers. So one rule orders all of them alike.
use Rattle.std.specs.Prelude.{ℕ, zero, suc, ◌+◌, ◌-◌, ◌==◌, ◌≡◌, List, [], ◌∷◌, ◌++◌, take, drop, map, position, unwrap_or, slice_index_or, IsPermutation}

mutual
  -- What is done with some elements: all that are left stay; so many stay, and then more is done; or a list begins.
  pub data Cut : Type 0 where
    done : Cut
    keep : ℕ → Cut → Cut
    list : Items → Cut → Cut

  -- The items of a list: none is left; or one of so many elements, which has a cut of its own, and how many elements
  -- stand between it and the next one.
  pub data Items : Type 0 where
    ended : Items
    item : ℕ → Cut → ℕ → Items → Items

-- how many items there are
unfoldable pub count_of : Items → ℕ
count_of ended = 0
count_of (item n c gap more) = count_of more + 1

-- how many elements a list takes, from its first item to behind its last
unfoldable pub span_of : Items → ℕ
span_of ended = 0
span_of (item n c gap more) = n + (gap + span_of more)

-- how many elements a cut speaks of
unfoldable pub extent_of : Cut → ℕ
extent_of done = 0
extent_of (keep n c) = n + extent_of c
extent_of (list is c) = span_of is + extent_of c

-- ---- orders

-- the numbers from one on, so many
unfoldable pub numbers : ℕ → ℕ → List ℕ
numbers from zero = []
numbers from (suc n) = from ∷ numbers (from + 1) n

-- each number from 1 to n stands in the order once
abbrev pub IsOrder : ℕ → List ℕ → Type 0
IsOrder n order = IsPermutation (numbers 1 n) order

-- the item with a number; they count from 1
abbrev pub item_at : {X : Type 0} → List (List X) → ℕ → List X
item_at items k = slice_index_or items (k - 1) []

-- item `order[k]` at place k
abbrev pub picked : {X : Type 0} → List ℕ → List (List X) → List (List X)
picked order items = map (item_at items) order

-- ---- elements in the new order

-- items and what stands behind each, in turn
unfoldable pub woven : {X : Type 0} → List (List X) → List (List X) → List X
woven (i ∷ items) (g ∷ gaps) = i ++ (g ++ woven items gaps)
woven _ _ = []

-- what stands behind each item up to the next one
unfoldable pub gaps_of : {X : Type 0} → Items → List X → List (List X)
gaps_of ended xs = []
gaps_of (item n c gap more) xs = take gap (drop n xs) ∷ gaps_of more (drop (n + gap) xs)

unfoldable mutual
  -- The elements in the new order: item `order[k]` of each list stands at the place of item k, arranged by its own
  -- cut; what stands between items, before lists and behind them stays.
  pub arranged : {X : Type 0} → List ℕ → Cut → List X → List X
  arranged order done xs = xs
  arranged order (keep n c) xs = take n xs ++ arranged order c (drop n xs)
  arranged order (list is c) xs = woven (picked order (items_of order is xs)) (gaps_of is xs) ++ arranged order c (drop (span_of is) xs)

  -- the items of a list, each arranged by its own cut
  pub items_of : {X : Type 0} → List ℕ → Items → List X → List (List X)
  items_of order ended xs = []
  items_of order (item n c gap more) xs = arranged order c (take n xs) ∷ items_of order more (drop (n + gap) xs)

-- the place to which element i goes, of so many
abbrev pub moved : List ℕ → Cut → ℕ → ℕ → ℕ
moved order c n i = unwrap_or (position (λ k. k == i) (arranged order c (numbers 0 n))) i

abbrev mutual
  -- every list has so many items
  pub AreOf : ℕ → Cut → Type 0
  AreOf n done = Unit {0}
  AreOf n (keep k c) = AreOf n c
  AreOf n (list is c) = (count_of is ≡ n) × AreItemsOf n is × AreOf n c

  -- so has every list inside these items
  pub AreItemsOf : ℕ → Items → Type 0
  AreItemsOf n ended = Unit {0}
  AreItemsOf n (item k c gap more) = AreOf n c × AreItemsOf n more
