-- What is true of elements in a new order, whatever they are: laws that callers' proofs cite.
use Rattle.std.specs.Prelude.{ℕ, ◌≡◌, ◌≤◌, true, List, ◌++◌, map, length, IsPermutation}
use Rattle.std.specs.List.{list_all}
use Rattle.list_cuts.specs.declared.spans.Span.{Span}
use Rattle.list_cuts.specs.Cuts.{Cut, extent_of, IsOrder, arranged, AreOf}
use Rattle.list_cuts.specs.Spans.{fits, all_rearranged}
use Rattle.list_cuts.specs.CutOf.{cut_of, are_nested}

-- Each element is still there, as often as it was, and there are no others.
abbrev pub ElementsMove : Type 0 → Type 0
ElementsMove X = (n : ℕ) (order : List ℕ) (c : Cut) (xs : List X) → IsOrder n order → AreOf n c → IsPermutation xs (arranged order c xs)

-- What follows the elements that a cut speaks of stays where it is.
abbrev pub FollowersStay : Type 0 → Type 0
FollowersStay X = (order : List ℕ) (c : Cut) (xs ys : List X) → extent_of c ≤ length xs → arranged order c (xs ++ ys) ≡ arranged order c xs ++ ys

-- What each element becomes goes along with it.
abbrev pub ImagesMove : Type 0 → Type 0 → Type 0
ImagesMove X Y = (f : X → Y) (order : List ℕ) (c : Cut) (xs : List X) → arranged order c (map f xs) ≡ map f (arranged order c xs)

-- Lists that fit a text, each inside an item of one before it or behind its last item, change places one after the other
-- as the cut of them all says.
abbrev pub ListsAreCuts : Type 0 → Type 0
ListsAreCuts X = (order : List ℕ) (lists : List (List Span)) (xs : List X) → IsOrder (length order) order
    → list_all (λ l. fits order l (length xs)) lists ≡ true → are_nested lists ≡ true
    → all_rearranged order lists xs ≡ arranged order (cut_of lists) xs
