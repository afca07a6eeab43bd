-- Lists in the bytes of a file (this project's): where their items stand, and the bytes once these change places.
use Rattle.std.specs.Prelude.{ℕ, ◌-◌, ◌==◌, ◌&&◌, nat_le, if◌then◌else◌, Bool, List, [], ◌∷◌, ◌++◌, take, drop, map, length}
use Rattle.list_cuts.specs.declared.spans.Span.{Span}
use Rattle.list_cuts.specs.Cuts.{picked, woven}

-- the elements from where an item begins to before where it ends
abbrev pub text_of : {X : Type 0} → List X → Span → List X
text_of xs s = take (s.end - s.begin) (drop s.begin xs)

-- what stands behind each item up to the next one; nothing belongs to the list behind the last
unfoldable pub between : {X : Type 0} → List X → List Span → List (List X)
between xs (s ∷ t ∷ more) = take (t.begin - s.end) (drop s.end xs) ∷ between xs (t ∷ more)
between xs (s ∷ []) = [] ∷ []
between xs [] = []

-- where the last item ends
unfoldable pub end_of : Span → List Span → ℕ
end_of s [] = s.end
end_of s (t ∷ more) = end_of t more

-- the items stand one behind the other, from an element on, in a text of so many
unfoldable pub stand_in_order : ℕ → ℕ → List Span → Bool
stand_in_order from size [] = nat_le from size
stand_in_order from size (s ∷ more) = nat_le from s.begin && (nat_le s.begin s.end && stand_in_order s.end size more)

-- the order is one for the list, and its items stand one behind the other in a text of so many elements
abbrev pub fits : List ℕ → List Span → ℕ → Bool
fits order l size = (length l == length order) && stand_in_order 0 size l

-- the items of a list, which fits, in the new order
unfoldable pub reordered : {X : Type 0} → List ℕ → List Span → List X → List X
reordered order [] xs = xs
reordered order (s ∷ more) xs =
    take s.begin xs ++ (woven (picked order (map (text_of xs) (s ∷ more))) (between xs (s ∷ more)) ++ drop (end_of s more) xs)

-- A list that fits has its items in the new order, and all else stays; where one does not, nothing changes.
abbrev pub rearranged : {X : Type 0} → List ℕ → List Span → List X → List X
rearranged order l xs = if fits order l (length xs) then reordered order l xs else xs

-- All lists, which stand in the order of their parentheses: the last one first, so that a list inside an item of
-- another one has changed before that item moves.
unfoldable pub all_rearranged : {X : Type 0} → List ℕ → List (List Span) → List X → List X
all_rearranged order [] xs = xs
all_rearranged order (l ∷ lists) xs = rearranged order l (all_rearranged order lists xs)
