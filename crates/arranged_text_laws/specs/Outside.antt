-- What stands outside of lists (this project's, over the cuts of `list_cuts`).
use Rattle.std.specs.Prelude.{◌≡◌, List, take, drop}
use Rattle.list_cuts.specs.Cuts.{Cut, done, keep, list, span_of}

-- Outside of all lists the elements are the same.
abbrev pub SameOutside : {X : Type 0} → Cut → List X → List X → Type 0
SameOutside done xs ys = xs ≡ ys
SameOutside (keep n c) xs ys = (take n xs ≡ take n ys) × SameOutside c (drop n xs) (drop n ys)
SameOutside (list is c) xs ys = SameOutside c (drop (span_of is) xs) (drop (span_of is) ys)
