-- What may differ of the first element of an item once it stands elsewhere (this project's, over the cuts of `list_cuts`).
use Rattle.std.specs.Prelude.{◌≡◌, ◌+◌, ◌<◌, Bool, true, false, List, [], ◌∷◌, ◌++◌, take, drop}
use Rattle.list_cuts.specs.Cuts.{Cut, done, keep, list, Items, ended, item, span_of}

-- the first element of a list, changed
abbrev pub head_with : {X : Type 0} → (X → X) → List X → List X
head_with h [] = []
head_with h (x ∷ xs) = h x ∷ xs

unfoldable mutual
  -- elements with a label of the first element of each item taken away by h, in lists inside items too
  pub masked : {X : Type 0} → (X → X) → Cut → List X → List X
  masked h done xs = xs
  masked h (keep n c) xs = take n xs ++ masked h c (drop n xs)
  masked h (list is c) xs = masked_items h is xs ++ masked h c (drop (span_of is) xs)

  pub masked_items : {X : Type 0} → (X → X) → Items → List X → List X
  masked_items h ended xs = []
  masked_items h (item n c gap more) xs =
      head_with h (masked h c (take n xs)) ++ (take gap (drop n xs) ++ masked_items h more (drop (n + gap) xs))

-- a list begins a cut
abbrev pub IsListed : Cut → Type 0
IsListed done = ⊥
IsListed (keep n c) = ⊥
IsListed (list is c) = Unit {0}

-- none does
abbrev pub IsLed : Cut → Type 0
IsLed done = Unit {0}
IsLed (keep n c) = 0 < n
IsLed (list is c) = ⊥

abbrev pub starts : {X : Type 0} → (X → Bool) → List X → Bool
starts p [] = false
starts p (x ∷ xs) = p x

abbrev mutual
  -- the first element of each item passes a test
  pub Firsts : {X : Type 0} → (X → Bool) → Cut → List X → Type 0
  Firsts p done xs = Unit {0}
  Firsts p (keep n c) xs = Firsts p c (drop n xs)
  Firsts p (list is c) xs = FirstsOfItems p is xs × Firsts p c (drop (span_of is) xs)

  pub FirstsOfItems : {X : Type 0} → (X → Bool) → Items → List X → Type 0
  FirstsOfItems p ended xs = Unit {0}
  FirstsOfItems p (item n c gap more) xs =
      (starts p (take n xs) ≡ true) × IsLed c × Firsts p c (take n xs) × FirstsOfItems p more (drop (n + gap) xs)
