-- Elements each of which brings something, by a state and by what stands behind; and parts of them that bring the same
-- wherever they stand.
use Rattle.std.specs.Prelude.{◌≡◌, ℕ, ◌+◌, ◌<◌, ◌≤◌, Bool, true, List, [], ◌∷◌, ◌++◌, length, take, drop}
use Rattle.list_cuts.specs.Cuts.{Cut, done, keep, list, Items, ended, item, count_of, span_of, extent_of}
use Rattle.arranged_text_laws.specs.Labels.{head_with, starts, IsListed, IsLed}

-- What elements bring from a state on, the state behind an item, what a state says of the first of an item, and with which
-- elements what stands behind an item begins, and an item; and what is true of what an item brings first.
pub record Flow (X Y S : Type 0) : Type 0 where
  pub run : S → List X → List Y
  pub rest : S
  pub label : S → Y → Y
  pub behind_item : X → Bool
  pub begins_item : X → Bool
  pub one : Y → Bool

abbrev pub starts_or_none : {X : Type 0} → (X → Bool) → List X → Bool
starts_or_none p [] = true
starts_or_none p (x ∷ xs) = p x

-- From a state these bring that, one for each, and leave a state, whatever stands behind that begins so.
pub record Goes {X Y S : Type 0} (f : Flow X Y S) (p : X → Bool) (st : S) (xs : List X) (ys : List Y) (end : S) : Type 0 where
  pub long : length ys ≡ length xs
  pub goes : (more : List X) → starts p more ≡ true → f.run st (xs ++ more) ≡ ys ++ f.run end more

-- A state says no more than its label of what these bring, whatever stands behind that begins so.
abbrev pub Relabels : {X Y S : Type 0} → Flow X Y S → (X → Bool) → List X → Type 0
Relabels {X} {Y} {S} f p xs = (st : S) (more : List X) → starts p more ≡ true → f.run st (xs ++ more) ≡ head_with (f.label st) (f.run f.rest (xs ++ more))

-- what they bring first is as it should be, whatever stands behind that begins so
abbrev pub BringsOne : {X Y S : Type 0} → Flow X Y S → (X → Bool) → List X → Type 0
BringsOne {X} {Y} {S} f p xs = (more : List X) → starts p more ≡ true → starts f.one (f.run f.rest (xs ++ more)) ≡ true

-- the first part of an item can be labelled, and something may stand behind it
abbrev pub Loose : {X Y S : Type 0} → Flow X Y S → Cut → List X → Type 0
Loose {X} {Y} {S} f done xs = Relabels f f.behind_item xs × BringsOne f f.behind_item xs × ((more : List X) × (starts f.behind_item more ≡ true))
Loose f (keep n c) xs = Relabels f f.begins_item (take n xs) × BringsOne f f.begins_item (take n xs)
Loose f (list is c) xs = ⊥

-- what stands behind a list, in its text and beyond it
abbrev pub HasEnd : {X Y S : Type 0} → Flow X Y S → Cut → List X → Type 0
HasEnd f done xs = starts_or_none f.behind_item xs ≡ true
HasEnd f (keep n c) xs = starts f.behind_item (take n xs) ≡ true
HasEnd f (list is c) xs = ⊥

-- what stands behind an item up to the next one; nothing does behind the last
abbrev pub GapFlows : {X Y S : Type 0} → Flow X Y S → ℕ → Items → List X → Type 0
GapFlows f gap ended xs = gap ≡ 0
GapFlows {X} {Y} {S} f gap (item n c further more) xs =
    (starts f.behind_item (take gap xs) ≡ true) × ((ys : List Y) × (mid : S) × Goes f f.begins_item f.rest (take gap xs) ys mid)

abbrev mutual
  -- So it is with each part of a text that a cut leaves whole.
  pub Flows : {X Y S : Type 0} → Flow X Y S → S → Cut → List X → S → Type 0
  Flows {X} {Y} {S} f st done xs end = (ys : List Y) × Goes f f.behind_item st xs ys end
  Flows {X} {Y} {S} f st (keep n c) xs end =
      IsListed c × ((ys : List Y) × (mid : S) × Goes f f.begins_item st (take n xs) ys mid × Flows f mid c (drop n xs) end)
  Flows {X} {Y} {S} f st (list is c) xs end =
      (0 < count_of is) × ItemsFlow f is xs × HasEnd f c (drop (span_of is) xs) × Flows f f.rest c (drop (span_of is) xs) end

  pub ItemsFlow : {X Y S : Type 0} → Flow X Y S → Items → List X → Type 0
  ItemsFlow f ended xs = Unit {0}
  ItemsFlow f (item n c gap more) xs =
      (starts f.begins_item (take n xs) ≡ true) × IsLed c × Loose f c (take n xs) × (extent_of c ≤ n) × Flows f f.rest c (take n xs) f.rest
      × GapFlows f gap more (drop n xs) × ItemsFlow f more (drop (n + gap) xs)
