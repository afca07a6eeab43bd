-- Cuts by the marks of their lists (this project's): a list stands behind a mark, as `(`, a mark stands behind each of its
-- items, as a comma or `)`, and between lists are no marks.
use Rattle.std.specs.Prelude.{ℕ, suc, ◌+◌, ◌-◌, ◌<◌, ◌≤◌, ◌≡◌, ◌⊎◌, List, [], ◌∷◌, ◌++◌}
use Rattle.list_cuts.specs.declared.spans.Span.{Span}
use Rattle.list_cuts.specs.Cuts.{Cut, done, keep, list, Items, ended, item, count_of, span_of}

-- ---- the marks of a list

-- the marks behind the items, the first of which begins at an element
unfoldable pub ends_of : ℕ → Items → List ℕ
ends_of at ended = []
ends_of at (item n c gap more) = (at + n) ∷ ends_of (at + (n + gap)) more

unfoldable mutual
  -- The marks of each list of a cut that begins at an element, in the order in which the lists begin: the mark in front,
  -- and those behind the items.
  pub marks_of : ℕ → Cut → List (List ℕ)
  marks_of at done = []
  marks_of at (keep k c) = marks_of (at + k) c
  marks_of at (list is c) = ((at - 1) ∷ ends_of at is) ∷ (marks_in at is ++ marks_of (at + span_of is) c)

  -- those of the lists inside items
  pub marks_in : ℕ → Items → List (List ℕ)
  marks_in at ended = []
  marks_in at (item n c gap more) = marks_of at c ++ marks_in (at + (n + gap)) more

-- the first of some marks, and the last
abbrev pub first_of : List ℕ → ℕ
first_of [] = 0
first_of (m ∷ ms) = m

abbrev pub last_after : ℕ → List ℕ → ℕ
last_after m [] = m
last_after m (k ∷ ms) = last_after k ms

abbrev pub last_of : List ℕ → ℕ
last_of [] = 0
last_of (m ∷ ms) = last_after m ms

-- ---- cuts with marks

-- a mark stands between two items, and nothing else; nothing stands behind the last one
abbrev pub EndsWith : ℕ → Items → Type 0
EndsWith gap ended = gap ≡ 0
EndsWith gap (item n c further more) = gap ≡ 1

abbrev mutual
  -- A cut that begins at an element: each list has a mark in front of it, that stands at `from` or behind it, and its last
  -- mark stands before `limit`; so it is with the lists inside its items, and with those behind its last mark.
  pub IsMarked : ℕ → ℕ → ℕ → Cut → Type 0
  IsMarked from at limit done = Unit {0}
  IsMarked from at limit (keep (suc k) (list is c)) =
      (from ≤ at + k) × (0 < count_of is) × AreMarked (at + suc k) is × (at + suc k + span_of is < limit)
      × IsMarked (at + suc k + span_of is + 1) (at + suc k + span_of is) limit c
  IsMarked from at limit _ = ⊥

  pub AreMarked : ℕ → Items → Type 0
  AreMarked at ended = Unit {0}
  AreMarked at (item n c gap more) = IsMarked at at (at + n) c × EndsWith gap more × AreMarked (at + (n + gap)) more

abbrev mutual
  -- the same of a cut in which elements that stay may be told one by one
  pub HasMarks : ℕ → ℕ → ℕ → Cut → Type 0
  HasMarks from at limit done = Unit {0}
  HasMarks from at limit (keep k c) = HasMarks from (at + k) limit c
  HasMarks from at limit (list is c) =
      (from < at) × (0 < count_of is) × ItemsHaveMarks at is × (at + span_of is < limit) × HasMarks (at + span_of is + 1) (at + span_of is) limit c

  pub ItemsHaveMarks : ℕ → Items → Type 0
  ItemsHaveMarks at ended = Unit {0}
  ItemsHaveMarks at (item n c gap more) = HasMarks at at (at + n) c × EndsWith gap more × ItemsHaveMarks (at + (n + gap)) more

-- ---- marks that are given

-- this is so of each
abbrev pub Each : {X : Type 0} → (X → Type 0) → List X → Type 0
Each P [] = Unit {0}
Each P (x ∷ xs) = P x × Each P xs

-- the marks stand one behind the other, from an element on
abbrev pub StandFrom : ℕ → List ℕ → Type 0
StandFrom from [] = Unit {0}
StandFrom from (m ∷ ms) = (from ≤ m) × StandFrom (m + 1) ms

-- there is one in front and one behind an item at least, before `limit`
abbrev pub AreOfList : ℕ → List ℕ → Type 0
AreOfList limit [] = ⊥
AreOfList limit (m ∷ []) = ⊥
AreOfList limit (m ∷ k ∷ ms) = StandFrom 0 (m ∷ k ∷ ms) × (last_after k ms < limit)

-- other marks stand all between two of these that follow each other, or all behind the last one
abbrev pub StandBy : List ℕ → List ℕ → Type 0
StandBy [] other = ⊥
StandBy (m ∷ []) other = m < first_of other
StandBy (m ∷ k ∷ ms) other = ((m < first_of other) × (last_of other < k)) ⊎ StandBy (k ∷ ms) other

-- so it is with all that come later
abbrev pub AreNested : List (List ℕ) → Type 0
AreNested [] = Unit {0}
AreNested (l ∷ ls) = Each (StandBy l) ls × AreNested ls

-- the items between marks
abbrev pub spans_by : List ℕ → List Span
spans_by (m ∷ k ∷ ms) = record { begin = m + 1; end = k } ∷ spans_by (k ∷ ms)
spans_by _ = []

-- ---- cuts in which elements that stay are told together

unfoldable mutual
  -- so many elements stay in front
  pub tidied : ℕ → Cut → Cut
  tidied n done = done
  tidied n (keep k c) = tidied (n + k) c
  tidied n (list is c) = keep n (list (tidied_items is) (tidied 0 c))

  pub tidied_items : Items → Items
  tidied_items ended = ended
  tidied_items (item n c gap more) = item n (tidied 0 c) gap (tidied_items more)
