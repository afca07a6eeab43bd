-- Bytes whose parts may stand elsewhere (this project's, over ISO/IEC 9899:1999, 5.1.1.2 phase 2): no new-line that goes
-- begins in one part and ends in another.
use Rattle.std.specs.Prelude.{◌≡◌, ℕ, zero, suc, ◌+◌, ◌-◌, ◌<◌, ◌≤◌, ◌==◌, ◌&&◌, not, if◌then◌else◌, Bool, true, List, [], ◌∷◌, take, drop}
use Rattle.lexer.specs.Characters.{line_feed, carriage_return, backslash}
use Rattle.lexer.specs.Logical.{gone_length}
use Rattle.list_cuts.specs.Cuts.{Cut, done, keep, list, Items, ended, item, count_of, span_of, extent_of}
use Rattle.arranged_text_laws.specs.Labels.{starts, IsListed, IsLed}
use Rattle.arranged_text_laws.specs.Joining.{is_seam}

-- For each byte the character that it is, and nothing where it goes; the first `skip` go.
unfoldable pub kept : ℕ → List ℕ → List (List ℕ)
kept skip [] = []
kept (suc skip) (c ∷ cs) = [] ∷ kept skip cs
kept zero (c ∷ cs) = if gone_length c cs == 0 then (c ∷ []) ∷ kept 0 cs else [] ∷ kept (gone_length c cs - 1) cs

-- a byte that is a character whatever stands behind it, and that ends no new-line
abbrev pub is_plain : ℕ → Bool
is_plain c = not (c == line_feed) && (not (c == carriage_return) && not (c == backslash))

-- the last of these is one, if there is one
abbrev pub ends_plain : List ℕ → Bool
ends_plain [] = true
ends_plain (c ∷ []) = is_plain c
ends_plain (c ∷ d ∷ cs) = ends_plain (d ∷ cs)

abbrev pub is_some_byte : ℕ → Bool
is_some_byte c = true

-- something stands behind a list before the next one
abbrev pub HasBytes : Cut → List ℕ → Type 0
HasBytes done xs = Unit {0}
HasBytes (keep n c) xs = starts is_some_byte (take n xs) ≡ true
HasBytes (list is c) xs = ⊥

-- something stands behind an item before the next one, and nothing behind the last
abbrev pub GapSeams : ℕ → Items → List ℕ → Type 0
GapSeams gap ended xs = gap ≡ 0
GapSeams gap (item n c further more) xs = (starts is_some_byte (take gap xs) ≡ true) × (is_seam 0 (take gap xs) [] ≡ true)

abbrev mutual
  -- So it is with each part of a text that a cut leaves whole: an item begins and ends with a plain byte.
  pub SeamsAlong : Cut → List ℕ → Type 0
  SeamsAlong done xs = (is_seam 0 xs [] ≡ true) × (ends_plain xs ≡ true)
  SeamsAlong (keep n c) xs = IsListed c × (is_seam 0 (take n xs) [] ≡ true) × SeamsAlong c (drop n xs)
  SeamsAlong (list is c) xs =
      (0 < count_of is) × ItemsSeams is xs × HasBytes c (drop (span_of is) xs) × SeamsAlong c (drop (span_of is) xs)

  pub ItemsSeams : Items → List ℕ → Type 0
  ItemsSeams ended xs = Unit {0}
  ItemsSeams (item n c gap more) xs =
      IsLed c × (starts is_plain (take n xs) ≡ true) × (extent_of c ≤ n) × SeamsAlong c (take n xs)
      × GapSeams gap more (drop n xs) × ItemsSeams more (drop (n + gap) xs)
