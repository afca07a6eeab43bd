-- Walks as links from member to member, and labels written part by part.
use Rattle.std.specs.Prelude.{ℕ, ◌+◌, List, [], ◌∷◌, zero, suc, slice_index, slice_set}
use Rattle.class_labels.specs.declared.spots.Spot.{Spot}
use Rattle.class_labels.specs.Labels.{spot}

-- so many characters from x on, each the next of the one before; the last one's link is not read
abbrev pub members : ℕ → List ℕ → ℕ → List ℕ
members zero nexts x = []
members (suc n) nexts x = x ∷ members n nexts (slice_index nexts x)

-- the last of a list
abbrev pub last_of : List ℕ → ℕ
last_of [] = 0
last_of (x ∷ []) = x
last_of (x ∷ y ∷ ys) = last_of (y ∷ ys)

-- the labels once so many characters from x on are a part of the class
unfoldable pub with_part : ℕ → ℕ → ℕ → List Spot → List Spot
with_part class zero x spots = spots
with_part class (suc n) x spots = slice_set (with_part class n x spots) (x + n) (spot class n)

-- the same for each of a list of characters, `shift` characters further on
unfoldable pub with_parts : ℕ → ℕ → ℕ → List ℕ → List Spot → List Spot
with_parts class shift len [] spots = spots
with_parts class shift len (x ∷ xs) spots = with_parts class shift len xs (with_part class len (x + shift) spots)

-- the links once each of a list of characters but the last, `shift` further on, leads to the next, `shift` further on
unfoldable pub with_links : ℕ → List ℕ → List ℕ → List ℕ
with_links shift [] nexts = nexts
with_links shift (x ∷ []) nexts = nexts
with_links shift (x ∷ y ∷ ys) nexts = with_links shift (y ∷ ys) (slice_set nexts (x + shift) (y + shift))
