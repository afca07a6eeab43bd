-- Declarations that have a key, and how those with one key are found, the latest first.
use Rattle.std.specs.Prelude.{ℕ, ◌+◌, ◌<◌, ◌≤◌, ◌≡◌, Bool, true, List, [], ◌∷◌, length, take, reverse, get_or, slice_get, slice_set, Some, ◌==◌, if◌then◌else◌}
use Rattle.c_types.specs.declared.declarations.Declaration.{Declaration}

-- For each declaration one more than the place of the one before it that has its key, or 0; for each key one more
-- than the place of its latest declaration, or 0.
pub record Links : Type 0 where
  pub before : List ℕ
  pub newest : List ℕ

abbrev pub no_links : Links
no_links = record { before = []; newest = [] }

-- declaration number count, which has the key, is linked to the one before it
abbrev pub with_link : ℕ → ℕ → Links → Links
with_link count key links = record {
  before = slice_set links.before count (get_or links.newest key 0);
  newest = slice_set links.newest key (count + 1);
}

-- no place is told otherwise
pub record TellsSame (old new : Links) : Type 0 where
  pub before : (k : ℕ) → get_or new.before k 0 ≡ get_or old.before k 0
  pub newest : (n : ℕ) → get_or new.newest n 0 ≡ get_or old.newest n 0

-- there is room for the link
pub record HasRoom (links : Links) (count key : ℕ) : Type 0 where
  pub before : count < length links.before
  pub newest : key < length links.newest

-- the declaration has the key
abbrev pub has_key : (Declaration → ℕ) → ℕ → Declaration → Bool
has_key key_of n d = n == key_of d

-- Of declarations, the latest first: one more than how many stand before the latest that passes, or 0.
abbrev pub latest_place : (Declaration → Bool) → List Declaration → ℕ
latest_place test [] = 0
latest_place test (d ∷ ds) = if test d then length ds + 1 else latest_place test ds

-- the links are those of the declarations, of which the first one stands first
pub record AreChained (key_of : Declaration → ℕ) (declared : List Declaration) (links : Links) : Type 0 where
  pub begins : (n : ℕ) → get_or links.newest n 0 ≡ latest_place (has_key key_of n) (reverse declared)
  pub leads : (k : ℕ) (d : Declaration) → slice_get declared k ≡ Some d
      → get_or links.before k 0 ≡ latest_place (has_key key_of (key_of d)) (reverse (take k declared))

-- the same of the declarations that pass
pub record AreLinked (test : Declaration → Bool) (declared : List Declaration) (before : List ℕ) (newest : ℕ) : Type 0 where
  pub begins : newest ≡ latest_place test (reverse declared)
  pub leads : (k : ℕ) (d : Declaration) → slice_get declared k ≡ Some d → test d ≡ true
      → get_or before k 0 ≡ latest_place test (reverse (take k declared))

-- A way through those that pass has come down to the place, and what is asked of the rest is what is asked of
-- the latest ones.
pub record IsLeft {T : Type 0} (test : Declaration → Bool) (asked : List Declaration → T) (declared latest : List Declaration) (place : ℕ) : Type 0 where
  pub within : place ≤ length declared
  pub again : latest_place test (reverse (take place declared)) ≡ place
  pub rest : asked (reverse (take place declared)) ≡ asked latest
