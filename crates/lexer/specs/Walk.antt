-- How the code walks over logical characters: by the bytes that are left.
use Rattle.std.specs.Prelude.{◌≡◌, ◌≤◌, ℕ, ◌+◌, ◌-◌, List, ◌∷◌, length, drop}
use Rattle.lexer.specs.Logical.{logical_from, spelling, gone_length}

-- the logical text of these bytes, without offsets
unfoldable pub spelled : List ℕ → List ℕ
spelled bytes = spelling (logical_from 0 0 bytes)

-- Behind n logical characters of these bytes those are left.
pub record Passes (n : ℕ) (bytes left : List ℕ) : Type 0 where
  pub within : length left ≤ length bytes
  pub suffix : drop (length bytes - length left) bytes ≡ left
  pub same : (at : ℕ) → drop n (logical_from 0 at bytes) ≡ logical_from 0 (at + (length bytes - length left)) left

-- A logical character begins these bytes: this byte, with those behind it.
pub record IsFirst (here : List ℕ) (c : ℕ) (after : List ℕ) : Type 0 where
  pub whole : here ≡ c ∷ after
  pub stays : gone_length c after ≡ 0
