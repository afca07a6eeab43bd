-- Reading on behind a line.
use Rattle.std.proofs.Common.{◌≡◌, ℕ, ◌+◌, List, [], ◌∷◌, length, refl}
use Rattle.std.specs.Prelude.{Option, None, Some, Ok, Err, IfSome}
use Rattle.batch_run.specs.Line.{LineValue}
use Rattle.batch_run.specs.Reading.{line_at, taken_with, read_lines}

-- a line is taken
pub read_lines-taken : (size number start : ℕ) (line : List ℕ) (lines : List (List ℕ)) (taken now : List LineValue)
    → taken_with number taken (line_at size start line) ≡ Ok now
    → read_lines size number start (line ∷ lines) taken ≡ read_lines size (number + 1) (start + length line + 1) lines now
unfolding read_lines
read_lines-taken size number start line lines taken now h = rw (h, read_lines) refl

-- a line is bad
pub read_lines-bad : (size number start : ℕ) (line : List ℕ) (lines : List (List ℕ)) (taken : List LineValue) (bad : ℕ)
    → taken_with number taken (line_at size start line) ≡ Err bad → read_lines size number start (line ∷ lines) taken ≡ Err bad
unfolding read_lines
read_lines-bad size number start line lines taken bad h = rw (h, read_lines) refl

-- no line is left
pub read_lines-end : (size number start : ℕ) (taken : List LineValue) → read_lines size number start [] taken ≡ Ok taken
unfolding read_lines
read_lines-end size number start taken = refl

-- what a refusal says, if it names a line
pub IfSome-weaker : (bad : Option ℕ) (P Q : ℕ → Type 0) → ((n : ℕ) → P n → Q n) → IfSome bad P → IfSome bad Q
IfSome-weaker None P Q step h = h
IfSome-weaker (Some n) P Q step h = step n h
