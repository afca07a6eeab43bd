-- What is believed of a diff.
use Rattle.std.specs.Prelude.{ℕ, ◌≡◌, List, Some}
use Rattle.line_diff.specs.Hunks.{hunks_of}
use Rattle.line_diff.specs.Applied.{applied}

-- For all texts: the hunks between the old text and the new one, applied to the old one, give the new one.
abbrev pub HunksMakeTheNewText : Type 0
HunksMakeTheNewText = (old new : List ℕ) → applied (hunks_of old new) old ≡ Some new
