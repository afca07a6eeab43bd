-- What a patch makes of a text: it looks for the lines of each hunk where the hunk says, and refuses all where they are not
-- there. It knows nothing of the texts that the hunks come from.
use Rattle.std.specs.Prelude.{ℕ, ◌+◌, ◌-◌, ◌==◌, ◌&&◌, nat_le, if◌then◌else◌, Bool, true, false, Option, None, Some, List, [], ◌∷◌, ◌++◌, take, drop, length}
use Rattle.std.specs.Option.{option_map}
use Rattle.std.specs.Str.{bytes_eq}
use Rattle.line_diff.specs.Lines.{lines_of, text_of}
use Rattle.line_diff.specs.Hunks.{Hunk, old_lines, new_lines}

-- the lines begin with these
unfoldable pub begin_with : List (List ℕ) → List (List ℕ) → Bool
begin_with [] lines = true
begin_with (first ∷ more) [] = false
begin_with (first ∷ more) (line ∷ lines) = bytes_eq first line && begin_with more lines

-- A hunk fits lines before which so many of the old text stand, and so many that the new text has already: it begins at one of
-- them or behind them all, the lines up to it make its place in the new text, and those that it keeps or loses are there.
abbrev pub fits : ℕ → ℕ → Hunk → List (List ℕ) → Bool
fits old_at new_at h lines =
    nat_le old_at h.old_before && nat_le (h.old_before - old_at) (length lines)
    && (new_at + (h.old_before - old_at)) == h.new_before && begin_with (old_lines h.entries) (drop (h.old_before - old_at) lines)

-- what hunks make of these lines, if each fits: lines between hunks stay
unfoldable pub lines_applied : ℕ → ℕ → List Hunk → List (List ℕ) → Option (List (List ℕ))
lines_applied old_at new_at [] lines = Some lines
lines_applied old_at new_at (h ∷ hunks) lines =
    if fits old_at new_at h lines
    then option_map (λ made. take (h.old_before - old_at) lines ++ (new_lines h.entries ++ made))
    (lines_applied (h.old_before + length (old_lines h.entries)) (h.new_before + length (new_lines h.entries)) hunks
    (drop (h.old_before - old_at + length (old_lines h.entries)) lines))
    else None

-- What hunks make of a text.
abbrev pub applied : List Hunk → List ℕ → Option (List ℕ)
applied hunks old = option_map text_of (lines_applied 0 0 hunks (lines_of old))
