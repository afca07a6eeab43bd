-- The line of one edit more.
use Rattle.std.proofs.Common.{◌≡◌, ℕ, zero, suc, ◌+◌, ◌<◌, List, [], ◌∷◌, ◌++◌, length, drop, refl, arith, add-one}
use Rattle.std.specs.Prelude.{IfSome, slice_get}
use Rattle.cs_base.specs.Edit.{Edit, edit}
use Rattle.command_words.specs.Message.{edited_line, edited_lines}

edited_lines-suc : (edits : List Edit) (k : ℕ) (path : List ℕ) (count : ℕ) → k < length edits
    → IfSome (slice_get edits k) (λ e. path ≡ e.path) → IfSome (slice_get edits k) (λ e. count ≡ e.count)
    → edited_line (edit path [] count) ++ edited_lines (drop (suc k) edits) ≡ edited_lines (drop k edits)
edited_lines-suc [] k path count within p n = absurd (omega arith)
edited_lines-suc (e ∷ es) zero path count within p n = rw (p, n) refl
edited_lines-suc (e ∷ es) (suc k) path count within p n =
    let within' : k < length es = omega arith in
    edited_lines-suc es k path count within' p n

-- the lines from an edit on are its line and those after it
pub edited_lines-drop : (edits : List Edit) (k : ℕ) (path : List ℕ) (count : ℕ) → k < length edits
    → IfSome (slice_get edits k) (λ e. path ≡ e.path) → IfSome (slice_get edits k) (λ e. count ≡ e.count)
    → edited_line (edit path [] count) ++ edited_lines (drop (k + 1) edits) ≡ edited_lines (drop k edits)
edited_lines-drop edits k path count within p n = rw add-one (edited_lines-suc edits k path count within p n)
