-- Reading on behind a line.
use Rattle.std.proofs.Common.{◌≡◌, ℕ, ◌+◌, List, [], ◌∷◌, length, refl}
use Rattle.std.specs.Prelude.{Option, None, Some, Ok, Err, IfSome}
use Rattle.ws_file.specs.Workspace.{workspace}
use Rattle.ws_file.specs.Reading.{Reading, WsFault, with_line, checked, read_lines}

-- a line is taken
pub read_lines-taken : (number start : ℕ) (line : List ℕ) (lines : List (List ℕ)) (r next : Reading)
    → checked number (with_line start line r) ≡ Ok next
    → read_lines number start (line ∷ lines) r ≡ read_lines (number + 1) (start + length line + 1) lines next
unfolding read_lines
read_lines-taken number start line lines r next h = rw (h, read_lines) refl

-- a line is refused
pub read_lines-refused : (number start : ℕ) (line : List ℕ) (lines : List (List ℕ)) (r : Reading) (fault : WsFault)
    → checked number (with_line start line r) ≡ Err fault → read_lines number start (line ∷ lines) r ≡ Err fault
unfolding read_lines
read_lines-refused number start line lines r fault h = rw (h, read_lines) refl

-- no line is left
pub read_lines-end : (number start : ℕ) (r : Reading) → read_lines number start [] r ≡ Ok (workspace r.units r.readonly)
unfolding read_lines
read_lines-end number start r = refl

-- what a refusal says, if it names a fault
pub IfSome-weaker : (fault : Option WsFault) (P Q : WsFault → Type 0) → ((f : WsFault) → P f → Q f) → IfSome fault P → IfSome fault Q
IfSome-weaker None P Q step h = h
IfSome-weaker (Some f) P Q step h = step f h
