-- The lines that the program writes.
use Rattle.std.specs.Prelude.{ℕ, List, [], ◌∷◌, ◌++◌, codes, decimal, flat_map}
use Rattle.cs_base.specs.Edit.{Edit}
use Rattle.cs_base.specs.Words.{words_of}
use Rattle.cs_base.specs.declared.causes.Cause.{Cause}
use Rattle.cs_base.specs.declared.positions.Place.{Place}

-- pieces of text, one behind the other
abbrev pub joined : List (List ℕ) → List ℕ
joined pieces = flat_map (λ piece. piece) pieces

-- one line of a message, of these pieces
unfoldable pub message : List (List ℕ) → List ℕ
message pieces = codes "cscout: " ++ joined pieces ++ codes "\n"

-- a place and what stands there: `PATH:LINE:COL: WORDS`
abbrev pub place_pieces : List ℕ → List ℕ → List ℕ → List ℕ → List (List ℕ)
place_pieces path line column words = path ∷ codes ":" ∷ line ∷ codes ":" ∷ column ∷ codes ": " ∷ words ∷ []

-- the pieces of what stands at a place
abbrev pub fault_pieces : Place → Cause → List (List ℕ)
fault_pieces place cause = place_pieces place.path (decimal place.line) (decimal place.column) (words_of cause)

-- the pieces of a unit's fault and of a refusal
abbrev pub unit_pieces : List ℕ → List (List ℕ) → List (List ℕ)
unit_pieces unit pieces = codes "unit " ∷ unit ∷ codes ": " ∷ pieces

abbrev pub refused_pieces : List (List ℕ) → List (List ℕ)
refused_pieces pieces = codes "refused: " ∷ pieces

-- the words are of no form
abbrev pub usage_line : List ℕ
usage_line = message (codes "bad command line" ∷ [])

-- the workspace file is not there
abbrev pub absent_line : List ℕ → List ℕ
absent_line ws = message (codes "no workspace file " ∷ ws ∷ [])

-- a line of the workspace file that is refused
abbrev pub ws_line : List ℕ → ℕ → List ℕ → List ℕ
ws_line ws line words = message (ws ∷ codes ":" ∷ decimal line ∷ codes ": " ∷ words ∷ [])

-- a unit's fault
abbrev pub unit_line : ℕ → Place → Cause → List ℕ
unit_line unit place cause = message (unit_pieces (decimal unit) (fault_pieces place cause))

-- a refusal without a place
abbrev pub refused_line : List ℕ → List ℕ
refused_line words = message (refused_pieces (words ∷ []))

-- a refusal of a query, at a byte of it
abbrev pub query_line : List ℕ → ℕ → List ℕ
query_line words at = message (refused_pieces (words ∷ codes " at " ∷ decimal at ∷ []))

-- a batch file that has a bad line of this number, from 1, or is not there: then it is 0
abbrev pub batch_line : ℕ → List ℕ
batch_line line = message (refused_pieces (codes "bad batch line " ∷ decimal line ∷ []))

-- a refusal with a place
abbrev pub offence_line : Place → Cause → List ℕ
offence_line place cause = message (refused_pieces (fault_pieces place cause))

-- the size of a generated workspace: its units, their tokens, and the members of the class that was renamed
abbrev pub size_line : ℕ → ℕ → ℕ → List ℕ
size_line units tokens members =
    codes "units " ++ decimal units ++ codes " tokens " ++ decimal tokens ++ codes " members " ++ decimal members ++ codes "\n"

-- a read or a put that failed
abbrev pub unread_line : List ℕ → List ℕ
unread_line path = message (codes "cannot read " ∷ path ∷ [])

abbrev pub unwritten_line : List ℕ → List ℕ
unwritten_line path = message (codes "cannot write " ∷ path ∷ [])

-- the write to the output failed
abbrev pub no_output_line : List ℕ
no_output_line = message (codes "cannot write output" ∷ [])

-- memory ran out
abbrev pub memory_line : List ℕ
memory_line = message (codes "out of memory" ∷ [])

-- one line for a file that was put
abbrev pub edited_line : Edit → List ℕ
edited_line e = codes "edited " ++ e.path ++ codes " " ++ decimal e.count ++ codes "\n"

-- one line for each file that was put
abbrev pub edited_lines : List Edit → List ℕ
edited_lines edits = flat_map edited_line edits
