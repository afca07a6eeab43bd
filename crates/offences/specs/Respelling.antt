-- The renaming that spells the members of a class otherwise (this project's): the new spelling and the new origins of the tokens
-- that hold them, and where positions move to.
use Rattle.std.specs.Prelude.{ℕ, Option, Some, None, List, [], ◌∷◌, ◌++◌, length}
use Rattle.std.specs.Option.{option_map_or}
use Rattle.cs_base.specs.declared.positions.Part.{Part}
use Rattle.cs_base.specs.declared.positions.Pos.{Pos}
use Rattle.analysis.specs.Below.lexer.Places.{pos, origins_from}
use Rattle.analysis.specs.Below.source_files.KeptFiles.{KeptValue, kept_at}
use Rattle.part_respell.specs.Respelled.{put_at, put_for, moved_to}
use Rattle.analysis.specs.Analysis.{AnalysisValue}
use Rattle.analysis.specs.Changed.{Renaming}

-- what stands for characters with these origins: for the first character of each member the new name, and nothing for its others;
-- a character without an origin stays
unfoldable pub spell_from : List Part → List ℕ → List (Option Pos) → List ℕ → List ℕ
spell_from members name [] text = text
spell_from members name (origin ∷ origins) [] = []
spell_from members name (origin ∷ origins) (c ∷ text) = put_for members name origin c ++ spell_from members name origins text

-- where a position of a file moves; what stands in no kept file stays
abbrev pub moved_in : List Part → List ℕ → Pos → KeptValue → Pos
moved_in members name p f = pos p.file (moved_to members name p.file f.bytes p.at)

abbrev pub move_to : AnalysisValue → List Part → List ℕ → Pos → Pos
move_to a members name p = option_map_or (moved_in members name p) (kept_at a.table p.file) p

-- the origins of what stands for a character
abbrev pub origins_for : AnalysisValue → List Part → List ℕ → Option Pos → ℕ → List (Option Pos)
origins_for a members name None c = None ∷ []
origins_for a members name (Some p) c = origins_from p.file (move_to a members name p).at (length (put_at members name p c))

-- those of what stands for characters with these origins
unfoldable pub trace_from : AnalysisValue → List Part → List ℕ → List (Option Pos) → List ℕ → List (Option Pos)
trace_from a members name [] text = []
trace_from a members name (origin ∷ origins) [] = origin ∷ origins
trace_from a members name (origin ∷ origins) (c ∷ text) = origins_for a members name origin c ++ trace_from a members name origins text

-- the renaming that spells the members of a class otherwise
abbrev pub renaming_of : AnalysisValue → List Part → List ℕ → Renaming
renaming_of a members name = record {
  spell = spell_from members name;
  trace = trace_from a members name;
  move = move_to a members name;
}
