-- How a part is spelled (this project's).
use Rattle.std.specs.Prelude.{ℕ, ◌-◌, Option, List, [], find, take, drop}
use Rattle.std.specs.Option.{option_map_or}
use Rattle.cs_base.specs.declared.positions.Part.{Part}
use Rattle.cs_base.specs.declared.positions.Pos.{Pos}
use Rattle.cs_base.specs.Token.{Token}
use Rattle.eclass_map.specs.Positions.{holds}
use Rattle.analysis.specs.Analysis.{AnalysisValue}
use Rattle.analysis.specs.FileTokens.{file_tokens, span_of}

-- the file token that holds a character
abbrev pub token_over : AnalysisValue → Pos → Option Token
token_over a p = find (λ t. holds (span_of t) p) (file_tokens a)

-- the characters of a part among those of its token
abbrev pub spelling_in : Part → Token → List ℕ
spelling_in part t = take part.len (drop (part.start.at - (span_of t).start.at) t.text)

-- the characters of a part
abbrev pub spelling_of : AnalysisValue → Part → List ℕ
spelling_of a part = option_map_or (spelling_in part) (token_over a part.start) []
