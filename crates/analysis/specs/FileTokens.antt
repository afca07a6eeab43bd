-- The file tokens that have parts (this project's): the identifiers and pp-numbers (ISO/IEC 9899:1999, 6.4.2 and
-- 6.4.8) of all kept files, those of the units' settings among them, and the numbers of lines and of answers that
-- some unit brought. Links join identifiers alone, and these are made of no other tokens.
use Rattle.std.specs.Prelude.{ℕ, ◌+◌, ◌≡◌, if◌then◌else◌, Option, Some, None, List, [], ◌∷◌, ◌++◌, codes, filter, length, map, slice_get, unwrap_or}
use Rattle.std.specs.List.{flat_map}
use Rattle.std.specs.Option.{option_map_or}
use Rattle.std.specs.Str.{bytes_eq}
use Rattle.cs_base.specs.declared.positions.Part.{Part}
use Rattle.cs_base.specs.declared.positions.Pos.{Pos}
use Rattle.cs_base.specs.Token.{Token, has_origins, origin_at}
use Rattle.lexer.specs.Places.{pos}
use Rattle.lexer.specs.Tokens.{tokens_of}
use Rattle.macro_expand.specs.Below.macro_body.Substitution.{line_number}
use Rattle.include_tree.specs.Below.unit_steps.declared.events.Event.{Event}
use Rattle.include_tree.specs.Below.unit_steps.declared.events.EventKind.{EventKind}
use Rattle.include_tree.specs.Below.unit_steps.declared.events.EventKind.TheVariants as kind
use Rattle.include_tree.specs.Below.source_files.Files.{Entry, Table}
use Rattle.include_tree.specs.Below.source_files.KeptFiles.{KeptValue, kept_in}
use Rattle.include_tree.specs.Below.unit_steps.Texts.{UnitTextValue}
use Rattle.analysis.specs.Analysis.{UnitAnalysis, AnalysisValue}

-- ---- kept files

abbrev pub kept_tokens : KeptValue → List Token
kept_tokens file = filter (λ t. has_origins t.kind) (tokens_of file.number file.bytes)

-- those of an entry with this number
abbrev pub entry_tokens : ℕ → Entry → List Token
entry_tokens number e = option_map_or kept_tokens (kept_in number e) []

-- those of the entries from this number on
unfoldable pub table_tokens : ℕ → Table → List Token
table_tokens number [] = []
table_tokens number (e ∷ table) = entry_tokens number e ++ table_tokens (number + 1) table

-- ---- numbers (6.10.1 paragraph 4, 6.10.8)

-- the number of the line, where an event replaces `__LINE__` by its first definition
abbrev pub number_for : EventKind → Option Pos → Option Token → List Token
number_for kind.Replaced None (Some name) = if bytes_eq name.text (codes "__LINE__") then line_number name ∷ [] else []
number_for _ _ _ = []

abbrev pub number_of_event : Event → List Token
number_of_event e = number_for e.kind e.def e.name

-- the numbers that a unit brings: those of lines, and those that stand for operands of `defined`
abbrev pub numbers_brought : UnitTextValue → List Token
numbers_brought text = flat_map number_of_event text.events ++ text.answers

-- ---- file tokens

-- the file tokens of a workspace; a number stands here once for each time that it was brought
unfoldable pub file_tokens : AnalysisValue → List Token
file_tokens a = table_tokens 0 a.table ++ flat_map (λ (u : UnitAnalysis). numbers_brought u.text) a.units

-- where a file token begins, and how many characters it has
abbrev pub span_of : Token → Part
span_of t = record { start = unwrap_or (origin_at t 0) (pos 0 0); len = length t.text }

-- the characters are those of a file token
abbrev pub IsFileToken : AnalysisValue → Part → Type 0
IsFileToken a token = (k : ℕ) × (slice_get (map span_of (file_tokens a)) k ≡ Some token)
