-- Tokens of files, and members of a class in tokens (this project's).
use Rattle.std.specs.Prelude.{ℕ, ◌+◌, Bool, is_some, Option, List, [], ◌∷◌, ◌++◌}
use Rattle.std.specs.List.{list_any}
use Rattle.std.specs.Option.{option_map_or, option_and_then}
use Rattle.cs_base.specs.declared.positions.Part.{Part}
use Rattle.cs_base.specs.declared.positions.Pos.{Pos}
use Rattle.cs_base.specs.Token.{Token, origin_at}
use Rattle.analysis.specs.Below.lexer.Tokens.{tokens_of}
use Rattle.analysis.specs.Below.source_files.Files.{Entry, Table}
use Rattle.analysis.specs.Below.source_files.KeptFiles.{KeptValue, kept_in}
use Rattle.part_respell.specs.Respelled.{member_over}

-- the tokens of a file, of whatever kind
abbrev pub file_toks : KeptValue → List Token
file_toks f = tokens_of f.number f.bytes

-- those of an entry with this number
abbrev pub entry_tokens : ℕ → Entry → List Token
entry_tokens number e = option_map_or file_toks (kept_in number e) []

-- those of the entries from this number on
unfoldable pub kept_tokens : ℕ → Table → List Token
kept_tokens number [] = []
kept_tokens number (e ∷ table) = entry_tokens number e ++ kept_tokens (number + 1) table

-- the member that a character comes from, if it comes from one
abbrev pub member_of : List Part → Option Pos → Option Part
member_of members origin = option_and_then (member_over members) origin

-- the token holds a member: some character of it comes from one
abbrev pub holds_member : List Part → Token → Bool
holds_member members t = list_any (λ origin. is_some (member_of members origin)) t.origins

-- where a token begins, if its first character comes from a file
abbrev pub first_place : Token → List Pos
first_place t = option_map_or (λ p. p ∷ []) (origin_at t 0) []
