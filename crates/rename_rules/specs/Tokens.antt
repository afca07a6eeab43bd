-- Tokens that hold members of a class (this project's): what a renaming spells otherwise.
use Rattle.std.specs.Prelude.{ℕ, ◌&&◌, not, Bool, Option, List, [], ◌∷◌, ◌++◌, filter}
use Rattle.std.specs.List.{flat_map, list_any}
use Rattle.std.specs.Option.{option_map_or}
use Rattle.std.specs.Str.{bytes_eq}
use Rattle.cs_base.specs.declared.positions.Part.{Part}
use Rattle.cs_base.specs.declared.positions.Pos.{Pos}
use Rattle.cs_base.specs.Token.{Token}
use Rattle.part_respell.specs.Respelled.{spelled}
use Rattle.analysis.specs.Analysis.{UnitAnalysis, AnalysisValue}
use Rattle.analysis.specs.FileTokens.{file_tokens, numbers_brought}
use Rattle.offences.specs.Tokens.{kept_tokens, member_of, holds_member}

-- ---- all tokens

-- All tokens of the files: of groups that are skipped too, and of pseudo files; a number of `__LINE__` or of an
-- answer stands in one of them.
unfoldable pub all_file_tokens : AnalysisValue → List Token
all_file_tokens a = kept_tokens 0 a.table ++ flat_map (λ (u : UnitAnalysis). numbers_brought u.text) a.units

-- the tokens that `##` made in some unit (ISO/IEC 9899:1999, 6.10.3.3)
unfoldable pub pasted_tokens : AnalysisValue → List Token
pasted_tokens a = flat_map (λ (u : UnitAnalysis). u.text.pasted) a.units

-- ---- members in tokens

-- the first character of the member that a character comes from
abbrev pub start_of : List Part → Option Pos → List Pos
start_of members origin = option_map_or (λ (m : Part). m.start ∷ []) (member_of members origin) []

-- the first characters of the members that a token holds, once for each character that comes from them
abbrev pub starts_in : List Part → Token → List Pos
starts_in members t = flat_map (start_of members) t.origins

-- The tokens that get a new spelling: file tokens and pasted tokens that hold a member. Of file tokens only
-- identifiers and pp-numbers have parts, so no others can.
unfoldable pub holders : AnalysisValue → List Part → List Token
holders a members = filter (holds_member members) (file_tokens a ++ pasted_tokens a)

-- ---- spellings

-- one of these tokens has this new spelling
abbrev pub is_new_spelling : List Part → List ℕ → List Token → List ℕ → Bool
is_new_spelling members name toks text = list_any (λ t. bytes_eq (spelled members name t) text) toks

-- one of them had this spelling
abbrev pub is_old_spelling : List Token → List ℕ → Bool
is_old_spelling toks text = list_any (λ (t : Token). bytes_eq t.text text) toks

-- one of them gets the new spelling of a token, and had another one
abbrev pub clashes : List Part → List ℕ → List Token → Token → Bool
clashes members name toks t =
    list_any (λ u. bytes_eq (spelled members name u) (spelled members name t) && not (bytes_eq u.text t.text)) toks
