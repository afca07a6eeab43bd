-- What a line says against a new order of items in it (this project's, over ISO/IEC 9899:1999, 6.4 paragraph 3): a
-- character that is no token of another kind, as a lone quote, might make one with what comes to stand behind it.
use Rattle.std.specs.Prelude.{ℕ, zero, suc, ◌+◌, ◌-◌, ◌==◌, ◌&&◌, ◌||◌, not, nat_le, if◌then◌else◌, Bool, true, false, List, [], ◌∷◌, ◌++◌, slice_get}
use Rattle.std.specs.List.{flat_map, list_any}
use Rattle.std.specs.Option.{option_map_or}
use Rattle.cs_base.specs.declared.positions.Pos.{Pos}
use Rattle.cs_base.specs.declared.tokens.Kind.{Kind}
use Rattle.cs_base.specs.declared.tokens.Kind.TheVariants.{Other}
use Rattle.cs_base.specs.Token.{Token}
use Rattle.analysis.specs.Below.lexer.Characters.{line_feed}
use Rattle.analysis.specs.Below.lexer.Logical.{Character, logical_of}
use Rattle.analysis.specs.Below.source_files.Files.{Table}
use Rattle.analysis.specs.Below.source_files.KeptFiles.{KeptValue, kept_at}
use Rattle.c_types.specs.declared.lists.List.{List as NameList}
use Rattle.analysis.specs.Below.unit_steps.Texts.{UnitTextValue}
use Rattle.list_cuts.specs.Cuts.{numbers}
use Rattle.offences.specs.Tokens.{kept_tokens}
use Rattle.template_rules.specs.Functions.{origin_of}
use Rattle.template_rules.specs.Marks.{is_across}
use Rattle.template_rules.specs.MacroOffences.{is_direct}

-- ---- lines of the logical text (5.1.1.2)

-- character k is a line feed
abbrev pub is_line_feed_at : List ℕ → ℕ → Bool
is_line_feed_at bytes k = option_map_or (λ (c : Character). c.byte == line_feed) (slice_get (logical_of bytes) k) false

-- the character with which the line of a character begins
unfoldable pub line_begin : List ℕ → ℕ → ℕ
line_begin bytes zero = 0
line_begin bytes (suc k) = if is_line_feed_at bytes k then suc k else line_begin bytes k

-- ---- tokens of none of the other kinds

abbrev pub is_odd : Kind → Bool
is_odd Other = true
is_odd _ = false

abbrev pub odd_position : Token → List Pos
odd_position t = if is_odd t.kind then t.at ∷ [] else []

-- where they stand in all kept files
abbrev pub odd_positions : Table → List Pos
odd_positions table = flat_map odd_position (kept_tokens 0 table)

-- ---- lines with tokens of a list

-- the lines of two characters of a file are one
abbrev pub is_one_line : ℕ → ℕ → KeptValue → Bool
is_one_line at other f = line_begin f.bytes at == line_begin f.bytes other

-- two positions stand in one line
abbrev pub is_on_line : Table → Pos → Pos → Bool
is_on_line table p q = p.file == q.file && option_map_or (is_one_line p.at q.at) (kept_at table p.file) false

-- the source token that brought token k of a unit stands in the line
abbrev pub is_token_on : Table → Pos → List Token → ℕ → Bool
is_token_on table p toks k = option_map_or (λ (s : Token). is_on_line table p s.at) (slice_get toks k) false

-- the name of the list does, or its `)`, or a token from its `(` on before that
abbrev pub is_by_list : Table → Pos → List Token → NameList → Bool
is_by_list table p toks l =
    is_token_on table p toks l.name
    || (is_token_on table p toks l.close || list_any (is_token_on table p toks) (numbers l.begin (l.close - l.begin)))

-- the line of a character is one of those from a character to another
abbrev pub is_line_among : ℕ → ℕ → ℕ → KeptValue → Bool
is_line_among at from to f =
    nat_le (line_begin f.bytes from) (line_begin f.bytes at) && nat_le (line_begin f.bytes at) (line_begin f.bytes to)

abbrev pub is_among_lines : Table → Pos → Pos → Pos → Bool
is_among_lines table p from to =
    p.file == from.file && option_map_or (is_line_among p.at from.at to.at) (kept_at table p.file) false

-- it is one from the `(` of the list to its `)`, as they stand in the file
abbrev pub is_among_list : Table → Pos → List Token → NameList → Bool
is_among_list table p toks l =
    option_map_or (λ from. option_map_or (is_among_lines table p from) (origin_of toks l.close) false) (origin_of toks l.begin) false

-- Tokens between these count, also those of macro calls that give nothing, where the list comes from no macro and does
-- not go on behind a directive.
abbrev pub is_odd_by : Table → UnitTextValue → NameList → Pos → Bool
is_odd_by table text l p =
    is_by_list table p text.toks l || ((is_direct text.toks l && not (is_across text.reached l)) && is_among_list table p text.toks l)

-- OddToken: such a token of a file, in the line of a token of a list
abbrev pub odd_place : Table → UnitTextValue → NameList → Pos → List Pos
odd_place table text l p = if is_odd_by table text l p then p ∷ [] else []

abbrev pub odd_places : Table → List Pos → UnitTextValue → NameList → List Pos
odd_places table odds text l = flat_map (odd_place table text l) odds
