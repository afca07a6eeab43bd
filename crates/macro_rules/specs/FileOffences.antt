-- What stands in files against a new order of a macro's parameters (this project's, over ISO/IEC 9899:1999, 5.1.1.2, 6.4 and 6.10.3):
-- names that are called where no list is, and what lists hold.
use Rattle.std.specs.Prelude.{ℕ, zero, suc, ◌+◌, ◌-◌, ◌==◌, ◌&&◌, ◌||◌, not, nat_le, if◌then◌else◌, Bool, true, false, List, [], ◌∷◌, ◌++◌, codes, drop, length, take, slice_get, slice_index_or}
use Rattle.std.specs.List.{flat_map}
use Rattle.std.specs.Option.{option_map_or}
use Rattle.cs_base.specs.declared.causes.Cause.{Cause}
use Rattle.cs_base.specs.declared.causes.Cause.TheVariants as cause
use Rattle.cs_base.specs.declared.positions.Pos.{Pos}
use Rattle.cs_base.specs.declared.tokens.Kind.{Kind}
use Rattle.cs_base.specs.declared.tokens.Kind.TheVariants.{Other}
use Rattle.cs_base.specs.Token.{Token}
use Rattle.line_shape.specs.declared.items.Item.{Item}
use Rattle.line_shape.specs.Signs.{is_hash, is_paste, is_sign}
use Rattle.list_cuts.specs.Cuts.{numbers}
use Rattle.analysis.specs.Below.lexer.Characters.{line_feed}
use Rattle.analysis.specs.Below.lexer.Logical.{Character, logical_of}
use Rattle.analysis.specs.Below.source_files.KeptFiles.{KeptValue}
use Rattle.analysis.specs.Analysis.{AnalysisValue}
use Rattle.analysis.specs.Places.{is_read_only}
use Rattle.offences.specs.declared.firsts.Offence.{Offence}
use Rattle.offences.specs.First.{offence}
use Rattle.macro_rules.specs.Positions.{has}
use Rattle.macro_rules.specs.Files.{toks_in, in_items, is_run, item_toks}
use Rattle.macro_rules.specs.Lists.{is_open_at, is_called, call_lists, lists_in}

-- a cause that stands at token k
abbrev pub at_token : Cause → List Token → ℕ → List Offence
at_token cause toks k = option_map_or (λ (t : Token). offence cause t.at ∷ []) (slice_get toks k) []

-- ---- names that are called

-- InDirective: such a name in a line that is a directive: a condition, or an include line
abbrev pub directive_token : List Pos → Token → List Offence
directive_token calls t = if has calls t.at then offence cause.InDirective t.at ∷ [] else []

abbrev pub directive_offences : List Pos → List Token → Item → List Offence
directive_offences calls toks i = if is_run i.kind then [] else flat_map (directive_token calls) (item_toks toks i)

-- InMacro: such a name in a run, with no `(` directly behind it there: what it calls with comes from elsewhere
abbrev pub bare_name : List Pos → List Token → ℕ → List Offence
bare_name calls toks k = if is_called calls toks k && not (is_open_at toks (k + 1)) then at_token cause.InMacro toks k else []

abbrev pub bare_offences : List Pos → List Token → Item → List Offence
bare_offences calls toks i =
    if is_run i.kind then flat_map (bare_name calls (take i.to toks)) (numbers i.from (i.to - i.from)) else []

-- ---- all lists

-- the first mark of a list, and the last one
abbrev pub begin_of : List ℕ → ℕ
begin_of l = slice_index_or l 0 0

abbrev pub end_of : List ℕ → ℕ
end_of l = slice_index_or l (length l - 1) 0

-- ReadOnly: the `(` of a list in a read-only file or a pseudo file
abbrev pub read_only_list : AnalysisValue → KeptValue → List ℕ → List Offence
read_only_list a f l = if is_read_only a.table a.workspace.readonly f.number then at_token cause.ReadOnly (toks_in f) (begin_of l) else []

-- ---- the tokens of the list of a call

-- OddToken: `#` or `##`, which would begin a directive in another place, and a name that a macro replaces in whose replacement list
-- parentheses do not pair; LineNumber: `__LINE__` or `__COUNTER__` is replaced there
abbrev pub inside_offences : List Pos → List Pos → Token → List Offence
inside_offences torn lines t =
    (if is_hash t || (is_paste t || has torn t.at) then offence cause.OddToken t.at ∷ [] else [])
    ++ (if has lines t.at then offence cause.LineNumber t.at ∷ [] else [])

abbrev pub inside_at : List Pos → List Pos → List Token → ℕ → List Offence
inside_at torn lines toks k = option_map_or (inside_offences torn lines) (slice_get toks k) []

-- between its parentheses
abbrev pub insides : List Pos → List Pos → List Token → List ℕ → List Offence
insides torn lines toks l = flat_map (inside_at torn lines toks) (numbers (begin_of l + 1) (end_of l - (begin_of l + 1)))

-- OddToken: a last token `/` of an item, which stands before a mark: with what comes to stand behind it a comment could begin
-- (6.4.9)
abbrev pub slash_before : List Token → ℕ → List Offence
slash_before toks k =
    option_map_or (λ (t : Token). if is_sign (codes "/") t then offence cause.OddToken t.at ∷ [] else []) (slice_get toks (k - 1)) []

abbrev pub slashes : List Token → List ℕ → List Offence
slashes toks l = flat_map (slash_before toks) (drop 1 l)

-- ---- tokens of none of the other kinds, as a lone quote, in the lines of a list (6.4 paragraph 3)

abbrev pub is_odd : Kind → Bool
is_odd Other = true
is_odd _ = false

abbrev pub odd_place : Token → List Pos
odd_place t = if is_odd t.kind then t.at ∷ [] else []

abbrev pub odd_places : List Token → List Pos
odd_places toks = flat_map odd_place toks

-- character k of the logical text is a line feed
abbrev pub is_line_feed_at : List ℕ → ℕ → Bool
is_line_feed_at bytes k = option_map_or (λ (c : Character). c.byte == line_feed) (slice_get (logical_of bytes) k) false

-- the character with which the line of a character begins
unfoldable pub line_begin : List ℕ → ℕ → ℕ
line_begin bytes zero = 0
line_begin bytes (suc k) = if is_line_feed_at bytes k then suc k else line_begin bytes k

-- where token k begins
abbrev pub character_of : List Token → ℕ → ℕ
character_of toks k = option_map_or (λ (t : Token). t.at.at) (slice_get toks k) 0

-- OddToken: such a token in a line between these, by the characters with which they begin
abbrev pub odd_between : List ℕ → ℕ → ℕ → Pos → List Offence
odd_between bytes from to p =
    if nat_le from (line_begin bytes p.at) && nat_le (line_begin bytes p.at) to then offence cause.OddToken p ∷ [] else []

-- from that of the `(` to that of the `)`
abbrev pub odd_lines : List ℕ → List Token → List Pos → List ℕ → List Offence
odd_lines bytes toks odds l =
    flat_map (odd_between bytes (line_begin bytes (character_of toks (begin_of l))) (line_begin bytes (character_of toks (end_of l)))) odds

-- ---- files

abbrev pub call_offences : List Pos → List Pos → KeptValue → List ℕ → List Offence
call_offences torn lines f l =
    insides torn lines (toks_in f) l ++ (slashes (toks_in f) l ++ odd_lines f.bytes (toks_in f) (odd_places (toks_in f)) l)

-- Those at names, those at all lists, and those of the lists of calls.
abbrev pub file_offences : AnalysisValue → List Pos → List Pos → List Pos → List Pos → KeptValue → List Offence
file_offences a macros calls torn lines f =
    in_items (directive_offences calls) f
    ++ (in_items (bare_offences calls) f
    ++ (flat_map (read_only_list a f) (lists_in macros calls f)
    ++ flat_map (call_offences torn lines f) (in_items (call_lists calls) f)))
