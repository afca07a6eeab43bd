-- What inner functions promise each other of lines with tokens of none of the other kinds (this project's).
use Rattle.std.specs.Prelude.{ℕ, ◌+◌, ◌-◌, ◌≡◌, ◌≤◌, ◌<◌, ◌==◌, ◌&&◌, ◌||◌, not, nat_le, nat_lt, if◌then◌else◌, Bool, true, false, Option, Some, None, List, [], ◌∷◌, ◌++◌, length, slice_get, slice_index_or}
use Rattle.std.specs.List.{flat_map}
use Rattle.std.specs.List.Sorted.{IsPartitionPoint}
use Rattle.std.specs.Option.{option_map_or}
use Rattle.cs_base.specs.declared.positions.Pos.{Pos}
use Rattle.cs_base.specs.Token.{Token}
use Rattle.c_types.specs.declared.lists.List.{List as NameList}
use Rattle.list_cuts.specs.Cuts.{numbers}
use Rattle.analysis.specs.Below.source_files.Files.{Table}
use Rattle.offences.specs.First.{IsAmong}
use Rattle.template_rules.specs.declared.odd_lines.OddLine.{OddLine}
use Rattle.template_rules.specs.Functions.{origin_of}
use Rattle.template_rules.specs.LineOffences.{is_among_lines, is_line_feed_at, line_begin}

-- the line feed with which the line of a character ends, if there is one at it or behind it
abbrev pub IsLineEnd : List ℕ → ℕ → Option ℕ → Type 0
IsLineEnd bytes at None = (k : ℕ) → at ≤ k → is_line_feed_at bytes k ≡ false
IsLineEnd bytes at (Some end) =
    (at ≤ end) × (is_line_feed_at bytes end ≡ true) × ((k : ℕ) → at ≤ k → k < end → is_line_feed_at bytes k ≡ false)

-- the line ends before a character of its file
abbrev pub ends_before : OddLine → ℕ → Bool
ends_before o at = option_map_or (λ end. nat_lt end at) o.end false

-- it stands before a position
abbrev pub is_before : Pos → OddLine → Bool
is_before p o = nat_lt o.first.file p.file || (o.first.file == p.file && ends_before o p.at)

-- it is one of the lines from a position to a character of the same file
abbrev pub is_line_among : Pos → ℕ → OddLine → Bool
is_line_among from to o = o.first.file == from.file && (not (ends_before o from.at) && nat_le o.begin to)

-- its first token stands in it
abbrev pub IsPlaced : OddLine → Type 0
IsPlaced o = (o.begin ≤ o.first.at) × (ends_before o o.first.at ≡ false)

-- The line of a token: it is told as it is.
pub record IsOddLine (table : Table) (o : OddLine) : Type 0 where
  pub placed : IsPlaced o
  pub told : (from to : Pos) → is_among_lines table o.first from to ≡ is_line_among from to.at o

-- the line of a token, by the bytes of its file
abbrev pub IsLineIn : List ℕ → Pos → OddLine → Type 0
IsLineIn bytes p o = (o.first ≡ p) × (o.begin ≡ line_begin bytes p.at) × IsLineEnd bytes p.at o.end

-- one of these lines has a token, not before its first one
abbrev pub IsTold : List OddLine → Pos → Type 0
IsTold lines p = (o : OddLine) × IsAmong lines o × (is_line_among p p.at o ≡ true) × (o.first.at ≤ p.at)

-- These lines have one of these tokens each, and none but these; each stands where one of these lines does, and its first
-- token not behind it.
pub record AreOdd (table : Table) (odds : List Pos) (lines : List OddLine) : Type 0 where
  pub each : (o : OddLine) → IsAmong lines o → IsOddLine table o × IsAmong odds o.first
  pub all : (p from to : Pos) → IsAmong odds p → is_among_lines table p from to ≡ true
      → (o : OddLine) × IsAmong lines o × (is_line_among from to.at o ≡ true) × (o.first.at ≤ p.at)

-- a line comes to these, or none
abbrev pub with_line : List OddLine → Option OddLine → List OddLine
with_line lines None = lines
with_line lines (Some o) = lines ++ o ∷ []

-- with it they are those of one more token
abbrev pub AddsLine : Table → Pos → List OddLine → Option OddLine → Type 0
AddsLine table p lines added = (odds : List Pos) → AreOdd table odds lines → AreOdd table (odds ++ p ∷ []) (with_line lines added)

-- one line stands before another
abbrev pub comes_before : OddLine → OddLine → Bool
comes_before o next = is_before (record { file = next.first.file; at = next.begin }) o

-- each before the next
abbrev pub AreInOrder : List OddLine → Type 0
AreInOrder lines = (k : ℕ) (d : OddLine) → k + 1 < length lines → comes_before (slice_index_or lines k d) (slice_index_or lines (k + 1) d) ≡ true

-- each has its first token
abbrev pub ArePlaced : List OddLine → Type 0
ArePlaced lines = (o : OddLine) → IsAmong lines o → IsPlaced o

-- where the first token stands of the first of these lines from a position to a character of the same file
abbrev pub FirstAmong : List OddLine → Pos → ℕ → Option Pos → Type 0
FirstAmong lines from to None = (o : OddLine) → IsAmong lines o → is_line_among from to o ≡ false
FirstAmong lines from to (Some p) =
    ((o : OddLine) × IsAmong lines o × (o.first ≡ p) × (is_line_among from to o ≡ true))
    × ((o : OddLine) → IsAmong lines o → is_line_among from to o ≡ true → p.at ≤ o.first.at)

-- so many of these pass a test, and those behind them do not
abbrev pub IsCut : {X : Type 0} → (X → Bool) → List X → ℕ → Type 0
IsCut p xs n = IsPartitionPoint (λ x. p x ≡ true) (λ x. p x ≡ false) xs n

-- ---- tokens by the lines of a list

-- those of these tokens that stand in the lines from a position to another
abbrev pub odd_among : Table → Pos → Pos → Pos → List Pos
odd_among table from to p = if is_among_lines table p from to then p ∷ [] else []

abbrev pub odds_among : Table → List Pos → Pos → Pos → List Pos
odds_among table odds from to = flat_map (odd_among table from to) odds

-- in the line of the source token that brought token k of a unit
abbrev pub odds_by_token : Table → List Pos → List Token → ℕ → List Pos
odds_by_token table odds toks k = option_map_or (λ (s : Token). odds_among table odds s.at s.at) (slice_get toks k) []

-- in a line of the tokens of a list
abbrev pub odds_by_list : Table → List Pos → List Token → NameList → List Pos
odds_by_list table odds toks l =
    odds_by_token table odds toks l.name
    ++ (odds_by_token table odds toks l.close ++ flat_map (odds_by_token table odds toks) (numbers l.begin (l.close - l.begin)))

-- from the `(` of a list to its `)`, as they stand in the file
abbrev pub odds_among_list : Table → List Pos → List Token → NameList → List Pos
odds_among_list table odds toks l =
    option_map_or (λ from. option_map_or (odds_among table odds from) (origin_of toks l.close) []) (origin_of toks l.begin) []
