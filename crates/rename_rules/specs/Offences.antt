-- What stands against the renaming of a class to a name (this project's): twelve offences, each at the places where
-- it stands. A member's place is that of its first character.
use Rattle.std.specs.Prelude.{ℕ, ◌&&◌, ◌||◌, nat_le, nat_lt, if◌then◌else◌, Bool, List, [], ◌∷◌, ◌++◌, slice_get}
use Rattle.std.specs.List.{flat_map, list_any}
use Rattle.std.specs.Option.{option_map_or}
use Rattle.std.specs.Str.{bytes_eq}
use Rattle.cs_base.specs.declared.positions.Part.{Part}
use Rattle.cs_base.specs.declared.positions.Pos.{Pos}
use Rattle.cs_base.specs.Reserved.{is_reserved_in}
use Rattle.cs_base.specs.Token.{Token}
use Rattle.cs_base.specs.Limits.{most_bytes_of_all}
use Rattle.analysis.specs.Below.line_shape.Signs.{is_name}
use Rattle.analysis.specs.Below.c_types.declared.lists.Range.{Range}
use Rattle.analysis.specs.Below.c_types.Declarations.{spelling_at}
use Rattle.part_respell.specs.Respelled.{spelled}
use Rattle.analysis.specs.Analysis.{UnitAnalysis, AnalysisValue}
use Rattle.analysis.specs.Places.{is_read_only}
use Rattle.rename_rules.specs.GnuOffences.{has_gnu, gnu_offences, with_failing}
use Rattle.rename_rules.specs.Escapes.{escaped_places}
use Rattle.rename_rules.specs.LibraryNames.{is_closed_in}
use Rattle.rename_rules.specs.LibraryPlaces.{library_places}
use Rattle.rename_rules.specs.Prefixes.{prefix_places}
use Rattle.rename_rules.specs.Runs.{runs, is_too_large, new_size_of_all}
use Rattle.rename_rules.specs.Tokens.{all_file_tokens, pasted_tokens, holders, starts_in, is_new_spelling, is_old_spelling, clashes}
use Rattle.offences.specs.Tokens.{first_place}
use Rattle.cs_base.specs.declared.causes.Cause.TheVariants as cause
use Rattle.offences.specs.declared.firsts.Offence.{Offence}
use Rattle.offences.specs.First.{standing}

-- ReadOnly: a member in a read-only file or a pseudo file
abbrev pub read_only_place : AnalysisValue → Part → List Pos
read_only_place a m = if is_read_only a.table a.workspace.readonly m.start.file then m.start ∷ [] else []

unfoldable pub read_only_places : AnalysisValue → List Part → List Pos
read_only_places a members = flat_map (read_only_place a) members

-- Reserved: a member in a file token or pasted token whose old spelling is reserved, or whose new one no name may take; where a unit is
-- of GNU C there are more
abbrev pub reserved_place : Bool → List Part → List ℕ → Token → List Pos
reserved_place gnu members name t =
    if is_reserved_in gnu t.text || is_closed_in gnu (spelled members name t) then starts_in members t else []

-- Reserved: such a member, one in a name that would become the prefix of a constant, and one in a name with linkage that would become
-- one of the library
unfoldable pub reserved_places : AnalysisValue → List Part → List ℕ → List Pos
reserved_places a members name =
    flat_map (reserved_place (has_gnu a) members name) (holders a members) ++ prefix_places members name 0 a.table
    ++ library_places a members name

-- Stringized: a member in a token that `#` made a string of (6.10.3.2)
unfoldable pub stringized_places : AnalysisValue → List Part → List Pos
stringized_places a members = flat_map (λ (u : UnitAnalysis). flat_map (starts_in members) u.text.stringized) a.units

-- the same, where strings must stay; where they may follow the renaming, only a member that would change an escape sequence
abbrev pub kept_string_places : AnalysisValue → List Part → Bool → List Pos
kept_string_places a members strings = if strings then escaped_places a members else stringized_places a members

-- HeaderName: a member in a token of an include line that was expanded (6.10.2 paragraph 4)
unfoldable pub header_places : AnalysisValue → List Part → List Pos
header_places a members = flat_map (λ (u : UnitAnalysis). flat_map (starts_in members) u.text.header) a.units

-- NotIdentifier: a member in a file token or pasted token that is no identifier
abbrev pub no_identifier_place : List Part → Token → List Pos
no_identifier_place members t = if is_name t then [] else starts_in members t

unfoldable pub no_identifier_places : AnalysisValue → List Part → List Pos
no_identifier_places a members = flat_map (no_identifier_place members) (holders a members)

-- Occurs: each file token, and each pasted token at its first character, whose spelling is a new spelling
abbrev pub occurring_place : List Part → List ℕ → List Token → Token → List Pos
occurring_place members name toks t = if is_new_spelling members name toks t.text then first_place t else []

unfoldable pub occurring_places : AnalysisValue → List Part → List ℕ → List Pos
occurring_places a members name =
    flat_map (occurring_place members name (holders a members)) (all_file_tokens a ++ pasted_tokens a)

-- Clash: a member in a token whose new spelling a token gets that had another one
abbrev pub clashing_place : List Part → List ℕ → List Token → Token → List Pos
clashing_place members name toks t = if clashes members name toks t then starts_in members t else []

unfoldable pub clashing_places : AnalysisValue → List Part → List ℕ → List Pos
clashing_places a members name = flat_map (clashing_place members name (holders a members)) (holders a members)

-- ---- TooLarge: files that would grow past the limits

-- where the first member of a file stands, if the file would have more than 2^22 bytes
abbrev pub large_place : AnalysisValue → List ℕ → List Part → List Pos
large_place a name [] = []
large_place a name (m ∷ run) = if is_too_large a name (m ∷ run) then m.start ∷ [] else []

-- where the first member of all stands, if the files together would have more than 2^28
abbrev pub full_place : AnalysisValue → List ℕ → List Part → List Pos
full_place a name [] = []
full_place a name (m ∷ members) = if nat_lt most_bytes_of_all (new_size_of_all a name (m ∷ members)) then m.start ∷ [] else []

-- TooLarge: the first member of a file that would grow too large, and the first of all where all files would
unfoldable pub too_large_places : AnalysisValue → List Part → List ℕ → List Pos
too_large_places a members name = flat_map (large_place a name) (runs members) ++ full_place a name members

-- ---- ShadowedTypedef (6.7.5.3 paragraph 11)

-- token k, spelled so, stands in the range of a typedef name of that spelling
abbrev pub is_shadow : List Token → List ℕ → ℕ → Range → Bool
is_shadow toks text k r = bytes_eq (spelling_at toks r.name) text && nat_le r.from k && nat_lt k r.to

abbrev pub hides_typedef : UnitAnalysis → ℕ → Token → Bool
hides_typedef u k t = list_any (is_shadow u.text.toks t.text k) u.bound.typedefs

-- where token k, a bare name, would turn into a typedef name: its spelling is the old one of a token that changes
abbrev pub bare_place : AnalysisValue → List Part → UnitAnalysis → ℕ → Token → List Pos
bare_place a members u k t =
    if hides_typedef u k t && is_old_spelling (holders a members) t.text then first_place t else []

abbrev pub bare_places : AnalysisValue → List Part → UnitAnalysis → ℕ → List Pos
bare_places a members u k = option_map_or (bare_place a members u k) (slice_get u.text.toks k) []

-- ShadowedTypedef: the first character of a bare name, a parameter only since a variable hides the typedef name of
-- its spelling, where this spelling is the old one of a token that holds a member
unfoldable pub shadowed_places : AnalysisValue → List Part → List Pos
shadowed_places a members = flat_map (λ (u : UnitAnalysis). flat_map (bare_places a members u) u.bound.bare) a.units

-- ---- all of them

-- Those at members and the tokens that hold them. `strings` says that strings which `#` makes may follow the renaming.
unfoldable pub member_offences : AnalysisValue → List Part → List ℕ → Bool → List Offence
member_offences a members name strings =
    standing cause.ReadOnly (read_only_places a members)
    ++ standing cause.Reserved (reserved_places a members name)
    ++ standing cause.Stringized (kept_string_places a members strings)
    ++ standing cause.HeaderName (header_places a members)
    ++ standing cause.NotIdentifier (no_identifier_places a members)

-- those of new spellings among all others
unfoldable pub spelling_offences : AnalysisValue → List Part → List ℕ → List Offence
spelling_offences a members name =
    standing cause.Occurs (occurring_places a members name)
    ++ standing cause.Clash (clashing_places a members name)
    ++ standing cause.TooLarge (too_large_places a members name)
    ++ standing cause.ShadowedTypedef (shadowed_places a members)
    -- Reserved once more, AssemblerText, and Undeclared, in units of GNU C
    ++ gnu_offences a members name

-- All offences against a renaming, in no order; where there are none of these, those of units of GNU C that would be read or bound
-- otherwise.
abbrev pub offences_of : AnalysisValue → List Part → List ℕ → Bool → List Offence
offences_of a members name strings = with_failing a members name (member_offences a members name strings ++ spelling_offences a members name)
