-- Names of the library that a renaming would give to functions and objects (ISO/IEC 9899:1999, 7.1.3): a compiler knows what the
-- library's do, and calls them of its own accord.
use Rattle.std.specs.Prelude.{ℕ, if◌then◌else◌, Bool, List, [], slice_get}
use Rattle.std.specs.List.{flat_map, list_any}
use Rattle.std.specs.Option.{option_map_or}
use Rattle.cs_base.specs.declared.positions.Part.{Part}
use Rattle.cs_base.specs.declared.positions.Pos.{Pos}
use Rattle.cs_base.specs.Token.{Token}
use Rattle.analysis.specs.Below.c_types.Declarations.{has_linkage}
use Rattle.analysis.specs.Below.scope_bind.declared.bound.Name.{Name}
use Rattle.analysis.specs.Below.scope_bind.Names.{linkage_at}
use Rattle.part_respell.specs.Respelled.{spelled}
use Rattle.analysis.specs.Analysis.{UnitAnalysis, AnalysisValue}
use Rattle.rename_rules.specs.LibraryNames.{is_library_name}
use Rattle.rename_rules.specs.Tokens.{holders, starts_in}

-- the members in a token that would become a name of the library
abbrev pub library_place : List Part → List ℕ → Token → List Pos
library_place members name t = if is_library_name (spelled members name t) then starts_in members t else []

-- .. in the token of a name, if what it denotes has linkage (6.2.2): by an internal one too a call of the compiler's own would reach it
abbrev pub linked_place : List Part → List ℕ → List Name → List Token → Name → List Pos
linked_place members name names toks n =
    if has_linkage (linkage_at names n.entity) then option_map_or (library_place members name) (slice_get toks n.index) [] else []

-- .. in all names of a unit
abbrev pub linked_places : List Part → List ℕ → UnitAnalysis → List Pos
linked_places members name u = flat_map (linked_place members name u.bound.names u.text.toks) u.bound.names

-- one of these tokens would become a name of the library
abbrev pub has_library_name : List Part → List ℕ → List Token → Bool
has_library_name members name toks = list_any (λ t. is_library_name (spelled members name t)) toks

-- Reserved: a member in such a name of some unit; they are looked at where a token of a file or a pasted one would become such a name
unfoldable pub library_places : AnalysisValue → List Part → List ℕ → List Pos
library_places a members name =
    if has_library_name members name (holders a members) then flat_map (linked_places members name) a.units else []
