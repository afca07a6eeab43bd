-- Units of GNU C, and where they begin (this project's).
use Rattle.std.specs.Prelude.{ℕ, List, [], ◌∷◌, Option, None, Some, slice_get, if◌then◌else◌}
use Rattle.std.specs.List.{flat_map}
use Rattle.std.specs.Option.{option_map_or}
use Rattle.cs_base.specs.declared.positions.Pos.{Pos}
use Rattle.cs_base.specs.Token.{Token}
use Rattle.cs_base.specs.Units.{is_gnu}
use Rattle.analysis.specs.Analysis.{UnitAnalysis, AnalysisValue}

-- where the first of some tokens was brought, and the beginning of all files where there is none
abbrev pub begin_of : List Token → Pos
begin_of toks = option_map_or (λ (t : Token). t.at) (slice_get toks 0) (record { file = 0; at = 0 })

-- where a unit of GNU C begins, and nothing for others
abbrev pub gnu_begin : UnitAnalysis → Option Pos
gnu_begin u = if is_gnu u.standard then Some (begin_of u.text.toks) else None

abbrev pub gnu_place : UnitAnalysis → List Pos
gnu_place u = option_map_or (λ (p : Pos). p ∷ []) (gnu_begin u) []

-- Where the units of GNU C begin.
unfoldable pub gnu_places : AnalysisValue → List Pos
gnu_places a = flat_map gnu_place a.units
