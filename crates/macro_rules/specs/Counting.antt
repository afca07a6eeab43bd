-- How many parameters the macros have that a class names: as many as the first of them has by its place.
use Rattle.std.specs.Prelude.{ℕ, if◌then◌else◌, Bool, true, false, Option, Some, None, List, [], ◌∷◌}
use Rattle.std.specs.Option.{option_map_or}
use Rattle.std.specs.declared.cmp.Ordering.{Ordering}
use Rattle.std.specs.declared.cmp.Ordering.TheVariants.{Less}
use Rattle.analysis.specs.Below.source_files.Files.{Table}
use Rattle.cs_base.specs.declared.positions.Part.{Part}
use Rattle.analysis.specs.Analysis.{AnalysisValue}
use Rattle.offences.specs.First.{position_cmp}
use Rattle.macro_rules.specs.declared.heads.Head.{Head}
use Rattle.macro_rules.specs.Macros.{heads_of, macro_places}

-- of two macros the one whose name stands first, and the former where they stand at one place
abbrev pub is_less : Ordering → Bool
is_less Less = true
is_less _ = false

abbrev pub sooner : Table → Option Head → Head → Head
sooner table best h = option_map_or (λ (b : Head). if is_less (position_cmp table h.at b.at) then h else b) best h

-- the first of a macro, if there is one, and of those behind it
unfoldable pub soonest : Table → Option Head → List Head → Option Head
soonest table best [] = best
soonest table best (h ∷ hs) = soonest table (Some (sooner table best h)) hs

-- the number of parameters of the first
abbrev pub count_in : Table → List Head → ℕ
count_in table heads = option_map_or (λ (h : Head). h.count) (soonest table None heads) 0

-- the macros of a class, and how many parameters they have
abbrev pub class_heads : List Part → AnalysisValue → List Head
class_heads members a = heads_of (macro_places members a) a.table

abbrev pub count_of : AnalysisValue → List Part → ℕ
count_of a members = count_in a.table (class_heads members a)
