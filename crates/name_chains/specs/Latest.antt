-- How the latest declaration is looked for.
use Rattle.std.specs.Prelude.{Bool, true, ◌&&◌, ◌||◌, not, Option, None, Some, ◌==◌, if◌then◌else◌}
use Rattle.c_types.specs.declared.declarations.Declaration.{Declaration}
use Rattle.name_chains.specs.declared.latest.Asked.{Asked}
use Rattle.name_chains.specs.declared.latest.Asked.TheVariants.{Live, Within, Tag, Anywhere}
use Rattle.c_types.specs.Declarations.{is_live}

-- what is asked of a declaration, beside its name
abbrev pub passes : Asked → Declaration → Bool
passes (Live at) d = is_live at d
passes (Within at depth) d = is_live at d && (d.depth == depth)
passes (Tag at anew depth) d = is_live at d && (not anew || (d.depth == depth))
passes Anywhere d = true

-- the element, where there is one and it passes
abbrev pub tested : (Declaration → Bool) → Option Declaration → Option Declaration
tested test None = None
tested test (Some d) = if test d then Some d else None
