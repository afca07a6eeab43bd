use Rattle.std.proofs.Common.{None, take}
use Rattle.std.specs.List.{flat_map}
use Rattle.cs_base.specs.declared.causes.Cause.TheVariants as cause
use Rattle.analysis.specs.Analysis.{UnitAnalysis}
use Rattle.offences.specs.First.{standing, FirstThen}
use Rattle.rename_rules.specs.InUnits.{kept_in}
use Rattle.rename_rules.specs.Offences.{bare_places, occurring_place}
use Rattle.rename_rules.specs.RenamingValue.{held}
use Rattle.rename_rules.specs.Tokens.{starts_in}
use Rattle.rename_rules.proofs.unit_offences.in_units.Given as goal

abbrev pub invariant-loop-unit : goal.invariant-loop-unit
invariant-loop-unit l =
    let class = l.renaming.class in
    let a = class.analysis.value in
    let units = take l.unit a.units in
    FirstThen a.table (standing cause.Stringized (flat_map (λ (u : UnitAnalysis). kept_in class.members l.strings u.text.stringized) units)) None l.kept
    × FirstThen a.table (standing cause.HeaderName (flat_map (λ (u : UnitAnalysis). flat_map (starts_in class.members) u.text.header) units)) None l.headers
    × FirstThen a.table (standing cause.Occurs (flat_map (occurring_place class.members l.renaming.name (held class)) (flat_map (λ (u : UnitAnalysis). u.text.pasted) units))) None l.pasted
    × FirstThen a.table (standing cause.ShadowedTypedef (flat_map (λ (u : UnitAnalysis). flat_map (bare_places a class.members u) u.bound.bare) units)) None l.bare
