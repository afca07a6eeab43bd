use Rattle.std.proofs.Common.{take}
use Rattle.std.specs.List.{flat_map}
use Rattle.cs_base.specs.declared.causes.Cause.TheVariants as cause
use Rattle.offences.specs.First.{standing, FirstThen}
use Rattle.rename_rules.specs.LibraryPlaces.{linked_places}
use Rattle.rename_rules.proofs.library_places.linked_in_units.Given as goal

abbrev pub invariant-loop-unit : goal.invariant-loop-unit
invariant-loop-unit l =
    let class = l.renaming.class in
    FirstThen class.analysis.value.table
    (standing cause.Reserved (flat_map (linked_places class.members l.renaming.name) (take l.unit class.analysis.value.units))) l.initial.now l.now
