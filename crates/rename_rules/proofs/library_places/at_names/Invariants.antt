use Rattle.std.proofs.Common.{take}
use Rattle.std.specs.List.{flat_map}
use Rattle.cs_base.specs.declared.causes.Cause.TheVariants as cause
use Rattle.offences.specs.First.{standing, FirstThen}
use Rattle.rename_rules.specs.LibraryPlaces.{linked_place}
use Rattle.rename_rules.proofs.library_places.at_names.Given as goal

abbrev pub invariant-loop-name : goal.invariant-loop-name
invariant-loop-name l =
    FirstThen l.a.value.table
    (standing cause.Reserved (flat_map (linked_place l.renaming.class.members l.renaming.name l.bound.names l.toks) (take l.name-index l.names))) l.initial.now l.now
