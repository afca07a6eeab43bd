use Rattle.std.proofs.Common.{take}
use Rattle.std.specs.List.{flat_map}
use Rattle.cs_base.specs.declared.causes.Cause.TheVariants as cause
use Rattle.offences.specs.First.{standing, FirstThen}
use Rattle.rename_rules.specs.Respellings.{bare_places_by}
use Rattle.rename_rules.proofs.bare_offences.at_indices.Given as goal

abbrev pub invariant-loop-k : goal.invariant-loop-k
invariant-loop-k l =
    FirstThen l.a.value.table (standing cause.ShadowedTypedef (flat_map (bare_places_by l.table l.toks l.typedefs) (take l.k-index l.bare))) l.initial.now l.now
