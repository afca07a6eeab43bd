use Rattle.std.proofs.Common.{take}
use Rattle.std.specs.List.{flat_map}
use Rattle.cs_base.specs.declared.causes.Cause.TheVariants as cause
use Rattle.offences.specs.First.{standing, FirstThen}
use Rattle.rename_rules.specs.Offences.{no_identifier_place}
use Rattle.rename_rules.proofs.member_offences.no_identifiers_in.Given as goal

abbrev pub invariant-loop-tok : goal.invariant-loop-tok
invariant-loop-tok l =
    FirstThen l.a.value.table (standing cause.NotIdentifier (flat_map (no_identifier_place l.class.members) (take l.tok-index l.toks))) l.initial.now l.now
