use Rattle.std.proofs.Common.{take}
use Rattle.std.specs.List.{flat_map}
use Rattle.cs_base.specs.declared.causes.Cause.TheVariants as cause
use Rattle.offences.specs.First.{standing, FirstThen}
use Rattle.rename_rules.specs.Offences.{read_only_place}
use Rattle.rename_rules.proofs.member_offences.read_only_in.Given as goal

abbrev pub invariant-loop-part : goal.invariant-loop-part
invariant-loop-part l =
    FirstThen l.a.value.table (standing cause.ReadOnly (flat_map (read_only_place l.a.value) (take l.part-index l.members))) l.initial.now l.now
