use Rattle.std.proofs.Common.{take}
use Rattle.std.specs.List.{flat_map}
use Rattle.cs_base.specs.declared.causes.Cause.TheVariants as cause
use Rattle.offences.specs.First.{standing, FirstThen}
use Rattle.rename_rules.specs.Offences.{reserved_place}
use Rattle.rename_rules.proofs.token_offences.reserved_in_all.Given as goal

abbrev pub invariant-loop-tok : goal.invariant-loop-tok
invariant-loop-tok l =
    FirstThen l.a.value.table (standing cause.Reserved (flat_map (reserved_place l.gnu l.class.members l.name) (take l.tok-index l.toks))) l.initial.now l.now
