use Rattle.std.proofs.Common.{take}
use Rattle.std.specs.List.{flat_map}
use Rattle.cs_base.specs.declared.causes.Cause.TheVariants as cause
use Rattle.offences.specs.First.{standing, FirstThen}
use Rattle.rename_rules.specs.Offences.{clashing_place}
use Rattle.rename_rules.specs.RenamingValue.{held}
use Rattle.rename_rules.proofs.token_offences.clashing_in_all.Given as goal

abbrev pub invariant-loop-tok : goal.invariant-loop-tok
invariant-loop-tok l =
    FirstThen l.a.value.table (standing cause.Clash (flat_map (clashing_place l.renaming.class.members l.renaming.name (held l.renaming.class)) (take l.tok-index l.toks))) l.initial.now l.now
