use Rattle.std.proofs.Common.{take}
use Rattle.std.specs.List.{flat_map}
use Rattle.cs_base.specs.declared.causes.Cause.TheVariants as cause
use Rattle.offences.specs.First.{standing, FirstThen}
use Rattle.template_rules.specs.MacroOffences.{replaced_place}
use Rattle.template_rules.proofs.macro_names.at_replaced.Given as goal

abbrev pub invariant-loop-event : goal.invariant-loop-event
invariant-loop-event l = FirstThen l.a.value.table (standing cause.InMacro (flat_map (replaced_place l.class.members) (take l.event-index l.events))) l.initial.now l.now
