use Rattle.std.proofs.Common.{take}
use Rattle.std.specs.List.{flat_map}
use Rattle.cs_base.specs.declared.causes.Cause.TheVariants as cause
use Rattle.offences.specs.First.{standing, FirstThen}
use Rattle.template_rules.specs.MacroOffences.{pasted_place}
use Rattle.template_rules.proofs.macro_names.at_pasted.Given as goal

abbrev pub invariant-loop-tok : goal.invariant-loop-tok
invariant-loop-tok l = FirstThen l.a.value.table (standing cause.InMacro (flat_map (pasted_place l.class.members) (take l.tok-index l.toks))) l.initial.now l.now
