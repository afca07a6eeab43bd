use Rattle.std.proofs.Common.{take, ◌++◌}
use Rattle.std.specs.List.{flat_map}
use Rattle.cs_base.specs.declared.causes.Cause.TheVariants as cause
use Rattle.offences.specs.First.{standing, FirstThen}
use Rattle.template_rules.specs.GnuOffences.{first_call_place}
use Rattle.template_rules.proofs.gnu_units.at_first_calls.Given as goal

abbrev pub invariant-loop-name : goal.invariant-loop-name
invariant-loop-name l =
    FirstThen l.a.value.table
    (standing cause.DeclarationInArgument
    (flat_map (first_call_place l.unit.class.members l.unit.text.now.toks l.unit.bound.now.names (l.unit.bound.now.declarators ++ l.unit.bound.now.calls)) (take l.name-index l.names)))
    l.initial.now l.now
