use Rattle.std.proofs.Common.{◌+◌, ◌-◌, length, take}
use Rattle.std.specs.List.{flat_map}
use Rattle.cs_base.specs.declared.causes.Cause.TheVariants as cause
use Rattle.list_cuts.specs.Cuts.{numbers}
use Rattle.offences.specs.First.{standing, FirstThen}
use Rattle.template_rules.specs.Lists.{separators}
use Rattle.template_rules.specs.ScopeOffences.{dependence_in}
use Rattle.template_rules.proofs.dependences.dependences_of.Given as goal

abbrev pub invariant-loop-item : goal.invariant-loop-item
invariant-loop-item l =
    FirstThen l.a.value.table (standing cause.ParameterDependence (flat_map (dependence_in l.toks l.names l.bare l.all (separators l.list)) (take (l.item - 0) (numbers 0 (length l.list.commas + 1))))) l.initial.now l.now
