use Rattle.std.proofs.Common.{◌+◌, ◌-◌, ◌≤◌, take}
use Rattle.std.specs.List.{flat_map, remove}
use Rattle.cs_base.specs.declared.causes.Cause.TheVariants as cause
use Rattle.list_cuts.specs.Cuts.{numbers}
use Rattle.offences.specs.First.{standing, FirstThen}
use Rattle.template_rules.specs.ScopeOffences.{dependence_place}
use Rattle.template_rules.proofs.dependences.dependences_between.Given as goal

abbrev pub invariant-loop-k : goal.invariant-loop-k
invariant-loop-k l =
    (l.begin + 1 ≤ l.k)
    × FirstThen l.a.value.table (standing cause.ParameterDependence (flat_map (dependence_place l.toks l.names l.bare (remove l.all l.item)) (take (l.k - (l.begin + 1)) (numbers (l.begin + 1) (l.close - (l.begin + 1)))))) l.initial.now l.now
