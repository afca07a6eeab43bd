use Rattle.std.proofs.Common.{take, ◌++◌}
use Rattle.std.specs.List.{flat_map}
use Rattle.cs_base.specs.declared.causes.Cause.TheVariants as cause
use Rattle.offences.specs.First.{standing, FirstThen}
use Rattle.template_rules.specs.GnuOffences.{block_place}
use Rattle.template_rules.proofs.gnu_units.at_blocks.Given as goal

abbrev pub invariant-loop-k : goal.invariant-loop-k
invariant-loop-k l =
    FirstThen l.a.value.table
    (standing cause.DeclarationInArgument
    (flat_map (block_place l.unit.class.members l.unit.text.now.toks l.unit.bound.now.names (l.unit.bound.now.declarators ++ l.unit.bound.now.calls)) (take l.k-index l.begins)))
    l.initial.now l.now
