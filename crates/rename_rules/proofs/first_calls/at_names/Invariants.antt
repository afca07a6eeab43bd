use Rattle.std.proofs.Common.{take}
use Rattle.std.specs.List.{flat_map}
use Rattle.cs_base.specs.declared.causes.Cause.TheVariants as cause
use Rattle.offences.specs.First.{standing, FirstThen}
use Rattle.rename_rules.specs.Undeclared.{call_place, is_declared}
use Rattle.rename_rules.proofs.first_calls.at_names.Given as goal

abbrev pub invariant-loop-name : goal.invariant-loop-name
invariant-loop-name l =
    FirstThen l.a.value.table (standing cause.Undeclared (flat_map (call_place l.class.members (is_declared l.names l.project) l.toks) (take l.name-index l.all))) l.initial.now l.now
