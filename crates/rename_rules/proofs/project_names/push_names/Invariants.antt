use Rattle.std.proofs.Common.{◌++◌, take}
use Rattle.std.specs.List.{flat_map}
use Rattle.rename_rules.specs.Undeclared.{declared_by, HaveNames}
use Rattle.rename_rules.proofs.project_names.push_names.Given as goal

abbrev pub invariant-loop-name : goal.invariant-loop-name
invariant-loop-name l =
    HaveNames l.names.items (l.initial.names.items ++ flat_map (declared_by l.class.members l.project l.bound.names l.toks) (take l.name-index l.all))
