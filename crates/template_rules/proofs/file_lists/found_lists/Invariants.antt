use Rattle.std.proofs.Common.{◌≡◌, take}
use Rattle.std.specs.List.{flat_map}
use Rattle.template_rules.specs.Units.{found_of}
use Rattle.template_rules.proofs.file_lists.found_lists.Given as goal

abbrev pub invariant-loop-unit : goal.invariant-loop-unit
invariant-loop-unit l = l.out.items ≡ flat_map found_of (take l.unit-index l.units)
