use Rattle.std.proofs.Common.{◌≡◌, ◌++◌, take}
use Rattle.std.specs.List.{flat_map}
use Rattle.macro_rules.specs.Macros.{defined_place}
use Rattle.macro_rules.proofs.replacements.push_all_defined.Given as goal

abbrev pub invariant-loop-event : goal.invariant-loop-event
invariant-loop-event l = l.out ≡ l.initial.out ++ flat_map (defined_place l.class.members) (take l.event-index l.events)
