use Rattle.std.proofs.Common.{◌≡◌, ◌++◌, take}
use Rattle.std.specs.List.{flat_map}
use Rattle.macro_rules.specs.Macros.{called_place}
use Rattle.macro_rules.proofs.replacements.push_all_called.Given as goal

abbrev pub invariant-loop-event : goal.invariant-loop-event
invariant-loop-event l = l.out ≡ l.initial.out ++ flat_map (called_place l.macros) (take l.event-index l.events)
