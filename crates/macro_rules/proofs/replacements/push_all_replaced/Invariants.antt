use Rattle.std.proofs.Common.{◌≡◌, ◌++◌, take}
use Rattle.std.specs.List.{flat_map}
use Rattle.macro_rules.specs.Macros.{replaced_place}
use Rattle.macro_rules.proofs.replacements.push_all_replaced.Given as goal

abbrev pub invariant-loop-event : goal.invariant-loop-event
invariant-loop-event l = l.out ≡ l.initial.out ++ flat_map (replaced_place l.macros) (take l.event-index l.events)
