use Rattle.std.proofs.Common.{◌≡◌, ◌++◌, take}
use Rattle.std.specs.List.{flat_map}
use Rattle.macro_rules.specs.Offences.{indirect_offences}
use Rattle.macro_rules.proofs.name_offences.push_all_indirect.Given as goal

abbrev pub invariant-loop-event : goal.invariant-loop-event
invariant-loop-event l = l.out.items ≡ l.initial.out.items ++ flat_map (indirect_offences l.macros) (take l.event-index l.events)
