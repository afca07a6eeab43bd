use Rattle.std.proofs.Common.{◌≡◌, ◌++◌, take}
use Rattle.std.specs.List.{flat_map}
use Rattle.macro_rules.specs.FileOffences.{call_offences}
use Rattle.macro_rules.proofs.list_offences.push_calls.Given as goal

abbrev pub invariant-loop-list : goal.invariant-loop-list
invariant-loop-list l = l.out.items ≡ l.initial.out.items ++ flat_map (call_offences l.torn l.lines l.file) (take l.list-index l.lists)
