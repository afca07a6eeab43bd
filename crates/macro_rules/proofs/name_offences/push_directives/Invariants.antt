use Rattle.std.proofs.Common.{◌≡◌, ◌++◌, take}
use Rattle.std.specs.List.{flat_map}
use Rattle.macro_rules.specs.FileOffences.{directive_offences}
use Rattle.macro_rules.proofs.name_offences.push_directives.Given as goal

abbrev pub invariant-loop-item : goal.invariant-loop-item
invariant-loop-item l = l.out.items ≡ l.initial.out.items ++ flat_map (directive_offences l.calls l.toks) (take l.item-index l.items)
