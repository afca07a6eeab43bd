use Rattle.std.proofs.Common.{◌≡◌, ◌++◌, take}
use Rattle.std.specs.List.{flat_map}
use Rattle.macro_rules.specs.Offences.{head_offences}
use Rattle.macro_rules.proofs.name_offences.push_heads.Given as goal

abbrev pub invariant-loop-head : goal.invariant-loop-head
invariant-loop-head l = l.out.items ≡ l.initial.out.items ++ flat_map (head_offences l.count) (take l.head-index l.heads)
