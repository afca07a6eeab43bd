use Rattle.std.proofs.Common.{◌≡◌, ◌++◌, take}
use Rattle.std.specs.List.{flat_map}
use Rattle.macro_rules.specs.FileOffences.{read_only_list}
use Rattle.macro_rules.proofs.list_offences.push_all_read_only.Given as goal

abbrev pub invariant-loop-list : goal.invariant-loop-list
invariant-loop-list l = l.out.items ≡ l.initial.out.items ++ flat_map (read_only_list l.a.value l.file) (take l.list-index l.lists)
