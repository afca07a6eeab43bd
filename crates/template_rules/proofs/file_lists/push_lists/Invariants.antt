use Rattle.std.proofs.Common.{◌≡◌, ◌++◌, take}
use Rattle.std.specs.List.{flat_map}
use Rattle.template_rules.specs.FileLists.{function_list}
use Rattle.template_rules.proofs.file_lists.push_lists.Given as goal

abbrev pub invariant-loop-list : goal.invariant-loop-list
invariant-loop-list l =
    l.out.items ≡ l.initial.out.items ++ flat_map (function_list l.unit.class.members l.unit.text.now.toks l.unit.bound.now.names) (take l.list-index l.all)
