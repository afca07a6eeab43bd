use Rattle.std.proofs.Common.{◌≡◌, [], take}
use Rattle.std.specs.List.{flat_map}
use Rattle.template_rules.specs.FileLists.{marks_in, with_lists}
use Rattle.template_rules.proofs.file_lists.lists_in.Given as goal

abbrev pub invariant-loop-one : goal.invariant-loop-one
invariant-loop-one l = l.lists.items ≡ with_lists (flat_map (marks_in l.file) (take l.one-index l.found)) []
