use Rattle.std.proofs.Common.{◌≡◌, ◌++◌, take}
use Rattle.std.specs.List.{flat_map}
use Rattle.template_rules.specs.FileLists.{characters_of}
use Rattle.template_rules.proofs.file_lists.push_characters.Given as goal

abbrev pub invariant-loop-k : goal.invariant-loop-k
invariant-loop-k l = l.out.items ≡ l.initial.out.items ++ flat_map (characters_of l.file l.toks) (take l.k-index l.indices)
