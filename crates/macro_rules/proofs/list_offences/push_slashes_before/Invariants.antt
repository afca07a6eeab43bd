use Rattle.std.proofs.Common.{◌≡◌, ◌++◌, take}
use Rattle.std.specs.List.{flat_map}
use Rattle.macro_rules.specs.FileOffences.{slash_before}
use Rattle.macro_rules.proofs.list_offences.push_slashes_before.Given as goal

abbrev pub invariant-loop-k : goal.invariant-loop-k
invariant-loop-k l = l.out.items ≡ l.initial.out.items ++ flat_map (slash_before l.toks) (take l.k-index l.marks)
