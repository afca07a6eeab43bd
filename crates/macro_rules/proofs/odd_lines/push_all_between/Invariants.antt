use Rattle.std.proofs.Common.{◌≡◌, ◌++◌, take}
use Rattle.std.specs.List.{flat_map}
use Rattle.macro_rules.specs.FileOffences.{odd_between}
use Rattle.macro_rules.proofs.odd_lines.push_all_between.Given as goal

abbrev pub invariant-loop-p : goal.invariant-loop-p
invariant-loop-p l = l.out.items ≡ l.initial.out.items ++ flat_map (odd_between l.file.bytes l.from l.to) (take l.p-index l.odds)
