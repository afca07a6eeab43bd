use Rattle.std.proofs.Common.{◌≡◌, ◌++◌, take}
use Rattle.std.specs.List.{flat_map}
use Rattle.macro_rules.specs.FileOffences.{bare_offences}
use Rattle.macro_rules.proofs.name_offences.push_bares.Given as goal

abbrev pub invariant-loop-item : goal.invariant-loop-item
invariant-loop-item l = l.out.items ≡ l.initial.out.items ++ flat_map (bare_offences l.calls l.toks) (take l.item-index l.items)
