use Rattle.std.proofs.Common.{take}
use Rattle.std.specs.List.{flat_map}
use Rattle.rename_rules.specs.GnuTexts.{AddTexts, symbol_in}
use Rattle.rename_rules.proofs.symbols.push_names.Given as goal

abbrev pub invariant-loop-name : goal.invariant-loop-name
invariant-loop-name l = AddTexts l.initial.olds.items (flat_map (symbol_in l.class.members l.bound.names l.toks) (take l.name-index l.names)) l.olds.items
