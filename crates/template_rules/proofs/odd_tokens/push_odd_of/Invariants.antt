use Rattle.std.proofs.Common.{◌≡◌, ◌++◌, take}
use Rattle.std.specs.List.{flat_map}
use Rattle.template_rules.specs.LineOffences.{odd_position}
use Rattle.template_rules.proofs.odd_tokens.push_odd_of.Given as goal

abbrev pub invariant-loop-tok : goal.invariant-loop-tok
invariant-loop-tok l = l.out.items ≡ l.initial.out.items ++ flat_map odd_position (take l.tok-index l.toks)
