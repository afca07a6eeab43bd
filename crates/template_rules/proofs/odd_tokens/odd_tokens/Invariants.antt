use Rattle.std.proofs.Common.{◌≡◌, ◌++◌, drop}
use Rattle.std.specs.List.{flat_map}
use Rattle.offences.specs.Tokens.{kept_tokens}
use Rattle.template_rules.specs.LineOffences.{odd_position, odd_positions}
use Rattle.template_rules.proofs.odd_tokens.odd_tokens.Given as goal

abbrev pub invariant-loop-number : goal.invariant-loop-number
invariant-loop-number l =
    l.out.items ++ flat_map odd_position (kept_tokens l.number (drop l.number l.a.value.table)) ≡ odd_positions l.a.value.table
