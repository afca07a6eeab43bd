use Rattle.std.proofs.Common.{◌≡◌, ◌++◌, take}
use Rattle.std.specs.List.{flat_map}
use Rattle.macro_rules.specs.FileOffences.{directive_token}
use Rattle.macro_rules.proofs.name_offences.push_directive_tokens.Given as goal

abbrev pub invariant-loop-tok : goal.invariant-loop-tok
invariant-loop-tok l = l.out.items ≡ l.initial.out.items ++ flat_map (directive_token l.calls) (take l.tok-index l.toks)
