use Rattle.std.proofs.Common.{◌≡◌, ◌++◌, take}
use Rattle.std.specs.List.{flat_map}
use Rattle.macro_rules.specs.Offences.{origin_offences}
use Rattle.macro_rules.proofs.token_offences.push_token.Given as goal

abbrev pub invariant-loop-k : goal.invariant-loop-k
invariant-loop-k l = l.out.items ≡ l.initial.out.items ++ flat_map (origin_offences l.cause l.calls) (take l.k l.tok.origins)
