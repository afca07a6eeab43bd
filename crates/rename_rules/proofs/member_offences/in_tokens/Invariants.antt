use Rattle.std.proofs.Common.{take}
use Rattle.std.specs.List.{flat_map}
use Rattle.offences.specs.First.{standing, FirstThen}
use Rattle.rename_rules.specs.Tokens.{starts_in}
use Rattle.rename_rules.proofs.member_offences.in_tokens.Given as goal

abbrev pub invariant-loop-tok : goal.invariant-loop-tok
invariant-loop-tok l =
    FirstThen l.a.value.table (standing l.cause (flat_map (starts_in l.class.members) (take l.tok-index l.toks))) l.initial.now l.now
