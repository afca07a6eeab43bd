use Rattle.std.proofs.Common.{take}
use Rattle.std.specs.List.{flat_map}
use Rattle.offences.specs.First.{standing, FirstThen}
use Rattle.rename_rules.specs.Tokens.{start_of}
use Rattle.rename_rules.proofs.member_offences.in_token.Given as goal

abbrev pub invariant-loop-k : goal.invariant-loop-k
invariant-loop-k l =
    FirstThen l.a.value.table (standing l.cause (flat_map (start_of l.class.members) (take l.k l.tok.origins))) l.initial.now l.now
