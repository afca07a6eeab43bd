use Rattle.std.proofs.Common.{take}
use Rattle.offences.specs.First.{IsFirst}
use Rattle.macro_rules.proofs.first.first_of.Given as goal

abbrev pub invariant-loop-offence : goal.invariant-loop-offence
invariant-loop-offence l = IsFirst l.a.value.table (take l.offence-index l.offences) l.first
