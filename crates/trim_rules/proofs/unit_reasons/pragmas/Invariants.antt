use Rattle.std.proofs.Common.{◌≡◌, take}
use Rattle.trim_rules.specs.Held.{pragmas_of}
use Rattle.trim_rules.proofs.unit_reasons.pragmas.Given as goal

abbrev pub invariant-loop-one : goal.invariant-loop-one
invariant-loop-one l = l.counts.items ≡ pragmas_of l.a.value.table (take l.one-index l.reached)
