use Rattle.std.proofs.Common.{◌≡◌, ◌+◌, drop}
use Rattle.analysis.specs.Counts.{tokens_in}
use Rattle.cscout_run.proofs.generating.tokens.Given as goal

abbrev pub invariant-loop-k : goal.invariant-loop-k
invariant-loop-k l = l.sum + tokens_in (drop l.k l.a.value.units) ≡ tokens_in l.a.value.units
