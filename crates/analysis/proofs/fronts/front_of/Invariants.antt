use Rattle.std.proofs.Common.{◌≡◌}
use Rattle.std.specs.Prelude.{IfSome}
use Rattle.c99_read.specs.Fronts.{BeginsWith}
use Rattle.analysis.proofs.fronts.front_of.Given as goal

-- the tokens begin with the longest front so far
abbrev pub invariant-fronts : goal.invariant-fronts
invariant-fronts l = IfSome l.longest (λ f. (f.now.standard ≡ l.standard) × BeginsWith l.toks f.now.reading)
