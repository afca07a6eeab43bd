use Rattle.std.proofs.Common.{◌≡◌, ◌++◌}
use Rattle.analysis.specs.Below.lexer.Places.{origins_from}
use Rattle.offences.proofs.respelled_toks.push_origins.Given as goal

abbrev pub invariant-loop-k : goal.invariant-loop-k
invariant-loop-k l = l.origins.items ≡ l.initial.origins.items ++ origins_from l.from.file l.from.at l.k
