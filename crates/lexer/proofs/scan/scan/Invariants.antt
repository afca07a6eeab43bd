use Rattle.std.proofs.Common.{length}
use Rattle.lexer.specs.Lone.{IsLone}
use Rattle.lexer.specs.Walk.{spelled}
use Rattle.lexer.proofs.ScanLemmas.{Walked}
use Rattle.lexer.proofs.scan.scan.Given as goal

abbrev pub invariant-loop-here : goal.invariant-loop-here
invariant-loop-here l =
    (Walked l.file l.bytes l.toks.items l.firsts.items l.line l.at l.gap l.front l.rest)
    × IsLone l.lone (spelled l.rest)

abbrev pub decreases-loop-here : goal.decreases-loop-here
decreases-loop-here l = length l.rest
