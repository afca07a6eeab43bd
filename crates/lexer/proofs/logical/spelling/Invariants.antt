use Rattle.std.proofs.Common.{◌≡◌, ◌++◌, ◌-◌, take}
use Rattle.lexer.specs.Walk.{spelled}
use Rattle.lexer.proofs.logical.spelling.Given as goal

abbrev pub invariant-loop-k : goal.invariant-loop-k
invariant-loop-k l = l.text.items ++ take (l.n - l.k) (spelled l.rest) ≡ take l.n (spelled l.bytes)
