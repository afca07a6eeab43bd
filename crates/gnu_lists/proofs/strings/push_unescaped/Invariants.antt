use Rattle.std.proofs.Common.{◌≡◌, ◌++◌, drop}
use Rattle.gnu_lists.specs.Strings.{unescaped, unescaped_from}
use Rattle.gnu_lists.proofs.strings.push_unescaped.Given as goal

abbrev pub invariant-loop-k : goal.invariant-loop-k
invariant-loop-k l = l.out.items ++ unescaped_from l.escape (drop l.k l.text) ≡ l.initial.out.items ++ unescaped l.text
