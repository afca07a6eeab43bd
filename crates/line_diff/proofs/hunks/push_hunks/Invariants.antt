use Rattle.std.proofs.Common.{◌≡◌, ◌-◌, ◌++◌}
use Rattle.line_diff.proofs.PushLemmas.{text_from}
use Rattle.line_diff.proofs.hunks.push_hunks.Given as goal

abbrev pub invariant-loop-k : goal.invariant-loop-k
invariant-loop-k l = l.text.items ++ text_from l.olds l.news l.k ≡ l.initial.text.items ++ text_from l.olds l.news 0

abbrev pub decreases-loop-k : goal.decreases-loop-k
decreases-loop-k l = l.count - l.k
