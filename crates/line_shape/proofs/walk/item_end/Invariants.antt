use Rattle.std.proofs.Common.{◌≡◌, ℕ, ◌<◌, false}
use Rattle.line_shape.specs.Walk.{is_end}
use Rattle.line_shape.proofs.walk.item_end.Given as goal

abbrev pub invariant-loop-k : goal.invariant-loop-k
invariant-loop-k l = (k : ℕ) → l.from < k → k < l.k → is_end l.directive l.toks l.text.firsts k ≡ false
