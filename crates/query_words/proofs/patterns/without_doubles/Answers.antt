use Rattle.std.proofs.Common.{sym, ap, ◌∙◌, List, ℕ, ◌++◌}
use Rattle.query_words.specs.Patterns.{matches}
use Rattle.query_words.proofs.PatternLemmas.{all_kept, kept_on, left_out}
use Rattle.query_words.proofs.patterns.without_doubles.Goals as goal
use Rattle.query_words.proofs.patterns.without_doubles.Goals.{then-not-is_doubled+in_ok-push, else-not-is_doubled}

pub loop-k-init : goal.loop-k-init
loop-k-init c = λ text. ap (λ (xs : List ℕ). matches (xs ++ c.args.pattern.now) text) c.new-found.ensures.items

pub loop-k-preserved : goal.loop-k-preserved
loop-k-preserved c = elim c.if-not-is_doubled.branch [
  | then-not-is_doubled+in_ok-push w ↦
      kept_on c.args.pattern.now c.loop-k.found.items _ c.loop-k.k c.loop-k-test.true (rw w.found-is w.in_ok-push.ensures.items) c.loop-k.invariant
  | else-not-is_doubled w ↦
      rw w.found-is (left_out c.args.pattern.now c.loop-k.found.items c.loop-k.k (sym c.is_doubled.ensures ∙ w.if-not-is_doubled.false) c.loop-k.invariant)
]

pub returns : goal.returns
returns c = all_kept c.args.pattern.now c.loop-k.found.items c.loop-k.k c.loop-k-test.false c.loop-k.invariant
