use Rattle.std.proofs.Common.{◌-◌, true, length, arith}
use Rattle.std.proofs.lemmas.List.{length-set}
use Rattle.query_words.proofs.PatternLemmas.{none_begins, none_more}
use Rattle.query_words.proofs.patterns.mark_none.Goals as goal

pub loop-k-init : goal.loop-k-init
loop-k-init c = none_begins c.args.pattern.now c.args.places.now c.requires

pub loop-k-preserved : goal.loop-k-preserved
loop-k-preserved c =
    let room = length-set c.args.places.now (length c.args.pattern.now) true in
    none_more c.args.pattern.now c.loop-k.places (c.loop-k.k - 1) _ (omega arith) (omega arith) c.without_bytes.ensures
    (λ j low high. c.loop-k.invariant j (omega arith) high)
