use Rattle.std.proofs.Common.{get_or, arith}
use Rattle.std.proofs.lemmas.Option.{slice_get-get_or}
use Rattle.eclass_map.proofs.ResizingFacts.{near_more, near_all}
use Rattle.eclass_map.proofs.TokenFacts.{no_added}
use Rattle.eclass_map.proofs.class_table.resizing.are_near.Goals as goal

pub loop-token-preserved : goal.loop-token-preserved
loop-token-preserved c =
    let k = c.loop-token.token-index in
    near_more c.args.tokens.now c.args.more k (get_or c.args.tokens.now k no_added) c.loop-token.invariant
    (slice_get-get_or c.args.tokens.now k no_added c.loop-token-test.true) c.if-not-is_near.ensures

pub returns : goal.returns
returns c = near_all c.args.tokens.now c.args.more c.loop-token.token-index c.loop-token-test.false c.loop-token.invariant
