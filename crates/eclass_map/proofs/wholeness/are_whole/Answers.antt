use Rattle.std.proofs.Common.{◌+◌, ◌<◌, ◌≤◌, length, arith}
use Rattle.eclass_map.proofs.WholenessFacts.{some_in, lies_within, whole_back, whole_on, whole_never}
use Rattle.eclass_map.proofs.wholeness.are_whole.Goals as goal

pub loop-at-smaller : goal.loop-at-smaller
loop-at-smaller c =
    let tokens = c.args.tokens.now in
    let os = c.args.tok.now.origins in
    let token = c.in-Some.token in
    let some : 0 < token.len = some_in tokens token c.requires.tokens c.in-Some.ensures.0 in
    let within : c.loop-at.at + token.len ≤ length os = lies_within os c.loop-at.at token some c.in-Some.ensures.1 in
    omega (arith, c.loop-at.invariant.counted, c.loop-at-test.true)

pub loop-at-preserved : goal.loop-at-preserved
loop-at-preserved c =
    let tokens = c.args.tokens.now in
    let os = c.args.tok.now.origins in
    let token = c.in-Some.token in
    let some : 0 < token.len = some_in tokens token c.requires.tokens c.in-Some.ensures.0 in
    let within : c.loop-at.at + token.len ≤ length os = lies_within os c.loop-at.at token some c.in-Some.ensures.1 in
    record {
      counted = c.loop-at.invariant.counted;
      within = omega (arith, c.loop-at.invariant.counted);
      back = λ w. c.loop-at.invariant.back (whole_back tokens os c.loop-at.at token c.in-Some.ensures.0 c.in-Some.ensures.1 w);
      on = λ w. whole_on tokens os c.loop-at.at token c.requires.tokens c.in-Some.ensures.0 c.in-Some.ensures.1 (c.loop-at.invariant.on w);
    }

pub returns-in-None : goal.returns-in-None
returns-in-None c = λ w.
    whole_never c.args.tokens.now c.args.tok.now.origins c.loop-at.at (omega (arith, c.loop-at.invariant.counted, c.loop-at-test.true)) c.in-None.ensures (c.loop-at.invariant.on w)
