use Rattle.std.proofs.Common.{arith}
use Rattle.cscout_run.proofs.SizeLemmas.{tokens-step}
use Rattle.cscout_run.proofs.generating.tokens.Goals as goal

pub overflow_cast-sum : goal.overflow_cast-sum
overflow_cast-sum c =
    let few = c.requires in
    let all = c.loop-k.invariant in
    let next = tokens-step c.args.a.now.value.units c.loop-k.k c.in_ok-one.one c.text.result.now c.toks.result.now c.in_ok-one.ensures c.text.ensures c.toks.ensures in
    omega arith

pub overflow_add-sum : goal.overflow_add-sum
overflow_add-sum c =
    let few = c.requires in
    let all = c.loop-k.invariant in
    let next = tokens-step c.args.a.now.value.units c.loop-k.k c.in_ok-one.one c.text.result.now c.toks.result.now c.in_ok-one.ensures c.text.ensures c.toks.ensures in
    omega arith

pub loop-k-preserved : goal.loop-k-preserved
loop-k-preserved c =
    let all = c.loop-k.invariant in
    let next = tokens-step c.args.a.now.value.units c.loop-k.k c.in_ok-one.one c.text.result.now c.toks.result.now c.in_ok-one.ensures c.text.ensures c.toks.ensures in
    omega arith
