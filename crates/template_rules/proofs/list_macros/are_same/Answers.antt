use Rattle.std.proofs.Common.{◌<◌, length, sym, ◌∙◌, arith}
use Rattle.template_rules.proofs.MarkLemmas.{same_lengths, same_at, same_more, same_all}
use Rattle.template_rules.proofs.list_macros.are_same.Goals as goal

pub returns-then-indices-other_indices : goal.returns-then-indices-other_indices
returns-then-indices-other_indices c =
    sym (same_lengths c.args.toks.now c.args.others.now c.args.indices.now c.args.other_indices.now c.if-indices-other_indices.true)

pub returns-then-not-is_same : goal.returns-then-not-is_same
returns-then-not-is_same c =
    let lt : c.loop-k.k < length c.args.other_indices.now = omega (arith, c.loop-k-test.true, c.if-indices-other_indices.false) in
    sym (same_at c.args.toks.now c.args.others.now c.args.indices.now c.args.other_indices.now c.loop-k.k 0 0 c.loop-k-test.true lt
    (rw (← c.origin_of.ensures, ← c.origin_of-in-loop-k.ensures) (sym c.is_same.ensures ∙ c.if-not-is_same.true)))

pub loop-k-preserved : goal.loop-k-preserved
loop-k-preserved c =
    let lt : c.loop-k.k < length c.args.other_indices.now = omega (arith, c.loop-k-test.true, c.if-indices-other_indices.false) in
    same_more c.args.toks.now c.args.others.now c.args.indices.now c.args.other_indices.now c.loop-k.k 0 0 c.loop-k-test.true lt
    (rw (← c.origin_of.ensures, ← c.origin_of-in-loop-k.ensures) (sym c.is_same.ensures ∙ c.if-not-is_same.false)) c.loop-k.invariant

pub returns : goal.returns
returns c =
    sym (same_all c.args.toks.now c.args.others.now c.args.indices.now c.args.other_indices.now c.loop-k.k c.loop-k-test.false
    (omega (arith, c.loop-k-test.false, c.if-indices-other_indices.false)) c.loop-k.invariant)
