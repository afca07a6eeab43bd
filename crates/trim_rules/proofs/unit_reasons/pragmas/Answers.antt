use Rattle.std.proofs.Common.{◌+◌, ◌∙◌, ap, take, arith}
use Rattle.std.proofs.lemmas.List.{take_more, take_all}
use Rattle.trim_rules.specs.Held.{pragmas_of}
use Rattle.trim_rules.proofs.HeldLemmas.{pragmas-next}
use Rattle.trim_rules.proofs.unit_reasons.pragmas.Goals as goal

pub loop-one-preserved : goal.loop-one-preserved
loop-one-preserved c =
    let reached = c.args.reached.now in
    pragmas-next c.args.a.now.value.table (take c.loop-one.one-index reached) (take (c.loop-one.one-index + 1) reached) _ c.loop-one.counts.items
    c.push_pragma.new.counts.items (take_more reached c.loop-one.one-index _ (omega (arith, c.loop-one-test.true))) c.loop-one.invariant c.in_ok-push_pragma.ensures

pub returns : goal.returns
returns c =
    c.loop-one.invariant ∙ ap (pragmas_of c.args.a.now.value.table) (take_all c.loop-one.one-index c.args.reached.now (omega (arith, c.loop-one-test.false)))
