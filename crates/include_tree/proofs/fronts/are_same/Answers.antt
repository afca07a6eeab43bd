use Rattle.std.proofs.Common.{◌<◌, ◌∙◌, rules, length, sym}
use Rattle.cs_base.proofs.FileMapLemmas.{bytes_eq-equal}
use Rattle.cs_base.proofs.ListLemmas.{read_at}
use Rattle.include_tree.proofs.FrontLemmas.{taken-more}
use Rattle.include_tree.proofs.fronts.are_same.Goals as goal

pub loop-k-preserved : goal.loop-k-preserved
loop-k-preserved c =
    let less : c.loop-k.k < length c.args.b.now = search rules in
    taken-more c.args.a.now c.args.b.now c.loop-k.k c.index-a-k.result c.index-b-k.result
    (read_at c.args.a.now c.loop-k.k c.index-a-k.result c.loop-k-test.true c.index-a-k.is) (read_at c.args.b.now c.loop-k.k c.index-b-k.result less c.index-b-k.is)
    c.loop-k.invariant (bytes_eq-equal c.index-a-k.result c.index-b-k.result (sym c.is_same.ensures ∙ c.if-is_same.true))
