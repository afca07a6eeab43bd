use Rattle.std.proofs.Common.{sym, arith}
use Rattle.macro_body.proofs.NamePartLemmas.{alike-more}
use Rattle.macro_body.proofs.name_parts.are_alike.Goals as goal

pub loop-k-preserved : goal.loop-k-preserved
loop-k-preserved c = record {
  same = alike-more c.args.xs.now c.args.ys.now c.loop-k.k c.index-xs-k.result c.index-ys-k.result (omega arith) (omega arith) c.index-xs-k.is c.index-ys-k.is c.if-not-is_alike.ensures c.loop-k.invariant.same;
  end = c.loop-k.invariant.end;
}
