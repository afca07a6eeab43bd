use Rattle.std.proofs.Common.{◌-◌, length, arith}
use Rattle.line_shape.proofs.ItemsLemmas.{item_of-between}
use Rattle.line_shape.proofs.walk.item.Goals as goal

pub returns : goal.returns
returns c =
    let some = c.requires.some in
    let item = item_of-between c.in_ok-kind.kind c.args.from c.args.toks.now (length c.args.toks.now - 1) c.index-toks-0.result c.index-toks-toks.result (omega arith) c.index-toks-0.is c.index-toks-toks.is in
    rw (← c.in_ok-kind.ensures, c.at.ensures, c.line.ensures, c.line-2.ensures) item
