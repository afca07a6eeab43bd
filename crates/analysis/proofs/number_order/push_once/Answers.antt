use Rattle.std.proofs.Common.{refl}
use Rattle.analysis.proofs.NumberLemmas.{adds_once}
use Rattle.analysis.proofs.number_order.push_once.Goals as goal

pub returns : goal.returns
returns c =
    let behind = rw (c.deref-2.ensures.value, c.span.ensures) at (c.if-not-comes_behind.ensures refl) in
    adds_once c.args.numbers.now.items c.push.new.self.items c.args.tok c.requires behind c.in_ok-push.ensures.items
