use Rattle.std.proofs.Common.{inl, inr, refl, arith}
use Rattle.trim_plan.proofs.PlaceLemmas.{front-begin, front-next, front-all}
use Rattle.trim_plan.proofs.left.mark.Goals as goal

pub loop-k-init : goal.loop-k-init
loop-k-init c = record { marks = front-begin c.args.from c.args.from c.args.gone.now.items (omega arith); within = inr refl }

pub loop-k-preserved : goal.loop-k-preserved
loop-k-preserved c = record {
  marks =
      front-next c.args.from c.loop-k.k c.args.gone.now.items c.loop-k.gone.items c.set.new.marks.items (omega arith) c.set.ensures c.loop-k.invariant.marks;
  within = inl (omega (arith, c.loop-k-test.true));
}

pub returns : goal.returns
returns c =
    front-all c.args.from c.args.to c.loop-k.k c.args.gone.now.items c.loop-k.gone.items (omega (arith, c.loop-k-test.false)) c.loop-k.invariant.within
    c.loop-k.invariant.marks
