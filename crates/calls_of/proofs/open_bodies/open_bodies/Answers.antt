use Rattle.std.proofs.Common.{◌∙◌, take, sym, subst, arith}
use Rattle.std.proofs.lemmas.List.{take_more}
use Rattle.calls_of.specs.OpenBodies.{AreOpenIn}
use Rattle.calls_of.proofs.OpenLemmas.{open-more}
use Rattle.calls_of.proofs.open_bodies.open_bodies.Goals as goal

pub loop-body-preserved : goal.loop-body-preserved
loop-body-preserved c =
    let functions = c.args.functions.now in
    let i = c.loop-body.body-index in
    let table = c.mark_all.new.table.items in (
      c.mark_all.ensures.length ∙ c.loop-body.invariant.0,
      subst (AreOpenIn table) (sym (take_more functions i _ (omega (arith, c.loop-body-test.true))))
          (open-more c.loop-body.table.items table (take i functions) _ c.loop-body.invariant.1 c.mark_all.ensures.opened),
    )
