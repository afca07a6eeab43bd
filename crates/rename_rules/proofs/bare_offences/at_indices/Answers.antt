use Rattle.cs_base.specs.declared.causes.Cause.TheVariants as cause
use Rattle.rename_rules.specs.Respellings.{bare_places_by}
use Rattle.offences.proofs.FirstLemmas.{then_none, then_next_or, then_all}
use Rattle.rename_rules.proofs.bare_offences.at_indices.Goals as goal

pub loop-k-init : goal.loop-k-init
loop-k-init c = then_none c.args.a.now.value.table c.args.first

pub loop-k-preserved : goal.loop-k-preserved
loop-k-preserved c =
    then_next_or c.args.a.now.value.table cause.ShadowedTypedef (bare_places_by c.args.table.now c.args.toks.now c.args.typedefs.now) c.args.bare.now c.loop-k.k-index _ c.args.first c.loop-k.now c.at_index-now.result
    c.loop-k-test.true c.loop-k.invariant c.at_index-now.ensures

pub returns : goal.returns
returns c =
    then_all c.args.a.now.value.table cause.ShadowedTypedef (bare_places_by c.args.table.now c.args.toks.now c.args.typedefs.now) c.args.bare.now c.loop-k.k-index c.args.first c.loop-k.now
    c.loop-k-test.false c.loop-k.invariant
