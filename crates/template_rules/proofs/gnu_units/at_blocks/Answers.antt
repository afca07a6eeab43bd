use Rattle.std.proofs.Common.{◌++◌}
use Rattle.cs_base.specs.declared.causes.Cause.TheVariants as cause
use Rattle.template_rules.specs.GnuOffences.{block_place}
use Rattle.offences.proofs.FirstLemmas.{then_none, then_next_or, then_all}
use Rattle.template_rules.proofs.gnu_units.at_blocks.Goals as goal

pub loop-k-init : goal.loop-k-init
loop-k-init c = then_none c.args.a.now.value.table c.args.first

pub loop-k-preserved : goal.loop-k-preserved
loop-k-preserved c =
    let unit = c.args.unit.now in
    then_next_or c.args.a.now.value.table cause.DeclarationInArgument
    (block_place unit.class.members unit.text.now.toks unit.bound.now.names (unit.bound.now.declarators ++ unit.bound.now.calls)) c.args.begins.now
    c.loop-k.k-index _ c.args.first c.loop-k.now c.at_block-now.result c.loop-k-test.true c.loop-k.invariant c.at_block-now.ensures

pub returns : goal.returns
returns c =
    let unit = c.args.unit.now in
    then_all c.args.a.now.value.table cause.DeclarationInArgument
    (block_place unit.class.members unit.text.now.toks unit.bound.now.names (unit.bound.now.declarators ++ unit.bound.now.calls)) c.args.begins.now
    c.loop-k.k-index c.args.first c.loop-k.now c.loop-k-test.false c.loop-k.invariant
