use Rattle.offences.proofs.FirstLemmas.{then_none, then_next_or, then_all}
use Rattle.cs_base.specs.declared.causes.Cause.TheVariants as cause
use Rattle.rename_rules.specs.Offences.{read_only_place, read_only_places}
use Rattle.rename_rules.proofs.member_offences.read_only_in.Goals as goal

pub loop-part-init : goal.loop-part-init
loop-part-init c = then_none c.args.a.now.value.table c.args.first

pub loop-part-preserved : goal.loop-part-preserved
loop-part-preserved c =
    then_next_or c.args.a.now.value.table cause.ReadOnly (read_only_place c.args.a.now.value) c.args.members.now c.loop-part.part-index _ c.args.first c.loop-part.now c.read_only_at-now.result
    c.loop-part-test.true c.loop-part.invariant c.read_only_at-now.ensures

pub returns : goal.returns
unfolding read_only_places
returns c =
    then_all c.args.a.now.value.table cause.ReadOnly (read_only_place c.args.a.now.value) c.args.members.now c.loop-part.part-index c.args.first c.loop-part.now
    c.loop-part-test.false c.loop-part.invariant
