use Rattle.cs_base.specs.declared.causes.Cause.TheVariants as cause
use Rattle.offences.proofs.FirstLemmas.{then_none, then_next_or, then_all}
use Rattle.rename_rules.specs.LibraryPlaces.{linked_place}
use Rattle.rename_rules.proofs.library_places.at_names.Goals as goal

pub loop-name-init : goal.loop-name-init
loop-name-init c = then_none c.args.a.now.value.table c.args.first

pub loop-name-preserved : goal.loop-name-preserved
loop-name-preserved c =
    then_next_or c.args.a.now.value.table cause.Reserved
    (linked_place c.args.renaming.now.class.members c.args.renaming.now.name c.args.bound.now.names c.args.toks.now) c.args.names.now c.loop-name.name-index _ c.args.first
    c.loop-name.now _ c.loop-name-test.true c.loop-name.invariant c.in_ok-now.ensures

pub returns : goal.returns
returns c =
    then_all c.args.a.now.value.table cause.Reserved
    (linked_place c.args.renaming.now.class.members c.args.renaming.now.name c.args.bound.now.names c.args.toks.now) c.args.names.now c.loop-name.name-index c.args.first
    c.loop-name.now c.loop-name-test.false c.loop-name.invariant
