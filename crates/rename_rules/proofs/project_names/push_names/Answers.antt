use Rattle.rename_rules.specs.Undeclared.{declared_by}
use Rattle.rename_rules.proofs.CallLemmas.{have_all, have_next_or}
use Rattle.rename_rules.proofs.project_names.push_names.Goals as goal

pub loop-name-preserved : goal.loop-name-preserved
loop-name-preserved c =
    have_next_or (declared_by c.args.class.now.members c.args.project.now c.args.bound.now.names c.args.toks.now) c.args.all.now c.loop-name.name-index _ c.args.names.now.items c.loop-name.names.items
    c.push_name.new.names.items c.loop-name-test.true c.loop-name.invariant c.in_ok-push_name.ensures

pub returns : goal.returns
returns c =
    have_all (declared_by c.args.class.now.members c.args.project.now c.args.bound.now.names c.args.toks.now) c.args.all.now c.loop-name.name-index c.args.names.now.items c.loop-name.names.items
    c.loop-name-test.false c.loop-name.invariant
