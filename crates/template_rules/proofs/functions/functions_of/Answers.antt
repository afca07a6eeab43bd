use Rattle.template_rules.specs.Functions.{is_named}
use Rattle.template_rules.proofs.FunctionLemmas.{names_next, names_all}
use Rattle.template_rules.proofs.functions.functions_of.Goals as goal

pub loop-name-preserved : goal.loop-name-preserved
loop-name-preserved c =
    names_next (is_named c.args.class.now.members c.args.toks.now) c.args.names.now c.loop-name.name-index _ c.loop-name.out.items c.push.new.out.items
    c.loop-name-test.true c.loop-name.invariant c.in_ok-push.ensures

pub returns : goal.returns
returns c =
    rw c.new.ensures (names_all (is_named c.args.class.now.members c.args.toks.now) c.args.names.now c.loop-name.name-index c.loop-name.out.items c.loop-name-test.false c.loop-name.invariant)
