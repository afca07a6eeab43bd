use Rattle.rename_rules.specs.GnuTexts.{symbol_in}
use Rattle.rename_rules.proofs.GnuLemmas.{names_next_or, names_all}
use Rattle.rename_rules.proofs.symbols.push_names.Goals as goal

pub loop-name-preserved : goal.loop-name-preserved
loop-name-preserved c =
    names_next_or (symbol_in c.args.class.now.members c.args.bound.now.names c.args.toks.now) c.args.names.now c.loop-name.name-index _ c.args.olds.now.items c.loop-name.olds.items
    c.push_name.new.olds.items c.loop-name-test.true c.loop-name.invariant c.in_ok-push_name.ensures

pub returns : goal.returns
returns c =
    names_all (symbol_in c.args.class.now.members c.args.bound.now.names c.args.toks.now) c.args.names.now c.loop-name.name-index c.args.olds.now.items c.loop-name.olds.items
    c.loop-name-test.false c.loop-name.invariant
