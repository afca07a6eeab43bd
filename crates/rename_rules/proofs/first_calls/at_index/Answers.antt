use Rattle.rename_rules.specs.Undeclared.{is_declared}
use Rattle.rename_rules.proofs.CallLemmas.{no_call}
use Rattle.rename_rules.proofs.first_calls.at_index.Goals as goal

pub returns-in-None : goal.returns-in-None
returns-in-None c =
    let past = c.in-None.ensures.lookup in
    no_call c.args.a.now.value.table c.args.class.now.members (is_declared c.args.names.now c.args.project.now) c.args.toks.now c.args.k c.args.first past.3
