use Rattle.rename_rules.specs.Undeclared.{held_name}
use Rattle.rename_rules.proofs.CallLemmas.{have_past}
use Rattle.rename_rules.proofs.project_names.push_at.Goals as goal

pub returns-in-None : goal.returns-in-None
returns-in-None c =
    let past = c.in-None.ensures.lookup in
    have_past (held_name c.args.class.now.members c.args.project.now) c.args.toks.now c.args.k c.args.names.now.items past.3
