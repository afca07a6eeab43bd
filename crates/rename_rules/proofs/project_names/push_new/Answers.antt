use Rattle.std.proofs.Common.{sym}
use Rattle.rename_rules.proofs.CallLemmas.{have_known}
use Rattle.rename_rules.proofs.project_names.push_new.Goals as goal

pub returns-then-is_declared : goal.returns-then-is_declared
returns-then-is_declared c = have_known c.args.names.now.items c.args.project.now c.args.text.now (rw c.deref.ensures.value at (sym c.if-is_declared.ensures))
