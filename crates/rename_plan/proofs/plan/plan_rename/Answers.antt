use Rattle.std.proofs.Common.{sym, subst}
use Rattle.ws_file.specs.Workspace.{WorkspaceValue, IsWorkspace}
use Rattle.rename_plan.proofs.MeaningLemmas.{plan_meaning}
use Rattle.rename_plan.proofs.plan.plan_rename.Goals as goal

pub returns-clause-meaning : goal.returns-clause-meaning
returns-clause-meaning c =
    plan_meaning c.args.a.now c.args.path.now c.args.line c.args.column c.args.name.now c.args.strings c.plan_named.result
    (subst (λ (w : WorkspaceValue). IsWorkspace w) c.workspace-ws.ensures c.units-units.ensures.sound) c.classes-classes.ensures.own c.plan_named.ensures
