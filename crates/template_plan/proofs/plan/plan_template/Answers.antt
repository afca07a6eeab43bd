use Rattle.std.proofs.Common.{subst}
use Rattle.analysis.specs.Below.ws_file.Workspace.{WorkspaceValue, IsWorkspace}
use Rattle.template_plan.proofs.MeaningLemmas.{plan_meaning}
use Rattle.template_plan.proofs.plan.plan_template.Goals as goal

pub returns-clause-meaning : goal.returns-clause-meaning
returns-clause-meaning c =
    plan_meaning c.orders_keep_meaning.ensures.plans c.args.a.now.value c.args.path.now c.args.line c.args.column c.args.order.now
    (subst (λ (w : WorkspaceValue). IsWorkspace w) c.workspace-ws.ensures c.units-units.ensures.sound) c.plan_named.result c.plan_named.ensures.answer c.plan_named.ensures.kept
