use Rattle.std.proofs.Common.{subst}
use Rattle.analysis.specs.Analysed.{Analysed}
use Rattle.analysis.specs.Below.ws_file.Workspace.{WorkspaceValue, IsWorkspace}
use Rattle.template_meaning.specs.Compared.{IsSecond}
use Rattle.template_meaning.proofs.KeptOrders.{keeps_order}
use Rattle.template_plan.proofs.plan.is_compared.Goals as goal

pub returns : goal.returns
returns c = λ passed.
    let class = c.args.functions.now in
    let a = class.analysis.value in
    let is : IsWorkspace c.analysis-a.result.now.value.workspace = subst (λ (w : WorkspaceValue). IsWorkspace w) c.workspace-ws.ensures c.units-units.ensures.sound in
    keeps_order c.made_files_are_pseudo.ensures c.tables_are_found.ensures c.paths_stand_once.ensures a c.in_ok-b.b.value class.members c.args.order.now c.args.edits.now
    (subst (λ (x : Analysed). IsWorkspace x.value.workspace) c.analysis-a.ensures is) c.requires.order c.requires.edits (c.in_ok-held.ensures c.if-not-held.false)
    (subst (λ (x : Analysed). IsSecond c.args.edits.now x.value c.in_ok-b.b.value) c.analysis-a.ensures c.in_ok-b.ensures)
    (c.in_ok-same.ensures passed)
