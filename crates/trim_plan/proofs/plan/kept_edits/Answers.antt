use Rattle.std.proofs.Common.{subst}
use Rattle.analysis.specs.Below.ws_file.Workspace.{WorkspaceValue, IsWorkspace}
use Rattle.trim_plan.proofs.OverLemmas.{trims_over}
use Rattle.trim_plan.proofs.plan.kept_edits.Goals as goal

pub returns-clause-meaning : goal.returns-clause-meaning
returns-clause-meaning c =
    trims_over c.made_files_are_pseudo.ensures c.tables_are_found.ensures c.paths_stand_once.ensures c.args.lines.now c.args.a.now.value c.in_ok-b.b.value c.in_ok-made.made
    (subst (λ (w : WorkspaceValue). IsWorkspace w) c.workspace-ws.ensures c.units-units.ensures.sound) c.in_ok-b.ensures (c.in_ok-same.ensures c.if-not-same.false)
    c.in_ok-made.ensures
