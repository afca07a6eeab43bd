use Rattle.edited_unit_laws.proofs.ReorderedWorkspaceLemmas.{tables_are_one, workspaces_are}
use Rattle.edited_unit_laws.proofs.reordered.workspaces_are_reordered.Goals as goal

pub returns : goal.returns
returns c = record {
  all = workspaces_are c.files_stand.ensures.items c.files_stand.ensures.runs c.analyses_are_reordered.ensures.all;
  tables = tables_are_one;
}
