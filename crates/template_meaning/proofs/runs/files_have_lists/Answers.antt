use Rattle.template_meaning.proofs.FilesOf.{files_have_lists, lists_have_runs}
use Rattle.template_meaning.proofs.runs.files_have_lists.Goals as goal

pub returns : goal.returns
returns c = record {
  lists = files_have_lists c.runs_have_cuts.ensures.cuts c.lists_stand_in_each.ensures c.units_have_lists.ensures.lists c.workspace_tokens_are_of_runs.ensures;
  runs = lists_have_runs c.runs_have_cuts.ensures.cuts c.lists_stand_in_each.ensures c.units_have_lists.ensures.lists c.workspace_tokens_are_of_runs.ensures;
}
