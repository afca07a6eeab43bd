use Rattle.template_meaning.proofs.Moving.{file_lists_move}
use Rattle.template_meaning.proofs.runs.file_lists_move.Goals as goal

pub returns : goal.returns
returns c =
    file_lists_move c.runs_have_cuts.ensures.cuts c.lists_stand_in_each.ensures c.workspace_tokens_are_of_runs.ensures c.units_have_lists.ensures.lists
    c.files_have_lists.ensures.lists c.files_have_lists.ensures.runs c.items_stand.ensures.items c.declarators_have_prototypes.ensures
