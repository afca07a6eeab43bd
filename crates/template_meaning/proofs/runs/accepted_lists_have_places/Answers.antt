use Rattle.template_meaning.proofs.Places.{accepted_lists_have_places}
use Rattle.template_meaning.proofs.runs.accepted_lists_have_places.Goals as goal

pub returns : goal.returns
returns c =
    accepted_lists_have_places c.files_stand.ensures.stay c.workspace_tokens_are_of_runs.ensures c.made_files_are_pseudo.ensures c.paths_stand_once.ensures
    c.read_lists_stand_in_order.ensures.parameters c.units_have_lists.ensures.lists c.files_have_lists.ensures.lists c.files_stand_in_order.ensures
    c.declarators_have_prototypes.ensures c.file_lists_move.ensures
