use Rattle.edited_unit_laws.proofs.PathLemmas.{paths_stay, lists_move_paths}
use Rattle.edited_unit_laws.proofs.reordered.paths_stand.Goals as goal

pub returns : goal.returns
returns c = record {
  lists = lists_move_paths c.moved_files_are_arranged.ensures c.numbers_do_not_matter.ensures c.texts_stand.ensures.texts c.texts_stand.ensures.lists;
  stay = paths_stay c.files_stand.ensures.stay;
}
