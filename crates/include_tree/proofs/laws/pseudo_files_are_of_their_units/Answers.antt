use Rattle.include_tree.proofs.PseudoLemmas.{others_stay}
use Rattle.include_tree.proofs.laws.pseudo_files_are_of_their_units.Goals as goal

pub returns : goal.returns
returns c = record { others = others_stay }
