use Rattle.calls_of.proofs.found.all_found.Goals as goal

pub add_units-requires : goal.add_units-requires
add_units-requires c = rw c.analysis-a.ensures c.requires.known
