use Rattle.include_tree.specs.Fronts.{AreFronts}
use Rattle.include_tree.proofs.FrontLemmas.{fronts-later, on-any}
use Rattle.include_tree.proofs.main_walk.walk_own.Goals as goal

pub returns-in-Some-clause-fronts : goal.returns-in-Some-clause-fronts
returns-in-Some-clause-fronts g c =
    on-any c.walk_file.result (AreFronts c.walk_file.new.cache.table c.args.fronts.now.all.items)
    (fronts-later c.args.cache.now.table c.walk_file.new.cache.table c.args.fronts.now.all.items c.walk_file.ensures.reads.grown c.requires.fronts)
