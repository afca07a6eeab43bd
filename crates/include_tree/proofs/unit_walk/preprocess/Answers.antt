use Rattle.include_tree.proofs.unit_walk.preprocess.Goals as goal

pub preprocess_on-requires : goal.preprocess_on-requires
preprocess_on-requires g c = record { fronts = c.new-fronts.ensures c.args.cache.now.table }
